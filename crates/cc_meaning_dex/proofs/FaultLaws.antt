-- What it means that a fault is the first, and that there is none.
use Rattle.std.proofs.Common.{◌≡◌, ◌⊎◌, inl, inr, ℕ, zero, suc, ◌<◌, Option, Some, None, refl, subst, arith}
use Rattle.std.proofs.lemmas.Bool.{cases_lt}
use Rattle.std.specs.Option.{option_or}
use Rattle.cc_meaning.specs.declared.fault.DexFault.{DexFault}
use Rattle.cc_meaning_dex.specs.Faults.{first_below}
use Rattle.cc_meaning_dex.specs.TableLaws.{IsFirstOf, FirstFaults}

pub or_none : (a b : Option DexFault) → option_or a b ≡ None → (a ≡ None) × (b ≡ None)
or_none None b e = (refl, e)
or_none (Some fault) b e = absurd (cc)

pub none_or : (a b : Option DexFault) → a ≡ None → b ≡ None → option_or a b ≡ None
none_or None b first second = second
none_or (Some fault) b first second = absurd (cc)

-- the fault of the places below is the first, or else that of the last place
or_some : (a b : Option DexFault) (fault : DexFault) → option_or a b ≡ Some fault → (a ≡ Some fault) ⊎ ((a ≡ None) × (b ≡ Some fault))
or_some None b fault e = inr (refl, e)
or_some (Some other) b fault e = inl e

some_or : (a b : Option DexFault) (fault : DexFault) → a ≡ Some fault → option_or a b ≡ Some fault
some_or a b fault e = rw e refl

pub none_below : (at : ℕ → Option DexFault) (n : ℕ) → first_below at n ≡ None → (place : ℕ) → place < n → at place ≡ None
unfolding first_below
none_below at zero none place below = absurd (omega arith)
none_below at (suc n) none place below =
    let both = or_none (first_below at n) (at n) none in
    none_or_last at n place (none_below at n both.0) both.1 below
  where
    none_or_last : (at : ℕ → Option DexFault) (n place : ℕ) → ((place : ℕ) → place < n → at place ≡ None) → at n ≡ None → place < suc n → at place ≡ None
    none_or_last at n place before last below =
        elim (cases_lt place n) [ inl less ↦ before place less | inr more ↦ (let same : place ≡ n = omega arith in rw same last) ]

pub below_none : (at : ℕ → Option DexFault) (n : ℕ) → ((place : ℕ) → place < n → at place ≡ None) → first_below at n ≡ None
unfolding first_below
below_none at zero none = refl
below_none at (suc n) none = none_or (first_below at n) (at n) (below_none at n (λ place below. none place (omega arith))) (none n (omega arith))

first_is : (at : ℕ → Option DexFault) (n : ℕ) (fault : DexFault) → first_below at n ≡ Some fault → IsFirstOf at n fault
unfolding first_below
first_is at zero fault e = absurd (cc)
first_is at (suc n) fault e =
    elim (or_some (first_below at n) (at n) fault e) [
      | inl before ↦ (let first = first_is at n fault before in record { place = first.place; within = omega (arith, first.within); here = first.here; before = first.before })
      | inr last ↦ record { place = n; within = omega arith; here = last.1; before = none_below at n last.0 }
    ]

is_first : (at : ℕ → Option DexFault) (n : ℕ) (fault : DexFault) → IsFirstOf at n fault → first_below at n ≡ Some fault
unfolding first_below
is_first at zero fault first = absurd (omega (arith, first.within))
is_first at (suc n) fault first =
    elim (cases_lt first.place n) [
      | inl less ↦ some_or (first_below at n) (at n) fault (is_first at n fault (record { place = first.place; within = less; here = first.here; before = first.before }))
      | inr more ↦ (
          let same : first.place ≡ n = omega (arith, first.within, more) in
          let none = below_none at n (λ k below. first.before k (omega (arith, below, same))) in
          let here = subst (λ k. at k ≡ Some fault) same first.here in
          rw none here)
    ]

pub first_faults : FirstFaults
first_faults = record {
  some = λ at n fault. (first_is at n fault, is_first at n fault);
  none = λ at n. (none_below at n, below_none at n);
}
