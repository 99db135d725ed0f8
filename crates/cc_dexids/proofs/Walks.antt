-- Rows one after the other, and the first of them that has a fault.
use Rattle.std.proofs.Common.{◌≡◌, ◌⊎◌, inl, inr, ℕ, zero, suc, ◌+◌, ◌-◌, ◌<◌, List, [], ◌∷◌, ◌++◌, length, slice_get, Option, Some, None, refl, sym, subst, ◌∙◌, add-one, length-append, arith}
use Rattle.cc_meaning.specs.declared.fault.DexFault.{DexFault}
use Rattle.cc_meaning_dex.specs.Faults.{first_below}
use Rattle.cc_meaning_dex.specs.Ids.{EachSpelled}

-- ---- what each place spells

pub each_none : {A : Type 0} (spelled : ℕ → A → Type 0) → EachSpelled [] 0 spelled
each_none spelled = record { all = refl; each = λ place item e. absurd (cc) }

last_or_before : {A : Type 0} (xs : List A) (x y : A) (k : ℕ) → slice_get (xs ++ x ∷ []) k ≡ Some y → (slice_get xs k ≡ Some y) ⊎ ((k ≡ length xs) × (x ≡ y))
last_or_before [] x y zero e = inr (refl, cc)
last_or_before [] x y (suc k) e = absurd (cc)
last_or_before (z ∷ zs) x y zero e = inl e
last_or_before (z ∷ zs) x y (suc k) e =
    elim (last_or_before zs x y k e) [ inl before ↦ inl before | inr last ↦ inr (omega (arith, last.0), last.1) ]

pub each_more : {A : Type 0} (items : List A) (n : ℕ) (item : A) (spelled : ℕ → A → Type 0) → EachSpelled items n spelled → spelled n item → EachSpelled (items ++ item ∷ []) (n + 1) spelled
each_more items n item spelled before more = record {
  all = omega (arith, before.all, length-append items (item ∷ []));
  each = λ place found e. elim (last_or_before items item found place e) [
    | inl b ↦ before.each place found b
    | inr last ↦ subst (λ x. spelled place x) last.1 (subst (λ p. spelled p item) (sym (last.0 ∙ before.all)) more)
  ];
}

-- ---- the first fault

pub first_more : (at : ℕ → Option DexFault) (n : ℕ) → first_below at n ≡ None → first_below at (n + 1) ≡ at n
unfolding first_below
first_more at n none = rw (add-one n, none) refl

later : (at : ℕ → Option DexFault) (n k : ℕ) (fault : DexFault) → first_below at n ≡ Some fault → first_below at (k + n) ≡ Some fault
unfolding first_below
later at n zero fault e = let same : 0 + n ≡ n = omega arith in rw same e
later at n (suc k) fault e = let same : suc k + n ≡ suc (k + n) = omega arith in rw (same, later at n k fault e) refl

pub first_here : (at : ℕ → Option DexFault) (n m : ℕ) (fault : DexFault) → first_below at n ≡ None → n < m → at n ≡ Some fault → first_below at m ≡ Some fault
first_here at n m fault none below here =
    let same : (m - (n + 1)) + (n + 1) ≡ m = omega arith in
    subst (λ k. first_below at k ≡ Some fault) same (later at (n + 1) (m - (n + 1)) fault (first_more at n none ∙ here))

pub first_none : (at : ℕ → Option DexFault) → first_below at 0 ≡ None
unfolding first_below
first_none at = refl

pub same_count : {A : Type 0} (at : ℕ → Option DexFault) (spelled : ℕ → A → Type 0) (items : List A) (n m : ℕ) → n ≡ m →
    (first_below at n ≡ None) × EachSpelled items n spelled → (first_below at m ≡ None) × EachSpelled items m spelled
same_count at spelled items n m same so_far = subst (λ k. (first_below at k ≡ None) × EachSpelled items k spelled) same so_far
