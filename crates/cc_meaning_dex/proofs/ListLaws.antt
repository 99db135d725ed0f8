-- That the listed types are those that are spelled.
use Rattle.std.proofs.Common.{◌≡◌, inl, inr, ℕ, zero, suc, ◌+◌, ◌*◌, ◌<◌, ◌≤◌, Bool, true, false, ◌&&◌, cond, eqb, nat_lt, List, [], ◌∷◌, length, map, slice_get, Some, None, refl, sym, subst, ◌∙◌, arith}
use Rattle.std.specs.List.{list_all, range_with_len}
use Rattle.std.proofs.lemmas.Bool.Decides.{nat_tests}
use Rattle.std.proofs.lemmas.Option.{slice_get_within, get_or_from_slice_get}
use Rattle.std.proofs.lemmas.List.FromFn.{length-map-range_with_len, get_or-map-range_with_len}
use Rattle.cc_meaning.specs.declared.fault.DexFault.{DexFault}
use Rattle.cc_meaning.specs.declared.fault.DexFault.TheVariants.{OutOfFile}
use Rattle.cc_meaning_dex.specs.Numbers.{u16_at, u32_at}
use Rattle.cc_meaning_dex.specs.Faults.{list_fault, listed_types}
use Rattle.cc_meaning_dex.specs.Ids.{EachSpelled, SpellsTypes, ListsTypes}
use Rattle.cc_meaning_dex.specs.RowForms.{TypesListed}
use Rattle.cc_meaning_dex.proofs.IdLaws.{listed_once}

none_is_false : (b : Bool) (fault : DexFault) → cond b (Some fault) None ≡ None → b ≡ false
none_is_false true fault e = absurd (cc)
none_is_false false fault e = refl

then_false : (a b : Bool) → a ≡ true → (a && b) ≡ false → b ≡ false
then_false true b e both = both
then_false false b e both = absurd (cc)

and_false : (a b : Bool) → b ≡ false → (a && b) ≡ false
and_false true b e = e
and_false false b e = refl

each_mapped : (f : ℕ → ℕ) (n : ℕ) → EachSpelled (map f (range_with_len 0 n)) n (λ place row. row ≡ f place)
each_mapped f n = record {
  all = length-map-range_with_len f 0 n;
  each = λ place item e.
      let within = slice_get_within (map f (range_with_len 0 n)) place item e in
      let below : place < n = omega (arith, within, length-map-range_with_len f 0 n) in
      sym (get_or_from_slice_get (map f (range_with_len 0 n)) place item 0 e) ∙ get_or-map-range_with_len f 0 n place place 0 below (omega arith);
}

listed_none : (file : List ℕ) (at : ℕ) → at ≡ 0 → listed_types file at ≡ []
unfolding listed_types
listed_none file at none = rw none refl

listed_some : (file : List ℕ) (at : ℕ) → eqb at 0 ≡ false → listed_types file at ≡ map (λ place. u16_at file (at + 4 + place * 2)) (range_with_len 0 (u32_at file at))
unfolding listed_types
listed_some file at some = rw some refl

list_within : (file : List ℕ) (at : ℕ) → 0 < at → list_fault file at ≡ None → at + 4 + u32_at file at * 2 ≤ length file
unfolding list_fault
list_within file at some none =
    let past = then_false (nat_lt 0 at) (nat_lt (length file) (at + 4 + u32_at file at * 2)) (grind (arith, nat_tests)) (none_is_false (nat_lt 0 at && nat_lt (length file) (at + 4 + u32_at file at * 2)) (OutOfFile at) none) in
    grind (arith, nat_tests)

listed_spells : (file : List ℕ) (at : ℕ) → 0 < at → list_fault file at ≡ None → SpellsTypes file at (listed_types file at)
listed_spells file at some stands =
    let test : eqb at 0 ≡ false = grind (arith, nat_tests) in
    let mapped = each_mapped (λ place. u16_at file (at + 4 + place * 2)) (u32_at file at) in
    let each = subst (λ listed. EachSpelled listed (u32_at file at) (λ place item. item ≡ u16_at file (at + 4 + place * 2))) (sym (listed_some file at test)) mapped in
    record { within = omega (arith, list_within file at some stands, each.all); each = each }

listed_lists : (file : List ℕ) (at : ℕ) → list_fault file at ≡ None → ListsTypes file at (listed_types file at)
listed_lists file zero stands = inl (refl, listed_none file zero refl)
listed_lists file (suc n) stands = inr (λ e. omega (arith, e), listed_spells file (suc n) (omega arith) stands)

stands_none : (file : List ℕ) (at : ℕ) → at ≡ 0 → list_fault file at ≡ None
unfolding list_fault
stands_none file at none =
    let test : nat_lt 0 at ≡ false = grind (arith, nat_tests) in
    rw test refl

stands_within : (file : List ℕ) (at : ℕ) → at + 4 + u32_at file at * 2 ≤ length file → list_fault file at ≡ None
unfolding list_fault
stands_within file at within =
    let test : nat_lt (length file) (at + 4 + u32_at file at * 2) ≡ false = grind (arith, nat_tests) in
    rw (and_false (nat_lt 0 at) (nat_lt (length file) (at + 4 + u32_at file at * 2)) test) refl

pub list_stands : (file : List ℕ) (at : ℕ) (rows : List ℕ) → ListsTypes file at rows → list_fault file at ≡ None
list_stands file at rows (inl none) = stands_none file at none.0
list_stands file at rows (inr some) = stands_within file at (omega (arith, some.1.within, some.1.each.all))

pub types_listed : TypesListed
types_listed file at rows = (
  λ read. subst (λ listed. ListsTypes file at listed) (sym read.1) (listed_lists file at read.0),
  λ lists. (let stands = list_stands file at rows lists in (stands, listed_once file at rows (listed_types file at) lists (listed_lists file at stands))),
)

-- ---- tests of each

pub each_passes : (test : ℕ → Bool) (rows : List ℕ) → list_all test rows ≡ true → (place row : ℕ) → slice_get rows place ≡ Some row → test row ≡ true
each_passes test [] e place row found = absurd (cc)
each_passes test (r ∷ rows) e zero row found =
    let same : r ≡ row = cc in
    subst (λ x. test x ≡ true) same (front (test r) (list_all test rows) e)
  where
    front : (a b : Bool) → (a && b) ≡ true → a ≡ true
    front true b e = refl
    front false b e = absurd (cc)
each_passes test (r ∷ rows) e (suc place) row found = each_passes test rows (behind (test r) (list_all test rows) e) place row found
  where
    behind : (a b : Bool) → (a && b) ≡ true → b ≡ true
    behind true b e = e
    behind false b e = absurd (cc)

pub passes_each : (test : ℕ → Bool) (rows : List ℕ) → ((place row : ℕ) → slice_get rows place ≡ Some row → test row ≡ true) → list_all test rows ≡ true
passes_each test [] each = refl
passes_each test (r ∷ rows) each = rw (each 0 r refl) (passes_each test rows (λ place. each (suc place)))
