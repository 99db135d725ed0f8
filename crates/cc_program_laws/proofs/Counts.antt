-- Of things with names that rise there are no more than numbers that tell them apart.
use Rattle.std.proofs.Common.{◌≡◌, ℕ, suc, ◌<◌, ◌≤◌, Bool, true, false, eqb, List, [], ◌∷◌, length, Some, refl, sym, ap, subst, arith, slice_index_or}
use Rattle.std.specs.Prelude.{slice_get, ◌==◌, ◌||◌, AllPairs}
use Rattle.std.specs.List.{list_any, IsDistinct}
use Rattle.std.proofs.lemmas.Bool.Decides.{Decides-eqb}
use Rattle.std.proofs.lemmas.Map.Steps.{length-le_from_distinct_below}
use Rattle.std.proofs.lemmas.Option.{slice_get_within, get_or_from_slice_get}
use Rattle.cc_meaning.specs.Order.{IsBefore}
use Rattle.cc_program_laws.proofs.Lists.{not_before_itself}
use Rattle.cc_program_laws.proofs.Hierarchy.{others}

module _ {A : Type 0} (name : A → List ℕ) (Code : A → ℕ → Type 0) (once : (x y : A) (c : ℕ) → Code x c → Code y c → name x ≡ name y) where
  -- each thing has a number, and each comes before the later ones
  record AreCoded (xs : List A) : Type 0 where
    coded : (k : ℕ) (x : A) → slice_get xs k ≡ Some x → (c : ℕ) × Code x c
    before : (i j : ℕ) (x y : A) → slice_get xs i ≡ Some x → slice_get xs j ≡ Some y → i < j → IsBefore (name x) (name y)

  tail_coded : (x : A) (xs : List A) → AreCoded (x ∷ xs) → AreCoded xs
  tail_coded x xs all = record { coded = λ k y at. all.coded (suc k) y at; before = λ i j y z here there less. all.before (suc i) (suc j) y z here there (omega (arith, less)) }

  numbers_of : (xs : List A) → AreCoded xs → List ℕ
  numbers_of [] all = []
  numbers_of (x ∷ xs) all = (all.coded 0 x refl).0 ∷ numbers_of xs (tail_coded x xs all)

  as_many : (xs : List A) (all : AreCoded xs) → length (numbers_of xs all) ≡ length xs
  unfolding numbers_of
  as_many [] all = refl
  as_many (x ∷ xs) all = ap suc (as_many xs (tail_coded x xs all))

  -- what a number tells of
  record Told (xs : List A) (c : ℕ) : Type 0 where
    place : ℕ
    thing : A
    there : slice_get xs place ≡ Some thing
    code : Code thing c

  told : (xs : List A) (all : AreCoded xs) (c : ℕ) → list_any (λ other. c == other) (numbers_of xs all) ≡ true → Told xs c
  unfolding numbers_of
  told [] all c any = absurd cc
  told (x ∷ xs) all c any = from (c == (all.coded 0 x refl).0) refl any (told xs (tail_coded x xs all) c)
    where
      from : (r : Bool) → (c == (all.coded 0 x refl).0) ≡ r → (r || list_any (λ other. c == other) (numbers_of xs (tail_coded x xs all))) ≡ true →
          (list_any (λ other. c == other) (numbers_of xs (tail_coded x xs all)) ≡ true → Told xs c) → Told (x ∷ xs) c
      from true is found rest = record { place = 0; thing = x; there = refl; code = subst (Code x) (sym ((Decides-eqb c (all.coded 0 x refl).0).0 is)) (all.coded 0 x refl).1 }
      from false is found rest = let one = rest found in record { place = suc one.place; thing = one.thing; there = one.there; code = one.code }

  apart : (xs : List A) (all : AreCoded xs) → IsDistinct eqb (numbers_of xs all)
  unfolding IsDistinct numbers_of
  apart [] all = tt
  apart (x ∷ xs) all = (others (all.coded 0 x refl).0 (numbers_of xs (tail_coded x xs all)) (λ any. none (told xs (tail_coded x xs all) (all.coded 0 x refl).0 any)), apart xs (tail_coded x xs all))
    where
      none : Told xs (all.coded 0 x refl).0 → ⊥
      none one =
          let less = all.before 0 (suc one.place) x one.thing refl one.there (omega arith) in
          not_before_itself (name one.thing) (subst (λ n. IsBefore n (name one.thing)) (once x one.thing (all.coded 0 x refl).0 (all.coded 0 x refl).1 one.code) less)

  in_order : (xs : List A) → AllPairs (λ (x : A) (y : A). IsBefore (name x) (name y)) xs → (i j : ℕ) (x y : A) → slice_get xs i ≡ Some x → slice_get xs j ≡ Some y → i < j → IsBefore (name x) (name y)
  in_order xs rise i j x y here there less =
      subst (λ z. IsBefore (name x) (name z)) (get_or_from_slice_get xs j y x there)
      (subst (λ z. IsBefore (name z) (name (slice_index_or xs j x))) (get_or_from_slice_get xs i x x here) (rise i j x less (slice_get_within xs j y there)))

  pub few : (most : ℕ) (xs : List A) → AllPairs (λ (x : A) (y : A). IsBefore (name x) (name y)) xs → ((k : ℕ) (x : A) → slice_get xs k ≡ Some x → (c : ℕ) × Code x c) → ((x : A) (c : ℕ) → Code x c → c < most) → length xs ≤ most
  few most xs rise coded below =
      let all : AreCoded xs = record { coded = coded; before = in_order xs rise } in
      let long = as_many xs all in
      let within = length-le_from_distinct_below (numbers_of xs all) most (apart xs all) (λ q any. let one = told xs all q any in below one.thing q one.code) in
      omega (arith, long, within)
