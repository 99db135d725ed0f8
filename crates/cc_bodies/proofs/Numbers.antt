-- The number of a name among names that rise.
use Rattle.std.proofs.Common.{◌≡◌, ℕ, ◌<◌, Bool, false, List, length, map, get_or, Some, sym, ap, ◌∙◌, subst, arith}
use Rattle.std.specs.Prelude.{slice_get, position}
use Rattle.std.specs.List.{position_or_len}
use Rattle.std.specs.Str.{bytes_eq}
use Rattle.std.specs.Ordering.{is_eq}
use Rattle.std.proofs.lemmas.List.Sums.{position_or_len_is}
use Rattle.std.proofs.lemmas.Map.Text.{is_eq-slice_cmp}
use Rattle.std.proofs.lemmas.Option.{slice_get_within, get_or_from_slice_get}
use Rattle.std.proofs.lemmas.Slice.Eq.{bytes_eq-Decides}
use Rattle.cc_meaning.specs.Order.{IsBefore, IsRising}
use Rattle.cc_meaning_program.proofs.Alike.{position_map}

differs : (a b : List ℕ) → IsBefore a b → bytes_eq a b ≡ false
differs a b before = sym (is_eq-slice_cmp a b) ∙ ap is_eq before

place_found : {X : Type 0} (p : X → Bool) (xs : List X) (i : ℕ) → position_or_len p xs ≡ i → i < length xs → position p xs ≡ Some i
place_found p xs i e h = grind (arith, e, h)

pub number_of_name : (names : List (List ℕ)) (number : ℕ) (name : List ℕ) → IsRising names → slice_get names number ≡ Some name → position (λ (other : List ℕ). bytes_eq other name) names ≡ Some number
number_of_name names number name rise there =
    let within : number < length names = slice_get_within names number name there in
    let here : (d : List ℕ) → get_or names number d ≡ name = λ d. get_or_from_slice_get names number name d there in
    let test : List ℕ → Bool = λ other. bytes_eq other name in
    let first : position_or_len test names ≡ number = position_or_len_is test names number name (omega arith)
    (λ k below. differs (get_or names k name) name (subst (λ (n : List ℕ). IsBefore (get_or names k name) n) (here name) (rise k number name below within)))
    (λ h. (bytes_eq-Decides (get_or names number name) name).1 (here name)) in
    place_found test names number first within

-- the same where each of some has a name
pub number_of_named : {A : Type 0} (name_of : A → List ℕ) (items : List A) (names : List (List ℕ)) (number : ℕ) (name : List ℕ) → map name_of items ≡ names → IsRising names →
    slice_get names number ≡ Some name → position (λ (item : A). bytes_eq (name_of item) name) items ≡ Some number
number_of_named name_of items names number name are rise there =
    position_map (λ (other : List ℕ). bytes_eq other name) name_of items ∙ ap (position (λ (other : List ℕ). bytes_eq other name)) are ∙ number_of_name names number name rise there
