-- Lists, what is found in them, and their places.
use Rattle.std.proofs.Common.{◌≡◌, ◌≢◌, ℕ, zero, suc, ◌<◌, ◌+◌, Bool, true, false, List, [], ◌∷◌, length, map, get_or, Option, Some, None, cond, position, refl, sym, ap, ◌∙◌, subst, arith, slice_index_or}
use Rattle.std.specs.Prelude.{slice_get, find, option_map, Contains, AllPairs, not, nat_lt}
use Rattle.std.specs.List.{position_or_len}
use Rattle.std.specs.Str.{bytes_eq}
use Rattle.std.specs.Cmp.Lexicographic.{slice_cmp}
use Rattle.std.specs.Ordering.{nat_cmp}
use Rattle.std.specs.declared.cmp.Ordering.TheVariants.{Equal}
use Rattle.std.proofs.lemmas.Cmp.{nat_list_cmp_total, tied_itself}
use Rattle.std.proofs.lemmas.Bool.{false_from_ne_true}
use Rattle.std.proofs.lemmas.List.Quantifiers.{position-Some}
use Rattle.std.proofs.lemmas.List.Sums.{position_or_len_is}
use Rattle.std.proofs.lemmas.Option.{slice_get_within, slice_get-get_or, get_or_from_slice_get, slice_get-map}
use Rattle.std.proofs.lemmas.Slice.Eq.{bytes_eq-Decides}
use Rattle.cc_meaning.specs.Order.{IsBefore, IsRising}

-- ---- equal units

pub same_bytes : (a b : List ℕ) → bytes_eq a b ≡ true → a ≡ b
same_bytes a b = (bytes_eq-Decides a b).0

pub bytes_same : (a : List ℕ) → bytes_eq a a ≡ true
bytes_same a = (bytes_eq-Decides a a).1 refl

pub bytes_differ : (a b : List ℕ) → a ≢ b → bytes_eq a b ≡ false
bytes_differ a b other = false_from_ne_true (bytes_eq a b) (λ e. other (same_bytes a b e))

pub some_same : {A : Type 0} (x y : A) → Some x ≡ Some y → x ≡ y
some_same x y e = cc

-- ---- what is found

found_first : {A : Type 0} (test : A → Bool) (y : A) (ys : List A) (x : A) (r : Bool) → test y ≡ r → cond r (Some y) (find test ys) ≡ Some x →
    (find test ys ≡ Some x → (test x ≡ true) × ((k : ℕ) × (slice_get ys k ≡ Some x))) → (test x ≡ true) × ((k : ℕ) × (slice_get (y ∷ ys) k ≡ Some x))
found_first test y ys x true is e rest = let same : y ≡ x = some_same y x e in (subst (λ z. test z ≡ true) same is, (0, ap Some same))
found_first test y ys x false is e rest = let found = rest e in (found.0, (suc found.1.0, found.1.1))

pub found_is : {A : Type 0} (test : A → Bool) (xs : List A) (x : A) → find test xs ≡ Some x → (test x ≡ true) × ((k : ℕ) × (slice_get xs k ≡ Some x))
found_is test [] x e = absurd cc
found_is test (y ∷ ys) x e = found_first test y ys x (test y) refl e (found_is test ys x)

pub position_is : {A : Type 0} (test : A → Bool) (xs : List A) (k : ℕ) → position test xs ≡ Some k → (x : A) × (slice_get xs k ≡ Some x) × (test x ≡ true)
position_is test [] k e = absurd cc
position_is test (y ∷ ys) k e =
    let found = position-Some test (y ∷ ys) k y e in
    (get_or (y ∷ ys) k y, slice_get-get_or (y ∷ ys) k y found.0, found.1)

pub at_place : {A : Type 0} (xs : List A) (k : ℕ) → k < length xs → (x : A) × (slice_get xs k ≡ Some x)
at_place [] k within = absurd (omega (arith, within))
at_place (x ∷ xs) zero within = (x, refl)
at_place (x ∷ xs) (suc k) within = at_place xs k (omega (arith, within))

-- ---- rising names

place_found : {X : Type 0} (p : X → Bool) (xs : List X) (i : ℕ) → position_or_len p xs ≡ i → i < length xs → position p xs ≡ Some i
place_found p xs i e h = grind (arith, e, h)

first_is_position : {X : Type 0} (p : X → Bool) (xs : List X) (at : ℕ) (d : X) → at < length xs → ((k : ℕ) → k < at → p (slice_index_or xs k d) ≡ false) → p (slice_index_or xs at d) ≡ true → position p xs ≡ Some at
first_is_position p xs at d below none here = place_found p xs at (position_or_len_is p xs at d (omega arith) none (λ h. here)) below

pub not_before_itself : (name : List ℕ) → IsBefore name name → ⊥
not_before_itself name less =
    let same : slice_cmp nat_cmp name name ≡ Equal = tied_itself nat_list_cmp_total name in
    absurd cc

-- a name's place among names that rise
pub place_of_name : (names : List (List ℕ)) (k : ℕ) (name : List ℕ) → IsRising names → slice_get names k ≡ Some name → position (λ (other : List ℕ). bytes_eq other name) names ≡ Some k
place_of_name names k name rise e =
    let within = slice_get_within names k name e in
    let here : slice_index_or names k name ≡ name = get_or_from_slice_get names k name name e in
    first_is_position (λ (other : List ℕ). bytes_eq other name) names k name within
    (λ j below. bytes_differ (slice_index_or names j name) name (λ same. not_before_itself name (subst (λ n. IsBefore n name) same (subst (λ n. IsBefore (slice_index_or names j name) n) here (rise j k name below within)))))
    (subst (λ n. bytes_eq n name ≡ true) (sym here) (bytes_same name))

pub length_map : {A B : Type 0} (f : A → B) (xs : List A) → length (map f xs) ≡ length xs
length_map f [] = refl
length_map f (x ∷ xs) = ap suc (length_map f xs)

first_place_map : {A B : Type 0} (test : B → Bool) (f : A → B) (xs : List A) → position_or_len (λ x. test (f x)) xs ≡ position_or_len test (map f xs)
first_place_map test f [] = refl
first_place_map test f (x ∷ xs) = ap (λ n. cond (not (test (f x))) (1 + n) 0) (first_place_map test f xs)

pub position_map : {A B : Type 0} (test : B → Bool) (f : A → B) (xs : List A) → position (λ x. test (f x)) xs ≡ position test (map f xs)
position_map test f xs =
    let place = first_place_map test f xs in
    let long = length_map f xs in
    ap (λ n. cond (nat_lt n (length xs)) (Some n) None) place ∙ ap (λ m. cond (nat_lt (position_or_len test (map f xs)) m) (Some (position_or_len test (map f xs))) None) (sym long)

pub some_mapped : {A B : Type 0} (f : A → B) (o : Option A) (y : B) → option_map f o ≡ Some y → (x : A) × (o ≡ Some x) × (f x ≡ y)
some_mapped f (Some x) y e = (x, refl, cc)
some_mapped f None y e = absurd (cc)

pub found_mapped : {A B : Type 0} (f : A → B) (xs : List A) (k : ℕ) (y : B) → slice_get (map f xs) k ≡ Some y → (x : A) × (slice_get xs k ≡ Some x) × (f x ≡ y)
found_mapped f xs k y e = some_mapped f (slice_get xs k) y (sym (slice_get-map f xs k) ∙ e)

pub mapped_found : {A B : Type 0} (f : A → B) (xs : List A) (k : ℕ) (x : A) → slice_get xs k ≡ Some x → slice_get (map f xs) k ≡ Some (f x)
mapped_found f xs k x e = slice_get-map f xs k ∙ ap (option_map f) e

pub contained_at : {A : Type 0} (xs : List A) (x : A) → Contains xs x → (k : ℕ) × (slice_get xs k ≡ Some x)
contained_at xs x (k, within, is) = (k, slice_get-get_or xs k x within ∙ ap Some is)

-- names that rise in a list of things
pub rising_unmapped : {A : Type 0} (f : A → List ℕ) (xs : List A) → IsRising (map f xs) → AllPairs (λ x y. IsBefore (f x) (f y)) xs
rising_unmapped f xs rise i j d below within =
    let long = length_map f xs in
    let left : slice_index_or (map f xs) i (f d) ≡ f (slice_index_or xs i d) = get_or_from_slice_get (map f xs) i (f (slice_index_or xs i d)) (f d) (mapped_found f xs i (slice_index_or xs i d) (slice_get-get_or xs i d (omega arith))) in
    let right : slice_index_or (map f xs) j (f d) ≡ f (slice_index_or xs j d) = get_or_from_slice_get (map f xs) j (f (slice_index_or xs j d)) (f d) (mapped_found f xs j (slice_index_or xs j d) (slice_get-get_or xs j d within)) in
    subst (λ n. IsBefore n (f (slice_index_or xs j d))) left (subst (λ n. IsBefore (slice_index_or (map f xs) i (f d)) n) right (rise i j (f d) below (omega (arith, long))))

pub found_contained : {A : Type 0} (xs : List A) (k : ℕ) (x : A) → slice_get xs k ≡ Some x → Contains xs x
found_contained xs k x e = (k, slice_get_within xs k x e, get_or_from_slice_get xs k x x e)
