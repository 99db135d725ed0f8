-- Where the members stand that a class lists.
use Rattle.std.proofs.Common.{◌≡◌, ◌⊎◌, inl, inr, ℕ, zero, suc, ◌+◌, ◌<◌, ◌≤◌, Bool, true, false, nat_lt, not, List, [], ◌∷◌, ◌++◌, length, map, get_or, Option, Some, None, slice_get, refl, sym, ap, ◌∙◌, arith}
use Rattle.std.specs.Prelude.{cond, position, find, unwrap_or}
use Rattle.std.specs.List.{position_or_len}
use Rattle.std.specs.Str.{bytes_eq}
use Rattle.std.proofs.lemmas.Bool.{cases_lt}
use Rattle.std.proofs.lemmas.List.{length-map}
use Rattle.std.proofs.lemmas.List.Folds.{find_at}
use Rattle.std.proofs.lemmas.List.Sums.{position_or_len_is}
use Rattle.std.proofs.lemmas.Option.{slice_get_past, slice_get-get_or}
use Rattle.cc_meaning.specs.declared.program.ClassKind.{ClassKind}
use Rattle.cc_meaning.specs.declared.program.ClassKind.TheVariants as kind
use Rattle.cc_built_in.specs.BuiltInMethods.{BuiltInMethods, built_in_tables, built_in_member, methods_of_table, array_methods}
use Rattle.cc_meaning_program.specs.OwnMembers.{built_in_by_kind}
use Rattle.cc_meaning_program.specs.Members.{out_member}
use Rattle.cc_members.specs.ListedNames.{listed_members, listed_at, listed_text}

-- ---- the first place

less_is : (a b : ℕ) → a < b → nat_lt a b ≡ true
less_is a b less = grind arith

not_less_is : (a b : ℕ) → b ≤ a → nat_lt a b ≡ false
not_less_is a b more = grind arith

pub position_found : {A : Type 0} (p : A → Bool) (xs : List A) (i : ℕ) (d : A) → i < length xs → ((k : ℕ) → k < i → p (get_or xs k d) ≡ false) → p (get_or xs i d) ≡ true → position p xs ≡ Some i
position_found p xs i d within before here =
    let at = position_or_len_is p xs i d (omega arith) before (λ _. here) in
    rw (at, less_is i (length xs) within) refl

pub position_nowhere : {A : Type 0} (p : A → Bool) (xs : List A) (d : A) → ((k : ℕ) → k < length xs → p (get_or xs k d) ≡ false) → position p xs ≡ None
position_nowhere p xs d nowhere =
    let at = position_or_len_is p xs (length xs) d (omega arith) nowhere (λ past. absurd (omega arith)) in
    rw (at, not_less_is (length xs) (length xs) (omega arith)) refl

pub position_within : {A : Type 0} (p : A → Bool) (xs : List A) → position_or_len p xs < length xs → position p xs ≡ Some (position_or_len p xs)
position_within p xs within = rw (less_is (position_or_len p xs) (length xs) within) refl

pub position_past : {A : Type 0} (p : A → Bool) (xs : List A) → length xs ≤ position_or_len p xs → position p xs ≡ None
position_past p xs past = rw (not_less_is (position_or_len p xs) (length xs) past) refl

-- what is found stands at the first place
pub found_at : {A : Type 0} (p : A → Bool) (xs : List A) (n : ℕ) → position p xs ≡ Some n → slice_get xs n ≡ find p xs
found_at p xs n e = from (cases_lt (position_or_len p xs) (length xs))
  where
    from : (position_or_len p xs < length xs) ⊎ (length xs ≤ position_or_len p xs) → slice_get xs n ≡ find p xs
    from (inl within) =
        let same : Some (position_or_len p xs) ≡ Some n = sym (position_within p xs within) ∙ e in
        let at : position_or_len p xs ≡ n = cc in
        ap (slice_get xs) (sym at) ∙ sym (find_at p xs)
    from (inr past) = absurd (let none : None ≡ Some n = sym (position_past p xs past) ∙ e in cc)

pub found_nowhere : {A : Type 0} (p : A → Bool) (xs : List A) → position p xs ≡ None → find p xs ≡ None
found_nowhere p xs e = from (cases_lt (position_or_len p xs) (length xs))
  where
    from : (position_or_len p xs < length xs) ⊎ (length xs ≤ position_or_len p xs) → find p xs ≡ None
    from (inl within) = absurd (let some : Some (position_or_len p xs) ≡ None = sym (position_within p xs within) ∙ e in cc)
    from (inr past) = find_at p xs ∙ slice_get_past xs (position_or_len p xs) past

-- ---- lists

pub slice_get_map : {A B : Type 0} (f : A → B) (xs : List A) (k : ℕ) (x : A) → slice_get xs k ≡ Some x → slice_get (map f xs) k ≡ Some (f x)
slice_get_map f [] k x there = absurd (cc)
slice_get_map f (y ∷ xs) zero x there = let same : y ≡ x = cc in ap (λ z. Some (f z)) same
slice_get_map f (y ∷ xs) (suc k) x there = slice_get_map f xs k x there

pub front_get : {A : Type 0} (xs ys : List A) (k : ℕ) (x : A) → slice_get xs k ≡ Some x → slice_get (xs ++ ys) k ≡ Some x
front_get [] ys k x there = absurd (cc)
front_get (y ∷ xs) ys zero x there = there
front_get (y ∷ xs) ys (suc k) x there = front_get xs ys k x there

first_of_map : {A B : Type 0} (f : A → B) (p : B → Bool) (xs : List A) → position_or_len p (map f xs) ≡ position_or_len (λ x. p (f x)) xs
first_of_map f p [] = refl
first_of_map f p (x ∷ xs) = ap (λ n. cond (not (p (f x))) (1 + n) 0) (first_of_map f p xs)

-- ---- tables

abbrev members_in : BuiltInMethods → List (List ℕ)
members_in table = map built_in_member table.methods

at_place : (tables : List BuiltInMethods) (more : List (List (List ℕ))) (class : List ℕ) →
    listed_at (map members_in tables ++ more) (position (λ (other : List ℕ). bytes_eq other class) (map (λ (table : BuiltInMethods). table.class) tables))
    ≡ map built_in_member (methods_of_table (find (λ (table : BuiltInMethods). bytes_eq table.class class) tables))
unfolding listed_at methods_of_table
at_place tables more class = from (cases_lt place (length tables))
  where
    passes : BuiltInMethods → Bool
    passes table = bytes_eq table.class class

    place : ℕ
    place = position_or_len passes tables

    names : List (List ℕ)
    names = map (λ (table : BuiltInMethods). table.class) tables

    same : position_or_len (λ (other : List ℕ). bytes_eq other class) names ≡ place
    same = first_of_map (λ (table : BuiltInMethods). table.class) (λ (other : List ℕ). bytes_eq other class) tables

    count : length names ≡ length tables
    count = length-map tables (λ (table : BuiltInMethods). table.class)

    from : (place < length tables) ⊎ (length tables ≤ place) → listed_at (map members_in tables ++ more) (position (λ (other : List ℕ). bytes_eq other class) names) ≡ map built_in_member (methods_of_table (find passes tables))
    from (inl within) =
        let table = get_or tables place (record { class = []; methods = [] }) in
        let there : slice_get tables place ≡ Some table = slice_get-get_or tables place _ within in
        let at = position_within (λ (other : List ℕ). bytes_eq other class) names (omega (arith, same, count, within)) ∙ ap Some same in
        let listed = front_get (map members_in tables) more place (members_in table) (slice_get_map members_in tables place table there) in
        let found : find passes tables ≡ Some table = find_at passes tables ∙ there in
        ap (listed_at (map members_in tables ++ more)) at ∙ (ap (λ (found : Option (List (List ℕ))). unwrap_or found []) listed ∙ sym (ap (λ (found : Option BuiltInMethods). map built_in_member (methods_of_table found)) found))
    from (inr past) =
        let at = position_past (λ (other : List ℕ). bytes_eq other class) names (omega (arith, same, count, past)) in
        let found : find passes tables ≡ None = find_at passes tables ∙ slice_get_past tables place past in
        ap (listed_at (map members_in tables ++ more)) at ∙ sym (ap (λ (found : Option BuiltInMethods). map built_in_member (methods_of_table found)) found)

pub of_built_in : (class : List ℕ) →
    listed_at listed_members (position (λ (other : List ℕ). bytes_eq other class) (map (λ (table : BuiltInMethods). table.class) built_in_tables)) ≡ map built_in_member (built_in_by_kind kind.BuiltIn class)
unfolding listed_members built_in_by_kind
of_built_in class = at_place built_in_tables (map built_in_member (array_methods []) ∷ (out_member ∷ []) ∷ []) class

pub of_array : (class : List ℕ) → listed_at listed_members (Some (length (map (λ (table : BuiltInMethods). table.class) built_in_tables))) ≡ map built_in_member (built_in_by_kind kind.Array class)
unfolding listed_members listed_at built_in_by_kind array_methods built_in_tables built_in_member
of_array class = refl

pub of_others : (class : List ℕ) (what : ClassKind) → (what ≡ kind.BuiltIn → ⊥) → (what ≡ kind.Array → ⊥) → map built_in_member (built_in_by_kind what class) ≡ []
unfolding built_in_by_kind
of_others class kind.File not_built_in not_array = refl
of_others class kind.BuiltIn not_built_in not_array = absurd (not_built_in refl)
of_others class kind.Outside not_built_in not_array = refl
of_others class kind.OutsideError not_built_in not_array = refl
of_others class kind.Array not_built_in not_array = absurd (not_array refl)

pub of_out : listed_text listed_members (length (map (λ (table : BuiltInMethods). table.class) built_in_tables) + 1) 0 ≡ out_member
unfolding listed_text listed_at listed_members built_in_tables
of_out = refl

pub few_classes : length (map (λ (table : BuiltInMethods). table.class) built_in_tables) + 1 < 4294967296
unfolding built_in_tables
few_classes = omega arith
