-- Candidates, and the names that they have.
use Rattle.std.proofs.Common.{◌≤◌, ◌≡◌, ◌↔◌, ◌⊎◌, inl, inr, ℕ, zero, suc, ◌+◌, ◌*◌, ◌<◌, Bool, true, false, cond, List, [], ◌∷◌, ◌++◌, length, map, get_or, take, slice_get, unwrap_or, Option, Some, refl, sym, ap, subst, ◌∙◌, append_assoc, arith}
use Rattle.std.specs.Prelude.{Contains, option_and_then}
use Rattle.std.specs.List.{flat_map}
use Rattle.std.proofs.lemmas.List.{length-append, length-map, map_push, map-append, take_more, get_or_default}
use Rattle.std.proofs.lemmas.List.Elements.{Contains-get_or, Contains-append_left, Contains-append_right, Contains-append_cases}
use Rattle.std.proofs.lemmas.Option.{slice_get-get_or}
use Rattle.cc_meaning.specs.declared.file.Ids.{Ids}
use Rattle.cc_meaning.specs.BuiltIn.{is_built_in}
use Rattle.cc_built_in.specs.BuiltInMethods.{BuiltInMethods, built_in_tables}
use Rattle.cc_meaning_dex.specs.Descriptors.{names_class, names_reference}
use Rattle.cc_meaning_program.specs.Named.{text_of, type_name}
use Rattle.cc_meaning_program.specs.ClassNames.{base_name, texts_name, IsClassName, AreClassNames, listed, element, built_in, texts}
use Rattle.cc_names.specs.declared.classes.Candidate.{Candidate}
use Rattle.cc_names.specs.declared.classes.Candidate.TheVariants.{Whole, Base, Known}
use Rattle.cc_names.specs.InOrder.{AreInOrder}
use Rattle.cc_names.specs.Candidates.{AreKnown, candidate_name, whole_of, base_of, candidates_of}
use Rattle.cc_names.proofs.Ordered.{contains_mapped, mapped_from}

-- ---- names that every program has

one_more : (ids : Ids) (known : List (List ℕ)) (number : ℕ) → number < length known → candidate_name ids known (Known number) ≡ get_or known number []
unfolding candidate_name
one_more ids known number within = ap (λ name. unwrap_or name []) (slice_get-get_or known number [] within)

pub known_more : (ids : Ids) (known before : List (List ℕ)) (all : List Candidate) (number : ℕ) → number < length known →
    map (candidate_name ids known) all ≡ before ++ take number known → map (candidate_name ids known) (all ++ Known number ∷ []) ≡ before ++ take (number + 1) known
known_more ids known before all number within so_far =
    let last = one_more ids known number within in
    let more = take_more known number [] within in
    map_push (candidate_name ids known) all (Known number) ∙ ap (λ names. names ++ candidate_name ids known (Known number) ∷ []) so_far
    ∙ append_assoc before (take number known) (candidate_name ids known (Known number) ∷ []) ∙ ap (λ name. before ++ (take number known ++ name ∷ [])) last ∙ ap (λ names. before ++ names) (sym more)

-- ---- candidates of the file

-- a row of texts gives this name: a class's or an array's, or a class's behind its `[`
pub data Gives (ids : Ids) (row : ℕ) : List ℕ → Type 0 where
  whole : names_reference (text_of ids row) ≡ true → Gives ids row (text_of ids row)
  base : names_class (base_name (text_of ids row)) ≡ true → Gives ids row (base_name (text_of ids row))

whole_given : (ids : Ids) (known : List (List ℕ)) (row : ℕ) (b : Bool) (name : List ℕ) → names_reference (text_of ids row) ≡ b →
    Contains (map (candidate_name ids known) (cond b (Whole row ∷ []) [])) name → Gives ids row name
unfolding candidate_name
whole_given ids known row true name is (zero, within, same) = subst (Gives ids row) same (whole is)
whole_given ids known row true name is (suc k, within, same) = absurd (omega arith)
whole_given ids known row false name is (k, within, same) = absurd (omega arith)

base_given : (ids : Ids) (known : List (List ℕ)) (row : ℕ) (b : Bool) (name : List ℕ) → names_class (base_name (text_of ids row)) ≡ b →
    Contains (map (candidate_name ids known) (cond b (Base row ∷ []) [])) name → Gives ids row name
unfolding candidate_name
base_given ids known row true name is (zero, within, same) = subst (Gives ids row) same (base is)
base_given ids known row true name is (suc k, within, same) = absurd (omega arith)
base_given ids known row false name is (k, within, same) = absurd (omega arith)

-- the names of a row's candidates are those that it gives
of_row : (ids : Ids) (known : List (List ℕ)) (row : ℕ) (name : List ℕ) → Contains (map (candidate_name ids known) (candidates_of ids row)) name ↔ Gives ids row name
unfolding candidates_of whole_of base_of candidate_name
of_row ids known row name = (
  λ here. given (Contains-append_cases (map (candidate_name ids known) (whole_of ids row)) (map (candidate_name ids known) (base_of ids row)) name
      (rw map-append at here)),
  λ gives. rw map-append (named name gives),
)
  where
    given : Contains (map (candidate_name ids known) (whole_of ids row)) name ⊎ Contains (map (candidate_name ids known) (base_of ids row)) name → Gives ids row name
    given (inl here) = whole_given ids known row (names_reference (text_of ids row)) name refl here
    given (inr here) = base_given ids known row (names_class (base_name (text_of ids row))) name refl here

    named : (n : List ℕ) → Gives ids row n → Contains (map (candidate_name ids known) (whole_of ids row) ++ map (candidate_name ids known) (base_of ids row)) n
    named n (whole is) = Contains-append_left (map (candidate_name ids known) (whole_of ids row)) (map (candidate_name ids known) (base_of ids row)) n (rw is (0, omega arith, refl))
    named n (base is) = Contains-append_right (map (candidate_name ids known) (whole_of ids row)) (map (candidate_name ids known) (base_of ids row)) n (rw is (0, omega arith, refl))

abbrev GivenBy : Ids → List ℕ → List ℕ → Type 0
GivenBy ids rows name = (row : ℕ) × Contains rows row × Gives ids row name

either : (ids : Ids) (names more : List (List ℕ)) (row : ℕ) (rows : List ℕ) (name : List ℕ) → Contains more name ↔ GivenBy ids rows name → Contains names name ↔ Gives ids row name →
    Contains names name ⊎ Contains more name → GivenBy ids (row ∷ rows) name
either ids names more row rows name rest here (inl first) = (row, (0, omega arith, refl), here.0 first)
either ids names more row rows name rest here (inr later) = let (other, (k, within, is), gives) = rest.0 later in (other, (suc k, omega arith, is), gives)

named : (ids : Ids) (names more : List (List ℕ)) (row : ℕ) (rows : List ℕ) (name : List ℕ) → Contains more name ↔ GivenBy ids rows name → Contains names name ↔ Gives ids row name →
    (other : ℕ) → Contains (row ∷ rows) other → Gives ids other name → Contains (names ++ more) name
named ids names more row rows name rest here other (zero, within, is) gives = Contains-append_left names more name (here.1 (subst (λ r. Gives ids r name) (sym is) gives))
named ids names more row rows name rest here other (suc k, within, is) gives = Contains-append_right names more name (rest.1 (other, (k, omega arith, is), gives))

-- the names of the candidates of rows are those that the rows give
pub of_rows : (ids : Ids) (known : List (List ℕ)) (rows : List ℕ) (name : List ℕ) →
    Contains (map (candidate_name ids known) (flat_map (candidates_of ids) rows)) name ↔ GivenBy ids rows name
of_rows ids known [] name = (λ (k, within, is). absurd (omega arith), λ (row, (k, within, is), gives). absurd (omega arith))
of_rows ids known (row ∷ rows) name =
    let rest = of_rows ids known rows name in
    let here = of_row ids known row name in
    let names = map (candidate_name ids known) (candidates_of ids row) in
    let more = map (candidate_name ids known) (flat_map (candidates_of ids) rows) in
    let parts = map-append (candidate_name ids known) (candidates_of ids row) (flat_map (candidates_of ids) rows) in (
      λ given. either ids names more row rows name rest here (Contains-append_cases names more name (subst (λ names. Contains names name) parts given)),
      λ (other, there, gives). subst (λ names. Contains names name) (sym parts) (named ids names more row rows name rest here other there gives),
    )

-- ---- built-in classes

single : (a b : List ℕ) → Contains (a ∷ []) b → a ≡ b
single a b (zero, within, is) = is
single a b (suc k, within, is) = absurd (omega arith)

-- the names of the built-in classes, and behind them that of the array of texts
pub known_are : (names : List (List ℕ)) → ((name : List ℕ) → Contains names name ↔ (is_built_in name ≡ true)) → names ≡ map (λ (table : BuiltInMethods). table.class) built_in_tables → AreKnown (names ++ texts_name ∷ [])
unfolding built_in_tables
known_are names all are = record { are = λ name. (λ here. which name (Contains-append_cases names (texts_name ∷ []) name here), λ is. there name is); few = omega (arith, length-append names (texts_name ∷ []), ap length are) }
  where
    which : (name : List ℕ) → Contains names name ⊎ Contains (texts_name ∷ []) name → (is_built_in name ≡ true) ⊎ (name ≡ texts_name)
    which name (inl here) = inl ((all name).0 here)
    which name (inr here) = inr (sym (single texts_name name here))

    there : (name : List ℕ) → (is_built_in name ≡ true) ⊎ (name ≡ texts_name) → Contains (names ++ texts_name ∷ []) name
    there name (inl is) = Contains-append_left names (texts_name ∷ []) name ((all name).1 is)
    there name (inr is) = subst (Contains (names ++ texts_name ∷ [])) (sym is) (Contains-append_right names (texts_name ∷ []) texts_name (0, omega arith, refl))

-- ---- how many candidates there are

one_at_most : (candidate : Candidate) (b : Bool) → length (cond b (candidate ∷ []) []) ≤ 1
one_at_most candidate true = omega arith
one_at_most candidate false = omega arith

two_at_most : (ids : Ids) (row : ℕ) → length (candidates_of ids row) ≤ 2
unfolding candidates_of whole_of base_of
two_at_most ids row =
    let first = one_at_most (Whole row) (names_reference (text_of ids row)) in
    let second = one_at_most (Base row) (names_class (base_name (text_of ids row))) in
    omega (arith, first, second, length-append (whole_of ids row) (base_of ids row))

few_listed : (ids : Ids) (rows : List ℕ) → length (flat_map (candidates_of ids) rows) ≤ 2 * length rows
few_listed ids [] = omega arith
few_listed ids (row ∷ rows) = omega (arith, few_listed ids rows, two_at_most ids row, length-append (candidates_of ids row) (flat_map (candidates_of ids) rows))

pub few_candidates : (ids : Ids) (known : List (List ℕ)) (rows : List ℕ) (listed_all all : List Candidate) → listed_all ≡ flat_map (candidates_of ids) rows →
    map (candidate_name ids known) all ≡ map (candidate_name ids known) listed_all ++ known → length all ≤ 2 * length rows + length known
few_candidates ids known rows listed_all all is added =
    let names = candidate_name ids known in
    omega (arith, ap length added, length-map all names, length-map listed_all names, length-append (map names listed_all) known, ap length is, few_listed ids rows)

-- ---- classes

type_name_is : (ids : Ids) (type row : ℕ) → type < length ids.types → get_or ids.types type row ≡ row → type_name ids type ≡ text_of ids row
unfolding type_name text_of
type_name_is ids type row within is =
    let there : slice_get ids.types type ≡ Some row = slice_get-get_or ids.types type row within ∙ ap Some is in
    ap (λ (o : Option ℕ). unwrap_or (option_and_then (slice_get ids.texts) o) []) there

given_is_class : (ids : Ids) (row : ℕ) (name : List ℕ) → Contains ids.types row → Gives ids row name → IsClassName ids name
given_is_class ids row name (type, within, at) (whole is) =
    let same = type_name_is ids type row within at in
    subst (IsClassName ids) same (listed within (subst (λ n. names_reference n ≡ true) (sym same) is))
given_is_class ids row name (type, within, at) (base is) =
    let same = type_name_is ids type row within at in
    subst (λ n. IsClassName ids (base_name n)) same (element within (subst (λ n. names_class (base_name n) ≡ true) (sym same) is))

class_is_given : (ids : Ids) (known : List (List ℕ)) (name : List ℕ) → AreKnown known → IsClassName ids name → ((row : ℕ) × Contains ids.types row × Gives ids row name) ⊎ Contains known name
class_is_given ids known name are (listed {type} within is) =
    let text = get_or ids.types type 0 in
    let same = type_name_is ids type text within (get_or_default ids.types type text 0 within) in
    inl (text, Contains-get_or ids.types type 0 within, subst (Gives ids text) (sym same) (whole (subst (λ n. names_reference n ≡ true) same is)))
class_is_given ids known name are (element {type} within is) =
    let text = get_or ids.types type 0 in
    let same = type_name_is ids type text within (get_or_default ids.types type text 0 within) in
    inl (text, Contains-get_or ids.types type 0 within, subst (λ n. Gives ids text (base_name n)) (sym same) (base (subst (λ n. names_class (base_name n) ≡ true) same is)))
class_is_given ids known name are (built_in is) = inr ((are.are name).1 (inl is))
class_is_given ids known name are texts = inr ((are.are texts_name).1 (inr refl))

-- the candidates' names in order are those of the classes
pub names_are_classes : (ids : Ids) (known : List (List ℕ)) (rows : List ℕ) (all sorted : List Candidate) → AreKnown known → ((row : ℕ) → Contains rows row ↔ Contains ids.types row) →
    map (candidate_name ids known) all ≡ map (candidate_name ids known) (flat_map (candidates_of ids) rows) ++ known →
    AreInOrder (candidate_name ids known) all sorted → AreClassNames ids (map (candidate_name ids known) sorted)
names_are_classes ids known rows all sorted every described whole_list are = record {
  rise = are.rise;
  are = λ name. (λ here. is_class name (mapped_from (candidate_name ids known) sorted name here), λ class. there name (class_is_given ids known name every class));
}
  where
    of_known : (name : List ℕ) → (is_built_in name ≡ true) ⊎ (name ≡ texts_name) → IsClassName ids name
    of_known name (inl is) = built_in is
    of_known name (inr is) = subst (IsClassName ids) (sym is) texts

    of_either : (name : List ℕ) → Contains (map (candidate_name ids known) (flat_map (candidates_of ids) rows)) name ⊎ Contains known name → IsClassName ids name
    of_either name (inl here) = let (row, given, gives) = (of_rows ids known rows name).0 here in given_is_class ids row name ((described row).0 given) gives
    of_either name (inr here) = of_known name ((every.are name).0 here)

    is_class : (name : List ℕ) → (candidate : Candidate) × Contains sorted candidate × (candidate_name ids known candidate ≡ name) → IsClassName ids name
    is_class name (candidate, here, is) =
        let given : Contains (map (candidate_name ids known) all) name = subst (Contains (map (candidate_name ids known) all)) is (contains_mapped (candidate_name ids known) all candidate (are.among candidate here)) in
        of_either name (Contains-append_cases (map (candidate_name ids known) (flat_map (candidates_of ids) rows)) known name (subst (λ names. Contains names name) whole_list given))

    of_all : (name : List ℕ) → Contains (map (candidate_name ids known) (flat_map (candidates_of ids) rows) ++ known) name → Contains (map (candidate_name ids known) sorted) name
    of_all name given =
        let (candidate, here, is) = mapped_from (candidate_name ids known) all name (subst (λ names. Contains names name) (sym whole_list) given) in
        subst (Contains (map (candidate_name ids known) sorted)) is (are.named candidate here)

    there : (name : List ℕ) → ((row : ℕ) × Contains ids.types row × Gives ids row name) ⊎ Contains known name → Contains (map (candidate_name ids known) sorted) name
    there name (inl (row, given, gives)) = of_all name (Contains-append_left (map (candidate_name ids known) (flat_map (candidates_of ids) rows)) known name ((of_rows ids known rows name).1 (row, (described row).1 given, gives)))
    there name (inr here) = of_all name (Contains-append_right (map (candidate_name ids known) (flat_map (candidates_of ids) rows)) known name here)
