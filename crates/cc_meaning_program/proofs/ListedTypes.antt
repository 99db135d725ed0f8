-- The types that a file lists are spelled among the names of its classes.
use Rattle.std.proofs.Common.{◌≡◌, ◌≢◌, inl, inr, ℕ, zero, suc, ◌+◌, Bool, true, false, ◌||◌, eqb, cond, List, [], ◌∷◌, ◌++◌, get_or, drop, replicate, refl, sym, ap, subst, ◌∙◌, arith}
use Rattle.std.specs.Prelude.{Contains}
use Rattle.std.proofs.lemmas.Bool.Decides.{nat_tests}
use Rattle.std.proofs.lemmas.List.{get_or_default}
use Rattle.cc_meaning.specs.declared.program.Base.{Base}
use Rattle.cc_meaning.specs.declared.program.Base.TheVariants as base
use Rattle.cc_meaning.specs.declared.program.DexType.{DexType}
use Rattle.cc_meaning_dex.specs.Descriptors.{dims_of, names_class, is_primitive, dimensions, IsValue, IsClassDescriptor}
use Rattle.cc_meaning_program.specs.Named.{type_name}
use Rattle.cc_meaning_program.specs.ClassNames.{base_name, element}
use Rattle.cc_meaning_program.specs.References.{single, double}
use Rattle.cc_meaning_program.specs.TypeNames.{base_spelled, IsBase, Spells, ListedTypesSpelled}
use Rattle.cc_meaning_program.proofs.Spelling.{dims_of_class, dims_of_spelled, behind_spelled, spells_by_parts}

-- a base spells this name
abbrev Found : List (List ℕ) → List ℕ → Type 0
Found names name = (b : Base) × IsBase names b × (base_spelled names b ≡ name)

-- ---- letters

try_letter : (names : List (List ℕ)) (u letter : ℕ) (b : Base) (test rest : Bool) → IsBase names b → base_spelled names b ≡ letter ∷ [] → eqb u letter ≡ test → (test || rest) ≡ true →
    (rest ≡ true → Found names (u ∷ [])) → Found names (u ∷ [])
try_letter names u letter b true rest is spelled test one more =
    let same : letter ≡ u = grind (arith, nat_tests) in
    (b, is, spelled ∙ ap (λ (n : ℕ). n ∷ []) same)
try_letter names u letter b false rest is spelled test one more = more one

no_letter : (u : ℕ) → u ≢ 70 → u ≢ 68 → (eqb u 70 || (eqb u 68 || false)) ≡ true → ⊥
no_letter u not_single not_double one = grind (arith, nat_tests)

letter_found : (names : List (List ℕ)) (u : ℕ) → is_primitive u ≡ true → u ≢ 70 → u ≢ 68 → Found names (u ∷ [])
unfolding base_spelled
letter_found names u one not_single not_double =
    try_letter names u 90 base.Boolean (eqb u 90) _ tt refl refl one (λ one.
    try_letter names u 66 base.Byte (eqb u 66) _ tt refl refl one (λ one.
    try_letter names u 83 base.Short (eqb u 83) _ tt refl refl one (λ one.
    try_letter names u 67 base.Char (eqb u 67) _ tt refl refl one (λ one.
    try_letter names u 73 base.Int (eqb u 73) _ tt refl refl one (λ one.
    try_letter names u 74 base.Long (eqb u 74) _ tt refl refl one (λ one.
    absurd (no_letter u not_single not_double one)))))))

no_bracket : (u : ℕ) (b : Bool) → eqb u 91 ≡ b → is_primitive u ≡ true → b ≡ false
no_bracket u false test one = refl
no_bracket u true test one =
    let bracket : u ≡ 91 = grind (arith, nat_tests) in
    let e : is_primitive 91 ≡ true = subst (λ (n : ℕ). is_primitive n ≡ true) bracket one in
    absurd (cc)

letter_is_plain : (u : ℕ) → is_primitive u ≡ true → dims_of (u ∷ []) ≡ 0
unfolding dims_of
letter_is_plain u one = ap (λ b. cond b (dims_of [] + 1) 0) (no_bracket u (eqb u 91) refl one)

-- ---- classes

class_found : (names : List (List ℕ)) (name : List ℕ) → names_class name ≡ true → Contains names name → Found names name
unfolding base_spelled
class_found names name class (number, within, is) =
    let same : get_or names number [] ≡ name = get_or_default names number [] name within ∙ is in
    (base.Class number, subst (λ n. names_class n ≡ true) (sym same) class, same)

-- ---- descriptors

dimensions_are : (n : ℕ) → dimensions n ≡ replicate n 91
dimensions_are zero = refl
dimensions_are (suc n) = ap (λ rest. 91 ∷ rest) (dimensions_are n)

abbrev Parts : List ℕ → ℕ → List ℕ → Type 0
Parts descriptor dims name = (dims_of descriptor ≡ dims) × (base_name descriptor ≡ name)

parts_of : (descriptor : List ℕ) (dims : ℕ) (name : List ℕ) → descriptor ≡ dimensions dims ++ name → dims_of name ≡ 0 → Parts descriptor dims name
unfolding base_name
parts_of descriptor dims name form plain =
    let stated : descriptor ≡ replicate dims 91 ++ name = form ∙ ap (λ front. front ++ name) (dimensions_are dims) in
    let count : dims_of descriptor ≡ dims = ap dims_of stated ∙ dims_of_spelled dims name plain in
    (count, ap (λ (n : ℕ). drop n descriptor) count ∙ ap (drop dims) stated ∙ behind_spelled dims name)

pub listed_types_spelled : ListedTypesSpelled
listed_types_spelled ids names are row within described sound = from described.value
  where
    made : Found names described.base → Parts (type_name ids row) described.dims described.base → (type : DexType) × Spells names type (type_name ids row)
    made (b, is, spelled) (count, behind) =
        let type : DexType = record { dims = described.dims; base = b } in
        (type, (spells_by_parts names type (type_name ids row)).1 (record { dims = sym count; base = spelled ∙ sym behind; based = is; few = described.few }))

    of_letter : (u : ℕ) → is_primitive u ≡ true → described.base ≡ u ∷ [] → (type : DexType) × Spells names type (type_name ids row)
    of_letter u one is =
        let parts = parts_of (type_name ids row) described.dims described.base described.form (ap dims_of is ∙ letter_is_plain u one) in
        let not_single : u ≢ 70 = λ f. sound (single (parts.1 ∙ is ∙ ap (λ (n : ℕ). n ∷ []) f)) in
        let not_double : u ≢ 68 = λ d. sound (double (parts.1 ∙ is ∙ ap (λ (n : ℕ). n ∷ []) d)) in
        made (subst (Found names) (sym is) (letter_found names u one not_single not_double)) parts

    of_class : IsClassDescriptor described.base → (type : DexType) × Spells names type (type_name ids row)
    of_class class =
        let begins : names_class described.base ≡ true = subst (λ n. names_class n ≡ true) (sym class.form) refl in
        let parts = parts_of (type_name ids row) described.dims described.base described.form (dims_of_class described.base begins) in
        let known = (are.are (base_name (type_name ids row))).1 (element within (subst (λ n. names_class n ≡ true) (sym parts.1) begins)) in
        made (class_found names described.base begins (subst (Contains names) parts.1 known)) parts

    from : IsValue described.base → (type : DexType) × Spells names type (type_name ids row)
    from (inl (u, one, is)) = of_letter u one is
    from (inr class) = of_class class
