-- The rows of types that members name have types.
use Rattle.std.proofs.Common.{◌≡◌, ◌⊎◌, inl, inr, true, ℕ, ◌<◌, ◌≤◌, List, [], ◌∷◌, length, get_or, Option, Some, None, subst, arith}
use Rattle.std.specs.Prelude.{slice_get}
use Rattle.std.proofs.lemmas.Option.{slice_get_cases}
use Rattle.cc_meaning.specs.declared.file.Ids.{Ids}
use Rattle.cc_meaning.specs.declared.program.DexType.{DexType}
use Rattle.cc_meaning_dex.specs.Descriptors.{names_value, IsDescriptor, IsValueDescriptor}
use Rattle.cc_meaning_program.specs.ClassNames.{AreClassNames}
use Rattle.cc_meaning_program.specs.Named.{type_name}
use Rattle.cc_meaning_program.specs.References.{IsFloating}
use Rattle.cc_meaning_program.specs.TypeNames.{Spells, ListedTypesSpelled}
use Rattle.cc_meaning_program.specs.Rows.{FitTables, IsTypeRow}
use Rattle.cc_names.specs.Types.{AreTypesOf}

-- where there is a place there is an item
pub item_there : {A : Type 0} (xs : List A) (place : ℕ) → place < length xs → (x : A) × (slice_get xs place ≡ Some x)
item_there {A} xs place within = from ((slice_get_cases xs place).1)
  where
    from : ((x : A) × (place < length xs) × (slice_get xs place ≡ Some x) × (get_or xs place x ≡ x)) ⊎ ((length xs ≤ place) × (slice_get xs place ≡ None)) → (x : A) × (slice_get xs place ≡ Some x)
    from (inl (x, inside, there, at)) = (x, there)
    from (inr (past, none)) = absurd (omega arith)

pub value_descriptor : (name : List ℕ) → IsDescriptor name → names_value name ≡ true → IsValueDescriptor name
value_descriptor name (inl void) value = let e : names_value (86 ∷ []) ≡ true = subst (λ (n : List ℕ). names_value n ≡ true) void value in absurd (cc)
value_descriptor name (inr is) value = is

-- a row that a type spells has one among the types of rows
pub has_type : (ids : Ids) (names : List (List ℕ)) (types : List (Option DexType)) (row : ℕ) (spelled : DexType) → AreTypesOf names (length ids.types) (type_name ids) types → row < length ids.types →
    Spells names spelled (type_name ids row) → (ty : DexType) × (slice_get types row ≡ Some (Some ty))
has_type ids names types row spelled are within spells =
    let (found, there) = item_there types row (omega (arith, are.all)) in
    from found there
  where
    from : (found : Option DexType) → slice_get types row ≡ Some found → (ty : DexType) × (slice_get types row ≡ Some (Some ty))
    from None there = absurd (are.each row None there spelled spells)
    from (Some ty) there = (ty, there)

-- a row that isn't V or of floating point
pub row_typed : ListedTypesSpelled → (ids : Ids) (names : List (List ℕ)) (types : List (Option DexType)) (row : ℕ) → FitTables ids → AreClassNames ids names → AreTypesOf names (length ids.types) (type_name ids) types →
    IsTypeRow names_value ids row → ¬ IsFloating (type_name ids row) → (ty : DexType) × (slice_get types row ≡ Some (Some ty))
row_typed spelled ids names types row tables are_names are is plain =
    let (ty, spells) = spelled ids names are_names row is.there (value_descriptor (type_name ids row) (tables.types row is.there) is.sorted) plain in
    has_type ids names types row ty are is.there spells
