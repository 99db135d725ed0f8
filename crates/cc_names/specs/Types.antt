-- The types of descriptors.
use Rattle.std.specs.Prelude.{◌≡◌, ℕ, List, length, slice_get, Option, Some}
use Rattle.cc_meaning.specs.declared.program.DexType.{DexType}
use Rattle.cc_meaning_program.specs.TypeNames.{IsTypeOf}

-- for each of so many rows, in their order, the type that spells the row's descriptor, or none where none does
pub record AreTypesOf (names : List (List ℕ)) (count : ℕ) (descriptor : ℕ → List ℕ) (types : List (Option DexType)) : Type 0 where
  pub all : length types ≡ count
  pub each : (row : ℕ) (type : Option DexType) → slice_get types row ≡ Some type → IsTypeOf names (descriptor row) type
