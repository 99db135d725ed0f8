-- Types by their descriptors, where the classes are given by their names in order.
use Rattle.std.specs.Prelude.{◌≡◌, ◌↔◌, ℕ, ◌<◌, ◌≤◌, true, List, length, [], ◌++◌, Option, Some, None, slice_index_or, replicate, codes}
use Rattle.cc_meaning.specs.declared.file.Ids.{Ids}
use Rattle.cc_meaning.specs.declared.program.Base.{Base}
use Rattle.cc_meaning.specs.declared.program.Base.TheVariants as base
use Rattle.cc_meaning.specs.declared.program.DexType.{DexType}
use Rattle.cc_meaning.specs.Order.{IsRising}
use Rattle.cc_meaning_dex.specs.Descriptors.{dims_of, names_class, IsValueDescriptor}
use Rattle.cc_meaning_program.specs.Named.{type_name}
use Rattle.cc_meaning_program.specs.ClassNames.{base_name, AreClassNames}
use Rattle.cc_meaning_program.specs.References.{IsFloating}

unfoldable pub base_spelled : List (List ℕ) → Base → List ℕ
base_spelled names base.Boolean = codes "Z"
base_spelled names base.Byte = codes "B"
base_spelled names base.Short = codes "S"
base_spelled names base.Char = codes "C"
base_spelled names base.Int = codes "I"
base_spelled names base.Long = codes "J"
base_spelled names (base.Class class) = slice_index_or names class []

-- the descriptor of a type, with one `[` for each dimension
unfoldable pub type_spelled : List (List ℕ) → DexType → List ℕ
type_spelled names type = replicate type.dims 91 ++ base_spelled names type.base

-- a base that a type may have: a class is one of these names, and no array
abbrev pub IsBase : List (List ℕ) → Base → Type 0
IsBase names (base.Class class) = names_class (slice_index_or names class []) ≡ true
IsBase names other = Unit {0}

-- a type spells a descriptor: it has a base that types may have, and at most 255 dimensions, as arrays have
pub record Spells (names : List (List ℕ)) (type : DexType) (descriptor : List ℕ) : Type 0 where
  pub spelled : type_spelled names type ≡ descriptor
  pub based : IsBase names type.base
  pub few : type.dims ≤ 255

-- the type of a descriptor: the one that spells it, or none where none does
abbrev pub IsTypeOf : List (List ℕ) → List ℕ → Option DexType → Type 0
IsTypeOf names descriptor None = (type : DexType) → ¬ Spells names type descriptor
IsTypeOf names descriptor (Some type) = Spells names type descriptor

-- what a type that spells a descriptor is: of its dimensions, and of a base that spells what stands behind its `[`
pub record HasParts (names : List (List ℕ)) (type : DexType) (descriptor : List ℕ) : Type 0 where
  pub dims : type.dims ≡ dims_of descriptor
  pub base : base_spelled names type.base ≡ base_name descriptor
  pub based : IsBase names type.base
  pub few : type.dims ≤ 255

-- types spell by their parts
abbrev pub SpellsByParts : Type 0
SpellsByParts = (names : List (List ℕ)) (type : DexType) (descriptor : List ℕ) → Spells names type descriptor ↔ HasParts names type descriptor

-- where names rise, a descriptor is spelled by one type at most
abbrev pub SpelledOnce : Type 0
SpelledOnce = (names : List (List ℕ)) → IsRising names → (this that : DexType) (descriptor : List ℕ) → Spells names this descriptor → Spells names that descriptor → this ≡ that

-- Among the names of a file's classes, a type that the file lists is spelled where it is neither V nor of floating point.
abbrev pub ListedTypesSpelled : Type 0
ListedTypesSpelled = (ids : Ids) (names : List (List ℕ)) → AreClassNames ids names → (row : ℕ) → row < length ids.types → IsValueDescriptor (type_name ids row) → ¬ IsFloating (type_name ids row) →
    (type : DexType) × Spells names type (type_name ids row)
