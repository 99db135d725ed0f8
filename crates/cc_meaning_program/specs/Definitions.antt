-- The classes that a file defines, each by its number among the file's class definitions.
use Rattle.std.specs.Prelude.{◌≡◌, ◌⊎◌, ℕ, Bool, true, List, Contains, slice_get, Some}
use Rattle.cc_meaning.specs.declared.file.ClassRow.{ClassRow}
use Rattle.cc_meaning.specs.declared.file.Ids.{Ids}
use Rattle.cc_meaning_dex.specs.CodeItems.{has_flag}
use Rattle.cc_meaning_program.specs.Named.{type_name}

-- a definition, by its number, is of the class of this name
pub record Defines (ids : Ids) (number : ℕ) (name : List ℕ) : Type 0 where
  pub stated : ClassRow
  pub there : slice_get ids.classes number ≡ Some stated
  pub named : type_name ids stated.class ≡ name

-- a class of the file has this name
abbrev pub IsDefined : Ids → List ℕ → Type 0
IsDefined ids name = (number : ℕ) × Defines ids number name

unfoldable pub is_interface : ClassRow → Bool
is_interface stated = has_flag stated.flags 512

-- an interface of the file has this name
pub record IsInterface (ids : Ids) (name : List ℕ) : Type 0 where
  pub number : ℕ
  pub stated : ClassRow
  pub there : slice_get ids.classes number ≡ Some stated
  pub named : type_name ids stated.class ≡ name
  pub flagged : is_interface stated ≡ true

-- the second definition is of the first's superclass
pub record Extends (ids : Ids) (number above : ℕ) : Type 0 where
  pub stated : ClassRow
  pub there : slice_get ids.classes number ≡ Some stated
  pub type : ℕ
  pub extended : stated.superclass ≡ Some type
  pub defined : Defines ids above (type_name ids type)

-- the second definition is of an interface that the first names
pub record Implements (ids : Ids) (number above : ℕ) : Type 0 where
  pub stated : ClassRow
  pub there : slice_get ids.classes number ≡ Some stated
  pub type : ℕ
  pub implemented : Contains stated.interfaces type
  pub defined : Defines ids above (type_name ids type)

-- the second definition is above the first by superclasses and interfaces, one step or more
pub data IsAbove (ids : Ids) : ℕ → ℕ → Type 0 where
  next : {number above : ℕ} → Extends ids number above ⊎ Implements ids number above → IsAbove ids number above
  further : {number above top : ℕ} → Extends ids number above ⊎ Implements ids number above → IsAbove ids above top → IsAbove ids number top
