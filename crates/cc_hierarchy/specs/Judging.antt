-- What the parts of the judgement say of definitions.
use Rattle.std.specs.Prelude.{◌≡◌, ◌↔◌, ℕ, ◌<◌, true, List, length, slice_get, Some, Contains}
use Rattle.cc_meaning.specs.declared.file.ClassRow.{ClassRow}
use Rattle.cc_meaning.specs.declared.file.Ids.{Ids}
use Rattle.cc_meaning.specs.declared.file.RawClass.{RawClass}
use Rattle.cc_meaning.specs.declared.file.RawField.{RawField}
use Rattle.cc_meaning.specs.declared.file.RawMethod.{RawMethod}
use Rattle.cc_meaning.specs.BuiltIn.{is_built_in}
use Rattle.cc_meaning_program.specs.Named.{type_name, field_member, method_member}
use Rattle.cc_meaning_program.specs.Definitions.{Defines}
use Rattle.cc_meaning_program.specs.ClassFaults.{Repeats}

-- the first definition that is so
pub record IsFirst (is_so : ℕ → Type 0) (number : ℕ) : Type 0 where
  pub so : is_so number
  pub before : (earlier : ℕ) → earlier < number → ¬ is_so earlier

-- each class of the file has one definition
abbrev pub HasOneEach : Ids → Type 0
HasOneEach ids = (this that : ℕ) (name : List ℕ) → Defines ids this name → Defines ids that name → this ≡ that

-- ---- defined twice

-- the class of a definition is built in or is defined before
pub data IsTakenName (ids : Ids) (number : ℕ) : Type 0 where
  built_in : {name : List ℕ} → Defines ids number name → is_built_in name ≡ true → IsTakenName ids number
  defined : {name : List ℕ} {earlier : ℕ} → Defines ids number name → earlier < number → Defines ids earlier name → IsTakenName ids number

-- a member of a class is defined twice
pub data RepeatsMember (ids : Ids) (class : RawClass) : Type 0 where
  field : Repeats (λ (field : RawField). field_member ids field.row) class.fields → RepeatsMember ids class
  method : Repeats (λ (method : RawMethod). method_member ids method.row) class.methods → RepeatsMember ids class

-- ---- above

-- a definition is of the superclass or of an interface that this one names
pub data IsNextAbove (ids : Ids) (stated : ClassRow) (above : ℕ) : Type 0 where
  superclass : {type : ℕ} → stated.superclass ≡ Some type → Defines ids above (type_name ids type) → IsNextAbove ids stated above
  interface : {type : ℕ} → Contains stated.interfaces type → Defines ids above (type_name ids type) → IsNextAbove ids stated above

-- the graph has for each definition those next above it
pub record ShowsAbove (ids : Ids) (graph : List (List ℕ)) : Type 0 where
  pub wide : length graph ≡ length ids.classes
  pub rows : (number : ℕ) (stated : ClassRow) (row : List ℕ) → slice_get ids.classes number ≡ Some stated → slice_get graph number ≡ Some row → (above : ℕ) → Contains row above ↔ IsNextAbove ids stated above
