-- The class that the member of a row belongs to after resolution, by its number, and the place that the member has in it.
use Rattle.std.specs.Prelude.{◌≡◌, ℕ, List, length, slice_get, Option, Some, None}
use Rattle.cc_meaning.specs.declared.file.Ids.{Ids}
use Rattle.cc_meaning.specs.declared.file.RawClass.{RawClass}
use Rattle.cc_meaning.specs.declared.file.RawField.{RawField}
use Rattle.cc_meaning.specs.declared.file.RawMethod.{RawMethod}
use Rattle.cc_meaning_program.specs.Named.{field_member, method_member}
use Rattle.cc_built_in.specs.BuiltInMethods.{BuiltInMethod}
use Rattle.cc_meaning_program.specs.OwnMembers.{members_of, method_defined, field_defined, method_listed, built_in_methods_of}
use Rattle.cc_meaning_program.specs.Naming.{RowNamesMethod, RowNamesField}
use Rattle.cc_meaning_program.specs.declared.owner.MethodOwner.{MethodOwner}
use Rattle.cc_meaning_program.specs.declared.owner.MethodOwner.TheVariants as method
use Rattle.cc_meaning_program.specs.declared.owner.FieldOwner.{FieldOwner}
use Rattle.cc_meaning_program.specs.declared.owner.FieldOwner.TheVariants as field

-- ---- places

unfoldable pub method_in : ℕ → Option RawClass → Option RawMethod
method_in place None = None
method_in place (Some class) = slice_get class.methods place

unfoldable pub field_in : ℕ → Option RawClass → Option RawField
field_in place None = None
field_in place (Some class) = slice_get class.fields place

-- the method at a place among those that the file defines in a class
unfoldable pub method_placed : Ids → List RawClass → List ℕ → ℕ → Option RawMethod
method_placed ids classes name place = method_in place (members_of ids classes name)

-- the field at a place among those that the file defines in a class
unfoldable pub field_placed : Ids → List RawClass → List ℕ → ℕ → Option RawField
field_placed ids classes name place = field_in place (members_of ids classes name)

-- ---- methods

-- what a row of methods names: a method of the file, a built-in one, or one of neither
pub data IsMethodOwner (ids : Ids) (classes : List RawClass) (names : List (List ℕ)) (row : ℕ) : MethodOwner → Type 0 where
  file : {class place : ℕ} {name : List ℕ} {raw : RawMethod} → slice_get names class ≡ Some name → RowNamesMethod ids classes row name (method_member ids row) → method_defined ids classes name (method_member ids row) ≡ Some raw → method_placed ids classes name place ≡ Some raw → IsMethodOwner ids classes names row (method.File class place)
  built_in : {class place : ℕ} {name : List ℕ} {listed : BuiltInMethod} → slice_get names class ≡ Some name → RowNamesMethod ids classes row name (method_member ids row) → method_defined ids classes name (method_member ids row) ≡ None → method_listed ids name (method_member ids row) ≡ Some listed → slice_get (built_in_methods_of ids name) place ≡ Some listed → IsMethodOwner ids classes names row (method.BuiltIn class place)
  outside : {class : ℕ} {name : List ℕ} → slice_get names class ≡ Some name → RowNamesMethod ids classes row name (method_member ids row) → method_defined ids classes name (method_member ids row) ≡ None → method_listed ids name (method_member ids row) ≡ None → IsMethodOwner ids classes names row (method.Outside class)

-- for each row of methods
pub record AreMethodOwners (ids : Ids) (classes : List RawClass) (names : List (List ℕ)) (owners : List MethodOwner) : Type 0 where
  pub all : length owners ≡ length ids.methods
  pub each : (row : ℕ) (owner : MethodOwner) → slice_get owners row ≡ Some owner → IsMethodOwner ids classes names row owner

-- ---- fields

-- what a row of fields names: a field of the file, or one of the first class upward that isn't of the file
pub data IsFieldOwner (ids : Ids) (classes : List RawClass) (names : List (List ℕ)) (row : ℕ) : FieldOwner → Type 0 where
  file : {class place : ℕ} {name : List ℕ} {raw : RawField} → slice_get names class ≡ Some name → RowNamesField ids classes row name (field_member ids row) → field_defined ids classes name (field_member ids row) ≡ Some raw → field_placed ids classes name place ≡ Some raw → IsFieldOwner ids classes names row (field.File class place)
  beyond : {class : ℕ} {name : List ℕ} → slice_get names class ≡ Some name → RowNamesField ids classes row name (field_member ids row) → field_defined ids classes name (field_member ids row) ≡ None → IsFieldOwner ids classes names row (field.Beyond class)

-- for each row of fields
pub record AreFieldOwners (ids : Ids) (classes : List RawClass) (names : List (List ℕ)) (owners : List FieldOwner) : Type 0 where
  pub all : length owners ≡ length ids.fields
  pub each : (row : ℕ) (owner : FieldOwner) → slice_get owners row ≡ Some owner → IsFieldOwner ids classes names row owner
