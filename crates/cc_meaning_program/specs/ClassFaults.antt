-- What may be wrong with the classes of a file, whatever their code says. The faults in their order: a class or member that is defined twice, a class without
-- a superclass, a class above itself. Of each the first class in the file's order is named.
use Rattle.std.specs.Prelude.{◌≡◌, ℕ, ◌<◌, true, List, slice_get, Option, Some, None}
use Rattle.cc_meaning.specs.declared.fault.ProgramFault.{ProgramFault}
use Rattle.cc_meaning.specs.declared.fault.ProgramFault.TheVariants as faults
use Rattle.cc_meaning.specs.declared.file.ClassRow.{ClassRow}
use Rattle.cc_meaning.specs.declared.file.Ids.{Ids}
use Rattle.cc_meaning.specs.declared.file.RawClass.{RawClass}
use Rattle.cc_meaning.specs.declared.file.RawField.{RawField}
use Rattle.cc_meaning.specs.declared.file.RawMethod.{RawMethod}
use Rattle.cc_meaning.specs.BuiltIn.{is_built_in, string_name, string_builder_name}
use Rattle.cc_meaning_dex.specs.Descriptors.{begins_with}
use Rattle.cc_meaning_program.specs.Named.{type_name, field_member, method_member}
use Rattle.cc_meaning_program.specs.Definitions.{Defines, IsInterface, IsAbove}

-- ---- defined twice

-- two of these, at different places, have one name
pub record Repeats {A : Type 0} (name_of : A → List ℕ) (items : List A) : Type 0 where
  pub earlier : ℕ
  pub later : ℕ
  pub order : earlier < later
  pub first : A
  pub first_there : slice_get items earlier ≡ Some first
  pub second : A
  pub second_there : slice_get items later ≡ Some second
  pub same : name_of first ≡ name_of second

-- The class of a definition is built in or is defined before, or one of its members is defined twice.
pub data IsDuplicate (ids : Ids) (classes : List RawClass) (number : ℕ) : Type 0 where
  of_built_in : {name : List ℕ} → Defines ids number name → is_built_in name ≡ true → IsDuplicate ids classes number
  of_class : {name : List ℕ} {earlier : ℕ} → Defines ids number name → earlier < number → Defines ids earlier name → IsDuplicate ids classes number
  of_field : {class : RawClass} → slice_get classes number ≡ Some class → Repeats (λ (field : RawField). field_member ids field.row) class.fields → IsDuplicate ids classes number
  of_method : {class : RawClass} → slice_get classes number ≡ Some class → Repeats (λ (method : RawMethod). method_member ids method.row) class.methods → IsDuplicate ids classes number

-- ---- no superclass

-- what can't be a superclass: an interface of the file, an array, String and StringBuilder
pub data IsClosed (ids : Ids) (name : List ℕ) : Type 0 where
  interface : IsInterface ids name → IsClosed ids name
  array : begins_with 91 name ≡ true → IsClosed ids name
  string : name ≡ string_name → IsClosed ids name
  builder : name ≡ string_builder_name → IsClosed ids name

abbrev pub HasNoSuperclass : Ids → Option ℕ → Type 0
HasNoSuperclass ids None = Unit {0}
HasNoSuperclass ids (Some type) = IsClosed ids (type_name ids type)

-- a definition names no superclass, or one that can't be one
pub record LacksSuperclass (ids : Ids) (number : ℕ) : Type 0 where
  pub stated : ClassRow
  pub there : slice_get ids.classes number ≡ Some stated
  pub lacks : HasNoSuperclass ids stated.superclass

-- ---- above itself

abbrev pub IsAboveItself : Ids → ℕ → Type 0
IsAboveItself ids number = IsAbove ids number number

-- ---- the first fault

-- no definition is so
abbrev pub NoneIs : (ℕ → Type 0) → Type 0
NoneIs is_so = (number : ℕ) → ¬ is_so number

-- the class of the first definition that is so has this name
pub record NamesFirst (ids : Ids) (is_so : ℕ → Type 0) (name : List ℕ) : Type 0 where
  pub number : ℕ
  pub so : is_so number
  pub before : (earlier : ℕ) → earlier < number → ¬ is_so earlier
  pub named : Defines ids number name

-- what each fault of the classes means
abbrev pub IsClassFault : Ids → List RawClass → ProgramFault → Type 0
IsClassFault ids classes (faults.Duplicate class) = NamesFirst ids (IsDuplicate ids classes) class
IsClassFault ids classes (faults.NoSuperclass class) = NoneIs (IsDuplicate ids classes) × NamesFirst ids (LacksSuperclass ids) class
IsClassFault ids classes (faults.HierarchyCycle class) = NoneIs (IsDuplicate ids classes) × NoneIs (LacksSuperclass ids) × NamesFirst ids (IsAboveItself ids) class
IsClassFault ids classes other = ⊥

-- classes without such a fault
pub record AreSound (ids : Ids) (classes : List RawClass) : Type 0 where
  pub distinct : NoneIs (IsDuplicate ids classes)
  pub extended : NoneIs (LacksSuperclass ids)
  pub ordered : NoneIs (IsAboveItself ids)

-- ---- laws

-- a file's classes have one fault at most
abbrev pub OneClassFault : Type 0
OneClassFault = (ids : Ids) (classes : List RawClass) (this that : ProgramFault) → IsClassFault ids classes this → IsClassFault ids classes that → this ≡ that

-- sound classes have none
abbrev pub SoundClassesHaveNoFault : Type 0
SoundClassesHaveNoFault = (ids : Ids) (classes : List RawClass) (fault : ProgramFault) → AreSound ids classes → ¬ IsClassFault ids classes fault
