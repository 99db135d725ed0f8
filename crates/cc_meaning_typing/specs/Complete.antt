-- What a reader promises of every program beside its form: names in order, numbers of 32 bits that name what is there, where each class stands, the built-in
-- classes, and that each built-in method is one of the table.
use Rattle.std.specs.Prelude.{◌≡◌, ◌≢◌, ◌⊎◌, ℕ, ◌<◌, ◌≤◌, ◌^◌, true, false, List, [], length, map, Option, Some, None, option_and_then, slice_get, Contains, codes}
use Rattle.cc_meaning.specs.declared.instruction.Insn.{Insn}
use Rattle.cc_meaning.specs.declared.instruction.Insn.TheVariants as insn
use Rattle.cc_meaning.specs.declared.instruction.MethodRef.{MethodRef}
use Rattle.cc_meaning.specs.declared.instruction.MethodRef.TheVariants as ref
use Rattle.cc_meaning.specs.declared.instruction.TypeRef.{TypeRef}
use Rattle.cc_meaning.specs.declared.instruction.TypeRef.TheVariants as type
use Rattle.cc_meaning.specs.declared.program.Base.{Base}
use Rattle.cc_meaning.specs.declared.program.Base.TheVariants as base
use Rattle.cc_meaning.specs.declared.program.Catch.{Catch}
use Rattle.cc_meaning.specs.declared.program.Class.{Class}
use Rattle.cc_meaning.specs.declared.program.ClassKind.TheVariants as origin
use Rattle.cc_meaning.specs.declared.program.Code.{Code}
use Rattle.cc_meaning.specs.declared.program.DexType.{DexType}
use Rattle.cc_meaning.specs.declared.program.Field.{Field}
use Rattle.cc_meaning.specs.declared.program.Method.{Method}
use Rattle.cc_meaning.specs.declared.program.MethodKind.TheVariants as kinds
use Rattle.cc_meaning.specs.declared.program.Placed.{Placed}
use Rattle.cc_meaning.specs.declared.program.Program.{Program}
use Rattle.cc_meaning.specs.declared.program.StaticValue.{StaticValue}
use Rattle.cc_meaning.specs.declared.program.StaticValue.TheVariants as static
use Rattle.cc_meaning.specs.declared.program.Try.{Try}
use Rattle.cc_meaning.specs.BuiltIn.{is_built_in, built_in_superclass, object_name, string_name, string_builder_name, exception_name, error_name}
use Rattle.cc_meaning.specs.Lookup.{class_named}
use Rattle.cc_meaning.specs.Names.{class_name, descriptor, result_descriptor}
use Rattle.cc_meaning.specs.Order.{IsInOrder}
use Rattle.cc_built_in.specs.BuiltInMethods.{BuiltInMethod, BuiltInMethods, built_in_method, built_in_tables}
use Rattle.cc_meaning_typing.specs.WellFormed.{IsWellFormed}

-- ---- numbers

-- numbers of 32 bits count the methods, fields and texts, as they do the classes
pub record HasFewParts (program : Program) : Type 0 where
  pub methods : length program.methods ≤ 2 ^ 32
  pub fields : length program.fields ≤ 2 ^ 32
  pub texts : length program.texts ≤ 2 ^ 32

-- a base is a number's, or that of a class which is there and is no array
abbrev pub BaseStands : Program → Base → Type 0
BaseStands program (base.Class class) = (found : Class) × (slice_get program.classes class ≡ Some found) × (found.kind ≢ origin.Array)
BaseStands program other = Unit {0}

pub record TypeStands (program : Program) (type : DexType) : Type 0 where
  pub few : type.dims ≤ 255
  pub base : BaseStands program type.base

-- a result, or a handler's type
abbrev pub AnyTypeStands : Program → Option DexType → Type 0
AnyTypeStands program None = Unit {0}
AnyTypeStands program (Some type) = TypeStands program type

-- an array of which an instruction speaks is a class of the program
abbrev pub ArrayStands : Program → DexType → Type 0
ArrayStands program named = 0 < named.dims → (class : ℕ) × (class_named (descriptor program named) program ≡ Some class)

abbrev pub NamedStands : Program → TypeRef → Type 0
NamedStands program (type.Row row) = ⊥
NamedStands program (type.Known named) = TypeStands program named × ArrayStands program named

abbrev pub CalledStands : Program → MethodRef → Type 0
CalledStands program (ref.Row row) = ⊥
CalledStands program (ref.Known class method) = (class < length program.classes) × (method < length program.methods)

-- what an instruction names is there
abbrev pub InsnStands : Program → Insn → Type 0
InsnStands program (insn.ConstText to text) = text < length program.texts
InsnStands program (insn.ConstClass to named) = NamedStands program named
InsnStands program (insn.CheckCast object named) = NamedStands program named
InsnStands program (insn.InstanceOf to object named) = NamedStands program named
InsnStands program (insn.NewInstance to named) = NamedStands program named
InsnStands program (insn.NewArray to size named) = NamedStands program named
InsnStands program (insn.FilledNewArray named args) = NamedStands program named
InsnStands program (insn.FieldGet kind to object field) = field < length program.fields
InsnStands program (insn.FieldPut kind from object field) = field < length program.fields
InsnStands program (insn.StaticGet kind to field) = field < length program.fields
InsnStands program (insn.StaticPut kind from field) = field < length program.fields
InsnStands program (insn.Invoke how named args) = CalledStands program named
InsnStands program other = Unit {0}

pub record CodeStands (program : Program) (code : Code) : Type 0 where
  pub insns : (k : ℕ) (placed : Placed) → slice_get code.insns k ≡ Some placed → InsnStands program placed.insn
  pub catches : (k n : ℕ) (try : Try) (catch : Catch) → slice_get code.tries k ≡ Some try → slice_get try.catches n ≡ Some catch → AnyTypeStands program catch.kind

-- a method is of a class that is there, and so are its types and what its code names
pub record MethodStands (program : Program) (method : Method) : Type 0 where
  pub class : method.class < length program.classes
  pub params : (k : ℕ) (type : DexType) → slice_get method.params k ≡ Some type → TypeStands program type
  pub result : AnyTypeStands program method.result
  pub code : (code : Code) → method.kind ≡ kinds.Code code → CodeStands program code

pub record FieldStands (program : Program) (field : Field) : Type 0 where
  pub class : field.class < length program.classes
  pub ty : TypeStands program field.ty

abbrev pub ValueStands : Program → StaticValue → Type 0
ValueStands program (static.Text text) = text < length program.texts
ValueStands program other = Unit {0}

-- ---- classes

-- a class of the file may be below this one: it is no array, no interface of the file, and neither String nor StringBuilder
pub record IsOpen (class : Class) : Type 0 where
  pub no_array : class.kind ≢ origin.Array
  pub no_interface : class.is_interface ≡ false
  pub no_text : class.name ≢ string_name
  pub no_builder : class.name ≢ string_builder_name

-- what a class is below, by where it comes from
pub record IsBelowAnother (program : Program) (class : Class) : Type 0 where
  pub of_file : class.kind ≡ origin.File → (above : ℕ) × (parent : Class) × (class.superclass ≡ Some above) × (slice_get program.classes above ≡ Some parent) × IsOpen parent
  pub built_in : class.kind ≡ origin.BuiltIn → class.superclass ≡ option_and_then (λ name. class_named name program) (built_in_superclass class.name)
  pub outside : class.kind ≡ origin.Outside → class.superclass ≡ class_named object_name program
  pub outside_error : class.kind ≡ origin.OutsideError → (class.superclass ≡ class_named exception_name program) ⊎ (class.superclass ≡ class_named error_name program)
  pub array : class.kind ≡ origin.Array → class.superclass ≡ class_named object_name program

-- a class names classes, fields, methods and texts that are there, and only one of the file is an interface
pub record ClassStands (program : Program) (class : Class) : Type 0 where
  pub superclass : (above : ℕ) → class.superclass ≡ Some above → above < length program.classes
  pub interfaces : (k interface : ℕ) → slice_get class.interfaces k ≡ Some interface → interface < length program.classes
  pub initialiser : (method : ℕ) → class.initialiser ≡ Some method → method < length program.methods
  pub values : (k : ℕ) (value : StaticValue) → slice_get class.values k ≡ Some value → ValueStands program value
  pub only_file : class.kind ≢ origin.File → class.is_interface ≡ false
  pub below : IsBelowAnother program class

-- the built-in class of a name is in the program, and is told to be built in
abbrev pub HasBuiltIn : Program → List ℕ → Type 0
HasBuiltIn program name = (number : ℕ) × (class : Class) × (class_named name program ≡ Some number) × (slice_get program.classes number ≡ Some class) × (class.name ≡ name) × (class.kind ≡ origin.BuiltIn)

-- ---- the table of built-in methods

-- a method is the one that a row tells of: its name, its types by their descriptors, and it has a receiver
pub record IsRow (program : Program) (row : BuiltInMethod) (method : Method) : Type 0 where
  pub name : method.name ≡ row.name
  pub params : map (descriptor program) method.params ≡ row.params
  pub result : result_descriptor program method.result ≡ row.result
  pub dynamic : method.is_static ≡ false

-- each array has a copy of itself made
abbrev pub copy_row : List ℕ → BuiltInMethod
copy_row class = built_in_method class (codes "clone") [] object_name

-- a row of the table of the method's class, or the copying of an array
pub data IsBuiltInMethod (program : Program) (method : Method) : Type 0 where
  listed : {table : BuiltInMethods} {row : BuiltInMethod} → Contains built_in_tables table → table.class ≡ class_name program method.class → Contains table.methods row → IsRow program row method → IsBuiltInMethod program method
  copies : {class : Class} → slice_get program.classes method.class ≡ Some class → class.kind ≡ origin.Array → IsRow program (copy_row class.name) method → IsBuiltInMethod program method

-- ---- the program

-- the method that a program begins with is there, is static and has code
pub record HasMain (program : Program) : Type 0 where
  pub method : Method
  pub code : Code
  pub there : slice_get program.methods program.main ≡ Some method
  pub is_static : method.is_static ≡ true
  pub kind : method.kind ≡ kinds.Code code

pub record IsComplete (program : Program) : Type 0 where
  pub well_formed : IsWellFormed program
  pub in_order : IsInOrder program
  pub few : HasFewParts program
  pub built_in : (name : List ℕ) → is_built_in name ≡ true → HasBuiltIn program name
  pub built_in_only : (number : ℕ) (class : Class) → slice_get program.classes number ≡ Some class → class.kind ≡ origin.BuiltIn → is_built_in class.name ≡ true
  pub classes : (number : ℕ) (class : Class) → slice_get program.classes number ≡ Some class → ClassStands program class
  pub methods : (number : ℕ) (method : Method) → slice_get program.methods number ≡ Some method → MethodStands program method
  pub fields : (number : ℕ) (field : Field) → slice_get program.fields number ≡ Some field → FieldStands program field
  -- code belongs to classes of the file
  pub owners : (number : ℕ) (method : Method) (code : Code) → slice_get program.methods number ≡ Some method → method.kind ≡ kinds.Code code →
      (class : Class) × (slice_get program.classes method.class ≡ Some class) × (class.kind ≡ origin.File)
  pub rows : (number : ℕ) (method : Method) → slice_get program.methods number ≡ Some method → method.kind ≡ kinds.BuiltIn → IsBuiltInMethod program method
  pub main : HasMain program
