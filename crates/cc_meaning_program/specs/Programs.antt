-- The program that a file and a main class give.
use Rattle.std.specs.Prelude.{◌≡◌, ◌↔◌, ℕ, suc, ℤ, pos, ◌<◌, ◌≤◌, Bool, true, false, ◌&&◌, ◌==◌, not, cond, List, [], ◌∷◌, ◌++◌, length, map, reverse, Option, Some, None, is_some, slice_get, option_and_then, position, codes}
use Rattle.std.specs.Str.{bytes_eq}
use Rattle.cc_meaning.specs.declared.file.ClassRow.{ClassRow}
use Rattle.cc_meaning.specs.declared.file.Ids.{Ids}
use Rattle.cc_meaning.specs.declared.file.RawClass.{RawClass}
use Rattle.cc_meaning.specs.declared.file.RawMethod.{RawMethod}
use Rattle.cc_meaning.specs.declared.program.Class.{Class}
use Rattle.cc_meaning.specs.declared.program.Field.{Field}
use Rattle.cc_meaning.specs.declared.program.Method.{Method}
use Rattle.cc_meaning.specs.declared.program.Program.{Program}
use Rattle.cc_meaning.specs.Names.{field_name, method_name, descriptor}
use Rattle.cc_meaning.specs.Order.{MethodsRise, FieldsRise}
use Rattle.cc_meaning_dex.specs.CodeItems.{has_flag}
use Rattle.cc_meaning_program.specs.ClassNames.{AreClassNames, AreTexts}
use Rattle.cc_meaning_program.specs.Definitions.{Defines}
use Rattle.cc_meaning_program.specs.Ancestry.{Ancestry, definition_of, kind_of_class, superclass_named, interfaces_named}
use Rattle.std.specs.List.{flat_map}
use Rattle.cc_meaning_program.specs.Members.{IsMethod, IsField, BelongsMethod, BelongsField}
use Rattle.cc_meaning_program.specs.Resolved.{whole_name, names_of}
use Rattle.cc_meaning.specs.declared.program.StaticValue.{StaticValue}
use Rattle.cc_meaning.specs.declared.program.StaticValue.TheVariants as value
use Rattle.cc_meaning.specs.declared.file.RawField.{RawField}
use Rattle.cc_meaning.specs.declared.instruction.Kind.{Kind}
use Rattle.cc_meaning.specs.declared.instruction.Kind.TheVariants as kinds
use Rattle.cc_meaning.specs.Kinds.{kind_of}
use Rattle.cc_meaning.specs.declared.program.MethodKind.{MethodKind}
use Rattle.cc_meaning.specs.declared.program.MethodKind.TheVariants as body
use Rattle.cc_meaning.specs.Lookup.{class_named, method_named, text_numbered}
use Rattle.cc_meaning_program.specs.Named.{field_member, text_of}
use Rattle.cc_meaning_program.specs.OwnMembers.{method_defined, members_of}

-- ---- classes

unfoldable pub has_class_flag : ℕ → Option ClassRow → Bool
has_class_flag flag None = false
has_class_flag flag (Some stated) = has_flag stated.flags flag

unfoldable pub is_number : Option ℕ → ℕ → Bool
is_number None number = false
is_number (Some other) number = other == number

unfoldable pub same_truth : Bool → Bool → Bool
same_truth true truth = truth
same_truth false truth = not truth

-- the fields from this number on that a class declares itself, static ones or others
unfoldable pub fields_from : ℕ → Option ℕ → Bool → List Field → List ℕ
fields_from number class is_static [] = []
fields_from number class is_static (field ∷ fields) =
    cond (is_number class field.class && same_truth field.is_static is_static) (number ∷ fields_from (suc number) class is_static fields) (fields_from (suc number) class is_static fields)

-- the fields that the class of this name declares itself, in number order
unfoldable pub fields_of : Program → Bool → List ℕ → List ℕ
fields_of program is_static class = fields_from 0 (class_named class program) is_static program.fields

-- ---- static values

-- the value that a class data item's values list for the field of this name: that at its place among the fields
unfoldable pub value_among : Ids → List ℕ → Option RawClass → Option StaticValue
value_among ids member None = None
value_among ids member (Some class) = option_and_then (slice_get class.values) (position (λ (field : RawField). bytes_eq (field_member ids field.row) member) class.fields)

-- a field's name within its class
unfoldable pub field_within_class : Program → Field → List ℕ
field_within_class program field = field.name ++ codes ":" ++ descriptor program field.ty

-- the value that the file lists for a static field of a class
unfoldable pub value_listed : Ids → List RawClass → Program → List ℕ → Option Field → Option StaticValue
value_listed ids classes program class None = None
value_listed ids classes program class (Some field) = value_among ids (field_within_class program field) (members_of ids classes class)

-- what a static field holds for which the file lists no value
unfoldable pub zero_value : Kind → StaticValue
zero_value kinds.Object = value.Null
zero_value kinds.Wide = value.Long (pos 0)
zero_value _ = value.Int (pos 0)

unfoldable pub zero_of_field : Option Field → StaticValue
zero_of_field None = value.Null
zero_of_field (Some field) = zero_value (kind_of field.ty)

-- a listed value in the program: a text by its number
pub data ValueResolved (ids : Ids) (program : Program) : StaticValue → StaticValue → Type 0 where
  int : {number : ℤ} → ValueResolved ids program (value.Int number) (value.Int number)
  long : {number : ℤ} → ValueResolved ids program (value.Long number) (value.Long number)
  null : ValueResolved ids program value.Null value.Null
  text : {row number : ℕ} → text_numbered (text_of ids row) program ≡ Some number → ValueResolved ids program (value.Text row) (value.Text number)

abbrev pub ValueIs : Ids → Program → Option Field → Option StaticValue → StaticValue → Type 0
ValueIs ids program field None held = held ≡ zero_of_field field
ValueIs ids program field (Some listed) held = ValueResolved ids program listed held

-- The values of a class, for its own static fields in number order up to the last for which the file lists one.
pub record AreValues (ids : Ids) (classes : List RawClass) (program : Program) (class : List ℕ) (fields : List ℕ) (values : List StaticValue) : Type 0 where
  pub each : (place field : ℕ) (held : StaticValue) → slice_get fields place ≡ Some field → slice_get values place ≡ Some held → ValueIs ids program (slice_get program.fields field) (value_listed ids classes program class (slice_get program.fields field)) held
  pub few : length values ≤ length fields
  pub all : (place field : ℕ) → slice_get fields place ≡ Some field → length values ≤ place → value_listed ids classes program class (slice_get program.fields field) ≡ None
  pub last : (place field : ℕ) → suc place ≡ length values → slice_get fields place ≡ Some field → value_listed ids classes program class (slice_get program.fields field) ≡ None → ⊥

-- ---- a class

unfoldable pub has_code : MethodKind → Bool
has_code (body.Code code) = true
has_code other = false

unfoldable pub is_run : Option Method → Bool
is_run None = false
is_run (Some method) = method.is_static && has_code method.kind

-- the static method with code of this whole name
unfoldable pub static_with_code : Program → List ℕ → Option ℕ
static_with_code program name = option_and_then (λ number. cond (is_run (slice_get program.methods number)) (Some number) None) (method_named name program)

pub record IsClass (ids : Ids) (classes : List RawClass) (program : Program) (number : ℕ) (class : Class) : Type 0 where
  pub kind : class.kind ≡ kind_of_class ids class.name
  pub superclass : class.superclass ≡ option_and_then (λ name. class_named name program) (superclass_named ids class.name)
  pub interfaces : map Some class.interfaces ≡ map (λ name. class_named name program) (interfaces_named ids class.name)
  pub is_interface : class.is_interface ≡ has_class_flag 512 (definition_of ids class.name)
  pub is_abstract : class.is_abstract ≡ has_class_flag 1024 (definition_of ids class.name)
  pub ancestors : List (List ℕ)
  pub ancestry : Ancestry ids class.name ancestors
  -- the fields of the topmost class first
  pub layout : class.layout ≡ flat_map (fields_of program false) (reverse ancestors)
  pub initialiser : class.initialiser ≡ static_with_code program (whole_name class.name (codes "<clinit>()V"))
  pub values : AreValues ids classes program class.name (fields_of program true class.name) class.values

-- ---- the main method

unfoldable pub main_member : List ℕ
main_member = codes "main([Ljava/lang/String;)V"

-- a class of the file defines a static `main` with code
abbrev pub HasMain : Ids → List RawClass → List ℕ → Type 0
HasMain ids classes class = (raw : RawMethod) × (method_defined ids classes class main_member ≡ Some raw) × (has_flag raw.flags 8 ≡ true) × (is_some raw.code ≡ true)

-- the class whose `main` the program begins with: the one that is asked for, or else the first of the file that has one
pub data IsMainClass (ids : Ids) (classes : List RawClass) : Option (List ℕ) → List ℕ → Type 0 where
  asked : {class : List ℕ} → HasMain ids classes class → IsMainClass ids classes (Some class) class
  first : {number : ℕ} {class : List ℕ} → Defines ids number class → HasMain ids classes class → ((earlier : ℕ) (other : List ℕ) → earlier < number → Defines ids earlier other → ¬ HasMain ids classes other) → IsMainClass ids classes None class

-- ---- the program

-- a method of a program, by its whole name
abbrev pub HasMethod : Program → List ℕ → Type 0
HasMethod program name = (number : ℕ) × (method : Method) × (slice_get program.methods number ≡ Some method) × (method_name program method ≡ name)

abbrev pub HasField : Program → List ℕ → Type 0
HasField program name = (number : ℕ) × (field : Field) × (slice_get program.fields number ≡ Some field) × (field_name program field ≡ name)

-- the whole name of a method that belongs to the program
abbrev pub IsMethodOf : Ids → List RawClass → List ℕ → Type 0
IsMethodOf ids classes name = (owner : List ℕ) × (member : List ℕ) × (name ≡ whole_name owner member) × BelongsMethod ids classes owner member

abbrev pub IsFieldOf : Ids → List RawClass → List ℕ → Type 0
IsFieldOf ids classes name = (owner : List ℕ) × (member : List ℕ) × (name ≡ whole_name owner member) × BelongsField ids classes owner member

-- The program of a file's tables and classes with a main class, where one is asked for: its classes, methods, fields and texts, each list in rising order of names,
-- each once.
pub record IsProgram (ids : Ids) (classes : List RawClass) (asked : Option (List ℕ)) (program : Program) : Type 0 where
  pub class_names : AreClassNames ids (names_of program)
  pub each_class : (number : ℕ) (class : Class) → slice_get program.classes number ≡ Some class → IsClass ids classes program number class
  pub methods_rise : MethodsRise program
  pub methods : (name : List ℕ) → HasMethod program name ↔ IsMethodOf ids classes name
  pub each_method : (number : ℕ) (method : Method) → slice_get program.methods number ≡ Some method → (owner : List ℕ) × (member : List ℕ) × (class_named owner program ≡ Some method.class) × (method_name program method ≡ whole_name owner member) × IsMethod ids classes program owner member method
  pub fields_rise : FieldsRise program
  pub fields : (name : List ℕ) → HasField program name ↔ IsFieldOf ids classes name
  pub each_field : (number : ℕ) (field : Field) → slice_get program.fields number ≡ Some field → (owner : List ℕ) × (member : List ℕ) × (class_named owner program ≡ Some field.class) × (field_name program field ≡ whole_name owner member) × IsField ids classes program owner member field
  pub texts : AreTexts ids program.texts
  pub main_class : List ℕ
  pub main_is : IsMainClass ids classes asked main_class
  pub main : method_named (whole_name main_class main_member) program ≡ Some program.main
