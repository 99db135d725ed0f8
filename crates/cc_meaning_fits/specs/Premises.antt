-- What soundness needs of a program beside being well typed: what linking gives of classes, fields, built-in names and resolution. Much of it is meant to follow
-- from a reader's promises (`IsComplete` of the typing); nothing here is about what a run does.
use Rattle.std.specs.Str.{bytes_eq}
use Rattle.cc_meaning.specs.declared.program.Base.{Base}
use Rattle.cc_meaning.specs.declared.program.Base.TheVariants as base
use Rattle.cc_meaning.specs.declared.program.Class.{Class}
use Rattle.std.specs.Prelude.{◌≡◌, ℕ, true, false, List, [], ◌∷◌, Option, Some, None, slice_get, All}
use Rattle.cc_meaning.specs.declared.instruction.How.TheVariants as how
use Rattle.cc_meaning.specs.declared.instruction.Insn.{Insn}
use Rattle.cc_meaning.specs.declared.instruction.Insn.TheVariants as insn
use Rattle.cc_meaning.specs.declared.instruction.MethodRef.TheVariants as ref
use Rattle.cc_meaning.specs.declared.instruction.TypeRef.TheVariants as type
use Rattle.cc_meaning.specs.declared.program.Code.{Code}
use Rattle.cc_meaning.specs.declared.program.DexType.{DexType}
use Rattle.cc_meaning.specs.declared.program.Field.{Field}
use Rattle.cc_meaning.specs.declared.program.Method.{Method}
use Rattle.cc_meaning.specs.declared.program.MethodKind.TheVariants as kinds
use Rattle.cc_meaning.specs.declared.program.Placed.{Placed}
use Rattle.cc_meaning.specs.declared.program.Program.{Program}
use Rattle.cc_meaning.specs.declared.program.RegType.TheVariants.{Int, LongLow, Reference}
use Rattle.cc_meaning.specs.declared.report.Answer.{Answer}
use Rattle.cc_meaning.specs.declared.report.Answer.TheVariants as answer
use Rattle.cc_meaning.specs.declared.script.Given.{Given}
use Rattle.cc_meaning.specs.declared.script.Script.{Script}
use Rattle.cc_meaning.specs.declared.script.ScriptClass.{ScriptClass}
use Rattle.cc_meaning.specs.declared.program.StaticValue.{StaticValue}
use Rattle.cc_meaning.specs.declared.program.StaticValue.TheVariants as static
use Rattle.cc_meaning_typing.specs.Registers.{register_of}
use Rattle.cc_meaning.specs.BuiltIn.{object_name, string_name, string_builder_name, print_stream_name, null_pointer_exception_name, array_index_out_of_bounds_exception_name, array_store_exception_name, class_cast_exception_name, abstract_method_error_name, incompatible_class_change_error_name, no_class_def_found_error_name, exception_in_initializer_error_name, stack_overflow_error_name, string_index_out_of_bounds_exception_name, arithmetic_exception_name, negative_array_size_exception_name, throwable_name, system_out_name}
use Rattle.cc_meaning.specs.Lookup.{class_named}
use Rattle.cc_meaning.specs.Names.{field_name}
use Rattle.cc_meaning_typing.specs.Hierarchy.{superclass_of, object_class, IsHierarchy, Inherits}
use Rattle.cc_meaning_typing.specs.Types.{array_of, typed, class_type, object_type, held, is_loose, IsBelow}
use Rattle.cc_meaning_typing.specs.Code.{is_array, string_type, throwable_type, type_of_class}
use Rattle.cc_meaning_typing.specs.Rules.{is_constructor}
use Rattle.cc_meaning_typing.specs.WellTyped.{can_be_made, is_file_class, is_file_interface}
use Rattle.cc_meaning_rows.specs.declared.builtin.BuiltIn.{BuiltIn}
use Rattle.cc_meaning_rows.specs.declared.builtin.BuiltIn.TheVariants as row
use Rattle.cc_meaning_rows.specs.declared.builtin.Printed.{Printed}
use Rattle.cc_meaning_rows.specs.declared.builtin.Printed.TheVariants as form
use Rattle.cc_meaning_exec.specs.Arrays.{array_class}
use Rattle.cc_meaning_exec.specs.Starts.{statics_from, stated_in, initialiser_in}
use Rattle.cc_meaning_fits.specs.Fits.{IsInstanceClass}
use Rattle.cc_meaning_rows.specs.Rows.{built_in}
use Rattle.cc_meaning_world.specs.Layouts.{shape, slot}
use Rattle.cc_meaning_world.specs.Opening.{texts_class}
use Rattle.cc_meaning_world.specs.Sorts.{number_of}

-- the classes of the exceptions that the interpreter raises
pub data IsRaised : List ℕ → Type 0 where
  null_pointer : IsRaised null_pointer_exception_name
  out_of_bounds : IsRaised array_index_out_of_bounds_exception_name
  array_store : IsRaised array_store_exception_name
  class_cast : IsRaised class_cast_exception_name
  abstract_method : IsRaised abstract_method_error_name
  incompatible : IsRaised incompatible_class_change_error_name
  arithmetic : IsRaised arithmetic_exception_name
  negative_size : IsRaised negative_array_size_exception_name
  text_bounds : IsRaised string_index_out_of_bounds_exception_name
  no_class : IsRaised no_class_def_found_error_name
  in_initializer : IsRaised exception_in_initializer_error_name
  stack_overflow : IsRaised stack_overflow_error_name

-- the classes of the objects that are neither instances nor arrays
pub data IsPlain : List ℕ → Type 0 where
  object_itself : IsPlain object_name
  string : IsPlain string_name
  string_builder : IsPlain string_builder_name
  print_stream : IsPlain print_stream_name

-- the class is in the program, is throwable, and its instances have a message alone
pub record Raisable (p : Program) (name : List ℕ) : Type 0 where
  pub class : ℕ
  pub named : class_named name p ≡ Some class
  pub shaped : shape p class ≡ string_type p ∷ []
  pub below : IsBelow p (held p (class_type class)) (throwable_type p)
  pub made : IsInstanceClass p class

-- the class that is named for a new instance isn't that of an array, which is named by dimensions
abbrev pub MadeType : Program → Base → Type 0
MadeType p (base.Class class) = type_of_class p class ≡ class_type class
MadeType p _ = Unit {0}

-- an array type that is named is a class of the program
abbrev pub ArrayNamed : Program → DexType → Type 0
ArrayNamed p named = is_array named ≡ true → (class : ℕ) × (array_class p named ≡ Some class) × (type_of_class p class ≡ named)

-- what an instruction makes by a type is of that type: an instance of no array's class, an array of a class of the program
abbrev pub MakesNamed : Program → Insn → Type 0
MakesNamed p (insn.NewInstance to (type.Known named)) = MadeType p named.base
MakesNamed p (insn.NewArray to size (type.Known named)) = ArrayNamed p named
MakesNamed p (insn.FilledNewArray (type.Known named) args) = ArrayNamed p named
MakesNamed p _ = Unit {0}

-- a constructor that a direct call names is one of the named class or of a class above it, where that is no interface
abbrev pub ConstructsNamed : Program → Insn → Type 0
ConstructsNamed p (insn.Invoke how.Direct (ref.Known class m) args) =
    (callee : Method) → slice_get p.methods m ≡ Some callee → is_constructor callee ≡ true → is_file_interface (slice_get p.classes class) ≡ false → IsBelow p (held p (class_type class)) (held p (type_of_class p callee.class))
ConstructsNamed p _ = Unit {0}

-- Each constructor that code names belongs to the named class or to a class above it. It stands apart from what linking gives: resolution looks through the
-- classes that a class lists as its interfaces, and nothing says that these are interfaces, so what a file spells doesn't rule out a constructor of one of them.
abbrev pub ConstructorsStand : Program → Type 0
ConstructorsStand p = (m : ℕ) (method : Method) (code : Code) → slice_get p.methods m ≡ Some method → method.kind ≡ kinds.Code code → All (λ (placed : Placed). ConstructsNamed p placed.insn) code.insns

-- ---- the built-in methods

-- the type of what is printed in a form
unfoldable pub printed_type : Program → Printed → DexType
printed_type p form.Boolean = typed 0 base.Boolean
printed_type p form.Char = typed 0 base.Char
printed_type p form.Int = typed 0 base.Int
printed_type p form.Long = typed 0 base.Long
printed_type p form.Text = string_type p

-- what the table's text says of a method, in types: its class, its parameters and its result
abbrev pub Signature : Program → BuiltIn → Method → Type 0
Signature p row.Construct c = (c.params ≡ []) × (c.result ≡ None)
Signature p row.ConstructThrowable c = (c.params ≡ []) × (c.result ≡ None) × IsBelow p (held p (type_of_class p c.class)) (throwable_type p)
Signature p row.ConstructThrowableWith c = (c.params ≡ string_type p ∷ []) × (c.result ≡ None) × IsBelow p (held p (type_of_class p c.class)) (throwable_type p)
Signature p row.Message c = (c.params ≡ []) × (c.result ≡ Some (string_type p)) × IsBelow p (held p (type_of_class p c.class)) (throwable_type p)
Signature p row.IsSameObject c = (c.params ≡ object_type p ∷ []) × (c.result ≡ Some (typed 0 base.Boolean))
Signature p row.TextLength c = (c.params ≡ []) × (c.result ≡ Some (typed 0 base.Int)) × (c.class ≡ number_of p string_name)
Signature p row.CharAt c = (c.params ≡ typed 0 base.Int ∷ []) × (c.result ≡ Some (typed 0 base.Char)) × (c.class ≡ number_of p string_name)
Signature p row.IsEqualText c = (c.params ≡ object_type p ∷ []) × (c.result ≡ Some (typed 0 base.Boolean)) × (c.class ≡ number_of p string_name)
Signature p row.ConstructBuilder c = (c.params ≡ string_type p ∷ []) × (c.result ≡ None) × (c.class ≡ number_of p string_builder_name)
Signature p (row.Append f) c = (c.params ≡ printed_type p f ∷ []) × (c.result ≡ Some (class_type (number_of p string_builder_name))) × (c.class ≡ number_of p string_builder_name)
Signature p row.BuiltText c = (c.params ≡ []) × (c.result ≡ Some (string_type p)) × (c.class ≡ number_of p string_builder_name)
Signature p (row.Print f) c = (c.params ≡ printed_type p f ∷ []) × (c.result ≡ None)
Signature p (row.PrintLine f) c = (c.params ≡ printed_type p f ∷ []) × (c.result ≡ None)
Signature p row.EndLine c = (c.params ≡ []) × (c.result ≡ None)
Signature p row.CloneArray c = (c.params ≡ []) × (c.result ≡ Some (object_type p)) × ((element : DexType) × (type_of_class p c.class ≡ array_of element))

-- a built-in method is a row of the table, with the types that the row's text says, and it has a receiver
pub record HasRow (p : Program) (callee : Method) : Type 0 where
  pub does : BuiltIn
  pub is : built_in p callee ≡ Some does
  pub signature : Signature p does callee
  pub dynamic : callee.is_static ≡ false

-- ---- static values

-- a stated value fits the type of its field
abbrev pub StatedFits : Program → DexType → StaticValue → Type 0
StatedFits p type (static.Int n) = register_of p type ≡ Int
StatedFits p type (static.Long n) = register_of p type ≡ LongLow
StatedFits p type static.Null = register_of p type ≡ Reference (held p type)
StatedFits p type (static.Text text) = type ≡ string_type p

-- the same, where there is such a field
abbrev pub StatedIn : Program → Option Field → StaticValue → Type 0
StatedIn p None v = ⊥
StatedIn p (Some field) v = StatedFits p field.ty v

-- and so for all fields that take a value
abbrev pub AllStated : Program → List ℕ → List StaticValue → Type 0
AllStated p (f ∷ fs) (v ∷ vs) = StatedIn p (slice_get p.fields f) v × AllStated p fs vs
AllStated p fs vs = Unit {0}

-- an initialiser is a static method with code, no parameters and no result
pub record Initialises (p : Program) (m : ℕ) : Type 0 where
  pub method : Method
  pub code : Code
  pub there : slice_get p.methods m ≡ Some method
  pub kind : method.kind ≡ kinds.Code code
  pub static_one : method.is_static ≡ true
  pub params : method.params ≡ []

-- ---- the program

-- A program is linked: what its classes, fields and methods name is what the meaning takes it for.
pub record IsLinked (p : Program) : Type 0 where
  pub hierarchy : IsHierarchy p
  pub raised : (name : List ℕ) → IsRaised name → Raisable p name
  -- a loose class that is no interface has no class above it but Object
  pub loose : (class above : ℕ) → is_loose p class ≡ true → is_file_interface (slice_get p.classes class) ≡ false → superclass_of p class ≡ Some above → above ≡ object_class p
  -- above the classes of texts, builders and the like is no class of the file, and they are no interfaces
  pub plain : (name : List ℕ) → IsPlain name → is_file_interface (slice_get p.classes (number_of p name)) ≡ false
  pub above_plain : (name : List ℕ) (class : ℕ) → IsPlain name → Inherits p (number_of p name) class → is_file_class (slice_get p.classes class) ≡ false
  -- a field of instances has a place, of its type, in each class of instances that has its class above
  pub slots : (f : ℕ) (field : Field) (class : ℕ) → IsInstanceClass p class → slice_get p.fields f ≡ Some field → field.is_static ≡ false → is_file_class (slice_get p.classes field.class) ≡ true → Inherits p class field.class →
      (i : ℕ) × (slot p class f ≡ Some i) × (slice_get (shape p class) i ≡ Some field.ty)
  -- a method with code belongs to a class that is no array
  pub owners : (m : ℕ) (method : Method) (code : Code) → slice_get p.methods m ≡ Some method → method.kind ≡ kinds.Code code → type_of_class p method.class ≡ class_type method.class
  -- what code makes by a type is of that type
  pub makes : (m : ℕ) (method : Method) (code : Code) → slice_get p.methods m ≡ Some method → method.kind ≡ kinds.Code code → All (λ (placed : Placed). MakesNamed p placed.insn) code.insns
  -- arrays' classes: none is above another class, each has its type's name, and Object alone is above it
  pub plain_type : (name : List ℕ) → IsPlain name → type_of_class p (number_of p name) ≡ class_type (number_of p name)
  pub above_type : (class above : ℕ) → superclass_of p class ≡ Some above → type_of_class p above ≡ class_type above
  pub array_classes : (array class : ℕ) → is_array (type_of_class p array) ≡ true → array_class p (type_of_class p array) ≡ Some class → (type_of_class p class ≡ type_of_class p array) × (superclass_of p class ≡ Some (object_class p))
  -- each built-in method is one of the table
  pub rows : (m : ℕ) (callee : Method) → slice_get p.methods m ≡ Some callee → callee.kind ≡ kinds.BuiltIn → HasRow p callee
  -- String and StringBuilder are held as themselves, and no class is below them
  pub text_held : is_loose p (number_of p string_name) ≡ false
  pub builder_held : is_loose p (number_of p string_builder_name) ≡ false
  pub text_closed : (class : ℕ) → Inherits p class (number_of p string_name) → class ≡ number_of p string_name
  pub builder_closed : (class : ℕ) → Inherits p class (number_of p string_builder_name) → class ≡ number_of p string_builder_name
  pub text_named : (class : Class) → slice_get p.classes (number_of p string_name) ≡ Some class → bytes_eq class.name string_name ≡ true
  -- the plain classes are different ones
  pub text_object : number_of p string_name ≡ object_class p → ⊥
  pub builder_object : number_of p string_builder_name ≡ object_class p → ⊥
  pub text_builder : number_of p string_name ≡ number_of p string_builder_name → ⊥
  pub text_stream : number_of p string_name ≡ number_of p print_stream_name → ⊥
  pub builder_stream : number_of p string_builder_name ≡ number_of p print_stream_name → ⊥
  -- Throwable is held as itself, no plain class is below it, and an instance of a class below it has its message first
  pub throwable_held : is_loose p (number_of p throwable_name) ≡ false
  pub throwable_object : number_of p throwable_name ≡ object_class p → ⊥
  pub throwable_plain : (name : List ℕ) → IsPlain name → Inherits p (number_of p name) (number_of p throwable_name) → ⊥
  pub messages : (class : ℕ) → IsInstanceClass p class → Inherits p class (number_of p throwable_name) → slice_get (shape p class) 0 ≡ Some (string_type p)
  -- the stated values fit their fields, and initialisers are static methods without parameters
  pub stated : (class : ℕ) → AllStated p (statics_from class 0 p.fields) (stated_in (slice_get p.classes class))
  pub initialisers : (class m : ℕ) → initialiser_in (slice_get p.classes class) ≡ Some m → Initialises p m

-- ---- scripts

-- a method's result is a reference, of a type that takes something
abbrev pub ReferenceResult : Program → Option DexType → (DexType → Type 0) → Type 0
ReferenceResult p result Takes = (type : DexType) × (result ≡ Some type) × (register_of p type ≡ Reference (held p type)) × Takes type

-- an answer fits a method's result: a number of its width, null or a text or an object where one is below it; an exception is always taken
abbrev pub AnswerFits : Program → Option DexType → Answer → Type 0
AnswerFits p result answer.Nothing = result ≡ None
AnswerFits p result (answer.Int n) = (type : DexType) × (result ≡ Some type) × (register_of p type ≡ Int)
AnswerFits p result (answer.Long n) = (type : DexType) × (result ≡ Some type) × (register_of p type ≡ LongLow)
AnswerFits p result answer.Null = ReferenceResult p result (λ type. Unit {0})
AnswerFits p result (answer.Text units) = ReferenceResult p result (λ type. IsBelow p (held p (string_type p)) (held p type))
AnswerFits p result (answer.Instance class) = (can_be_made (slice_get p.classes class) ≡ true) × (type_of_class p class ≡ class_type class) × ReferenceResult p result (λ type. IsBelow p (held p (class_type class)) (held p type))
AnswerFits p result (answer.Throws class) = (can_be_made (slice_get p.classes class) ≡ true) × (type_of_class p class ≡ class_type class) × IsBelow p (held p (class_type class)) (throwable_type p)

-- what is given for a method fits its result
abbrev pub GivenFits : Program → Given → Type 0
GivenFits p given = (callee : Method) → slice_get p.methods given.method ≡ Some callee → AnswerFits p callee.result given.answer

-- and so does each of these
abbrev pub AllGivenFit : Program → List Given → Type 0
AllGivenFit p [] = Unit {0}
AllGivenFit p (g ∷ gs) = GivenFits p g × AllGivenFit p gs

-- all that a script gives for these classes fits
abbrev pub AllClassesFit : Program → List ScriptClass → Type 0
AllClassesFit p [] = Unit {0}
AllClassesFit p (c ∷ cs) = AllGivenFit p c.free × AllGivenFit p c.answers × AllClassesFit p cs

-- each answer of a script fits the result of its method
abbrev pub ScriptFits : Program → Script → Type 0
ScriptFits p script = AllClassesFit p script.classes

-- the field of the standard output has the type of its object
abbrev pub OutFits : Program → Type 0
OutFits p = (f : ℕ) (field : Field) → slice_get p.fields f ≡ Some field → bytes_eq (field_name p field) system_out_name ≡ true → field.ty ≡ class_type (number_of p print_stream_name)

-- main is a static method with code that takes an array of texts
pub record MainFits (p : Program) : Type 0 where
  pub method : Method
  pub code : Code
  pub there : slice_get p.methods p.main ≡ Some method
  pub kind : method.kind ≡ kinds.Code code
  pub static_one : method.is_static ≡ true
  pub params : method.params ≡ array_of (string_type p) ∷ []
  pub texts : type_of_class p (texts_class p) ≡ array_of (string_type p)
