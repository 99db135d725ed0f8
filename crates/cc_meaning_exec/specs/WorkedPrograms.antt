-- Small programs for worked examples, and what a method of one comes to.
use Rattle.std.specs.Prelude.{ℕ, zero, suc, ◌+◌, ◌^◌, ℤ, pos, Bool, true, false, List, [], ◌∷◌, ◌++◌, length, map, position, codes, Option, Some, None, option_map, option_and_then, slice_get}
use Rattle.std.specs.Str.{bytes_eq}
use Rattle.cc_meaning.specs.declared.instruction.Insn.{Insn}
use Rattle.cc_meaning.specs.declared.program.Base.{Base}
use Rattle.cc_meaning.specs.declared.program.Base.TheVariants as base
use Rattle.cc_meaning.specs.declared.program.Catch.{Catch}
use Rattle.cc_meaning.specs.declared.program.Class.{Class}
use Rattle.cc_meaning.specs.declared.program.ClassKind.{ClassKind}
use Rattle.cc_meaning.specs.declared.program.ClassKind.TheVariants as origin
use Rattle.cc_meaning.specs.declared.program.Code.{Code}
use Rattle.cc_meaning.specs.declared.program.DexType.{DexType}
use Rattle.cc_meaning.specs.declared.program.Field.{Field}
use Rattle.cc_meaning.specs.declared.program.Method.{Method}
use Rattle.cc_meaning.specs.declared.program.MethodKind.{MethodKind}
use Rattle.cc_meaning.specs.declared.program.MethodKind.TheVariants as kinds
use Rattle.cc_meaning.specs.declared.program.Placed.{Placed}
use Rattle.cc_meaning.specs.declared.program.Program.{Program}
use Rattle.cc_meaning.specs.declared.program.Try.{Try}
use Rattle.cc_meaning.specs.declared.report.Limits.{Limits}
use Rattle.cc_meaning.specs.declared.report.StopCause.{StopCause}
use Rattle.cc_meaning.specs.declared.script.Script.{Script}
use Rattle.cc_meaning.specs.declared.value.Object.{Object}
use Rattle.cc_meaning.specs.declared.value.Object.TheVariants as object
use Rattle.cc_meaning.specs.declared.value.Value.{Value}
use Rattle.cc_meaning.specs.declared.value.Value.TheVariants as value
use Rattle.cc_meaning.specs.BuiltIn.{object_name, BuiltInClass, built_in_classes}
use Rattle.cc_meaning.specs.Names.{class_name}
use Rattle.cc_meaning_world.specs.World.{World}
use Rattle.cc_meaning_world.specs.Opening.{opening_world}
use Rattle.cc_meaning_exec.specs.Frames.{no_frames}
use Rattle.cc_meaning_exec.specs.Exceptions.{Returned, Thrown, Stopped, Jammed}
use Rattle.cc_meaning_exec.specs.Eval.{Ran, ran, Here, Hook, call, eval_with}

-- ---- classes

abbrev pub file_class : List ℕ → (superclass : ℕ) → Class
file_class name superclass = record {
  name = name;
  kind = origin.File;
  superclass = Some superclass;
  interfaces = [];
  is_interface = false;
  is_abstract = false;
  layout = [];
  initialiser = None;
  values = [];
}

abbrev pub interface : List ℕ → (superclass : ℕ) → Class
interface name superclass = record (file_class name superclass) { is_interface = true; is_abstract = true }

abbrev pub outside_class : List ℕ → (superclass : ℕ) → Class
outside_class name superclass = record (file_class name superclass) { kind = origin.Outside }

abbrev pub array_class_named : List ℕ → (superclass : ℕ) → Class
array_class_named name superclass = record (file_class name superclass) { kind = origin.Array }

-- the number of a built-in class, behind so many others
unfoldable pub built_in_number : ℕ → List ℕ → Option ℕ
built_in_number before name = option_map (λ i. before + i) (position (λ (class : BuiltInClass). bytes_eq class.name name) built_in_classes)

unfoldable pub built_in_behind : ℕ → BuiltInClass → Class
built_in_behind before b = record {
  name = b.name;
  kind = origin.BuiltIn;
  superclass = option_and_then (built_in_number before) b.superclass;
  interfaces = [];
  is_interface = false;
  is_abstract = false;
  layout = [];
  initialiser = None;
  values = [];
}

-- these classes, and behind them the built-in ones, of which Object is the first
unfoldable pub with_built_in : List Class → List Class
with_built_in classes = classes ++ map (built_in_behind (length classes)) built_in_classes

-- ---- methods

-- an instruction takes one unit in these examples, so it stands at its place in the list
unfoldable pub placed_from : ℕ → List Insn → List Placed
placed_from at [] = []
placed_from at (i ∷ is) = record { at = at; units = 1; insn = i } ∷ placed_from (suc at) is

abbrev pub code_with : ℕ → List Insn → List Try → Code
code_with registers insns tries = record { registers = registers; ins = 0; insns = placed_from 0 insns; tries = tries }

abbrev pub code : ℕ → List Insn → Code
code registers insns = code_with registers insns []

abbrev pub try_of : (start stop : ℕ) → List Catch → Try
try_of start stop catches = record { start = start; end = stop; catches = catches }

abbrev pub catch_of : Option DexType → ℕ → Catch
catch_of kind at = record { kind = kind; at = at }

abbrev pub type_of_base : Base → DexType
type_of_base b = record { dims = 0; base = b }

abbrev pub int_type : DexType
int_type = type_of_base base.Int

abbrev pub long_type : DexType
long_type = type_of_base base.Long

abbrev pub class_type_of : ℕ → DexType
class_type_of class = type_of_base (base.Class class)

abbrev pub ints : DexType
ints = record { dims = 1; base = base.Int }

abbrev pub static_method : (class : ℕ) → List ℕ → List DexType → Option DexType → MethodKind → Method
static_method class name params result kind = record { class = class; name = name; params = params; result = result; is_static = true; is_virtual = false; kind = kind }

abbrev pub virtual_method : (class : ℕ) → List ℕ → List DexType → Option DexType → MethodKind → Method
virtual_method class name params result kind = record { class = class; name = name; params = params; result = result; is_static = false; is_virtual = true; kind = kind }

abbrev pub field_of : (class : ℕ) → List ℕ → DexType → Bool → Field
field_of class name ty is_static = record { class = class; name = name; ty = ty; is_static = is_static }

-- ---- programs

abbrev pub program_of : List Class → List Method → List Field → List (List ℕ) → Program
program_of classes methods fields texts = record { classes = with_built_in classes; methods = methods; fields = fields; texts = texts; main = 0 }

-- a class A with one method that has this code, behind arrays of ints, and of objects of A
abbrev pub lone_classes : List Class
lone_classes = file_class (codes "LA;") 3 ∷ array_class_named (codes "[I") 3 ∷ array_class_named (codes "[LA;") 3 ∷ []

abbrev pub lone : Code → Program
lone body = program_of lone_classes (static_method 0 (codes "f") [] None (kinds.Code body) ∷ []) [] []

abbrev pub no_script : Script
no_script = record { classes = [] }

abbrev pub limits : (instructions words : ℕ) → Limits
limits instructions words = record { instructions = instructions; words = words }

-- ---- what a method comes to

-- nothing accompanies the run
unfoldable pub nowhere : Hook (Unit {0})
nowhere = record { entry = λ m args stack w t. Here t; spent = λ m t. t; called = λ m t. t; ended = λ m e w t. t }

-- an end without numbers of objects: an exception stands by the name of its class
pub data Shown : Type 0 where
  Gives : Option Value → Shown
  Throws : List ℕ → Shown
  Stops : StopCause → Shown
  Jams : Shown

unfoldable pub name_of_object : Program → Option Object → List ℕ
name_of_object p (Some (object.Instance class values)) = class_name p class
name_of_object p _ = []

unfoldable pub shown_end : {T : Type 0} → Program → Ran T → Shown
shown_end p (ran (Returned v) w t) = Gives v
shown_end p (ran (Thrown a) w t) = Throws (name_of_object p (slice_get w.objects a))
shown_end p (ran (Stopped c) w t) = Stops c
shown_end p (ran Jammed w t) = Jams

-- what the method of a number comes to from an opening world
unfoldable pub called_with : Script → Program → Limits → (method : ℕ) → List Value → Ran (Unit {0})
called_with script p limits m args = call nowhere (eval_with nowhere script p limits.instructions) script p m args no_frames (opening_world p limits) tt

-- what a lone method comes to with these arguments
unfoldable pub comes_to : Code → List Value → Shown
comes_to body args = shown_end (lone body) (called_with no_script (lone body) (limits 100 100) 0 args)

abbrev pub gives_int : ℤ → Shown
gives_int n = Gives (Some (value.Int n))

abbrev pub gives_long : ℤ → Shown
gives_long n = Gives (Some (value.Long n))

abbrev pub int : ℤ → Value
int n = value.Int n

abbrev pub long : ℤ → Value
long n = value.Long n

abbrev pub null : Value
null = value.Obj None
