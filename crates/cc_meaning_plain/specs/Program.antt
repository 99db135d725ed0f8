-- The program that a plain file is.
use Rattle.std.specs.Prelude.{ℕ, suc, ◌+◌, ◌-◌, true, false, cond, not, nat_lt, List, [], ◌∷◌, ◌++◌, length, map, take, drop, Option, Some, None, unwrap_or, position, codes}
use Rattle.std.specs.Str.{bytes_eq}
use Rattle.cc_meaning.specs.declared.program.Base.{Base}
use Rattle.cc_meaning.specs.declared.program.Base.TheVariants as base
use Rattle.cc_meaning.specs.declared.program.DexType.{DexType}
use Rattle.cc_meaning.specs.declared.program.ClassKind.{ClassKind}
use Rattle.cc_meaning.specs.declared.program.ClassKind.TheVariants as kind
use Rattle.cc_meaning.specs.declared.program.Class.{Class}
use Rattle.cc_meaning.specs.declared.program.Field.{Field}
use Rattle.cc_meaning.specs.declared.program.MethodKind.TheVariants as means
use Rattle.cc_meaning.specs.declared.program.Method.{Method}
use Rattle.cc_meaning.specs.declared.program.Placed.{Placed}
use Rattle.cc_meaning.specs.declared.program.Code.{Code}
use Rattle.cc_meaning.specs.declared.program.Program.{Program}
use Rattle.cc_meaning.specs.declared.instruction.Kind.TheVariants as access
use Rattle.cc_meaning.specs.declared.instruction.How.TheVariants as how
use Rattle.cc_meaning.specs.declared.instruction.IntOp.TheVariants as op
use Rattle.cc_meaning.specs.declared.instruction.MethodRef.TheVariants as ref
use Rattle.cc_meaning.specs.declared.instruction.Insn.{Insn}
use Rattle.cc_meaning.specs.declared.instruction.Insn.TheVariants as insn
use Rattle.cc_meaning.specs.BuiltIn.{object_name, string_name, print_stream_name}
use Rattle.cc_built_in.specs.BuiltInMethods.{BuiltInMethod, BuiltInMethods, built_in_tables, built_in_methods, is_before, methods_before}
use Rattle.cc_meaning_run.specs.World.{Setting}
use Rattle.cc_meaning_plain.specs.declared.plain.PlainInsn.{PlainInsn}
use Rattle.cc_meaning_plain.specs.declared.plain.PlainInsn.TheVariants.{SgetOut, Const4, AddInt2Addr, AddIntLit8, InvokePrintln, CallFunction}
use Rattle.cc_meaning_plain.specs.declared.plain.Last.{Last}
use Rattle.cc_meaning_plain.specs.declared.plain.Last.TheVariants.{ReturnVoid, Return}
use Rattle.cc_meaning_plain.specs.declared.plain.PlainCode.{PlainCode}
use Rattle.cc_meaning_plain.specs.declared.plain.PlainFunction.{PlainFunction}
use Rattle.cc_meaning_plain.specs.declared.plain.Plain.{Plain}
use Rattle.cc_meaning_plain.specs.Code.{units_of}

-- ---- numbers of classes

-- The file's class, the built-in classes in the order of their names, and the type of main's argument. No number of a class is seen in the run of a plain
-- file, nor in its images.
abbrev pub file_class : ℕ
file_class = 0

abbrev pub class_name_of : BuiltInMethods → List ℕ
class_name_of table = table.class

unfoldable pub built_in_names : List (List ℕ)
built_in_names = map class_name_of built_in_tables

-- the number of a built-in class
unfoldable pub class_number : List ℕ → ℕ
class_number name = suc (unwrap_or (position (λ (other : List ℕ). bytes_eq other name) built_in_names) 0)

-- ---- numbers of methods

-- a list with another put into it at a place
abbrev pub splice : {A : Type 0} → ℕ → List A → List A → List A
splice n more list = take n list ++ (more ++ drop n list)

-- the place of an element of a list into which so many were put at n
abbrev pub shifted : ℕ → ℕ → ℕ → ℕ
shifted n count i = cond (nat_lt i n) i (i + count)

unfoldable pub main_name : List ℕ
main_name = codes "main([Ljava/lang/String;)V"

-- how many of the functions stand before `main` in the order of names
unfoldable pub before_main : List PlainFunction → ℕ
before_main [] = 0
before_main (f ∷ fs) = cond (is_before f.name main_name) (suc (before_main fs)) 0

-- how many built-in methods stand before those of the file
abbrev pub first_method : Plain → ℕ
first_method plain = methods_before built_in_tables plain.class

-- the number of the method of that place among those of the file
abbrev pub main_number : Plain → ℕ
main_number plain = first_method plain + before_main plain.functions

abbrev pub function_number : Plain → ℕ → ℕ
function_number plain i = first_method plain + shifted (before_main plain.functions) 1 i

-- the place of `println(I)V` among the built-in methods, and its number
abbrev pub println_place : ℕ
println_place = 7

abbrev pub println_number : Plain → ℕ
println_number plain = shifted (first_method plain) (suc (length plain.functions)) println_place

abbrev pub out_field : ℕ
out_field = 0

-- ---- instructions

abbrev pub placed : ℕ → ℕ → Insn → Placed
placed at units insn = record { at = at; units = units; insn = insn }

-- the instruction, or the two, at an address
abbrev pub placed_insn : Plain → ℕ → PlainInsn → List Placed
placed_insn plain at (SgetOut to) = placed at 2 (insn.StaticGet access.Object to out_field) ∷ []
placed_insn plain at (Const4 to value) = placed at 1 (insn.ConstInt to value) ∷ []
placed_insn plain at (AddInt2Addr to other) = placed at 1 (insn.IntOp op.Add to to other) ∷ []
placed_insn plain at (AddIntLit8 to from literal) = placed at 2 (insn.IntLit op.Add false to from literal) ∷ []
placed_insn plain at (InvokePrintln stream number) =
    placed at 3 (insn.Invoke how.Virtual (ref.Known (class_number print_stream_name) (println_number plain)) (stream ∷ number ∷ [])) ∷ []
placed_insn plain at (CallFunction function argument to) =
    placed at 3 (insn.Invoke how.Static (ref.Known file_class (function_number plain function)) (argument ∷ [])) ∷ placed (at + 3) 1 (insn.MoveResult access.Plain to) ∷ []

abbrev pub last_insn : Last → Insn
last_insn ReturnVoid = insn.ReturnVoid
last_insn (Return from) = insn.Return access.Plain from

-- the instructions from an address on, and the last one behind them
unfoldable pub placed_from : Plain → Last → ℕ → List PlainInsn → List Placed
placed_from plain last at [] = placed at 1 (last_insn last) ∷ []
placed_from plain last at (i ∷ rest) = placed_insn plain at i ++ placed_from plain last (at + units_of i) rest

abbrev pub code_of : Plain → PlainCode → Code
code_of plain code = record { registers = code.registers; ins = 1; insns = placed_from plain code.last 0 code.insns; tries = [] }

-- ---- classes and members

abbrev pub class_of : ClassKind → List ℕ → Class
class_of kind name = record {
  name = name;
  kind = kind;
  superclass = None;
  interfaces = [];
  is_interface = false;
  is_abstract = false;
  layout = [];
  initialiser = None;
  values = [];
}

abbrev pub simple : Base → DexType
simple base = record { dims = 0; base = base }

abbrev pub texts_type : DexType
texts_type = record { dims = 1; base = base.Class (class_number string_name) }

-- the type of a descriptor of a built-in method
unfoldable pub type_of : List ℕ → DexType
type_of name = cond (bytes_eq name (codes "I")) (simple base.Int)
    (cond (bytes_eq name (codes "J")) (simple base.Long)
    (cond (bytes_eq name (codes "C")) (simple base.Char)
    (cond (bytes_eq name (codes "Z")) (simple base.Boolean)
    (simple (base.Class (class_number name))))))

unfoldable pub result_of : List ℕ → Option DexType
result_of name = cond (bytes_eq name (codes "V")) None (Some (type_of name))

unfoldable pub built_in_of : BuiltInMethod → Method
built_in_of m = record {
  class = class_number m.class;
  name = m.name;
  params = map type_of m.params;
  result = result_of m.result;
  is_static = false;
  is_virtual = not (bytes_eq m.name (codes "<init>"));
  kind = means.BuiltIn;
}

abbrev pub main_of : Plain → Method
main_of plain = record {
  class = file_class;
  name = codes "main";
  params = texts_type ∷ [];
  result = None;
  is_static = true;
  is_virtual = false;
  kind = means.Code (code_of plain plain.main);
}

-- the name of a function without its types, which are the last four units
abbrev pub bare_name : List ℕ → List ℕ
bare_name name = take (length name - 4) name

unfoldable pub function_of : Plain → PlainFunction → Method
function_of plain f = record {
  class = file_class;
  name = bare_name f.name;
  params = simple base.Int ∷ [];
  result = Some (simple base.Int);
  is_static = true;
  is_virtual = false;
  kind = means.Code (code_of plain f.code);
}

-- the methods of the file, in the order of their names
abbrev pub methods_of_file : Plain → List Method
methods_of_file plain = splice (before_main plain.functions) (main_of plain ∷ []) (map (function_of plain) plain.functions)

-- an array's only method
abbrev pub clone_of : Method
clone_of = record {
  class = suc (length built_in_names);
  name = codes "clone";
  params = [];
  result = Some (simple (base.Class (class_number object_name)));
  is_static = false;
  is_virtual = true;
  kind = means.BuiltIn;
}

-- All methods in the order of their names: those of one class stand together, and arrays stand behind all classes.
unfoldable pub methods_of : Plain → List Method
methods_of plain = splice (first_method plain) (methods_of_file plain) (map built_in_of built_in_methods) ++ clone_of ∷ []

abbrev pub out_of : Field
out_of = record { class = class_number (codes "Ljava/lang/System;"); name = codes "out"; ty = simple (base.Class (class_number print_stream_name)); is_static = true }

-- The program of a plain file, as far as its run and its images see it: the superclasses of its classes are not looked at, and its texts aren't read.
unfoldable pub program_of : Plain → Program
program_of plain = record {
  classes = class_of kind.File plain.class ∷ map (class_of kind.BuiltIn) built_in_names ++ class_of kind.Array (codes "[Ljava/lang/String;") ∷ [];
  methods = methods_of plain;
  fields = out_of ∷ [];
  texts = [];
  main = main_number plain;
}

-- its run has no script
unfoldable pub setting_of : Plain → Setting
setting_of plain = record { program = program_of plain; script = record { classes = [] } }
