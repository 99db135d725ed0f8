-- Small programs, of which the worked examples speak. Their code has only the instructions that can call.
use Rattle.std.specs.Prelude.{ℕ, suc, true, false, List, [], ◌∷◌, map, Option, Some, None, codes}
use Rattle.cc_meaning.specs.declared.instruction.How.{How}
use Rattle.cc_meaning.specs.declared.instruction.How.TheVariants as how
use Rattle.cc_meaning.specs.declared.instruction.Insn.{Insn}
use Rattle.cc_meaning.specs.declared.instruction.Insn.TheVariants as insn
use Rattle.cc_meaning.specs.declared.instruction.Kind.TheVariants as kind
use Rattle.cc_meaning.specs.declared.instruction.MethodRef.TheVariants as ref
use Rattle.cc_meaning.specs.declared.instruction.TypeRef.TheVariants as type
use Rattle.cc_meaning.specs.declared.program.Base.TheVariants as base
use Rattle.cc_meaning.specs.declared.program.Class.{Class}
use Rattle.cc_meaning.specs.declared.program.ClassKind.{ClassKind}
use Rattle.cc_meaning.specs.declared.program.ClassKind.TheVariants as origin
use Rattle.cc_meaning.specs.declared.program.DexType.{DexType}
use Rattle.cc_meaning.specs.declared.program.Field.{Field}
use Rattle.cc_meaning.specs.declared.program.Method.{Method}
use Rattle.cc_meaning.specs.declared.program.MethodKind.{MethodKind}
use Rattle.cc_meaning.specs.declared.program.MethodKind.TheVariants as kinds
use Rattle.cc_meaning.specs.declared.program.Placed.{Placed}
use Rattle.cc_meaning.specs.declared.program.Program.{Program}
use Rattle.cc_meaning.specs.declared.report.Answer.TheVariants as answer
use Rattle.cc_meaning.specs.declared.script.Script.{Script}
use Rattle.cc_meaning.specs.declared.script.ScriptClass.{ScriptClass}
use Rattle.cc_meaning.specs.BuiltIn.{object_name, string_builder_name, print_stream_name}
use Rattle.cc_meaning_typing.specs.Types.{typed, class_type}

-- ---- parts

abbrev pub class_of : List ℕ → ClassKind → Option ℕ → Class
class_of name kind superclass = record { name = name; kind = kind; superclass = superclass; interfaces = []; is_interface = false; is_abstract = false; layout = []; initialiser = None; values = [] }

abbrev pub int_type : DexType
int_type = typed 0 base.Int

abbrev pub placed_from : ℕ → List Insn → List Placed
placed_from at [] = []
placed_from at (insn ∷ rest) = record { at = at; units = 3; insn = insn } ∷ placed_from (suc (suc (suc at))) rest

abbrev pub coded : List Insn → MethodKind
coded insns = kinds.Code (record { registers = 4; ins = 1; insns = placed_from 0 insns; tries = [] })

-- a method without parameters and result, of the instances of a class, and a static one
abbrev pub instance_method : (class : ℕ) → List ℕ → MethodKind → Method
instance_method class name kind = record { class = class; name = name; params = []; result = None; is_static = false; is_virtual = true; kind = kind }

abbrev pub static_method : (class : ℕ) → List ℕ → MethodKind → Method
static_method class name kind = record (instance_method class name kind) { is_static = true; is_virtual = false }

abbrev pub invoke : How → (class m : ℕ) → Insn
invoke how class m = insn.Invoke how (ref.Known class m) []

abbrev pub new : ℕ → Insn
new class = insn.NewInstance 0 (type.Known (class_type class))

abbrev pub static_field : (class : ℕ) → Field
static_field class = record { class = class; name = codes "k"; ty = int_type; is_static = true }

-- a script that says nothing
abbrev pub no_script : Script
no_script = record { classes = [] }

abbrev pub script_class : (class : ℕ) → ScriptClass
script_class class = record { class = class; unpinned = []; free = []; answers = [] }

-- ---- shapes: LShape; with area, which LSq; implements; LK; whose work asks a shape for its area, and LDet; for a scan, and reads LCfg;'s static

abbrev pub shapes : Program
shapes = record {
  classes =
      record (class_of (codes "LCfg;") origin.File (Some 6)) { initialiser = Some 0 }
      ∷ class_of (codes "LDet;") origin.File (Some 6)
      ∷ class_of (codes "LK;") origin.File (Some 6)
      ∷ record (class_of (codes "LShape;") origin.File (Some 6)) { is_interface = true }
      ∷ record (class_of (codes "LSq;") origin.File (Some 6)) { interfaces = 3 ∷ [] }
      ∷ class_of print_stream_name origin.BuiltIn (Some 6)
      ∷ class_of object_name origin.BuiltIn None
      ∷ class_of string_builder_name origin.BuiltIn (Some 6)
      ∷ [];
  methods =
      static_method 0 (codes "<clinit>") (coded (insn.StaticPut kind.Plain 0 0 ∷ []))
      ∷ static_method 1 (codes "scan") kinds.Native
      ∷ static_method 2 (codes "main") (coded (new 4 ∷ invoke how.Direct 4 5 ∷ invoke how.Static 2 3 ∷ new 7 ∷ invoke how.Virtual 5 7 ∷ []))
      ∷ static_method 2 (codes "work") (coded (invoke how.Interface 3 4 ∷ invoke how.Static 1 1 ∷ insn.StaticGet kind.Plain 0 0 ∷ []))
      ∷ instance_method 3 (codes "area") kinds.Abstract
      ∷ record (instance_method 4 (codes "<init>") (coded (invoke how.Direct 6 8 ∷ []))) { is_virtual = false }
      ∷ instance_method 4 (codes "area") (coded [])
      ∷ instance_method 5 (codes "println") kinds.BuiltIn
      ∷ instance_method 6 (codes "<init>") kinds.BuiltIn
      ∷ [];
  fields = static_field 0 ∷ [];
  texts = [];
  main = 2;
}

-- a script in which LDet;'s scan may run on either node
abbrev pub shapes_script : Script
shapes_script = record { classes = record (script_class 1) { unpinned = 1 ∷ [] } ∷ [] }

-- ---- overriding: LA; with LB; below it, the interface LI; with LJ; that lists it and LT; that implements LJ;, and the outside class LX;

abbrev pub overriding : Program
overriding = record {
  classes =
      record (class_of (codes "LA;") origin.File (Some 6)) { initialiser = Some 0 }
      ∷ record (class_of (codes "LB;") origin.File (Some 0)) { initialiser = Some 4 }
      ∷ record (class_of (codes "LI;") origin.File (Some 6)) { is_interface = true }
      ∷ record (class_of (codes "LJ;") origin.File (Some 6)) { is_interface = true; interfaces = 2 ∷ []; initialiser = Some 7 }
      ∷ record (class_of (codes "LT;") origin.File (Some 6)) { interfaces = 3 ∷ [] }
      ∷ class_of (codes "LX;") origin.Outside (Some 6)
      ∷ class_of object_name origin.BuiltIn None
      ∷ [];
  methods =
      static_method 0 (codes "<clinit>") (coded [])
      ∷ instance_method 0 (codes "m") (coded (invoke how.Interface 2 6 ∷ []))
      ∷ static_method 0 (codes "main") (coded (new 1 ∷ invoke how.Virtual 0 1 ∷ []))
      ∷ static_method 0 (codes "unused") (coded (invoke how.Virtual 0 1 ∷ []))
      ∷ static_method 1 (codes "<clinit>") (coded [])
      ∷ instance_method 1 (codes "m") (coded (invoke how.Super 0 1 ∷ new 1 ∷ []))
      ∷ instance_method 2 (codes "run") kinds.Abstract
      ∷ static_method 3 (codes "<clinit>") (coded [])
      ∷ instance_method 3 (codes "run") (coded (insn.StaticGet kind.Plain 0 0 ∷ []))
      ∷ instance_method 4 (codes "run") (coded (invoke how.Virtual 5 10 ∷ []))
      ∷ instance_method 5 (codes "m") kinds.Outside
      ∷ [];
  fields = static_field 3 ∷ [];
  texts = [];
  main = 2;
}

-- a script in which LX;'s m has a fixed answer
abbrev pub free_script : Script
free_script = record { classes = record (script_class 5) { free = record { method = 10; answer = answer.Nothing } ∷ [] } ∷ [] }

-- ---- static methods of one class LA;, of which each calls those of its list; the last is main, and none has a number that isn't its place

abbrev pub calling : List ℕ → MethodKind
calling callees = coded (map (λ m. invoke how.Static 0 m) callees)

abbrev pub one_class : List Method → (main : ℕ) → Program
one_class methods main = record { classes = class_of (codes "LA;") origin.File (Some 1) ∷ class_of object_name origin.BuiltIn None ∷ []; methods = methods; fields = []; texts = []; main = main }

-- main calls f and g, and both call h
abbrev pub diamond : Program
diamond = one_class (static_method 0 (codes "f") (calling (2 ∷ [])) ∷ static_method 0 (codes "g") (calling (2 ∷ [])) ∷ static_method 0 (codes "h") (calling []) ∷ static_method 0 (codes "main") (calling (0 ∷ 1 ∷ [])) ∷ []) 3

-- main calls f, which calls itself
abbrev pub loop : Program
loop = one_class (static_method 0 (codes "f") (calling (0 ∷ [])) ∷ static_method 0 (codes "main") (calling (0 ∷ [])) ∷ []) 1

-- main calls f and next, and f calls next, which is native
abbrev pub asking : Program
asking = one_class (static_method 0 (codes "f") (calling (2 ∷ [])) ∷ static_method 0 (codes "main") (calling (0 ∷ 2 ∷ [])) ∷ static_method 0 (codes "next") kinds.Native ∷ []) 1

-- a script in which next may run on either node
abbrev pub asking_script : Script
asking_script = record { classes = record (script_class 0) { unpinned = 2 ∷ [] } ∷ [] }
