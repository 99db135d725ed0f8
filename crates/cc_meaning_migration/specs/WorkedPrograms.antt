-- A small program and its worlds, of which the worked examples speak.
use Rattle.std.specs.Prelude.{ℕ, ◌++◌, pos, true, false, List, [], ◌∷◌, Option, Some, None, codes, option_map}
use Rattle.cc_meaning.specs.declared.image.RunImage.{RunImage}
use Rattle.cc_meaning.specs.declared.program.Base.TheVariants as base
use Rattle.cc_meaning.specs.declared.program.Class.{Class}
use Rattle.cc_meaning.specs.declared.program.DexType.{DexType}
use Rattle.cc_meaning.specs.declared.program.Field.{Field}
use Rattle.cc_meaning.specs.declared.program.Method.{Method}
use Rattle.cc_meaning.specs.declared.program.MethodKind.TheVariants as kinds
use Rattle.cc_meaning.specs.declared.program.Program.{Program}
use Rattle.cc_meaning.specs.declared.report.Answer.TheVariants as answer
use Rattle.cc_meaning.specs.declared.script.Script.{Script}
use Rattle.cc_meaning.specs.declared.value.Made.{Made}
use Rattle.cc_meaning.specs.declared.value.Object.{Object}
use Rattle.cc_meaning.specs.declared.value.Object.TheVariants as object
use Rattle.cc_meaning.specs.declared.value.Value.{Value}
use Rattle.cc_meaning.specs.declared.value.Value.TheVariants as value
use Rattle.cc_meaning_world.specs.World.{World, Stack}
use Rattle.cc_meaning_world.specs.Opening.{opening_world}
use Rattle.cc_meaning_exec.specs.WorkedPrograms.{file_class, array_class_named, code, static_method, field_of, program_of, limits, type_of_base, int_type, class_type_of}
use Rattle.cc_meaning_migration.specs.Spelling.{spelled_run}
use Rattle.cc_meaning_migration.specs.Entry.{captured_entry}

-- ---- the program

-- Classes 0 to 3: A with a reference and an int; arrays of A, of ints, and of arrays of ints. Behind them come Object, which is 4, String, StringBuilder, and System, which is 7.
abbrev pub classes : List Class
classes =
    record (file_class (codes "LA;") 4) { layout = 0 ∷ 1 ∷ [] }
    ∷ array_class_named (codes "[LA;") 4
    ∷ array_class_named (codes "[I") 4
    ∷ array_class_named (codes "[[I") 4
    ∷ []

abbrev pub object_type : DexType
object_type = class_type_of 4

-- main; f, which takes an object and gives one; g, which takes an A; next, which a script answers
abbrev pub methods : List Method
methods =
    static_method 0 (codes "main") [] None (kinds.Code (code 1 []))
    ∷ static_method 0 (codes "f") (object_type ∷ []) (Some object_type) (kinds.Code (code 1 []))
    ∷ static_method 0 (codes "g") (class_type_of 0 ∷ []) None (kinds.Code (code 1 []))
    ∷ static_method 0 (codes "next") [] (Some int_type) kinds.Native
    ∷ []

-- the two fields of A, a static byte, and `System.out`
abbrev pub fields : List Field
fields =
    field_of 0 (codes "n") object_type false
    ∷ field_of 0 (codes "v") int_type false
    ∷ field_of 0 (codes "b") (type_of_base base.Byte) true
    ∷ field_of 7 (codes "out") (class_type_of 8) true
    ∷ []

abbrev pub program : Program
program = program_of classes methods fields (codes "a" ∷ codes "b" ∷ [])

-- a script that has two answers for next, which may move
abbrev pub script : Script
script = record {
  classes =
      record {
        class = 0;
        unpinned = 3 ∷ [];
        free = [];
        answers = record { method = 3; answer = answer.Int (pos 7) } ∷ record { method = 3; answer = answer.Int (pos 8) } ∷ [];
      } ∷ [];
}

-- ---- values and objects

abbrev pub null : Value
null = value.Obj None

abbrev pub to : ℕ → Value
to a = value.Obj (Some a)

abbrev pub node : Value → ℕ → Object
node n v = object.Instance 0 (n ∷ value.Int (pos v) ∷ [])

abbrev pub made : (what number : ℕ) → Made
made what number = record { what = what; number = number }

-- ---- worlds and images

-- a world with these objects behind `System.out`, and with what was made
unfoldable pub world_with : List Object → (literals constants : List Made) → World
world_with objects literals constants = record (opening_world program (limits 98 98)) { objects = object.Out ∷ objects; literals = literals; constants = constants }

abbrev pub stack : Stack
stack = record { depth = 1; registers = 3 }

-- the image of the entry of f with an object
unfoldable pub entered : World → ℕ → Option RunImage
entered w a = captured_entry program w 1 (to a ∷ []) stack

-- its bytes
unfoldable pub sent : List Object → (literals constants : List Made) → ℕ → Option (List ℕ)
sent objects literals constants a = option_map spelled_run (entered (world_with objects literals constants) a)

-- ---- bytes

-- a number in four bytes, and in eight
abbrev pub four : ℕ → List ℕ
four n = 0 ∷ 0 ∷ 0 ∷ n ∷ []

abbrev pub eight : ℕ → List ℕ
eight n = 0 ∷ 0 ∷ 0 ∷ 0 ∷ four n

-- what stands before the arguments of an entry of a method at a depth: instructions, words and registers, and the status of A
abbrev pub head_of : (method depth status : ℕ) → List ℕ
head_of method depth status = four method ++ (eight 98 ++ (four 98 ++ (0 ∷ depth ∷ 0 ∷ 0 ∷ 0 ∷ 3 ∷ status ∷ [])))

abbrev pub head : List ℕ
head = head_of 1 1 0

-- the bytes of an entry of f with the object of a number: the static is 0, nothing was made, and behind `System.out` come objects
abbrev pub entry_bytes : ℕ → List ℕ → List ℕ
entry_bytes argument objects = head ++ (four argument ++ (four 0 ++ (four 0 ++ (four 0 ++ (0 ∷ objects)))))
