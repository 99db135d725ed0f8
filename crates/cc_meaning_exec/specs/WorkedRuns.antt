-- Worked examples: the starts of classes, scripted calls, and a run in steps.
use Rattle.std.specs.Prelude.{◌≡◌, ℕ, pos, true, List, [], ◌∷◌, codes, Option, Some, None}
use Rattle.cc_meaning.specs.declared.instruction.How.TheVariants as how
use Rattle.cc_meaning.specs.declared.instruction.Insn.{Insn}
use Rattle.cc_meaning.specs.declared.instruction.Insn.TheVariants as insn
use Rattle.cc_meaning.specs.declared.instruction.IntOp.TheVariants as op
use Rattle.cc_meaning.specs.declared.instruction.Kind.TheVariants as kind
use Rattle.cc_meaning.specs.declared.instruction.MethodRef.TheVariants as ref
use Rattle.cc_meaning.specs.declared.program.Class.{Class}
use Rattle.cc_meaning.specs.declared.program.Code.{Code}
use Rattle.cc_meaning.specs.declared.program.Method.{Method}
use Rattle.cc_meaning.specs.declared.program.MethodKind.TheVariants as kinds
use Rattle.cc_meaning.specs.declared.program.Program.{Program}
use Rattle.cc_meaning.specs.declared.program.StaticValue.TheVariants as static
use Rattle.cc_meaning.specs.declared.report.Answer.{Answer}
use Rattle.cc_meaning.specs.declared.report.Answer.TheVariants as answer
use Rattle.cc_meaning.specs.declared.report.StopCause.TheVariants as cause
use Rattle.cc_meaning.specs.declared.script.Given.{Given}
use Rattle.cc_meaning.specs.declared.script.Script.{Script}
use Rattle.cc_meaning.specs.BuiltIn.{arithmetic_exception_name, exception_in_initializer_error_name, no_class_def_found_error_name}
use Rattle.cc_meaning_exec.specs.Runs.{invocations}
use Rattle.cc_meaning_exec.specs.WorkedPrograms.{file_class, outside_class, array_class_named, code, code_with, try_of, catch_of, static_method, field_of, program_of, no_script, limits, int_type, called_with, shown_end, Shown, Gives, Throws, Stops, gives_int}

-- Classes 0 to 5: A, B above C, which both have initialisers, D, whose initialiser divides by zero, an outside class, and an array of texts.
abbrev pub classes : List Class
classes =
    file_class (codes "LA;") 6
    ∷ record (file_class (codes "LB;") 6) { initialiser = Some 1; values = static.Int (pos 5) ∷ [] }
    ∷ record (file_class (codes "LC;") 1) { initialiser = Some 2 }
    ∷ record (file_class (codes "LD;") 6) { initialiser = Some 3 }
    ∷ outside_class (codes "LO;") 6
    ∷ array_class_named (codes "[Ljava/lang/String;") 6
    ∷ []

-- B's initialiser adds 1 to B's field, which is stated as 5; C's gives twice that to C's.
abbrev pub methods : Code → List Method
methods body =
    static_method 0 (codes "f") [] None (kinds.Code body)
    ∷ static_method 1 (codes "<clinit>") [] None
    (kinds.Code (code 1 (insn.StaticGet kind.Plain 0 0 ∷ insn.IntLit op.Add true 0 0 (pos 1) ∷ insn.StaticPut kind.Plain 0 0 ∷ insn.ReturnVoid ∷ [])))
    ∷ static_method 2 (codes "<clinit>") [] None
    (kinds.Code (code 1 (insn.StaticGet kind.Plain 0 0 ∷ insn.IntOp op.Add 0 0 0 ∷ insn.StaticPut kind.Plain 0 1 ∷ insn.ReturnVoid ∷ [])))
    ∷ static_method 3 (codes "<clinit>") [] None (kinds.Code (code 1 (insn.ConstInt 0 (pos 0) ∷ insn.IntOp op.Div 0 0 0 ∷ insn.ReturnVoid ∷ [])))
    ∷ static_method 4 (codes "a") [] (Some int_type) kinds.Outside
    ∷ static_method 4 (codes "b") [] (Some int_type) kinds.Outside
    ∷ []

abbrev pub program : Code → Program
program body = program_of classes (methods body) (field_of 1 (codes "b") int_type true ∷ field_of 2 (codes "c") int_type true ∷ field_of 3 (codes "d") int_type true ∷ []) []

unfoldable pub runs : Script → Code → Shown
runs script body = shown_end (program body) (called_with script (program body) (limits 100 100) 0 [])

unfoldable pub runs_in_words : ℕ → Script → Code → Shown
runs_in_words words script body = shown_end (program body) (called_with script (program body) (limits 100 words) 0 [])

abbrev pub reading : ℕ → List Insn
reading field = insn.StaticGet kind.Plain 0 field ∷ insn.Return kind.Plain 0 ∷ []

-- D is read again where its start has failed
abbrev pub again : Code
again = code_with 1 (insn.StaticGet kind.Plain 0 2 ∷ insn.ReturnVoid ∷ insn.StaticGet kind.Plain 0 2 ∷ insn.ReturnVoid ∷ []) (try_of 0 1 (catch_of None 2 ∷ []) ∷ [])

pub record StartsHold : Type 0 where
  -- the superclass is started first, with its stated value and then its initialiser
  pub chain : runs no_script (code 1 (reading 1)) ≡ gives_int (pos 12)
  pub above : runs no_script (code 1 (reading 0)) ≡ gives_int (pos 6)
  pub fails : runs no_script (code 1 (reading 2)) ≡ Throws exception_in_initializer_error_name
  pub failed_before : runs no_script again ≡ Throws no_class_def_found_error_name
  -- initialisers are invocations of the one whose instruction started them
  pub started :
      invocations no_script (program (code 1 (insn.StaticGet kind.Plain 0 1 ∷ insn.ReturnVoid ∷ []))) [] (limits 100 100)
      ≡ record { method = 0; parent = 0; instructions = 2; calls = [] } ∷ record { method = 1; parent = 0; instructions = 4; calls = [] }
      ∷ record { method = 2; parent = 0; instructions = 4; calls = [] } ∷ []

-- ---- scripted calls

abbrev pub given : ℕ → Answer → Given
given m a = record { method = m; answer = a }

abbrev pub script : List Given → List Given → Script
script free answers = record { classes = record { class = 4; unpinned = []; free = free; answers = answers } ∷ [] }

abbrev pub asking : Code
asking = code 1 (insn.Invoke how.Static (ref.Known 4 4) [] ∷ insn.MoveResult kind.Plain 0 ∷ insn.Return kind.Plain 0 ∷ [])

-- ArithmeticException is 15 here, behind six classes
pub record ScriptsHold : Type 0 where
  pub next : runs (script [] (given 4 (answer.Int (pos 3)) ∷ [])) asking ≡ gives_int (pos 3)
  pub fixed : runs (script (given 4 (answer.Int (pos 4)) ∷ []) []) asking ≡ gives_int (pos 4)
  pub thrown : runs (script [] (given 4 (answer.Throws 15) ∷ [])) asking ≡ Throws arithmetic_exception_name
  pub ended : runs (script [] []) asking ≡ Stops (cause.ScriptEnd 4)
  pub no_class : runs no_script asking ≡ Stops (cause.ScriptEnd 4)
  pub other : runs (script [] (given 5 (answer.Int (pos 3)) ∷ [])) asking ≡ Stops (cause.ScriptOther 4 4 5)
  -- the record takes two words, the object of the answer three more, in one payment; a free call isn't recorded
  pub words : runs_in_words 4 (script [] (given 4 (answer.Throws 15) ∷ [])) asking ≡ Stops cause.Heap
  pub free_words : runs_in_words 0 (script (given 4 (answer.Int (pos 4)) ∷ []) []) asking ≡ gives_int (pos 4)
