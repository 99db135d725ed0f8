-- Worked examples: a run whose method a clone runs, one that falls back, and a Run that makes a held call.
use Rattle.std.specs.Prelude.{◌≡◌, ℕ, ◌==◌, Bool, true, false, pos, List, [], ◌∷◌, map, codes, Option, Some, None}
use Rattle.cc_meaning.specs.declared.frame.Frame.{Frame}
use Rattle.cc_meaning.specs.declared.image.RunImage.{RunImage}
use Rattle.cc_meaning.specs.declared.instruction.How.TheVariants as how
use Rattle.cc_meaning.specs.declared.instruction.Insn.{Insn}
use Rattle.cc_meaning.specs.declared.instruction.Insn.TheVariants as insn
use Rattle.cc_meaning.specs.declared.instruction.IntOp.TheVariants as op
use Rattle.cc_meaning.specs.declared.instruction.Kind.TheVariants as kind
use Rattle.cc_meaning.specs.declared.instruction.MethodRef.TheVariants as ref
use Rattle.cc_meaning.specs.declared.program.Base.TheVariants as base
use Rattle.cc_meaning.specs.declared.program.Class.{Class}
use Rattle.cc_meaning.specs.declared.program.Method.{Method}
use Rattle.cc_meaning.specs.declared.program.MethodKind.TheVariants as kinds
use Rattle.cc_meaning.specs.declared.program.Program.{Program}
use Rattle.cc_meaning.specs.declared.report.Answer.TheVariants as answer
use Rattle.cc_meaning.specs.declared.script.Script.{Script}
use Rattle.cc_meaning_nodes.specs.Clone.{ready_kind, back_kind, Served, Backs, IsFalse, Calls}
use Rattle.cc_meaning_exec.specs.Runs.{local}
use Rattle.cc_meaning_exec.specs.WorkedPrograms.{file_class, array_class_named, code, int_type, static_method, program_of, limits}
use Rattle.cc_meaning_migration.specs.declared.image.Version.{Version}
use Rattle.cc_meaning_migration.specs.declared.image.Version.TheVariants.{First, Second}
use Rattle.cc_meaning_migration.specs.Spelling.{spelled_run, byte_of_version}
use Rattle.cc_meaning_offload.specs.Jobs.{new_job}
use Rattle.cc_meaning_offload.specs.Served.{served}
use Rattle.cc_meaning_offload.specs.Received.{Received, offloaded}

-- ---- the program

-- Classes 0 to 2: A, arrays of texts, arrays of ints.
abbrev pub classes : List Class
classes = file_class (codes "LA;") 3 ∷ array_class_named (codes "[Ljava/lang/String;") 3 ∷ array_class_named (codes "[I") 3 ∷ []

-- a static call with one register
abbrev pub calls : ℕ → Insn
calls m = insn.Invoke how.Static (ref.Known 0 m) (0 ∷ [])

-- main, which calls f and then g with 5; f, which adds 2; g, which asks next; next, which a script answers
abbrev pub methods : List Method
methods =
    static_method 0 (codes "main") (record { dims = 1; base = base.Class 4 } ∷ []) None
    (kinds.Code (code 2 (insn.ConstInt 0 (pos 5) ∷ calls 1 ∷ insn.MoveResult kind.Plain 0 ∷ calls 2 ∷ insn.ReturnVoid ∷ [])))
    ∷ static_method 0 (codes "f") (int_type ∷ []) (Some int_type) (kinds.Code (code 1 (insn.IntLit op.Add false 0 0 (pos 2) ∷ insn.Return kind.Plain 0 ∷ [])))
    ∷ static_method 0 (codes "g") (int_type ∷ []) None (kinds.Code (code 1 (insn.Invoke how.Static (ref.Known 0 3) [] ∷ insn.ReturnVoid ∷ [])))
    ∷ static_method 0 (codes "next") [] (Some int_type) kinds.Native
    ∷ []

abbrev pub program : Program
program = program_of classes methods [] []

-- a script with an answer for next, which is pinned
abbrev pub script : Script
script = record { classes = record { class = 0; unpinned = []; free = []; answers = record { method = 3; answer = answer.Int (pos 7) } ∷ [] } ∷ [] }

-- ---- frames

abbrev pub ready : Version → Frame
ready v = record { kind = ready_kind; payload = byte_of_version v ∷ [] }

unfoldable pub said : {Job : Type 0} → Served Job → List ℕ
said (Backs payload job) = payload
said (IsFalse fault) = []
said (Calls method) = []

-- the frame with which a clone answers a Run of an image
unfoldable pub answer_to : Version → RunImage → Frame
answer_to v image = record { kind = back_kind; payload = said (served (new_job v program script) (spelled_run image)) }

unfoldable pub is_method : ℕ → ℕ → Bool
is_method m n = n == m

-- the run where one method is moved, over these frames
unfoldable pub over : (moved : ℕ) → List Frame → Received
over moved frames = (offloaded script program (is_method moved) [] (limits 50 50) frames).received

-- the images of the entries where no Back comes, and the frames with which a clone answers these
unfoldable pub answers : Version → (moved : ℕ) → List Frame
answers v moved = ready v ∷ map (answer_to v) (over moved (ready v ∷ [])).images

-- ---- the runs

-- whether the report is that of the run on one heap, where one method is moved
abbrev pub ReportsLocal : (moved : ℕ) → List Frame → Type 0
ReportsLocal moved frames = (offloaded script program (is_method moved) [] (limits 50 50) frames).report ≡ local script program [] (limits 50 50)

-- how often a Back was put, and whether the run fell back
abbrev pub Stands : (moved : ℕ) → List Frame → (migrations : ℕ) → (fallen : Bool) → Type 0
Stands moved frames migrations fallen = ((over moved frames).migrations ≡ migrations) × ((over moved frames).fallen ≡ fallen)

-- f is run by the clone, in each version; and without a Ready, or without a Back, the run falls back
pub record RunsHold : Type 0 where
  pub local_first : ReportsLocal 1 (answers First 1)
  pub moves_first : Stands 1 (answers First 1) 1 false
  pub local_second : ReportsLocal 1 (answers Second 1)
  pub moves_second : Stands 1 (answers Second 1) 1 false
  pub local_alone : ReportsLocal 1 []
  pub falls_alone : Stands 1 [] 0 true
  pub falls_opened : Stands 1 (ready Second ∷ []) 0 true

-- what the clone makes of a Run of the first image that is noted where g is moved
unfoldable pub first_served : List RunImage → Option (Served (Unit {0}))
first_served [] = None
first_served (image ∷ rest) = Some (without_job (served (new_job Second program script) (spelled_run image)))
  where
    without_job : {Job : Type 0} → Served Job → Served (Unit {0})
    without_job (Backs payload job) = Backs payload tt
    without_job (IsFalse fault) = IsFalse fault
    without_job (Calls method) = Calls method

-- g asks next, which only the device may call
pub record HeldCallsHold : Type 0 where
  pub refused : first_served (over 2 (ready Second ∷ [])).images ≡ Some (Calls 3)
