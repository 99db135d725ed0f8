-- What a plain file's run over received frames comes to, straight down its instructions.
use Rattle.std.specs.Prelude.{◌≡◌, ℕ, zero, suc, ◌+◌, ◌&&◌, not, cond, Bool, true, ℤ, pos, List, [], ◌∷◌, ◌++◌, Option, Some, None, Result, Ok, Err, slice_get, slice_set, replicate, length}
use Rattle.std.specs.Int.{int_wrapping_add, w32}
use Rattle.cc_meaning.specs.declared.value.Value.TheVariants as value
use Rattle.cc_meaning.specs.declared.value.Object.TheVariants as object
use Rattle.cc_meaning.specs.declared.report.CallEnd.{CallEnd}
use Rattle.cc_meaning.specs.declared.report.CallEnd.TheVariants as end
use Rattle.cc_meaning.specs.declared.report.StopCause.{StopCause}
use Rattle.cc_meaning.specs.declared.report.StopCause.TheVariants as cause
use Rattle.cc_meaning.specs.declared.report.Ending.{Ending}
use Rattle.cc_meaning.specs.declared.report.Ending.TheVariants as ending
use Rattle.cc_meaning.specs.declared.report.Limits.{Limits}
use Rattle.cc_meaning.specs.declared.frame.Frame.{Frame}
use Rattle.cc_meaning.specs.declared.image.RunImage.{RunImage}
use Rattle.cc_meaning_run.specs.Acts.{less_by}
use Rattle.cc_meaning_run.specs.Instructions.{line_of}
use Rattle.cc_meaning_plain.specs.declared.plain.PlainInsn.{PlainInsn}
use Rattle.cc_meaning_plain.specs.declared.plain.PlainInsn.TheVariants.{SgetOut, Const4, AddInt2Addr, AddIntLit8, InvokePrintln, CallFunction}
use Rattle.cc_meaning_plain.specs.declared.plain.PlainFunction.{PlainFunction}
use Rattle.cc_meaning_plain.specs.declared.plain.Plain.{Plain}
use Rattle.cc_meaning_plain.specs.Laws.{AreBytes}
use Rattle.cc_meaning_plain.specs.Plain.{IsPlain}
use Rattle.cc_meaning_plain.specs.Program.{function_number, program_of, setting_of}
use Rattle.cc_meaning_plain.specs.Text.{number_at, value_by, instructions_by}
use Rattle.cc_meaning_plain.specs.Staged.{Stage, ends_with, with_line, stage_report}
use Rattle.cc_meaning_clone.specs.Served.{out_order}
use Rattle.cc_meaning_device.specs.Received.{Device, Received, not_opened, Offloaded, offloaded, Taken, behind_ready, back_of_frames}

-- ---- a call

-- what a call came to: the function's value or why the run stops, the instructions and words left, and how the device stands with its clone
pub record Came : Type 0 where
  pub value : Result ℤ StopCause
  pub instructions : ℕ
  pub words : ℕ
  pub received : Received

-- the function is done here; where its instructions are too few the run stops within it
abbrev pub given_here : Option ℕ → ℤ → (words : ℕ) → Received → Came
given_here None n words t = record { value = Err cause.Budget; instructions = 0; words = words; received = t }
given_here (Some left) n words t = record { value = Ok n; instructions = left; words = words; received = t }

abbrev pub called_here : Option PlainFunction → ℤ → (instructions words : ℕ) → Received → Came
called_here f n instructions words t = given_here (less_by (instructions_by f) instructions) (value_by f n) words t

-- the image of the entry of a function that `main` calls: its own frame stands, its class is ready, and `System.out` is the one object
abbrev pub entry_image : Plain → (function : ℕ) → ℤ → (instructions words : ℕ) → RunImage
entry_image plain function n instructions words = record {
  method = function_number plain function;
  instructions = instructions;
  words = words;
  depth = 1;
  registers = plain.main.registers;
  statuses = 2 ∷ [];
  args = value.Int n ∷ [];
  statics = [];
  literals = [];
  constants = [];
  objects = object.Out ∷ [];
}

-- the Back of a function gives a number or says why the run stops; a Back of another form isn't read
abbrev pub value_back : CallEnd → Result ℤ StopCause
value_back (end.Returned (Some (value.Int n))) = Ok n
value_back (end.Returned _) = Ok (pos 0)
value_back (end.Thrown number) = Ok (pos 0)
value_back (end.Stopped stop) = Err stop

-- the Back is merged, or the device falls back and does the function itself
abbrev pub came_back : Option PlainFunction → ℤ → RunImage → Received → Option Taken → Came
came_back f n image t None = called_here f n image.instructions image.words (record t { images = t.images ++ image ∷ []; fallen = true })
came_back f n image t (Some taken) = record {
  value = value_back taken.back.ending;
  instructions = taken.back.instructions;
  words = taken.back.words;
  received = record t { opened = true; frames = taken.rest; images = t.images ++ image ∷ []; merged = suc t.merged };
}

abbrev pub called_there : Plain → (function : ℕ) → ℤ → RunImage → Received → Came
called_there plain function n image t = came_back (slice_get plain.functions function) n image t (back_of_frames (program_of plain) image (behind_ready t))

-- a moved function is done by the clone until the device fell back, every other one here
unfoldable pub called : Plain → (moves : ℕ → Bool) → (function : ℕ) → ℤ → (instructions words : ℕ) → Received → Came
called plain moves function n instructions words t =
    cond (not t.fallen && moves (function_number plain function)) (called_there plain function n (entry_image plain function n instructions words) t)
    (called_here (slice_get plain.functions function) n instructions words t)

-- ---- down the instructions

-- what instructions come to, and how the device stands with its clone then
pub record Course : Type 0 where
  pub stage : Stage
  pub received : Received

abbrev pub course_ends : Ending → (instructions words : ℕ) → Received → Course
course_ends ends instructions words t = record { stage = ends_with ends instructions words; received = t }

abbrev pub course_with_line : List ℕ → Course → Course
course_with_line line course = record course { stage = with_line line course.stage }

-- one instruction is taken before it acts; where none is left the run stops
abbrev pub course_taking : (instructions words : ℕ) → Received → (ℕ → Course) → Course
course_taking zero words t go = course_ends (ending.Stopped cause.Budget) 0 words t
course_taking (suc left) words t go = go left

-- the words of a line are taken before it is printed; where too few are left the run stops
abbrev pub course_printing : List ℕ → (instructions words : ℕ) → Option ℕ → Received → (ℕ → Course) → Course
course_printing line instructions words None t go = course_ends (ending.Stopped cause.Heap) instructions words t
course_printing line instructions words (Some left) t go = course_with_line line (go left)

-- the run goes on behind a call with its value, or stopped in it; the result is taken by an instruction of its own
abbrev pub course_behind : Result ℤ StopCause → (instructions words : ℕ) → Received → (ℤ → ℕ → Course) → Course
course_behind (Ok n) instructions words t go = course_taking instructions words t (go n)
course_behind (Err stop) instructions words t go = course_ends (ending.Stopped stop) instructions words t

abbrev pub course_came : Came → (ℤ → (instructions words : ℕ) → Received → Course) → Course
course_came c go = course_behind c.value c.instructions c.words c.received (λ n left. go n left c.words c.received)

-- what these instructions, and the `return-void` behind them, come to with these numbers in the registers, so many instructions and words left, and the device so
unfoldable pub course_of : Plain → (moves : ℕ → Bool) → List ℤ → List PlainInsn → (instructions words : ℕ) → Received → Course
course_of plain moves numbers [] instructions words t = course_taking instructions words t (λ left. course_ends ending.Returned left words t)
course_of plain moves numbers (SgetOut to ∷ rest) instructions words t = course_taking instructions words t (λ left. course_of plain moves numbers rest left words t)
course_of plain moves numbers (Const4 to value ∷ rest) instructions words t =
    course_taking instructions words t (λ left. course_of plain moves (slice_set numbers to value) rest left words t)
course_of plain moves numbers (AddInt2Addr to other ∷ rest) instructions words t =
    course_taking instructions words t (λ left.
    course_of plain moves (slice_set numbers to (int_wrapping_add w32 (number_at numbers to) (number_at numbers other))) rest left words t)
course_of plain moves numbers (AddIntLit8 to from literal ∷ rest) instructions words t =
    course_taking instructions words t (λ left. course_of plain moves (slice_set numbers to (int_wrapping_add w32 (number_at numbers from) literal)) rest left words t)
course_of plain moves numbers (InvokePrintln stream number ∷ rest) instructions words t =
    course_taking instructions words t (λ left.
    course_printing (line_of (number_at numbers number)) left words (less_by (2 + length (line_of (number_at numbers number))) words) t (λ words'.
    course_of plain moves numbers rest left words' t))
course_of plain moves numbers (CallFunction function argument to ∷ rest) instructions words t =
    course_taking instructions words t (λ left.
    course_came (called plain moves function (number_at numbers argument) left words t) (λ n left' words' t'.
    course_of plain moves (slice_set numbers to n) rest left' words' t'))

-- the array of no arguments takes two words before the first instruction
unfoldable pub course_within : Plain → (moves : ℕ → Bool) → Limits → Option ℕ → Received → Course
course_within plain moves limits None t = course_ends (ending.Stopped cause.Heap) limits.instructions limits.words t
course_within plain moves limits (Some words) t = course_of plain moves (replicate plain.main.registers (pos 0)) plain.main.insns limits.instructions words t

unfoldable pub plain_course : Plain → (moves : ℕ → Bool) → Limits → List Frame → Course
plain_course plain moves limits frames = course_within plain moves limits (less_by 2 limits.words) (not_opened frames)

abbrev pub offloaded_by : Limits → Course → Offloaded
offloaded_by limits course = record { report = Some (stage_report limits course.stage); received = course.received }

-- ---- the law

-- a device of a plain file, whose states have `System.out` alone
abbrev pub plain_device : Plain → (moves : ℕ → Bool) → Device
plain_device plain moves = record { program = program_of plain; moves = moves; order = λ w args. out_order }

-- the run of a plain file over received frames is what its instructions come to, whatever frames come and whichever of its functions are moved
abbrev pub PlainOffloads : Type 0
PlainOffloads = (file : List ℕ) (plain : Plain) (moves : ℕ → Bool) (limits : Limits) (frames : List Frame) → AreBytes file → IsPlain file plain →
    offloaded (plain_device plain moves) (setting_of plain) [] limits frames ≡ offloaded_by limits (plain_course plain moves limits frames)
