-- How the run of a plain file goes down the instructions of `main`, and where it pauses.
use Rattle.std.specs.Prelude.{ℕ, zero, suc, ◌+◌, ◌==◌, Bool, true, false, ℤ, List, [], ◌∷◌, ◌++◌, length, Option, Some, None, Result, Ok, Err, slice_get, slice_set}
use Rattle.cc_meaning.specs.declared.report.StopCause.{StopCause}
use Rattle.cc_meaning.specs.declared.report.StopCause.TheVariants as cause
use Rattle.cc_meaning.specs.declared.report.Ending.TheVariants as ending
use Rattle.cc_meaning_run.specs.Acts.{less_by}
use Rattle.cc_meaning_run.specs.Instructions.{line_of}
use Rattle.cc_meaning_plain.specs.declared.plain.PlainInsn.{PlainInsn}
use Rattle.cc_meaning_plain.specs.declared.plain.PlainInsn.TheVariants.{SgetOut, Const4, AddInt2Addr, AddIntLit8, InvokePrintln, CallFunction}
use Rattle.cc_meaning_plain.specs.declared.plain.PlainFunction.{PlainFunction}
use Rattle.cc_meaning_plain.specs.Text.{number_at, numbers_after, value_by, instructions_by}
use Rattle.cc_machine.specs.declared.progress.Progress.{Progress}
use Rattle.cc_machine.specs.declared.progress.Entry.{Entry}
use Rattle.cc_machine.specs.declared.progress.Came.{Came}
use Rattle.cc_machine.specs.declared.progress.Pause.{Pause}
use Rattle.cc_machine.specs.declared.progress.Pause.TheVariants as pauses

-- a step leads on, or the run pauses
pub data Stepped : Type 0 where
  OnWith : Progress → Stepped
  Paused : Pause → Progress → Stepped

-- why a run paused, and what it holds then
pub record Went : Type 0 where
  pub pause : Pause
  pub progress : Progress

-- what a step answered and left
abbrev pub stepped_to : Option Pause → Progress → Stepped
stepped_to None p = OnWith p
stepped_to (Some pause) p = Paused pause p

abbrev pub stopped : StopCause → Progress → Stepped
stopped c p = Paused (pauses.Done (ending.Stopped c)) p

-- one instruction is taken before it acts; where none is left the run stops
abbrev pub taking : ℕ → Progress → (Progress → Stepped) → Stepped
taking zero p go = stopped cause.Budget p
taking (suc left) p go = go (record p { instructions = left })

-- ---- a call

-- the result of a call is taken by an instruction of its own
abbrev pub result_taken : (to : ℕ) → ℤ → Progress → Stepped
result_taken to n p = taking p.instructions p (λ p'. OnWith (record p' { numbers = slice_set p'.numbers to n }))

-- the run goes on behind a call with its value, or stopped in it
abbrev pub behind : (to : ℕ) → Result ℤ StopCause → Progress → Stepped
behind to (Ok n) p = result_taken to n p
behind to (Err c) p = stopped c p

unfoldable pub came_back : (to : ℕ) → Came → Progress → Stepped
came_back to came p = behind to came.value (record p { instructions = came.instructions; words = came.words })

-- a function that is done here takes its instructions; where they are too few the run stops within it
abbrev pub given : Option ℕ → ℤ → (words : ℕ) → Came
given None n words = record { value = Err cause.Budget; instructions = 0; words = words }
given (Some left) n words = record { value = Ok n; instructions = left; words = words }

unfoldable pub came_here : List PlainFunction → (function : ℕ) → ℤ → (instructions words : ℕ) → Came
came_here functions function n instructions words = given (less_by (instructions_by (slice_get functions function)) instructions) (value_by (slice_get functions function) n) words

-- ---- one instruction

-- the words of a line are taken before it is printed; where too few are left the run stops
abbrev pub printed : List ℕ → Option ℕ → Progress → Stepped
printed line None p = stopped cause.Heap p
printed line (Some left) p = OnWith (record p { text = p.text ++ line; words = left })

-- the function of this place is the one at whose entry a run pauses
abbrev pub is_stop : Option ℕ → ℕ → Bool
is_stop None function = false
is_stop (Some stop) function = stop == function

abbrev pub entered : Bool → List PlainFunction → Entry → Progress → Stepped
entered true functions entry p = Paused (pauses.AtEntry entry) p
entered false functions entry p = came_back entry.to (came_here functions entry.function entry.argument p.instructions p.words) p

abbrev pub entry_of : Progress → (function argument to : ℕ) → Entry
entry_of p function argument to = record { function = function; argument = number_at p.numbers argument; to = to }

-- an instruction that was taken from those that are left
unfoldable pub acted : List PlainFunction → Option ℕ → PlainInsn → Progress → Stepped
acted functions stops (SgetOut to) p = OnWith p
acted functions stops (Const4 to value) p = OnWith (record p { numbers = numbers_after p.numbers (Const4 to value ∷ []) })
acted functions stops (AddInt2Addr to other) p = OnWith (record p { numbers = numbers_after p.numbers (AddInt2Addr to other ∷ []) })
acted functions stops (AddIntLit8 to from literal) p = OnWith (record p { numbers = numbers_after p.numbers (AddIntLit8 to from literal ∷ []) })
acted functions stops (InvokePrintln stream number) p = printed (line_of (number_at p.numbers number)) (less_by (2 + length (line_of (number_at p.numbers number))) p.words) p
acted functions stops (CallFunction function argument to) p = entered (is_stop stops function) functions (entry_of p function argument to) p

unfoldable pub stepped : List PlainFunction → Option ℕ → PlainInsn → Progress → Stepped
stepped functions stops insn p = taking p.instructions p (acted functions stops insn)

-- ---- down the instructions

-- the `return-void` takes one instruction
unfoldable pub returned : ℕ → Progress → Went
returned zero p = record { pause = pauses.Done (ending.Stopped cause.Budget); progress = p }
returned (suc left) p = record { pause = pauses.Done ending.Returned; progress = record p { instructions = left } }

abbrev pub gone_on : Stepped → (Progress → Went) → Went
gone_on (OnWith p) go = go p
gone_on (Paused pause p) go = record { pause = pause; progress = p }

-- Where a run that holds this, with these instructions to come, pauses first, and what it holds then: at the entry of the function whose place is named, or at
-- its end. `next` is the place of the next instruction.
unfoldable pub goes : List PlainFunction → Option ℕ → List PlainInsn → Progress → Went
goes functions stops [] p = returned p.instructions p
goes functions stops (insn ∷ rest) p = gone_on (stepped functions stops insn (record p { next = p.next + 1 })) (goes functions stops rest)
