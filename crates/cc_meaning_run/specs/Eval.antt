-- What a method does, to its end.
use Rattle.std.specs.Prelude.{ℕ, zero, suc, ◌+◌, ◌-◌, Bool, true, false, ◌&&◌, nat_lt, nat_le, List, [], ◌∷◌, ◌++◌, Option, Some, None, replicate}
use Rattle.cc_meaning.specs.declared.value.Value.{Value}
use Rattle.cc_meaning.specs.declared.value.Value.TheVariants as value
use Rattle.cc_meaning.specs.declared.value.Cell.{Cell}
use Rattle.cc_meaning.specs.declared.value.Cell.TheVariants as cell
use Rattle.cc_meaning.specs.declared.report.StopCause.{StopCause}
use Rattle.cc_meaning.specs.declared.report.StopCause.TheVariants as cause
use Rattle.cc_meaning.specs.declared.program.Code.{Code}
use Rattle.cc_meaning.specs.BuiltIn.{stack_overflow_error_name}
use Rattle.cc_meaning_run.specs.World.{Setting, World, Stack, Locals}
use Rattle.cc_meaning_run.specs.Acts.{Outcome, Next, Enter, Returns, Throws, Stops, Stuck, Reached, run_act}
use Rattle.cc_meaning_run.specs.Instructions.{throw_new, code_of, act_at}

-- how a method ends; `Jammed` is an operand of the wrong kind
pub data End : Type 0 where
  Returned : Option Value → End
  Thrown : (object : ℕ) → End
  Stopped : StopCause → End
  Jammed : End

-- an end, the world, and what the hook keeps
pub data Ran (T : Type 0) : Type 0 where
  ran : End → World → T → Ran T

-- evaluate here, or take this end and this world
pub data Reply (T : Type 0) : Type 0 where
  Here : T → Reply T
  Answer : End → World → T → Reply T

-- What accompanies a run. `entry` is asked at each entry of a method, with its arguments and the frames that stand. `turned` is told of each instruction,
-- with the number of frames and the methods whose calls it recorded.
pub record Hook (T : Type 0) : Type 0 where
  pub entry : (method : ℕ) → List Value → Stack → World → T → Reply T
  pub turned : (depth : ℕ) → (called : List ℕ) → T → T

-- what a method does from an address on
abbrev pub Go : Type 0 → Type 0
Go T = (method pc : ℕ) → Locals → Stack → World → T → Ran T

-- ---- a frame

-- a number of 64 bits takes two registers
unfoldable pub cells_of : List Value → List Cell
cells_of [] = []
cells_of (value.Int n ∷ vs) = cell.Value (value.Int n) ∷ cells_of vs
cells_of (value.Long n ∷ vs) = cell.Value (value.Long n) ∷ cell.High ∷ cells_of vs
cells_of (value.Obj o ∷ vs) = cell.Value (value.Obj o) ∷ cells_of vs

unfoldable pub registers_in : Option Code → ℕ
registers_in None = 0
registers_in (Some code) = code.registers

unfoldable pub unset_in : Option Code → ℕ
unset_in None = 0
unset_in (Some code) = code.registers - code.ins

-- the arguments stand in the last registers
unfoldable pub locals_for : Option Code → List Value → Locals
locals_for code args = record { cells = replicate (unset_in code) cell.Unset ++ cells_of args; pending = None }

-- one frame more
unfoldable pub deeper : Option Code → Stack → Stack
deeper code stack = record { depth = suc stack.depth; registers = stack.registers + registers_in code }

-- the most frames that stand, and the most registers that they have together
abbrev pub most_frames : ℕ
most_frames = 1024

abbrev pub most_registers : ℕ
most_registers = 65536

unfoldable pub has_room : Option Code → Stack → Bool
has_room code stack = nat_lt stack.depth most_frames && nat_le (stack.registers + registers_in code) most_registers

-- ---- a turn

-- the end of a call is the caller's to go on from
unfoldable pub resume : {T : Type 0} → Go T → (method next : ℕ) → Locals → Stack → Ran T → Ran T
resume go m next locals stack (ran (Returned v) w t) = go m next (record locals { pending = v }) stack w t
resume go m next locals stack (ran (Thrown a) w t) = ran (Thrown a) w t
resume go m next locals stack (ran (Stopped c) w t) = ran (Stopped c) w t
resume go m next locals stack (ran Jammed w t) = ran Jammed w t

-- a method that finds no room for its frame throws at its entry, and does no instruction
unfoldable pub overflowed_by : {T : Type 0} → Outcome → World → T → Ran T
overflowed_by (Throws a) w t = ran (Thrown a) w t
overflowed_by (Stops c) w t = ran (Stopped c) w t
overflowed_by _ w t = ran Jammed w t

unfoldable pub overflowed : {T : Type 0} → Reached → T → Ran T
overflowed r t = overflowed_by r.outcome r.world t

unfoldable pub body_if : {T : Type 0} → Bool → Go T → Setting → ℕ → List Value → Stack → World → T → Ran T
body_if true go s m args stack w t = go m 0 (locals_for (code_of s.program m) args) (deeper (code_of s.program m) stack) w t
body_if false go s m args stack w t = overflowed (run_act (throw_new s.program stack_overflow_error_name) w) t

unfoldable pub body : {T : Type 0} → Go T → Setting → ℕ → List Value → Stack → World → T → Ran T
body go s m args stack w t = body_if (has_room (code_of s.program m) stack) go s m args stack w t

unfoldable pub replied : {T : Type 0} → Go T → Setting → ℕ → List Value → Stack → World → Reply T → Ran T
replied go s m args stack w (Here t) = body go s m args stack w t
replied go s m args stack w (Answer e w' t) = ran e w' t

unfoldable pub after : {T : Type 0} → Hook T → Go T → Setting → (method : ℕ) → Locals → Stack → Outcome → World → T → Ran T
after hook go s m locals stack (Next pc' locals') w t = go m pc' locals' stack w t
after hook go s m locals stack (Enter callee args next) w t = resume go m next locals stack (replied go s callee args stack w (hook.entry callee args stack w t))
after hook go s m locals stack (Returns v) w t = ran (Returned v) w t
after hook go s m locals stack (Throws a) w t = ran (Thrown a) w t
after hook go s m locals stack (Stops c) w t = ran (Stopped c) w t
after hook go s m locals stack Stuck w t = ran Jammed w t

unfoldable pub with_instructions : World → ℕ → World
with_instructions w n = record w { counters = record w.counters { instructions = n } }

unfoldable pub turn_in : {T : Type 0} → Hook T → Go T → Setting → (method : ℕ) → Locals → Stack → Reached → T → Ran T
turn_in hook go s m locals stack r t = after hook go s m locals stack r.outcome r.world (hook.turned stack.depth r.called t)

-- each instruction takes one from the instructions left, before it acts
unfoldable pub turn : {T : Type 0} → Hook T → Go T → Setting → (method pc : ℕ) → Locals → Stack → (left : ℕ) → World → T → Ran T
turn hook go s m pc locals stack zero w t = ran (Stopped cause.Budget) w t
turn hook go s m pc locals stack (suc k) w t = turn_in hook go s m locals stack (run_act (act_at s.program m pc locals) (with_instructions w k)) t

-- what a method does from an address on; the bound is at least the instructions left, and which one it is doesn't matter
unfoldable pub eval_with : {T : Type 0} → Hook T → Setting → (bound : ℕ) → Go T
eval_with hook s zero m pc locals stack w t = ran (Stopped cause.Budget) w t
eval_with hook s (suc n) m pc locals stack w t = turn hook (eval_with hook s n) s m pc locals stack w.counters.instructions w t
