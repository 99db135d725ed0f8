-- Frames: what a method holds while it runs, and how many of them find room.
use Rattle.std.specs.Prelude.{ℕ, suc, ◌+◌, ◌-◌, Bool, ◌&&◌, nat_lt, nat_le, List, [], ◌∷◌, ◌++◌, length, replicate, Option, Some, None}
use Rattle.cc_meaning.specs.declared.program.Code.{Code}
use Rattle.cc_meaning.specs.declared.program.Program.{Program}
use Rattle.cc_meaning.specs.declared.value.Cell.{Cell}
use Rattle.cc_meaning.specs.declared.value.Cell.TheVariants as cell
use Rattle.cc_meaning.specs.declared.value.Value.{Value}
use Rattle.cc_meaning.specs.declared.value.Value.TheVariants as value
use Rattle.cc_meaning_world.specs.World.{Stack, Locals}
use Rattle.cc_meaning_exec.specs.Instructions.{code_of}

-- A method that runs: the address of its next instruction, its registers with what is pending, and the frames that stand, its own among them.
pub record Frame : Type 0 where
  pub method : ℕ
  pub pc : ℕ
  pub locals : Locals
  pub stack : Stack

-- it goes on at an address with these registers
abbrev pub moved : Frame → ℕ → Locals → Frame
moved f pc locals = record f { pc = pc; locals = locals }

-- it goes on at an address, where something is pending: the result of a call, or none
abbrev pub resumed : Frame → ℕ → Option Value → Frame
resumed f next v = record f { pc = next; locals = record f.locals { pending = v } }

-- it goes on at a handler, where an exception is pending
abbrev pub handling : Frame → (target object : ℕ) → Frame
handling f target a = resumed f target (Some (value.Obj (Some a)))

-- ---- a new frame

-- a long takes two registers
unfoldable pub cells_of : List Value → List Cell
cells_of [] = []
cells_of (value.Int n ∷ vs) = cell.Value (value.Int n) ∷ cells_of vs
cells_of (value.Long n ∷ vs) = cell.Value (value.Long n) ∷ cell.High ∷ cells_of vs
cells_of (value.Obj o ∷ vs) = cell.Value (value.Obj o) ∷ cells_of vs

unfoldable pub registers_in : Option Code → ℕ
registers_in None = 0
registers_in (Some code) = code.registers

unfoldable pub registers_of : Program → ℕ → ℕ
registers_of p m = registers_in (code_of p m)

-- the arguments stand in the last registers, by their own width, and nothing is in the others
unfoldable pub locals_for : (registers : ℕ) → List Value → Locals
locals_for registers args = record { cells = replicate (registers - length (cells_of args)) cell.Unset ++ cells_of args; pending = None }

-- one frame more, of so many registers
unfoldable pub deeper : (registers : ℕ) → Stack → Stack
deeper registers stack = record { depth = suc stack.depth; registers = stack.registers + registers }

-- the frame of a method that is entered where these frames stand
unfoldable pub frame_for : Program → ℕ → List Value → Stack → Frame
frame_for p m args stack = record { method = m; pc = 0; locals = locals_for (registers_of p m) args; stack = deeper (registers_of p m) stack }

-- ---- room

-- the most frames that stand, and the most registers that they have together
abbrev pub most_frames : ℕ
most_frames = 1024

abbrev pub most_registers : ℕ
most_registers = 65536

-- whether a frame of so many registers finds room
unfoldable pub has_room : (registers : ℕ) → Stack → Bool
has_room registers stack = nat_lt stack.depth most_frames && nat_le (stack.registers + registers) most_registers

unfoldable pub room_for : Program → ℕ → Stack → Bool
room_for p m stack = has_room (registers_of p m) stack

-- no frame stands
abbrev pub no_frames : Stack
no_frames = record { depth = 0; registers = 0 }
