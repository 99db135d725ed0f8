-- A thread: the frames that stand.
use Rattle.std.specs.Prelude.{ℕ, ◌+◌, ◌<◌, ◌≤◌, List, [], ◌∷◌, length, replicate, reverse, slice_set, sum_by, take}
use Rattle.cc_meaning.specs.declared.value.Activation.{Activation}
use Rattle.cc_meaning.specs.declared.value.Cell.{Cell}
use Rattle.cc_meaning.specs.declared.value.Cell.TheVariants as cell
use Rattle.cc_meaning_run.specs.World.{Stack}
use Rattle.cc_meaning_run.specs.Eval.{most_frames, most_registers}

-- The frames of a thread, the top one first. `below` is what stood before the thread began, elsewhere.
pub record Frames : Type 0 where
  pub below : Stack
  pub frames : List Activation

-- how many registers a frame has
abbrev pub registers_of : Activation → ℕ
registers_of frame = length frame.cells

-- the frames that stand and their registers, those from before the thread among them
abbrev pub stack_of : Frames → Stack
stack_of thread = record { depth = thread.below.depth + length thread.frames; registers = thread.below.registers + sum_by registers_of thread.frames }

-- there is room for a frame of so many registers
abbrev pub HasRoom : Stack → ℕ → Type 0
HasRoom stack registers = (stack.depth < most_frames) × (stack.registers + registers ≤ most_registers)

-- a method's frame as it is entered: at its first instruction, with nothing in its registers
abbrev pub entered : ℕ → ℕ → Activation
entered method registers = record { method = method; pc = 0; cells = replicate registers cell.Unset }

-- the top frame is another one
abbrev pub on_top : (Activation → Activation) → List Activation → List Activation
on_top change [] = []
on_top change (top ∷ rest) = change top ∷ rest

-- the registers of the top frame
abbrev pub top_cells : List Activation → List Cell
top_cells [] = []
top_cells (top ∷ rest) = top.cells

abbrev pub with_cell : ℕ → Cell → Activation → Activation
with_cell register cell frame = record frame { cells = slice_set frame.cells register cell }

abbrev pub with_pc : ℕ → Activation → Activation
with_pc pc frame = record frame { pc = pc }

-- The frames that stand are the first of a row, in which the top one is the last of them. What lies behind it was popped, and is used again.
abbrev pub frames_in : ℕ → List Activation → List Activation
frames_in count row = reverse (take count row)
