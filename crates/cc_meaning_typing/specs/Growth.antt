-- How often what is known at an address can grow.
use Rattle.std.specs.Prelude.{◌≡◌, ◌⊎◌, ℕ, suc, ◌+◌, ◌*◌, ◌<◌, ◌≤◌, List, [], ◌∷◌, length}
use Rattle.cc_meaning.specs.declared.program.Program.{Program}
use Rattle.cc_meaning.specs.declared.program.RegType.{RegType}
use Rattle.cc_meaning.specs.declared.program.RegType.TheVariants.{Unset, Zero, Reference}
use Rattle.cc_meaning_typing.specs.declared.state.Pending.{Pending}
use Rattle.cc_meaning_typing.specs.declared.state.Pending.TheVariants.{Nothing, Result, Exception}
use Rattle.cc_meaning_typing.specs.declared.state.State.{State}
use Rattle.cc_meaning_typing.specs.Heights.{rank}
use Rattle.cc_meaning_typing.specs.States.{StateCovers}

-- the most steps that a register can grow by
unfoldable pub most_room : Program → ℕ
most_room program = 257 + length program.classes

-- how many steps a register can still grow by
unfoldable pub room_of : Program → RegType → ℕ
room_of program Unset = 0
room_of program Zero = most_room program
room_of program (Reference type) = suc (rank program type)
room_of program _ = 1

unfoldable pub registers_room : Program → List RegType → ℕ
registers_room program [] = 0
registers_room program (a ∷ registers) = room_of program a + registers_room program registers

unfoldable pub pending_room : Program → Pending → ℕ
pending_room program Nothing = 0
pending_room program (Result type) = 1
pending_room program (Exception type) = suc (rank program type)

-- how many steps a state can still grow by
unfoldable pub state_room : Program → State → ℕ
state_room program s = registers_room program s.registers + pending_room program s.pending

-- a type of fewer than 256 dimensions, as every type in a file is
abbrev pub IsNarrowRegister : RegType → Type 0
IsNarrowRegister (Reference type) = type.dims < 256
IsNarrowRegister _ = Unit {0}

abbrev pub AreNarrow : List RegType → Type 0
AreNarrow [] = Unit {0}
AreNarrow (a ∷ registers) = IsNarrowRegister a × AreNarrow registers

abbrev pub IsNarrowPending : Pending → Type 0
IsNarrowPending (Exception type) = type.dims < 256
IsNarrowPending _ = Unit {0}

pub record IsNarrow (s : State) : Type 0 where
  pub registers : AreNarrow s.registers
  pub pending : IsNarrowPending s.pending

-- each state of the list covers the one before it, the first this one, and is another
pub data Grows (program : Program) : State → List State → Type 0 where
  ends : {s : State} → Grows program s []
  grows : {u s : State} {rest : List State} → IsNarrow u → StateCovers program u s → (u ≡ s → ⊥) → Grows program u rest → Grows program s (u ∷ rest)

-- A state that covers another is that one, or has less room; the room is bounded by the registers and classes, and so is the number of states that grow.
pub record GrowthEnds (program : Program) : Type 0 where
  pub falls : (u s : State) → IsNarrow u → StateCovers program u s → (u ≡ s) ⊎ (state_room program u < state_room program s)
  pub bound : (s : State) → IsNarrow s → state_room program s ≤ suc (length s.registers) * most_room program
  pub chains : (s : State) (states : List State) → Grows program s states → length states ≤ state_room program s
