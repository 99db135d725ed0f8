-- Instructions by their places and by their addresses.
use Rattle.std.specs.Prelude.{◌≡◌, ℕ, ◌==◌, position, slice_get, Option, Some, None}
use Rattle.cc_meaning.specs.declared.program.Code.{Code}
use Rattle.cc_meaning.specs.declared.program.Placed.{Placed}
use Rattle.cc_meaning_typing.specs.Code.{placed_at}
use Rattle.cc_meaning_typing.specs.WellFormed.{IsLaidOut}

-- the place of the instruction at an address among those of a method
abbrev pub place_of : Code → ℕ → Option ℕ
place_of code at = position (λ (placed : Placed). placed.at == at) code.insns

-- Each instruction has its place and its address alone, and no other instruction has them.
pub record PlacesAreAddresses (code : Code) : Type 0 where
  pub own : (k : ℕ) (placed : Placed) → slice_get code.insns k ≡ Some placed → place_of code placed.at ≡ Some k
  pub stands : (at k : ℕ) → place_of code at ≡ Some k → (placed : Placed) × (slice_get code.insns k ≡ Some placed) × (placed_at code at ≡ Some placed) × (placed.at ≡ at)
  pub absent : (at : ℕ) → place_of code at ≡ None → placed_at code at ≡ None

abbrev pub Places : Type 0
Places = (code : Code) → IsLaidOut code → PlacesAreAddresses code
