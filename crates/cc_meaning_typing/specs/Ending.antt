-- How often tries can go on.
use Rattle.std.specs.Prelude.{◌≡◌, ℕ, zero, suc, ◌+◌, ◌*◌, Bool, true, false, length, Option, Some, None}
use Rattle.cc_meaning.specs.declared.program.Program.{Program}
use Rattle.cc_meaning_typing.specs.declared.state.State.{State}
use Rattle.cc_meaning_typing.specs.Growth.{most_room, state_room, IsNarrow}
use Rattle.cc_meaning_typing.specs.States.{opening}
use Rattle.cc_meaning_typing.specs.Code.{Body}
use Rattle.cc_meaning_typing.specs.Tries.{units_of, States, state_at, Due}

-- how many registers a state of a method has
unfoldable pub width_of : Body → ℕ
width_of body = length (opening body.program body.method body.code).registers

-- how many steps what is known at an address can still grow by
unfoldable pub known_room : Program → ℕ → Option State → ℕ
known_room program width None = suc (suc width * most_room program)
known_room program width (Some s) = state_room program s

unfoldable pub due_room : Bool → ℕ
due_room true = 1
due_room false = 0

unfoldable pub room_below : Program → ℕ → States → Due → ℕ → ℕ
room_below program width states due zero = 0
room_below program width states due (suc at) = (2 * known_room program width (state_at states at) + due_room (due at)) + room_below program width states due at

-- how many tries can still follow, at most
unfoldable pub tries_room : Body → States → Due → ℕ
tries_room body states due = room_below body.program (width_of body) states due (units_of body.code)

-- all types are of fewer than 256 dimensions, as those of a file are
abbrev pub AreNarrowStates : States → Type 0
AreNarrowStates states = (at : ℕ) (s : State) → state_at states at ≡ Some s → IsNarrow s
