-- How states grow by joins from the opening one: always tried next is the least address whose state is new or has changed since its last try.
use Rattle.std.specs.Prelude.{◌≡◌, ℕ, suc, ◌+◌, ◌<◌, ◌==◌, ◌&&◌, not, Bool, true, false, All, List, [], ◌∷◌, replicate, Option, Some, None, slice_set, slice_index_or}
use Rattle.cc_meaning.specs.declared.program.Catch.{Catch}
use Rattle.cc_meaning.specs.declared.program.Code.{Code}
use Rattle.cc_meaning.specs.declared.program.Placed.{Placed}
use Rattle.cc_meaning.specs.declared.program.Program.{Program}
use Rattle.cc_meaning_typing.specs.declared.state.State.{State}
use Rattle.cc_meaning_typing.specs.States.{join_states, opening}
use Rattle.cc_meaning_typing.specs.Code.{Body, placed_at, successors, handlers}
use Rattle.cc_meaning_typing.specs.Rules.{Accepts, after, handler_state}
use Rattle.cc_meaning_typing.specs.Typing.{TakesReference}

unfoldable pub units_in : List Placed → ℕ
units_in [] = 0
units_in (placed ∷ rest) = placed.units + units_in rest

-- how many units a method's code has
unfoldable pub units_of : Code → ℕ
units_of code = units_in code.insns

-- ---- states

-- for each address of a method, the state that is known there, if control has come there
abbrev pub States : Type 0
States = List (Option State)

abbrev pub state_at : States → ℕ → Option State
state_at states at = slice_index_or states at None

-- what is known at an address when control has come there once more, with a state
unfoldable pub joined : Program → Option State → State → State
joined program None s = s
joined program (Some known) s = join_states program known s

-- control comes to an address with a state
unfoldable pub lead : Program → State → States → Option ℕ → States
lead program s states None = states
lead program s states (Some to) = slice_set states to (Some (joined program (state_at states to) s))

unfoldable pub lead_all : Program → State → States → List (Option ℕ) → States
lead_all program s states [] = states
lead_all program s states (to ∷ rest) = lead_all program s (lead program s states to) rest

unfoldable pub catch_all : Program → State → States → List Catch → States
catch_all program s states [] = states
catch_all program s states (catch ∷ rest) = catch_all program s (lead program (handler_state program s catch) states (Some catch.at)) rest

-- The states after a try at an address: control goes to the instruction's handlers with what they begin with, and to its successors with what it gives.
unfoldable pub tried : Body → States → ℕ → Placed → State → States
tried body states at placed s = lead_all body.program (after body.program at s placed.insn) (catch_all body.program s states (handlers body.code placed)) (successors body.code placed)

-- as a method begins, the opening state is known at its first address
unfoldable pub opening_states : Body → States
opening_states body = slice_set (replicate (units_of body.code) None) 0 (Some (opening body.program body.method body.code))

-- ---- what is due

-- whether the state at an address is new, or has changed since its last try
abbrev pub Due : Type 0
Due = ℕ → Bool

unfoldable pub opening_due : Due
opening_due at = at == 0

pub record IsLeastDue (due : Due) (at : ℕ) : Type 0 where
  pub is : due at ≡ true
  pub least : (earlier : ℕ) → earlier < at → due earlier ≡ false

abbrev pub NoneIsDue : Due → Type 0
NoneIsDue due = (at : ℕ) → due at ≡ false

-- an address whose state has changed is due, and any other one where it was before
pub data Marks : Option State → Option State → Bool → Bool → Type 0 where
  unchanged : {known : Option State} {due : Bool} → Marks known known due due
  changed : {known new : Option State} {due : Bool} → (new ≡ known → ⊥) → Marks known new due true

-- what is due after a try at an address that changed states
abbrev pub DueAfter : States → States → Due → ℕ → Due → Type 0
DueAfter states new due at later = (other : ℕ) → Marks (state_at states other) (state_at new other) (due other && not (other == at)) (later other)

-- ---- tries

-- the rule of the instruction at an address is kept: it stands there, accepts the state, and its handlers take references
pub record Passes (body : Body) (at : ℕ) (s : State) : Type 0 where
  pub placed : Placed
  pub stands : placed_at body.code at ≡ Some placed
  pub accepts : Accepts body at s placed.insn
  pub taken : All (λ (catch : Catch). TakesReference catch.kind) (handlers body.code placed)

-- a try at an address
pub record Tries (body : Body) (states : States) (due : Due) (at : ℕ) (s : State) : Type 0 where
  pub first : IsLeastDue due at
  pub known : state_at states at ≡ Some s

-- so many tries in which no rule was broken lead from the opening state to these states
pub data After (body : Body) : ℕ → States → Due → Type 0 where
  opens : After body 0 (opening_states body) opening_due
  passes : {n at : ℕ} {states : States} {due later : Due} {s : State} → After body n states due → Tries body states due at s → (kept : Passes body at s) → DueAfter states (tried body states at kept.placed s) due at later → After body (suc n) (tried body states at kept.placed s) later

-- the tries end with these states, and no rule was broken
pub record EndsWith (body : Body) (states : States) : Type 0 where
  pub tries : ℕ
  pub due : Due
  pub after : After body tries states due
  pub none : NoneIsDue due

-- the first try whose rule is broken stands at this address
pub record BreaksAt (body : Body) (at : ℕ) : Type 0 where
  pub tries : ℕ
  pub states : States
  pub due : Due
  pub state : State
  pub after : After body tries states due
  pub next : Tries body states due at state
  pub broken : Passes body at state → ⊥
