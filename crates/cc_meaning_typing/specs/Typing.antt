-- What it is for a method to have a typing.
use Rattle.std.specs.Prelude.{◌≡◌, ℕ, true, All, Option, Some, None}
use Rattle.cc_meaning.specs.declared.program.Catch.{Catch}
use Rattle.cc_meaning.specs.declared.program.DexType.{DexType}
use Rattle.cc_meaning.specs.declared.program.Placed.{Placed}
use Rattle.cc_meaning.specs.declared.program.Program.{Program}
use Rattle.cc_meaning_typing.specs.declared.state.State.{State}
use Rattle.cc_meaning_typing.specs.Types.{is_reference}
use Rattle.cc_meaning_typing.specs.States.{StateCovers, opening}
use Rattle.cc_meaning_typing.specs.Code.{Body, placed_at, successors, handlers}
use Rattle.cc_meaning_typing.specs.Rules.{Accepts, after, handler_state}

-- a set of addresses, each with a state
abbrev pub Typing : Type 0
Typing = ℕ → Option State

-- the address is in the set, and its state covers this one
abbrev pub Leads : Program → Typing → Option ℕ → State → Type 0
Leads program typing None s = ⊥
Leads program typing (Some to) s = (there : State) × (typing to ≡ Some there) × StateCovers program there s

abbrev pub TakesReference : Option DexType → Type 0
TakesReference None = Unit {0}
TakesReference (Some type) = is_reference type ≡ true

-- An instruction stands at the address and accepts the state there; its handlers take references; and the states that it gives are covered by those of its
-- successors and handlers.
pub record IsFine (body : Body) (typing : Typing) (at : ℕ) (s : State) : Type 0 where
  pub placed : Placed
  pub stands : placed_at body.code at ≡ Some placed
  pub accepts : Accepts body at s placed.insn
  pub taken : All (λ (catch : Catch). TakesReference catch.kind) (handlers body.code placed)
  pub leads : All (λ to. Leads body.program typing to (after body.program at s placed.insn)) (successors body.code placed)
  pub handled : All (λ (catch : Catch). Leads body.program typing (Some catch.at) (handler_state body.program s catch)) (handlers body.code placed)

-- The first address is in the set, its state covers the opening state, and each address of the set is fine.
pub record IsTyping (body : Body) (typing : Typing) : Type 0 where
  pub opens : Leads body.program typing (Some 0) (opening body.program body.method body.code)
  pub fine : (at : ℕ) (s : State) → typing at ≡ Some s → IsFine body typing at s

-- there is such a set; by what it is found doesn't matter
abbrev pub HasTyping : Body → Type 0
HasTyping body = (typing : Typing) × IsTyping body typing
