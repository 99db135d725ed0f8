-- The laws of tries and of faults.
use Rattle.std.specs.Prelude.{◌≡◌, ℕ, ◌+◌, ◌<◌, ◌^◌, true, length, take, Option, Some, slice_get}
use Rattle.cc_meaning.specs.declared.fault.VerifyFault.{VerifyFault}
use Rattle.cc_meaning.specs.declared.program.Code.{Code}
use Rattle.cc_meaning.specs.declared.program.Placed.{Placed}
use Rattle.cc_meaning.specs.declared.program.Program.{Program}
use Rattle.cc_meaning_typing.specs.declared.state.State.{State}
use Rattle.cc_meaning_typing.specs.Hierarchy.{IsHierarchy}
use Rattle.cc_meaning_typing.specs.Code.{Body, placed_at}
use Rattle.cc_meaning_typing.specs.Typing.{Typing, Leads, IsTyping, HasTyping}
use Rattle.cc_meaning_typing.specs.WellFormed.{IsLaidOut}
use Rattle.cc_meaning_typing.specs.WellTyped.{TargetsStand, Reaches, IsSound, WellTyped}
use Rattle.cc_meaning_typing.specs.Tries.{units_in, units_of, States, state_at, lead, Due, Marks, tried, DueAfter, Passes, Tries, After, EndsWith, BreaksAt}
use Rattle.cc_meaning_typing.specs.Faults.{IsTooWide, StaysWithin, IsFaultOf, IsFirstFault, FitsWidth}
use Rattle.cc_meaning_typing.specs.Ending.{width_of, tries_room, AreNarrowStates}

-- Instructions stand behind the units of those before them, and all before the end, at an address of 32 bits.
pub record StandInOrder (code : Code) : Type 0 where
  pub starts : (k : ℕ) (placed : Placed) → slice_get code.insns k ≡ Some placed → placed.at ≡ units_in (take k code.insns)
  pub more : (k : ℕ) (placed : Placed) → slice_get code.insns k ≡ Some placed → units_in (take (k + 1) code.insns) ≡ units_in (take k code.insns) + placed.units
  pub within : (at : ℕ) (placed : Placed) → placed_at code at ≡ Some placed → at < units_of code
  pub ends : (at : ℕ) (placed : Placed) → placed_at code at ≡ Some placed → placed.at + placed.units < 2 ^ 32
  pub fits : units_of code < 2 ^ 32

abbrev pub LaidOutStands : Type 0
LaidOutStands = (code : Code) → IsLaidOut code → StandInOrder code

-- Control stays within a method: targets stand, it reaches instructions alone, and each of them begins before the end of the code.
pub record IsClosed (body : Body) : Type 0 where
  pub targets : TargetsStand body.code
  pub stays : StaysWithin body.code
  pub within : (at : ℕ) (placed : Placed) → placed_at body.code at ≡ Some placed → at < units_of body.code

-- what holds of the states on the way: as many registers in each, at addresses that control reaches, and one at each address that is due
pub record Fits (body : Body) (states : States) (due : Due) : Type 0 where
  pub long : length states ≡ units_of body.code
  pub wide : (at : ℕ) (s : State) → state_at states at ≡ Some s → length s.registers ≡ width_of body
  pub has : (at : ℕ) → due at ≡ true → (s : State) × (state_at states at ≡ Some s)
  pub reached : (at : ℕ) (s : State) → state_at states at ≡ Some s → Reaches body.code at

-- States grow, as many registers in each of them, and the addresses whose states have changed are due beside those that were.
pub record Spreads (body : Body) (states new : States) (due later : Due) : Type 0 where
  pub long : length new ≡ length states
  pub wide : (at : ℕ) (s : State) → state_at new at ≡ Some s → length s.registers ≡ width_of body
  pub grows : (at : ℕ) (s : State) → state_at states at ≡ Some s → Leads body.program (state_at new) (Some at) s
  pub marks : (at : ℕ) → Marks (state_at states at) (state_at new at) (due at) (later at)

abbrev pub AreWide : Body → States → Type 0
AreWide body states = (at : ℕ) (s : State) → state_at states at ≡ Some s → length s.registers ≡ width_of body

-- leading to an address spreads, and so does spreading twice
pub record LeadingSpreads (body : Body) : Type 0 where
  pub none : (states : States) (due : Due) → AreWide body states → Spreads body states states due due
  pub once : (states : States) (due later : Due) (to : Option ℕ) (s : State) → AreWide body states → length s.registers ≡ width_of body → ((at : ℕ) → Marks (state_at states at) (state_at (lead body.program s states to) at) (due at) (later at)) → Spreads body states (lead body.program s states to) due later
  pub further : (states new last : States) (due later late : Due) → Spreads body states new due later → Spreads body new last later late → Spreads body states last due late

-- The states on the way fit, and where no rule was broken those in the end are a typing.
pub record TriesFindTypings (body : Body) : Type 0 where
  pub fits : (n : ℕ) (states : States) (due : Due) → After body n states due → Fits body states due
  pub typing : (states : States) → EndsWith body states → IsTyping body (state_at states)

-- A typing covers the states on the way, so its rules keep at every try.
pub record TypingsCover (body : Body) : Type 0 where
  pub covers : (typing : Typing) (n : ℕ) (states : States) (due : Due) → IsTyping body typing → After body n states due → (at : ℕ) (s : State) → state_at states at ≡ Some s → Leads body.program typing (Some at) s
  pub keeps : (at : ℕ) → BreaksAt body at → HasTyping body → ⊥

-- each try in which no rule is broken leaves less room for further ones
abbrev pub TriesShrink : Body → Type 0
TriesShrink body = (n at : ℕ) (states : States) (due later : Due) (s : State) → After body n states due → Tries body states due at s → (kept : Passes body at s) → DueAfter states (tried body states at kept.placed s) due at later → AreNarrowStates (tried body states at kept.placed s) → tries_room body (tried body states at kept.placed s) later < tries_room body states due

abbrev pub LeadsSpread : Type 0
LeadsSpread = (body : Body) → IsHierarchy body.program → LeadingSpreads body

abbrev pub FindTypings : Type 0
FindTypings = (body : Body) → IsHierarchy body.program → IsClosed body → TriesFindTypings body

abbrev pub CoverTries : Type 0
CoverTries = (body : Body) → IsHierarchy body.program → TypingsCover body

abbrev pub ShrinkTries : Type 0
ShrinkTries = (body : Body) → IsHierarchy body.program → TriesShrink body

-- a method has one fault at most
abbrev pub OneFault : Type 0
OneFault = (body : Body) (m : ℕ) (first second : VerifyFault) → IsFaultOf body m first → IsFaultOf body m second → first ≡ second

-- a method that is well typed and not too wide has none
abbrev pub SoundHasNoFault : Type 0
SoundHasNoFault = (body : Body) (m : ℕ) (fault : VerifyFault) → IsHierarchy body.program → IsSound body → (IsTooWide body.code → ⊥) → IsFaultOf body m fault → ⊥

-- A program has one first fault at most, and none if it is well typed and no method is too wide.
abbrev pub OneFirstFault : Type 0
OneFirstFault = (program : Program) (first second : VerifyFault) → IsFirstFault program first → IsFirstFault program second → first ≡ second

abbrev pub WellTypedHasNoFault : Type 0
WellTypedHasNoFault = (program : Program) (fault : VerifyFault) → IsHierarchy program → WellTyped program → FitsWidth program → IsFirstFault program fault → ⊥
