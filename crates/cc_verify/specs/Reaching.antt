-- What is known while control is followed.
use Rattle.std.specs.Prelude.{◌≡◌, ◌⊎◌, ℕ, ◌+◌, ◌*◌, ◌≤◌, Bool, true, false, All, Contains, List, [], ◌∷◌, length, Option, Some, None, slice_index_or}
use Rattle.cc_meaning.specs.declared.program.Catch.{Catch}
use Rattle.cc_meaning.specs.declared.program.Code.{Code}
use Rattle.cc_meaning.specs.declared.program.Placed.{Placed}
use Rattle.cc_meaning_typing.specs.Code.{placed_at, successors, handlers}
use Rattle.cc_meaning_typing.specs.WellTyped.{IsTarget, Reaches}
use Rattle.cc_meaning_typing.specs.Faults.{FallsOff}
use Rattle.cc_meaning_typing.specs.Tries.{units_of}
use Rattle.cc_verify.specs.declared.reach.Frontier.{Frontier}

-- whether control has come to an address
abbrev pub seen_at : List Bool → ℕ → Bool
seen_at seen at = slice_index_or seen at false

-- one before the first is none that control comes to
abbrev pub IsSeen : List Bool → Option ℕ → Type 0
IsSeen seen None = Unit {0}
IsSeen seen (Some at) = seen_at seen at ≡ true

abbrev pub CanCome : Code → Option ℕ → Type 0
CanCome code None = Unit {0}
CanCome code (Some at) = Reaches code at

unfoldable pub unseen_of : Bool → ℕ
unseen_of true = 0
unseen_of false = 1

unfoldable pub unseen_in : List Bool → ℕ
unseen_in [] = 0
unseen_in (seen ∷ rest) = unseen_of seen + unseen_in rest

-- how often control can still be followed, at most
unfoldable pub room : Frontier → ℕ
room it = 2 * unseen_in it.seen + length it.next

-- Control comes to more addresses; each new one waits to be looked at.
pub record Widens (old new : Frontier) : Type 0 where
  pub long : length new.seen ≡ length old.seen
  pub keeps : (at : ℕ) → seen_at old.seen at ≡ true → seen_at new.seen at ≡ true
  pub waits : (at : ℕ) → Contains old.next at → Contains new.next at
  pub fresh : (at : ℕ) → seen_at new.seen at ≡ true → (seen_at old.seen at ≡ true) ⊎ Contains new.next at
  pub queued : (at : ℕ) → Contains new.next at → Contains old.next at ⊎ (seen_at new.seen at ≡ true)
  pub room : room new ≤ room old

-- there is a place for each unit, control can reach what was seen, and instructions stand there
pub record AreReached (code : Code) (it : Frontier) : Type 0 where
  pub long : length it.seen ≡ units_of code
  pub each : (at : ℕ) → seen_at it.seen at ≡ true → Reaches code at × IsTarget code (Some at)

-- Control was followed to some addresses, and then this holds, or it falls off.
abbrev pub Looked : Code → Frontier → Frontier → Type 0 → Bool → Type 0
Looked code old new Done true = Widens old new × AreReached code new × Done
Looked code old new Done false = FallsOff code

-- control was followed from an address
pub record IsExplored (code : Code) (seen : List Bool) (at : ℕ) : Type 0 where
  pub goes : (placed : Placed) → placed_at code at ≡ Some placed → All (IsSeen seen) (successors code placed)
  pub throws : (placed : Placed) → placed_at code at ≡ Some placed → All (λ (catch : Catch). seen_at seen catch.at ≡ true) (handlers code placed)
