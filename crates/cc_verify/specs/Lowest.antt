-- The lowest address at which something is wrong.
use Rattle.std.specs.Prelude.{◌≡◌, ◌⊎◌, ℕ, ◌≤◌, All, Contains, List, Option, Some, None}
use Rattle.cc_meaning.specs.declared.program.Catch.{Catch}
use Rattle.cc_meaning.specs.declared.program.Code.{Code}
use Rattle.cc_meaning.specs.declared.program.Placed.{Placed}
use Rattle.cc_meaning.specs.declared.program.Try.{Try}
use Rattle.cc_meaning_typing.specs.Code.{Body}
use Rattle.cc_meaning_typing.specs.WellTyped.{IsTarget, HasTargets, KnowsMember}

-- The lowest of an address, if there is one, and of those at which something is wrong; none only where all is right.
abbrev pub Lowers : Option ℕ → (ℕ → Type 0) → Type 0 → Option ℕ → Type 0
Lowers best IsWrong IsRight None = (best ≡ None) × IsRight
Lowers best IsWrong IsRight (Some low) = ((best ≡ Some low) ⊎ IsWrong low) × ((at : ℕ) → best ≡ Some at → low ≤ at) × ((at : ℕ) → IsWrong at → low ≤ at)

-- one of these stands at this address, and is wrong
abbrev pub IsAmong : {X : Type 0} → (X → ℕ) → (X → Type 0) → List X → ℕ → Type 0
IsAmong {X} place IsRight xs at = (x : X) × Contains xs x × (place x ≡ at) × (IsRight x → ⊥)

abbrev pub place_of : Placed → ℕ
place_of placed = placed.at

abbrev pub BranchStands : Code → Placed → Type 0
BranchStands code placed = HasTargets code placed.at placed.insn

abbrev pub IsBadBranch : Code → List Placed → ℕ → Type 0
IsBadBranch code insns at = IsAmong place_of (BranchStands code) insns at

abbrev pub BranchesStand : Code → List Placed → Type 0
BranchesStand code insns = All (BranchStands code) insns

abbrev pub handler_of : Catch → ℕ
handler_of catch = catch.at

abbrev pub CatchStands : Code → Catch → Type 0
CatchStands code catch = IsTarget code (Some catch.at)

abbrev pub IsBadCatch : Code → List Catch → ℕ → Type 0
IsBadCatch code catches at = IsAmong handler_of (CatchStands code) catches at

abbrev pub AreTargets : Code → List Catch → Type 0
AreTargets code catches = All (CatchStands code) catches

abbrev pub IsBadTry : Code → List Try → ℕ → Type 0
IsBadTry code tries at = (try : Try) × Contains tries try × IsBadCatch code try.catches at

abbrev pub CatchesStand : Code → List Try → Type 0
CatchesStand code tries = All (λ (try : Try). AreTargets code try.catches) tries

abbrev pub MemberIsKnown : Body → Placed → Type 0
MemberIsKnown body placed = KnowsMember body placed.insn
