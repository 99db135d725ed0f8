-- The faults of a method, and the first one of a program.
use Rattle.std.specs.Prelude.{◌≡◌, ℕ, ◌<◌, ◌≤◌, ◌*◌, All, Contains, Some, slice_get}
use Rattle.cc_meaning.specs.declared.fault.VerifyFault.{VerifyFault}
use Rattle.cc_meaning.specs.declared.fault.VerifyFault.TheVariants as faults
use Rattle.cc_meaning.specs.declared.program.Catch.{Catch}
use Rattle.cc_meaning.specs.declared.program.Code.{Code}
use Rattle.cc_meaning.specs.declared.program.MethodKind.TheVariants as kinds
use Rattle.cc_meaning.specs.declared.program.Placed.{Placed}
use Rattle.cc_meaning.specs.declared.program.Program.{Program}
use Rattle.cc_meaning.specs.declared.program.Try.{Try}
use Rattle.cc_meaning_typing.specs.Code.{Body}
use Rattle.cc_meaning_typing.specs.WellTyped.{IsTarget, HasTargets, TargetsStand, KnowsMember, Reaches}
use Rattle.cc_meaning_typing.specs.Tries.{units_of, BreaksAt}

-- ---- the width

-- A method's units times its registers are more than 4,194,304, which bounds what a verifier keeps.
abbrev pub IsTooWide : Code → Type 0
IsTooWide code = 4194304 < units_of code * code.registers

-- ---- targets

-- at this address stands a branch, or begins a handler, with a target that is no instruction, or no payload of its kind
pub data IsBadTarget (code : Code) : ℕ → Type 0 where
  branch : {placed : Placed} → Contains code.insns placed → (HasTargets code placed.at placed.insn → ⊥) → IsBadTarget code placed.at
  handler : {try : Try} {catch : Catch} → Contains code.tries try → Contains try.catches catch → (IsTarget code (Some catch.at) → ⊥) → IsBadTarget code catch.at

-- ---- members

-- the instruction at this address names a member that isn't known, or isn't one of those that it is for
pub data IsUnknownMember (body : Body) : ℕ → Type 0 where
  unknown : {placed : Placed} → Contains body.code.insns placed → (KnowsMember body placed.insn → ⊥) → IsUnknownMember body placed.at

abbrev pub MembersAreKnown : Body → Type 0
MembersAreKnown body = All (λ (placed : Placed). KnowsMember body placed.insn) body.code.insns

-- ---- what is reached

-- control can reach an address that is past the end, or has a payload
pub record FallsOff (code : Code) : Type 0 where
  pub at : ℕ
  pub reached : Reaches code at
  pub nothing : IsTarget code (Some at) → ⊥

abbrev pub StaysWithin : Code → Type 0
StaysWithin code = (at : ℕ) → Reaches code at → IsTarget code (Some at)

-- ---- the first fault

pub record IsLeast (P : ℕ → Type 0) (at : ℕ) : Type 0 where
  pub holds : P at
  pub least : (other : ℕ) → P other → at ≤ other

-- the fault of a method, each only where there is none of those before it
pub data IsFaultOf (body : Body) (method : ℕ) : VerifyFault → Type 0 where
  too_wide : IsTooWide body.code → IsFaultOf body method (faults.TooWide method)
  bad_target : {at : ℕ} → (IsTooWide body.code → ⊥) → IsLeast (IsBadTarget body.code) at → IsFaultOf body method (faults.BadTarget method at)
  unknown_member : {at : ℕ} → (IsTooWide body.code → ⊥) → TargetsStand body.code → IsLeast (IsUnknownMember body) at → IsFaultOf body method (faults.UnknownMember method at)
  falls_off : (IsTooWide body.code → ⊥) → TargetsStand body.code → MembersAreKnown body → FallsOff body.code → IsFaultOf body method (faults.FallsOff method)
  ill_typed : {at : ℕ} → (IsTooWide body.code → ⊥) → TargetsStand body.code → MembersAreKnown body → StaysWithin body.code → BreaksAt body at → IsFaultOf body method (faults.IllTyped method at)

-- a method of the program with code
pub record IsBodyOf (program : Program) (m : ℕ) (body : Body) : Type 0 where
  pub here : body.program ≡ program
  pub stands : slice_get program.methods m ≡ Some body.method
  pub coded : body.method.kind ≡ kinds.Code body.code

-- the fault of the first method in number order that has one
pub record IsFirstFault (program : Program) (fault : VerifyFault) : Type 0 where
  pub number : ℕ
  pub body : Body
  pub of : IsBodyOf program number body
  pub is : IsFaultOf body number fault
  pub first : (earlier : ℕ) (other : Body) (found : VerifyFault) → earlier < number → IsBodyOf program earlier other → IsFaultOf other earlier found → ⊥

-- ---- what is accepted

-- no method has too many units times registers
abbrev pub FitsWidth : Program → Type 0
FitsWidth program = (m : ℕ) (body : Body) → IsBodyOf program m body → IsTooWide body.code → ⊥
