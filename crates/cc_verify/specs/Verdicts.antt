-- What is found of methods.
use Rattle.std.specs.Prelude.{ℕ, ◌<◌}
use Rattle.cc_meaning.specs.declared.fault.VerifyFault.{VerifyFault}
use Rattle.cc_meaning.specs.declared.program.Program.{Program}
use Rattle.cc_meaning_typing.specs.Code.{Body}
use Rattle.cc_meaning_typing.specs.WellTyped.{IsSound}
use Rattle.cc_meaning_typing.specs.Faults.{IsTooWide, IsFaultOf, IsBodyOf}

-- a method is well typed, and not too wide
pub record HasNoFault (body : Body) : Type 0 where
  pub sound : IsSound body
  pub narrow : IsTooWide body.code → ⊥

-- the method of a number has no code, or no fault
abbrev pub IsClear : Program → ℕ → Type 0
IsClear program m = (body : Body) → IsBodyOf program m body → HasNoFault body

-- the methods before a number have no fault
abbrev pub AreClear : Program → ℕ → Type 0
AreClear program n = (m : ℕ) → m < n → IsClear program m

-- the method of a number has this fault
pub record HasFault (program : Program) (m : ℕ) (fault : VerifyFault) : Type 0 where
  pub body : Body
  pub of : IsBodyOf program m body
  pub is : IsFaultOf body m fault
