-- What a reader promises of every program: its classes lead to Object, and names and addresses are in an order by which they are found.
use Rattle.std.specs.Prelude.{◌≡◌, ℕ, suc, ◌+◌, ◌<◌, ◌≤◌, ◌^◌, All, length, Some, slice_get}
use Rattle.cc_meaning.specs.declared.program.Class.{Class}
use Rattle.cc_meaning.specs.declared.program.Code.{Code}
use Rattle.cc_meaning.specs.declared.program.Method.{Method}
use Rattle.cc_meaning.specs.declared.program.MethodKind.TheVariants as kinds
use Rattle.cc_meaning.specs.declared.program.Placed.{Placed}
use Rattle.cc_meaning.specs.declared.program.Program.{Program}
use Rattle.cc_meaning.specs.Order.{IsRisingByName}
use Rattle.cc_meaning_typing.specs.Code.{brackets}
use Rattle.cc_meaning_typing.specs.Hierarchy.{IsHierarchy}

-- The instructions of a method stand one behind the other, the first one at 0. Each has at least one unit, and no address has more than 32 bits.
pub record IsLaidOut (code : Code) : Type 0 where
  pub begins : (placed : Placed) → slice_get code.insns 0 ≡ Some placed → placed.at ≡ 0
  pub follows : (k : ℕ) (placed next : Placed) → slice_get code.insns k ≡ Some placed → slice_get code.insns (suc k) ≡ Some next → next.at ≡ placed.at + placed.units
  pub takes : (k : ℕ) (placed : Placed) → slice_get code.insns k ≡ Some placed → 0 < placed.units
  pub fits : (k : ℕ) (placed : Placed) → slice_get code.insns k ≡ Some placed → placed.at + placed.units < 2 ^ 32

-- the array that a class is, if it is one, has fewer than 256 dimensions
abbrev pub HasFewDimensions : Class → Type 0
HasFewDimensions class = brackets class.name < 256

pub record IsWellFormed (program : Program) : Type 0 where
  pub hierarchy : IsHierarchy program
  pub classes_rise : IsRisingByName program.classes
  pub classes_fit : length program.classes ≤ 2 ^ 32
  pub few_dimensions : All HasFewDimensions program.classes
  pub laid_out : (m : ℕ) (method : Method) (code : Code) → slice_get program.methods m ≡ Some method → method.kind ≡ kinds.Code code → IsLaidOut code
