-- The instructions of a code's units, one behind the other from the first unit on, payloads among them.
use Rattle.std.specs.Prelude.{◌≡◌, ◌↔◌, ℕ, suc, ◌+◌, ◌<◌, ◌≤◌, List, [], ◌∷◌, ◌++◌, length, slice_get, Some, None, Ok, Err}
use Rattle.cc_meaning.specs.declared.fault.InsnFault.{InsnFault}
use Rattle.cc_meaning.specs.declared.instruction.Insn.{Insn}
use Rattle.cc_meaning.specs.declared.program.Placed.{Placed}
use Rattle.cc_meaning_insn.specs.Decoded.{decoded}

-- from an address to the end of the units stand these instructions
pub data StandFrom (units : List ℕ) : ℕ → List Placed → Type 0 where
  none : StandFrom units (length units) []
  next : {at size : ℕ} {insn : Insn} {rest : List Placed} → at < length units → decoded units at ≡ Ok (insn, size) → StandFrom units (at + size) rest → StandFrom units at (record { at = at; units = size; insn = insn } ∷ rest)

-- the units are these instructions
abbrev pub AreInstructions : List ℕ → List Placed → Type 0
AreInstructions units placed = StandFrom units 0 placed

-- these instructions stand from the first address to before another
pub data StandUntil (units : List ℕ) : ℕ → List Placed → Type 0 where
  none : StandUntil units 0 []
  next : {at size : ℕ} {insn : Insn} {before : List Placed} → StandUntil units at before → at < length units → decoded units at ≡ Ok (insn, size) → StandUntil units (at + size) (before ++ record { at = at; units = size; insn = insn } ∷ [])

-- behind these instructions stands none, for this cause
pub record BreaksOff (units : List ℕ) (before : List Placed) (at : ℕ) (fault : InsnFault) : Type 0 where
  pub stand : StandUntil units at before
  pub inside : at < length units
  pub none : decoded units at ≡ Err fault

-- ---- laws

-- What stands in units has at least one unit, and none past their end.
abbrev pub InsnsTakeUnits : Type 0
InsnsTakeUnits = (units : List ℕ) (at size : ℕ) (insn : Insn) → decoded units at ≡ Ok (insn, size) → (0 < size) × (at + size ≤ length units)

-- Instructions one behind the other, the first at 0 and the last up to the end, each of at least one unit.
pub record AreLaidOut (placed : List Placed) (end : ℕ) : Type 0 where
  pub begins : (first : Placed) → slice_get placed 0 ≡ Some first → first.at ≡ 0
  pub follows : (number : ℕ) (this next : Placed) → slice_get placed number ≡ Some this → slice_get placed (suc number) ≡ Some next → next.at ≡ this.at + this.units
  pub takes : (number : ℕ) (this : Placed) → slice_get placed number ≡ Some this → 0 < this.units
  pub within : (number : ℕ) (this : Placed) → slice_get placed number ≡ Some this → this.at + this.units ≤ end
  pub ends : (number : ℕ) (last : Placed) → slice_get placed number ≡ Some last → slice_get placed (suc number) ≡ None → last.at + last.units ≡ end
  pub empty : placed ≡ [] → end ≡ 0

-- the instructions of units are laid out so
abbrev pub InstructionsLaidOut : Type 0
InstructionsLaidOut = (units : List ℕ) (placed : List Placed) → AreInstructions units placed → AreLaidOut placed (length units)

-- instructions up to the units' end are all of them
abbrev pub StandToEnd : Type 0
StandToEnd = (units : List ℕ) (placed : List Placed) → AreInstructions units placed ↔ StandUntil units (length units) placed

-- units are instructions in one way at most
abbrev pub OneReading : Type 0
OneReading = (units : List ℕ) (these those : List Placed) → AreInstructions units these → AreInstructions units those → these ≡ those

-- They break off at one place at most, for one cause, and where they do they are no instructions.
pub record OneBreak : Type 0 where
  pub before : (units : List ℕ) (these those : List Placed) (here there : ℕ) (fault other : InsnFault) → BreaksOff units these here fault → BreaksOff units those there other → these ≡ those
  pub at : (units : List ℕ) (these those : List Placed) (here there : ℕ) (fault other : InsnFault) → BreaksOff units these here fault → BreaksOff units those there other → here ≡ there
  pub cause : (units : List ℕ) (these those : List Placed) (here there : ℕ) (fault other : InsnFault) → BreaksOff units these here fault → BreaksOff units those there other → fault ≡ other
  pub no_reading : (units : List ℕ) (these those : List Placed) (here : ℕ) (fault : InsnFault) → BreaksOff units these here fault → ¬ AreInstructions units those
