-- What a judge of something that may have faults answers.
use Rattle.std.specs.Prelude.{◌≡◌, ◌≢◌, ℕ, List, Result, Ok, Err}
use Rattle.std.specs.List.{AllZip}
use Rattle.cc_meaning.specs.declared.fault.ProgramFault.{ProgramFault}
use Rattle.cc_meaning.specs.declared.fault.ProgramFault.TheVariants as faults
use Rattle.cc_meaning.specs.declared.file.Ids.{Ids}
use Rattle.cc_meaning_program.specs.declared.reference.Reference.{Reference}
use Rattle.cc_meaning_program.specs.References.{reference_name, IsMissing, Floats}
use Rattle.cc_meaning_program.specs.BodyFaults.{FirstHas, NoneHas}

-- that it has none, or one that it has; and at any time that there is no memory
abbrev pub Judges : (ProgramFault → Type 0) → Result (Unit {0}) ProgramFault → Type 0
Judges has (Ok nothing) = (fault : ProgramFault) → ¬ has fault
Judges has (Err fault) = fault ≢ faults.Memory → has fault

-- the same of what is read as well, where it has none
abbrev pub Reads : {A : Type 0} → (A → Type 0) → (ProgramFault → Type 0) → Result A ProgramFault → Type 0
Reads is has (Ok read) = is read × ((fault : ProgramFault) → ¬ has fault)
Reads is has (Err fault) = fault ≢ faults.Memory → has fault

-- that no item has one, or that of the first that has
abbrev pub JudgesEach : {A : Type 0} → (A → ProgramFault → Type 0) → List A → Result (Unit {0}) ProgramFault → Type 0
JudgesEach has items (Ok nothing) = NoneHas has items
JudgesEach has items (Err fault) = fault ≢ faults.Memory → FirstHas has items fault

-- the same of what is read of each, where none has one
abbrev pub ReadsEach : {A B : Type 0} → (A → B → Type 0) → (A → ProgramFault → Type 0) → List A → Result (List B) ProgramFault → Type 0
ReadsEach is has items (Ok read) = AllZip is items read × NoneHas has items
ReadsEach is has items (Err fault) = fault ≢ faults.Memory → FirstHas has items fault

-- what is wrong with a row that the instruction at an address of a method names
pub data ReferenceFaulty (ids : Ids) (method : List ℕ) (at : ℕ) (named : Reference) (fault : ProgramFault) : Type 0 where
  missing : IsMissing ids named → fault ≡ faults.BadIndex method at → ReferenceFaulty ids method at named fault
  floating : ¬ IsMissing ids named → Floats ids named → fault ≡ faults.FloatMember (reference_name ids named) → ReferenceFaulty ids method at named fault
