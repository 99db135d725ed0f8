-- What checking a file finds.
use Rattle.std.specs.Prelude.{◌≡◌, ℕ, List, Option, Some, None, Result, Ok, Err}
use Rattle.cc_meaning.specs.declared.fault.VerifyFault.{VerifyFault}
use Rattle.cc_meaning.specs.declared.fault.VerifyFault.TheVariants as verify
use Rattle.cc_meaning.specs.declared.program.Program.{Program}
use Rattle.cc_meaning.specs.Names.{method_name}
use Rattle.cc_meaning_typing.specs.WellTyped.{WellTyped}
use Rattle.cc_meaning_typing.specs.Faults.{FitsWidth, IsFirstFault}
use Rattle.cc_meaning_program.specs.Reading.{SpellsProgram, IsReadFault}
use Rattle.cc_meaning_program.specs.declared.read_fault.ReadFault.{ReadFault}
use Rattle.cc_meaning_program.specs.declared.read_fault.ReadFault.TheVariants as read
use Rattle.cc_check.specs.Summaries.{summary_of}
use Rattle.cc_check.specs.declared.fault.CheckFault.{CheckFault}
use Rattle.cc_check.specs.declared.fault.CheckFault.TheVariants as faults
use Rattle.cc_check.specs.declared.summary.Summary.{Summary}

-- The file spells this program with a main class that is asked for, if any; it is well typed, and no method has too many units times registers.
pub record IsAccepted (file : List ℕ) (asked : Option (List ℕ)) (program : Program) : Type 0 where
  pub spelled : SpellsProgram file asked program
  pub typed : WellTyped program
  pub narrow : FitsWidth program

-- a fault of reading, as one of checking
unfoldable pub read_fault : ReadFault → CheckFault
read_fault (read.Dex fault) = faults.Dex fault
read_fault (read.Program fault) = faults.Program fault
read_fault read.Memory = faults.Memory

-- the first fault of a program, with the printed name of its method
pub data NamesFault (program : Program) (fault : VerifyFault) : CheckFault → Type 0 where
  of : (first : IsFirstFault program fault) → NamesFault program fault (faults.Verify (method_name program first.body.method) fault)

-- The first fault of a file: that of reading it; or else, where it spells a program, the first one of its methods.
pub data IsRefused (file : List ℕ) (asked : Option (List ℕ)) : CheckFault → Type 0 where
  unread : {fault : ReadFault} → IsReadFault file asked fault → IsRefused file asked (read_fault fault)
  unverified : {program : Program} {fault : VerifyFault} {named : CheckFault} → SpellsProgram file asked program → NamesFault program fault named → IsRefused file asked named

-- what checking a file finds
pub data IsChecked (file : List ℕ) (asked : Option (List ℕ)) : Result Summary CheckFault → Type 0 where
  accepted : {program : Program} → IsAccepted file asked program → IsChecked file asked (Ok (summary_of program))
  refused : {fault : CheckFault} → IsRefused file asked fault → IsChecked file asked (Err fault)

-- the number of the method that a fault of verifying is of
unfoldable pub faulty_method : VerifyFault → Option ℕ
faulty_method (verify.IllTyped method pc) = Some method
faulty_method (verify.BadTarget method pc) = Some method
faulty_method (verify.FallsOff method) = Some method
faulty_method (verify.TooWide method) = Some method
faulty_method (verify.UnknownMember method pc) = Some method
faulty_method verify.Memory = None

-- ---- laws

-- checking finds one thing at most of a file, for each main class that may be asked for
abbrev pub OneChecked : Type 0
OneChecked = (file : List ℕ) (asked : Option (List ℕ)) (this that : Result Summary CheckFault) → IsChecked file asked this → IsChecked file asked that → this ≡ that
