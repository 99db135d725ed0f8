-- What is read of a file.
use Rattle.std.specs.Prelude.{◌≡◌, ℕ, List, Option}
use Rattle.cc_meaning.specs.declared.program.Program.{Program}
use Rattle.cc_meaning_typing.specs.Complete.{IsComplete}
use Rattle.cc_meaning_typing.specs.Hierarchy.{IsHierarchy}
use Rattle.cc_meaning_program.specs.Reading.{SpellsProgram, IsReadFault}
use Rattle.cc_meaning_program.specs.declared.read_fault.ReadFault.{ReadFault}

-- a file has one first fault at most, for each main class that may be asked for
abbrev pub OneReadFault : Type 0
OneReadFault = (file : List ℕ) (asked : Option (List ℕ)) (this that : ReadFault) → IsReadFault file asked this → IsReadFault file asked that → this ≡ that

-- and none where it spells a program
abbrev pub SpelledProgramsHaveNoFault : Type 0
SpelledProgramsHaveNoFault = (file : List ℕ) (asked : Option (List ℕ)) (program : Program) (fault : ReadFault) → SpellsProgram file asked program → ¬ IsReadFault file asked fault

-- the classes of the program that a file spells lead to Object
abbrev pub SpelledProgramsAreHierarchies : Type 0
SpelledProgramsAreHierarchies = (file : List ℕ) (asked : Option (List ℕ)) (program : Program) → SpellsProgram file asked program → IsHierarchy program

-- the program that a file spells is complete: the built-in classes are there, all that it names is there, and numbers of 32 bits count it
abbrev pub SpelledProgramsAreComplete : Type 0
SpelledProgramsAreComplete = (file : List ℕ) (asked : Option (List ℕ)) (program : Program) → SpellsProgram file asked program → IsComplete program
