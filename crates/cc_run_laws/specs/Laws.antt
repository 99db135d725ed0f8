-- That what soundness takes of a program and a script follows from the bytes of a file and from what a script's text says; and so that the run of each such
-- program has a report.
use Rattle.std.specs.Prelude.{◌≡◌, ℕ, List, Option, Some}
use Rattle.serde_json.specs.Data.{Data}
use Rattle.cc_meaning.specs.declared.program.Program.{Program}
use Rattle.cc_meaning.specs.declared.report.Limits.{Limits}
use Rattle.cc_meaning.specs.declared.report.Report.{Report}
use Rattle.cc_meaning.specs.declared.script.Script.{Script}
use Rattle.cc_meaning_script.specs.Script.{SaysScript}
use Rattle.cc_meaning_program.specs.Reading.{SpellsProgram}
use Rattle.cc_meaning_typing.specs.Complete.{IsComplete}
use Rattle.cc_meaning_typing.specs.WellTyped.{WellTyped}
use Rattle.cc_meaning_exec.specs.Runs.{local}
use Rattle.cc_meaning_fits.specs.Premises.{IsLinked, ConstructorsStand, OutFits, MainFits, ScriptFits}

-- the program that a file spells is linked
abbrev pub SpelledProgramsAreLinked : Type 0
SpelledProgramsAreLinked = (file : List ℕ) (asked : Option (List ℕ)) (p : Program) → SpellsProgram file asked p → IsLinked p

-- the field of its standard output has the type of the stream
abbrev pub SpelledOutFits : Type 0
SpelledOutFits = (file : List ℕ) (asked : Option (List ℕ)) (p : Program) → SpellsProgram file asked p → OutFits p

-- its main method takes an array of texts, and there is a class of such arrays
abbrev pub SpelledMainFits : Type 0
SpelledMainFits = (file : List ℕ) (asked : Option (List ℕ)) (p : Program) → SpellsProgram file asked p → MainFits p

-- what a script's text says of a complete program fits the program
abbrev pub SaidScriptsFit : Type 0
SaidScriptsFit = (p : Program) → IsComplete p → (value : Data) (script : Script) → SaysScript p value script → ScriptFits p script

-- The run of the program that a file spells and that is well typed, with a script that a text says of it, is never stuck: it has a report.
abbrev pub SpelledProgramsHaveReports : Type 0
SpelledProgramsHaveReports = (file : List ℕ) (asked : Option (List ℕ)) (p : Program) (value : Data) (script : Script) → SpellsProgram file asked p → WellTyped p → ConstructorsStand p → SaysScript p value script →
    (texts : List (List ℕ)) (limits : Limits) → (report : Report) × (local script p texts limits ≡ Some report)
