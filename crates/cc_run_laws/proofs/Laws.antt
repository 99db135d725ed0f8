-- From what a file spells to what soundness takes.
use Rattle.std.proofs.Common.{ℕ, List, Option}
use Rattle.cc_meaning.specs.declared.program.Program.{Program}
use Rattle.cc_meaning_program.specs.Reading.{SpellsProgram}
use Rattle.cc_meaning_program.specs.Rows.{SpelledTablesFit, SpelledClassesFit}
use Rattle.cc_meaning_typing.specs.Complete.{IsComplete}
use Rattle.cc_program_laws.specs.Laws.{SpelledPartsAreBounded, ProgramsAreComplete}
use Rattle.cc_meaning_fits.specs.Soundness.{LocalHasReport}
use Rattle.cc_run_laws.specs.Laws.{SpelledProgramsAreLinked, SpelledOutFits, SpelledMainFits, SaidScriptsFit, SpelledProgramsHaveReports}
use Rattle.cc_run_laws.proofs.Linked.{linked}
use Rattle.cc_run_laws.proofs.Mains.{main_fits, out_fits}
use Rattle.cc_run_laws.proofs.Scripts.{script_fits}

pub said_scripts_fit : SaidScriptsFit
said_scripts_fit p complete value script said = script_fits p complete value script said

module _ (tables : SpelledTablesFit) (members : SpelledClassesFit) (bounded : SpelledPartsAreBounded) (complete : ProgramsAreComplete) where
  pub whole : (file : List ℕ) (asked : Option (List ℕ)) (p : Program) → SpellsProgram file asked p → IsComplete p
  whole file asked p s = complete s.ids s.classes asked p (tables file s.ids s.tables) (members file s.ids s.classes s.tables s.members) s.sound (bounded file s.ids s.classes s.tables s.members) s.is

  pub programs_are_linked : SpelledProgramsAreLinked
  programs_are_linked file asked p s = linked file s.ids s.classes asked p s.members (tables file s.ids s.tables) s.sound s.is (whole file asked p s)

  pub out_is_right : SpelledOutFits
  out_is_right file asked p s = out_fits s.ids s.classes asked p (tables file s.ids s.tables) s.sound s.is (whole file asked p s)

  pub main_is_right : SpelledMainFits
  main_is_right file asked p s = main_fits s.ids s.classes asked p (tables file s.ids s.tables) s.sound s.is (whole file asked p s)

  pub programs_have_reports : LocalHasReport → SpelledProgramsHaveReports
  programs_have_reports sound file asked p value script s typed constructors said =
      sound script p (programs_are_linked file asked p s) constructors (out_is_right file asked p s) (main_is_right file asked p s) (said_scripts_fit p (whole file asked p s) value script said) typed
