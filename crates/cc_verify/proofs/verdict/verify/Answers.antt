use Rattle.std.proofs.Common.{length, subst}
use Rattle.std.specs.Prelude.{MatchOption}
use Rattle.cc_meaning_typing.specs.Faults.{IsFirstFault}
use Rattle.cc_verify.specs.Verdicts.{AreClear}
use Rattle.cc_verify.proofs.Verdicts.{all_typed, all_fit}
use Rattle.cc_verify.proofs.verdict.verify.Goals as goal

pub new-requires-clause-well_typed : goal.new-requires-clause-well_typed
new-requires-clause-well_typed c =
    all_typed c.args.program (subst (λ o. MatchOption o (AreClear c.args.program (length c.args.program.methods)) (IsFirstFault c.args.program)) c.in-Ok-None.field-0-is c.in-Ok-None.ensures)

pub returns-in-Ok-None-clause-narrow : goal.returns-in-Ok-None-clause-narrow
returns-in-Ok-None-clause-narrow c =
    all_fit c.args.program (subst (λ o. MatchOption o (AreClear c.args.program (length c.args.program.methods)) (IsFirstFault c.args.program)) c.in-Ok-None.field-0-is c.in-Ok-None.ensures)

pub first_fault-requires-clause-well_formed : goal.first_fault-requires-clause-well_formed
first_fault-requires-clause-well_formed c = c.requires.complete.well_formed

pub first_fault-requires-clause-fits : goal.first_fault-requires-clause-fits
first_fault-requires-clause-fits c = c.requires.complete.few.methods
