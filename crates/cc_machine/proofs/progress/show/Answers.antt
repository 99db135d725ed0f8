use Rattle.std.proofs.Common.{◌∙◌}
use Rattle.cc_meaning.specs.declared.report.StopCause.TheVariants as cause
use Rattle.cc_meaning_run.specs.Instructions.{line_of}
use Rattle.cc_meaning_plain.specs.Text.{number_at}
use Rattle.cc_machine.proofs.Steps.{prints, lacks, stops_by}
use Rattle.cc_machine.proofs.progress.show.Goals as goal

pub returns-then-branch-clause-does : goal.returns-then-branch-clause-does
returns-then-branch-clause-does c =
    prints c.args.progress.now c.print.new.progress (line_of (number_at c.args.progress.now.numbers c.args.register)) c.in_ok-print.field-0 c.if-branch.true c.in_ok-print.ensures.does

pub returns-else-branch-clause-does : goal.returns-else-branch-clause-does
returns-else-branch-clause-does c =
    stops_by cause.Heap c.stopped.result c.print.new.progress c.stopped.ensures
    ∙ lacks c.args.progress.now c.print.new.progress (line_of (number_at c.args.progress.now.numbers c.args.register)) c.in_ok-print.field-0 c.if-branch.false c.in_ok-print.ensures.does
