use Rattle.std.proofs.Common.{◌∙◌, rules}
use Rattle.cc_machine.proofs.Stages.{never_enters, reports}
use Rattle.cc_machine.proofs.running.run.Goals as goal

pub unreachable-requires : goal.unreachable-requires
unreachable-requires c =
    never_enters c.args.plain.now c.args.limits c.in_ok-machine.machine c.go_through.new.machine _ (search rules) (search rules) c.in-AtEntry.field-0 c.in-AtEntry.is

pub returns : goal.returns
returns c =
    c.report.ensures ∙ reports c.args.plain.now c.args.limits c.in_ok-machine.machine c.go_through.new.machine _ (search rules) (search rules) c.in-Done.ending c.in-Done.is
