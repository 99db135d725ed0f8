use Rattle.cc_machine.proofs.Steps.{none_left}
use Rattle.cc_machine.proofs.progress.take_result.Goals as goal

pub returns-then-progress-eq0-clause-does : goal.returns-then-progress-eq0-clause-does
returns-then-progress-eq0-clause-does c = none_left c.args.progress.now.instructions c.stopped.result c.args.progress.now _ c.if-progress-eq0.true c.stopped.ensures
