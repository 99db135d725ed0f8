use Rattle.cc_machine.proofs.Steps.{ends_without, ends_with_one}
use Rattle.cc_machine.proofs.progress.finish.Goals as goal

pub returns-then-progress-eq0-clause-does : goal.returns-then-progress-eq0-clause-does
returns-then-progress-eq0-clause-does c = ends_without c.args.progress.now.instructions c.args.progress.now c.if-progress-eq0.true

pub returns-clause-does : goal.returns-clause-does
returns-clause-does c = ends_with_one c.args.progress.now.instructions c.args.progress.now c.if-progress-eq0.false
