use Rattle.cc_machine.proofs.Steps.{steps_without, steps_with}
use Rattle.cc_machine.proofs.progress.step.Goals as goal

pub returns-then-progress-eq0-clause-does : goal.returns-then-progress-eq0-clause-does
returns-then-progress-eq0-clause-does c = steps_without c.args.functions.now c.args.stops c.args.insn c.stopped.result c.args.progress.now c.if-progress-eq0.true c.stopped.ensures

pub returns-clause-does : goal.returns-clause-does
returns-clause-does c = steps_with c.args.functions.now c.args.stops c.args.insn c.args.progress.now c.act.new.progress c.act.result c.if-progress-eq0.false c.act.ensures.does
