use Rattle.std.proofs.Common.{rules}
use Rattle.cc_machine.proofs.Steps.{gives_nowhere}
use Rattle.cc_machine.proofs.progress.given_by.Goals as goal

pub returns-in-None : goal.returns-in-None
returns-in-None c = gives_nowhere c.args.functions.now c.args.function c.args.argument c.args.instructions (search rules)
