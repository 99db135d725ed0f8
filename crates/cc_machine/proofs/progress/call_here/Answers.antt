use Rattle.std.proofs.Common.{rules, to_z, of_z, w32}
use Rattle.cc_machine.proofs.Steps.{comes_with, comes_without}
use Rattle.cc_machine.proofs.progress.call_here.Goals as goal

pub returns-in-Some : goal.returns-in-Some
returns-in-Some c =
    comes_with c.args.functions.now c.args.function c.args.argument c.args.instructions c.args.words c.in_ok-value.field-0 (to_z w32 (of_z w32 c.in-Some.value), c.in-Some.instructions) (search rules) (search rules)

pub returns-in-None : goal.returns-in-None
returns-in-None c = comes_without c.args.functions.now c.args.function c.args.argument c.args.instructions c.args.words c.in_ok-value.field-0 (search rules) c.in-None.is
