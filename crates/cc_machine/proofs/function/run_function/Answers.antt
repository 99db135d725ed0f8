use Rattle.std.proofs.Common.{rules, to_z, of_z, w32}
use Rattle.cc_machine.proofs.Given.{gives_none, gives_value}
use Rattle.cc_machine.proofs.function.run_function.Goals as goal

pub returns-in_default : goal.returns-in_default
returns-in_default c = gives_none c.args.function.now.code c.args.argument c.args.instructions (search rules)

pub returns : goal.returns
returns c = gives_value c.args.function.now.code c.args.argument c.args.instructions c.in-Some.left c.in_ok-numbers.numbers (to_z w32 (of_z w32 c.number_returned-value.result)) (search rules) (search rules) (search rules)
