use Rattle.std.proofs.Common.{◌∙◌, ap}
use Rattle.cc_meaning_builtin.specs.Calls.{truth}
use Rattle.cc_builtin.proofs.Ending.{equal_ends, no_text_ends}
use Rattle.cc_builtin.proofs.argument.is_equal_text.Goals as goal

pub returns-in_default : goal.returns-in_default
returns-in_default c = no_text_ends c.args.id _ c.args.world.now _ _ c.in_default.ensures

pub returns : goal.returns
returns c = equal_ends c.args.id c.args.other c.args.world.now c.in-Some.units.now c.int_of.result c.in-Some.ensures (c.int_of.ensures ∙ ap truth c.is_text.ensures)
