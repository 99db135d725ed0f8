use Rattle.std.proofs.Common.{◌≡◌, ◌∙◌}
use Rattle.cc_builtin.proofs.Ending.{built_ends, no_builder_ends}
use Rattle.cc_builtin.proofs.receiver.built_text.Goals as goal

pub returns-in_default-clause-ok : goal.returns-in_default-clause-ok
returns-in_default-clause-ok c = no_builder_ends c.args.id _ c.args.world.now _ _ c.in_default.ensures

pub returns-clause-ok : goal.returns-clause-ok
returns-clause-ok c =
    let same : c.in_ok-text.text ≡ c.in-Some.units.now = c.in_ok-text.ensures ∙ c.as_slice.ensures in
    built_ends c.give.result c.args.id c.args.world.now _ c.in-Some.units.now c.in_ok-text.text c.in-Some.ensures same c.give.ensures.ok
