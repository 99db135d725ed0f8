use Rattle.std.proofs.Common.{◌≡◌, ◌∙◌}
use Rattle.cc_meaning_builtin.specs.Calls.{returns_nothing}
use Rattle.cc_builtin.proofs.Ending.{appended_ends, no_text_ends}
use Rattle.cc_builtin.proofs.argument.append_text.Goals as goal

pub returns-in_default-clause-ok : goal.returns-in_default-clause-ok
returns-in_default-clause-ok c = no_text_ends c.args.from _ c.args.world.now _ _ c.in_default.ensures

pub returns-clause-ok : goal.returns-clause-ok
unfolding returns_nothing
returns-clause-ok c =
    let same : c.in_ok-more.more ≡ c.in-Some.units.now = c.in_ok-more.ensures ∙ c.as_slice.ensures in
    appended_ends c.append.result c.args.id c.args.from c.args.world.now _ c.in-Some.units.now c.in_ok-more.more c.in-Some.ensures same c.append.ensures.ok
