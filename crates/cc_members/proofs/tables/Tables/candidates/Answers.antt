use Rattle.std.proofs.lemmas.List.Elements.{Contains-get_or}
use Rattle.cc_members.proofs.tables.Tables.candidates.Goals as goal

pub named_method-named-requires-clause-there : goal.named_method-named-requires-clause-there
named_method-named-requires-clause-there c = c.requires.there _ (Contains-get_or c.args.plans.now c.loop-plan.plan-index _ c.loop-plan-test.true)
