use Rattle.std.proofs.Common.{sym, ◌∙◌}
use Rattle.cc_tables.proofs.Splitting.{ended, next}
use Rattle.cc_tables.proofs.prototype.next_param.Goals as goal

pub returns-then-ends_params-clause-next : goal.returns-then-ends_params-clause-next
returns-then-ends_params-clause-next c params after are = ended params after c.args.units.now are (sym c.ends_params.ensures ∙ c.if-ends_params.true)

pub returns-clause-next : goal.returns-clause-next
returns-clause-next c params after are =
    next params after c.args.units.now c.split_at.result.0.now c.split_at.result.1.now c.descriptor_len.result are (sym c.ends_params.ensures ∙ c.if-ends_params.false)
    c.split_at.ensures.front c.split_at.ensures.back c.descriptor_len.ensures.exact
