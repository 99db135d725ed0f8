use Rattle.cc_bodies.proofs.FloatLemmas.{prototype_by_parameter}
use Rattle.cc_bodies.proofs.floats.prototype_floats.Goals as goal

pub returns-else-is_set : goal.returns-else-is_set
returns-else-is_set c ids say = prototype_by_parameter ids c.args.prototype.now c.args.types.now c.is_set.result c.any_is_set.result say c.is_set.ensures c.if-is_set.false (rw c.as_slice.ensures at c.any_is_set.ensures)
