-- The law of bounds.
use Rattle.cc_bound_laws.proofs.Costs.{bounds_hold}
use Rattle.cc_bound_laws.proofs.law_bounds.Goals as goal

pub returns : goal.returns
returns c = λ p script candidates profiles. bounds_hold p script candidates profiles
