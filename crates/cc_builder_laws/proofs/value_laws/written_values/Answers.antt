use Rattle.cc_builder_laws.proofs.ValuesFollowing as following
use Rattle.cc_builder_laws.proofs.value_laws.written_values.Goals as goal

pub returns : goal.returns
returns c = following.written_values c.stands_apart.ensures c.stands_within.ensures c.uleb_length.ensures c.written_uleb.ensures
