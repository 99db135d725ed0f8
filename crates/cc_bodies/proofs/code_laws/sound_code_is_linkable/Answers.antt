use Rattle.cc_bodies.proofs.Linkability as linkable
use Rattle.cc_bodies.proofs.code_laws.sound_code_is_linkable.Goals as goal

pub returns : goal.returns
returns c = linkable.sound_code_is_linkable c.stand_to_end.ensures c.one_reading.ensures c.listed_types_spelled.ensures
