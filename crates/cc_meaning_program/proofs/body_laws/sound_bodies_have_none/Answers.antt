use Rattle.cc_meaning_program.proofs.BodyFaultLaws as laws
use Rattle.cc_meaning_program.proofs.body_laws.sound_bodies_have_none.Goals as goal

pub returns : goal.returns
returns c = laws.sound_bodies_have_none
