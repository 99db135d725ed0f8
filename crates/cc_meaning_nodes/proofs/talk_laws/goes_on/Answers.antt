use Rattle.cc_meaning_nodes.proofs.Talks.{said_goes_on, standing_goes_on, said_is_front}
use Rattle.cc_meaning_nodes.proofs.talk_laws.goes_on.Goals as goal

pub returns-clause-said : goal.returns-clause-said
returns-clause-said g c = said_goes_on

pub returns-clause-standing : goal.returns-clause-standing
returns-clause-standing g c = standing_goes_on

pub returns-clause-front : goal.returns-clause-front
returns-clause-front g c = said_is_front
