use Rattle.cc_bodies.specs.Linked.{TypeLinked}
use Rattle.cc_bodies.proofs.links.link_type.Goals as goal

pub returns-in-Row : goal.returns-in-Row
returns-in-Row c = rw c.in-Row.is (TypeLinked.of_row c.type_of.ensures)

pub returns-in-Known : goal.returns-in-Known
returns-in-Known c = rw c.in-Known.is TypeLinked.stays
