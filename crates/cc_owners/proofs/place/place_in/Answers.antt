use Rattle.cc_owners.proofs.Placing.{place_there, place_nowhere}
use Rattle.cc_owners.proofs.place.place_in.Goals as goal

pub returns-in-Some : goal.returns-in-Some
returns-in-Some c = λ name named.
    place_there c.args.linked.now c.requires.known c.args.class name c.at.result.now named c.at.ensures.get c.args.row c.in-Some.definition c.find.result c.in-Some.is
    (c.find.ensures c.args.linked.now.classes.now c.requires.known.sound c.requires.known.entries)

pub returns-in-None : goal.returns-in-None
returns-in-None c = λ name named. place_nowhere c.args.linked.now c.requires.known c.args.class name c.at.result.now named c.at.ensures.get c.args.row c.in-None.is
