use Rattle.std.proofs.Common.{get_or, sym, ◌∙◌, arith}
use Rattle.std.proofs.lemmas.List.Elements.{Contains-get_or}
use Rattle.cc_owners.specs.Known.{Has}
use Rattle.cc_owners.proofs.Lists.{number_at, as_many, none_yet, none_more, none_taken, first_at}
use Rattle.cc_owners.proofs.Placing.{has, has_not}
use Rattle.cc_owners.proofs.place.first_among.Goals as goal

pub place_in-requires-clause-class : goal.place_in-requires-clause-class
place_in-requires-clause-class c = c.requires.classes (get_or c.args.classes.now c.loop-class.class-index 0) (Contains-get_or c.args.classes.now c.loop-class.class-index 0 c.loop-class-test.true)

pub loop-class-init : goal.loop-class-init
loop-class-init c = λ order are. none_yet (Has c.args.linked.now c.args.row) order

pub returns-in-Some : goal.returns-in-Some
returns-in-Some c = λ order are.
    let linked = c.args.linked.now in
    let at = number_at linked.names.now order c.args.classes.now c.loop-class.class-index 0 are c.loop-class-test.true in
    let placed = sym c.in-Some.is ∙ c.place_in.ensures at.0 at.2 in
    record {
      owner = at.0;
      there = at.2;
      first = first_at (Has linked c.args.row) order c.loop-class.class-index at.0 at.1 (c.loop-class.invariant order are) (has linked c.args.row c.in-Some.place at.0 placed);
      placed = sym placed;
    }

pub loop-class-preserved : goal.loop-class-preserved
loop-class-preserved c = λ order are.
    let linked = c.args.linked.now in
    let at = number_at linked.names.now order c.args.classes.now c.loop-class.class-index 0 are c.loop-class-test.true in
    none_more (Has linked c.args.row) order c.loop-class.class-index at.0 at.1 (c.loop-class.invariant order are) (has_not linked c.args.row at.0 (sym c.in_default.is ∙ c.place_in.ensures at.0 at.2))

pub returns : goal.returns
returns c = λ order are.
    none_taken (Has c.args.linked.now c.args.row) order c.loop-class.class-index (let many = as_many c.args.linked.now.names.now order c.args.classes.now are in omega (arith, many, c.loop-class-test.false)) (c.loop-class.invariant order are)
