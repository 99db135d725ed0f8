use Rattle.std.proofs.Common.{get_or, sym, ◌∙◌, arith}
use Rattle.std.proofs.lemmas.List.Elements.{Contains-get_or}
use Rattle.cc_owners.specs.Beyond.{Listed}
use Rattle.cc_owners.proofs.Lists.{number_at, as_many, none_yet, none_more, none_taken, first_at}
use Rattle.cc_owners.proofs.Inheriting.{is_listed, not_listed}
use Rattle.cc_owners.proofs.beyond.first_listed.Goals as goal

pub listed_in-requires-clause-class : goal.listed_in-requires-clause-class
listed_in-requires-clause-class c = c.requires.classes (get_or c.args.classes.now c.loop-class.class-index 0) (Contains-get_or c.args.classes.now c.loop-class.class-index 0 c.loop-class-test.true)

pub loop-class-init : goal.loop-class-init
loop-class-init c = λ order are. none_yet (Listed c.args.linked.now.ids.now c.args.member.now) order

pub returns-in-Some : goal.returns-in-Some
returns-in-Some c = λ order are.
    let ids = c.args.linked.now.ids.now in
    let at = number_at c.args.linked.now.names.now order c.args.classes.now c.loop-class.class-index 0 are c.loop-class-test.true in
    let placed = sym c.in-Some.is ∙ c.listed_in.ensures at.0 at.2 in
    record {
      owner = at.0;
      there = at.2;
      first = first_at (Listed ids c.args.member.now) order c.loop-class.class-index at.0 at.1 (c.loop-class.invariant order are) (is_listed ids at.0 c.args.member.now c.in-Some.place placed);
      placed = sym placed;
    }

pub loop-class-preserved : goal.loop-class-preserved
loop-class-preserved c = λ order are.
    let ids = c.args.linked.now.ids.now in
    let at = number_at c.args.linked.now.names.now order c.args.classes.now c.loop-class.class-index 0 are c.loop-class-test.true in
    none_more (Listed ids c.args.member.now) order c.loop-class.class-index at.0 at.1 (c.loop-class.invariant order are) (not_listed ids at.0 c.args.member.now (sym c.in_default.is ∙ c.listed_in.ensures at.0 at.2))

pub returns : goal.returns
returns c = λ order are.
    none_taken (Listed c.args.linked.now.ids.now c.args.member.now) order c.loop-class.class-index (let many = as_many c.args.linked.now.names.now order c.args.classes.now are in omega (arith, many, c.loop-class-test.false)) (c.loop-class.invariant order are)
