use Rattle.std.proofs.Common.{inl, get_or, subst, ◌∙◌, arith}
use Rattle.std.proofs.lemmas.List.Elements.{Contains-get_or}
use Rattle.std.proofs.lemmas.Bool.{OnTrue_at}
use Rattle.cc_owners.specs.Known.{Has}
use Rattle.cc_owners.proofs.Placing.{none_of_all}
use Rattle.cc_owners.specs.Fields.{IsFoundAt}
use Rattle.cc_owners.proofs.Chains.{only_both, entered_fresh}
use Rattle.cc_owners.proofs.FieldChains.{have_lists, cleared_none, cleared_more, cleared_all, found_field, entered_at}
use Rattle.cc_owners.proofs.Lists.{number_at, as_many}
use Rattle.cc_owners.proofs.Searching.{names_of}
use Rattle.cc_owners.proofs.field_chain.first_in_field_order.Goals as goal

pub loop-class-init : goal.loop-class-init
loop-class-init c = record {
  wide = c.requires.wide;
  marked = λ class mark read. inl read;
  entered = entered_fresh c.args.linked.now c.args.row c.args.marks.now c.args.search c.requires.older;
  cleared = λ order are. cleared_none c.args.linked.now c.args.row c.args.search order;
}

pub first_at-requires-clause-class : goal.first_at-requires-clause-class
first_at-requires-clause-class c = c.requires.classes (get_or c.args.classes.now c.loop-class.class-index 0) (Contains-get_or c.args.classes.now c.loop-class.class-index 0 c.loop-class-test.true)

pub returns-in-Some-clause-marked : goal.returns-in-Some-clause-marked
returns-in-Some-clause-marked c = only_both c.args.marks.now c.loop-class.marks c.first_at.new.marks c.args.search c.loop-class.invariant.marked c.in_ok-found.ensures.marked

pub returns-in-Some-clause-found : goal.returns-in-Some-clause-found
returns-in-Some-clause-found c = λ order are.
    let linked = c.args.linked.now in
    let at = number_at linked.names.now order c.args.classes.now c.loop-class.class-index 0 are c.loop-class-test.true in
    found_field linked c.args.row c.args.search order c.interfaces_have_lists.ensures c.requires.known c.loop-class.class-index at.0 c.first_at.new.marks c.in-Some.found at.1 (c.loop-class.invariant.cleared order are)
    (subst (IsFoundAt linked c.args.row c.first_at.new.marks c.args.search at.0) c.in-Some.is (c.in_ok-found.ensures.found at.0 at.2))

pub loop-class-preserved : goal.loop-class-preserved
loop-class-preserved c = record {
  wide = c.first_at.ensures.wide ∙ c.loop-class.invariant.wide;
  marked = only_both c.args.marks.now c.loop-class.marks c.first_at.new.marks c.args.search c.loop-class.invariant.marked c.in_ok-found.ensures.marked;
  entered =
      let linked = c.args.linked.now in
      let named = names_of linked.names.now c.args.classes.now c.requires.classes in
      let at = number_at linked.names.now named.0 c.args.classes.now c.loop-class.class-index 0 named.1 c.loop-class-test.true in
      entered_at linked c.args.row c.first_at.new.marks c.args.search at.0 (subst (IsFoundAt linked c.args.row c.first_at.new.marks c.args.search at.0) c.in_default.is (c.in_ok-found.ensures.found at.0 at.2));
  cleared = λ order are.
      let linked = c.args.linked.now in
      let at = number_at linked.names.now order c.args.classes.now c.loop-class.class-index 0 are c.loop-class-test.true in
      cleared_more linked c.args.row c.args.search order c.loop-class.class-index at.0 c.first_at.new.marks at.1 (c.loop-class.invariant.cleared order are)
      (subst (IsFoundAt linked c.args.row c.first_at.new.marks c.args.search at.0) c.in_default.is (c.in_ok-found.ensures.found at.0 at.2));
}

pub returns-clause-found : goal.returns-clause-found
returns-clause-found c = λ order are.
    let many = as_many c.args.linked.now.names.now order c.args.classes.now are in
    cleared_all c.args.linked.now c.args.row c.args.search order c.loop-class.class-index (omega (arith, many, c.loop-class-test.false)) (c.loop-class.invariant.cleared order are)

pub returns-then-is_nowhere-clause-found : goal.returns-then-is_nowhere-clause-found
returns-then-is_nowhere-clause-found c = λ order are.
    let linked = c.args.linked.now in
    let lacks = OnTrue_at c.if-is_nowhere.true c.is_nowhere.ensures in
    let listed = have_lists c.interfaces_have_lists.ensures linked.ids.now linked.classes.now c.requires.known.sound order in
    (listed.0, listed.1, none_of_all (Has linked c.args.row) lacks listed.0)
