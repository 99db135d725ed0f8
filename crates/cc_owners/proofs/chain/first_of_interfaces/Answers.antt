use Rattle.std.proofs.Common.{inl, get_or, take, sym, subst, ◌∙◌, arith}
use Rattle.std.specs.Prelude.{Contains}
use Rattle.std.proofs.lemmas.List.Elements.{Contains-get_or}
use Rattle.cc_meaning_program.specs.Ancestry.{interfaces_named}
use Rattle.cc_meaning_program.specs.Outlines.{AreNumbersOf}
use Rattle.cc_owners.specs.Entered.{IsFoundAbove}
use Rattle.cc_owners.proofs.Chains.{only_both, entered_of, named_of, searched_none, searched_more, searched_found, searched_all}
use Rattle.cc_owners.proofs.Inheriting.{numbers_within}
use Rattle.cc_owners.proofs.Lists.{number_at, as_many}
use Rattle.cc_owners.proofs.Searching.{names_of}
use Rattle.cc_owners.proofs.chain.first_of_interfaces.Goals as goal

pub loop-class-init : goal.loop-class-init
loop-class-init c = record {
  wide = c.requires.wide;
  marked = λ class mark read. inl read;
  above = λ order are. searched_none c.args.linked.now c.args.row c.args.search order c.args.marks.now c.requires.entered;
}

pub at-requires : goal.at-requires
at-requires c =
    let within = c.requires.classes (get_or c.args.classes.now c.loop-class.class-index 0) (Contains-get_or c.args.classes.now c.loop-class.class-index 0 c.loop-class-test.true) in
    omega (arith, within, c.requires.known.outlines.all)

pub first_above-requires-clause-classes : goal.first_above-requires-clause-classes
first_above-requires-clause-classes c = λ class held.
    let linked = c.args.linked.now in
    let named = names_of linked.names.now c.args.classes.now c.requires.classes in
    let at = number_at linked.names.now named.0 c.args.classes.now c.loop-class.class-index 0 named.1 c.loop-class-test.true in
    let outline = c.requires.known.outlines.each (get_or c.args.classes.now c.loop-class.class-index 0) at.0 c.at.result.now at.2 c.at.ensures.get in
    numbers_within linked.names.now (interfaces_named linked.ids.now at.0) c.at.result.now.interfaces outline.interfaces class (subst (λ l. Contains l class) c.as_slice-above.ensures held)

pub first_above-requires-clause-entered : goal.first_above-requires-clause-entered
first_above-requires-clause-entered c =
    let linked = c.args.linked.now in
    let named = names_of linked.names.now c.args.classes.now c.requires.classes in
    entered_of linked c.args.row c.loop-class.marks c.args.search (named_of linked c.args.row c.args.search named.0 (take c.loop-class.class-index named.0)) (c.loop-class.invariant.above named.0 named.1)

pub returns-in-Some-clause-found : goal.returns-in-Some-clause-found
returns-in-Some-clause-found c = λ order are.
    let linked = c.args.linked.now in
    let at = number_at linked.names.now order c.args.classes.now c.loop-class.class-index 0 are c.loop-class-test.true in
    let outline = c.requires.known.outlines.each (get_or c.args.classes.now c.loop-class.class-index 0) at.0 c.at.result.now at.2 c.at.ensures.get in
    let named = interfaces_named linked.ids.now at.0 in
    let found = c.in_ok-found.ensures.found named (subst (AreNumbersOf linked.names.now named) (sym c.as_slice-above.ensures) outline.interfaces) in
    searched_found linked c.args.row c.args.search order c.interfaces_have_lists.ensures c.requires.known c.loop-class.class-index at.0 c.loop-class.marks c.first_above.new.marks c.in-Some.found at.1 (c.loop-class.invariant.above order are)
    (subst (IsFoundAbove linked c.args.row c.first_above.new.marks c.args.search named) c.in-Some.is found)

pub loop-class-preserved : goal.loop-class-preserved
loop-class-preserved c = record {
  wide = c.first_above.ensures.wide ∙ c.loop-class.invariant.wide;
  marked = only_both c.args.marks.now c.loop-class.marks c.first_above.new.marks c.args.search c.loop-class.invariant.marked c.in_ok-found.ensures.marked;
  above = λ order are.
      let linked = c.args.linked.now in
      let at = number_at linked.names.now order c.args.classes.now c.loop-class.class-index 0 are c.loop-class-test.true in
      let outline = c.requires.known.outlines.each (get_or c.args.classes.now c.loop-class.class-index 0) at.0 c.at.result.now at.2 c.at.ensures.get in
      let named = interfaces_named linked.ids.now at.0 in
      let found = c.in_ok-found.ensures.found named (subst (AreNumbersOf linked.names.now named) (sym c.as_slice-above.ensures) outline.interfaces) in
      searched_more linked c.args.row c.args.search order c.loop-class.class-index at.0 c.loop-class.marks c.first_above.new.marks at.1 (c.loop-class.invariant.above order are)
      (subst (IsFoundAbove linked c.args.row c.first_above.new.marks c.args.search named) c.in_default.is found);
}

pub returns-clause-found : goal.returns-clause-found
returns-clause-found c = λ order are.
    let many = as_many c.args.linked.now.names.now order c.args.classes.now are in
    searched_all c.args.linked.now c.args.row c.args.search order c.loop-class.class-index c.loop-class.marks (omega (arith, many, c.loop-class-test.false)) (c.loop-class.invariant.above order are)
