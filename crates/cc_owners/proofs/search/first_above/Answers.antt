use Rattle.std.proofs.Common.{inl, Some, length, sym, ap, subst, ◌∙◌, arith}
use Rattle.std.proofs.lemmas.List.{length-set}
use Rattle.cc_owners.proofs.Placing.{has_not}
use Rattle.cc_owners.proofs.Searching.{Searches, names_of, searches_first, searches_done, searches_within, t, searches_skip, searches_found_above, searches_more, shrinks, only_more}
use Rattle.cc_owners.proofs.search.first_above.Goals as goal

pub loop-class-init : goal.loop-class-init
loop-class-init c = record {
  wide = c.requires.wide;
  marked = λ class mark read. inl read;
  searches = λ named are.
      searches_first c.interfaces_have_lists.ensures c.args.linked.now c.args.row named c.args.marks.now c.args.search c.args.classes.now c.push_reversed.new.stack c.requires.known c.requires.entered are
      (rw c.new-stack.ensures at c.in_ok-push_reversed.ensures);
}

pub at-requires : goal.at-requires
at-requires c =
    let (named, are) = names_of c.args.linked.now.names.now c.args.classes.now c.requires.classes in
    let within = searches_within c.args.linked.now c.args.row named c.loop-class.marks c.args.search c.loop-class.stack c.pop.new.self c.in-Some.class c.in-Some.ensures (c.loop-class.invariant.searches named are) in
    omega (arith, within, c.loop-class.invariant.wide)

pub loop-class-preserved-then-at-search : goal.loop-class-preserved-then-at-search
loop-class-preserved-then-at-search c = record {
  wide = c.loop-class.invariant.wide;
  marked = c.loop-class.invariant.marked;
  searches = λ named are.
      searches_skip c.args.linked.now c.args.row named c.loop-class.marks c.args.search c.loop-class.stack c.pop.new.self c.in-Some.class c.in-Some.ensures (c.loop-class.invariant.searches named are)
      (c.at.ensures.get ∙ ap Some c.if-at-search.true);
}

pub set-requires : goal.set-requires
set-requires c =
    let (named, are) = names_of c.args.linked.now.names.now c.args.classes.now c.requires.classes in
    let within = searches_within c.args.linked.now c.args.row named c.loop-class.marks c.args.search c.loop-class.stack c.pop.new.self c.in-Some.class c.in-Some.ensures (c.loop-class.invariant.searches named are) in
    omega (arith, within, c.loop-class.invariant.wide)

pub place_in-requires-clause-class : goal.place_in-requires-clause-class
place_in-requires-clause-class c =
    let (named, are) = names_of c.args.linked.now.names.now c.args.classes.now c.requires.classes in
    searches_within c.args.linked.now c.args.row named c.loop-class.marks c.args.search c.loop-class.stack c.pop.new.self c.in-Some.class c.in-Some.ensures (c.loop-class.invariant.searches named are)

pub returns-in-Some-place_in-clause-found : goal.returns-in-Some-place_in-clause-found
returns-in-Some-place_in-clause-found c = λ named are.
    let s = c.loop-class.invariant.searches named are in
    let taken = t c.args.linked.now c.args.row named c.loop-class.marks c.args.search c.loop-class.stack c.pop.new.self c.in-Some.class c.in-Some.ensures s in
    searches_found_above c.args.linked.now c.args.row named c.loop-class.marks c.args.search c.loop-class.stack c.pop.new.self c.in-Some.class c.in-Some.ensures s c.in-Some-place_in.place
    (sym c.in-Some-place_in.is ∙ c.place_in.ensures taken.name taken.there) c.set.new.self

pub at-requires-in-Some : goal.at-requires-in-Some
at-requires-in-Some c =
    let (named, are) = names_of c.args.linked.now.names.now c.args.classes.now c.requires.classes in
    let within = searches_within c.args.linked.now c.args.row named c.loop-class.marks c.args.search c.loop-class.stack c.pop.new.self c.in-Some.class c.in-Some.ensures (c.loop-class.invariant.searches named are) in
    omega (arith, within, c.requires.known.outlines.all)

pub loop-class-smaller : goal.loop-class-smaller
loop-class-smaller c =
    shrinks c.args.search c.loop-class.marks c.set.new.self c.args.linked.now.outlines.now c.in-Some.class c.at.result.now c.at-in-Some.result.now c.loop-class.stack c.pop.new.self c.push_reversed-in-Some.new.stack
    c.at.ensures.get c.if-at-search.false c.at-in-Some.ensures.get c.set.ensures c.in-Some.ensures (rw c.as_slice-above.ensures at c.in_ok-push_reversed-2.ensures)

pub loop-class-preserved : goal.loop-class-preserved
loop-class-preserved c = record {
  wide = ap length c.set.ensures ∙ (length-set c.loop-class.marks c.in-Some.class c.args.search ∙ c.loop-class.invariant.wide);
  marked = only_more c.args.marks.now c.args.search c.loop-class.marks c.set.new.self c.in-Some.class c.at.result.now c.at.ensures.get c.set.ensures c.loop-class.invariant.marked;
  searches = λ named are.
      let s = c.loop-class.invariant.searches named are in
      let taken = t c.args.linked.now c.args.row named c.loop-class.marks c.args.search c.loop-class.stack c.pop.new.self c.in-Some.class c.in-Some.ensures s in
      subst (λ marks. Searches c.args.linked.now c.args.row named marks c.args.search c.push_reversed-in-Some.new.stack) (sym c.set.ensures)
      (searches_more c.args.linked.now c.args.row named c.loop-class.marks c.args.search c.loop-class.stack c.pop.new.self c.in-Some.class c.in-Some.ensures s c.at.result.now c.at-in-Some.result.now c.push_reversed-in-Some.new.stack
      c.requires.known c.at.ensures.get c.at-in-Some.ensures.get (has_not c.args.linked.now c.args.row taken.name (sym c.in_default-place_in.is ∙ c.place_in.ensures taken.name taken.there)) (rw c.as_slice-above.ensures at c.in_ok-push_reversed-2.ensures));
}

pub returns-in-Some-place_in-clause-marked : goal.returns-in-Some-place_in-clause-marked
returns-in-Some-place_in-clause-marked c = only_more c.args.marks.now c.args.search c.loop-class.marks c.set.new.self c.in-Some.class c.at.result.now c.at.ensures.get c.set.ensures c.loop-class.invariant.marked

pub returns-clause-found : goal.returns-clause-found
returns-clause-found c = λ named are. searches_done c.args.linked.now c.args.row named c.loop-class.marks c.args.search c.loop-class.stack c.in_default.ensures.0 (c.loop-class.invariant.searches named are)
