use Rattle.std.proofs.Common.{ℕ}
use Rattle.cc_meaning_program.specs.ClassFaults.{NoneIs, IsDuplicate}
use Rattle.cc_hierarchy.specs.Graphs.{IsFirstOnCycle, Reaches}
use Rattle.cc_hierarchy.specs.Judging.{IsFirst}
use Rattle.cc_hierarchy.proofs.Duplicating.{one_each}
use Rattle.cc_hierarchy.proofs.Verdicts.{found_some, found_none, no_duplicates, names_duplicate, names_lacking, given_whole, names_cycle, none_above}
use Rattle.cc_hierarchy.proofs.judge.judge_classes.Goals as goal

pub returns-in-Some-clause-fault : goal.returns-in-Some-clause-fault
returns-in-Some-clause-fault c = λ other.
    names_duplicate c.args.ids.now c.as_slice.result.now c.args.classes.now c.in-Some.number c.in_ok-class.class c.as_slice.ensures c.requires.whole
    (found_some c.in_ok-number.field-0 c.in-Some.number (NoneIs (IsDuplicate c.args.ids.now c.as_slice.result.now)) (IsFirst (IsDuplicate c.args.ids.now c.as_slice.result.now)) c.in_ok-number.ensures c.in-Some.is)
    c.in_ok-class.ensures

pub first_without_superclass-requires-clause-distinct : goal.first_without_superclass-requires-clause-distinct
first_without_superclass-requires-clause-distinct c = one_each c.args.ids.now c.args.classes.now (no_duplicates c.args.ids.now c.as_slice.result.now c.args.classes.now c.in_ok-number.field-0 c.as_slice.ensures c.in_ok-number.ensures c.in_default.is)

pub returns-in-Some-first_without_superclass-clause-fault : goal.returns-in-Some-first_without_superclass-clause-fault
returns-in-Some-first_without_superclass-clause-fault c = λ other. (no_duplicates c.args.ids.now c.as_slice.result.now c.args.classes.now c.in_ok-number.field-0 c.as_slice.ensures c.in_ok-number.ensures c.in_default.is, names_lacking c.args.ids.now c.in-Some-first_without_superclass.number c.in_ok-class-2.class c.in-Some-first_without_superclass.ensures c.in_ok-class-2.ensures)

pub graph_above-requires-clause-distinct : goal.graph_above-requires-clause-distinct
graph_above-requires-clause-distinct c = one_each c.args.ids.now c.args.classes.now (no_duplicates c.args.ids.now c.as_slice.result.now c.args.classes.now c.in_ok-number.field-0 c.as_slice.ensures c.in_ok-number.ensures c.in_default.is)

pub first_on_cycle-requires-clause-whole : goal.first_on_cycle-requires-clause-whole
first_on_cycle-requires-clause-whole c = given_whole c.args.ids.now c.in_ok-graph.graph c.as_slice-2.result.now c.as_slice-2.ensures c.in_ok-graph.ensures

pub returns-in-Some-2-clause-fault : goal.returns-in-Some-2-clause-fault
returns-in-Some-2-clause-fault c = λ other. (
  no_duplicates c.args.ids.now c.as_slice.result.now c.args.classes.now c.in_ok-number.field-0 c.as_slice.ensures c.in_ok-number.ensures c.in_default.is,
  c.in_default-first_without_superclass.ensures,
  names_cycle c.args.ids.now c.in_ok-graph.graph c.as_slice-2.result.now c.as_slice-2.ensures c.in_ok-graph.ensures c.in-Some-2.number c.in_ok-class-in-Some-2.class
      (found_some c.in_ok-number-2.field-0 c.in-Some-2.number ((node : ℕ) → ¬ Reaches c.as_slice-2.result.now node node) (IsFirstOnCycle c.as_slice-2.result.now) c.in_ok-number-2.ensures c.in-Some-2.is)
      c.in_ok-class-in-Some-2.ensures,
)

pub returns-clause-sound : goal.returns-clause-sound
returns-clause-sound c = record {
  distinct = no_duplicates c.args.ids.now c.as_slice.result.now c.args.classes.now c.in_ok-number.field-0 c.as_slice.ensures c.in_ok-number.ensures c.in_default.is;
  extended = c.in_default-first_without_superclass.ensures;
  ordered = none_above c.args.ids.now c.in_ok-graph.graph c.as_slice-2.result.now c.as_slice-2.ensures c.in_ok-graph.ensures
      (found_none c.in_ok-number-2.field-0 ((node : ℕ) → ¬ Reaches c.as_slice-2.result.now node node) (IsFirstOnCycle c.as_slice-2.result.now) c.in_ok-number-2.ensures c.in-None.is);
}
