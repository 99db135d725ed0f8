use Rattle.std.proofs.Common.{◌++◌}
use Rattle.std.specs.List.{flat_map}
use Rattle.std.proofs.lemmas.Bool.{OnTrue_at}
use Rattle.cc_meaning_program.specs.Ancestry.{interfaces_named}
use Rattle.cc_owners.specs.Known.{Has}
use Rattle.cc_owners.proofs.Placing.{none_of_all}
use Rattle.cc_owners.proofs.Chains.{entered_fresh, found_in_class, found_above}
use Rattle.cc_owners.proofs.chain.first_in_method_order.Goals as goal

pub first_of_interfaces-requires-clause-entered : goal.first_of_interfaces-requires-clause-entered
first_of_interfaces-requires-clause-entered c = entered_fresh c.args.linked.now c.args.row c.args.marks.now c.args.search c.requires.older

pub returns-in-Some-clause-found : goal.returns-in-Some-clause-found
returns-in-Some-clause-found c = λ order are.
    found_in_class c.args.linked.now c.args.row c.args.search order c.interfaces_have_lists.ensures c.requires.known c.in-Some.found (c.in-Some.ensures order are)

pub returns-clause-found : goal.returns-clause-found
returns-clause-found c = λ order are.
    found_above c.args.linked.now c.args.row c.args.search order c.first_of_interfaces.new.marks c.in_ok-found.found (c.in_default.ensures order are) (c.in_ok-found.ensures.found order are)

pub returns-then-is_nowhere-clause-found : goal.returns-then-is_nowhere-clause-found
returns-then-is_nowhere-clause-found c = λ order are.
    let linked = c.args.linked.now in
    let lacks = OnTrue_at c.if-is_nowhere.true c.is_nowhere.ensures in
    let listed = c.interfaces_have_lists.ensures linked.ids.now linked.classes.now c.requires.known.sound (flat_map (interfaces_named linked.ids.now) order) in
    (listed.0, listed.1, none_of_all (Has linked c.args.row) lacks (order ++ listed.0))
