use Rattle.std.proofs.Common.{subst, sym, ◌∙◌}
use Rattle.std.specs.Prelude.{Contains}
use Rattle.cc_meaning_program.specs.Named.{type_name}
use Rattle.cc_meaning_program.specs.Outlines.{AreNumbersOf}
use Rattle.cc_owners.specs.Beyond.{IsBeyondOwner}
use Rattle.cc_owners.specs.Entered.{IsFoundInMethodOrder}
use Rattle.cc_owners.proofs.Climbing.{named_there}
use Rattle.cc_owners.proofs.Inheriting.{numbers_within}
use Rattle.cc_owners.proofs.MethodOwning.{of_file, not_of_file, table_member}
use Rattle.cc_owners.proofs.methods.method_owner.Goals as goal

pub first_in_method_order-requires-clause-classes : goal.first_in_method_order-requires-clause-classes
first_in_method_order-requires-clause-classes c = λ class held.
    let a = c.in_ok-chain.ensures in
    numbers_within c.args.linked.now.names.now a.above c.in_ok-chain.chain a.numbers class (subst (λ l. Contains l class) c.as_slice-classes.ensures held)

pub returns-in-Some-clause-owner : goal.returns-in-Some-clause-owner
returns-in-Some-clause-owner c = λ stated there same.
    let linked = c.args.linked.now in
    let a = c.in_ok-chain.ensures in
    let ancestry = named_there linked c.class_of.result c.in_ok-chain.chain c.args.ty stated.class same c.class_of.ensures a in
    let found = c.in_ok-found.ensures.found a.above (subst (AreNumbersOf linked.names.now a.above) (sym c.as_slice-classes.ensures) a.numbers) in
    of_file linked c.args.row c.requires.table stated there a.above ancestry c.in-Some.found (subst (IsFoundInMethodOrder linked c.args.row a.above) c.in-Some.is found)

pub returns-clause-owner : goal.returns-clause-owner
returns-clause-owner c = λ stated there same.
    let linked = c.args.linked.now in
    let a = c.in_ok-chain.ensures in
    let ancestry = named_there linked c.class_of.result c.in_ok-chain.chain c.args.ty stated.class same c.class_of.ensures a in
    let numbers = subst (AreNumbersOf linked.names.now a.above) (sym c.as_slice-classes.ensures) a.numbers in
    let (interfaces, above, none) = subst (IsFoundInMethodOrder linked c.args.row a.above) c.in_default.is (c.in_ok-found.ensures.found a.above numbers) in
    let member = c.as_slice.ensures ∙ (c.in_ok-member.ensures ∙ table_member linked c.args.row c.requires.table) in
    not_of_file linked c.args.row c.requires.table stated there a.above ancestry interfaces above none c.beyond.result
    (subst (λ m. IsBeyondOwner linked (type_name linked.ids.now stated.class) m c.beyond.result) member (c.beyond.ensures (type_name linked.ids.now stated.class) a.above numbers ancestry))
