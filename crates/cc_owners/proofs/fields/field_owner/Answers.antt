use Rattle.std.proofs.Common.{Some, get_or, subst, sym, ap, ◌∙◌}
use Rattle.std.specs.Prelude.{Contains}
use Rattle.cc_meaning_program.specs.Outlines.{AreNumbersOf}
use Rattle.cc_owners.specs.Fields.{IsFoundInFieldOrder}
use Rattle.cc_owners.proofs.Climbing.{named_there}
use Rattle.cc_owners.proofs.FieldOwning.{of_file, not_of_file}
use Rattle.cc_owners.proofs.Inheriting.{numbers_within}
use Rattle.cc_owners.proofs.Lists.{some_is, number_at}
use Rattle.cc_owners.proofs.fields.field_owner.Goals as goal

pub first_in_field_order-requires-clause-classes : goal.first_in_field_order-requires-clause-classes
first_in_field_order-requires-clause-classes c = λ class held.
    let a = c.in_ok-chain.ensures in
    numbers_within c.args.linked.now.names.now a.above c.in_ok-chain.chain a.numbers class (subst (λ l. Contains l class) c.as_slice-classes.ensures held)

pub returns-in-Some-clause-owner : goal.returns-in-Some-clause-owner
returns-in-Some-clause-owner c = λ stated there same.
    let linked = c.args.linked.now in
    let a = c.in_ok-chain.ensures in
    let ancestry = named_there linked c.class_of.result c.in_ok-chain.chain c.args.ty stated.class same c.class_of.ensures a in
    let found = c.in_ok-found.ensures.found a.above (subst (AreNumbersOf linked.names.now a.above) (sym c.as_slice-classes.ensures) a.numbers) in
    of_file linked c.args.row c.requires.table stated there a.above ancestry c.in-Some.found (subst (IsFoundInFieldOrder linked c.args.row a.above) c.in-Some.is found)

pub returns-clause-owner : goal.returns-clause-owner
returns-clause-owner c = λ stated there same.
    let linked = c.args.linked.now in
    let a = c.in_ok-chain.ensures in
    let ancestry = named_there linked c.class_of.result c.in_ok-chain.chain c.args.ty stated.class same c.class_of.ensures a in
    let numbers = subst (AreNumbersOf linked.names.now a.above) (sym c.as_slice-classes.ensures) a.numbers in
    let b = c.first_beyond-place.ensures.beyond a.above numbers in
    let at = number_at linked.names.now a.above c.as_slice-classes.result.now c.first_beyond-place.result 0 numbers c.first_beyond-place.ensures.within in
    not_of_file linked c.args.row c.requires.table stated there a.above ancestry (subst (IsFoundInFieldOrder linked c.args.row a.above) c.in_default.is (c.in_ok-found.ensures.found a.above numbers)) c.first_beyond-place.result
    (get_or c.as_slice-classes.result.now c.first_beyond-place.result 0) b (at.2 ∙ ap Some (some_is at.0 b.name (sym at.1 ∙ b.there)))
