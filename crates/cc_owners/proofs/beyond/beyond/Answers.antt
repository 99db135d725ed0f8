use Rattle.std.proofs.Common.{◌∷◌, Some, take, drop, subst, sym, ap, ◌∙◌, arith}
use Rattle.std.specs.Prelude.{Contains}
use Rattle.cc_meaning_program.specs.Outlines.{AreNumbersOf}
use Rattle.cc_owners.specs.Beyond.{IsUndefined, listed, outside}
use Rattle.cc_owners.proofs.Climbing.{from_there}
use Rattle.cc_owners.proofs.Inheriting.{at_place, numbers_dropped, numbers_within}
use Rattle.cc_owners.proofs.Lists.{number_at, as_many, first_at, some_is}
use Rattle.cc_owners.proofs.beyond.beyond.Goals as goal

pub first_listing-requires-clause-classes : goal.first_listing-requires-clause-classes
first_listing-requires-clause-classes c = λ class held.
    let names = c.args.linked.now.names.now in
    let a = c.requires.ancestors.1 in
    numbers_within names (drop c.first_beyond.result a.above) (drop c.first_beyond.result c.args.classes.now) (numbers_dropped names a.above c.args.classes.now c.first_beyond.result a.numbers) class
    (subst (λ l. Contains l class) c.split_at.ensures.back held)

pub returns-in-Some : goal.returns-in-Some
returns-in-Some c = λ named order are ancestry.
    let linked = c.args.linked.now in
    let k = c.first_beyond.result in
    let b = c.first_beyond.ensures.beyond order are in
    let p = at_place order k b.name b.there in
    let upper = from_there linked.ids.now named order (take k order) b.name p.tail ancestry p.is in
    let numbers = subst (λ l. AreNumbersOf linked.names.now l c.split_at.result.1.now) p.behind (subst (AreNumbersOf linked.names.now (drop k order)) (sym c.split_at.ensures.back) (numbers_dropped linked.names.now order c.args.classes.now k are)) in
    let found = c.in-Some.ensures b.name p.tail numbers upper in
    listed (record { classes = order; ancestry = ancestry; first = first_at (IsUndefined linked.ids.now) order k b.name b.there b.before b.undefined }) upper found.first found.there found.placed

pub returns-in-None : goal.returns-in-None
returns-in-None c = λ named order are ancestry.
    let linked = c.args.linked.now in
    let k = c.first_beyond.result in
    let b = c.first_beyond.ensures.beyond order are in
    let p = at_place order k b.name b.there in
    let upper = from_there linked.ids.now named order (take k order) b.name p.tail ancestry p.is in
    let numbers = subst (λ l. AreNumbersOf linked.names.now l c.split_at.result.1.now) p.behind (subst (AreNumbersOf linked.names.now (drop k order)) (sym c.split_at.ensures.back) (numbers_dropped linked.names.now order c.args.classes.now k are)) in
    let at = number_at linked.names.now (b.name ∷ p.tail) c.split_at.result.1.now 0 0 numbers (let many = as_many linked.names.now (b.name ∷ p.tail) c.split_at.result.1.now numbers in omega (arith, many)) in
    outside (record { classes = order; ancestry = ancestry; first = first_at (IsUndefined linked.ids.now) order k b.name b.there b.before b.undefined }) upper (c.in-None.ensures b.name p.tail numbers upper)
    (at.2 ∙ ap Some (sym (some_is b.name at.0 at.1)))
