use Rattle.std.proofs.Common.{◌≡◌, true, [], get_or, sym, ap, ◌∙◌, arith}
use Rattle.std.specs.Str.{bytes_eq}
use Rattle.std.proofs.lemmas.List.{get_or_default}
use Rattle.cc_members.proofs.Listing.{position_found, position_nowhere}
use Rattle.cc_members.proofs.planned_built_in.place_among.Goals as goal

pub returns-then-eq : goal.returns-then-eq
returns-then-eq c =
    let names = c.args.names.now in
    let place = c.loop-other.other-index in
    let item = c.other-item.result in
    let here = c.as_slice.ensures ∙ c.other-item.is ∙ get_or_default names place item [] c.loop-other-test.true in
    let passes : bytes_eq (get_or names place []) c.args.name.now ≡ true = ap (λ other. bytes_eq other c.args.name.now) (sym here) ∙ (sym c.eq.ensures ∙ c.if-eq.true) in
    rw c.loop-other.invariant.0 (sym (position_found (λ other. bytes_eq other c.args.name.now) names place [] c.loop-other-test.true c.loop-other.invariant.1 passes))

pub returns : goal.returns
returns c = sym (position_nowhere (λ other. bytes_eq other c.args.name.now) c.args.names.now [] (λ k within. c.loop-other.invariant.1 k (omega (arith, within, c.loop-other-test.false))))
