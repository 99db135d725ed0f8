use Rattle.std.proofs.Common.{◌≡◌, ℕ, [], drop, get_or, sym, ap, ◌∙◌}
use Rattle.std.specs.Cmp.Lexicographic.{slice_cmp}
use Rattle.std.specs.Ordering.{nat_cmp}
use Rattle.std.proofs.lemmas.List.{get_or_default}
use Rattle.cc_tables.proofs.Compared.{compare_longer}
use Rattle.cc_tables.proofs.prototypes.compare_params.Goals as goal

pub returns-in_default : goal.returns-in_default
returns-in_default c types after are =
    let stated = c.args.stated.now in
    let at = c.loop-one.one-index in
    let one : ℕ = get_or stated at 0 in
    let (left, same, rest) = c.loop-one.invariant types after are in
    let none : left ≡ [] = c.in_default.ensures left after rest in
    sym (same ∙ (ap (slice_cmp nat_cmp (drop at stated)) none ∙ compare_longer stated at one c.loop-one-test.true (get_or_default stated at 0 one c.loop-one-test.true)))
