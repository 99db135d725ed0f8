use Rattle.std.proofs.Common.{◌≡◌, ◌≢◌, ◌⊎◌, inl, inr, ℕ, ◌+◌, ◌-◌, ◌<◌, ◌≤◌, true, false, List, length, get_or, refl, ap, subst, sym, ◌∙◌, arith}
use Rattle.std.specs.Ordering.{is_eq}
use Rattle.std.proofs.lemmas.Bool.{cases_lt}
use Rattle.std.proofs.lemmas.List.{get_or_default}
use Rattle.std.proofs.lemmas.Map.Lookups.{exact_bytes}
use Rattle.cc_hierarchy.specs.Members.{member_of, member_at}
use Rattle.cc_hierarchy.proofs.NameOrder.{is_equal, same_ties}
use Rattle.cc_hierarchy.proofs.Repeating.{tie_repeats, no_tie}
use Rattle.cc_hierarchy.proofs.repeats.has_tie.Goals as goal

pub returns-then-is_eq : goal.returns-then-is_eq
unfolding member_at
returns-then-is_eq c =
    let order = c.args.order.now in
    let at = c.loop-at.at in
    let name_of : ℕ → List ℕ = member_of c.args.ids.now c.args.table in
    let within : at < length order = c.loop-at-test.true in
    let x = get_or order (at - 1) 0 in
    let y = get_or order at 0 in
    let same = exact_bytes (member_at c.args.ids.now c.args.table c.args.rows.now x) (member_at c.args.ids.now c.args.table c.args.rows.now y)
    (sym c.compare_places.ensures ∙ is_equal c.compare_places.result (sym c.is_eq.ensures ∙ c.if-is_eq.true)) in
    (λ yes. tie_repeats name_of c.args.rows.now order c.requires at x y c.loop-at.invariant.some within (get_or_default order (at - 1) 0 x (omega arith)) (get_or_default order at 0 y within) same, λ repeats. refl)

pub loop-at-preserved : goal.loop-at-preserved
loop-at-preserved c =
    let order = c.args.order.now in
    let at = c.loop-at.at in
    record {
      some = omega arith;
      apart = λ k some below. apart k some (cases_lt k at) below;
    }
  where
    here : member_at c.args.ids.now c.args.table c.args.rows.now (get_or c.args.order.now (c.loop-at.at - 1) 0) ≢ member_at c.args.ids.now c.args.table c.args.rows.now (get_or c.args.order.now c.loop-at.at 0)
    here same =
        let both : true ≡ false = ap is_eq (sym (c.compare_places.ensures ∙ same_ties (member_at c.args.ids.now c.args.table c.args.rows.now (get_or c.args.order.now (c.loop-at.at - 1) 0)) (member_at c.args.ids.now c.args.table c.args.rows.now (get_or c.args.order.now c.loop-at.at 0)) same)) ∙ (sym c.is_eq.ensures ∙ c.if-is_eq.false) in
        cc

    apart : (k : ℕ) → 1 ≤ k → (k < c.loop-at.at) ⊎ (c.loop-at.at ≤ k) → k < c.loop-at.at + 1 →
        member_at c.args.ids.now c.args.table c.args.rows.now (get_or c.args.order.now (k - 1) 0) ≢ member_at c.args.ids.now c.args.table c.args.rows.now (get_or c.args.order.now k 0)
    apart k some (inl less) below = c.loop-at.invariant.apart k some less
    apart k some (inr high) below =
        let e : c.loop-at.at ≡ k = omega arith in
        subst (λ n. member_at c.args.ids.now c.args.table c.args.rows.now (get_or c.args.order.now (n - 1) 0) ≢ member_at c.args.ids.now c.args.table c.args.rows.now (get_or c.args.order.now n 0)) e here

pub returns : goal.returns
unfolding member_at
returns c = (λ no. absurd cc, λ repeats. absurd (no_tie (member_of c.args.ids.now c.args.table) c.args.rows.now c.args.order.now c.requires (λ k some below. c.loop-at.invariant.apart k some (omega (arith, below, c.loop-at-test.false))) repeats))
