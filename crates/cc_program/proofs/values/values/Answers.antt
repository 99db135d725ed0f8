use Rattle.std.proofs.Common.{◌≡◌, Some, ℕ, subst, sym, ◌∙◌, ◌+◌, arith, get_or}
use Rattle.std.specs.Prelude.{slice_get}
use Rattle.std.proofs.lemmas.Option.{slice_get-get_or}
use Rattle.cc_meaning.specs.declared.program.StaticValue.TheVariants as value
use Rattle.cc_program.proofs.Holding.{AreHeldTo, listed_contained, held_kept, held_more, all_held, not_some}
use Rattle.cc_program.proofs.values.values.Goals.{then-is_some, else-is_some}
use Rattle.cc_program.proofs.values.values.Goals as goal

pub held-requires : goal.held-requires
held-requires c = λ row is. c.requires row (listed_contained c.args.plans.now c.args.listed.now (get_or c.args.own.now c.loop-number.number-index 0) (value.Text row) (sym c.listed_at-value.ensures ∙ is))

pub loop-number-preserved : goal.loop-number-preserved
loop-number-preserved c =
    let fields = c.args.fields.now in
    let plans = c.args.plans.now in
    let listed = c.args.listed.now in
    let texts = c.args.texts.now in
    let own = c.args.own.now in
    let i = c.loop-number.number-index in
    let kept = c.loop-number.kept in
    let values = c.loop-number.values in
    let found = c.listed_at-value.result in
    let number : ℕ = get_or c.args.own.now c.loop-number.number-index 0 in
    let there : slice_get c.args.own.now c.loop-number.number-index ≡ Some (get_or c.args.own.now c.loop-number.number-index 0) = slice_get-get_or c.args.own.now c.loop-number.number-index 0 c.loop-number-test.true in
    elim c.if-is_some.branch [
      | then-is_some w ↦
          subst (λ (k : ℕ). AreHeldTo fields plans listed texts own (i + 1) k c.push.new.self) (sym w.kept-is)
          (held_more fields plans listed texts own i kept number values c.push.new.self found c.held.result c.loop-number.invariant there c.listed_at-value.ensures c.held.ensures c.in_ok-push.ensures.ok
          w.len-kept.result (sym c.is_some.ensures ∙ w.if-is_some.true) w.len-kept.ensures.value)
      | else-is_some w ↦
          subst (λ (k : ℕ). AreHeldTo fields plans listed texts own (i + 1) k c.push.new.self) (sym w.kept-is)
          (held_kept fields plans listed texts own i kept number values c.push.new.self found c.held.result c.loop-number.invariant there c.listed_at-value.ensures c.held.ensures c.in_ok-push.ensures.ok
          (not_some found (sym c.is_some.ensures ∙ w.if-is_some.false)))
    ]

pub returns : goal.returns
returns c = all_held c.args.fields.now c.args.plans.now c.args.listed.now c.args.texts.now c.args.own.now c.loop-number.number-index c.loop-number.kept c.loop-number.values c.truncate.new.self c.loop-number.invariant (omega (arith, c.loop-number-test.false, c.loop-number.auto.number-index-end)) c.truncate.ensures
