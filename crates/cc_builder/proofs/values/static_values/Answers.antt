use Rattle.std.proofs.Common.{arith}
use Rattle.cc_builder.proofs.SaidValues.{none_kept, skipped, said_here, unsaid_here, cut}
use Rattle.cc_builder.proofs.values.static_values.Goals as goal
use Rattle.cc_builder.proofs.values.static_values.Goals.{then-field+in_ok-push+then-field-2, then-field+in_ok-push+else-field-2, else-field}

pub loop-field-init : goal.loop-field-init
loop-field-init c = none_kept c.args.fields.now c.new-values.result c.new-values.ensures

pub loop-field-preserved : goal.loop-field-preserved
loop-field-preserved c =
    let fields = c.args.fields.now in
    let place = c.loop-field.field-index in
    let within = c.loop-field-test.true in
    elim c.if-field.branch [
      | then-field+in_ok-push+then-field-2 w ↦
          rw (w.values-is, w.said-is) (said_here fields place _ c.loop-field.values w.push.new.self c.loop-field.said w.len-said.result within c.loop-field.invariant w.if-field.true w.if-field-2.true w.in_ok-push.ensures.ok w.len-said.ensures.value)
      | then-field+in_ok-push+else-field-2 w ↦
          rw (w.values-is, w.said-is) (unsaid_here fields place _ c.loop-field.values w.push.new.self c.loop-field.said within c.loop-field.invariant w.if-field.true w.if-field-2.false w.in_ok-push.ensures.ok)
      | else-field w ↦
          rw (w.values-is, w.said-is) (skipped fields place _ c.loop-field.values c.loop-field.said within c.loop-field.invariant w.if-field.false)
    ]

pub returns : goal.returns
returns c = cut c.args.fields.now c.loop-field.field-index c.loop-field.values c.truncate.new.self c.loop-field.said (omega (arith, c.loop-field-test.false)) c.loop-field.invariant c.truncate.ensures
