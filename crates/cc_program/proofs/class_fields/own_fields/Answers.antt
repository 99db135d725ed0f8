use Rattle.std.proofs.Common.{[], sym, subst, take, ◌+◌}
use Rattle.cc_program.specs.Layouts.{AreOwnFields}
use Rattle.cc_program.proofs.OwnFields.{own_none, own_kept, own_grown, same_truths, other_truths}
use Rattle.cc_program.proofs.class_fields.own_fields.Goals.{then-field-is_static+in_ok-add, else-field-is_static}
use Rattle.cc_program.proofs.class_fields.own_fields.Goals as goal

pub loop-number-init : goal.loop-number-init
loop-number-init c = subst (AreOwnFields c.args.is_static [] c.args.count) (sym c.in_ok-own.ensures) (own_none c.args.is_static c.args.count)

pub loop-number-preserved : goal.loop-number-preserved
loop-number-preserved c =
    elim c.if-field-is_static.branch [
      | then-field-is_static+in_ok-add w ↦
          subst (AreOwnFields c.args.is_static (take (c.loop-number.number + 1) c.args.fields.now) c.args.count) (sym w.own-is)
          (own_grown c.args.is_static c.args.fields.now c.loop-number.number c.index-fields-number.result c.args.count c.loop-number.own w.add.new.own c.loop-number.invariant c.loop-number-test.true c.index-fields-number.is
          (same_truths c.index-fields-number.result.is_static c.args.is_static w.if-field-is_static.true) w.in_ok-add.ensures.added w.in_ok-add.ensures.other)
      | else-field-is_static w ↦
          subst (AreOwnFields c.args.is_static (take (c.loop-number.number + 1) c.args.fields.now) c.args.count) (sym w.own-is)
          (own_kept c.args.is_static c.args.fields.now c.loop-number.number c.index-fields-number.result c.args.count c.loop-number.own c.loop-number.invariant c.loop-number-test.true c.index-fields-number.is
          (other_truths c.index-fields-number.result.is_static c.args.is_static w.if-field-is_static.false))
    ]
