use Rattle.std.proofs.Common.{List, Option}
use Rattle.std.proofs.lemmas.Result.{err_from_is_err_and}
use Rattle.cc_meaning.specs.declared.file.RawClass.{RawClass}
use Rattle.cc_meaning.specs.declared.program.Placed.{Placed}
use Rattle.cc_meaning_program.specs.BodyFaults.{ClassFaulty}
use Rattle.cc_bodies.specs.Bodies.{AreClassBodies}
use Rattle.cc_bodies.proofs.Loops.{none_more, first_here, none_has, item_there, more_read, all_read}
use Rattle.cc_bodies.proofs.bodies.read_classes.Goals as goal

pub returns-in_err-read_class : goal.returns-in_err-read_class
returns-in_err-read_class c =
    let p = err_from_is_err_and c.from_residual.result c.from_residual.ensures.1 in
    let there = item_there c.args.classes.now c.loop-class.class-index c.class-item.result c.loop-class-test.true c.class-item.is in
    rw (p.1, p.2) (λ real. first_here (ClassFaulty c.args.ids.now) c.args.classes.now c.loop-class.class-index _ _ there c.loop-class.invariant.sound (c.in_err-read_class.ensures real))

pub loop-class-preserved : goal.loop-class-preserved
loop-class-preserved c =
    let there = item_there c.args.classes.now c.loop-class.class-index c.class-item.result c.loop-class-test.true c.class-item.is in
    let here = c.in_ok-read_class.ensures in
    record {
      sound = none_more (ClassFaulty c.args.ids.now) c.args.classes.now c.loop-class.class-index _ there here.1 c.loop-class.invariant.sound;
      read = rw c.in_ok-push.ensures.ok (more_read (λ (class : RawClass) (of_class : List (Option (List Placed))). AreClassBodies class.methods of_class) c.args.classes.now c.loop-class.class-index _ c.loop-class.bodies c.in_ok-read_class.field-0 there here.0 c.loop-class.invariant.read);
    }

pub returns : goal.returns
returns c = (
  all_read (λ (class : RawClass) (of_class : List (Option (List Placed))). AreClassBodies class.methods of_class) c.args.classes.now c.loop-class.class-index c.loop-class.bodies c.loop-class-test.false c.loop-class.invariant.read,
  none_has (ClassFaulty c.args.ids.now) c.args.classes.now c.loop-class.class-index c.loop-class-test.false c.loop-class.invariant.sound,
)
