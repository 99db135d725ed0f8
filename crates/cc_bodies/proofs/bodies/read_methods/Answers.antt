use Rattle.std.proofs.Common.{List, Option}
use Rattle.std.proofs.lemmas.Result.{err_from_is_err_and}
use Rattle.cc_meaning.specs.declared.file.RawMethod.{RawMethod}
use Rattle.cc_meaning.specs.declared.program.Placed.{Placed}
use Rattle.cc_meaning_program.specs.BodyFaults.{MethodFaulty}
use Rattle.cc_bodies.specs.Bodies.{IsBody}
use Rattle.cc_bodies.proofs.Loops.{none_more, first_here, none_has, item_there, more_read, all_read}
use Rattle.cc_bodies.proofs.bodies.read_methods.Goals as goal

pub returns-in_err-read_body : goal.returns-in_err-read_body
returns-in_err-read_body c =
    let p = err_from_is_err_and c.from_residual.result c.from_residual.ensures.1 in
    let there = item_there c.args.methods.now c.loop-method.method-index c.method-item.result c.loop-method-test.true c.method-item.is in
    rw (p.1, p.2) (λ real. first_here (MethodFaulty c.args.ids.now) c.args.methods.now c.loop-method.method-index _ _ there c.loop-method.invariant.sound (c.in_err-read_body.ensures real))

pub loop-method-preserved : goal.loop-method-preserved
loop-method-preserved c =
    let there = item_there c.args.methods.now c.loop-method.method-index c.method-item.result c.loop-method-test.true c.method-item.is in
    let here = c.in_ok-read_body.ensures in
    record {
      sound = none_more (MethodFaulty c.args.ids.now) c.args.methods.now c.loop-method.method-index _ there here.1 c.loop-method.invariant.sound;
      read = rw c.in_ok-push.ensures.ok (more_read (λ (method : RawMethod) (body : Option (List Placed)). IsBody method.code body) c.args.methods.now c.loop-method.method-index _ c.loop-method.bodies c.in_ok-read_body.field-0 there here.0 c.loop-method.invariant.read);
    }

pub returns : goal.returns
returns c = (
  all_read (λ (method : RawMethod) (body : Option (List Placed)). IsBody method.code body) c.args.methods.now c.loop-method.method-index c.loop-method.bodies c.loop-method-test.false c.loop-method.invariant.read,
  none_has (MethodFaulty c.args.ids.now) c.args.methods.now c.loop-method.method-index c.loop-method-test.false c.loop-method.invariant.sound,
)
