use Rattle.std.proofs.lemmas.Result.{err_from_is_err_and}
use Rattle.cc_meaning_program.specs.BodyFaults.{CatchFaulty, TryFaulty}
use Rattle.cc_bodies.proofs.CodeLemmas.{none_first}
use Rattle.cc_bodies.proofs.Loops.{none_more, first_here, none_has, item_there}
use Rattle.cc_bodies.proofs.bodies.judge_tries.Goals as goal

pub returns-in_err-judge_try : goal.returns-in_err-judge_try
returns-in_err-judge_try c =
    let p = err_from_is_err_and c.from_residual.result c.from_residual.ensures.1 in
    rw (p.1, p.2) (λ real. first_here (TryFaulty c.args.ids.now) c.args.tries.now c.loop-stated.stated-index _ _ (item_there c.args.tries.now c.loop-stated.stated-index c.stated-item.result c.loop-stated-test.true c.stated-item.is) c.loop-stated.invariant (rw c.as_slice.ensures at (c.in_err-judge_try.ensures real)))

pub loop-stated-preserved : goal.loop-stated-preserved
loop-stated-preserved c = none_more (TryFaulty c.args.ids.now) c.args.tries.now c.loop-stated.stated-index _ (item_there c.args.tries.now c.loop-stated.stated-index c.stated-item.result c.loop-stated-test.true c.stated-item.is) (none_first (CatchFaulty c.args.ids.now) c.stated-item.result.catches (rw c.as_slice.ensures at c.in_ok-judge_try.ensures)) c.loop-stated.invariant

pub returns : goal.returns
returns c = none_has (TryFaulty c.args.ids.now) c.args.tries.now c.loop-stated.stated-index c.loop-stated-test.false c.loop-stated.invariant
