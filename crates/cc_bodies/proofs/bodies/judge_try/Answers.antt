use Rattle.std.proofs.lemmas.Option.{slice_get-get_or}
use Rattle.std.proofs.lemmas.Result.{err_from_is_err_and}
use Rattle.cc_meaning_program.specs.BodyFaults.{CatchFaulty}
use Rattle.std.proofs.Common.{None}
use Rattle.cc_bodies.proofs.Loops.{none_more, first_here, none_has}
use Rattle.cc_bodies.proofs.bodies.judge_try.Goals as goal

pub returns-in_err-judge_catch : goal.returns-in_err-judge_catch
returns-in_err-judge_catch c =
    let p = err_from_is_err_and c.from_residual.result c.from_residual.ensures.1 in
    rw (p.1, p.2) (λ real. first_here (CatchFaulty c.args.ids.now) c.args.catches.now c.loop-catch.catch-index _ _ (slice_get-get_or c.args.catches.now c.loop-catch.catch-index (record { row = None; at = 0 }) c.loop-catch-test.true) c.loop-catch.invariant (c.in_err-judge_catch.ensures real))

pub loop-catch-preserved : goal.loop-catch-preserved
loop-catch-preserved c = none_more (CatchFaulty c.args.ids.now) c.args.catches.now c.loop-catch.catch-index _ (slice_get-get_or c.args.catches.now c.loop-catch.catch-index (record { row = None; at = 0 }) c.loop-catch-test.true) c.in_ok-judge_catch.ensures c.loop-catch.invariant

pub returns : goal.returns
returns c = none_has (CatchFaulty c.args.ids.now) c.args.catches.now c.loop-catch.catch-index c.loop-catch-test.false c.loop-catch.invariant
