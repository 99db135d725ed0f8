use Rattle.std.proofs.lemmas.Result.{err_from_is_err_and}
use Rattle.cc_meaning_program.specs.BodyFaults.{InsnFaulty}
use Rattle.cc_meaning_program.specs.Named.{method_text}
use Rattle.cc_bodies.proofs.Loops.{none_more, first_here, none_has, item_there}
use Rattle.cc_bodies.proofs.bodies.judge_insns.Goals as goal

pub returns-in_err-judge_insn : goal.returns-in_err-judge_insn
returns-in_err-judge_insn c =
    let p = err_from_is_err_and c.from_residual.result c.from_residual.ensures.1 in
    rw (p.1, p.2) (λ real. first_here (InsnFaulty c.args.ids.now (method_text c.args.ids.now c.args.method)) c.args.insns.now c.loop-placed.placed-index _ _ (item_there c.args.insns.now c.loop-placed.placed-index c.placed-item.result c.loop-placed-test.true c.placed-item.is) c.loop-placed.invariant (c.in_err-judge_insn.ensures real))

pub loop-placed-preserved : goal.loop-placed-preserved
loop-placed-preserved c = none_more (InsnFaulty c.args.ids.now (method_text c.args.ids.now c.args.method)) c.args.insns.now c.loop-placed.placed-index _ (item_there c.args.insns.now c.loop-placed.placed-index c.placed-item.result c.loop-placed-test.true c.placed-item.is) c.in_ok-judge_insn.ensures c.loop-placed.invariant

pub returns : goal.returns
returns c = none_has (InsnFaulty c.args.ids.now (method_text c.args.ids.now c.args.method)) c.args.insns.now c.loop-placed.placed-index c.loop-placed-test.false c.loop-placed.invariant
