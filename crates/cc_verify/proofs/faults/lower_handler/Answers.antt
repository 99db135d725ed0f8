use Rattle.std.proofs.Common.{◌∙◌, subst, refl, ap, []}
use Rattle.cc_meaning.specs.declared.program.Try.{Try}
use Rattle.cc_verify.specs.Lowest.{IsBadCatch, AreTargets, Lowers, IsBadTry, CatchesStand}
use Rattle.cc_verify.proofs.Tables.{take_all}
use Rattle.cc_verify.proofs.Lowest.{tries_none, one_more_try}
use Rattle.cc_verify.proofs.faults.lower_handler.Goals as goal

pub loop-block-init : goal.loop-block-init
loop-block-init c = tries_none c.args.code.now [] c.args.best refl

pub loop-block-preserved : goal.loop-block-preserved
loop-block-preserved c = let code = c.args.code.now in
    let g = subst (λ z. Lowers c.loop-block.lowest (IsBadCatch code z) (AreTargets code z) c.lower_catch-lowest.result) (c.as_slice.ensures ∙ ap (λ (t : Try). t.catches) c.block-item.is) c.lower_catch-lowest.ensures in
    one_more_try code c.as_slice-tries.result.now c.loop-block.block-index c.block-item.result c.loop-block-test.true c.args.best c.loop-block.lowest c.lower_catch-lowest.result c.loop-block.invariant g

pub returns : goal.returns
returns c = subst (λ z. Lowers c.args.best (IsBadTry c.args.code.now z) (CatchesStand c.args.code.now z) c.loop-block.lowest) (take_all c.as_slice-tries.result.now c.loop-block.block-index c.loop-block-test.false ∙ c.as_slice-tries.ensures) c.loop-block.invariant
