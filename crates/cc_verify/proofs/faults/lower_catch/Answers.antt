use Rattle.std.proofs.Common.{subst, refl, []}
use Rattle.std.specs.Prelude.{◌↔◌, IsTrue, Some, None}
use Rattle.cc_meaning.specs.declared.program.Catch.{Catch}
use Rattle.cc_meaning_typing.specs.WellTyped.{IsTarget}
use Rattle.cc_verify.specs.Lowest.{Lowers, IsBadCatch, AreTargets, handler_of, CatchStands}
use Rattle.cc_verify.proofs.Tables.{take_all}
use Rattle.cc_verify.proofs.Lowest.{among_none, one_more}
use Rattle.cc_verify.proofs.faults.lower_catch.Goals as goal

pub loop-catch-init : goal.loop-catch-init
loop-catch-init c = among_none handler_of (CatchStands c.args.code.now) [] c.args.best refl

pub loop-catch-preserved : goal.loop-catch-preserved
loop-catch-preserved c = let d : Catch = record { kind = None; at = 0 } in
    one_more handler_of (CatchStands c.args.code.now) c.args.catches.now c.loop-catch.catch-index d c.loop-catch-test.true c.is_target-is_right.result (subst (λ n. IsTrue c.is_target-is_right.result ↔ IsTarget c.args.code.now (Some n)) c.from.ensures c.is_target-is_right.ensures) c.args.best c.loop-catch.lowest c.lower-lowest.result c.loop-catch.invariant c.lower-lowest.ensures

pub returns : goal.returns
returns c = subst (λ z. Lowers c.args.best (IsBadCatch c.args.code.now z) (AreTargets c.args.code.now z) c.loop-catch.lowest) (take_all c.args.catches.now c.loop-catch.catch-index c.loop-catch-test.false) c.loop-catch.invariant
