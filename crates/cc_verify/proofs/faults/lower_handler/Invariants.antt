use Rattle.std.specs.Prelude.{take}
use Rattle.cc_verify.specs.Lowest.{Lowers, IsBadTry, CatchesStand}
use Rattle.cc_verify.proofs.faults.lower_handler.Given as goal

abbrev pub invariant-loop-block : goal.invariant-loop-block
invariant-loop-block l = Lowers l.fn.best (IsBadTry l.code (take l.block-index l.tries)) (CatchesStand l.code (take l.block-index l.tries)) l.lowest
