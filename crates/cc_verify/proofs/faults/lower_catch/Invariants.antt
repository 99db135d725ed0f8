use Rattle.std.specs.Prelude.{take}
use Rattle.cc_verify.specs.Lowest.{Lowers, IsBadCatch, AreTargets}
use Rattle.cc_verify.proofs.faults.lower_catch.Given as goal

abbrev pub invariant-loop-catch : goal.invariant-loop-catch
invariant-loop-catch l = Lowers l.fn.best (IsBadCatch l.code (take l.catch-index l.catches)) (AreTargets l.code (take l.catch-index l.catches)) l.lowest
