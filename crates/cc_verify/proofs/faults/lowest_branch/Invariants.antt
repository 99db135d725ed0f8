use Rattle.std.specs.Prelude.{None, take}
use Rattle.cc_verify.specs.Lowest.{Lowers, IsBadBranch, BranchesStand}
use Rattle.cc_verify.proofs.faults.lowest_branch.Given as goal

abbrev pub invariant-loop-placed : goal.invariant-loop-placed
invariant-loop-placed l = Lowers None (IsBadBranch l.code (take l.placed-index l.insns)) (BranchesStand l.code (take l.placed-index l.insns)) l.best
