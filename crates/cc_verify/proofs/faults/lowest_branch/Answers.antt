use Rattle.std.proofs.Common.{◌∙◌, subst}
use Rattle.std.specs.Prelude.{None}
use Rattle.cc_verify.specs.Lowest.{Lowers, IsBadBranch, BranchesStand, place_of, BranchStands}
use Rattle.cc_verify.proofs.Tables.{take_all}
use Rattle.cc_verify.proofs.Lowest.{one_more_item}
use Rattle.cc_verify.proofs.faults.lowest_branch.Goals as goal

pub loop-placed-preserved : goal.loop-placed-preserved
loop-placed-preserved c = one_more_item place_of (BranchStands c.args.code.now) c.as_slice-insns.result.now c.loop-placed.placed-index c.placed-item.result c.loop-placed-test.true c.placed-item.is c.has_targets-is_right.result c.has_targets-is_right.ensures None c.loop-placed.best c.lower-best.result c.loop-placed.invariant c.lower-best.ensures

pub returns : goal.returns
returns c = let e = take_all c.as_slice-insns.result.now c.loop-placed.placed-index c.loop-placed-test.false ∙ c.as_slice-insns.ensures in
    subst (λ z. Lowers None (IsBadBranch c.args.code.now z) (BranchesStand c.args.code.now z) c.loop-placed.best) e c.loop-placed.invariant
