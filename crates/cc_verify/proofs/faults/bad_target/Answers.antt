use Rattle.cc_verify.proofs.Lowest.{targets_judged}
use Rattle.cc_verify.proofs.faults.bad_target.Goals as goal

pub returns : goal.returns
returns c = targets_judged c.args.code.now c.lowest_branch-branch.result c.lower_handler.result c.lowest_branch-branch.ensures c.lower_handler.ensures
