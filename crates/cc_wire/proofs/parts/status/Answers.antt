use Rattle.std.proofs.lemmas.Result.{err_from_is_err_and}
use Rattle.cc_wire.proofs.Chains.{status_wrong, status_bad, status_good}
use Rattle.cc_wire.proofs.parts.status.Goals as goal

pub returns-in_err-status-clause-reads : goal.returns-in_err-status-clause-reads
returns-in_err-status-clause-reads c =
    let p = err_from_is_err_and c.from_residual.result c.from_residual.ensures.1 in
    rw (p.1, p.2) (λ free. status_wrong _ _ _ (c.in_err-status.ensures.reads free))

pub returns-then-status-gt3-clause-reads : goal.returns-then-status-gt3-clause-reads
returns-then-status-gt3-clause-reads c = rw c.not_allowed.ensures (λ free. status_bad _ _ c.in_ok-status.status _ _ c.in_ok-status.ensures.reads c.if-status-gt3.true)

pub returns-clause-reads : goal.returns-clause-reads
returns-clause-reads c = status_good _ _ c.in_ok-status.status _ _ c.in_ok-status.ensures.reads c.if-status-gt3.false
