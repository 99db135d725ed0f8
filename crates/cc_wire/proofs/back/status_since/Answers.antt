use Rattle.std.proofs.Common.{sym, ◌∙◌}
use Rattle.std.proofs.lemmas.Result.{err_from_is_err_and}
use Rattle.cc_wire.proofs.Ends as ends
use Rattle.cc_wire.proofs.back.status_since.Goals as goal

pub returns-in_err-status-clause-reads : goal.returns-in_err-status-clause-reads
returns-in_err-status-clause-reads c =
    let p = err_from_is_err_and c.from_residual.result c.from_residual.ensures.1 in
    rw (p.1, p.2) (λ free. ends.since_wrong _ _ _ _ (c.in_err-status.ensures.reads free))

pub returns-then-not-may_follow-clause-reads : goal.returns-then-not-may_follow-clause-reads
returns-then-not-may_follow-clause-reads c =
    rw c.not_allowed.ensures (λ free. ends.since_bad _ _ _ c.in_ok-status.status _ _ c.in_ok-status.ensures.reads (sym c.may_follow.ensures ∙ c.if-not-may_follow.true))

pub returns-clause-reads : goal.returns-clause-reads
returns-clause-reads c = ends.since_good _ _ _ c.in_ok-status.status _ _ c.in_ok-status.ensures.reads (sym c.may_follow.ensures ∙ c.if-not-may_follow.false)
