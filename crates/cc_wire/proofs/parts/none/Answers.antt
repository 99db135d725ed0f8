use Rattle.std.proofs.Common.{◌==◌, ℕ, false, true, arith}
use Rattle.std.proofs.lemmas.Bool.Decides.{nat_tests}
use Rattle.std.proofs.lemmas.Result.{err_from_is_err_and}
use Rattle.cc_wire.proofs.Chains.{none_wrong, none_bad, none_good}
use Rattle.cc_wire.proofs.parts.none.Goals as goal

pub returns-in_err-four-clause-reads : goal.returns-in_err-four-clause-reads
returns-in_err-four-clause-reads c =
    let p = err_from_is_err_and c.from_residual.result c.from_residual.ensures.1 in
    rw (p.1, p.2) (λ free. none_wrong _ _ _ (c.in_err-four.ensures.reads free))

pub returns-then-branch-ne0-clause-reads : goal.returns-then-branch-ne0-clause-reads
returns-then-branch-ne0-clause-reads c =
    rw c.not_allowed.ensures (λ free. none_bad _ _ c.in_ok-four.field-0 _ _ c.in_ok-four.ensures.reads (grind (arith, nat_tests, c.if-branch-ne0.true)))

pub returns-clause-reads : goal.returns-clause-reads
returns-clause-reads c = none_good _ _ c.in_ok-four.field-0 _ _ c.in_ok-four.ensures.reads (grind (arith, nat_tests, c.if-branch-ne0.false))
