use Rattle.std.proofs.Common.{subst, arith}
use Rattle.std.specs.Prelude.{MatchOption}
use Rattle.cc_verify.specs.Verdicts.{IsClear, HasFault}
use Rattle.cc_verify.proofs.Verdicts.{first_of, clear_next}
use Rattle.cc_verify.proofs.verdict.first_fault.Goals as goal

pub returns-in-Some : goal.returns-in-Some
returns-in-Some c = first_of c.args.program.now c.loop-number.number c.in-Some.fault c.requires.well_formed.hierarchy c.law_one_fault.ensures.sound c.loop-number.invariant
    (subst (λ o. MatchOption o (IsClear c.args.program.now c.loop-number.number) (HasFault c.args.program.now c.loop-number.number)) c.in-Some.is c.in_ok-found.ensures)

pub loop-number-preserved : goal.loop-number-preserved
loop-number-preserved c = clear_next c.args.program.now c.loop-number.number c.loop-number.invariant
    (subst (λ o. MatchOption o (IsClear c.args.program.now c.loop-number.number) (HasFault c.args.program.now c.loop-number.number)) c.in_default.is c.in_ok-found.ensures)

pub returns : goal.returns
returns c = λ m l. let e = c.len-number-end.ensures.value in let t = c.loop-number-test.false in c.loop-number.invariant m (omega arith)
