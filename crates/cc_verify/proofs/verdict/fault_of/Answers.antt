use Rattle.std.proofs.Common.{refl, subst}
use Rattle.cc_meaning_typing.specs.Faults.{IsTooWide, StaysWithin, FallsOff, too_wide, bad_target, unknown_member, falls_off, ill_typed}
use Rattle.std.specs.Prelude.{MatchOption}
use Rattle.cc_meaning_typing.specs.VerifyLaws.{IsClosed}
use Rattle.cc_meaning_typing.specs.Tries.{States, state_at, EndsWith, BreaksAt}
use Rattle.cc_transfer.specs.Bodies.{body_of}
use Rattle.cc_verify.proofs.Tables.{by_true, by_false}
use Rattle.cc_verify.proofs.Verdicts.{not_so}
use Rattle.cc_verify.proofs.verdict.fault_of.Goals as goal

pub returns-then-is_too_wide : goal.returns-then-is_too_wide
returns-then-is_too_wide c = too_wide (c.if-is_too_wide.ensures.0 refl)

pub returns-in-Some : goal.returns-in-Some
returns-in-Some c = bad_target (not_so c.is_too_wide.result (IsTooWide c.args.body.now.code.now) c.if-is_too_wide.false c.is_too_wide.ensures) c.in-Some.ensures

pub returns-in-Some-unknown_member : goal.returns-in-Some-unknown_member
returns-in-Some-unknown_member c = unknown_member (not_so c.is_too_wide.result (IsTooWide c.args.body.now.code.now) c.if-is_too_wide.false c.is_too_wide.ensures) c.in_default.ensures c.in-Some-unknown_member.ensures

pub returns-then-not-branch : goal.returns-then-not-branch
returns-then-not-branch c = falls_off (not_so c.is_too_wide.result (IsTooWide c.args.body.now.code.now) c.if-is_too_wide.false c.is_too_wide.ensures) c.in_default.ensures c.in_default-unknown_member.ensures
    (by_false c.in_ok-stays_within.field-0 (StaysWithin c.args.body.now.code.now) (FallsOff c.args.body.now.code.now) c.if-not-branch.true c.in_ok-stays_within.ensures)

pub returns-in-Some-2 : goal.returns-in-Some-2
returns-in-Some-2 c = ill_typed (not_so c.is_too_wide.result (IsTooWide c.args.body.now.code.now) c.if-is_too_wide.false c.is_too_wide.ensures) c.in_default.ensures c.in_default-unknown_member.ensures
    (by_true c.in_ok-stays_within.field-0 (StaysWithin c.args.body.now.code.now) (FallsOff c.args.body.now.code.now) c.if-not-branch.false c.in_ok-stays_within.ensures) (subst (λ o. MatchOption o ((states : States) × EndsWith (body_of c.args.body.now) states) (BreaksAt (body_of c.args.body.now))) c.in-Some-2.is c.in_ok-pc.ensures.broken)

pub returns-in-None : goal.returns-in-None
returns-in-None c =
    let body = body_of c.args.body.now in
    let code = c.args.body.now.code.now in
    let stays = by_true c.in_ok-stays_within.field-0 (StaysWithin code) (FallsOff code) c.if-not-branch.false c.in_ok-stays_within.ensures in
    let closed : IsClosed body = record { targets = c.in_default.ensures; stays = stays; within = (c.law_laid_out.ensures code c.args.body.now.laid_out).within } in
    let ends = subst (λ o. MatchOption o ((states : States) × EndsWith body states) (BreaksAt body)) c.in-None.is c.in_ok-pc.ensures.broken in
    record {
      sound = record { targets = c.in_default.ensures; members = c.in_default-unknown_member.ensures; reached = stays; typed = (state_at ends.0, (c.law_find_typings.ensures body c.args.body.now.well_formed.hierarchy closed).typing ends.0 ends.1) };
      narrow = not_so c.is_too_wide.result (IsTooWide code) c.if-is_too_wide.false c.is_too_wide.ensures;
    }
