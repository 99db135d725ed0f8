use Rattle.std.proofs.Common.{◌∙◌, subst}
use Rattle.std.specs.Prelude.{None, All}
use Rattle.cc_transfer.specs.Bodies.{body_of}
use Rattle.cc_verify.specs.Lowest.{Lowers, IsAmong, place_of, MemberIsKnown}
use Rattle.cc_verify.proofs.Tables.{take_all}
use Rattle.cc_verify.proofs.Lowest.{one_more_item, members_judged}
use Rattle.cc_verify.proofs.faults.unknown_member.Goals as goal

pub loop-placed-preserved : goal.loop-placed-preserved
loop-placed-preserved c = one_more_item place_of (MemberIsKnown (body_of c.args.body.now)) c.as_slice-insns.result.now c.loop-placed.placed-index c.placed-item.result c.loop-placed-test.true c.placed-item.is c.knows_member-is_right.result c.knows_member-is_right.ensures None c.loop-placed.best c.lower-best.result c.loop-placed.invariant c.lower-best.ensures

pub returns : goal.returns
returns c = let e = take_all c.as_slice-insns.result.now c.loop-placed.placed-index c.loop-placed-test.false ∙ c.as_slice-insns.ensures in
    members_judged (body_of c.args.body.now) c.loop-placed.best (subst (λ z. Lowers None (IsAmong place_of (MemberIsKnown (body_of c.args.body.now)) z) (All (MemberIsKnown (body_of c.args.body.now)) z) c.loop-placed.best) e c.loop-placed.invariant)
