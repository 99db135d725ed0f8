use Rattle.std.specs.Prelude.{None, All, take}
use Rattle.cc_transfer.specs.Bodies.{body_of}
use Rattle.cc_verify.specs.Lowest.{Lowers, IsAmong, place_of, MemberIsKnown}
use Rattle.cc_verify.proofs.faults.unknown_member.Given as goal

abbrev pub invariant-loop-placed : goal.invariant-loop-placed
invariant-loop-placed l = Lowers None (IsAmong place_of (MemberIsKnown (body_of l.body)) (take l.placed-index l.insns)) (All (MemberIsKnown (body_of l.body)) (take l.placed-index l.insns)) l.best
