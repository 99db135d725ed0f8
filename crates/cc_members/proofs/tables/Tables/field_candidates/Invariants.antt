use Rattle.std.proofs.Common.{take}
use Rattle.cc_members.specs.Candidates.{AreFieldCandidates}
use Rattle.cc_members.proofs.tables.Tables.field_candidates.Given as goal

abbrev pub invariant-loop-plan : goal.invariant-loop-plan
invariant-loop-plan l = AreFieldCandidates l.self (take l.plan-index l.plans) l.candidates
