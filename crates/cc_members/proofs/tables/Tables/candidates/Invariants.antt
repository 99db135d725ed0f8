use Rattle.std.proofs.Common.{take}
use Rattle.cc_members.specs.Candidates.{AreCandidates}
use Rattle.cc_members.proofs.tables.Tables.candidates.Given as goal

abbrev pub invariant-loop-plan : goal.invariant-loop-plan
invariant-loop-plan l = AreCandidates l.self (take l.plan-index l.plans) l.candidates
