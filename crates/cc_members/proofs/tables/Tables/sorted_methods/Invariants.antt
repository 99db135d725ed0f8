use Rattle.std.proofs.Common.{◌≡◌, map, take}
use Rattle.cc_members.specs.declared.planned_methods.Candidate.{Candidate}
use Rattle.cc_members.proofs.tables.Tables.sorted_methods.Given as goal

abbrev pub invariant-loop-candidate : goal.invariant-loop-candidate
invariant-loop-candidate l = l.plans ≡ map (λ (candidate : Candidate). candidate.plan) (take l.candidate-index l.candidate-items)
