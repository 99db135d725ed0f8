use Rattle.std.proofs.Common.{◌≡◌, map, take}
use Rattle.cc_members.specs.declared.planned_fields.FieldCandidate.{FieldCandidate}
use Rattle.cc_members.proofs.tables.Tables.sorted_fields.Given as goal

abbrev pub invariant-loop-candidate : goal.invariant-loop-candidate
invariant-loop-candidate l = l.plans ≡ map (λ (candidate : FieldCandidate). candidate.plan) (take l.candidate-index l.candidate-items)
