use Rattle.std.proofs.Common.{◌≡◌, map, take}
use Rattle.cc_names.specs.Candidates.{candidate_name}
use Rattle.cc_names.proofs.classes.class_names.Given as goal

abbrev pub invariant-loop-candidate : goal.invariant-loop-candidate
invariant-loop-candidate l = l.names ≡ map (candidate_name l.naming.ids.now l.naming.known.now) (take l.candidate-index l.candidate-items)
