use Rattle.std.proofs.Common.{◌≡◌, ◌++◌, ◌≤◌, ℕ, List, length, map, take}
use Rattle.cc_meaning.specs.declared.file.Ids.{Ids}
use Rattle.cc_names.specs.Candidates.{candidate_name}
use Rattle.cc_names.proofs.classes.add_known.Given as goal

abbrev pub invariant-loop-number : goal.invariant-loop-number
invariant-loop-number l = (ids : Ids) (known : List (List ℕ)) → l.count ≤ length known → map (candidate_name ids known) l.all ≡ map (candidate_name ids known) l.initial.all ++ take l.number known
