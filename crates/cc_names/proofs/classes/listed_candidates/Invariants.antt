use Rattle.std.proofs.Common.{◌≡◌, take}
use Rattle.std.specs.List.{flat_map}
use Rattle.cc_names.specs.Candidates.{candidates_of}
use Rattle.cc_names.proofs.classes.listed_candidates.Given as goal

abbrev pub invariant-loop-row : goal.invariant-loop-row
invariant-loop-row l = l.all ≡ flat_map (candidates_of l.ids) (take l.row-index l.rows)
