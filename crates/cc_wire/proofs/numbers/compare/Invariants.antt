use Rattle.std.proofs.Common.{◌≡◌, length}
use Rattle.std.specs.Ordering.{nat_cmp}
use Rattle.std.specs.Cmp.Lexicographic.{slice_cmp}
use Rattle.cc_wire.proofs.numbers.compare.Given as goal

-- the rests stand to each other as the names do
abbrev pub invariant-loop-unit : goal.invariant-loop-unit
invariant-loop-unit l = slice_cmp nat_cmp l.name l.other ≡ slice_cmp nat_cmp l.fn.name l.fn.other

abbrev pub decreases-loop-unit : goal.decreases-loop-unit
decreases-loop-unit l = length l.name
