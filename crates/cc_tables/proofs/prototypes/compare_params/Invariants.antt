use Rattle.std.proofs.Common.{◌≡◌, ℕ, List, drop}
use Rattle.std.specs.Cmp.Lexicographic.{slice_cmp}
use Rattle.std.specs.Ordering.{nat_cmp}
use Rattle.cc_tables.specs.Params.{AreTypes}
use Rattle.cc_tables.proofs.prototypes.compare_params.Given as goal

-- the order is that of what is left on both sides
abbrev pub invariant-loop-one : goal.invariant-loop-one
invariant-loop-one l = (types : List ℕ) (after : List ℕ) → AreTypes l.ids types after l.units →
    (left : List ℕ) × (slice_cmp nat_cmp l.stated types ≡ slice_cmp nat_cmp (drop l.one-index l.stated) left) × AreTypes l.ids left after l.rest
