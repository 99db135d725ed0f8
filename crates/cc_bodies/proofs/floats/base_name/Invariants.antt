use Rattle.std.proofs.Common.{◌≡◌, length}
use Rattle.cc_meaning_program.specs.ClassNames.{base_name}
use Rattle.cc_bodies.proofs.floats.base_name.Given as goal

abbrev pub invariant-loop-base : goal.invariant-loop-base
invariant-loop-base l = base_name l.base ≡ base_name l.name

abbrev pub decreases-loop-base : goal.decreases-loop-base
decreases-loop-base l = length l.base
