use Rattle.std.proofs.Common.{ℕ, ◌<◌}
use Rattle.cc_meaning_program.specs.ClassFaults.{IsDuplicate}
use Rattle.cc_hierarchy.proofs.duplicates.first_duplicate.Given as goal

abbrev pub invariant-loop-number : goal.invariant-loop-number
invariant-loop-number l = (earlier : ℕ) → earlier < l.number → ¬ IsDuplicate l.ids l.classes earlier
