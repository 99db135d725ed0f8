use Rattle.std.proofs.Common.{ℕ, ◌<◌}
use Rattle.cc_meaning_program.specs.ClassFaults.{LacksSuperclass}
use Rattle.cc_hierarchy.proofs.superclasses.first_without_superclass.Given as goal

abbrev pub invariant-loop-number : goal.invariant-loop-number
invariant-loop-number l = (earlier : ℕ) → earlier < l.number → ¬ LacksSuperclass l.ids earlier
