use Rattle.std.proofs.Common.{◌≡◌, ◌-◌, length}
use Rattle.cc_meaning_typing.specs.Hierarchy.{climbs_to}
use Rattle.cc_types.proofs.hierarchy.has_ancestor.Given as goal

abbrev pub invariant-loop : goal.invariant-loop
invariant-loop l = climbs_to l.program (length l.program.classes) l.class l.ancestor ≡ climbs_to l.program (length l.program.classes - l.counter) l.at l.ancestor
