use Rattle.std.proofs.Common.{take}
use Rattle.cc_bodies.specs.Gathering.{AddsUses, insns_of_classes}
use Rattle.cc_bodies.proofs.uses.add_classes.Given as goal

abbrev pub invariant-loop-of_class : goal.invariant-loop-of_class
invariant-loop-of_class l = AddsUses (insns_of_classes (take l.of_class-index l.bodies)) l.initial.uses l.uses
