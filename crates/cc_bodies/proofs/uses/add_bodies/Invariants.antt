use Rattle.std.proofs.Common.{take}
use Rattle.cc_bodies.specs.Gathering.{AddsUses, insns_of_methods}
use Rattle.cc_bodies.proofs.uses.add_bodies.Given as goal

abbrev pub invariant-loop-body : goal.invariant-loop-body
invariant-loop-body l = AddsUses (insns_of_methods (take l.body-index l.bodies)) l.initial.uses l.uses
