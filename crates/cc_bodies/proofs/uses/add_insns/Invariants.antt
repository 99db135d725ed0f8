use Rattle.std.proofs.Common.{take}
use Rattle.cc_bodies.specs.Gathering.{AddsUses}
use Rattle.cc_bodies.proofs.uses.add_insns.Given as goal

abbrev pub invariant-loop-placed : goal.invariant-loop-placed
invariant-loop-placed l = AddsUses (take l.placed-index l.insns) l.initial.uses l.uses
