use Rattle.std.proofs.Common.{◌≡◌, map, take}
use Rattle.cc_meaning_world.specs.Opening.{opening_static}
use Rattle.cc_world.proofs.opening.statics.Given as goal

abbrev pub invariant-loop-field : goal.invariant-loop-field
invariant-loop-field l = l.values ≡ map (opening_static l.program) (take l.field-index l.program.fields)
