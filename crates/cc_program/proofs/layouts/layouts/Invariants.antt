use Rattle.std.proofs.Common.{ℕ, ◌<◌}
use Rattle.cc_program.specs.Layouts.{AreRight, Stands}
use Rattle.cc_program.proofs.layouts.layouts.Given as goal

abbrev pub invariant-loop-class : goal.invariant-loop-class
invariant-loop-class l = record {
  right : AreRight l.outlines l.own l.layouts;
  stand : (other : ℕ) → other < l.class → Stands l.layouts other;
}
