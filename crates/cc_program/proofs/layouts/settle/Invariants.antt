use Rattle.std.proofs.Common.{ℕ, length}
use Rattle.cc_program.specs.Layouts.{AreRight, Stands, LeadsUp, BeginsWith}
use Rattle.cc_program.proofs.layouts.settle.Given as goal

abbrev pub invariant-loop-next : goal.invariant-loop-next
invariant-loop-next l = record {
  right : AreRight l.outlines l.own l.layouts;
  leads : LeadsUp l.outlines l.layouts l.path;
  begins : BeginsWith l.layouts l.path l.class;
  kept : (other : ℕ) → Stands l.fn.layouts other → Stands l.layouts other;
}

abbrev pub decreases-loop-next : goal.decreases-loop-next
decreases-loop-next l = length l.path
