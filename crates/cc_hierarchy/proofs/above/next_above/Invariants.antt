use Rattle.std.proofs.Common.{◌⊎◌, ℕ, take}
use Rattle.std.specs.Prelude.{◌↔◌, Contains}
use Rattle.cc_hierarchy.proofs.Extending.{BySuperclass, ByInterface}
use Rattle.cc_hierarchy.proofs.above.next_above.Given as goal

abbrev pub invariant-loop-ty : goal.invariant-loop-ty
invariant-loop-ty l = (number : ℕ) → Contains l.above number ↔ (BySuperclass l.ids l.stated.superclass number ⊎ ByInterface l.ids (take l.ty-index l.ty-items) number)
