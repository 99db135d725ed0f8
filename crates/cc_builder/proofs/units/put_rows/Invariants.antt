use Rattle.std.proofs.Common.{List, ℕ, drop}
use Rattle.std.specs.Prelude.{map}
use Rattle.cc_meaning_builder.specs.Members.{ArePut}
use Rattle.cc_builder.specs.Known.{AreKnown}
use Rattle.cc_builder.proofs.units.put_rows.Given as goal

abbrev pub invariant-loop-mark : goal.invariant-loop-mark
invariant-loop-mark l = AreKnown l.ids (map (λ mark. mark.row) l.marks) → (end : List ℕ) → ArePut l.ids (drop l.mark-index l.marks) l.units end → ArePut l.ids l.marks l.fn.units end
