use Rattle.std.proofs.Common.{take}
use Rattle.cc_names.specs.InOrder.{AreInOrder}
use Rattle.cc_names.proofs.order.distinct.Given as goal

abbrev pub invariant-loop-item : goal.invariant-loop-item
invariant-loop-item g l = AreInOrder (g.N.Naming.name l.naming) (take l.item-index l.sorted) l.kept
