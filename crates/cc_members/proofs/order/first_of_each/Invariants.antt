use Rattle.std.proofs.Common.{take}
use Rattle.cc_names.specs.InOrder.{AreInOrder}
use Rattle.cc_members.specs.FirstInOrder.{AreFirst}
use Rattle.cc_members.proofs.order.first_of_each.Given as goal

abbrev pub invariant-loop-item : goal.invariant-loop-item
invariant-loop-item g l = AreInOrder (g.N.Naming.name l.naming) (take l.item-index l.sorted) l.kept × AreFirst (g.N.Naming.name l.naming) (take l.item-index l.sorted) l.kept
