use Rattle.std.proofs.Common.{length}
use Rattle.cc_hierarchy.proofs.components.Walk.close.Given as goal

abbrev pub decreases-loop-member : goal.decreases-loop-member
decreases-loop-member l = length l.self.open
