use Rattle.cc_program.proofs.Settling.{one_more}
use Rattle.cc_program.proofs.layouts.layouts.Goals as goal

pub loop-class-preserved : goal.loop-class-preserved
loop-class-preserved c = record {
  right = c.in_ok-settle.ensures.right;
  stand = one_more c.loop-class.layouts c.settle.new.layouts c.loop-class.class c.loop-class.invariant.stand c.in_ok-settle.ensures.kept c.in_ok-settle.ensures.stands;
}
