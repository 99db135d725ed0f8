use Rattle.std.proofs.Common.{rules, to_z, of_z, w32}
use Rattle.cc_machine.proofs.Steps.{back_with, back_without, stops_by}
use Rattle.cc_machine.proofs.progress.come_back.Goals as goal

pub returns-in-Ok-clause-does : goal.returns-in-Ok-clause-does
returns-in-Ok-clause-does c = back_with c.args.to c.args.came c.args.progress.now c.in-Ok.value (to_z w32 (of_z w32 c.in-Ok.value)) _ c.in-Ok.is (search rules) c.take_result.ensures.does

pub returns-in-Err-clause-does : goal.returns-in-Err-clause-does
returns-in-Err-clause-does c = back_without c.args.to c.args.came c.args.progress.now c.in-Err.cause _ c.in-Err.is (stops_by c.in-Err.cause c.stopped.result _ c.stopped.ensures)
