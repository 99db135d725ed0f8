use Rattle.std.proofs.Common.{inr}
use Rattle.cc_cli.proofs.Running.{moves_within}
use Rattle.cc_cli.proofs.Offloading.{on_plan}
use Rattle.cc_cli.proofs.offload.by_text.Goals as goal

pub run_moved-requires-clause-moved : goal.run_moved-requires-clause-moved
run_moved-requires-clause-moved g c = moves_within c.args.plain.now c.args.text.now c.in-Ok.moved c.in-Ok.ensures

pub returns-in-Ok-clause-plan : goal.returns-in-Ok-clause-plan
returns-in-Ok-clause-plan g c = on_plan c.run_moved.result _ _ (λ plan h. inr (c.in-Ok.moved, c.in-Ok.ensures, h)) c.run_moved.ensures.plan
