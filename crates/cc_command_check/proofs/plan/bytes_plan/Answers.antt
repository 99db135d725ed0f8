use Rattle.std.specs.Option.{option_copied}
use Rattle.cc_command_check.proofs.Planning.{accepted_plan, refused_plan}
use Rattle.cc_command_check.proofs.plan.bytes_plan.Goals as goal

pub returns-in-Ok : goal.returns-in-Ok
returns-in-Ok c = accepted_plan c.args.file.now (option_copied c.args.main) c.in-Ok.summary c.summary_plan.result c.in-Ok.ensures.accepted c.summary_plan.ensures

pub returns-in-Err : goal.returns-in-Err
returns-in-Err c = refused_plan c.args.file.now (option_copied c.args.main) c.in-Err.fault c.refused_plan.result c.in-Err.ensures.refused c.refused_plan.ensures
