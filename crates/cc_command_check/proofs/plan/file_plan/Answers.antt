use Rattle.std.specs.Option.{option_copied}
use Rattle.cc_command_check.proofs.Planning.{read_plan}
use Rattle.cc_command_check.proofs.plan.file_plan.Goals as goal

pub returns-in-Ok-clause-plan : goal.returns-in-Ok-clause-plan
returns-in-Ok-clause-plan g c =
    read_plan (g.S.Shelf.known c.args.shelf.now) (g.S.Shelf.counts c.args.shelf.now) (g.S.Shelf.counts c.read.new.self) c.args.name.now (option_copied c.args.main) c.in-Ok.bytes c.as_slice.result.now c.bytes_plan.result c.as_slice.ensures c.in-Ok.ensures.reads.0 c.in-Ok.ensures.reads.1 c.bytes_plan.ensures
