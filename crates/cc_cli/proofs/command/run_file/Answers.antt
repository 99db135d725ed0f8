use Rattle.cc_cli.proofs.Planning.{read_plan}
use Rattle.cc_cli.proofs.command.run_file.Goals as goal

pub returns-in-Ok-clause-plan : goal.returns-in-Ok-clause-plan
returns-in-Ok-clause-plan g c =
    read_plan (g.S.Shelf.known c.args.shelf.now) (g.S.Shelf.counts c.args.shelf.now) (g.S.Shelf.counts c.read.new.self) c.args.name.now c.in-Ok.bytes c.as_slice.result.now c.run_bytes.result c.as_slice.ensures c.in-Ok.ensures.reads.0 c.in-Ok.ensures.reads.1 c.run_bytes.ensures
