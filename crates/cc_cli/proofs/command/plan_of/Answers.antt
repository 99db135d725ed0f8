use Rattle.std.proofs.Common.{refl, map, string_bytes}
use Rattle.cc_cli.specs.Plans.{file_named}
use Rattle.cc_cli.specs.Offloading.{tells_of, offload_named}
use Rattle.cc_cli.specs.Runs.{Sources}
use Rattle.cc_cli.proofs.Offloading.{run_call}
use Rattle.cc_cli.proofs.command.plan_of.Goals as goal

pub returns-in-Some-clause-plan : goal.returns-in-Some-clause-plan
returns-in-Some-clause-plan g c =
    let words = map string_bytes c.args.words.now in
    let old : Sources = record { known = g.S.Shelf.known c.args.shelf.now; counts = g.S.Shelf.counts c.args.shelf.now; link = g.L.Link.known c.args.link.now; calls = g.L.Link.counts c.args.link.now } in
    let new : Sources = record { known = g.S.Shelf.known c.run_file.new.shelf; counts = g.S.Shelf.counts c.run_file.new.shelf; link = g.L.Link.known c.args.link.now; calls = g.L.Link.counts c.args.link.now } in
    run_call (file_named words) (offload_named words) old new (tells_of g.L.Link.known g.L.Link.honest g.L.Link.prompt g.L.Link.going g.L.Link.last c.args.link.now c.args.link.now)
    c.in-Some.name.now c.run_file.result c.in-Some.ensures refl c.run_file.ensures.plan
