use Rattle.std.proofs.Common.{refl}
use Rattle.cc_outside.specs.Shelves as shelf
use Rattle.cc_output.specs.declared.plan.Plan.{Plan}
use Rattle.cc_meaning_plain.specs.Tables.{longest_file}
use Rattle.cc_cli.specs.Offloading.{tells_of, all_names, FilePlan}
use Rattle.cc_cli.proofs.Offloading.{then_read, on_known}
use Rattle.cc_cli.proofs.offload.offload_files.Goals as goal

pub returns-in-Ok-clause-plan : goal.returns-in-Ok-clause-plan
returns-in-Ok-clause-plan g c =
    let k = g.L.Link.known c.args.link.now in
    let b = g.L.Link.counts c.args.link.now in
    let k' = g.L.Link.known c.by_file.new.link in
    let a = g.L.Link.counts c.by_file.new.link in
    let t = tells_of g.L.Link.known g.L.Link.honest g.L.Link.prompt g.L.Link.going g.L.Link.last c.args.link.now c.by_file.new.link in
    let n = c.args.names.now in
    let files = g.S.Shelf.known c.args.shelf.now in
    let middle = g.S.Shelf.counts c.read.new.self in
    let new = g.S.Shelf.counts c.by_file.new.shelf in
    let P : shelf.Known → Plan → Type 0 = λ known plan.
    FilePlan (all_names n.file.now n.script.now n.partition.now n.place.now) known new k b k' a t plan c.in-Ok.file middle in
    then_read files (g.S.Shelf.counts c.args.shelf.now) n.file.now longest_file new middle t.untouched
    (FilePlan (all_names n.file.now n.script.now n.partition.now n.place.now) files new k b k' a t)
    c.in-Ok.file c.in-Ok.file c.by_file.result refl c.in-Ok.ensures.reads c.in-Ok.ensures.counts
    (on_known files (g.S.Shelf.known c.read.new.self) c.by_file.result P c.in-Ok.ensures.known c.by_file.ensures.plan)
