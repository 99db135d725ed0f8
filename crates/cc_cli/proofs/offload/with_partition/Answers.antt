use Rattle.std.proofs.Common.{refl}
use Rattle.cc_cli.specs.Offloading.{tells_of, all_names, longest_text, TextPlan, PartitionPlan}
use Rattle.cc_cli.proofs.Offloading.{on_plan, then_read}
use Rattle.cc_cli.proofs.offload.with_partition.Goals as goal

pub returns-in-Ok-clause-plan : goal.returns-in-Ok-clause-plan
returns-in-Ok-clause-plan g c =
    let k = g.L.Link.known c.args.link.now in
    let b = g.L.Link.counts c.args.link.now in
    let k' = g.L.Link.known c.by_text.new.link in
    let a = g.L.Link.counts c.by_text.new.link in
    let t = tells_of g.L.Link.known g.L.Link.honest g.L.Link.prompt g.L.Link.going g.L.Link.last c.args.link.now c.by_text.new.link in
    let n = c.args.names.now in
    let files = g.S.Shelf.known c.args.shelf.now in
    let new = g.S.Shelf.counts c.read.new.self in
    then_read files (g.S.Shelf.counts c.args.shelf.now) n.partition.now longest_text new new t.untouched
    (PartitionPlan (all_names n.file.now n.script.now n.partition.now n.place.now) files new k b k' a t c.args.file c.args.plain.now)
    c.in-Ok.text c.as_slice.result.now c.by_text.result c.as_slice.ensures c.in-Ok.ensures.reads c.in-Ok.ensures.counts
    (on_plan c.by_text.result (TextPlan n.place.now k b k' a t c.args.file c.args.plain.now c.as_slice.result.now)
    (λ plan. PartitionPlan (all_names n.file.now n.script.now n.partition.now n.place.now) files new k b k' a t c.args.file c.args.plain.now plan c.as_slice.result.now new)
    (λ plan h. (refl, h)) c.by_text.ensures.plan)
