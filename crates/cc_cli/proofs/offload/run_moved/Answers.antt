use Rattle.std.proofs.Common.{subst}
use Rattle.std.specs.Prelude.{IfOk}
use Rattle.cc_meaning.specs.declared.file.Job.{Job}
use Rattle.cc_cli.specs.Offloading.{tells_of, Offloaded}
use Rattle.cc_cli.proofs.offload.run_moved.Goals as goal

pub returns-clause-plan : goal.returns-clause-plan
returns-clause-plan g c =
    let k = g.L.Link.known c.args.link.now in
    let b = g.L.Link.counts c.args.link.now in
    let k' = g.L.Link.known c.run_there.new.link in
    let a = g.L.Link.counts c.run_there.new.link in
    let t = tells_of g.L.Link.known g.L.Link.honest g.L.Link.prompt g.L.Link.going g.L.Link.last c.args.link.now c.run_there.new.link in
    subst (λ (j : Job). IfOk c.run_there.result (λ plan. Offloaded j.place k b k' a t j.file c.args.plain.now c.args.moved plan)) c.in_ok-job.ensures c.run_there.ensures.plan
