use Rattle.std.proofs.Common.{Bool, subst, sym}
use Rattle.cc_meaning_plain.specs.Program.{program_of}
use Rattle.cc_device.specs.Travelling.{hello_bytes, Reaches}
use Rattle.cc_device.proofs.Reached.{halts_before, reached_alone}
use Rattle.cc_device.proofs.contact.reach.Goals as goal

pub returns-then-is_open-clause-reaches : goal.returns-then-is_open-clause-reaches
returns-then-is_open-clause-reaches g c =
    let known = g.L.Link.known in
    let counts = g.L.Link.counts in
    let p = program_of c.args.plain.now in
    subst (λ (opened : Bool). Reaches p (hello_bytes c.args.job.now) c.args.job.now.patience c.args.run.now opened (known c.args.link.now) (counts c.args.link.now) (g.L.Link.prompt c.args.link.now) c.call.result (known c.call.new.link) (counts c.call.new.link)) (sym c.if-is_open.true)
    (reached_alone p (hello_bytes c.args.job.now) c.args.job.now.patience c.args.run.now (known c.args.link.now) (counts c.args.link.now) (g.L.Link.prompt c.args.link.now) c.call.result (known c.call.new.link) (counts c.call.new.link) c.call.ensures.exchanges)

pub returns-in-Err-clause-reaches : goal.returns-in-Err-clause-reaches
returns-in-Err-clause-reaches g c =
    halts_before (program_of c.args.plain.now) (hello_bytes c.args.job.now) c.args.job.now.patience c.args.run.now (g.L.Link.known c.args.link.now) (g.L.Link.counts c.args.link.now) (g.L.Link.prompt c.args.link.now) (g.L.Link.counts c.args.link.now) c.args.is_open
