use Rattle.std.proofs.Common.{◌+◌, true, Some, Err, sym, subst}
use Rattle.cc_meaning_plain.specs.Program.{program_of}
use Rattle.cc_machine.specs.declared.progress.Came.{Came}
use Rattle.cc_device.specs.declared.exchange.Halt.{Halt}
use Rattle.cc_device.specs.Travelling.{hello_bytes, Reaches, CallsThere, gives_back, falls_back}
use Rattle.cc_device.proofs.device.call_there.Goals as goal

pub returns-in-Ok-clause-calls : goal.returns-in-Ok-clause-calls
returns-in-Ok-clause-calls g c =
    let known = g.L.Link.known in
    let counts = g.L.Link.counts in
    subst (λ (came : Came). CallsThere c.args.plain.now c.args.job.now c.args.run.now c.args.contact.now (known c.args.link.now) (counts c.args.link.now) (g.L.Link.prompt c.args.link.now) (known c.reach.new.link) (counts c.reach.new.link) (Some came) (record { is_open = true; merged = c.args.contact.now.merged + 1; end = c.args.contact.now.end }))
    (sym c.came_of.ensures) (gives_back c.in-Ok.back c.in-Ok.ensures.reaches)

pub returns-in-Err-End-clause-calls : goal.returns-in-Err-End-clause-calls
returns-in-Err-End-clause-calls g c =
    let known = g.L.Link.known in
    let counts = g.L.Link.counts in
    falls_back c.in-Err-End.end
    (subst (λ (halt : Halt). Reaches (program_of c.args.plain.now) (hello_bytes c.args.job.now) c.args.job.now.patience c.args.run.now c.args.contact.now.is_open (known c.args.link.now) (counts c.args.link.now) (g.L.Link.prompt c.args.link.now) (Err halt) (known c.reach.new.link) (counts c.reach.new.link)) c.in-Err-End.field-0-is c.in-Err-End.ensures.reaches)
