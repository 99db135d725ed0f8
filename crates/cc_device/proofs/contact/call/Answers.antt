use Rattle.cc_device.proofs.Judged.{halted}
use Rattle.cc_device.proofs.contact.call.Goals as goal

pub returns-in-Err-clause-exchanges : goal.returns-in-Err-clause-exchanges
returns-in-Err-clause-exchanges g c = halted _ _ c.args.patience (g.L.Link.known c.args.link.now) (g.L.Link.counts c.args.link.now) (g.L.Link.counts c.args.link.now) (g.L.Link.prompt c.args.link.now)
