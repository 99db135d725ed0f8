use Rattle.std.proofs.Common.{refl}
use Rattle.cc_device.specs.Judging.{judge_ready, not_dialed, dialed}
use Rattle.cc_device.proofs.Judged.{exchanges_since}
use Rattle.cc_device.proofs.contact.open.Goals as goal

pub returns-in-Up-clause-opens : goal.returns-in-Up-clause-opens
returns-in-Up-clause-opens g c =
    let known = g.L.Link.known in
    let counts = g.L.Link.counts in
    dialed (exchanges_since judge_ready c.args.hello.now c.args.patience (known c.args.link.now) (known c.dial.new.self) (counts c.args.link.now) (counts c.dial.new.self) (g.L.Link.prompt c.args.link.now) (g.L.Link.prompt c.dial.new.self) c.greet.result (known c.greet.new.link) (counts c.greet.new.link) c.dial.ensures.known c.dial.ensures.counts (λ p. c.in-Up.ensures.prompt p (λ e. absurd cc)) c.greet.ensures.exchanges)

pub returns-in-Failed-clause-opens : goal.returns-in-Failed-clause-opens
returns-in-Failed-clause-opens g c = not_dialed c.in-Failed.ensures.known refl c.in-Failed.ensures.dials c.in-Failed.ensures.up
