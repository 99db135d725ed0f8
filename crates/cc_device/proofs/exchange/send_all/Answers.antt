use Rattle.std.proofs.Common.{◌-◌, sym, subst, List, ℕ}
use Rattle.cc_device.specs.Exchanging.{IsSent}
use Rattle.cc_device.proofs.Exchanges.{sent_more, never_fall, rose_kept}
use Rattle.cc_device.proofs.exchange.send_all.Goals as goal

pub sending-preserved-in-Took : goal.sending-preserved-in-Took
sending-preserved-in-Took g c =
    let known = g.L.Link.known in
    let counts = g.L.Link.counts in
    let before = c.sending.invariant in
    record {
      sent = subst (λ (rest : List ℕ). IsSent (known c.args.link.now) c.args.bytes.now rest (known c.send.new.self)) (sym c.split_at.ensures.back) (sent_more (known c.args.link.now) (known c.sending.link) (known c.send.new.self) c.args.bytes.now c.sending.rest.now c.in-Took.count before.sent c.in-Took.ensures.sends.0);
      some = before.some;
      within = before.within;
      stalls = rose_kept (c.args.patience - c.sending.left) (counts c.args.link.now).stalls (counts c.sending.link).stalls (counts c.send.new.self).stalls before.stalls c.send.ensures.counts.stalls;
      counts = never_fall _ _ _ before.counts c.send.ensures.counts;
      honest = (λ h. c.send.ensures.honest.0 (before.honest.0 h), λ h. before.honest.1 (c.send.ensures.honest.1 h));
      prompt = λ p. c.in-Took.ensures.prompt (before.prompt p) (λ e. absurd cc);
      going = λ goes. c.in-Took.ensures.going (before.going goes) tt;
    }
