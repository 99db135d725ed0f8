use Rattle.std.proofs.Common.{◌↔◌, ◌+◌, ◌-◌, ◌≤◌, length}
use Rattle.cc_outside.specs.Counting.{RoseBy}
use Rattle.cc_link.specs.Links.{NeverFall}
use Rattle.cc_device.specs.Exchanging.{IsSent}
use Rattle.cc_device.proofs.exchange.send_all.Given as goal

abbrev pub invariant-sending : goal.invariant-sending
invariant-sending g l = record {
  sent : IsSent (g.L.Link.known l.fn.link) l.bytes l.rest (g.L.Link.known l.link);
  some : 1 ≤ l.left;
  within : l.left ≤ l.patience;
  stalls : RoseBy (l.patience - l.left) (g.L.Link.counts l.fn.link).stalls (g.L.Link.counts l.link).stalls;
  counts : NeverFall (g.L.Link.counts l.fn.link) (g.L.Link.counts l.link);
  honest : g.L.Link.honest l.fn.link ↔ g.L.Link.honest l.link;
  prompt : g.L.Link.prompt l.fn.link → g.L.Link.prompt l.link;
  going : g.L.Link.going l.fn.link → g.L.Link.going l.link;
}

abbrev pub decreases-sending : goal.decreases-sending
decreases-sending g l = l.left + length l.rest
