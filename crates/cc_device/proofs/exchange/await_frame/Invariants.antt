use Rattle.std.proofs.Common.{◌≡◌, ◌↔◌, ◌+◌, ◌-◌, ◌≤◌, length}
use Rattle.cc_outside.specs.Counting.{RoseBy}
use Rattle.cc_link.specs.Links.{known_got, NeverFall}
use Rattle.cc_device.specs.Exchanging.{IsHeld, held_of}
use Rattle.cc_device.proofs.exchange.await_frame.Given as goal

abbrev pub invariant-awaiting : goal.invariant-awaiting
invariant-awaiting g l = record {
  held : IsHeld l.reader;
  got : g.L.Link.known l.link ≡ known_got (held_of l.reader) (g.L.Link.known l.fn.link);
  some : 1 ≤ l.left;
  within : l.left ≤ l.patience;
  waits : RoseBy (l.patience - l.left) (g.L.Link.counts l.fn.link).waits (g.L.Link.counts l.link).waits;
  counts : NeverFall (g.L.Link.counts l.fn.link) (g.L.Link.counts l.link);
  honest : g.L.Link.honest l.fn.link ↔ g.L.Link.honest l.link;
  prompt : g.L.Link.prompt l.fn.link → g.L.Link.prompt l.link;
  going : g.L.Link.going l.fn.link → g.L.Link.going l.link;
}

abbrev pub decreases-awaiting : goal.decreases-awaiting
decreases-awaiting g l = l.left + (67108889 - length (held_of l.reader))
