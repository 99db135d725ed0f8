use Rattle.std.proofs.Common.{◌≡◌, ◌↔◌, ◌-◌, ◌≤◌, false, None, length}
use Rattle.cc_link.specs.Links.{NeverFall}
use Rattle.cc_device.specs.Travelling.{moves_of, paused_course, IsLater, LastEnds, Stood}
use Rattle.cc_device.proofs.Calls.{waiting}
use Rattle.cc_device.proofs.device.drive.Given as goal

abbrev pub invariant-calling : goal.invariant-calling
invariant-calling g l = record {
  instructions : l.machine.instructions ≤ 4294967296;
  words : l.machine.words ≤ 4194304;
  within : l.machine.next ≤ length l.plain.main.insns;
  later : IsLater l.pause l.contact.merged l.machine.next;
  stands : (start : g.row.L.Denot) →
      Stood l.fn.plain l.fn.moved l.fn.job l.fn.contact (paused_course l.fn.plain (moves_of l.fn.plain l.fn.moved) l.fn.first l.fn.machine)
      (g.L.Link.known start) (g.L.Link.counts start) (g.L.Link.prompt start) (g.L.Link.known l.fn.link) (g.L.Link.counts l.fn.link) (g.L.Link.prompt l.fn.link) →
      Stood l.plain l.moved l.job l.contact (paused_course l.plain (moves_of l.plain l.moved) l.pause l.machine)
      (g.L.Link.known start) (g.L.Link.counts start) (g.L.Link.prompt start) (g.L.Link.known l.link) (g.L.Link.counts l.link) (g.L.Link.prompt l.link);
  home : l.contact.is_open ≡ false → l.contact.end ≡ None → l.link ≡ l.fn.link;
  last : LastEnds (g.L.Link.going l.fn.link) (g.L.Link.last l.fn.link) l.fn.contact.end → LastEnds (g.L.Link.going l.link) (g.L.Link.last l.link) l.contact.end;
  unmoved : l.fn.moved ≡ None → l.link ≡ l.fn.link;
  counts : NeverFall (g.L.Link.counts l.fn.link) (g.L.Link.counts l.link);
  honest : g.L.Link.honest l.fn.link ↔ g.L.Link.honest l.link;
}

abbrev pub decreases-calling : goal.decreases-calling
decreases-calling g l = waiting l.pause (length l.plain.main.insns - l.machine.next)
