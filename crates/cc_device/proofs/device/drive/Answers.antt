use Rattle.std.proofs.Common.{◌∙◌, sym, ap, subst, arith}
use Rattle.cc_machine.specs.declared.progress.Pause.{Pause}
use Rattle.cc_machine.specs.declared.progress.Pause.TheVariants as pauses
use Rattle.cc_device.specs.declared.contact.Contact.{Contact}
use Rattle.cc_device.specs.Travelling.{moves_of, paused_course, behind_call, IsLater, Stood}
use Rattle.cc_device.proofs.Calls.{stood_map, later_than}
use Rattle.cc_device.proofs.Exchanges.{never_fall}
use Rattle.cc_device.proofs.device.drive.Goals as goal

pub returns-in-Done-clause-stands : goal.returns-in-Done-clause-stands
returns-in-Done-clause-stands g c =
    λ start s.
    subst (λ (p : Pause). Stood c.args.plain.now c.args.moved c.args.job.now c.calling.contact (paused_course c.args.plain.now (moves_of c.args.plain.now c.args.moved) p c.calling.machine)
    (g.L.Link.known start) (g.L.Link.counts start) (g.L.Link.prompt start) (g.L.Link.known c.calling.link) (g.L.Link.counts c.calling.link) (g.L.Link.prompt c.calling.link))
    c.in-Done.is (c.calling.invariant.stands start s)

pub calling-preserved : goal.calling-preserved
calling-preserved g c =
    let known = g.L.Link.known in
    let counts = g.L.Link.counts in
    let prompt = g.L.Link.prompt in
    let plain = c.args.plain.now in
    let moved = c.args.moved in
    let job = c.args.job.now in
    let before = c.calling.invariant in
    let done = c.in_ok-came-in-AtEntry.ensures.done in
    let keeps = c.in_ok-pause-in-AtEntry.ensures.keeps in
    let entered : IsLater (pauses.AtEntry c.in-AtEntry.entry) c.calling.contact.merged c.calling.machine.next = subst (λ (p : Pause). IsLater p c.calling.contact.merged c.calling.machine.next) c.in-AtEntry.is before.later in
    record {
      instructions = omega (arith, keeps.instructions, before.instructions);
      words = omega (arith, keeps.words, before.words);
      within = c.go_on.ensures.within;
      later = later_than c.in_ok-pause-in-AtEntry.pause c.calling.contact.merged c.do_call.new.contact.merged c.calling.machine.next c.go_on.new.machine.next entered done.merged keeps.later;
      stands = λ start s.
          stood_map plain moved job c.do_call.new.contact (behind_call plain (moves_of plain moved) c.in-AtEntry.entry.to c.in_ok-came-in-AtEntry.came c.calling.machine)
          (paused_course plain (moves_of plain moved) c.in_ok-pause-in-AtEntry.pause c.go_on.new.machine) (known start) (counts start) (prompt start) (known c.do_call.new.link) (counts c.do_call.new.link) (prompt c.do_call.new.link)
          c.in_ok-pause-in-AtEntry.ensures.course
          (c.in_ok-came-in-AtEntry.ensures.stands start (subst (λ (p : Pause). Stood plain moved job c.calling.contact (paused_course plain (moves_of plain moved) p c.calling.machine)
          (known start) (counts start) (prompt start) (known c.calling.link) (counts c.calling.link) (prompt c.calling.link)) c.in-AtEntry.is (before.stands start s)));
      home = λ closed none.
          let u = done.home closed none in
          u.0 ∙ before.home (ap (λ (x : Contact). x.is_open) (sym u.1) ∙ closed) (ap (λ (x : Contact). x.end) (sym u.1) ∙ none);
      last = λ l. c.in_ok-came-in-AtEntry.ensures.last (before.last l);
      unmoved = λ none. c.do_call.ensures.unmoved none ∙ before.unmoved none;
      counts = never_fall _ _ _ before.counts c.do_call.ensures.counts;
      honest = (λ h. c.do_call.ensures.honest.0 (before.honest.0 h), λ h. before.honest.1 (c.do_call.ensures.honest.1 h));
    }
