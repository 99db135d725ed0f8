use Rattle.std.proofs.Common.{rules}
use Rattle.std.proofs.Common.{subst, Option}
use Rattle.cc_machine.specs.declared.progress.Came.{Came}
use Rattle.cc_device.specs.Travelling.{CallsThere}
use Rattle.cc_device.proofs.Calls.{entry_runs, small_place, back_kept, fall_kept, back_stood, fall_stood}
use Rattle.cc_device.proofs.device.call_moved.Goals as goal

pub entry_image-requires : goal.entry_image-requires
entry_image-requires g c = small_place c.law_functions_are_few.ensures c.args.plain.now c.args.entry.function c.requires.of_file c.requires.function

pub call_there-requires-clause-sent : goal.call_there-requires-clause-sent
call_there-requires-clause-sent g c =
    entry_runs c.law_entry_is_run.ensures c.args.plain.now c.args.entry.function c.args.entry.argument c.args.machine.now.instructions c.args.machine.now.words c.in_ok-run.run' c.requires.of_file c.requires.function (search rules) c.requires.instructions c.requires.words (search rules)

pub returns-in-Some-clause-stands : goal.returns-in-Some-clause-stands
returns-in-Some-clause-stands g c =
    λ start moved is s.
    let known = g.L.Link.known in
    let counts = g.L.Link.counts in
    let prompt = g.L.Link.prompt in
    back_stood c.goes_on.ensures c.nothing_more.ensures c.begins_with_whole.ensures c.args.plain.now moved c.args.job.now c.args.entry c.args.machine.now c.args.contact.now is c.requires.reaching
    (known start) (known c.args.link.now) (known c.call_there.new.link) (counts start) (counts c.args.link.now) (counts c.call_there.new.link) (prompt start) (prompt c.args.link.now) (prompt c.call_there.new.link) c.call_there.ensures.counts s
    c.in_ok-run.run' c.in-Some.came c.call_there.new.contact (search rules) (subst (λ (o : Option Came). CallsThere c.args.plain.now c.args.job.now c.in_ok-run.run' c.args.contact.now (known c.args.link.now) (counts c.args.link.now) (prompt c.args.link.now) (known c.call_there.new.link) (counts c.call_there.new.link) o c.call_there.new.contact) c.in-Some.is c.in_ok-came.ensures.calls)
    c.in_ok-came.ensures.prompt

pub returns-in-Some-clause-done : goal.returns-in-Some-clause-done
returns-in-Some-clause-done g c =
    let known = g.L.Link.known in
    let counts = g.L.Link.counts in
    let prompt = g.L.Link.prompt in
    back_kept c.args.plain.now c.args.job.now c.args.entry c.args.machine.now c.args.contact.now (known c.args.link.now) (known c.call_there.new.link) (counts c.args.link.now) (counts c.call_there.new.link) (prompt c.args.link.now)
    c.in_ok-run.run' c.in-Some.came c.call_there.new.contact (search rules) (subst (λ (o : Option Came). CallsThere c.args.plain.now c.args.job.now c.in_ok-run.run' c.args.contact.now (known c.args.link.now) (counts c.args.link.now) (prompt c.args.link.now) (known c.call_there.new.link) (counts c.call_there.new.link) o c.call_there.new.contact) c.in-Some.is c.in_ok-came.ensures.calls)

pub returns-clause-stands : goal.returns-clause-stands
returns-clause-stands g c =
    λ start moved is s.
    let known = g.L.Link.known in
    let counts = g.L.Link.counts in
    let prompt = g.L.Link.prompt in
    fall_stood c.goes_on.ensures c.nothing_more.ensures c.begins_with_whole.ensures c.args.plain.now moved c.args.job.now c.args.entry c.args.machine.now c.args.contact.now is c.requires.reaching
    (known start) (known c.args.link.now) (known c.call_there.new.link) (counts start) (counts c.args.link.now) (counts c.call_there.new.link) (prompt start) (prompt c.args.link.now) (prompt c.call_there.new.link) c.call_there.ensures.counts s
    c.in_ok-run.run' _ c.call_there.new.contact (search rules) (subst (λ (o : Option Came). CallsThere c.args.plain.now c.args.job.now c.in_ok-run.run' c.args.contact.now (known c.args.link.now) (counts c.args.link.now) (prompt c.args.link.now) (known c.call_there.new.link) (counts c.call_there.new.link) o c.call_there.new.contact) c.in-None.is c.in_ok-came.ensures.calls) (search rules)

pub returns-clause-done : goal.returns-clause-done
returns-clause-done g c =
    let known = g.L.Link.known in
    let counts = g.L.Link.counts in
    let prompt = g.L.Link.prompt in
    fall_kept c.args.plain.now c.args.job.now c.args.entry c.args.machine.now c.args.contact.now (known c.args.link.now) (known c.call_there.new.link) (counts c.args.link.now) (counts c.call_there.new.link) (prompt c.args.link.now)
    c.in_ok-run.run' _ c.call_there.new.contact (subst (λ (o : Option Came). CallsThere c.args.plain.now c.args.job.now c.in_ok-run.run' c.args.contact.now (known c.args.link.now) (counts c.args.link.now) (prompt c.args.link.now) (known c.call_there.new.link) (counts c.call_there.new.link) o c.call_there.new.contact) c.in-None.is c.in_ok-came.ensures.calls) (search rules)
