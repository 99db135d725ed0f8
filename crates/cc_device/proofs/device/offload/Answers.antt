use Rattle.std.proofs.Common.{◌≡◌, rules}
use Rattle.cc_device.proofs.Complete.{is_complete}
use Rattle.cc_device.proofs.Prompt.{never_falls}
use Rattle.cc_device.proofs.Offloaded.{stands_first, offloads_so, each_migrates, is_local}
use Rattle.cc_device.proofs.device.offload.Goals as goal

pub returns-clause-offloads : goal.returns-clause-offloads
returns-clause-offloads g c =
    let known = g.L.Link.known in
    let counts = g.L.Link.counts in
    let plain = c.args.plain.now in
    let job = c.args.job.now in
    let first = stands_first plain c.args.moved job c.in_ok-machine.machine c.begin.new.machine c.in_ok-first.first (known c.args.link.now) (counts c.args.link.now) (g.L.Link.prompt c.args.link.now) (search rules) c.in_ok-first.ensures.course in
    let stood = c.in_ok-ending.ensures.stands c.args.link.now first in
    offloads_so c.law_plain_offloads.ensures plain c.args.moved job c.drive.new.contact c.drive.new.machine c.in_ok-ending.ending (known c.args.link.now) (counts c.args.link.now) (g.L.Link.prompt c.args.link.now) (known c.drive.new.link) (counts c.drive.new.link) (g.L.Link.prompt c.drive.new.link) c.requires.of_file stood
    c.law_merges_each.ensures (c.drive.new.link ≡ c.args.link.now) c.report-report.result c.in_ok-ending.ensures.home c.report-report.ensures

pub returns-clause-transparent : goal.returns-clause-transparent
returns-clause-transparent g c =
    let known = g.L.Link.known in
    let counts = g.L.Link.counts in
    λ honest fresh hello.
    is_local c.goes_on.ensures c.is_read_again.ensures c.args.plain.now c.args.moved c.args.job.now c.report-report.result _ (known c.args.link.now) (counts c.args.link.now) (g.L.Link.prompt c.args.link.now) (known c.drive.new.link) (counts c.drive.new.link) (c.drive.new.link ≡ c.args.link.now)
    c.requires.hello (g.met.L.Link.tells c.drive.new.link (c.drive.ensures.honest.0 honest)) fresh hello (returns-clause-offloads g c)
    c.law_clone_is_transparent.ensures c.requires.of_file c.requires.instructions c.requires.words

pub returns-clause-complete : goal.returns-clause-complete
returns-clause-complete g c =
    let known = g.L.Link.known in
    let counts = g.L.Link.counts in
    λ honest fresh hello.
    is_complete c.law_stream_comes.ensures c.law_noted_is_answered.ensures c.goes_on.ensures c.is_read_again.ensures c.args.plain.now c.args.moved c.args.job.now c.report-report.result _ (known c.args.link.now) (counts c.args.link.now) (g.L.Link.prompt c.args.link.now) (known c.drive.new.link) (counts c.drive.new.link) (c.drive.new.link ≡ c.args.link.now)
    c.requires.of_file c.requires.instructions c.requires.words c.requires.patient c.requires.hello (g.met.L.Link.tells c.drive.new.link (c.drive.ensures.honest.0 honest)) fresh hello (returns-clause-offloads g c)

pub returns-clause-prompt : goal.returns-clause-prompt
returns-clause-prompt g c =
    let known = g.L.Link.known in
    let counts = g.L.Link.counts in
    let prompt = g.L.Link.prompt in
    λ is_prompt fresh hello.
    never_falls c.law_stream_comes.ensures c.law_stream_owes.ensures c.law_noted_is_answered.ensures c.goes_on.ensures c.is_read_again.ensures c.args.plain.now c.args.moved c.args.job.now c.report-report.result _ (known c.args.link.now) (counts c.args.link.now) (prompt c.args.link.now) (known c.drive.new.link) (counts c.drive.new.link) (c.drive.new.link ≡ c.args.link.now)
    c.requires.of_file c.requires.instructions c.requires.words c.requires.hello (g.met.L.Link.tells c.drive.new.link (c.drive.ensures.honest.0 (g.met.L.Link.trusts c.args.link.now is_prompt))) fresh hello (returns-clause-offloads g c) is_prompt

pub returns-clause-migrates : goal.returns-clause-migrates
returns-clause-migrates g c =
    each_migrates c.law_each_call_migrates.ensures c.args.plain.now c.args.moved c.args.job.now c.report-report.result _ (g.L.Link.known c.args.link.now) (g.L.Link.counts c.args.link.now) (g.L.Link.prompt c.args.link.now) (g.L.Link.known c.drive.new.link) (g.L.Link.counts c.drive.new.link) (c.drive.new.link ≡ c.args.link.now)
    c.requires.of_file (returns-clause-offloads g c)
