use Rattle.std.proofs.lemmas.Result.{err_from_is_err_and}
use Rattle.cc_device.specs.Judging.{judge_ready}
use Rattle.cc_device.proofs.Judged.{passed_on, judged_on}
use Rattle.cc_device.proofs.Lasts.{ready_last}
use Rattle.cc_device.proofs.contact.greet.Goals as goal

pub returns-in_err-frame-clause-exchanges : goal.returns-in_err-frame-clause-exchanges
returns-in_err-frame-clause-exchanges g c =
    let known = g.L.Link.known in
    let counts = g.L.Link.counts in
    let r = err_from_is_err_and c.from_residual.result c.from_residual.ensures.1 in
    rw (r.1, r.2) (passed_on c.args.hello.now c.args.patience (known c.args.link.now) (counts c.args.link.now) (g.L.Link.prompt c.args.link.now) (known c.ask.new.link) (counts c.ask.new.link) judge_ready c.in_err-frame.field-0.0 c.in_err-frame.ensures.exchanges)

pub returns-clause-exchanges : goal.returns-clause-exchanges
returns-clause-exchanges g c =
    let known = g.L.Link.known in
    let counts = g.L.Link.counts in
    judged_on c.args.hello.now c.args.patience (known c.args.link.now) (counts c.args.link.now) (g.L.Link.prompt c.args.link.now) (known c.ask.new.link) (counts c.ask.new.link) judge_ready c.in_ok-frame.frame c.judge_ready.result c.in_ok-frame.ensures.exchanges c.judge_ready.ensures

pub returns-in_err-frame-clause-last : goal.returns-in_err-frame-clause-last
returns-in_err-frame-clause-last g c =
    let r = err_from_is_err_and c.from_residual.result c.from_residual.ensures.1 in
    λ going. rw (r.1, r.2) (c.in_err-frame.ensures.last going)

pub returns-clause-last : goal.returns-clause-last
returns-clause-last g c = λ going. ready_last (g.L.Link.going c.ask.new.link) (g.L.Link.last c.ask.new.link) c.in_ok-frame.frame c.judge_ready.result (c.in_ok-frame.ensures.last going) c.judge_ready.ensures
