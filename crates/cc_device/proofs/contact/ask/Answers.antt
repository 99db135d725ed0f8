use Rattle.std.proofs.lemmas.Result.{err_from_is_err_and}
use Rattle.cc_device.proofs.Judged.{ends_in_sending, awaited, came_short}
use Rattle.cc_device.proofs.contact.ask.Goals as goal

pub returns-in_err-send_all-clause-exchanges : goal.returns-in_err-send_all-clause-exchanges
returns-in_err-send_all-clause-exchanges g c =
    let known = g.L.Link.known in
    let counts = g.L.Link.counts in
    let r = err_from_is_err_and c.from_residual.result c.from_residual.ensures.1 in
    rw (r.1, r.2) (ends_in_sending c.args.bytes.now c.args.patience (known c.args.link.now) (counts c.args.link.now) (g.L.Link.prompt c.args.link.now) (known c.send_all.new.link) (counts c.send_all.new.link) c.in_err-send_all.field-0.0 c.in_err-send_all.ensures.sends c.in_err-send_all.ensures.taken)

pub returns-clause-short : goal.returns-clause-short
returns-clause-short g c = came_short c.begins_with_whole.ensures _ _ _ c.await_frame.result _ _ c.await_frame.ensures.awaits

pub returns-clause-exchanges : goal.returns-clause-exchanges
returns-clause-exchanges g c =
    let known = g.L.Link.known in
    let counts = g.L.Link.counts in
    let prompt = g.L.Link.prompt in
    awaited c.args.bytes.now c.args.patience (known c.args.link.now) (counts c.args.link.now) (prompt c.args.link.now) (known c.await_frame.new.link) (counts c.await_frame.new.link)
    (known c.send_all.new.link) (counts c.send_all.new.link) (prompt c.send_all.new.link) c.await_frame.result c.in_ok-send_all.ensures.sends c.send_all.ensures.counts c.in_ok-send_all.ensures.prompt c.await_frame.ensures.awaits c.await_frame.ensures.given

pub returns-in_err-send_all-clause-last : goal.returns-in_err-send_all-clause-last
returns-in_err-send_all-clause-last g c =
    let r = err_from_is_err_and c.from_residual.result c.from_residual.ensures.1 in
    λ going. rw (r.1, r.2) (c.in_err-send_all.ensures.last going)
