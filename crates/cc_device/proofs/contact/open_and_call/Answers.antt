use Rattle.std.proofs.lemmas.Result.{err_from_is_err_and}
use Rattle.cc_meaning_plain.specs.Program.{program_of}
use Rattle.cc_device.proofs.Reached.{unopened, reached_behind}
use Rattle.cc_device.proofs.contact.open_and_call.Goals as goal

pub returns-in_err-open-clause-reaches : goal.returns-in_err-open-clause-reaches
returns-in_err-open-clause-reaches g c =
    let known = g.L.Link.known in
    let counts = g.L.Link.counts in
    let r = err_from_is_err_and c.from_residual.result c.from_residual.ensures.1 in
    rw (r.1, r.2) (unopened (program_of c.args.plain.now) c.args.hello.now c.args.job.now.patience c.args.run.now (known c.args.link.now) (counts c.args.link.now) (g.L.Link.prompt c.args.link.now) c.in_err-open.field-0.0 (known c.open.new.link) (counts c.open.new.link) c.in_err-open.ensures.opens)

pub returns-clause-reaches : goal.returns-clause-reaches
returns-clause-reaches g c =
    let known = g.L.Link.known in
    let counts = g.L.Link.counts in
    reached_behind (program_of c.args.plain.now) c.args.hello.now c.args.job.now.patience c.args.run.now (known c.args.link.now) (counts c.args.link.now) (g.L.Link.prompt c.args.link.now) (known c.open.new.link) (counts c.open.new.link) (g.L.Link.prompt c.open.new.link) c.call.result (known c.call.new.link) (counts c.call.new.link) c.in_ok-open.ensures.opens c.open.ensures.counts c.in_ok-open.ensures.prompt c.call.ensures.exchanges

pub returns-in_err-open-clause-last : goal.returns-in_err-open-clause-last
returns-in_err-open-clause-last g c =
    let r = err_from_is_err_and c.from_residual.result c.from_residual.ensures.1 in
    λ going. rw (r.1, r.2) (c.in_err-open.ensures.last going)
