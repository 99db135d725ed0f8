use Rattle.std.proofs.lemmas.Result.{err_from_is_err_and}
use Rattle.cc_bodies.proofs.CodeLemmas.{body_read}
use Rattle.cc_bodies.proofs.bodies.read_body.Goals as goal

pub returns-in_err-read_code-in-Some : goal.returns-in_err-read_code-in-Some
returns-in_err-read_code-in-Some c =
    let p = err_from_is_err_and c.from_residual.result c.from_residual.ensures.1 in
    rw (p.1, p.2) (λ real. (c.in-Some.code, c.in-Some.is, c.in_err-read_code-in-Some.ensures real))

pub returns-in_ok-read_code-in-Some : goal.returns-in_ok-read_code-in-Some
returns-in_ok-read_code-in-Some c =
    let read = c.in_ok-read_code-in-Some.ensures in
    body_read c.args.ids.now c.args.method.now c.in-Some.code c.in_ok-read_code-in-Some.field-0 c.in-Some.is read.0 read.1
