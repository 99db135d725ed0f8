use Rattle.std.proofs.lemmas.Result.{err_from_is_err_and}
use Rattle.cc_wire.proofs.Ends as ends
use Rattle.cc_wire.proofs.back.back_behind.Goals as goal

pub returns-in_err-status : goal.returns-in_err-status
returns-in_err-status c =
    let p = err_from_is_err_and c.from_residual.result c.from_residual.ensures.1 in
    rw (p.1, p.2) (λ plain head free. ends.no_status plain (c.form_is.ensures plain) c.args.before head _ _ _ (c.in_err-status.ensures.reads free))

pub returns-in_err-none : goal.returns-in_err-none
returns-in_err-none c =
    let p = err_from_is_err_and c.from_residual-in_err-none.result c.from_residual-in_err-none.ensures.1 in
    rw (p.1, p.2) (λ plain head free. ends.bad_literals plain (c.form_is.ensures plain) c.args.before head _ _ c.in_ok-status.status _ _ c.in_ok-status.ensures.reads _ (c.in_err-none.ensures.reads free))

pub returns-in_err-none-2 : goal.returns-in_err-none-2
returns-in_err-none-2 c =
    let p = err_from_is_err_and c.from_residual-in_err-none-2.result c.from_residual-in_err-none-2.ensures.1 in
    rw (p.1, p.2) (λ plain head free. ends.bad_constants plain (c.form_is.ensures plain) c.args.before head _ _ c.in_ok-status.status _ _ c.in_ok-status.ensures.reads _ _ c.in_ok-none.ensures.reads _ (c.in_err-none-2.ensures.reads free))

pub returns-in_err-none-3 : goal.returns-in_err-none-3
returns-in_err-none-3 c =
    let p = err_from_is_err_and c.from_residual-in_err-none-3.result c.from_residual-in_err-none-3.ensures.1 in
    rw (p.1, p.2) (λ plain head free. ends.bad_events plain (c.form_is.ensures plain) c.args.before head _ _ c.in_ok-status.status _ _ c.in_ok-status.ensures.reads _ _ c.in_ok-none.ensures.reads _ _ c.in_ok-none-2.ensures.reads _ (c.in_err-none-3.ensures.reads free))

pub returns : goal.returns
returns c = λ plain head. ends.all_read plain (c.form_is.ensures plain) c.args.before head _ _ c.in_ok-status.status _ _ c.in_ok-status.ensures.reads _ _ c.in_ok-none.ensures.reads _ _ c.in_ok-none-2.ensures.reads _ _ c.in_ok-none-3.ensures.reads
