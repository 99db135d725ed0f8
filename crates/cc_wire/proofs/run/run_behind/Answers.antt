use Rattle.std.proofs.Common.{rules, ℤ, sym, ap, ◌∙◌}
use Rattle.std.specs.Int.{w32}
use Rattle.std.proofs.lemmas.Int.{to_z-of_z}
use Rattle.cc_meaning_images.specs.Reading.{got}
use Rattle.cc_wire.specs.Runs.{image_of}
use Rattle.std.proofs.lemmas.Result.{err_from_is_err_and}
use Rattle.cc_wire.proofs.Behinds as behinds
use Rattle.cc_wire.proofs.run.run_behind.Goals as goal

pub returns-in_err-status : goal.returns-in_err-status
returns-in_err-status c =
    let p = err_from_is_err_and c.from_residual.result c.from_residual.ensures.1 in
    rw (p.1, p.2) (λ plain f head free. behinds.no_status plain (c.form_is.ensures plain) f head _ _ _ (c.in_err-status.ensures.reads free))

pub returns-in_err-argument : goal.returns-in_err-argument
returns-in_err-argument c =
    let p = err_from_is_err_and c.from_residual-in_err-argument.result c.from_residual-in_err-argument.ensures.1 in
    rw (p.1, p.2) (λ plain f head free. behinds.no_argument plain (c.form_is.ensures plain) f head _ _ c.in_ok-status.status _ _ c.in_ok-status.ensures.reads _ (c.in_err-argument.ensures.reads free))

pub returns-in_err-none : goal.returns-in_err-none
returns-in_err-none c =
    let p = err_from_is_err_and c.from_residual-in_err-none.result c.from_residual-in_err-none.ensures.1 in
    rw (p.1, p.2) (λ plain f head free. behinds.bad_literals plain (c.form_is.ensures plain) f head _ _ c.in_ok-status.status _ _ c.in_ok-status.ensures.reads c.in_ok-argument.argument _ _ c.in_ok-argument.ensures.reads _ (c.in_err-none.ensures.reads free))

pub returns-in_err-none-2 : goal.returns-in_err-none-2
returns-in_err-none-2 c =
    let p = err_from_is_err_and c.from_residual-in_err-none-2.result c.from_residual-in_err-none-2.ensures.1 in
    rw (p.1, p.2) (λ plain f head free. behinds.bad_constants plain (c.form_is.ensures plain) f head _ _ c.in_ok-status.status _ _ c.in_ok-status.ensures.reads c.in_ok-argument.argument _ _ c.in_ok-argument.ensures.reads _ _ c.in_ok-none.ensures.reads _ (c.in_err-none-2.ensures.reads free))

pub returns-in_err-out_alone : goal.returns-in_err-out_alone
returns-in_err-out_alone c =
    let p = err_from_is_err_and c.from_residual-in_err-out_alone.result c.from_residual-in_err-out_alone.ensures.1 in
    rw (p.1, p.2) (λ plain f head free. behinds.bad_objects plain (c.form_is.ensures plain) f head _ _ c.in_ok-status.status _ _ c.in_ok-status.ensures.reads c.in_ok-argument.argument _ _ c.in_ok-argument.ensures.reads _ _ c.in_ok-none.ensures.reads _ _ c.in_ok-none-2.ensures.reads _ (c.in_err-out_alone.ensures.reads free))

pub returns : goal.returns
returns c = λ plain f head.
    let again = sym (to_z-of_z w32 c.in_ok-argument.argument (search rules)) in
    behinds.all_read plain (c.form_is.ensures plain) f head _ _ c.in_ok-status.status _ _ c.in_ok-status.ensures.reads c.in_ok-argument.argument _ _ c.in_ok-argument.ensures.reads _ _ c.in_ok-none.ensures.reads _ _ c.in_ok-none-2.ensures.reads _ _ c.in_ok-out_alone.ensures.reads
    ∙ ap (λ (n : ℤ). got (image_of plain f head c.in_ok-status.status n) c.out_alone.new.reader.at c.out_alone.new.reader.rest.now) again
