use Rattle.std.proofs.Common.{sym, subst}
use Rattle.std.specs.Option.{option_copied}
use Rattle.std.proofs.lemmas.Result.{err_from_is_err_and}
use Rattle.cc_meaning.specs.declared.program.Program.{Program}
use Rattle.cc_meaning_typing.specs.Complete.{IsComplete}
use Rattle.cc_meaning_program.specs.Asked.{asked_class}
use Rattle.cc_meaning_program.specs.Reading.{SpellsProgram}
use Rattle.cc_check.specs.Checking.{IsRefused}
use Rattle.cc_check.proofs.Refusing.{unread_refused, first_of_same}
use Rattle.cc_check.proofs.load.load_program.Goals as goal

pub returns-in_err-program-clause-refused : goal.returns-in_err-program-clause-refused
returns-in_err-program-clause-refused c =
    let p = err_from_is_err_and c.from_residual.result c.from_residual.ensures.1 in
    rw (p.1) (λ real. unread_refused c.args.file.now (asked_class (option_copied c.args.main)) _ p.0 p.2 real c.in_err-program.ensures.fault)

pub named-requires : goal.named-requires
named-requires c = first_of_same c.in-Err.program c.in_ok-program.program c.in-Err.fault c.in-Err.ensures.unchanged c.in-Err.ensures.fault

pub returns-in-Err-clause-refused : goal.returns-in-Err-clause-refused
returns-in-Err-clause-refused c = λ real.
    IsRefused.unverified
    (subst (λ (p : Program). SpellsProgram c.args.file.now (asked_class (option_copied c.args.main)) p) (sym c.in-Err.ensures.unchanged) c.in_ok-program.ensures.spelled)
    (c.named.ensures real)

pub returns-in-Ok-clause-complete : goal.returns-in-Ok-clause-complete
returns-in-Ok-clause-complete c = subst IsComplete (sym c.in-Ok.ensures.same) c.in_ok-program.ensures.complete
