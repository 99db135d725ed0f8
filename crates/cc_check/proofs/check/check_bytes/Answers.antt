use Rattle.std.proofs.Common.{Ok, sym, ap, ◌∙◌, subst}
use Rattle.std.specs.Option.{option_copied}
use Rattle.std.proofs.lemmas.Result.{err_from_is_err_and}
use Rattle.cc_meaning_program.specs.Asked.{asked_class}
use Rattle.cc_check.specs.Checking.{IsChecked}
use Rattle.cc_check.specs.Summaries.{summary_of}
use Rattle.cc_check.specs.declared.summary.Summary.{Summary}
use Rattle.cc_check.proofs.check.check_bytes.Goals as goal

pub returns-in_err-verified-clause-refused : goal.returns-in_err-verified-clause-refused
returns-in_err-verified-clause-refused c =
    let p = err_from_is_err_and c.from_residual.result c.from_residual.ensures.1 in
    rw (p.1, p.2) (λ real. IsChecked.refused (c.in_err-verified.ensures.refused real))

pub returns-clause-accepted : goal.returns-clause-accepted
returns-clause-accepted c =
    subst (λ (s : Summary). IsChecked c.args.file.now (asked_class (option_copied c.args.main)) (Ok s))
    (sym (c.summarize.ensures ∙ ap summary_of c.program.ensures.same)) (IsChecked.accepted c.in_ok-verified.ensures.accepted)
