use Rattle.std.proofs.Common.{◌≡◌, ◌≢◌, ℕ, List, Option, Result, sym, ◌∙◌, subst}
use Rattle.std.specs.Prelude.{IfErr}
use Rattle.std.specs.Option.{option_copied}
use Rattle.std.proofs.lemmas.Result.{err_from_is_err_and}
use Rattle.cc_meaning.specs.declared.fault.ProgramFault.TheVariants as faults
use Rattle.cc_meaning_program.specs.Asked.{asked_class}
use Rattle.cc_meaning_program.specs.Faults.{IsProgramFault}
use Rattle.cc_program.proofs.Faulty.{none_asked}
use Rattle.cc_program.proofs.build.build_program.Goals as goal

pub returns-in_err-judge_classes-clause-fault : goal.returns-in_err-judge_classes-clause-fault
returns-in_err-judge_classes-clause-fault c =
    let p = err_from_is_err_and c.from_residual.result c.from_residual.ensures.1 in
    rw (p.1, p.2) (λ real. IsProgramFault.of_classes (c.in_err-judge_classes.ensures.fault real))

pub returns-in_err-bodies-clause-fault : goal.returns-in_err-bodies-clause-fault
returns-in_err-bodies-clause-fault c =
    let p = err_from_is_err_and c.from_residual-in_err-bodies.result c.from_residual-in_err-bodies.ensures.1 in
    rw (p.1, p.2) (λ real. IsProgramFault.of_bodies c.in_ok-judge_classes.ensures.sound (c.in_err-bodies.ensures.fault real))

pub returns-clause-fault : goal.returns-clause-fault
returns-clause-fault c =
    let asked = c.as_name.ensures ∙ c.in_ok-asked.ensures in
    subst (λ (a : Option (List ℕ)). IfErr c.program_of.result (λ fault. fault ≢ faults.Memory → IsProgramFault c.args.ids.now c.args.raw.now a fault)) asked
    (none_asked c.args.ids.now c.args.raw.now (option_copied c.as_name.result) c.in_ok-judge_classes.ensures.sound c.in_ok-bodies.ensures.sound c.program_of.result c.program_of.ensures.fault)
