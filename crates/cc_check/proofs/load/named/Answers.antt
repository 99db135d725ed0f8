use Rattle.std.proofs.Common.{sym, ◌∙◌, subst}
use Rattle.cc_check.specs.Checking.{NamesFault}
use Rattle.cc_check.specs.declared.fault.CheckFault.TheVariants as faults
use Rattle.cc_check.proofs.Naming.{has_method, named_within, names_fault}
use Rattle.cc_check.proofs.load.named.Goals as goal

pub at-method-requires : goal.at-method-requires
at-method-requires c =
    let named = sym c.faulty_method.ensures ∙ c.in-Some.is in
    named_within c.args.program.now c.args.fault c.in-Some.number named (c.requires (has_method c.args.fault c.in-Some.number named))

pub returns-in-Ok : goal.returns-in-Ok
returns-in-Ok c = λ other.
    let named = sym c.faulty_method.ensures ∙ c.in-Some.is in
    subst (λ name. NamesFault c.args.program.now c.args.fault (faults.Verify name c.args.fault)) (sym c.in-Ok.ensures)
    (names_fault c.args.program.now c.args.fault c.in-Some.number c.at-method.result.now named c.at-method.ensures.get (c.requires (has_method c.args.fault c.in-Some.number named)))
