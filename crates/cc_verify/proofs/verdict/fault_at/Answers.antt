use Rattle.cc_verify.proofs.verdict.fault_at.Goals as goal

pub invariant_of-body : goal.invariant_of-body
invariant_of-body c = record { well_formed = c.requires.well_formed; laid_out = c.requires.well_formed.laid_out c.args.number c.at-method.result.now c.in-Code.code c.at-method.ensures.get c.in-Code.is; found = c.requires.found }
