use Rattle.std.proofs.Common.{◌∙◌, ap, slice_set, replicate}
use Rattle.std.specs.Prelude.{Some, None}
use Rattle.cc_meaning_typing.specs.Tries.{units_of, opening_states}
use Rattle.cc_verify.proofs.Tables.{opened_due}
use Rattle.cc_verify.proofs.table.opened.Goals as goal

pub returns-clause-states : goal.returns-clause-states
unfolding opening_states
returns-clause-states c =
    let code = c.args.body.now.code.now in
    c.begin.ensures ∙ ap (λ z. slice_set z 0 (Some c.in_ok-opening.opening)) (c.in_ok-states.ensures ∙ ap (λ n. replicate n None) c.units.ensures.units) ∙ ap (λ z. slice_set (replicate (units_of code) None) 0 (Some z)) c.in_ok-opening.ensures

pub returns-clause-due : goal.returns-clause-due
returns-clause-due c = opened_due c.new-due.result c.insert.new.self c.new-due.ensures.empty c.in_ok-insert.ensures.updates
