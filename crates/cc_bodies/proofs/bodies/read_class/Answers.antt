use Rattle.std.proofs.lemmas.Result.{err_from_is_err_and}
use Rattle.cc_meaning_program.specs.BodyFaults.{ClassFaulty}
use Rattle.cc_bodies.proofs.CodeLemmas.{class_read}
use Rattle.cc_bodies.proofs.bodies.read_class.Goals as goal

pub returns-in_err-judge_methods : goal.returns-in_err-judge_methods
returns-in_err-judge_methods c =
    let p = err_from_is_err_and c.from_residual-in_err-judge_methods.result c.from_residual-in_err-judge_methods.ensures.1 in
    rw (p.1, p.2) (λ real. ClassFaulty.of_method (rw c.as_slice.ensures at c.in_ok-judge_fields.ensures) (rw c.as_slice-2.ensures at (c.in_err-judge_methods.ensures real)))

pub returns : goal.returns
returns c =
    class_read c.args.ids.now c.args.class.now c.read_methods.result (rw c.as_slice.ensures at c.in_ok-judge_fields.ensures) (rw c.as_slice-2.ensures at c.in_ok-judge_methods.ensures)
    (rw c.as_slice-3.ensures at c.read_methods.ensures)
