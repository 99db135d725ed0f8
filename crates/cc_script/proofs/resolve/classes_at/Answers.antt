use Rattle.std.proofs.Common.{◌≡◌, ℕ, ◌+◌, ◌∙◌, ap, arith}
use Rattle.cc_meaning_script.specs.Script.{class_at, classes_at}
use Rattle.cc_script.proofs.ClassLemmas.{gives_on}
use Rattle.cc_script.proofs.Each.{each_fault}
use Rattle.cc_script.proofs.resolve.classes_at.Goals as goal

pub returns-in-Err : goal.returns-in-Err
returns-in-Err c =
    let here : 0 + c.loop-number.number ≡ c.loop-number.number = omega arith in
    gives_on (class_at c.args.program.now c.loop-number.number c.index-classes-number.result) (classes_at c.args.program.now c.args.classes.now) c.in-Err.fault
    (λ f bad.
    each_fault (class_at c.args.program.now) 0 c.loop-number.number c.args.classes.now c.loop-number.found c.index-classes-number.result f c.loop-number-test.true c.index-classes-number.is
    c.loop-number.invariant (ap (λ (k : ℕ). class_at c.args.program.now k c.index-classes-number.result) here ∙ bad))
    c.in-Err.ensures
