use Rattle.std.proofs.Common.{rules, refl, sym, ap, ◌≡◌, ◌∙◌, ◌+◌, suc, arith, cond, Bool, List, ℕ, drop}
use Rattle.cc_built_in.specs.BuiltInMethods.{is_before}
use Rattle.cc_meaning_plain.specs.Program.{main_name, before_main}
use Rattle.cc_wire.proofs.Counts.{before_main_more, before_main_end}
use Rattle.cc_wire.proofs.numbers.before_main.Goals as goal

pub loop-function-init : goal.loop-function-init
loop-function-init c = record { all = omega arith; each = refl }

pub returns-then-not-is_before_main : goal.returns-then-not-is_before_main
returns-then-not-is_before_main c =
    let more = before_main_more c.args.functions.now c.loop-function.function-index c.function-item.result c.loop-function-test.true in
    let name : is_before c.function-item.result.name main_name ≡ c.is_before_main.result = ap (λ (n : List ℕ). is_before n main_name) (sym c.as_slice.ensures) ∙ sym c.is_before_main.ensures in
    let none : before_main (drop c.loop-function.function-index c.args.functions.now) ≡ 0 =
    more ∙ ap (λ f. cond (is_before f.name main_name) (suc (before_main (drop (c.loop-function.function-index + 1) c.args.functions.now))) 0) (sym c.function-item.is)
    ∙ ap (λ (b : Bool). cond b (suc (before_main (drop (c.loop-function.function-index + 1) c.args.functions.now))) 0) (name ∙ c.if-not-is_before_main.true) in
    omega (arith, none, c.loop-function.invariant.all)

pub overflow_add-count : goal.overflow_add-count
overflow_add-count c = search rules

pub loop-function-preserved : goal.loop-function-preserved
loop-function-preserved c =
    let more = before_main_more c.args.functions.now c.loop-function.function-index c.function-item.result c.loop-function-test.true in
    let name : is_before c.function-item.result.name main_name ≡ c.is_before_main.result = ap (λ (n : List ℕ). is_before n main_name) (sym c.as_slice.ensures) ∙ sym c.is_before_main.ensures in
    let one : before_main (drop c.loop-function.function-index c.args.functions.now) ≡ suc (before_main (drop (c.loop-function.function-index + 1) c.args.functions.now)) =
    more ∙ ap (λ f. cond (is_before f.name main_name) (suc (before_main (drop (c.loop-function.function-index + 1) c.args.functions.now))) 0) (sym c.function-item.is)
    ∙ ap (λ (b : Bool). cond b (suc (before_main (drop (c.loop-function.function-index + 1) c.args.functions.now))) 0) (name ∙ c.if-not-is_before_main.false) in
    record { all = omega (arith, one, c.loop-function.invariant.all); each = omega (arith, c.loop-function.invariant.each) }

pub returns : goal.returns
returns c =
    let end = before_main_end c.args.functions.now c.loop-function.function-index c.loop-function-test.false in
    omega (arith, end, c.loop-function.invariant.all)
