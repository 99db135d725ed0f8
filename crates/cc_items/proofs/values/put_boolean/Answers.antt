use Rattle.std.proofs.Common.{◌≡◌, ℕ, ◌++◌, ◌∷◌, List, sym, ap, ◌∙◌, arith}
use Rattle.std.specs.Prelude.{ℤ, pos}
use Rattle.std.specs.Int.{w32}
use mir.Val.{to_z, of_z}
use Rattle.std.proofs.lemmas.Int.{ints, to_z-of_z}
use Rattle.std.proofs.lemmas.Result.{on_ok_weaker}
use Rattle.cc_meaning_builder.specs.Forms.{signed_form}
use Rattle.cc_items.proofs.Shapes.{false_is, true_is, no_boolean}
use Rattle.cc_items.proofs.values.put_boolean.Goals as goal

pub returns-then-n-eq0 : goal.returns-then-n-eq0
returns-then-n-eq0 c =
    let is : c.args.n ≡ pos 0 = omega (arith, ints) in
    on_ok_weaker c.put_number.result (λ e. e ∙ ap (λ (l : List ℕ). c.args.out.now ++ l) (sym (false_is c.args.n is))) c.put_number.ensures

pub returns-then-n-eq1 : goal.returns-then-n-eq1
returns-then-n-eq1 c =
    let is : c.args.n ≡ pos 1 = omega (arith, ints) in
    on_ok_weaker c.put_number-then-n-eq1.result (λ e. e ∙ ap (λ (l : List ℕ). c.args.out.now ++ l) (sym (true_is c.args.n is))) c.put_number-then-n-eq1.ensures

pub returns-else-n-eq1 : goal.returns-else-n-eq1
returns-else-n-eq1 c =
    let same : to_z w32 (of_z w32 c.args.n) ≡ c.args.n = to_z-of_z w32 c.args.n c.ranges.n in
    let other = no_boolean c.args.n (λ is. omega (arith, ints, is)) (λ is. omega (arith, ints, is)) in
    on_ok_weaker c.put_wide.result (λ e. e ∙ ap (λ (z : ℤ). c.args.out.now ++ 100 ∷ signed_form 4 z) same ∙ ap (λ (l : List ℕ). c.args.out.now ++ l) (sym other)) c.put_wide.ensures
