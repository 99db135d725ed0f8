use Rattle.std.proofs.Common.{◌≡◌, ℕ, ◌++◌, ◌∷◌, List, sym, ap, ◌∙◌}
use Rattle.std.specs.Prelude.{ℤ}
use Rattle.std.specs.Int.{w32}
use mir.Val.{to_z, of_z}
use Rattle.std.proofs.lemmas.Int.{to_z-of_z}
use Rattle.std.proofs.lemmas.Result.{on_ok_weaker}
use Rattle.cc_meaning_builder.specs.Forms.{signed_form}
use Rattle.cc_items.proofs.Shapes.{wide_is}
use Rattle.cc_items.proofs.values.put_int.Goals as goal

pub returns-in_default : goal.returns-in_default
returns-in_default c =
    let same : to_z w32 (of_z w32 c.args.n) ≡ c.args.n = to_z-of_z w32 c.args.n c.ranges.n in
    let other = wide_is c.args.kind c.args.n c.in_default.not-Boolean c.in_default.not-Byte c.in_default.not-Short c.in_default.not-Char in
    on_ok_weaker c.put_wide.result (λ e. e ∙ ap (λ (z : ℤ). c.args.out.now ++ 100 ∷ signed_form 4 z) same ∙ ap (λ (l : List ℕ). c.args.out.now ++ l) (sym other)) c.put_wide.ensures
