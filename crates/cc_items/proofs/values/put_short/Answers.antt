use Rattle.std.proofs.Common.{◌≡◌, ℕ, ◌++◌, ◌∷◌, List, sym, ap, ◌∙◌}
use Rattle.std.specs.Prelude.{ℤ}
use Rattle.std.specs.Int.{w16, w32}
use mir.Val.{SFits, to_z, of_z}
use Rattle.std.proofs.lemmas.Int.{to_z-of_z}
use Rattle.std.proofs.lemmas.Result.{on_ok_weaker}
use Rattle.cc_meaning_builder.specs.Forms.{signed_form}
use Rattle.cc_items.proofs.Widths.{two_bytes}
use Rattle.cc_items.proofs.Shapes.{short_is, no_short}
use Rattle.cc_items.proofs.values.put_short.Goals as goal

pub returns-in-Ok : goal.returns-in-Ok
returns-in-Ok c =
    let same : to_z w32 (of_z w32 c.args.n) ≡ c.args.n = to_z-of_z w32 c.args.n c.ranges.n in
    let there = c.in-Ok.ensures in
    let fits : SFits w16 c.args.n = rw same at there.0 in
    let is : c.in-Ok.short ≡ c.args.n = there.1 ∙ same in
    let whole : to_z w16 (of_z w16 c.in-Ok.short) ≡ c.args.n = ap (λ (z : ℤ). to_z w16 (of_z w16 z)) is ∙ to_z-of_z w16 c.args.n fits in
    let bytes = c.to_le_bytes.ensures ∙ two_bytes (to_z w16 (of_z w16 c.in-Ok.short)) ∙ ap (signed_form 2) whole in
    on_ok_weaker c.put_number.result (λ e. e ∙ ap (λ (l : List ℕ). c.args.out.now ++ 34 ∷ l) bytes ∙ ap (λ (l : List ℕ). c.args.out.now ++ l) (sym (short_is c.args.n fits))) c.put_number.ensures

pub returns-in-Err : goal.returns-in-Err
returns-in-Err c =
    let same : to_z w32 (of_z w32 c.args.n) ≡ c.args.n = to_z-of_z w32 c.args.n c.ranges.n in
    let no : ¬ SFits w16 c.args.n = rw same at c.in-Err.ensures in
    on_ok_weaker c.put_wide.result (λ e. e ∙ ap (λ (z : ℤ). c.args.out.now ++ 100 ∷ signed_form 4 z) same ∙ ap (λ (l : List ℕ). c.args.out.now ++ l) (sym (no_short c.args.n no))) c.put_wide.ensures
