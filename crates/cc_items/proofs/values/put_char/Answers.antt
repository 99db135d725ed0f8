use Rattle.std.proofs.Common.{◌≡◌, ℕ, ◌++◌, ◌∷◌, List, sym, ap, ◌∙◌}
use Rattle.std.specs.Prelude.{ℤ}
use Rattle.std.specs.Int.{w32, FitsUnsignedBits}
use mir.Val.{to_z, of_z}
use Rattle.std.proofs.lemmas.Int.{to_z-of_z}
use Rattle.std.proofs.lemmas.Result.{on_ok_weaker}
use Rattle.cc_meaning_builder.specs.Forms.{little_form, signed_form}
use Rattle.std.specs.Prelude.{unsigned_abs}
use Rattle.cc_items.proofs.Widths.{unit_bytes}
use Rattle.cc_items.proofs.Shapes.{char_is, no_char}
use Rattle.cc_items.proofs.values.put_char.Goals as goal

pub returns-in-Ok : goal.returns-in-Ok
returns-in-Ok c =
    let same : to_z w32 (of_z w32 c.args.n) ≡ c.args.n = to_z-of_z w32 c.args.n c.ranges.n in
    let there = c.in-Ok.ensures in
    let fits : FitsUnsignedBits 16 c.args.n = rw same at there.0 in
    let is : c.in-Ok.unit ≡ unsigned_abs c.args.n = there.1 ∙ ap unsigned_abs same in
    let bytes = c.to_le_bytes.ensures ∙ unit_bytes c.in-Ok.unit ∙ ap (little_form 2) is in
    on_ok_weaker c.put_number.result (λ e. e ∙ ap (λ (l : List ℕ). c.args.out.now ++ 35 ∷ l) bytes ∙ ap (λ (l : List ℕ). c.args.out.now ++ l) (sym (char_is c.args.n fits))) c.put_number.ensures

pub returns-in-Err : goal.returns-in-Err
returns-in-Err c =
    let same : to_z w32 (of_z w32 c.args.n) ≡ c.args.n = to_z-of_z w32 c.args.n c.ranges.n in
    let no : ¬ FitsUnsignedBits 16 c.args.n = rw same at c.in-Err.ensures in
    on_ok_weaker c.put_wide.result (λ e. e ∙ ap (λ (z : ℤ). c.args.out.now ++ 100 ∷ signed_form 4 z) same ∙ ap (λ (l : List ℕ). c.args.out.now ++ l) (sym (no_char c.args.n no))) c.put_wide.ensures
