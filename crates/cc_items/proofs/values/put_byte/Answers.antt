use Rattle.std.proofs.Common.{◌≡◌, ℕ, ◌++◌, [], ◌∷◌, List, sym, ap, ◌∙◌}
use Rattle.std.specs.Prelude.{ℤ}
use Rattle.std.specs.Int.{w8, w32}
use mir.Val.{SFits, to_z, of_z}
use Rattle.std.proofs.lemmas.Int.{to_z-of_z}
use Rattle.std.proofs.lemmas.Result.{on_ok_weaker}
use Rattle.cc_meaning_builder.specs.Forms.{signed_form}
use Rattle.cc_items.proofs.Widths.{one_byte}
use Rattle.cc_items.proofs.Shapes.{byte_is, no_byte}
use Rattle.cc_items.proofs.values.put_byte.Goals as goal

pub returns-in-Ok : goal.returns-in-Ok
returns-in-Ok c =
    let same : to_z w32 (of_z w32 c.args.n) ≡ c.args.n = to_z-of_z w32 c.args.n c.ranges.n in
    let there = c.in-Ok.ensures in
    let fits : SFits w8 c.args.n = rw same at there.0 in
    let is : c.in-Ok.byte ≡ c.args.n = there.1 ∙ same in
    let whole : to_z w8 (of_z w8 c.in-Ok.byte) ≡ c.args.n = ap (λ (z : ℤ). to_z w8 (of_z w8 z)) is ∙ to_z-of_z w8 c.args.n fits in
    let bytes = c.to_le_bytes.ensures ∙ ap (λ (z : ℤ). of_z w8 z ∷ []) whole ∙ one_byte c.args.n fits in
    on_ok_weaker c.put_number.result (λ e. e ∙ ap (λ (l : List ℕ). c.args.out.now ++ 0 ∷ l) bytes ∙ ap (λ (l : List ℕ). c.args.out.now ++ l) (sym (byte_is c.args.n fits))) c.put_number.ensures

pub returns-in-Err : goal.returns-in-Err
returns-in-Err c =
    let same : to_z w32 (of_z w32 c.args.n) ≡ c.args.n = to_z-of_z w32 c.args.n c.ranges.n in
    let no : ¬ SFits w8 c.args.n = rw same at c.in-Err.ensures in
    on_ok_weaker c.put_wide.result (λ e. e ∙ ap (λ (z : ℤ). c.args.out.now ++ 100 ∷ signed_form 4 z) same ∙ ap (λ (l : List ℕ). c.args.out.now ++ l) (sym (no_byte c.args.n no))) c.put_wide.ensures
