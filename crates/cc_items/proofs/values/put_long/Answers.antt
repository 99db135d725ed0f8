use Rattle.std.proofs.Common.{◌≡◌, ℕ, ◌++◌, ◌∷◌, List, ap, ◌∙◌}
use Rattle.std.specs.Int.{w64}
use mir.Val.{to_z, of_z}
use Rattle.std.proofs.lemmas.Int.{to_z-of_z}
use Rattle.std.proofs.lemmas.Result.{on_ok_weaker}
use Rattle.cc_meaning_builder.specs.Forms.{signed_form}
use Rattle.cc_items.proofs.Widths.{eight_bytes}
use Rattle.cc_items.proofs.values.put_long.Goals as goal

pub returns : goal.returns
returns c =
    let same : to_z w64 (of_z w64 c.args.n) ≡ c.args.n = to_z-of_z w64 c.args.n c.ranges.n in
    let bytes : c.to_le_bytes.result ≡ signed_form 8 c.args.n = c.to_le_bytes.ensures ∙ eight_bytes (to_z w64 (of_z w64 c.args.n)) ∙ ap (signed_form 8) same in
    on_ok_weaker c.put_number.result (λ e. e ∙ ap (λ (l : List ℕ). c.args.out.now ++ 230 ∷ l) bytes) c.put_number.ensures
