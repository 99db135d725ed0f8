use Rattle.std.proofs.Common.{◌≡◌, ℕ, ◌++◌, ◌∷◌, List, ap, ◌∙◌}
use Rattle.std.specs.Int.{w32}
use mir.Val.{to_z, of_z}
use Rattle.std.proofs.lemmas.Int.{to_z-of_z}
use Rattle.std.proofs.lemmas.Result.{on_ok_weaker}
use Rattle.cc_meaning_builder.specs.Forms.{signed_form}
use Rattle.cc_items.proofs.Widths.{four_bytes}
use Rattle.cc_items.proofs.values.put_wide.Goals as goal

pub returns : goal.returns
returns c =
    let same : to_z w32 (of_z w32 c.args.n) ≡ c.args.n = to_z-of_z w32 c.args.n c.ranges.n in
    let bytes : c.to_le_bytes.result ≡ signed_form 4 c.args.n = c.to_le_bytes.ensures ∙ four_bytes (to_z w32 (of_z w32 c.args.n)) ∙ ap (signed_form 4) same in
    on_ok_weaker c.put_number.result (λ e. e ∙ ap (λ (l : List ℕ). c.args.out.now ++ 100 ∷ l) bytes) c.put_number.ensures
