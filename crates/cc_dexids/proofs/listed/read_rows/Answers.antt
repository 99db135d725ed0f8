use Rattle.std.proofs.Common.{ℕ, ◌+◌, ◌*◌, [], ◌∷◌, ◌++◌, map, sym, ap, ◌∙◌, arith}
use Rattle.std.specs.List.{range_with_len}
use Rattle.std.proofs.lemmas.List.FromFn.{map-range_with_len_more}
use Rattle.cc_meaning_dex.specs.Numbers.{u16_at}
use Rattle.cc_dexids.proofs.listed.read_rows.Goals as goal

pub loop-k-preserved : goal.loop-k-preserved
loop-k-preserved c =
    let type_at : ℕ → ℕ = λ k. u16_at c.args.file.now (c.args.start + k * 2) in
    let so_far = map type_at (range_with_len 0 c.loop-k.k) in
    c.in_ok-push.ensures.items
    ∙ ap (λ rows. rows ++ c.from.result ∷ []) c.loop-k.invariant
    ∙ ap (λ more. so_far ++ more ∷ []) (c.from.ensures ∙ c.u16_at.ensures)
    ∙ sym (map-range_with_len_more type_at 0 c.loop-k.k c.loop-k.k (omega arith))
