use Rattle.std.proofs.Common.{◌≡◌, length, take, refl, sym, ap, ◌∙◌, true≢false}
use Rattle.std.proofs.lemmas.Bool.Decides.{Decides-eqb}
use Rattle.std.proofs.lemmas.List.{take_at}
use Rattle.std.proofs.lemmas.Slice.Eq.{slice_eq-Decides}
use Rattle.cc_tables.proofs.prototypes.behind.Goals as goal

pub returns-else-eq : goal.returns-else-eq
returns-else-eq c rest is =
    let text = c.args.text.now in
    let decides = slice_eq-Decides Decides-eqb c.split_at.result.0.now text c.eq.result c.eq.ensures in
    let front : c.split_at.result.0.now ≡ text = c.split_at.ensures.front ∙ (ap (take (length text)) is ∙ take_at text rest (length text) refl) in
    true≢false (sym (decides.1 front) ∙ c.if-eq.false)
