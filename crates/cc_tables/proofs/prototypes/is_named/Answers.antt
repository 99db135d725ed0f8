use Rattle.std.proofs.Common.{ℕ, List, ◌∷◌, ◌++◌, sym, ap, ◌∙◌, true≢false}
use Rattle.std.specs.List.{flat_map}
use Rattle.std.proofs.lemmas.Bool.Decides.{Decides-eqb}
use Rattle.std.proofs.lemmas.Slice.Eq.{slice_eq-Decides}
use Rattle.cc_meaning_program.specs.Named.{type_name}
use Rattle.cc_tables.proofs.Compared.{results_same}
use Rattle.cc_tables.proofs.PrototypeRows.{parts}
use Rattle.cc_tables.proofs.prototypes.is_named.Goals as goal

pub returns-in-Some : goal.returns-in-Some
returns-in-Some c =
    let stated = c.args.prototype.now in
    let front : List ℕ = flat_map (type_name c.args.ids.now) stated.params in
    let gives = c.in-Some.gives.now in
    let decides = slice_eq-Decides Decides-eqb gives c.type_name.result.now c.eq.result c.eq.ensures in
    let whole = parts c.args.ids.now stated in (
      λ same. whole ∙ (ap (λ r. 40 ∷ (front ++ 41 ∷ r)) (sym c.type_name.ensures ∙ sym (decides.0 same)) ∙ sym c.in-Some.ensures),
      λ named. decides.1 (results_same front gives (type_name c.args.ids.now stated.result) (sym c.in-Some.ensures ∙ (sym named ∙ whole)) ∙ sym c.type_name.ensures),
    )

pub returns-in-None : goal.returns-in-None
returns-in-None c =
    let stated = c.args.prototype.now in (
      λ never. absurd (true≢false (sym never)),
      λ named. absurd (c.in-None.ensures (type_name c.args.ids.now stated.result) (sym named ∙ parts c.args.ids.now stated)),
    )
