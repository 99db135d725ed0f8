use Rattle.std.proofs.Common.{◌≡◌, ℕ, List, ◌∷◌, ◌++◌, ap, ◌∙◌}
use Rattle.std.specs.List.{flat_map}
use Rattle.cc_meaning_program.specs.Named.{type_name}
use Rattle.cc_tables.proofs.Compared.{match_by, opened, closed_by}
use Rattle.cc_tables.proofs.prototypes.behind_params.Goals as goal

pub returns : goal.returns
returns c =
    let name = c.args.name.now in
    let params = c.in_ok-params.params.now in
    let close = c.in_ok-close.close.now in
    let front : List ℕ = flat_map (type_name c.args.ids.now) c.args.prototype.now.params in
    let first : name ≡ 40 ∷ params = c.in_ok-params.ensures in
    let second : params ≡ front ++ close = c.in_ok-close.ensures ∙ ap (λ types. flat_map (type_name c.args.ids.now) types ++ close) c.as_slice.ensures in
    match_by c.behind-2.result _ _ _ _
    (λ none rest is. none rest (closed_by front params close rest second (opened name params (front ++ 41 ∷ rest) first is)))
    (λ rest is. first ∙ ap (λ units. 40 ∷ units) (second ∙ ap (λ units. front ++ units) is))
    c.behind-2.ensures
