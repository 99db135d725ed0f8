use Rattle.std.proofs.Common.{ℕ, get_or, sym, ap, ◌∙◌, ◌++◌}
use Rattle.std.proofs.lemmas.List.{get_or_default}
use Rattle.cc_meaning_program.specs.Named.{type_name}
use Rattle.cc_tables.proofs.Compared.{flat_stops}
use Rattle.cc_tables.proofs.prototypes.behind_types.Goals as goal

pub returns-in_err-rest : goal.returns-in_err-rest
returns-in_err-rest c =
    let types = c.args.types.now in
    let at = c.loop-row.row-index in
    let row : ℕ = get_or types at 0 in
    rw c.from_residual.ensures
    (flat_stops (type_name c.args.ids.now) types at row c.args.units.now c.loop-row.rest.now c.loop-row-test.true (get_or_default types at 0 row c.loop-row-test.true) c.loop-row.invariant
    (λ behind is. c.in_err-rest.ensures behind (is ∙ ap (λ text. text ++ behind) (sym c.type_name.ensures))))
