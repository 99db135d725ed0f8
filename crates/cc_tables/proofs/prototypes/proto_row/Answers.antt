use Rattle.std.proofs.Common.{sym, ◌∙◌, true≢false}
use Rattle.cc_tables.specs.Rows.{IsPrototypeNamed}
use Rattle.cc_tables.proofs.PrototypeRows.{no_type, no_key, other_name}
use Rattle.cc_tables.proofs.Searched.{none_row}
use Rattle.cc_tables.proofs.prototypes.proto_row.Goals as goal

pub returns-in_err-gives : goal.returns-in_err-gives
returns-in_err-gives c fit =
    none_row (IsPrototypeNamed c.args.ids.now c.args.name.now) c.from_residual.result c.from_residual.ensures
    (no_type c.args.ids.now c.requires fit c.args.name.now c.behind_first-params.result.now c.result_of.result.now c.behind_first-params.ensures c.result_of.ensures (c.in_err-gives.ensures.fit fit.types))

pub returns-in_err-number : goal.returns-in_err-number
returns-in_err-number c fit =
    none_row (IsPrototypeNamed c.args.ids.now c.args.name.now) c.from_residual-in_err-number.result c.from_residual-in_err-number.ensures
    (no_key c.args.ids.now c.requires fit c.args.name.now c.behind_first-params.result.now c.result_of.result.now c.behind_first-params.ensures c.result_of.ensures c.in_ok-gives.gives (c.in_ok-gives.ensures.fit fit.types) c.in_err-number.ensures.keyed)

pub returns-else-is_named : goal.returns-else-is_named
returns-else-is_named c fit =
    other_name c.args.ids.now c.requires fit c.args.name.now c.behind_first-params.result.now c.result_of.result.now c.behind_first-params.ensures c.result_of.ensures c.in_ok-gives.gives (c.in_ok-gives.ensures.fit fit.types)
    c.in_ok-number.number c.at.result.now c.at.ensures.get c.in_ok-number.ensures.keyed (λ named. true≢false (sym (c.is_named.ensures.1 named) ∙ c.if-is_named.false))
