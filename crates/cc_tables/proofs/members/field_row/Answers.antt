use Rattle.cc_meaning.specs.declared.file.FieldRow.{FieldRow}
use Rattle.cc_meaning_builder.specs.Named.{IsFieldNamed}
use Rattle.cc_tables.proofs.MemberRows.{field_without_class, field_without_kind, field_without_name, field_named}
use Rattle.cc_tables.proofs.Searched.{none_row}
use Rattle.cc_tables.proofs.members.field_row.Goals as goal

pub returns-in_err-type_row : goal.returns-in_err-type_row
returns-in_err-type_row c fit =
    none_row (IsFieldNamed c.args.ids.now c.args.class.now c.args.name.now c.args.kind.now) c.from_residual.result c.from_residual.ensures
    (field_without_class c.args.ids.now c.requires fit c.args.class.now c.args.name.now c.args.kind.now (c.in_err-type_row.ensures.fit fit.types))

pub returns-in_err-type_row-2 : goal.returns-in_err-type_row-2
returns-in_err-type_row-2 c fit =
    none_row (IsFieldNamed c.args.ids.now c.args.class.now c.args.name.now c.args.kind.now) c.from_residual-in_err-type_row-2.result c.from_residual-in_err-type_row-2.ensures
    (field_without_kind c.args.ids.now c.requires fit c.args.class.now c.args.name.now c.args.kind.now (c.in_err-type_row-2.ensures.fit fit.types))

pub returns-in_err-text_row : goal.returns-in_err-text_row
returns-in_err-text_row c fit =
    none_row (IsFieldNamed c.args.ids.now c.args.class.now c.args.name.now c.args.kind.now) c.from_residual-in_err-text_row.result c.from_residual-in_err-text_row.ensures
    (field_without_name c.args.ids.now c.requires fit c.args.class.now c.args.name.now c.args.kind.now c.in_err-text_row.ensures)

pub returns : goal.returns
returns c fit =
    let wanted : FieldRow = record { class = c.in_ok-type_row.field-0; kind = c.in_ok-type_row-2.field-0; name = c.in_ok-text_row.field-0 } in
    field_named c.args.ids.now c.requires fit c.args.class.now c.args.name.now c.args.kind.now wanted c.stated_field.result
    (c.in_ok-type_row.ensures.fit fit.types) (c.in_ok-type_row-2.ensures.fit fit.types) c.in_ok-text_row.ensures c.stated_field.ensures
