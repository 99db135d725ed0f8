use Rattle.cc_meaning.specs.declared.file.MethodRow.{MethodRow}
use Rattle.cc_meaning_builder.specs.Named.{IsMethodNamed}
use Rattle.cc_tables.proofs.MemberRows.{method_without_class, method_without_prototype, method_without_name, method_named}
use Rattle.cc_tables.proofs.Searched.{none_row}
use Rattle.cc_tables.proofs.members.method_row.Goals as goal

pub returns-in_err-type_row : goal.returns-in_err-type_row
returns-in_err-type_row c fit =
    none_row (IsMethodNamed c.args.ids.now c.args.class.now c.args.name.now c.args.proto.now) c.from_residual.result c.from_residual.ensures
    (method_without_class c.args.ids.now c.requires fit c.args.class.now c.args.name.now c.args.proto.now (c.in_err-type_row.ensures.fit fit.protos.types))

pub returns-in_err-proto_row : goal.returns-in_err-proto_row
returns-in_err-proto_row c fit =
    none_row (IsMethodNamed c.args.ids.now c.args.class.now c.args.name.now c.args.proto.now) c.from_residual-in_err-proto_row.result c.from_residual-in_err-proto_row.ensures
    (method_without_prototype c.args.ids.now c.requires fit c.args.class.now c.args.name.now c.args.proto.now (c.in_err-proto_row.ensures fit.protos))

pub returns-in_err-text_row : goal.returns-in_err-text_row
returns-in_err-text_row c fit =
    none_row (IsMethodNamed c.args.ids.now c.args.class.now c.args.name.now c.args.proto.now) c.from_residual-in_err-text_row.result c.from_residual-in_err-text_row.ensures
    (method_without_name c.args.ids.now c.requires fit c.args.class.now c.args.name.now c.args.proto.now c.in_err-text_row.ensures)

pub returns : goal.returns
returns c fit =
    let wanted : MethodRow = record { class = c.in_ok-type_row.field-0; proto = c.in_ok-proto_row.field-0; name = c.in_ok-text_row.field-0 } in
    method_named c.args.ids.now c.requires fit c.args.class.now c.args.name.now c.args.proto.now wanted c.stated_method.result
    (c.in_ok-type_row.ensures.fit fit.protos.types) (c.in_ok-proto_row.ensures fit.protos) c.in_ok-text_row.ensures c.stated_method.ensures
