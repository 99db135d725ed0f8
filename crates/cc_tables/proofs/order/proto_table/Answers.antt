use Rattle.std.proofs.Common.{map, Bor, subst}
use Rattle.cc_meaning.specs.declared.file.ProtoRow.{ProtoRow}
use Rattle.cc_meaning_builder.specs.Tables.{prototype_key}
use Rattle.cc_names.specs.InOrder.{AreInOrder}
use Rattle.cc_tables.proofs.Mapped.{in_order_mapped, ok_copied}
use Rattle.cc_tables.proofs.order.proto_table.Goals as goal

pub returns : goal.returns
returns c =
    let borrowed : Bor ProtoRow → ProtoRow = λ row. row.now in
    let mapped : AreInOrder prototype_key (map borrowed c.in_ok-given.given) (map borrowed c.in_ok-sorted.sorted) =
    in_order_mapped prototype_key borrowed c.in_ok-given.given c.in_ok-sorted.sorted c.in_ok-sorted.ensures in
    let made : AreInOrder prototype_key c.args.rows.now (map borrowed c.as_slice.result.now) =
    rw (c.as_slice.ensures) (subst (λ given. AreInOrder prototype_key given (map borrowed c.in_ok-sorted.sorted)) c.in_ok-given.ensures mapped) in
    ok_copied (AreInOrder prototype_key c.args.rows.now) (map borrowed c.as_slice.result.now) made c.copies.result c.copies.ensures
