use Rattle.std.proofs.Common.{map, ap, subst, ◌∙◌}
use Rattle.cc_meaning_builder.specs.Tables.{prototype_key}
use Rattle.cc_names.specs.InOrder.{AreInOrder}
use Rattle.cc_tables.specs.Places.{proto_row_of}
use Rattle.cc_tables.proofs.Counts.{types_made}
use Rattle.cc_tables.proofs.tables.with_protos.Goals as goal

pub proto_rows-requires : goal.proto_rows-requires
proto_rows-requires c = types_made c.args.needs.now c.args.ids c.requires

pub returns : goal.returns
returns c =
    let has = c.requires in
    let rows = c.in_ok-rows.ensures ∙ ap (map (proto_row_of c.args.ids)) c.as_slice.ensures in
    record {
      types = record { few = has.few; few_texts = has.few_texts; texts = has.texts; types = has.types };
      protos = subst (λ given. AreInOrder prototype_key given c.in_ok-ids.field-0) rows c.in_ok-ids.ensures;
    }
