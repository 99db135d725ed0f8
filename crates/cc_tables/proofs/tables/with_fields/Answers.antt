use Rattle.std.proofs.Common.{map, ap, subst, ◌∙◌}
use Rattle.cc_meaning_builder.specs.Tables.{field_key}
use Rattle.cc_names.specs.InOrder.{AreInOrder}
use Rattle.cc_tables.specs.Places.{field_row_of}
use Rattle.cc_tables.proofs.Counts.{types_made}
use Rattle.cc_tables.proofs.tables.with_fields.Goals as goal

pub field_rows-requires : goal.field_rows-requires
field_rows-requires c = types_made c.args.needs.now c.args.ids c.requires.types

pub returns : goal.returns
returns c =
    let has = c.requires in
    let rows = c.in_ok-rows.ensures ∙ ap (map (field_row_of c.args.ids)) c.as_slice.ensures in
    record {
      protos = record {
        types = record { few = has.types.few; few_texts = has.types.few_texts; texts = has.types.texts; types = has.types.types };
        protos = has.protos;
      };
      fields = subst (λ given. AreInOrder field_key given c.in_ok-ids.field-0) rows c.in_ok-ids.ensures;
    }
