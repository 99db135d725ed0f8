use Rattle.std.proofs.Common.{map, ap, subst, ◌∙◌}
use Rattle.cc_meaning_builder.specs.Tables.{method_key}
use Rattle.cc_names.specs.InOrder.{AreInOrder}
use Rattle.cc_tables.specs.Places.{method_row_of}
use Rattle.cc_tables.proofs.Counts.{protos_made}
use Rattle.cc_tables.proofs.tables.with_methods.Goals as goal

pub method_rows-requires : goal.method_rows-requires
method_rows-requires c = protos_made c.args.needs.now c.args.ids c.requires.protos

pub returns : goal.returns
returns c =
    let has = c.requires in
    let types = has.protos.types in
    let rows = c.in_ok-rows.ensures ∙ ap (map (method_row_of c.args.ids)) c.as_slice.ensures in
    record {
      fields = record {
        protos = record {
          types = record { few = types.few; few_texts = types.few_texts; texts = types.texts; types = types.types };
          protos = has.protos.protos;
        };
        fields = has.fields;
      };
      methods = subst (λ given. AreInOrder method_key given c.in_ok-ids.field-0) rows c.in_ok-ids.ensures;
    }
