use Rattle.std.proofs.Common.{map, ap, ◌∙◌}
use Rattle.cc_tables.specs.Places.{class_row_of}
use Rattle.cc_tables.proofs.Counts.{types_made, few_rows}
use Rattle.cc_tables.proofs.tables.with_classes.Goals as goal

pub class_rows-requires : goal.class_rows-requires
class_rows-requires c = types_made c.args.needs.now c.args.ids c.requires.fields.protos.types

pub returns-clause-few : goal.returns-clause-few
returns-clause-few c =
    let few = few_rows c.args.needs.now c.args.ids c.requires in
    record { texts = few.texts; types = few.types; protos = few.protos; fields = few.fields; methods = few.methods }

pub returns-clause-made : goal.returns-clause-made
returns-clause-made c =
    let has = c.requires in
    record {
      texts = has.fields.protos.types.texts;
      types = has.fields.protos.types.types;
      protos = has.fields.protos.protos;
      fields = has.fields.fields;
      methods = has.methods;
      classes = c.in_ok-ids.ensures ∙ ap (map (class_row_of c.args.ids)) c.as_slice.ensures;
    }
