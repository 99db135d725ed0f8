use Rattle.std.proofs.Common.{refl, rules}
use Rattle.cc_meaning.specs.declared.listing.RowName.TheVariants as row
use Rattle.cc_meaning_builder.specs.Named.{value_names}
use Rattle.cc_builder.proofs.KnownNames.{first, rest}
use Rattle.cc_builder.proofs.fields.placed_field.Goals as goal

pub returns : goal.returns
returns c = λ known.
    let ids = c.args.ids.now in
    let class = c.args.class.now in
    let field = c.args.field.now in
    let named = rw (c.as_slice.ensures, c.as_slice-2.ensures) at c.field_row.ensures in
    record {
      raw = record { named = named (first ids (row.Field class field.name field.kind) (value_names field.value) known); flags = refl; list = c.has_flag.ensures };
      begins = c.first_value.ensures (rest ids (row.Field class field.name field.kind) (value_names field.value) known);
      said = search rules;
    }
