use Rattle.std.proofs.Common.{refl}
use Rattle.cc_meaning.specs.declared.listing.RowName.TheVariants as row
use Rattle.cc_meaning_builder.specs.Named.{code_names}
use Rattle.cc_builder.proofs.KnownNames.{first, rest}
use Rattle.cc_builder.proofs.methods.placed_method.Goals as goal

pub returns : goal.returns
returns c = λ known.
    let ids = c.args.ids.now in
    let class = c.args.class.now in
    let method = c.args.method.now in
    let named = rw (c.as_slice.ensures, c.as_slice-2.ensures) at c.method_row-row.ensures in
    let direct = rw c.as_slice-3.ensures at c.is_direct_method.ensures in
    record {
      raw = record {
        named = named (first ids (row.Method class method.name method.proto) (code_names method.code) known);
        flags = refl;
        list = direct;
        code = c.in_ok-code.ensures (rest ids (row.Method class method.name method.proto) (code_names method.code) known);
      };
      outs = c.code_outs.ensures;
    }
