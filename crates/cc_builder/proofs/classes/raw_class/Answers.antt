use Rattle.cc_builder.proofs.ClassesMade.{class_made, of_fields, of_methods}
use Rattle.cc_builder.proofs.classes.raw_class.Goals as goal

pub returns-clause-members : goal.returns-clause-members
returns-clause-members c = λ known.
    let ids = c.args.ids.now in
    let class = c.args.class.now in
    let has_fields = rw (c.as_slice-name.ensures, c.as_slice.ensures) at c.in_ok-fields.ensures in
    let has_methods = rw (c.as_slice-name.ensures, c.as_slice-2.ensures) at c.in_ok-methods.ensures in
    let are_outs = rw c.as_slice-3.ensures at c.in_ok-outs.ensures in
    let are_fields = rw c.as_slice-4.ensures at c.in_ok-raw_fields.ensures in
    let are_values = rw c.as_slice-5.ensures at c.in_ok-static_values.ensures in
    class_made ids class c.in_ok-fields.fields c.in_ok-methods.methods _ c.in_ok-outs.outs (has_fields (of_fields ids class known)) (has_methods (of_methods ids class known)) are_fields c.in_ok-raw_methods.ensures are_values are_outs
