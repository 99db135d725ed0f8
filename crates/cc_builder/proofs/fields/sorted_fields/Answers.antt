use Rattle.std.proofs.Common.{rules, subst, sym}
use Rattle.std.proofs.lemmas.List.Sorted.{IsNonDecreasingBy-from_sort_by_key}
use Rattle.cc_builder.specs.declared.fields.PlacedField.{PlacedField}
use Rattle.cc_builder.specs.Placed.{AreSortedFields, list_place}
use Rattle.cc_builder.proofs.InOrder.{fields_sorted}
use Rattle.cc_builder.proofs.fields.sorted_fields.Goals as goal

pub returns : goal.returns
returns c = λ known.
    let ids = c.args.ids.now in
    let class = c.args.class.now in
    let fields = c.args.fields.now in
    let rise = IsNonDecreasingBy-from_sort_by_key (λ (it : PlacedField). list_place it.raw.is_static it.raw.row) _ c.in_ok-sort_by_key.ensures.sorted (λ a r q k. search rules) in
    let moved = rw c.into_vec-placed.ensures at c.in_ok-sort_by_key.ensures.permutation in
    subst (λ all. AreSortedFields ids class fields all) (sym c.from_vec.ensures)
    (fields_sorted ids class fields c.in_ok-placed_fields.field-0 c.sort_by_key.new.self.items c.requires.few.fields (c.in_ok-placed_fields.ensures known) moved rise)
