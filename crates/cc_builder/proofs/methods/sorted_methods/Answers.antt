use Rattle.std.proofs.Common.{rules, subst, sym}
use Rattle.std.proofs.lemmas.List.Sorted.{IsNonDecreasingBy-from_sort_by_key}
use Rattle.cc_builder.specs.declared.methods.PlacedMethod.{PlacedMethod}
use Rattle.cc_builder.specs.Placed.{AreSortedMethods, list_place}
use Rattle.cc_builder.proofs.InOrder.{methods_sorted}
use Rattle.cc_builder.proofs.methods.sorted_methods.Goals as goal

pub returns : goal.returns
returns c = λ known.
    let ids = c.args.ids.now in
    let class = c.args.class.now in
    let methods = c.args.methods.now in
    let rise = IsNonDecreasingBy-from_sort_by_key (λ (it : PlacedMethod). list_place it.raw.is_direct it.raw.row) _ c.in_ok-sort_by_key.ensures.sorted (λ a r q k. search rules) in
    let moved = rw c.into_vec-placed.ensures at c.in_ok-sort_by_key.ensures.permutation in
    subst (λ all. AreSortedMethods ids class methods all) (sym c.from_vec.ensures)
    (methods_sorted ids class methods c.in_ok-placed_methods.field-0 c.sort_by_key.new.self.items c.requires.few.methods (c.in_ok-placed_methods.ensures known) moved rise)
