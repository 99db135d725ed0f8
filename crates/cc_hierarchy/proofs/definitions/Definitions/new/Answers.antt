use Rattle.std.proofs.Common.{rules, length, sym, subst, ap, ◌∙◌}
use Rattle.std.specs.List.{range_with_len}
use Rattle.std.proofs.lemmas.Fn.{always_returns_same}
use Rattle.cc_hierarchy.specs.Indexes.{defined_name, comes_before, IsIndex}
use Rattle.cc_hierarchy.proofs.Indexing.{index_sorted}
use Rattle.cc_hierarchy.proofs.NameOrder.{weak_order}
use Rattle.cc_hierarchy.proofs.definitions.Definitions.new.Goals as goal

pub returns : goal.returns
returns c = record {
  index =
      subst (IsIndex (defined_name c.args.ids.now) (length c.args.ids.now.classes)) (sym c.from_vec.ensures)
      (index_sorted (defined_name c.args.ids.now) (length c.args.ids.now.classes) c.in_ok-order.order.items c.sort_by.new.self.items
      (c.in_ok-order.ensures ∙ ap (range_with_len 0) c.len.ensures.value) c.in_ok-sort_by.ensures.permutation
      (c.in_ok-sort_by.ensures.sorted (comes_before (defined_name c.args.ids.now)) (weak_order (defined_name c.args.ids.now)) (always_returns_same _ _ _ (λ a r f' k. (search rules, search rules))))
      (c.in_ok-sort_by.ensures.stable (comes_before (defined_name c.args.ids.now)) (weak_order (defined_name c.args.ids.now)) (always_returns_same _ _ _ (λ a r f' k. (search rules, search rules)))));
}
