use Rattle.std.proofs.Common.{rules, length, sym, subst}
use Rattle.std.proofs.lemmas.Fn.{always_returns_same}
use Rattle.cc_hierarchy.specs.Indexes.{comes_before, IsIndex}
use Rattle.cc_hierarchy.specs.Members.{member_at}
use Rattle.cc_hierarchy.proofs.Indexing.{index_sorted}
use Rattle.cc_hierarchy.proofs.NameOrder.{weak_order}
use Rattle.cc_hierarchy.proofs.repeats.places_by_name.Goals as goal

pub returns : goal.returns
returns c =
    subst (IsIndex (member_at c.args.ids.now c.args.table c.args.rows.now) (length c.args.rows.now)) (sym c.from_vec.ensures)
    (index_sorted (member_at c.args.ids.now c.args.table c.args.rows.now) (length c.args.rows.now) c.in_ok-order.order.items c.sort_by.new.self.items
    c.in_ok-order.ensures c.in_ok-sort_by.ensures.permutation
    (c.in_ok-sort_by.ensures.sorted (comes_before (member_at c.args.ids.now c.args.table c.args.rows.now)) (weak_order (member_at c.args.ids.now c.args.table c.args.rows.now)) (always_returns_same _ _ _ (λ a r f' k. (search rules, search rules))))
    (c.in_ok-sort_by.ensures.stable (comes_before (member_at c.args.ids.now c.args.table c.args.rows.now)) (weak_order (member_at c.args.ids.now c.args.table c.args.rows.now)) (always_returns_same _ _ _ (λ a r f' k. (search rules, search rules)))))
