use Rattle.std.proofs.Common.{rules}
use Rattle.std.specs.Ordering.{nat_cmp, is_lt}
use Rattle.std.specs.Cmp.Lexicographic.{slice_cmp}
use Rattle.std.proofs.lemmas.Cmp.{nat_list_cmp_total}
use Rattle.std.proofs.lemmas.Fn.{always_returns_same}
use Rattle.std.proofs.lemmas.List.Sorted.{ranks_by}
use Rattle.cc_names.proofs.Ordered.{of_moved}
use Rattle.cc_members.proofs.Ordered.{first_of_stable}
use Rattle.cc_members.proofs.order.first_in_order.Goals as goal

pub first_of_each-requires : goal.first_of_each-requires
first_of_each-requires g c =
    let name = g.N.Naming.name c.args.naming.now in
    let sorted = c.in_ok-sort_by.ensures.sorted (λ x y. is_lt (slice_cmp nat_cmp (name x) (name y))) (ranks_by nat_list_cmp_total name) (always_returns_same _ _ _ (λ a r h k. search rules)) in
    rw c.as_slice.ensures.value sorted

pub returns-clause-order : goal.returns-clause-order
returns-clause-order g c =
    let name = g.N.Naming.name c.args.naming.now in
    let moved = rw c.into_vec-items.ensures at c.in_ok-sort_by.ensures.permutation in
    of_moved name c.args.items c.sort_by.new.self.items c.in_ok-kept.kept moved (rw c.as_slice.ensures.value at c.in_ok-kept.ensures.order)

pub returns-clause-first : goal.returns-clause-first
returns-clause-first g c =
    let name = g.N.Naming.name c.args.naming.now in
    let stable = c.in_ok-sort_by.ensures.stable (λ x y. is_lt (slice_cmp nat_cmp (name x) (name y))) (ranks_by nat_list_cmp_total name) (always_returns_same _ _ _ (λ a r h k. search rules)) in
    let same = rw c.into_vec-items.ensures at stable in
    first_of_stable name c.args.items c.sort_by.new.self.items c.in_ok-kept.kept same (rw c.as_slice.ensures.value at c.in_ok-kept.ensures.first)
