use Rattle.std.proofs.Common.{rules, ◌≡◌, ℕ, ◌≤◌, length, true, false, refl, sym, subst, ap, ◌∙◌, arith}
use Rattle.std.specs.Prelude.{MatchOption}
use Rattle.std.specs.Cmp.Lexicographic.{slice_cmp}
use Rattle.std.specs.Ordering.{nat_cmp, is_lt, is_eq}
use Rattle.std.proofs.lemmas.Bool.Decides.{nat_tests}
use Rattle.std.proofs.lemmas.List.Sorted.{IsPartitionPoint-from_clause}
use Rattle.std.proofs.lemmas.Map.Lookups.{exact_bytes}
use Rattle.std.proofs.lemmas.Option.{slice_get_read}
use Rattle.cc_meaning_program.specs.Definitions.{Defines}
use Rattle.cc_hierarchy.specs.Indexes.{defined_name, IsFirstOf, IsIndex}
use Rattle.cc_hierarchy.proofs.Defining.{first_defined, none_defined_behind, none_defined_here}
use Rattle.cc_hierarchy.proofs.Indexing.{parted}
use Rattle.cc_hierarchy.proofs.NameOrder.{is_equal, same_ties}
use Rattle.cc_hierarchy.proofs.definitions.Definitions.find.Goals as goal

pub returns-in_err-number : goal.returns-in_err-number
returns-in_err-number c =
    let order = c.as_slice-order.result.now in
    let index = subst (IsIndex (defined_name c.args.ids.now) (length c.args.ids.now.classes)) (sym c.as_slice-order.ensures) c.requires.index in
    let point = IsPartitionPoint-from_clause (λ n. is_lt (slice_cmp nat_cmp (defined_name c.args.ids.now n) c.args.name.now)) order c.partition_point-place.result c.partition_point-place.ensures.partitioned
    (parted (defined_name c.args.ids.now) (length c.args.ids.now.classes) order index c.args.name.now) (λ a r f' k. search rules) in
    let past : length order ≤ c.partition_point-place.result = grind (arith, nat_tests, c.in_err-number.ensures.lookup.0) in
    subst (λ r. MatchOption r ((number : ℕ) → ¬ Defines c.args.ids.now number c.args.name.now) (IsFirstOf c.args.ids.now c.args.name.now)) (sym c.from_residual.ensures)
    (none_defined_behind c.args.ids.now order index c.args.name.now c.partition_point-place.result point past)

pub returns-then-is_eq : goal.returns-then-is_eq
returns-then-is_eq c =
    let order = c.as_slice-order.result.now in
    let index = subst (IsIndex (defined_name c.args.ids.now) (length c.args.ids.now.classes)) (sym c.as_slice-order.ensures) c.requires.index in
    let point = IsPartitionPoint-from_clause (λ n. is_lt (slice_cmp nat_cmp (defined_name c.args.ids.now n) c.args.name.now)) order c.partition_point-place.result c.partition_point-place.ensures.partitioned
    (parted (defined_name c.args.ids.now) (length c.args.ids.now.classes) order index c.args.name.now) (λ a r f' k. search rules) in
    let got = c.in_ok-number.ensures.lookup in
    first_defined c.args.ids.now order index c.args.name.now c.partition_point-place.result point c.in_ok-number.field-0.now
    (slice_get_read order (length order) c.partition_point-place.result c.in_ok-number.field-0.now refl got.3.0 got.1)
    (exact_bytes (defined_name c.args.ids.now c.in_ok-number.field-0.now) c.args.name.now (sym c.compare_to.ensures ∙ is_equal c.compare_to.result (sym c.is_eq.ensures ∙ c.if-is_eq.true)))

pub returns-else-is_eq : goal.returns-else-is_eq
returns-else-is_eq c =
    let order = c.as_slice-order.result.now in
    let index = subst (IsIndex (defined_name c.args.ids.now) (length c.args.ids.now.classes)) (sym c.as_slice-order.ensures) c.requires.index in
    let point = IsPartitionPoint-from_clause (λ n. is_lt (slice_cmp nat_cmp (defined_name c.args.ids.now n) c.args.name.now)) order c.partition_point-place.result c.partition_point-place.ensures.partitioned
    (parted (defined_name c.args.ids.now) (length c.args.ids.now.classes) order index c.args.name.now) (λ a r f' k. search rules) in
    let got = c.in_ok-number.ensures.lookup in
    none_defined_here c.args.ids.now order index c.args.name.now c.partition_point-place.result point c.in_ok-number.field-0.now
    (slice_get_read order (length order) c.partition_point-place.result c.in_ok-number.field-0.now refl got.3.0 got.1)
    (λ same.
    let both : true ≡ false = ap is_eq (sym (c.compare_to.ensures ∙ same_ties (defined_name c.args.ids.now c.in_ok-number.field-0.now) c.args.name.now same)) ∙ (sym c.is_eq.ensures ∙ c.if-is_eq.false) in
    cc)
