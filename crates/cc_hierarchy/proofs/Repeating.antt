-- Names that stand twice, seen at neighbours in the order of names.
use Rattle.std.proofs.Common.{◌≡◌, ◌≢◌, ◌⊎◌, inl, inr, ℕ, ◌+◌, ◌-◌, ◌<◌, ◌≤◌, List, length, get_or, Some, slice_get, ap, sym, ◌∙◌, arith}
use Rattle.std.specs.Prelude.{slice_index, Contains}
use Rattle.std.proofs.lemmas.Bool.{cases_lt}
use Rattle.std.proofs.lemmas.List.{get_or_default}
use Rattle.std.proofs.lemmas.Option.{slice_get-get_or, slice_get_within, get_or_from_slice_get}
use Rattle.cc_meaning_program.specs.ClassFaults.{Repeats}
use Rattle.cc_hierarchy.specs.Indexes.{IsIndex}
use Rattle.cc_hierarchy.proofs.Indexing.{index_holds, index_within, same_between}

module _ (name_of : ℕ → List ℕ) (rows order : List ℕ) (index : IsIndex (λ place. name_of (slice_index rows place)) (length rows) order) where
  name_at : ℕ → List ℕ
  name_at place = name_of (slice_index rows place)

  there : (place : ℕ) → place < length rows → slice_get rows place ≡ Some (slice_index rows place)
  there place within = slice_get-get_or rows place 0 within

  pub tie_repeats : (at x y : ℕ) → 1 ≤ at → at < length order → x ≡ get_or order (at - 1) x → y ≡ get_or order at y → name_of (slice_index rows x) ≡ name_of (slice_index rows y) → Repeats name_of rows
  tie_repeats at x y some within x_is y_is same = record {
    earlier = x;
    later = y;
    order = less;
    first = slice_index rows x;
    first_there = there x (index_within (λ place. name_of (slice_index rows place)) (length rows) order index x (at - 1, omega arith, sym x_is));
    second = slice_index rows y;
    second_there = there y (index_within (λ place. name_of (slice_index rows place)) (length rows) order index y (at, within, sym y_is));
    same = same;
  }
    where
      before : at - 1 + 1 ≡ at
      before = omega arith

      first : get_or order (at - 1) 0 ≡ x
      first = get_or_default order (at - 1) 0 x (omega arith) ∙ sym x_is

      second : get_or order (at - 1 + 1) 0 ≡ y
      second = ap (λ k. get_or order k 0) before ∙ get_or_default order at 0 y within ∙ sym y_is

      less : x < y
      less =
          let step : get_or order (at - 1) 0 < get_or order (at - 1 + 1) 0 =
          index.tied (at - 1) 0 (omega arith) (ap (λ p. name_of (slice_index rows p)) first ∙ same ∙ ap (λ p. name_of (slice_index rows p)) (sym second)) in
          omega (arith, step, first, second)

  pub no_tie : ((k : ℕ) → 1 ≤ k → k < length order → name_of (slice_index rows (get_or order (k - 1) 0)) ≢ name_of (slice_index rows (get_or order k 0))) → ¬ Repeats name_of rows
  no_tie apart repeats = from (held repeats.earlier (omega (arith, repeats.order, last))) (held repeats.later last)
    where
      last : repeats.later < length rows
      last = slice_get_within rows repeats.later repeats.second repeats.second_there

      held : (place : ℕ) → place < length rows → Contains order place
      held place within = index_holds (λ p. name_of (slice_index rows p)) (length rows) order index place within

      read : (place : ℕ) (item : ℕ) → slice_get rows place ≡ Some item → slice_index rows place ≡ item
      read place item is = get_or_from_slice_get rows place item 0 is

      names : name_of (slice_index rows repeats.earlier) ≡ name_of (slice_index rows repeats.later)
      names = ap name_of (read repeats.earlier repeats.first repeats.first_there) ∙ repeats.same ∙ ap name_of (sym (read repeats.later repeats.second repeats.second_there))

      clash : (p q : ℕ) → p < q → q < length order → name_of (slice_index rows (get_or order p 0)) ≡ name_of (slice_index rows (get_or order q 0)) → ⊥
      clash p q less within same =
          let next = same_between (λ place. name_of (slice_index rows place)) (length rows) order index p (p + 1) q 0 (omega arith) (omega arith) within same in
          let back : p + 1 - 1 ≡ p = omega arith in
          apart (p + 1) (omega arith) (omega arith) (ap (λ k. name_of (slice_index rows (get_or order k 0))) back ∙ next)

      from : Contains order repeats.earlier → Contains order repeats.later → ⊥
      from (p, p_within, p_is) (q, q_within, q_is) = cases (cases_lt p q)
        where
          first : get_or order p 0 ≡ repeats.earlier
          first = get_or_default order p 0 repeats.earlier p_within ∙ p_is

          second : get_or order q 0 ≡ repeats.later
          second = get_or_default order q 0 repeats.later q_within ∙ q_is

          same : name_of (slice_index rows (get_or order p 0)) ≡ name_of (slice_index rows (get_or order q 0))
          same = ap (λ k. name_of (slice_index rows k)) first ∙ names ∙ ap (λ k. name_of (slice_index rows k)) (sym second)

          later : (q < p) ⊎ (p ≤ q) → q ≤ p → ⊥
          later (inl less) high = clash q p less p_within (sym same)
          later (inr low) high =
              let e : p ≡ q = omega arith in
              let one : repeats.earlier ≡ repeats.later = sym first ∙ ap (λ k. get_or order k 0) e ∙ second in
              omega (arith, repeats.order)

          cases : (p < q) ⊎ (q ≤ p) → ⊥
          cases (inl less) = clash p q less q_within same
          cases (inr high) = later (cases_lt q p) high
