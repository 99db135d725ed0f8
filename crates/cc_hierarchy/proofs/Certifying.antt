-- Levels that certify that nodes are on no cycle.
use Rattle.std.proofs.Common.{◌≡◌, ◌⊎◌, inl, inr, ℕ, ◌+◌, ◌<◌, ◌≤◌, Bool, List, length, get_or, subst, sym, arith}
use Rattle.std.specs.Prelude.{slice_index, Contains}
use Rattle.std.proofs.lemmas.Bool.{cases_lt}
use Rattle.std.proofs.lemmas.List.{get_or_default}
use Rattle.std.proofs.lemmas.Option.{slice_get_within}
use Rattle.cc_hierarchy.specs.Graphs.{HasEdge, IsMarked, Reaches, edge, onward, EdgeDescends, Descends}
use Rattle.cc_hierarchy.proofs.Searching.{edge_listed}

module _ (graph : List (List ℕ)) (levels : List ℕ) (suspects : List Bool) (down : Descends graph levels suspects) where
  no_rise : (from to : ℕ) → HasEdge graph from to → slice_index levels to ≤ slice_index levels from
  no_rise from to e = elim (down from to e) [ inl less ↦ omega arith | inr same ↦ omega (arith, same.0) ]

  pub never_rises : (from to : ℕ) → Reaches graph from to → slice_index levels to ≤ slice_index levels from
  never_rises from to (edge e) = no_rise from to e
  never_rises from to (onward {next = next} e way) = omega (arith, no_rise from next e, never_rises next to way)

  falls : (from to : ℕ) → ¬ IsMarked suspects from → HasEdge graph from to → slice_index levels to < slice_index levels from
  falls from to plain e = elim (down from to e) [ inl less ↦ less | inr same ↦ absurd (plain same.1) ]

  below_itself : (from to : ℕ) → ¬ IsMarked suspects from → Reaches graph from to → slice_index levels to < slice_index levels from
  below_itself from to plain (edge e) = falls from to plain e
  below_itself from to plain (onward {next = next} e way) = omega (arith, falls from next plain e, never_rises next to way)

  pub on_no_cycle : (node : ℕ) → ¬ IsMarked suspects node → ¬ Reaches graph node node
  on_no_cycle node plain way = let less = below_itself node node plain way in omega arith

pub descends_to : (levels : List ℕ) (suspects : List Bool) (from to : ℕ) (targets : List ℕ) → ((k : ℕ) → k < length targets → EdgeDescends levels suspects from (get_or targets k 0)) → Contains targets to →
    EdgeDescends levels suspects from to
descends_to levels suspects from to targets all (k, below, is) =
    subst (λ t. EdgeDescends levels suspects from t) is (subst (λ t. EdgeDescends levels suspects from t) (get_or_default targets k 0 to below) (all k below))

pub descends_more : (graph : List (List ℕ)) (levels : List ℕ) (suspects : List Bool) (n : ℕ) (targets : List ℕ) → n < length graph → targets ≡ get_or graph n targets →
    ((from to : ℕ) → from < n → HasEdge graph from to → EdgeDescends levels suspects from to) → ((to : ℕ) → Contains targets to → EdgeDescends levels suspects n to) →
    (from to : ℕ) → from < n + 1 → HasEdge graph from to → EdgeDescends levels suspects from to
descends_more graph levels suspects n targets within is before here from to below e = cases (cases_lt from n)
  where
    cases : (from < n) ⊎ (n ≤ from) → EdgeDescends levels suspects from to
    cases (inl less) = before from to less e
    cases (inr last) =
        let same : n ≡ from = omega arith in
        subst (λ f. EdgeDescends levels suspects f to) same (here to (edge_listed graph n to targets within is (subst (λ f. HasEdge graph f to) (sym same) e)))

pub edge_from_within : (graph : List (List ℕ)) (from to : ℕ) → HasEdge graph from to → from < length graph
edge_from_within graph from to e = slice_get_within graph from e.targets e.there

pub way_from_within : (graph : List (List ℕ)) (from to : ℕ) → Reaches graph from to → from < length graph
way_from_within graph from to (edge e) = edge_from_within graph from to e
way_from_within graph from to (onward {next = next} e way) = edge_from_within graph from next e
