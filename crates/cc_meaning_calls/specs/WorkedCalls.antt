-- Worked examples of calls.
use Rattle.std.specs.Prelude.{◌≡◌, ℕ, true, false, [], ◌∷◌, map, Some, None}
use Rattle.std.specs.List.{range_with_len}
use Rattle.cc_meaning_calls.specs.Kept.{must_stay, stateful_class}
use Rattle.cc_meaning_calls.specs.Calls.{callees, Direct, Reaches, AreReached, AreCandidates}
use Rattle.cc_meaning_calls.specs.WorkedPrograms.{shapes, shapes_script, overriding, free_script, no_script}

-- An abstract method, a built-in one and the initialiser of the own class are called by none.
pub record ShapesHold : Type 0 where
  pub calls : map (callees shapes shapes_script) (range_with_len 0 9) ≡ [] ∷ [] ∷ (3 ∷ 5 ∷ 7 ∷ []) ∷ (0 ∷ 1 ∷ 6 ∷ []) ∷ [] ∷ [] ∷ [] ∷ [] ∷ [] ∷ []
  pub reached : AreReached shapes shapes_script (0 ∷ 1 ∷ 2 ∷ 3 ∷ 5 ∷ 6 ∷ 7 ∷ [])
  pub candidates : AreCandidates shapes shapes_script (3 ∷ 6 ∷ [])
  pub far : Reaches shapes shapes_script 2 6
  pub not_up : Reaches shapes shapes_script 3 5 → ⊥
  pub prints : must_stay shapes shapes_script 7 ≡ true
  pub main : must_stay shapes shapes_script 2 ≡ true
  pub unpinned : must_stay shapes shapes_script 1 ≡ false
  pub pinned : must_stay shapes no_script 1 ≡ true
  pub stateful : stateful_class shapes shapes_script 1 ≡ Some 1
  pub stateless : stateful_class shapes shapes_script 3 ≡ None

-- main starts its own class and its superclasses before, and then LB;, and calls what overrides m too; m calls those that implement LI;, the one of the interface LJ;
-- too; LB;'s m calls the one above it, and its own class was started; LJ;'s run can run before LJ; was started; and on a receiver of an outside class every m
-- may run.
pub record OverridingHolds : Type 0 where
  pub main : callees overriding no_script 2 ≡ 0 ∷ 1 ∷ 4 ∷ 5 ∷ []
  pub implementers : callees overriding no_script 1 ≡ 8 ∷ 9 ∷ []
  pub above : callees overriding no_script 5 ≡ 1 ∷ []
  pub early_start : callees overriding no_script 8 ≡ 7 ∷ []
  pub outside : callees overriding no_script 9 ≡ 1 ∷ 5 ∷ 10 ∷ []
  pub free : callees overriding free_script 9 ≡ 1 ∷ 5 ∷ []
  pub unreached : callees overriding no_script 3 ≡ 1 ∷ 5 ∷ []
  pub calls_nothing : (callee : ℕ) → Direct overriding no_script 3 callee → ⊥
