-- The worked examples of costs hold.
use Rattle.std.proofs.Common.{refl, ◌≡◌, zero, suc, arith, List, [], ◌∷◌, true, false, pos, negsuc}
use Rattle.cc_meaning_calls.specs.Profiles.{marks_behind, marks, children, residual, residuals_from, residuals, migration, is_moved, moves, at_place, costs_at, migrations, cost_of, cost}
use Rattle.cc_meaning_calls.specs.Bounds.{choice_of, moves_for_sure, may_move_in, is_chosen, is_open, all_open, runs_on_clone, runs_on_device, least_at, least_costs, bound_of, bound}
use Rattle.std.specs.Prelude.{All}
use Rattle.cc_meaning.specs.declared.profile.Choice.TheVariants as choice
use Rattle.cc_meaning_calls.specs.Calls.{direct}
use Rattle.cc_meaning_calls.specs.Places.{nested}
use Rattle.cc_meaning_calls.specs.Bounds.{BreaksSomeRule}
use Rattle.cc_meaning_calls.specs.Certificates.{Leaf, leaf, choosing as choosing_one, split, bounded, broken, IsTrueLeaf}
use Rattle.cc_meaning_calls.specs.WorkedPrograms.{shapes, shapes_script}
use Rattle.cc_meaning_calls.specs.WorkedCosts.{CostsHold, BoundsAre, ShapesAreProved, measured, choosing}
use Rattle.cc_meaning_calls.proofs.WorkedCalls.{work_direct}

pub costs_hold : CostsHold
unfolding marks_behind marks children residual residuals_from residuals migration is_moved moves at_place costs_at migrations cost_of cost choice_of moves_for_sure may_move_in is_chosen is_open all_open runs_on_clone runs_on_device least_at least_costs bound_of bound
costs_hold = record { nothing = refl; caller = refl; helper = refl; work = refl; area = refl }

pub bounds_are : BoundsAre
unfolding marks_behind marks children residual residuals_from residuals migration is_moved moves at_place costs_at migrations cost_of cost choice_of moves_for_sure may_move_in is_chosen is_open all_open runs_on_clone runs_on_device least_at least_costs bound_of bound
bounds_are = record { undecided = refl; one_stays = refl; area = refl; work = refl }

area_costs : bound (3 ∷ 6 ∷ []) measured (choosing (choice.Stay ∷ choice.Move ∷ [])) ≡ 3210
unfolding marks_behind marks children residual residuals_from residuals migration is_moved moves at_place costs_at migrations cost_of cost choice_of moves_for_sure may_move_in is_chosen is_open all_open runs_on_clone runs_on_device least_at least_costs bound_of bound
area_costs = refl

work_costs : bound (3 ∷ 6 ∷ []) measured (choosing (choice.Move ∷ choice.Stay ∷ [])) ≡ 2268
unfolding marks_behind marks children residual residuals_from residuals migration is_moved moves at_place costs_at migrations cost_of cost choice_of moves_for_sure may_move_in is_chosen is_open all_open runs_on_clone runs_on_device least_at least_costs bound_of bound
work_costs = refl

none_costs : bound (3 ∷ 6 ∷ []) measured (choosing (choice.Stay ∷ choice.Stay ∷ [])) ≡ 3100
unfolding marks_behind marks children residual residuals_from residuals migration is_moved moves at_place costs_at migrations cost_of cost choice_of moves_for_sure may_move_in is_chosen is_open all_open runs_on_clone runs_on_device least_at least_costs bound_of bound
none_costs = refl

both_break : BreaksSomeRule shapes shapes_script (3 ∷ 6 ∷ []) (choosing (choice.Move ∷ choice.Move ∷ []))
unfolding marks_behind marks children residual residuals_from residuals migration is_moved moves at_place costs_at migrations cost_of cost choice_of moves_for_sure may_move_in is_chosen is_open all_open runs_on_clone runs_on_device least_at least_costs bound_of bound
both_break = (4, 3, 6, nested refl refl (direct work_direct))

abbrev leaves : List Leaf
leaves =
    leaf false (choosing (choice.Stay ∷ choice.Stay ∷ []))
    ∷ leaf false (choosing (choice.Stay ∷ choice.Move ∷ []))
    ∷ leaf false (choosing (choice.Move ∷ choice.Stay ∷ []))
    ∷ leaf true (choosing (choice.Move ∷ choice.Move ∷ []))
    ∷ []

true_leaves : All (IsTrueLeaf shapes shapes_script (3 ∷ 6 ∷ []) measured 2268) leaves
unfolding leaf
true_leaves zero d l = omega (arith, none_costs)
true_leaves (suc zero) d l = omega (arith, area_costs)
true_leaves (suc (suc zero)) d l = omega (arith, work_costs)
true_leaves (suc (suc (suc zero))) d l = both_break
true_leaves (suc (suc (suc (suc k)))) d l = absurd (omega (arith, l))

pub shapes_are_proved : ShapesAreProved
unfolding leaf all_open choosing_one
shapes_are_proved = (
  leaves,
  split {candidate = 0} {staying = pos 1 ∷ negsuc 1 ∷ negsuc 1 ∷ []} {moving = pos 1 ∷ negsuc 1 ∷ negsuc 0 ∷ []}
      {left = leaf false (choosing (choice.Stay ∷ choice.Stay ∷ [])) ∷ leaf false (choosing (choice.Stay ∷ choice.Move ∷ [])) ∷ []}
      {right = leaf false (choosing (choice.Move ∷ choice.Stay ∷ [])) ∷ leaf true (choosing (choice.Move ∷ choice.Move ∷ [])) ∷ []} refl
      (split {candidate = 1} {staying = negsuc 1 ∷ []} {moving = negsuc 1 ∷ []} {left = leaf false (choosing (choice.Stay ∷ choice.Stay ∷ [])) ∷ []} {right = leaf false (choosing (choice.Stay ∷ choice.Move ∷ [])) ∷ []} refl bounded bounded)
      (split {candidate = 1} {staying = negsuc 1 ∷ []} {moving = negsuc 0 ∷ []} {left = leaf false (choosing (choice.Move ∷ choice.Stay ∷ [])) ∷ []} {right = leaf true (choosing (choice.Move ∷ choice.Move ∷ [])) ∷ []} refl bounded broken),
  true_leaves,
)
