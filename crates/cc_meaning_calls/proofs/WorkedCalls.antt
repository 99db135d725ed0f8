-- The worked examples of calls hold.
use Rattle.std.proofs.Common.{refl, inl, inr, subst, sym, ℕ, ◌≡◌, arith, List, [], ◌∷◌, Bool, true, false}
use Rattle.cc_meaning.specs.BuiltIn.{object_name, print_stream_name}
use Rattle.cc_meaning_typing.specs.Hierarchy.{on_value, superclass_in, superclass_of, object_class}
use Rattle.cc_meaning_typing.specs.Types.{is_loose_kind, is_loose_in, is_loose, held_base, held, first_held, class_above, fewer, above_objects, next_in, next_above, is_same_base, is_same_type, rises_to, reach}
use Rattle.cc_meaning_typing.specs.Code.{brackets, behind_brackets, base_of, type_of_kind, type_of_found, type_of_class}
use Rattle.cc_meaning_typing.specs.WellTyped.{is_of_file, is_file_interface}
use Rattle.cc_meaning_world.specs.Scripts.{class_in, script_of, class_of_found, class_asked, given_for, free_in, free_answer, unpinned_in, is_scripted_kind, is_scripted_in, is_scripted, has_answer, is_free, is_stateful, is_pinned, has_name_of_stream, is_of_stream}
use Rattle.cc_meaning_world.specs.Casts.{interfaces_in, interfaces_of, extends, lists, implements}
use Rattle.cc_meaning_calls.specs.Kept.{holds_in, holds_of, is_print, must_stay, declaring_in, class_of, if_stateful, stateful_class}
use Rattle.cc_meaning_calls.specs.Selection.{same_types, same_result, stands_for, declared_from, declared, first_of_two, next_class, found_within, if_outside, selected, has_interface, is_held_below, is_class_below, receives_by, receives_in, receives, is_it, class_numbers, selects}
use Rattle.cc_meaning_calls.specs.Starts.{class_in_base, class_in_type, class_in_field, started_by, inherits_within, inherits, initialiser_in, initialiser_of, initialises, can_start}
use Rattle.cc_meaning_calls.specs.Calls.{insns_of_kind, some_insn, is_abstract_kind, is_built_in_kind, is_counted, invokes, calls_by_invoke, calls_by_start, calls_by_early_start, is_started_before, calls_in, can_call, callees, has_code, is_initialiser, is_constructor, is_movable}
use Rattle.std.specs.Prelude.{not, ◌||◌}
use Rattle.std.specs.List.{list_all}
use Rattle.cc_meaning_calls.specs.Calls.{IsReached, one, more, Direct, direct, further, IsCandidate}
use Rattle.cc_meaning_calls.specs.WorkedPrograms.{shapes, shapes_script, overriding, no_script}
use Rattle.cc_meaning_calls.specs.WorkedCalls.{ShapesHold, OverridingHolds}
use Rattle.cc_meaning_calls.proofs.Closed.{is_in, closed, passes, leads_in, reached_in}
use Rattle.cc_meaning_calls.proofs.Lists.{is_list_of}

never : (m : ℕ) → is_in m (0 ∷ 1 ∷ 2 ∷ 4 ∷ 5 ∷ 7 ∷ 8 ∷ 9 ∷ 10 ∷ []) ≡ true → m ≡ 3 → ⊥
never m h e = let f : is_in 3 (0 ∷ 1 ∷ 2 ∷ 4 ∷ 5 ∷ 7 ∷ 8 ∷ 9 ∷ 10 ∷ []) ≡ true = subst (λ (n : ℕ). is_in n (0 ∷ 1 ∷ 2 ∷ 4 ∷ 5 ∷ 7 ∷ 8 ∷ 9 ∷ 10 ∷ []) ≡ true) e h in cc

all_reached : closed overriding no_script (0 ∷ 1 ∷ 2 ∷ 4 ∷ 5 ∷ 7 ∷ 8 ∷ 9 ∷ 10 ∷ []) ≡ true
unfolding object_name print_stream_name on_value superclass_in superclass_of object_class is_loose_kind is_loose_in is_loose held_base held first_held class_above fewer above_objects next_in next_above is_same_base is_same_type rises_to reach brackets behind_brackets base_of type_of_kind type_of_found type_of_class is_of_file is_file_interface class_in script_of class_of_found class_asked given_for free_in free_answer unpinned_in is_scripted_kind is_scripted_in is_scripted has_answer is_free is_stateful is_pinned has_name_of_stream is_of_stream interfaces_in interfaces_of extends lists implements holds_in holds_of is_print must_stay declaring_in class_of if_stateful stateful_class same_types same_result stands_for declared_from declared first_of_two next_class found_within if_outside selected has_interface is_held_below is_class_below receives_by receives_in receives is_it class_numbers selects class_in_base class_in_type class_in_field started_by inherits_within inherits initialiser_in initialiser_of initialises can_start insns_of_kind some_insn is_abstract_kind is_built_in_kind is_counted invokes calls_by_invoke calls_by_start calls_by_early_start is_started_before calls_in can_call callees has_code is_initialiser is_constructor is_movable
all_reached = refl

unused : IsReached overriding no_script 3 → ⊥
unused (inl e) = omega (arith, e)
unused (inr leads) = never 3 (leads_in overriding no_script (0 ∷ 1 ∷ 2 ∷ 4 ∷ 5 ∷ 7 ∷ 8 ∷ 9 ∷ 10 ∷ []) all_reached refl leads) refl

pub overriding_holds : OverridingHolds
unfolding object_name print_stream_name on_value superclass_in superclass_of object_class is_loose_kind is_loose_in is_loose held_base held first_held class_above fewer above_objects next_in next_above is_same_base is_same_type rises_to reach brackets behind_brackets base_of type_of_kind type_of_found type_of_class is_of_file is_file_interface class_in script_of class_of_found class_asked given_for free_in free_answer unpinned_in is_scripted_kind is_scripted_in is_scripted has_answer is_free is_stateful is_pinned has_name_of_stream is_of_stream interfaces_in interfaces_of extends lists implements holds_in holds_of is_print must_stay declaring_in class_of if_stateful stateful_class same_types same_result stands_for declared_from declared first_of_two next_class found_within if_outside selected has_interface is_held_below is_class_below receives_by receives_in receives is_it class_numbers selects class_in_base class_in_type class_in_field started_by inherits_within inherits initialiser_in initialiser_of initialises can_start insns_of_kind some_insn is_abstract_kind is_built_in_kind is_counted invokes calls_by_invoke calls_by_start calls_by_early_start is_started_before calls_in can_call callees has_code is_initialiser is_constructor is_movable
overriding_holds = record { main = refl; implementers = refl; above = refl; early_start = refl; outside = refl; free = refl; unreached = refl; calls_nothing = λ callee d. unused d.0 }

abbrev found : List ℕ
found = 0 ∷ 1 ∷ 2 ∷ 3 ∷ 5 ∷ 6 ∷ 7 ∷ []

shapes_closed : closed shapes shapes_script found ≡ true
unfolding object_name print_stream_name on_value superclass_in superclass_of object_class is_loose_kind is_loose_in is_loose held_base held first_held class_above fewer above_objects next_in next_above is_same_base is_same_type rises_to reach brackets behind_brackets base_of type_of_kind type_of_found type_of_class is_of_file is_file_interface class_in script_of class_of_found class_asked given_for free_in free_answer unpinned_in is_scripted_kind is_scripted_in is_scripted has_answer is_free is_stateful is_pinned has_name_of_stream is_of_stream interfaces_in interfaces_of extends lists implements holds_in holds_of is_print must_stay declaring_in class_of if_stateful stateful_class same_types same_result stands_for declared_from declared first_of_two next_class found_within if_outside selected has_interface is_held_below is_class_below receives_by receives_in receives is_it class_numbers selects class_in_base class_in_type class_in_field started_by inherits_within inherits initialiser_in initialiser_of initialises can_start insns_of_kind some_insn is_abstract_kind is_built_in_kind is_counted invokes calls_by_invoke calls_by_start calls_by_early_start is_started_before calls_in can_call callees has_code is_initialiser is_constructor is_movable
shapes_closed = refl

below_work : closed shapes shapes_script (0 ∷ 1 ∷ 6 ∷ []) ≡ true
unfolding object_name print_stream_name on_value superclass_in superclass_of object_class is_loose_kind is_loose_in is_loose held_base held first_held class_above fewer above_objects next_in next_above is_same_base is_same_type rises_to reach brackets behind_brackets base_of type_of_kind type_of_found type_of_class is_of_file is_file_interface class_in script_of class_of_found class_asked given_for free_in free_answer unpinned_in is_scripted_kind is_scripted_in is_scripted has_answer is_free is_stateful is_pinned has_name_of_stream is_of_stream interfaces_in interfaces_of extends lists implements holds_in holds_of is_print must_stay declaring_in class_of if_stateful stateful_class same_types same_result stands_for declared_from declared first_of_two next_class found_within if_outside selected has_interface is_held_below is_class_below receives_by receives_in receives is_it class_numbers selects class_in_base class_in_type class_in_field started_by inherits_within inherits initialiser_in initialiser_of initialises can_start insns_of_kind some_insn is_abstract_kind is_built_in_kind is_counted invokes calls_by_invoke calls_by_start calls_by_early_start is_started_before calls_in can_call callees has_code is_initialiser is_constructor is_movable
below_work = refl

starts_work : list_all (λ c. is_in c (0 ∷ 1 ∷ 6 ∷ [])) (callees shapes shapes_script 3) ≡ true
unfolding object_name print_stream_name on_value superclass_in superclass_of object_class is_loose_kind is_loose_in is_loose held_base held first_held class_above fewer above_objects next_in next_above is_same_base is_same_type rises_to reach brackets behind_brackets base_of type_of_kind type_of_found type_of_class is_of_file is_file_interface class_in script_of class_of_found class_asked given_for free_in free_answer unpinned_in is_scripted_kind is_scripted_in is_scripted has_answer is_free is_stateful is_pinned has_name_of_stream is_of_stream interfaces_in interfaces_of extends lists implements holds_in holds_of is_print must_stay declaring_in class_of if_stateful stateful_class same_types same_result stands_for declared_from declared first_of_two next_class found_within if_outside selected has_interface is_held_below is_class_below receives_by receives_in receives is_it class_numbers selects class_in_base class_in_type class_in_field started_by inherits_within inherits initialiser_in initialiser_of initialises can_start insns_of_kind some_insn is_abstract_kind is_built_in_kind is_counted invokes calls_by_invoke calls_by_start calls_by_early_start is_started_before calls_in can_call callees has_code is_initialiser is_constructor is_movable
starts_work = refl

main_work : can_call shapes shapes_script 2 3 ≡ true
unfolding object_name print_stream_name on_value superclass_in superclass_of object_class is_loose_kind is_loose_in is_loose held_base held first_held class_above fewer above_objects next_in next_above is_same_base is_same_type rises_to reach brackets behind_brackets base_of type_of_kind type_of_found type_of_class is_of_file is_file_interface class_in script_of class_of_found class_asked given_for free_in free_answer unpinned_in is_scripted_kind is_scripted_in is_scripted has_answer is_free is_stateful is_pinned has_name_of_stream is_of_stream interfaces_in interfaces_of extends lists implements holds_in holds_of is_print must_stay declaring_in class_of if_stateful stateful_class same_types same_result stands_for declared_from declared first_of_two next_class found_within if_outside selected has_interface is_held_below is_class_below receives_by receives_in receives is_it class_numbers selects class_in_base class_in_type class_in_field started_by inherits_within inherits initialiser_in initialiser_of initialises can_start insns_of_kind some_insn is_abstract_kind is_built_in_kind is_counted invokes calls_by_invoke calls_by_start calls_by_early_start is_started_before calls_in can_call callees has_code is_initialiser is_constructor is_movable
main_work = refl

main_init : can_call shapes shapes_script 2 5 ≡ true
unfolding object_name print_stream_name on_value superclass_in superclass_of object_class is_loose_kind is_loose_in is_loose held_base held first_held class_above fewer above_objects next_in next_above is_same_base is_same_type rises_to reach brackets behind_brackets base_of type_of_kind type_of_found type_of_class is_of_file is_file_interface class_in script_of class_of_found class_asked given_for free_in free_answer unpinned_in is_scripted_kind is_scripted_in is_scripted has_answer is_free is_stateful is_pinned has_name_of_stream is_of_stream interfaces_in interfaces_of extends lists implements holds_in holds_of is_print must_stay declaring_in class_of if_stateful stateful_class same_types same_result stands_for declared_from declared first_of_two next_class found_within if_outside selected has_interface is_held_below is_class_below receives_by receives_in receives is_it class_numbers selects class_in_base class_in_type class_in_field started_by inherits_within inherits initialiser_in initialiser_of initialises can_start insns_of_kind some_insn is_abstract_kind is_built_in_kind is_counted invokes calls_by_invoke calls_by_start calls_by_early_start is_started_before calls_in can_call callees has_code is_initialiser is_constructor is_movable
main_init = refl

main_prints : can_call shapes shapes_script 2 7 ≡ true
unfolding object_name print_stream_name on_value superclass_in superclass_of object_class is_loose_kind is_loose_in is_loose held_base held first_held class_above fewer above_objects next_in next_above is_same_base is_same_type rises_to reach brackets behind_brackets base_of type_of_kind type_of_found type_of_class is_of_file is_file_interface class_in script_of class_of_found class_asked given_for free_in free_answer unpinned_in is_scripted_kind is_scripted_in is_scripted has_answer is_free is_stateful is_pinned has_name_of_stream is_of_stream interfaces_in interfaces_of extends lists implements holds_in holds_of is_print must_stay declaring_in class_of if_stateful stateful_class same_types same_result stands_for declared_from declared first_of_two next_class found_within if_outside selected has_interface is_held_below is_class_below receives_by receives_in receives is_it class_numbers selects class_in_base class_in_type class_in_field started_by inherits_within inherits initialiser_in initialiser_of initialises can_start insns_of_kind some_insn is_abstract_kind is_built_in_kind is_counted invokes calls_by_invoke calls_by_start calls_by_early_start is_started_before calls_in can_call callees has_code is_initialiser is_constructor is_movable
main_prints = refl

work_starts : can_call shapes shapes_script 3 0 ≡ true
unfolding object_name print_stream_name on_value superclass_in superclass_of object_class is_loose_kind is_loose_in is_loose held_base held first_held class_above fewer above_objects next_in next_above is_same_base is_same_type rises_to reach brackets behind_brackets base_of type_of_kind type_of_found type_of_class is_of_file is_file_interface class_in script_of class_of_found class_asked given_for free_in free_answer unpinned_in is_scripted_kind is_scripted_in is_scripted has_answer is_free is_stateful is_pinned has_name_of_stream is_of_stream interfaces_in interfaces_of extends lists implements holds_in holds_of is_print must_stay declaring_in class_of if_stateful stateful_class same_types same_result stands_for declared_from declared first_of_two next_class found_within if_outside selected has_interface is_held_below is_class_below receives_by receives_in receives is_it class_numbers selects class_in_base class_in_type class_in_field started_by inherits_within inherits initialiser_in initialiser_of initialises can_start insns_of_kind some_insn is_abstract_kind is_built_in_kind is_counted invokes calls_by_invoke calls_by_start calls_by_early_start is_started_before calls_in can_call callees has_code is_initialiser is_constructor is_movable
work_starts = refl

work_scans : can_call shapes shapes_script 3 1 ≡ true
unfolding object_name print_stream_name on_value superclass_in superclass_of object_class is_loose_kind is_loose_in is_loose held_base held first_held class_above fewer above_objects next_in next_above is_same_base is_same_type rises_to reach brackets behind_brackets base_of type_of_kind type_of_found type_of_class is_of_file is_file_interface class_in script_of class_of_found class_asked given_for free_in free_answer unpinned_in is_scripted_kind is_scripted_in is_scripted has_answer is_free is_stateful is_pinned has_name_of_stream is_of_stream interfaces_in interfaces_of extends lists implements holds_in holds_of is_print must_stay declaring_in class_of if_stateful stateful_class same_types same_result stands_for declared_from declared first_of_two next_class found_within if_outside selected has_interface is_held_below is_class_below receives_by receives_in receives is_it class_numbers selects class_in_base class_in_type class_in_field started_by inherits_within inherits initialiser_in initialiser_of initialises can_start insns_of_kind some_insn is_abstract_kind is_built_in_kind is_counted invokes calls_by_invoke calls_by_start calls_by_early_start is_started_before calls_in can_call callees has_code is_initialiser is_constructor is_movable
work_scans = refl

pub work_asks : can_call shapes shapes_script 3 6 ≡ true
unfolding object_name print_stream_name on_value superclass_in superclass_of object_class is_loose_kind is_loose_in is_loose held_base held first_held class_above fewer above_objects next_in next_above is_same_base is_same_type rises_to reach brackets behind_brackets base_of type_of_kind type_of_found type_of_class is_of_file is_file_interface class_in script_of class_of_found class_asked given_for free_in free_answer unpinned_in is_scripted_kind is_scripted_in is_scripted has_answer is_free is_stateful is_pinned has_name_of_stream is_of_stream interfaces_in interfaces_of extends lists implements holds_in holds_of is_print must_stay declaring_in class_of if_stateful stateful_class same_types same_result stands_for declared_from declared first_of_two next_class found_within if_outside selected has_interface is_held_below is_class_below receives_by receives_in receives is_it class_numbers selects class_in_base class_in_type class_in_field started_by inherits_within inherits initialiser_in initialiser_of initialises can_start insns_of_kind some_insn is_abstract_kind is_built_in_kind is_counted invokes calls_by_invoke calls_by_start calls_by_early_start is_started_before calls_in can_call callees has_code is_initialiser is_constructor is_movable
work_asks = refl

reached_work : IsReached shapes shapes_script 3
reached_work = inr (one main_work)

reached_area : IsReached shapes shapes_script 6
reached_area = inr (more {between = 3} main_work (one work_asks))

pub work_direct : Direct shapes shapes_script 3 6
work_direct = (reached_work, work_asks)

is_found : (m : ℕ) → IsReached shapes shapes_script m → is_in m found ≡ true
is_found m (inl e) = subst (λ (n : ℕ). is_in n found ≡ true) (sym e) refl
is_found m (inr leads) = leads_in shapes shapes_script found shapes_closed refl leads

movable_found : list_all (λ m. not (is_movable shapes m) || is_in m (3 ∷ 6 ∷ [])) found ≡ true
unfolding object_name print_stream_name on_value superclass_in superclass_of object_class is_loose_kind is_loose_in is_loose held_base held first_held class_above fewer above_objects next_in next_above is_same_base is_same_type rises_to reach brackets behind_brackets base_of type_of_kind type_of_found type_of_class is_of_file is_file_interface class_in script_of class_of_found class_asked given_for free_in free_answer unpinned_in is_scripted_kind is_scripted_in is_scripted has_answer is_free is_stateful is_pinned has_name_of_stream is_of_stream interfaces_in interfaces_of extends lists implements holds_in holds_of is_print must_stay declaring_in class_of if_stateful stateful_class same_types same_result stands_for declared_from declared first_of_two next_class found_within if_outside selected has_interface is_held_below is_class_below receives_by receives_in receives is_it class_numbers selects class_in_base class_in_type class_in_field started_by inherits_within inherits initialiser_in initialiser_of initialises can_start insns_of_kind some_insn is_abstract_kind is_built_in_kind is_counted invokes calls_by_invoke calls_by_start calls_by_early_start is_started_before calls_in can_call callees has_code is_initialiser is_constructor is_movable
movable_found = refl

if_movable : (a b : Bool) → (not a || b) ≡ true → a ≡ true → b ≡ true
if_movable true b h e = h
if_movable false b h e = cc

movable : (m : ℕ) → is_in m found ≡ true → is_movable shapes m ≡ true → is_in m (3 ∷ 6 ∷ []) ≡ true
movable m h e = if_movable (is_movable shapes m) (is_in m (3 ∷ 6 ∷ [])) (passes (λ n. not (is_movable shapes n) || is_in n (3 ∷ 6 ∷ [])) found m movable_found h) e

work_movable : is_movable shapes 3 ≡ true
unfolding object_name print_stream_name on_value superclass_in superclass_of object_class is_loose_kind is_loose_in is_loose held_base held first_held class_above fewer above_objects next_in next_above is_same_base is_same_type rises_to reach brackets behind_brackets base_of type_of_kind type_of_found type_of_class is_of_file is_file_interface class_in script_of class_of_found class_asked given_for free_in free_answer unpinned_in is_scripted_kind is_scripted_in is_scripted has_answer is_free is_stateful is_pinned has_name_of_stream is_of_stream interfaces_in interfaces_of extends lists implements holds_in holds_of is_print must_stay declaring_in class_of if_stateful stateful_class same_types same_result stands_for declared_from declared first_of_two next_class found_within if_outside selected has_interface is_held_below is_class_below receives_by receives_in receives is_it class_numbers selects class_in_base class_in_type class_in_field started_by inherits_within inherits initialiser_in initialiser_of initialises can_start insns_of_kind some_insn is_abstract_kind is_built_in_kind is_counted invokes calls_by_invoke calls_by_start calls_by_early_start is_started_before calls_in can_call callees has_code is_initialiser is_constructor is_movable
work_movable = refl

area_movable : is_movable shapes 6 ≡ true
unfolding object_name print_stream_name on_value superclass_in superclass_of object_class is_loose_kind is_loose_in is_loose held_base held first_held class_above fewer above_objects next_in next_above is_same_base is_same_type rises_to reach brackets behind_brackets base_of type_of_kind type_of_found type_of_class is_of_file is_file_interface class_in script_of class_of_found class_asked given_for free_in free_answer unpinned_in is_scripted_kind is_scripted_in is_scripted has_answer is_free is_stateful is_pinned has_name_of_stream is_of_stream interfaces_in interfaces_of extends lists implements holds_in holds_of is_print must_stay declaring_in class_of if_stateful stateful_class same_types same_result stands_for declared_from declared first_of_two next_class found_within if_outside selected has_interface is_held_below is_class_below receives_by receives_in receives is_it class_numbers selects class_in_base class_in_type class_in_field started_by inherits_within inherits initialiser_in initialiser_of initialises can_start insns_of_kind some_insn is_abstract_kind is_built_in_kind is_counted invokes calls_by_invoke calls_by_start calls_by_early_start is_started_before calls_in can_call callees has_code is_initialiser is_constructor is_movable
area_movable = refl

pub shapes_hold : ShapesHold
unfolding object_name print_stream_name on_value superclass_in superclass_of object_class is_loose_kind is_loose_in is_loose held_base held first_held class_above fewer above_objects next_in next_above is_same_base is_same_type rises_to reach brackets behind_brackets base_of type_of_kind type_of_found type_of_class is_of_file is_file_interface class_in script_of class_of_found class_asked given_for free_in free_answer unpinned_in is_scripted_kind is_scripted_in is_scripted has_answer is_free is_stateful is_pinned has_name_of_stream is_of_stream interfaces_in interfaces_of extends lists implements holds_in holds_of is_print must_stay declaring_in class_of if_stateful stateful_class same_types same_result stands_for declared_from declared first_of_two next_class found_within if_outside selected has_interface is_held_below is_class_below receives_by receives_in receives is_it class_numbers selects class_in_base class_in_type class_in_field started_by inherits_within inherits initialiser_in initialiser_of initialises can_start insns_of_kind some_insn is_abstract_kind is_built_in_kind is_counted invokes calls_by_invoke calls_by_start calls_by_early_start is_started_before calls_in can_call callees has_code is_initialiser is_constructor is_movable
shapes_hold = record {
  calls = refl;
  reached = is_list_of (IsReached shapes shapes_script) found refl
      (inr (more {between = 3} main_work (one work_starts)), (inr (more {between = 3} main_work (one work_scans)), (inl refl, (reached_work, (inr (one main_init), (reached_area, (inr (one main_prints), tt)))))))
      is_found;
  candidates = is_list_of (IsCandidate shapes shapes_script) (3 ∷ 6 ∷ []) refl ((reached_work, work_movable), ((reached_area, area_movable), tt)) (λ m c. movable m (is_found m c.0) c.1);
  far = further (inl refl, main_work) (direct work_direct);
  not_up = λ r. let f = reached_in shapes shapes_script (0 ∷ 1 ∷ 6 ∷ []) below_work 3 5 starts_work r in cc;
  prints = refl;
  main = refl;
  unpinned = refl;
  pinned = refl;
  stateful = refl;
  stateless = refl;
}
