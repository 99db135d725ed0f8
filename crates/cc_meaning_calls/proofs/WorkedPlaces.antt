-- The worked examples of places and rules hold.
use Rattle.std.proofs.Common.{refl, inl, inr, subst, sym, ◌⊎◌, ℕ, ◌≡◌, ◌<◌, ◌≤◌, zero, suc, arith, List, [], ◌∷◌, true, false, Some, None}
use Rattle.cc_meaning.specs.BuiltIn.{object_name, print_stream_name}
use Rattle.cc_meaning_typing.specs.Hierarchy.{on_value, superclass_in, superclass_of, object_class}
use Rattle.cc_meaning_typing.specs.Types.{is_loose_kind, is_loose_in, is_loose, held_base, held, first_held, class_above, fewer, above_objects, next_in, next_above, is_same_base, is_same_type, rises_to, reach}
use Rattle.cc_meaning_typing.specs.Code.{brackets, behind_brackets, base_of, type_of_kind, type_of_found, type_of_class}
use Rattle.cc_meaning_typing.specs.WellTyped.{is_of_file, is_file_interface}
use Rattle.cc_meaning_world.specs.Scripts.{class_in, script_of, class_of_found, class_asked, given_for, free_in, free_answer, unpinned_in, is_scripted_kind, is_scripted_in, is_scripted, has_answer, is_free, is_stateful, is_pinned, has_name_of_stream, is_of_stream}
use Rattle.cc_meaning_world.specs.Casts.{interfaces_in, interfaces_of, extends, lists, implements}
use Rattle.cc_meaning_calls.specs.Kept.{holds_in, holds_of, is_print, must_stay, declaring_in, class_of, if_stateful, stateful_class}
use Rattle.cc_meaning_calls.specs.Selection.{same_types, same_result, stands_for, declared_from, declared, first_of_two, next_class, found_within, if_outside, selected, has_interface, is_held_below, is_class_below, receives_by, receives_in, receives, is_it, class_numbers, selects}
use Rattle.cc_meaning_calls.specs.Starts.{class_in_base, class_in_type, class_in_field, started_by, inherits_within, inherits, initialiser_in, initialiser_of, initialises, can_start}
use Rattle.cc_meaning_calls.specs.Calls.{insns_of_kind, some_insn, is_abstract_kind, is_built_in_kind, is_counted, invokes, calls_by_invoke, calls_by_start, calls_by_early_start, is_started_before, calls_in, can_call, callees, has_code, is_initialiser, is_constructor, is_movable}
use Rattle.std.specs.Prelude.{◌==◌, ◌||◌, Option, is_none, All, Contains}
use Rattle.std.specs.List.{list_all}
use Rattle.std.proofs.lemmas.Bool.{eqb-true, eq-eqb}
use Rattle.cc_meaning.specs.declared.profile.Partition.{Partition}
use Rattle.cc_meaning.specs.declared.program.Program.{Program}
use Rattle.cc_meaning.specs.declared.script.Script.{Script}
use Rattle.cc_meaning_calls.specs.Calls.{IsReached, one, direct, Reaches, IsCandidate}
use Rattle.cc_meaning_calls.specs.Places.{Under, moved, below, begins, called, Breaks, nested, kept, parted, IsTriedBefore, four_two, four_three, two_three, IsMoved, IsOuter}
use Rattle.cc_meaning_calls.specs.WorkedPrograms.{diamond, loop, asking, asking_script, no_script}
use Rattle.cc_meaning_calls.specs.WorkedPlaces.{moving, DiamondHolds, RulesHold}
use Rattle.cc_meaning_calls.proofs.Closed.{is_in, closed, passes, leads_in, reaches_in, reached_in, or_case}
use Rattle.cc_meaning_calls.proofs.Lists.{among}

-- ---- lists

-- a number of a list of one
only : (a m : ℕ) → is_in m (a ∷ []) ≡ true → m ≡ a
only a m h = elim (or_case (a == m) false h) [ inl e ↦ sym (eqb-true a m e) | inr none ↦ cc ]

only_moved : (a m : ℕ) → Contains (a ∷ []) m → m ≡ a
only_moved a m c = only a m (among (a ∷ []) m c)

two : (a b m : ℕ) → is_in m (a ∷ b ∷ []) ≡ true → (m ≡ a) ⊎ (m ≡ b)
two a b m h = elim (or_case (a == m) (is_in m (b ∷ [])) h) [ inl e ↦ inl (sym (eqb-true a m e)) | inr later ↦ inr (only b m later) ]

-- ---- what is under, and what is outer

-- where a list has the moved methods and all that its methods call, it has all that is under
pub under_in : (p : Program) (script : Script) (list : List ℕ) (partition : Partition) → closed p script list ≡ true → ((m : ℕ) → IsMoved partition m → is_in m list ≡ true)
    → (m : ℕ) → Under p script (IsMoved partition) m → is_in m list ≡ true
under_in p script list partition stays starts m (moved h) = starts m h
under_in p script list partition stays starts m (below {mover = mover} h r) = reaches_in p script list stays (starts mover h) r

-- ---- the diamond

f_h : can_call diamond no_script 0 2 ≡ true
unfolding object_name print_stream_name on_value superclass_in superclass_of object_class is_loose_kind is_loose_in is_loose held_base held first_held class_above fewer above_objects next_in next_above is_same_base is_same_type rises_to reach brackets behind_brackets base_of type_of_kind type_of_found type_of_class is_of_file is_file_interface class_in script_of class_of_found class_asked given_for free_in free_answer unpinned_in is_scripted_kind is_scripted_in is_scripted has_answer is_free is_stateful is_pinned has_name_of_stream is_of_stream interfaces_in interfaces_of extends lists implements holds_in holds_of is_print must_stay declaring_in class_of if_stateful stateful_class same_types same_result stands_for declared_from declared first_of_two next_class found_within if_outside selected has_interface is_held_below is_class_below receives_by receives_in receives is_it class_numbers selects class_in_base class_in_type class_in_field started_by inherits_within inherits initialiser_in initialiser_of initialises can_start insns_of_kind some_insn is_abstract_kind is_built_in_kind is_counted invokes calls_by_invoke calls_by_start calls_by_early_start is_started_before calls_in can_call callees has_code is_initialiser is_constructor is_movable
f_h = refl

main_f : can_call diamond no_script 3 0 ≡ true
unfolding object_name print_stream_name on_value superclass_in superclass_of object_class is_loose_kind is_loose_in is_loose held_base held first_held class_above fewer above_objects next_in next_above is_same_base is_same_type rises_to reach brackets behind_brackets base_of type_of_kind type_of_found type_of_class is_of_file is_file_interface class_in script_of class_of_found class_asked given_for free_in free_answer unpinned_in is_scripted_kind is_scripted_in is_scripted has_answer is_free is_stateful is_pinned has_name_of_stream is_of_stream interfaces_in interfaces_of extends lists implements holds_in holds_of is_print must_stay declaring_in class_of if_stateful stateful_class same_types same_result stands_for declared_from declared first_of_two next_class found_within if_outside selected has_interface is_held_below is_class_below receives_by receives_in receives is_it class_numbers selects class_in_base class_in_type class_in_field started_by inherits_within inherits initialiser_in initialiser_of initialises can_start insns_of_kind some_insn is_abstract_kind is_built_in_kind is_counted invokes calls_by_invoke calls_by_start calls_by_early_start is_started_before calls_in can_call callees has_code is_initialiser is_constructor is_movable
main_f = refl

main_g : can_call diamond no_script 3 1 ≡ true
unfolding object_name print_stream_name on_value superclass_in superclass_of object_class is_loose_kind is_loose_in is_loose held_base held first_held class_above fewer above_objects next_in next_above is_same_base is_same_type rises_to reach brackets behind_brackets base_of type_of_kind type_of_found type_of_class is_of_file is_file_interface class_in script_of class_of_found class_asked given_for free_in free_answer unpinned_in is_scripted_kind is_scripted_in is_scripted has_answer is_free is_stateful is_pinned has_name_of_stream is_of_stream interfaces_in interfaces_of extends lists implements holds_in holds_of is_print must_stay declaring_in class_of if_stateful stateful_class same_types same_result stands_for declared_from declared first_of_two next_class found_within if_outside selected has_interface is_held_below is_class_below receives_by receives_in receives is_it class_numbers selects class_in_base class_in_type class_in_field started_by inherits_within inherits initialiser_in initialiser_of initialises can_start insns_of_kind some_insn is_abstract_kind is_built_in_kind is_counted invokes calls_by_invoke calls_by_start calls_by_early_start is_started_before calls_in can_call callees has_code is_initialiser is_constructor is_movable
main_g = refl

g_h : can_call diamond no_script 1 2 ≡ true
unfolding object_name print_stream_name on_value superclass_in superclass_of object_class is_loose_kind is_loose_in is_loose held_base held first_held class_above fewer above_objects next_in next_above is_same_base is_same_type rises_to reach brackets behind_brackets base_of type_of_kind type_of_found type_of_class is_of_file is_file_interface class_in script_of class_of_found class_asked given_for free_in free_answer unpinned_in is_scripted_kind is_scripted_in is_scripted has_answer is_free is_stateful is_pinned has_name_of_stream is_of_stream interfaces_in interfaces_of extends lists implements holds_in holds_of is_print must_stay declaring_in class_of if_stateful stateful_class same_types same_result stands_for declared_from declared first_of_two next_class found_within if_outside selected has_interface is_held_below is_class_below receives_by receives_in receives is_it class_numbers selects class_in_base class_in_type class_in_field started_by inherits_within inherits initialiser_in initialiser_of initialises can_start insns_of_kind some_insn is_abstract_kind is_built_in_kind is_counted invokes calls_by_invoke calls_by_start calls_by_early_start is_started_before calls_in can_call callees has_code is_initialiser is_constructor is_movable
g_h = refl

h_closed : closed diamond no_script (2 ∷ []) ≡ true
unfolding object_name print_stream_name on_value superclass_in superclass_of object_class is_loose_kind is_loose_in is_loose held_base held first_held class_above fewer above_objects next_in next_above is_same_base is_same_type rises_to reach brackets behind_brackets base_of type_of_kind type_of_found type_of_class is_of_file is_file_interface class_in script_of class_of_found class_asked given_for free_in free_answer unpinned_in is_scripted_kind is_scripted_in is_scripted has_answer is_free is_stateful is_pinned has_name_of_stream is_of_stream interfaces_in interfaces_of extends lists implements holds_in holds_of is_print must_stay declaring_in class_of if_stateful stateful_class same_types same_result stands_for declared_from declared first_of_two next_class found_within if_outside selected has_interface is_held_below is_class_below receives_by receives_in receives is_it class_numbers selects class_in_base class_in_type class_in_field started_by inherits_within inherits initialiser_in initialiser_of initialises can_start insns_of_kind some_insn is_abstract_kind is_built_in_kind is_counted invokes calls_by_invoke calls_by_start calls_by_early_start is_started_before calls_in can_call callees has_code is_initialiser is_constructor is_movable
h_closed = refl

fh_closed : closed diamond no_script (0 ∷ 2 ∷ []) ≡ true
unfolding object_name print_stream_name on_value superclass_in superclass_of object_class is_loose_kind is_loose_in is_loose held_base held first_held class_above fewer above_objects next_in next_above is_same_base is_same_type rises_to reach brackets behind_brackets base_of type_of_kind type_of_found type_of_class is_of_file is_file_interface class_in script_of class_of_found class_asked given_for free_in free_answer unpinned_in is_scripted_kind is_scripted_in is_scripted has_answer is_free is_stateful is_pinned has_name_of_stream is_of_stream interfaces_in interfaces_of extends lists implements holds_in holds_of is_print must_stay declaring_in class_of if_stateful stateful_class same_types same_result stands_for declared_from declared first_of_two next_class found_within if_outside selected has_interface is_held_below is_class_below receives_by receives_in receives is_it class_numbers selects class_in_base class_in_type class_in_field started_by inherits_within inherits initialiser_in initialiser_of initialises can_start insns_of_kind some_insn is_abstract_kind is_built_in_kind is_counted invokes calls_by_invoke calls_by_start calls_by_early_start is_started_before calls_in can_call callees has_code is_initialiser is_constructor is_movable
fh_closed = refl

f_starts : list_all (λ c. is_in c (2 ∷ [])) (callees diamond no_script 0) ≡ true
unfolding object_name print_stream_name on_value superclass_in superclass_of object_class is_loose_kind is_loose_in is_loose held_base held first_held class_above fewer above_objects next_in next_above is_same_base is_same_type rises_to reach brackets behind_brackets base_of type_of_kind type_of_found type_of_class is_of_file is_file_interface class_in script_of class_of_found class_asked given_for free_in free_answer unpinned_in is_scripted_kind is_scripted_in is_scripted has_answer is_free is_stateful is_pinned has_name_of_stream is_of_stream interfaces_in interfaces_of extends lists implements holds_in holds_of is_print must_stay declaring_in class_of if_stateful stateful_class same_types same_result stands_for declared_from declared first_of_two next_class found_within if_outside selected has_interface is_held_below is_class_below receives_by receives_in receives is_it class_numbers selects class_in_base class_in_type class_in_field started_by inherits_within inherits initialiser_in initialiser_of initialises can_start insns_of_kind some_insn is_abstract_kind is_built_in_kind is_counted invokes calls_by_invoke calls_by_start calls_by_early_start is_started_before calls_in can_call callees has_code is_initialiser is_constructor is_movable
f_starts = refl

h_starts : list_all (λ c. is_in c []) (callees diamond no_script 2) ≡ true
unfolding object_name print_stream_name on_value superclass_in superclass_of object_class is_loose_kind is_loose_in is_loose held_base held first_held class_above fewer above_objects next_in next_above is_same_base is_same_type rises_to reach brackets behind_brackets base_of type_of_kind type_of_found type_of_class is_of_file is_file_interface class_in script_of class_of_found class_asked given_for free_in free_answer unpinned_in is_scripted_kind is_scripted_in is_scripted has_answer is_free is_stateful is_pinned has_name_of_stream is_of_stream interfaces_in interfaces_of extends lists implements holds_in holds_of is_print must_stay declaring_in class_of if_stateful stateful_class same_types same_result stands_for declared_from declared first_of_two next_class found_within if_outside selected has_interface is_held_below is_class_below receives_by receives_in receives is_it class_numbers selects class_in_base class_in_type class_in_field started_by inherits_within inherits initialiser_in initialiser_of initialises can_start insns_of_kind some_insn is_abstract_kind is_built_in_kind is_counted invokes calls_by_invoke calls_by_start calls_by_early_start is_started_before calls_in can_call callees has_code is_initialiser is_constructor is_movable
h_starts = refl

nothing_closed : closed diamond no_script [] ≡ true
unfolding object_name print_stream_name on_value superclass_in superclass_of object_class is_loose_kind is_loose_in is_loose held_base held first_held class_above fewer above_objects next_in next_above is_same_base is_same_type rises_to reach brackets behind_brackets base_of type_of_kind type_of_found type_of_class is_of_file is_file_interface class_in script_of class_of_found class_asked given_for free_in free_answer unpinned_in is_scripted_kind is_scripted_in is_scripted has_answer is_free is_stateful is_pinned has_name_of_stream is_of_stream interfaces_in interfaces_of extends lists implements holds_in holds_of is_print must_stay declaring_in class_of if_stateful stateful_class same_types same_result stands_for declared_from declared first_of_two next_class found_within if_outside selected has_interface is_held_below is_class_below receives_by receives_in receives is_it class_numbers selects class_in_base class_in_type class_in_field started_by inherits_within inherits initialiser_in initialiser_of initialises can_start insns_of_kind some_insn is_abstract_kind is_built_in_kind is_counted invokes calls_by_invoke calls_by_start calls_by_early_start is_started_before calls_in can_call callees has_code is_initialiser is_constructor is_movable
nothing_closed = refl

reached_f : IsReached diamond no_script 0
reached_f = inr (one main_f)

f_movable : is_movable diamond 0 ≡ true
unfolding object_name print_stream_name on_value superclass_in superclass_of object_class is_loose_kind is_loose_in is_loose held_base held first_held class_above fewer above_objects next_in next_above is_same_base is_same_type rises_to reach brackets behind_brackets base_of type_of_kind type_of_found type_of_class is_of_file is_file_interface class_in script_of class_of_found class_asked given_for free_in free_answer unpinned_in is_scripted_kind is_scripted_in is_scripted has_answer is_free is_stateful is_pinned has_name_of_stream is_of_stream interfaces_in interfaces_of extends lists implements holds_in holds_of is_print must_stay declaring_in class_of if_stateful stateful_class same_types same_result stands_for declared_from declared first_of_two next_class found_within if_outside selected has_interface is_held_below is_class_below receives_by receives_in receives is_it class_numbers selects class_in_base class_in_type class_in_field started_by inherits_within inherits initialiser_in initialiser_of initialises can_start insns_of_kind some_insn is_abstract_kind is_built_in_kind is_counted invokes calls_by_invoke calls_by_start calls_by_early_start is_started_before calls_in can_call callees has_code is_initialiser is_constructor is_movable
f_movable = refl

f_leaves : must_stay diamond no_script 0 ≡ false
unfolding object_name print_stream_name on_value superclass_in superclass_of object_class is_loose_kind is_loose_in is_loose held_base held first_held class_above fewer above_objects next_in next_above is_same_base is_same_type rises_to reach brackets behind_brackets base_of type_of_kind type_of_found type_of_class is_of_file is_file_interface class_in script_of class_of_found class_asked given_for free_in free_answer unpinned_in is_scripted_kind is_scripted_in is_scripted has_answer is_free is_stateful is_pinned has_name_of_stream is_of_stream interfaces_in interfaces_of extends lists implements holds_in holds_of is_print must_stay declaring_in class_of if_stateful stateful_class same_types same_result stands_for declared_from declared first_of_two next_class found_within if_outside selected has_interface is_held_below is_class_below receives_by receives_in receives is_it class_numbers selects class_in_base class_in_type class_in_field started_by inherits_within inherits initialiser_in initialiser_of initialises can_start insns_of_kind some_insn is_abstract_kind is_built_in_kind is_counted invokes calls_by_invoke calls_by_start calls_by_early_start is_started_before calls_in can_call callees has_code is_initialiser is_constructor is_movable
f_leaves = refl

h_leaves : must_stay diamond no_script 2 ≡ false
unfolding object_name print_stream_name on_value superclass_in superclass_of object_class is_loose_kind is_loose_in is_loose held_base held first_held class_above fewer above_objects next_in next_above is_same_base is_same_type rises_to reach brackets behind_brackets base_of type_of_kind type_of_found type_of_class is_of_file is_file_interface class_in script_of class_of_found class_asked given_for free_in free_answer unpinned_in is_scripted_kind is_scripted_in is_scripted has_answer is_free is_stateful is_pinned has_name_of_stream is_of_stream interfaces_in interfaces_of extends lists implements holds_in holds_of is_print must_stay declaring_in class_of if_stateful stateful_class same_types same_result stands_for declared_from declared first_of_two next_class found_within if_outside selected has_interface is_held_below is_class_below receives_by receives_in receives is_it class_numbers selects class_in_base class_in_type class_in_field started_by inherits_within inherits initialiser_in initialiser_of initialises can_start insns_of_kind some_insn is_abstract_kind is_built_in_kind is_counted invokes calls_by_invoke calls_by_start calls_by_early_start is_started_before calls_in can_call callees has_code is_initialiser is_constructor is_movable
h_leaves = refl

f_stateless : stateful_class diamond no_script 0 ≡ None
unfolding object_name print_stream_name on_value superclass_in superclass_of object_class is_loose_kind is_loose_in is_loose held_base held first_held class_above fewer above_objects next_in next_above is_same_base is_same_type rises_to reach brackets behind_brackets base_of type_of_kind type_of_found type_of_class is_of_file is_file_interface class_in script_of class_of_found class_asked given_for free_in free_answer unpinned_in is_scripted_kind is_scripted_in is_scripted has_answer is_free is_stateful is_pinned has_name_of_stream is_of_stream interfaces_in interfaces_of extends lists implements holds_in holds_of is_print must_stay declaring_in class_of if_stateful stateful_class same_types same_result stands_for declared_from declared first_of_two next_class found_within if_outside selected has_interface is_held_below is_class_below receives_by receives_in receives is_it class_numbers selects class_in_base class_in_type class_in_field started_by inherits_within inherits initialiser_in initialiser_of initialises can_start insns_of_kind some_insn is_abstract_kind is_built_in_kind is_counted invokes calls_by_invoke calls_by_start calls_by_early_start is_started_before calls_in can_call callees has_code is_initialiser is_constructor is_movable
f_stateless = refl

h_stateless : stateful_class diamond no_script 2 ≡ None
unfolding object_name print_stream_name on_value superclass_in superclass_of object_class is_loose_kind is_loose_in is_loose held_base held first_held class_above fewer above_objects next_in next_above is_same_base is_same_type rises_to reach brackets behind_brackets base_of type_of_kind type_of_found type_of_class is_of_file is_file_interface class_in script_of class_of_found class_asked given_for free_in free_answer unpinned_in is_scripted_kind is_scripted_in is_scripted has_answer is_free is_stateful is_pinned has_name_of_stream is_of_stream interfaces_in interfaces_of extends lists implements holds_in holds_of is_print must_stay declaring_in class_of if_stateful stateful_class same_types same_result stands_for declared_from declared first_of_two next_class found_within if_outside selected has_interface is_held_below is_class_below receives_by receives_in receives is_it class_numbers selects class_in_base class_in_type class_in_field started_by inherits_within inherits initialiser_in initialiser_of initialises can_start insns_of_kind some_insn is_abstract_kind is_built_in_kind is_counted invokes calls_by_invoke calls_by_start calls_by_early_start is_started_before calls_in can_call callees has_code is_initialiser is_constructor is_movable
h_stateless = refl

under_f : (m : ℕ) → Under diamond no_script (IsMoved (moving (0 ∷ []))) m → (m ≡ 0) ⊎ (m ≡ 2)
under_f m u = two 0 2 m (under_in diamond no_script (0 ∷ 2 ∷ []) (moving (0 ∷ [])) fh_closed (λ n c. subst (λ (k : ℕ). is_in k (0 ∷ 2 ∷ []) ≡ true) (sym (only_moved 0 n c)) refl) m u)

stays_none : (m : ℕ) → (m ≡ 0) ⊎ (m ≡ 2) → must_stay diamond no_script m ≡ true → ⊥
stays_none m (inl e) h = let k : must_stay diamond no_script 0 ≡ true = subst (λ (n : ℕ). must_stay diamond no_script n ≡ true) e h in let f = f_leaves in cc
stays_none m (inr e) h = let k : must_stay diamond no_script 2 ≡ true = subst (λ (n : ℕ). must_stay diamond no_script n ≡ true) e h in let f = h_leaves in cc

asks_none : (m class : ℕ) → (m ≡ 0) ⊎ (m ≡ 2) → stateful_class diamond no_script m ≡ Some class → ⊥
asks_none m class (inl e) h = let k : stateful_class diamond no_script 0 ≡ Some class = subst (λ (n : ℕ). stateful_class diamond no_script n ≡ Some class) e h in let f = f_stateless in cc
asks_none m class (inr e) h = let k : stateful_class diamond no_script 2 ≡ Some class = subst (λ (n : ℕ). stateful_class diamond no_script n ≡ Some class) e h in let f = h_stateless in cc

-- f doesn't reach itself
f_once : (m1 m2 : ℕ) → m1 ≡ 0 → m2 ≡ 0 → Reaches diamond no_script m1 m2 → ⊥
f_once m1 m2 e1 e2 r =
    let r1 : Reaches diamond no_script 0 0 = subst (λ (m : ℕ). Reaches diamond no_script m 0) e1 (subst (λ (m : ℕ). Reaches diamond no_script m1 m) e2 r) in
    let h = reached_in diamond no_script (2 ∷ []) h_closed 0 0 f_starts r1 in cc

keeps_all : (rule m1 m2 : ℕ) → Breaks diamond no_script (IsMoved (moving (0 ∷ []))) (IsMoved (moving (0 ∷ []))) rule m1 m2 → ⊥
keeps_all rule m1 m2 (nested a b r) = f_once m1 m2 (only_moved 0 m1 a) (only_moved 0 m2 b) r
keeps_all rule m1 m2 (kept h u) = stays_none m1 (under_f m1 u) h
keeps_all rule m1 m2 (parted s u o) = asks_none m1 s.0 (under_f m1 u) s.3

f_moves : IsMoved (moving (0 ∷ [])) 0
f_moves = (0, omega arith, refl)

others_stay : (m : ℕ) → (0 == m) ≡ false → IsMoved (moving (0 ∷ [])) m → ⊥
others_stay m e c = let f : 0 ≡ m = sym (only_moved 0 m c) in let g = eq-eqb 0 m f in cc

main_reached : IsReached diamond no_script 3
main_reached = inl refl

reached_g : IsReached diamond no_script 1
reached_g = inr (one main_g)

is_candidate : (m : ℕ) → Contains (0 ∷ []) m → IsCandidate diamond no_script m
is_candidate m c = subst (λ (n : ℕ). IsCandidate diamond no_script n) (sym (only_moved 0 m c)) (reached_f, f_movable)

h_never : (m : ℕ) → Reaches diamond no_script 2 m → ⊥
h_never m r = let h = reached_in diamond no_script [] nothing_closed 2 m h_starts r in cc

f_to_h : (m : ℕ) → Reaches diamond no_script 0 m → m ≡ 2
f_to_h m r = only 2 m (reached_in diamond no_script (2 ∷ []) h_closed 0 m f_starts r)

-- no rule is tried before the fourth
none_before : (rule other : ℕ) → other ≡ 4 → IsTriedBefore rule other → ⊥
none_before rule other e four_two = omega (arith, e)
none_before rule other e four_three = omega (arith, e)
none_before rule other e two_three = omega (arith, e)

-- ---- two that would be nested

fh_moved : (m : ℕ) → Contains (0 ∷ 2 ∷ []) m → (m ≡ 0) ⊎ (m ≡ 2)
fh_moved m c = two 0 2 m (among (0 ∷ 2 ∷ []) m c)

abbrev FHBreaks : (rule m1 m2 : ℕ) → Type 0
FHBreaks rule m1 m2 = Breaks diamond no_script (IsMoved (moving (0 ∷ 2 ∷ []))) (IsMoved (moving (0 ∷ 2 ∷ []))) rule m1 m2

from_f : (m1 m2 : ℕ) → (m1 ≡ 0) ⊎ (m1 ≡ 2) → Reaches diamond no_script m1 m2 → (0 < m1) ⊎ ((0 ≡ m1) × (2 ≤ m2))
from_f m1 m2 (inl e) r = let f = f_to_h m2 (subst (λ (m : ℕ). Reaches diamond no_script m m2) e r) in inr (sym e, omega (arith, f))
from_f m1 m2 (inr e) r = inl (omega (arith, e))

nested_least : (m1 m2 : ℕ) → FHBreaks 4 m1 m2 → (0 < m1) ⊎ ((0 ≡ m1) × (2 ≤ m2))
nested_least m1 m2 (nested a b r) = from_f m1 m2 (fh_moved m1 a) r

pub diamond_holds : DiamondHolds
diamond_holds = record {
  mover = moved f_moves;
  below = below f_moves (direct (reached_f, f_h));
  main = begins (others_stay 3 refl);
  beside = called (others_stay 2 refl) (called (others_stay 1 refl) (begins (others_stay 3 refl)) (main_reached, main_g)) (reached_g, g_h);
  not_outer = not_outer;
  legal = record { candidates = All-contained; keeps = keeps_all };
  nested = record {
    breaks = nested (0, omega arith, refl) (1, omega arith, refl) (direct (reached_f, f_h));
    first = λ rule m1 m2 before b. none_before rule 4 refl before;
    least = nested_least;
  };
}
  where
    not_outer : IsOuter diamond no_script (moving (0 ∷ [])) 0 → ⊥
    not_outer (called stays o d) = stays f_moves

    All-contained : All (IsCandidate diamond no_script) (0 ∷ [])
    All-contained zero d l = (reached_f, f_movable)
    All-contained (suc k) d l = absurd (omega (arith, l))

-- ---- one that calls itself

loop_calls : can_call loop no_script 0 0 ≡ true
unfolding object_name print_stream_name on_value superclass_in superclass_of object_class is_loose_kind is_loose_in is_loose held_base held first_held class_above fewer above_objects next_in next_above is_same_base is_same_type rises_to reach brackets behind_brackets base_of type_of_kind type_of_found type_of_class is_of_file is_file_interface class_in script_of class_of_found class_asked given_for free_in free_answer unpinned_in is_scripted_kind is_scripted_in is_scripted has_answer is_free is_stateful is_pinned has_name_of_stream is_of_stream interfaces_in interfaces_of extends lists implements holds_in holds_of is_print must_stay declaring_in class_of if_stateful stateful_class same_types same_result stands_for declared_from declared first_of_two next_class found_within if_outside selected has_interface is_held_below is_class_below receives_by receives_in receives is_it class_numbers selects class_in_base class_in_type class_in_field started_by inherits_within inherits initialiser_in initialiser_of initialises can_start insns_of_kind some_insn is_abstract_kind is_built_in_kind is_counted invokes calls_by_invoke calls_by_start calls_by_early_start is_started_before calls_in can_call callees has_code is_initialiser is_constructor is_movable
loop_calls = refl

loop_main : can_call loop no_script 1 0 ≡ true
unfolding object_name print_stream_name on_value superclass_in superclass_of object_class is_loose_kind is_loose_in is_loose held_base held first_held class_above fewer above_objects next_in next_above is_same_base is_same_type rises_to reach brackets behind_brackets base_of type_of_kind type_of_found type_of_class is_of_file is_file_interface class_in script_of class_of_found class_asked given_for free_in free_answer unpinned_in is_scripted_kind is_scripted_in is_scripted has_answer is_free is_stateful is_pinned has_name_of_stream is_of_stream interfaces_in interfaces_of extends lists implements holds_in holds_of is_print must_stay declaring_in class_of if_stateful stateful_class same_types same_result stands_for declared_from declared first_of_two next_class found_within if_outside selected has_interface is_held_below is_class_below receives_by receives_in receives is_it class_numbers selects class_in_base class_in_type class_in_field started_by inherits_within inherits initialiser_in initialiser_of initialises can_start insns_of_kind some_insn is_abstract_kind is_built_in_kind is_counted invokes calls_by_invoke calls_by_start calls_by_early_start is_started_before calls_in can_call callees has_code is_initialiser is_constructor is_movable
loop_main = refl

loop_least : (m1 m2 : ℕ) → Breaks loop no_script (IsMoved (moving (0 ∷ []))) (IsMoved (moving (0 ∷ []))) 4 m1 m2 → (0 < m1) ⊎ ((0 ≡ m1) × (0 ≤ m2))
loop_least m1 m2 (nested a b r) = inr (sym (only_moved 0 m1 a), omega arith)

-- ---- one that asks the script

ask_calls : can_call asking no_script 0 2 ≡ true
unfolding object_name print_stream_name on_value superclass_in superclass_of object_class is_loose_kind is_loose_in is_loose held_base held first_held class_above fewer above_objects next_in next_above is_same_base is_same_type rises_to reach brackets behind_brackets base_of type_of_kind type_of_found type_of_class is_of_file is_file_interface class_in script_of class_of_found class_asked given_for free_in free_answer unpinned_in is_scripted_kind is_scripted_in is_scripted has_answer is_free is_stateful is_pinned has_name_of_stream is_of_stream interfaces_in interfaces_of extends lists implements holds_in holds_of is_print must_stay declaring_in class_of if_stateful stateful_class same_types same_result stands_for declared_from declared first_of_two next_class found_within if_outside selected has_interface is_held_below is_class_below receives_by receives_in receives is_it class_numbers selects class_in_base class_in_type class_in_field started_by inherits_within inherits initialiser_in initialiser_of initialises can_start insns_of_kind some_insn is_abstract_kind is_built_in_kind is_counted invokes calls_by_invoke calls_by_start calls_by_early_start is_started_before calls_in can_call callees has_code is_initialiser is_constructor is_movable
ask_calls = refl

ask_main : can_call asking no_script 1 0 ≡ true
unfolding object_name print_stream_name on_value superclass_in superclass_of object_class is_loose_kind is_loose_in is_loose held_base held first_held class_above fewer above_objects next_in next_above is_same_base is_same_type rises_to reach brackets behind_brackets base_of type_of_kind type_of_found type_of_class is_of_file is_file_interface class_in script_of class_of_found class_asked given_for free_in free_answer unpinned_in is_scripted_kind is_scripted_in is_scripted has_answer is_free is_stateful is_pinned has_name_of_stream is_of_stream interfaces_in interfaces_of extends lists implements holds_in holds_of is_print must_stay declaring_in class_of if_stateful stateful_class same_types same_result stands_for declared_from declared first_of_two next_class found_within if_outside selected has_interface is_held_below is_class_below receives_by receives_in receives is_it class_numbers selects class_in_base class_in_type class_in_field started_by inherits_within inherits initialiser_in initialiser_of initialises can_start insns_of_kind some_insn is_abstract_kind is_built_in_kind is_counted invokes calls_by_invoke calls_by_start calls_by_early_start is_started_before calls_in can_call callees has_code is_initialiser is_constructor is_movable
ask_main = refl

ask_stays : must_stay asking no_script 2 ≡ true
unfolding object_name print_stream_name on_value superclass_in superclass_of object_class is_loose_kind is_loose_in is_loose held_base held first_held class_above fewer above_objects next_in next_above is_same_base is_same_type rises_to reach brackets behind_brackets base_of type_of_kind type_of_found type_of_class is_of_file is_file_interface class_in script_of class_of_found class_asked given_for free_in free_answer unpinned_in is_scripted_kind is_scripted_in is_scripted has_answer is_free is_stateful is_pinned has_name_of_stream is_of_stream interfaces_in interfaces_of extends lists implements holds_in holds_of is_print must_stay declaring_in class_of if_stateful stateful_class same_types same_result stands_for declared_from declared first_of_two next_class found_within if_outside selected has_interface is_held_below is_class_below receives_by receives_in receives is_it class_numbers selects class_in_base class_in_type class_in_field started_by inherits_within inherits initialiser_in initialiser_of initialises can_start insns_of_kind some_insn is_abstract_kind is_built_in_kind is_counted invokes calls_by_invoke calls_by_start calls_by_early_start is_started_before calls_in can_call callees has_code is_initialiser is_constructor is_movable
ask_stays = refl

ask_leaves : must_stay asking no_script 0 ≡ false
unfolding object_name print_stream_name on_value superclass_in superclass_of object_class is_loose_kind is_loose_in is_loose held_base held first_held class_above fewer above_objects next_in next_above is_same_base is_same_type rises_to reach brackets behind_brackets base_of type_of_kind type_of_found type_of_class is_of_file is_file_interface class_in script_of class_of_found class_asked given_for free_in free_answer unpinned_in is_scripted_kind is_scripted_in is_scripted has_answer is_free is_stateful is_pinned has_name_of_stream is_of_stream interfaces_in interfaces_of extends lists implements holds_in holds_of is_print must_stay declaring_in class_of if_stateful stateful_class same_types same_result stands_for declared_from declared first_of_two next_class found_within if_outside selected has_interface is_held_below is_class_below receives_by receives_in receives is_it class_numbers selects class_in_base class_in_type class_in_field started_by inherits_within inherits initialiser_in initialiser_of initialises can_start insns_of_kind some_insn is_abstract_kind is_built_in_kind is_counted invokes calls_by_invoke calls_by_start calls_by_early_start is_started_before calls_in can_call callees has_code is_initialiser is_constructor is_movable
ask_leaves = refl

ask_once : list_all (λ c. is_in c (2 ∷ [])) (callees asking no_script 0) ≡ true
unfolding object_name print_stream_name on_value superclass_in superclass_of object_class is_loose_kind is_loose_in is_loose held_base held first_held class_above fewer above_objects next_in next_above is_same_base is_same_type rises_to reach brackets behind_brackets base_of type_of_kind type_of_found type_of_class is_of_file is_file_interface class_in script_of class_of_found class_asked given_for free_in free_answer unpinned_in is_scripted_kind is_scripted_in is_scripted has_answer is_free is_stateful is_pinned has_name_of_stream is_of_stream interfaces_in interfaces_of extends lists implements holds_in holds_of is_print must_stay declaring_in class_of if_stateful stateful_class same_types same_result stands_for declared_from declared first_of_two next_class found_within if_outside selected has_interface is_held_below is_class_below receives_by receives_in receives is_it class_numbers selects class_in_base class_in_type class_in_field started_by inherits_within inherits initialiser_in initialiser_of initialises can_start insns_of_kind some_insn is_abstract_kind is_built_in_kind is_counted invokes calls_by_invoke calls_by_start calls_by_early_start is_started_before calls_in can_call callees has_code is_initialiser is_constructor is_movable
ask_once = refl

ask_end : closed asking no_script (2 ∷ []) ≡ true
unfolding object_name print_stream_name on_value superclass_in superclass_of object_class is_loose_kind is_loose_in is_loose held_base held first_held class_above fewer above_objects next_in next_above is_same_base is_same_type rises_to reach brackets behind_brackets base_of type_of_kind type_of_found type_of_class is_of_file is_file_interface class_in script_of class_of_found class_asked given_for free_in free_answer unpinned_in is_scripted_kind is_scripted_in is_scripted has_answer is_free is_stateful is_pinned has_name_of_stream is_of_stream interfaces_in interfaces_of extends lists implements holds_in holds_of is_print must_stay declaring_in class_of if_stateful stateful_class same_types same_result stands_for declared_from declared first_of_two next_class found_within if_outside selected has_interface is_held_below is_class_below receives_by receives_in receives is_it class_numbers selects class_in_base class_in_type class_in_field started_by inherits_within inherits initialiser_in initialiser_of initialises can_start insns_of_kind some_insn is_abstract_kind is_built_in_kind is_counted invokes calls_by_invoke calls_by_start calls_by_early_start is_started_before calls_in can_call callees has_code is_initialiser is_constructor is_movable
ask_end = refl

ask_closed : closed asking no_script (0 ∷ 2 ∷ []) ≡ true
unfolding object_name print_stream_name on_value superclass_in superclass_of object_class is_loose_kind is_loose_in is_loose held_base held first_held class_above fewer above_objects next_in next_above is_same_base is_same_type rises_to reach brackets behind_brackets base_of type_of_kind type_of_found type_of_class is_of_file is_file_interface class_in script_of class_of_found class_asked given_for free_in free_answer unpinned_in is_scripted_kind is_scripted_in is_scripted has_answer is_free is_stateful is_pinned has_name_of_stream is_of_stream interfaces_in interfaces_of extends lists implements holds_in holds_of is_print must_stay declaring_in class_of if_stateful stateful_class same_types same_result stands_for declared_from declared first_of_two next_class found_within if_outside selected has_interface is_held_below is_class_below receives_by receives_in receives is_it class_numbers selects class_in_base class_in_type class_in_field started_by inherits_within inherits initialiser_in initialiser_of initialises can_start insns_of_kind some_insn is_abstract_kind is_built_in_kind is_counted invokes calls_by_invoke calls_by_start calls_by_early_start is_started_before calls_in can_call callees has_code is_initialiser is_constructor is_movable
ask_closed = refl

shared_calls : can_call asking asking_script 0 2 ≡ true
unfolding object_name print_stream_name on_value superclass_in superclass_of object_class is_loose_kind is_loose_in is_loose held_base held first_held class_above fewer above_objects next_in next_above is_same_base is_same_type rises_to reach brackets behind_brackets base_of type_of_kind type_of_found type_of_class is_of_file is_file_interface class_in script_of class_of_found class_asked given_for free_in free_answer unpinned_in is_scripted_kind is_scripted_in is_scripted has_answer is_free is_stateful is_pinned has_name_of_stream is_of_stream interfaces_in interfaces_of extends lists implements holds_in holds_of is_print must_stay declaring_in class_of if_stateful stateful_class same_types same_result stands_for declared_from declared first_of_two next_class found_within if_outside selected has_interface is_held_below is_class_below receives_by receives_in receives is_it class_numbers selects class_in_base class_in_type class_in_field started_by inherits_within inherits initialiser_in initialiser_of initialises can_start insns_of_kind some_insn is_abstract_kind is_built_in_kind is_counted invokes calls_by_invoke calls_by_start calls_by_early_start is_started_before calls_in can_call callees has_code is_initialiser is_constructor is_movable
shared_calls = refl

shared_main : can_call asking asking_script 1 0 ≡ true
unfolding object_name print_stream_name on_value superclass_in superclass_of object_class is_loose_kind is_loose_in is_loose held_base held first_held class_above fewer above_objects next_in next_above is_same_base is_same_type rises_to reach brackets behind_brackets base_of type_of_kind type_of_found type_of_class is_of_file is_file_interface class_in script_of class_of_found class_asked given_for free_in free_answer unpinned_in is_scripted_kind is_scripted_in is_scripted has_answer is_free is_stateful is_pinned has_name_of_stream is_of_stream interfaces_in interfaces_of extends lists implements holds_in holds_of is_print must_stay declaring_in class_of if_stateful stateful_class same_types same_result stands_for declared_from declared first_of_two next_class found_within if_outside selected has_interface is_held_below is_class_below receives_by receives_in receives is_it class_numbers selects class_in_base class_in_type class_in_field started_by inherits_within inherits initialiser_in initialiser_of initialises can_start insns_of_kind some_insn is_abstract_kind is_built_in_kind is_counted invokes calls_by_invoke calls_by_start calls_by_early_start is_started_before calls_in can_call callees has_code is_initialiser is_constructor is_movable
shared_main = refl

shared_beside : can_call asking asking_script 1 2 ≡ true
unfolding object_name print_stream_name on_value superclass_in superclass_of object_class is_loose_kind is_loose_in is_loose held_base held first_held class_above fewer above_objects next_in next_above is_same_base is_same_type rises_to reach brackets behind_brackets base_of type_of_kind type_of_found type_of_class is_of_file is_file_interface class_in script_of class_of_found class_asked given_for free_in free_answer unpinned_in is_scripted_kind is_scripted_in is_scripted has_answer is_free is_stateful is_pinned has_name_of_stream is_of_stream interfaces_in interfaces_of extends lists implements holds_in holds_of is_print must_stay declaring_in class_of if_stateful stateful_class same_types same_result stands_for declared_from declared first_of_two next_class found_within if_outside selected has_interface is_held_below is_class_below receives_by receives_in receives is_it class_numbers selects class_in_base class_in_type class_in_field started_by inherits_within inherits initialiser_in initialiser_of initialises can_start insns_of_kind some_insn is_abstract_kind is_built_in_kind is_counted invokes calls_by_invoke calls_by_start calls_by_early_start is_started_before calls_in can_call callees has_code is_initialiser is_constructor is_movable
shared_beside = refl

shared_class : stateful_class asking asking_script 2 ≡ Some 0
unfolding object_name print_stream_name on_value superclass_in superclass_of object_class is_loose_kind is_loose_in is_loose held_base held first_held class_above fewer above_objects next_in next_above is_same_base is_same_type rises_to reach brackets behind_brackets base_of type_of_kind type_of_found type_of_class is_of_file is_file_interface class_in script_of class_of_found class_asked given_for free_in free_answer unpinned_in is_scripted_kind is_scripted_in is_scripted has_answer is_free is_stateful is_pinned has_name_of_stream is_of_stream interfaces_in interfaces_of extends lists implements holds_in holds_of is_print must_stay declaring_in class_of if_stateful stateful_class same_types same_result stands_for declared_from declared first_of_two next_class found_within if_outside selected has_interface is_held_below is_class_below receives_by receives_in receives is_it class_numbers selects class_in_base class_in_type class_in_field started_by inherits_within inherits initialiser_in initialiser_of initialises can_start insns_of_kind some_insn is_abstract_kind is_built_in_kind is_counted invokes calls_by_invoke calls_by_start calls_by_early_start is_started_before calls_in can_call callees has_code is_initialiser is_constructor is_movable
shared_class = refl

shared_none : (m : ℕ) → (m ≡ 0) ⊎ (m ≡ 2) → must_stay asking asking_script m ≡ false
unfolding object_name print_stream_name on_value superclass_in superclass_of object_class is_loose_kind is_loose_in is_loose held_base held first_held class_above fewer above_objects next_in next_above is_same_base is_same_type rises_to reach brackets behind_brackets base_of type_of_kind type_of_found type_of_class is_of_file is_file_interface class_in script_of class_of_found class_asked given_for free_in free_answer unpinned_in is_scripted_kind is_scripted_in is_scripted has_answer is_free is_stateful is_pinned has_name_of_stream is_of_stream interfaces_in interfaces_of extends lists implements holds_in holds_of is_print must_stay declaring_in class_of if_stateful stateful_class same_types same_result stands_for declared_from declared first_of_two next_class found_within if_outside selected has_interface is_held_below is_class_below receives_by receives_in receives is_it class_numbers selects class_in_base class_in_type class_in_field started_by inherits_within inherits initialiser_in initialiser_of initialises can_start insns_of_kind some_insn is_abstract_kind is_built_in_kind is_counted invokes calls_by_invoke calls_by_start calls_by_early_start is_started_before calls_in can_call callees has_code is_initialiser is_constructor is_movable
shared_none m (inl e) = subst (λ (n : ℕ). must_stay asking asking_script n ≡ false) (sym e) refl
shared_none m (inr e) = subst (λ (n : ℕ). must_stay asking asking_script n ≡ false) (sym e) refl

shared_once : list_all (λ c. is_in c (2 ∷ [])) (callees asking asking_script 0) ≡ true
unfolding object_name print_stream_name on_value superclass_in superclass_of object_class is_loose_kind is_loose_in is_loose held_base held first_held class_above fewer above_objects next_in next_above is_same_base is_same_type rises_to reach brackets behind_brackets base_of type_of_kind type_of_found type_of_class is_of_file is_file_interface class_in script_of class_of_found class_asked given_for free_in free_answer unpinned_in is_scripted_kind is_scripted_in is_scripted has_answer is_free is_stateful is_pinned has_name_of_stream is_of_stream interfaces_in interfaces_of extends lists implements holds_in holds_of is_print must_stay declaring_in class_of if_stateful stateful_class same_types same_result stands_for declared_from declared first_of_two next_class found_within if_outside selected has_interface is_held_below is_class_below receives_by receives_in receives is_it class_numbers selects class_in_base class_in_type class_in_field started_by inherits_within inherits initialiser_in initialiser_of initialises can_start insns_of_kind some_insn is_abstract_kind is_built_in_kind is_counted invokes calls_by_invoke calls_by_start calls_by_early_start is_started_before calls_in can_call callees has_code is_initialiser is_constructor is_movable
shared_once = refl

shared_end : closed asking asking_script (2 ∷ []) ≡ true
unfolding object_name print_stream_name on_value superclass_in superclass_of object_class is_loose_kind is_loose_in is_loose held_base held first_held class_above fewer above_objects next_in next_above is_same_base is_same_type rises_to reach brackets behind_brackets base_of type_of_kind type_of_found type_of_class is_of_file is_file_interface class_in script_of class_of_found class_asked given_for free_in free_answer unpinned_in is_scripted_kind is_scripted_in is_scripted has_answer is_free is_stateful is_pinned has_name_of_stream is_of_stream interfaces_in interfaces_of extends lists implements holds_in holds_of is_print must_stay declaring_in class_of if_stateful stateful_class same_types same_result stands_for declared_from declared first_of_two next_class found_within if_outside selected has_interface is_held_below is_class_below receives_by receives_in receives is_it class_numbers selects class_in_base class_in_type class_in_field started_by inherits_within inherits initialiser_in initialiser_of initialises can_start insns_of_kind some_insn is_abstract_kind is_built_in_kind is_counted invokes calls_by_invoke calls_by_start calls_by_early_start is_started_before calls_in can_call callees has_code is_initialiser is_constructor is_movable
shared_end = refl

shared_closed : closed asking asking_script (0 ∷ 2 ∷ []) ≡ true
unfolding object_name print_stream_name on_value superclass_in superclass_of object_class is_loose_kind is_loose_in is_loose held_base held first_held class_above fewer above_objects next_in next_above is_same_base is_same_type rises_to reach brackets behind_brackets base_of type_of_kind type_of_found type_of_class is_of_file is_file_interface class_in script_of class_of_found class_asked given_for free_in free_answer unpinned_in is_scripted_kind is_scripted_in is_scripted has_answer is_free is_stateful is_pinned has_name_of_stream is_of_stream interfaces_in interfaces_of extends lists implements holds_in holds_of is_print must_stay declaring_in class_of if_stateful stateful_class same_types same_result stands_for declared_from declared first_of_two next_class found_within if_outside selected has_interface is_held_below is_class_below receives_by receives_in receives is_it class_numbers selects class_in_base class_in_type class_in_field started_by inherits_within inherits initialiser_in initialiser_of initialises can_start insns_of_kind some_insn is_abstract_kind is_built_in_kind is_counted invokes calls_by_invoke calls_by_start calls_by_early_start is_started_before calls_in can_call callees has_code is_initialiser is_constructor is_movable
shared_closed = refl

shared_reached : closed asking asking_script (0 ∷ 1 ∷ 2 ∷ []) ≡ true
unfolding object_name print_stream_name on_value superclass_in superclass_of object_class is_loose_kind is_loose_in is_loose held_base held first_held class_above fewer above_objects next_in next_above is_same_base is_same_type rises_to reach brackets behind_brackets base_of type_of_kind type_of_found type_of_class is_of_file is_file_interface class_in script_of class_of_found class_asked given_for free_in free_answer unpinned_in is_scripted_kind is_scripted_in is_scripted has_answer is_free is_stateful is_pinned has_name_of_stream is_of_stream interfaces_in interfaces_of extends lists implements holds_in holds_of is_print must_stay declaring_in class_of if_stateful stateful_class same_types same_result stands_for declared_from declared first_of_two next_class found_within if_outside selected has_interface is_held_below is_class_below receives_by receives_in receives is_it class_numbers selects class_in_base class_in_type class_in_field started_by inherits_within inherits initialiser_in initialiser_of initialises can_start insns_of_kind some_insn is_abstract_kind is_built_in_kind is_counted invokes calls_by_invoke calls_by_start calls_by_early_start is_started_before calls_in can_call callees has_code is_initialiser is_constructor is_movable
shared_reached = refl

-- of the methods that are reached next alone takes answers
answered : list_all (λ m. (2 == m) || is_none (stateful_class asking asking_script m)) (0 ∷ 1 ∷ 2 ∷ []) ≡ true
unfolding object_name print_stream_name on_value superclass_in superclass_of object_class is_loose_kind is_loose_in is_loose held_base held first_held class_above fewer above_objects next_in next_above is_same_base is_same_type rises_to reach brackets behind_brackets base_of type_of_kind type_of_found type_of_class is_of_file is_file_interface class_in script_of class_of_found class_asked given_for free_in free_answer unpinned_in is_scripted_kind is_scripted_in is_scripted has_answer is_free is_stateful is_pinned has_name_of_stream is_of_stream interfaces_in interfaces_of extends lists implements holds_in holds_of is_print must_stay declaring_in class_of if_stateful stateful_class same_types same_result stands_for declared_from declared first_of_two next_class found_within if_outside selected has_interface is_held_below is_class_below receives_by receives_in receives is_it class_numbers selects class_in_base class_in_type class_in_field started_by inherits_within inherits initialiser_in initialiser_of initialises can_start insns_of_kind some_insn is_abstract_kind is_built_in_kind is_counted invokes calls_by_invoke calls_by_start calls_by_early_start is_started_before calls_in can_call callees has_code is_initialiser is_constructor is_movable
answered = refl

if_answered : (m class : ℕ) (found : Option ℕ) → ((2 == m) || is_none found) ≡ true → found ≡ Some class → m ≡ 2
if_answered m class None h e = cc
if_answered m class (Some c) h e = elim (or_case (2 == m) false h) [ inl same ↦ sym (eqb-true 2 m same) | inr none ↦ cc ]

takes_answers : (m class : ℕ) → IsReached asking asking_script m → stateful_class asking asking_script m ≡ Some class → m ≡ 2
takes_answers m class (inl e) h = if_answered m class (stateful_class asking asking_script m) (passes (λ n. (2 == n) || is_none (stateful_class asking asking_script n)) (0 ∷ 1 ∷ 2 ∷ []) m answered (subst (λ (n : ℕ). is_in n (0 ∷ 1 ∷ 2 ∷ []) ≡ true) (sym e) refl)) h
takes_answers m class (inr leads) h = if_answered m class (stateful_class asking asking_script m) (passes (λ n. (2 == n) || is_none (stateful_class asking asking_script n)) (0 ∷ 1 ∷ 2 ∷ []) m answered (leads_in asking asking_script (0 ∷ 1 ∷ 2 ∷ []) shared_reached refl leads)) h

starts_f : (m : ℕ) → IsMoved (moving (0 ∷ [])) m → is_in m (0 ∷ 2 ∷ []) ≡ true
starts_f m c = subst (λ (k : ℕ). is_in k (0 ∷ 2 ∷ []) ≡ true) (sym (only_moved 0 m c)) refl

not_itself : (script : Script) → closed asking script (2 ∷ []) ≡ true → list_all (λ c. is_in c (2 ∷ [])) (callees asking script 0) ≡ true → (m1 m2 : ℕ) → m1 ≡ 0 → m2 ≡ 0 → Reaches asking script m1 m2 → ⊥
not_itself script stays starts m1 m2 e1 e2 r =
    let r1 : Reaches asking script 0 0 = subst (λ (m : ℕ). Reaches asking script m 0) e1 (subst (λ (m : ℕ). Reaches asking script m1 m) e2 r) in
    let h = reached_in asking script (2 ∷ []) stays 0 0 starts r1 in cc

abbrev AskBreaks : Script → (rule m1 m2 : ℕ) → Type 0
AskBreaks script rule m1 m2 = Breaks asking script (IsMoved (moving (0 ∷ []))) (IsMoved (moving (0 ∷ []))) rule m1 m2

pinned_first : (rule m1 m2 : ℕ) → IsTriedBefore rule 2 → AskBreaks no_script rule m1 m2 → ⊥
pinned_first rule m1 m2 four_two (nested a b r) = not_itself no_script ask_end ask_once m1 m2 (only_moved 0 m1 a) (only_moved 0 m2 b) r

pinned_at : (m : ℕ) → (m ≡ 0) ⊎ (m ≡ 2) → must_stay asking no_script m ≡ true → (2 < m) ⊎ ((2 ≡ m) × (2 ≤ m))
pinned_at m (inl e) h = let k : must_stay asking no_script 0 ≡ true = subst (λ (n : ℕ). must_stay asking no_script n ≡ true) e h in let f = ask_leaves in cc
pinned_at m (inr e) h = inr (sym e, omega (arith, e))

pinned_least : (m1 m2 : ℕ) → AskBreaks no_script 2 m1 m2 → (2 < m1) ⊎ ((2 ≡ m1) × (2 ≤ m2))
pinned_least m1 m2 (kept h u) = pinned_at m1 (two 0 2 m1 (under_in asking no_script (0 ∷ 2 ∷ []) (moving (0 ∷ [])) ask_closed starts_f m1 u)) h

parted_first : (rule m1 m2 : ℕ) → IsTriedBefore rule 3 → AskBreaks asking_script rule m1 m2 → ⊥
parted_first rule m1 m2 four_three (nested a b r) = not_itself asking_script shared_end shared_once m1 m2 (only_moved 0 m1 a) (only_moved 0 m2 b) r
parted_first rule m1 m2 two_three (kept h u) = let f = shared_none m1 (two 0 2 m1 (under_in asking asking_script (0 ∷ 2 ∷ []) (moving (0 ∷ [])) shared_closed starts_f m1 u)) in cc

parted_least : (m1 m2 : ℕ) → AskBreaks asking_script 3 m1 m2 → (2 < m1) ⊎ ((2 ≡ m1) × (2 ≤ m2))
parted_least m1 m2 (parted s u o) = let e = takes_answers m2 s.0 s.2 s.4 in inr (sym (takes_answers m1 s.0 s.1 s.3), omega (arith, e))

next_outer : IsOuter asking asking_script (moving (0 ∷ [])) 2
next_outer = called (others_stay 2 refl) (begins (others_stay 1 refl)) (inl refl, shared_beside)

pub rules_hold : RulesHold
rules_hold = record {
  itself = record { breaks = nested f_moves f_moves (direct (inr (one loop_main), loop_calls)); first = λ rule m1 m2 before b. none_before rule 4 refl before; least = loop_least };
  pinned = record { breaks = kept ask_stays (below f_moves (direct (inr (one ask_main), ask_calls))); first = pinned_first; least = pinned_least };
  parted = record {
    breaks = parted (0, inr (one shared_beside), inr (one shared_beside), shared_class, shared_class) (below f_moves (direct (inr (one shared_main), shared_calls))) next_outer;
    first = parted_first;
    least = parted_least;
  };
}
