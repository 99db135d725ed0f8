-- The worked examples hold, computed from the definitions.
use Rattle.std.proofs.Common.{refl, ap, inl, inr, ℕ, ◌≡◌, ◌<◌, ◌≤◌, zero, suc, arith, [], ◌∷◌, Some, None, slice_get, codes}
use Rattle.cc_meaning.specs.declared.program.Base.TheVariants as base
use Rattle.cc_meaning.specs.declared.program.DexType.{DexType}
use Rattle.cc_meaning.specs.declared.program.Field.{Field}
use Rattle.cc_meaning.specs.declared.program.Method.{Method}
use Rattle.cc_meaning.specs.BuiltIn.{object_name, string_name, throwable_name}
use Rattle.cc_meaning_typing.specs.Hierarchy.{on_value, superclass_in, superclass_of, object_class, climb, IsHierarchy, itself as inherits, further}
use Rattle.cc_meaning_typing.specs.Types.{typed, array_of, class_type, IsBelow, is_class, is_reference_in, is_reference, is_loose_kind, is_loose_in, is_loose, held_base, held, first_held, class_above, fewer, above_objects, next_in, next_above, is_same_base, is_same_type, rises_to, reach, first_shared, least_above, object, classes, elements}
use Rattle.cc_meaning_typing.specs.Heights.{depth_in, depth, rank_in, rank}
use Rattle.cc_meaning_typing.specs.Registers.{same, zero_int, zero_reference, references, join, register_of_kind, register_of}
use Rattle.cc_meaning_typing.specs.States.{without_low, without_high, clear_behind, clear_before, write, write_long, without_fresh, forget_fresh, constructed, construct, registers_of_kind, registers_of, argument_registers, opening}
use Rattle.cc_meaning_typing.specs.Code.{is_array_of, is_array, element_of, string_type, throwable_type, brackets, behind_brackets, base_of, type_of_kind, type_of_found, type_of_class, address_of, address, placed_at, insn_of, insn_at, type_made_by, type_made_at, targets_in, case_targets, successors_of, successors, divides, can_throw, catches_of, catches_at, handlers}
use Rattle.cc_meaning_typing.specs.Rules.{form_of, number_width, is_constructor, write_kind, write_declared, write_pending, int_constant, write_named, element_known, element_for, write_field, construct_known, registers_called, registers_converted, registers_after, pending_result, result_of, pending_call, pending_array, pending_after, after, caught_type, handler_state}
use Rattle.cc_meaning_typing.specs.Worked.{program, a_type, b_type, i_type, x_type, objects, throwables, int_type, long_type, boolean_type, ints, field_of, method_of, TypesHold, JoinsHold, MovesHold, ResultsHold, ReturnsHold, ConstantsHold, ObjectsHold, ArraysHold, FieldsHold, CallsHold, OperationsHold, BranchesHold, StatesHold}
use Rattle.cc_meaning_typing.proofs.Tree.{rises_rank}
use Rattle.cc_meaning_typing.proofs.Below.{rises_of}
use Rattle.cc_meaning_typing.proofs.Monotone.{array_parts}

leads : (class : ℕ) → class < 11 → climb program 11 class ≡ object_class program
unfolding on_value superclass_in superclass_of object_class climb object_name string_name throwable_name
leads zero l = refl
leads (suc zero) l = refl
leads (suc (suc zero)) l = refl
leads (suc (suc (suc zero))) l = refl
leads (suc (suc (suc (suc zero)))) l = refl
leads (suc (suc (suc (suc (suc zero))))) l = refl
leads (suc (suc (suc (suc (suc (suc zero)))))) l = refl
leads (suc (suc (suc (suc (suc (suc (suc zero))))))) l = refl
leads (suc (suc (suc (suc (suc (suc (suc (suc zero)))))))) l = refl
leads (suc (suc (suc (suc (suc (suc (suc (suc (suc zero))))))))) l = refl
leads (suc (suc (suc (suc (suc (suc (suc (suc (suc (suc zero)))))))))) l = refl
leads (suc (suc (suc (suc (suc (suc (suc (suc (suc (suc (suc n))))))))))) l = absurd (omega arith)

is_hierarchy : IsHierarchy program
unfolding on_value superclass_in superclass_of object_class climb object_name string_name throwable_name
is_hierarchy = record { object = refl; top = refl; leads = leads }

pub types_hold : TypesHold
unfolding on_value superclass_in superclass_of object_class climb object_name string_name throwable_name is_loose_kind is_loose_in is_loose held_base held first_held class_above fewer above_objects next_in next_above is_same_base is_same_type rises_to reach first_shared least_above brackets behind_brackets base_of type_of_kind type_of_found type_of_class
types_hold = record { hierarchy = is_hierarchy; outside = refl; «interface» = refl; file = refl; siblings = refl; ancestor = refl; under_outside = refl; arrays = refl; numbers = refl; number_arrays = refl; unlike_dims = refl; array_class = refl }

apart : (c d : ℕ) → (c ≡ d → ⊥) → class_type c ≡ class_type d → ⊥
apart c d ne e = let b : base.Class c ≡ base.Class d = ap (λ (z : DexType). z.base) e in let f : c ≡ d = cc in ne f

-- a class isn't below another that is no nearer to Object
not_below : (c d : ℕ) → (c ≡ d → ⊥) → rank program (class_type c) ≤ rank program (class_type d) → IsBelow program (class_type c) (class_type d) → ⊥
not_below c d ne l h = elim (rises_rank program is_hierarchy (rises_of program is_hierarchy h)) [ inl e ↦ apart c d ne e | inr m ↦ omega arith ]

rank_a : rank program (class_type 0) ≡ 1
unfolding on_value superclass_in superclass_of object_class climb object_name string_name throwable_name is_loose_kind is_loose_in is_loose first_held class_above depth_in depth rank_in rank
rank_a = refl

rank_b : rank program (class_type 1) ≡ 2
unfolding on_value superclass_in superclass_of object_class climb object_name string_name throwable_name is_loose_kind is_loose_in is_loose first_held class_above depth_in depth rank_in rank
rank_b = refl

rank_c : rank program (class_type 2) ≡ 2
unfolding on_value superclass_in superclass_of object_class climb object_name string_name throwable_name is_loose_kind is_loose_in is_loose first_held class_above depth_in depth rank_in rank
rank_c = refl

rank_y : rank program (class_type 5) ≡ 1
unfolding on_value superclass_in superclass_of object_class climb object_name string_name throwable_name is_loose_kind is_loose_in is_loose first_held class_above depth_in depth rank_in rank
rank_y = refl

rank_throwable : rank program (class_type 9) ≡ 1
unfolding on_value superclass_in superclass_of object_class climb object_name string_name throwable_name is_loose_kind is_loose_in is_loose first_held class_above depth_in depth rank_in rank
rank_throwable = refl

pub joins_hold : JoinsHold
unfolding on_value superclass_in superclass_of object_class climb object_name string_name throwable_name is_loose_kind is_loose_in is_loose is_class is_reference_in is_reference held_base held first_held class_above fewer above_objects next_in next_above is_same_base is_same_type rises_to reach first_shared least_above join register_of_kind register_of
joins_hold = record {
  equal = refl;
  zero_int = refl;
  zero_reference = refl;
  references = refl;
  int_reference = refl;
  halves = refl;
  fresh = refl;
  other_fresh = refl;
  loose = references (object refl);
  loose_array = references (elements refl refl (object refl));
  superclass = references (classes (further refl inherits) refl);
  null = zero_reference;
  boolean = zero_int;
  long = same;
  not_subclass = λ h. elim h [ references g ↦ not_below 0 1 (λ e. omega arith) (omega (arith, rank_a, rank_b)) g ];
  not_number = λ h. elim h [ ];
  not_half = λ h. elim h [ ];
}

b_below_a : IsBelow program b_type a_type
unfolding superclass_in superclass_of is_loose_kind is_loose_in is_loose
b_below_a = classes (further refl inherits) refl

no_elements : (class : ℕ) (t : DexType) → class_type class ≡ array_of t → ⊥
no_elements class t e = let d : zero ≡ suc t.dims = ap (λ (z : DexType). z.dims) e in cc

same_field : (number : ℕ) (f g : Field) → slice_get program.fields number ≡ Some f → slice_get program.fields number ≡ Some g → f ≡ g
same_field number f g e h = cc

same_method : (number : ℕ) (f g : Method) → slice_get program.methods number ≡ Some f → slice_get program.methods number ≡ Some g → f ≡ g
same_method number f g e h = cc

pub moves_hold : MovesHold
unfolding on_value superclass_in superclass_of object_class object_name string_name throwable_name is_loose_kind is_loose_in is_loose is_class is_reference_in is_reference held_base held register_of_kind register_of fewer is_array_of is_array element_of string_type throwable_type brackets behind_brackets base_of type_of_kind type_of_found type_of_class address_of address placed_at insn_of insn_at type_made_by type_made_at form_of number_width is_constructor write_kind write_declared write_pending int_constant write_named element_known element_for write_field construct_known registers_called registers_converted registers_after pending_result result_of pending_call pending_array pending_after after without_low without_high clear_behind clear_before write write_long without_fresh forget_fresh constructed construct
moves_hold = record {
  int = ((omega arith, zero_int), refl);
  no_int = λ h. elim h.1 [ ];
  past_the_last = λ h. let l = h.0 in omega arith;
  long = ((omega arith, (same, same)), refl);
  half = λ h. elim h.1.1 [ ];
  reference = ((omega arith, inl (references (object refl))), refl);
  fresh = ((omega arith, inr (2, refl)), refl);
  no_reference = λ h. elim h.1 [ inl x ↦ elim x [ ] | inr x ↦ let e = x.1 in cc ];
}

pub results_hold : ResultsHold
unfolding on_value superclass_in superclass_of object_class object_name string_name throwable_name is_loose_kind is_loose_in is_loose is_class is_reference_in is_reference held_base held register_of_kind register_of fewer is_array_of is_array element_of string_type throwable_type brackets behind_brackets base_of type_of_kind type_of_found type_of_class address_of address placed_at insn_of insn_at type_made_by type_made_at form_of number_width is_constructor write_kind write_declared write_pending int_constant write_named element_known element_for write_field construct_known registers_called registers_converted registers_after pending_result result_of pending_call pending_array pending_after after without_low without_high clear_behind clear_before write write_long without_fresh forget_fresh constructed construct
results_hold = record {
  boolean = ((omega arith, (boolean_type, refl, refl)), refl);
  long = ((omega arith, (long_type, refl, refl)), refl);
  loose = ((omega arith, (x_type, refl, refl)), refl);
  other_form = λ h. let e = h.1.1 in let t : long_type ≡ h.1.0 = cc in let f = rw (← t) at h.1.2 in cc;
  nothing = λ h. let e = h.1.1 in cc;
  no_result = λ h. let e = h.1.1 in cc;
  caught = ((omega arith, (throwables, refl)), refl);
  not_caught = λ h. let e = h.1.1 in cc;
  dropped = (tt, refl);
}

pub returns_hold : ReturnsHold
unfolding on_value superclass_in superclass_of object_class object_name string_name throwable_name is_loose_kind is_loose_in is_loose is_class is_reference_in is_reference held_base held register_of_kind register_of fewer is_array_of is_array element_of string_type throwable_type brackets behind_brackets base_of type_of_kind type_of_found type_of_class address_of address placed_at insn_of insn_at type_made_by type_made_at form_of number_width is_constructor write_kind write_declared write_pending int_constant write_named element_known element_for write_field construct_known registers_called registers_converted registers_after pending_result result_of pending_call pending_array pending_after after without_low without_high clear_behind clear_before write write_long without_fresh forget_fresh constructed construct
returns_hold = record {
  nothing = refl;
  nothing_for_int = λ h. cc;
  boolean = (boolean_type, refl, refl, (zero_int, tt));
  long = (long_type, refl, refl, (same, same));
  superclass = (a_type, refl, refl, (references b_below_a, tt));
  other_form = λ h. let e = h.1 in let t : int_type ≡ h.0 = cc in let f = rw (← t) at h.2 in cc;
  subclass = λ h. let e = h.1 in let t : b_type ≡ h.0 = cc in let f = rw (← t) at h.3.0 in elim f [ references g ↦ not_below 0 1 (λ k. omega arith) (omega (arith, rank_a, rank_b)) g ];
}

pub constants_hold : ConstantsHold
unfolding on_value superclass_in superclass_of object_class object_name string_name throwable_name is_loose_kind is_loose_in is_loose is_class is_reference_in is_reference held_base held register_of_kind register_of fewer is_array_of is_array element_of string_type throwable_type brackets behind_brackets base_of type_of_kind type_of_found type_of_class address_of address placed_at insn_of insn_at type_made_by type_made_at form_of number_width is_constructor write_kind write_declared write_pending int_constant write_named element_known element_for write_field construct_known registers_called registers_converted registers_after pending_result result_of pending_call pending_array pending_after after without_low without_high clear_behind clear_before write write_long without_fresh forget_fresh constructed construct
constants_hold = record {
  zero = (omega arith, refl);
  seven = (omega arith, refl);
  negative = (omega arith, refl);
  long = (omega arith, refl);
  long_past = λ h. omega arith;
  text = (omega arith, refl);
  class = ((omega arith, refl), refl);
  number_class = λ h. let e = h.1 in cc;
}

pub objects_hold : ObjectsHold
unfolding on_value superclass_in superclass_of object_class object_name string_name throwable_name is_loose_kind is_loose_in is_loose is_class is_reference_in is_reference held_base held register_of_kind register_of fewer is_array_of is_array element_of string_type throwable_type brackets behind_brackets base_of type_of_kind type_of_found type_of_class address_of address placed_at insn_of insn_at type_made_by type_made_at form_of number_width is_constructor write_kind write_declared write_pending int_constant write_named element_known element_for write_field construct_known registers_called registers_converted registers_after pending_result result_of pending_call pending_array pending_after after without_low without_high clear_behind clear_before write write_long without_fresh forget_fresh constructed construct
objects_hold = record {
  monitor = (zero_reference, refl);
  no_monitor = λ h. elim h [ ];
  cast = ((refl, same), refl);
  loose_cast = ((refl, references (object refl)), refl);
  number_cast = λ h. let e = h.0 in cc;
  instance = ((omega arith, refl, references (object refl)), refl);
  fresh_instance = λ h. elim h.2 [ ];
  new = ((omega arith, refl), refl);
  throw = (same, refl);
  no_throw = λ h. elim h [ references g ↦ not_below 0 9 (λ k. omega arith) (omega (arith, rank_a, rank_throwable)) g ];
}

pub arrays_hold : ArraysHold
unfolding on_value superclass_in superclass_of object_class object_name string_name throwable_name is_loose_kind is_loose_in is_loose is_class is_reference_in is_reference held_base held register_of_kind register_of fewer is_array_of is_array element_of string_type throwable_type brackets behind_brackets base_of type_of_kind type_of_found type_of_class address_of address placed_at insn_of insn_at type_made_by type_made_at form_of number_width is_constructor write_kind write_declared write_pending int_constant write_named element_known element_for write_field construct_known registers_called registers_converted registers_after pending_result result_of pending_call pending_array pending_after after without_low without_high clear_behind clear_before write write_long without_fresh forget_fresh constructed construct
arrays_hold = record {
  size = ((omega arith, inr (int_type, refl, tt)), refl);
  null_size = ((omega arith, inl refl), refl);
  no_array = λ h. elim h.1 [ inl e ↦ cc | inr x ↦ let e = x.1 in let f : a_type ≡ array_of x.0 = cc in no_elements 0 x.0 f ];
  new = ((omega arith, refl, same), refl);
  new_class = λ h. let e = h.1 in cc;
  filled = ((refl, λ e. cc, (same, (zero_int, tt))), refl);
  filled_with_longs = λ h. h.1 refl;
  filling = (inr (int_type, refl, refl), refl);
  other_width = λ h. elim h [ inl e ↦ cc | inr x ↦ let e = x.1 in let f : typed 1 base.Short ≡ array_of x.0 = cc in let t = array_parts program (typed 0 base.Short) x.0 f in let k = rw (← t) at x.2 in cc ];
  get = ((omega arith, same, inr (int_type, refl, refl)), refl);
  get_boolean = λ h. elim h.2 [ inl e ↦ cc | inr x ↦ let e = x.1 in let f : typed 1 base.Boolean ≡ array_of x.0 = cc in let t = array_parts program (typed 0 base.Boolean) x.0 f in let k = rw (← t) at x.2 in cc ];
  get_long = ((omega arith, zero_int, inr (long_type, refl, refl)), refl);
  get_array = ((omega arith, zero_int, inr (ints, refl, refl)), refl);
  get_null = ((omega arith, zero_int, inl refl), refl);
  put = ((same, inr (b_type, refl, refl), references (object refl)), refl);
  put_int = λ h. elim h.2 [ ];
}

pub fields_hold : FieldsHold
unfolding on_value superclass_in superclass_of object_class object_name string_name throwable_name is_loose_kind is_loose_in is_loose is_class is_reference_in is_reference held_base held register_of_kind register_of fewer is_array_of is_array element_of string_type throwable_type brackets behind_brackets base_of type_of_kind type_of_found type_of_class address_of address placed_at insn_of insn_at type_made_by type_made_at form_of number_width is_constructor write_kind write_declared write_pending int_constant write_named element_known element_for write_field construct_known registers_called registers_converted registers_after pending_result result_of pending_call pending_array pending_after after without_low without_high clear_behind clear_before write write_long without_fresh forget_fresh constructed construct
fields_hold = record {
  get = ((omega arith, (field_of int_type, refl, refl, references b_below_a)), refl);
  get_loose = ((omega arith, (field_of i_type, refl, refl, same)), refl);
  get_of_other = λ h. let t = same_field 0 (field_of int_type) h.1.0 refl h.1.1 in let f = rw (← t) at h.1.3 in elim f [ references g ↦ not_below 5 0 (λ k. omega arith) (omega (arith, rank_a, rank_y)) g ];
  put_long = ((field_of long_type, refl, refl, (same, (same, same))), refl);
  put_half = λ h. let t = same_field 1 (field_of long_type) h.0 refl h.1 in let f = rw (← t) at h.3.1.1 in elim f [ ];
  get_static = ((omega arith, (field_of long_type, refl, refl, tt)), refl);
  other_form = λ h. let t = same_field 1 (field_of long_type) h.1.0 refl h.1.1 in let f = rw (← t) at h.1.2 in cc;
  put_static = ((field_of i_type, refl, refl, (references (object refl), tt)), refl);
  put_int = λ h. let t = same_field 2 (field_of i_type) h.0 refl h.1 in let f = rw (← t) at h.3.0 in elim f [ ];
}

abbrev called : Method
called = method_of (codes "m") (int_type ∷ long_type ∷ []) (Some i_type)

abbrev init : Method
init = method_of (codes "<init>") [] None

pub calls_hold : CallsHold
unfolding on_value superclass_in superclass_of object_class object_name string_name throwable_name is_loose_kind is_loose_in is_loose is_class is_reference_in is_reference held_base held register_of_kind register_of fewer is_array_of is_array element_of string_type throwable_type brackets behind_brackets base_of type_of_kind type_of_found type_of_class address_of address placed_at insn_of insn_at type_made_by type_made_at form_of number_width is_constructor write_kind write_declared write_pending int_constant write_named element_known element_for write_field construct_known registers_called registers_converted registers_after pending_result result_of pending_call pending_array pending_after after without_low without_high clear_behind clear_before write write_long without_fresh forget_fresh constructed construct
calls_hold = record {
  virtual = ((called, refl, (references b_below_a, (same, (same, (refl, same, refl))))), refl);
  by_interface = ((called, refl, (references (object refl), (same, (same, (refl, same, refl))))), refl);
  static = ((called, refl, (same, (same, (refl, same, refl)))), refl);
  super = ((called, refl, ((references b_below_a, references b_below_a), (same, (same, (refl, same, refl))))), refl);
  other_receiver = λ h. elim h.2.0 [ references g ↦ not_below 1 2 (λ k. omega arith) (omega (arith, rank_b, rank_c)) g ];
  not_behind = λ h. let t = same_method 0 called h.0 refl h.1 in let f = rw (← t) at h.2.1 in let k = f.1.1.0 in omega arith;
  too_few = λ h. let t = same_method 0 called h.0 refl h.1 in let f = rw (← t) at h.2.1 in f.1;
  too_many = λ h. let t = same_method 0 called h.0 refl h.1 in let f = rw (← t) at h.2.1 in let k = f.1.1.2 in cc;
  constructor = ((init, refl, (inr (refl, (2, refl, refl)), refl)), refl);
  constructed = ((init, refl, (inl (references b_below_a, references b_below_a), refl)), refl);
  of_other_class = λ h. elim h.2.0 [ inl x ↦ elim x.0 [ ] | inr x ↦ let e = x.1.1 in let n : 2 ≡ x.1.0 = cc in let f = rw (← n) at x.1.2 in let t : a_type ≡ objects = cc in apart 0 7 (λ k. omega arith) t ];
  no_constructor = λ h. elim h.2.0 [ inl x ↦ elim x.0 [ ] | inr x ↦ let t = same_method 0 called h.0 refl h.1 in let f = rw (← t) at x.0 in cc ];
}

pub operations_hold : OperationsHold
unfolding on_value superclass_in superclass_of object_class object_name string_name throwable_name is_loose_kind is_loose_in is_loose is_class is_reference_in is_reference held_base held register_of_kind register_of fewer is_array_of is_array element_of string_type throwable_type brackets behind_brackets base_of type_of_kind type_of_found type_of_class address_of address placed_at insn_of insn_at type_made_by type_made_at form_of number_width is_constructor write_kind write_declared write_pending int_constant write_named element_known element_for write_field construct_known registers_called registers_converted registers_after pending_result result_of pending_call pending_array pending_after after without_low without_high clear_behind clear_before write write_long without_fresh forget_fresh constructed construct
operations_hold = record {
  negated = ((omega arith, same), refl);
  negated_long = ((omega arith, (same, same)), refl);
  widened = ((omega arith, zero_int), refl);
  narrowed = ((omega arith, (same, same)), refl);
  to_byte = ((omega arith, same), refl);
  added = ((omega arith, same, zero_int), refl);
  no_sum = λ h. elim h.2 [ ];
  long_sum = ((omega arith, (same, same), (same, same)), refl);
  shifted = ((omega arith, (same, same), same), refl);
  shifted_by_long = λ h. elim h.2 [ ];
  literal = ((omega arith, same), refl);
  compared = ((omega arith, (same, same), (same, same)), refl);
}

pub branches_hold : BranchesHold
unfolding on_value superclass_in superclass_of object_class object_name string_name throwable_name is_loose_kind is_loose_in is_loose is_class is_reference_in is_reference held_base held register_of_kind register_of fewer is_array_of is_array element_of string_type throwable_type brackets behind_brackets base_of type_of_kind type_of_found type_of_class address_of address placed_at insn_of insn_at type_made_by type_made_at form_of number_width is_constructor write_kind write_declared write_pending int_constant write_named element_known element_for write_field construct_known registers_called registers_converted registers_after pending_result result_of pending_call pending_array pending_after after without_low without_high clear_behind clear_before write write_long without_fresh forget_fresh constructed construct
branches_hold = record {
  goto = (tt, refl);
  switch = (same, refl);
  no_switch = λ h. elim h [ ];
  less = ((same, zero_int), refl);
  less_references = λ h. elim h.1 [ ];
  equal_references = (inr (zero_reference, references (object refl)), refl);
  unlike = λ h. elim h [ inl x ↦ elim x.1 [ ] | inr x ↦ elim x.0 [ ] ];
  null = (inr (references (object refl)), refl);
  negative = λ h. elim h [ ];
  payload = λ h. h;
}

pub states_hold : StatesHold
unfolding on_value superclass_in superclass_of object_class object_name string_name throwable_name is_loose_kind is_loose_in is_loose is_class is_reference_in is_reference held_base held register_of_kind register_of fewer is_array_of is_array element_of string_type throwable_type brackets behind_brackets base_of type_of_kind type_of_found type_of_class address_of address placed_at insn_of insn_at type_made_by type_made_at form_of number_width is_constructor write_kind write_declared write_pending int_constant write_named element_known element_for write_field construct_known registers_called registers_converted registers_after pending_result result_of pending_call pending_array pending_after after without_low without_high clear_behind clear_before write write_long without_fresh forget_fresh constructed construct targets_in case_targets successors_of successors divides can_throw catches_of catches_at handlers caught_type handler_state registers_of_kind registers_of argument_registers opening
states_hold = record {
  second_written = refl;
  first_written = refl;
  between = refl;
  half_alone = refl;
  cases = refl;
  no_case = refl;
  before_the_first = refl;
  ended = refl;
  first_try = refl;
  past_the_first = refl;
  throws_nothing = refl;
  divided = refl;
  added = refl;
  handled = refl;
  loosely = refl;
  opens = refl;
}
