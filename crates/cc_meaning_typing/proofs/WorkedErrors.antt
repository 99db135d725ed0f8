-- The worked example of outside exceptions holds, computed from the definitions.
use Rattle.std.proofs.Common.{refl, ap, inl, inr, ℕ, ◌≡◌, ◌<◌, ◌≤◌, zero, suc, arith, Some, slice_get}
use Rattle.cc_meaning.specs.declared.program.Base.TheVariants as base
use Rattle.cc_meaning.specs.declared.program.DexType.{DexType}
use Rattle.cc_meaning.specs.declared.program.Field.{Field}
use Rattle.cc_meaning.specs.declared.program.Method.{Method}
use Rattle.cc_meaning.specs.BuiltIn.{object_name, string_name, throwable_name, exception_name}
use Rattle.cc_meaning_typing.specs.Hierarchy.{on_value, superclass_in, superclass_of, object_class, climb, climbs_to, has_ancestor, IsHierarchy, itself as inherits, further}
use Rattle.cc_meaning_typing.specs.Types.{typed, array_of, class_type, IsBelow, is_class, is_reference_in, is_reference, is_loose_kind, is_loose_in, is_loose, held_base, held, first_held, class_above, fewer, above_objects, next_in, next_above, is_same_base, is_same_type, rises_to, reach, first_shared, least_above, fits_class, classes}
use Rattle.cc_meaning_typing.specs.Heights.{depth_in, depth, rank_in, rank}
use Rattle.cc_meaning_typing.specs.Registers.{same, references, join, register_of_kind, register_of}
use Rattle.cc_meaning_typing.specs.States.{without_low, without_high, clear_behind, clear_before, write, write_long, without_fresh, forget_fresh, constructed, construct, registers_of_kind, registers_of, argument_registers, opening}
use Rattle.cc_meaning_typing.specs.Code.{is_array_of, is_array, element_of, string_type, throwable_type, brackets, behind_brackets, base_of, type_of_kind, type_of_found, type_of_class, address_of, address, placed_at, insn_of, insn_at, type_made_by, type_made_at, targets_in, case_targets, successors_of, successors, divides, can_throw, catches_of, catches_at, handlers}
use Rattle.cc_meaning_typing.specs.Rules.{form_of, number_width, is_constructor, write_kind, write_declared, write_pending, int_constant, write_named, element_known, element_for, write_field, construct_known, registers_called, registers_converted, registers_after, pending_result, result_of, pending_call, pending_array, pending_after, after, caught_type, handler_state}
use Rattle.cc_meaning_typing.proofs.Tree.{rises_rank}
use Rattle.cc_meaning_typing.proofs.Below.{rises_of}
use Rattle.cc_meaning_typing.specs.WorkedErrors.{program, e_type, strings, exceptions, foo, passes, makes, foo_field, ErrorTypesHold, ErrorsHold}

leads : (class : ℕ) → class < 8 → climb program 8 class ≡ object_class program
unfolding on_value superclass_in superclass_of object_class climb object_name string_name throwable_name exception_name
leads zero l = refl
leads (suc zero) l = refl
leads (suc (suc zero)) l = refl
leads (suc (suc (suc zero))) l = refl
leads (suc (suc (suc (suc zero)))) l = refl
leads (suc (suc (suc (suc (suc zero))))) l = refl
leads (suc (suc (suc (suc (suc (suc zero)))))) l = refl
leads (suc (suc (suc (suc (suc (suc (suc zero))))))) l = refl
leads (suc (suc (suc (suc (suc (suc (suc (suc n)))))))) l = absurd (omega arith)

is_hierarchy : IsHierarchy program
unfolding on_value superclass_in superclass_of object_class climb object_name string_name throwable_name exception_name
is_hierarchy = record { object = refl; top = refl; leads = leads }

-- a type isn't below another that is no nearer to Object
not_below : (a b : DexType) → (a ≡ b → ⊥) → rank program a ≤ rank program b → IsBelow program a b → ⊥
not_below a b ne l h = elim (rises_rank program is_hierarchy (rises_of program is_hierarchy h)) [ inl e ↦ ne e | inr m ↦ omega arith ]

apart : (n c d : ℕ) → (c ≡ d → ⊥) → typed n (base.Class c) ≡ typed n (base.Class d) → ⊥
apart n c d ne e = let b : base.Class c ≡ base.Class d = ap (λ (z : DexType). z.base) e in let f : c ≡ d = cc in ne f

ranks_text : rank program strings ≡ 1
unfolding on_value superclass_in superclass_of object_class climb object_name string_name throwable_name exception_name is_loose_kind is_loose_in is_loose first_held class_above depth_in depth rank_in rank
ranks_text = refl

ranks_foo : rank program foo ≡ 3
unfolding on_value superclass_in superclass_of object_class climb object_name string_name throwable_name exception_name is_loose_kind is_loose_in is_loose first_held class_above depth_in depth rank_in rank
ranks_foo = refl

ranks_exceptions : rank program exceptions ≡ 2
unfolding on_value superclass_in superclass_of object_class climb object_name string_name throwable_name exception_name is_loose_kind is_loose_in is_loose first_held class_above depth_in depth rank_in rank
ranks_exceptions = refl

ranks_texts : rank program (array_of strings) ≡ 2
unfolding on_value superclass_in superclass_of object_class climb object_name string_name throwable_name exception_name is_loose_kind is_loose_in is_loose first_held class_above depth_in depth rank_in rank
ranks_texts = refl

ranks_foos : rank program (array_of foo) ≡ 4
unfolding on_value superclass_in superclass_of object_class climb object_name string_name throwable_name exception_name is_loose_kind is_loose_in is_loose first_held class_above depth_in depth rank_in rank
ranks_foos = refl

no_text : IsBelow program strings foo → ⊥
no_text = not_below strings foo (apart 0 5 7 (λ e. omega arith)) (omega (arith, ranks_text, ranks_foo))

no_exception : IsBelow program exceptions foo → ⊥
no_exception = not_below exceptions foo (apart 0 3 7 (λ e. omega arith)) (omega (arith, ranks_exceptions, ranks_foo))

no_texts : IsBelow program (array_of strings) (array_of foo) → ⊥
no_texts = not_below (array_of strings) (array_of foo) (apart 1 5 7 (λ e. omega arith)) (omega (arith, ranks_texts, ranks_foos))

foo_below : IsBelow program foo (class_type 6)
unfolding superclass_in superclass_of is_loose_kind is_loose_in is_loose
foo_below = classes (further refl (further refl inherits)) refl

e_below : IsBelow program e_type foo
unfolding superclass_in superclass_of is_loose_kind is_loose_in is_loose
e_below = classes (further refl inherits) refl

f_below : IsBelow program (class_type 2) foo
unfolding superclass_in superclass_of is_loose_kind is_loose_in is_loose
f_below = classes (further refl inherits) refl

e_throwable : IsBelow program e_type (class_type 6)
unfolding superclass_in superclass_of is_loose_kind is_loose_in is_loose
e_throwable = classes (further refl (further refl (further refl inherits))) refl

pub error_types_hold : ErrorTypesHold
unfolding on_value superclass_in superclass_of object_class climb object_name string_name throwable_name exception_name is_loose_kind is_loose_in is_loose is_class is_reference_in is_reference held_base held first_held class_above fewer above_objects next_in next_above is_same_base is_same_type rises_to reach first_shared least_above join register_of_kind register_of climbs_to has_ancestor fits_class
error_types_hold = record {
  hierarchy = is_hierarchy;
  itself = refl;
  in_array = refl;
  siblings = refl;
  joined = refl;
  with_built_in = refl;
  with_text = refl;
  arrays = refl;
  below = foo_below;
  fits = references e_below;
  no_text = λ h. elim h [ references g ↦ no_text g ];
  no_exception = λ h. elim h [ references g ↦ no_exception g ];
  no_array_of_texts = λ h. elim h [ references g ↦ no_texts g ];
  by_number = refl;
  no_text_by_number = refl;
}

same_field : (f g : Field) → slice_get program.fields 0 ≡ Some f → slice_get program.fields 0 ≡ Some g → f ≡ g
same_field f g e h = cc

same_method : (number : ℕ) (f g : Method) → slice_get program.methods number ≡ Some f → slice_get program.methods number ≡ Some g → f ≡ g
same_method number f g e h = cc

pub errors_hold : ErrorsHold
unfolding on_value superclass_in superclass_of object_class object_name string_name throwable_name exception_name is_loose_kind is_loose_in is_loose is_class is_reference_in is_reference held_base held register_of_kind register_of fewer is_array_of is_array element_of string_type throwable_type brackets behind_brackets base_of type_of_kind type_of_found type_of_class address_of address placed_at insn_of insn_at type_made_by type_made_at form_of number_width is_constructor write_kind write_declared write_pending int_constant write_named element_known element_for write_field construct_known registers_called registers_converted registers_after pending_result result_of pending_call pending_array pending_after after without_low without_high clear_behind clear_before write write_long without_fresh forget_fresh constructed construct targets_in case_targets successors_of successors divides can_throw catches_of catches_at handlers caught_type handler_state registers_of_kind registers_of argument_registers opening
errors_hold = record {
  made = ((makes, refl, (inr (refl, (2, refl, refl)), refl)), refl);
  thrown = (references foo_below, refl);
  subclass_thrown = (references e_throwable, refl);
  handled = refl;
  caught = ((omega arith, (foo, refl)), refl);
  cast = ((refl, same), refl);
  argument = ((passes, refl, (same, (references e_below, refl))), refl);
  no_text_as_argument = λ h. let t = same_method 0 passes h.0 refl h.1 in let f = rw (← t) at h.2.1 in elim f.0 [ references g ↦ no_text g ];
  result = ((omega arith, (foo, refl, refl)), refl);
  returned = (foo, refl, refl, (references e_below, tt));
  no_text_returned = λ h. let e = h.1 in let t : foo ≡ h.0 = cc in let f = rw (← t) at h.3.0 in elim f [ references g ↦ no_text g ];
  got = ((omega arith, (foo_field, refl, refl, same)), refl);
  put = ((foo_field, refl, refl, (same, (references f_below, tt))), refl);
  no_text_put = λ h. let t = same_field foo_field h.0 refl h.1 in let f = rw (← t) at h.3.1.0 in elim f [ references g ↦ no_text g ];
  element = ((omega arith, same, inr (foo, refl, refl)), refl);
  filled = ((refl, λ e. cc, (references e_below, tt)), refl);
  no_text_filled = λ h. elim h.2.0 [ references g ↦ no_text g ];
  opens = refl;
}
