-- What the table of built-in classes says, computed.
use Rattle.std.proofs.Common.{◌≡◌, ℕ, zero, suc, Bool, true, false, ◌&&◌, ◌||◌, List, [], ◌∷◌, Option, Some, None, refl, sym, ap, ◌∙◌, subst, slice_get}
use Rattle.std.specs.Prelude.{not, option_and_then}
use Rattle.std.specs.List.{list_all}
use Rattle.std.specs.Str.{bytes_eq}
use Rattle.cc_meaning.specs.BuiltIn.{BuiltInClass, built_in_plain_classes, built_in_throwables, built_in_classes, built_in_class, built_in_superclass, is_built_in, is_built_in_throwable, object_name, string_name, string_builder_name, system_name, print_stream_name, throwable_name, exception_name, error_name, runtime_exception_name, arithmetic_exception_name, null_pointer_exception_name, array_store_exception_name, class_cast_exception_name, index_out_of_bounds_exception_name, negative_array_size_exception_name, illegal_argument_exception_name, illegal_state_exception_name, array_index_out_of_bounds_exception_name, string_index_out_of_bounds_exception_name, linkage_error_name, virtual_machine_error_name, no_class_def_found_error_name, exception_in_initializer_error_name, incompatible_class_change_error_name, abstract_method_error_name, stack_overflow_error_name}
use Rattle.cc_meaning_dex.specs.Descriptors.{names_class}
use Rattle.cc_program_laws.proofs.Lists.{same_bytes, some_same, found_is}
use Rattle.cc_program_laws.proofs.Names.{any_found}

both_true : (a b : Bool) → (a && b) ≡ true → (a ≡ true) × (b ≡ true)
both_true true b e = (refl, e)
both_true false b e = absurd cc

pub all_at : {A : Type 0} (test : A → Bool) (xs : List A) (k : ℕ) (x : A) → list_all test xs ≡ true → slice_get xs k ≡ Some x → test x ≡ true
all_at test [] k x all e = absurd cc
all_at test (y ∷ ys) zero x all e = ap test (sym (some_same y x e)) ∙ (both_true (test y) (list_all test ys) all).0
all_at test (y ∷ ys) (suc k) x all e = all_at test ys k x (both_true (test y) (list_all test ys) all).1 e

-- ---- the superclasses of the table

unfoldable above_passes : (List ℕ → Bool) → Option (List ℕ) → Bool
above_passes test None = true
above_passes test (Some name) = test name

unfoldable is_open_name : List ℕ → Bool
is_open_name name = is_built_in name && (not (bytes_eq name string_name) && not (bytes_eq name string_builder_name))

all_open : list_all (λ (class : BuiltInClass). above_passes is_open_name class.superclass) built_in_classes ≡ true
unfolding above_passes is_open_name built_in_classes built_in_plain_classes built_in_throwables object_name string_name string_builder_name system_name print_stream_name throwable_name exception_name error_name runtime_exception_name arithmetic_exception_name null_pointer_exception_name array_store_exception_name class_cast_exception_name index_out_of_bounds_exception_name negative_array_size_exception_name illegal_argument_exception_name illegal_state_exception_name array_index_out_of_bounds_exception_name string_index_out_of_bounds_exception_name linkage_error_name virtual_machine_error_name no_class_def_found_error_name exception_in_initializer_error_name incompatible_class_change_error_name abstract_method_error_name stack_overflow_error_name
all_open = refl

open_above : (name up : List ℕ) → built_in_superclass name ≡ Some up → is_open_name up ≡ true
unfolding above_passes
open_above name up e = from (built_in_class name) refl e
  where
    from : (o : Option BuiltInClass) → built_in_class name ≡ o → option_and_then (λ (class : BuiltInClass). class.superclass) o ≡ Some up → is_open_name up ≡ true
    from None is e = absurd cc
    from (Some class) is e =
        let found = found_is (λ (c : BuiltInClass). bytes_eq c.name name) built_in_classes class is in
        ap (above_passes is_open_name) (sym e) ∙ all_at (λ (c : BuiltInClass). above_passes is_open_name c.superclass) built_in_classes found.1.0 class all_open found.1.1

not_true : (b : Bool) → not b ≡ true → b ≡ false
not_true true e = absurd cc
not_true false e = refl

pub above_built_in : (name up : List ℕ) → built_in_superclass name ≡ Some up → is_built_in up ≡ true
unfolding is_open_name
above_built_in name up e = (both_true (is_built_in up) _ (open_above name up e)).0

pub above_is_open : (name up : List ℕ) → built_in_superclass name ≡ Some up → (bytes_eq up string_name ≡ false) × (bytes_eq up string_builder_name ≡ false)
unfolding is_open_name
above_is_open name up e =
    let b = both_true (not (bytes_eq up string_name)) (not (bytes_eq up string_builder_name)) (both_true (is_built_in up) _ (open_above name up e)).1 in
    (not_true (bytes_eq up string_name) b.0, not_true (bytes_eq up string_builder_name) b.1)

-- ---- names in the table, and above it

pub string_in : is_built_in string_name ≡ true
unfolding built_in_classes built_in_plain_classes built_in_throwables object_name string_name string_builder_name system_name print_stream_name throwable_name exception_name error_name runtime_exception_name arithmetic_exception_name null_pointer_exception_name array_store_exception_name class_cast_exception_name index_out_of_bounds_exception_name negative_array_size_exception_name illegal_argument_exception_name illegal_state_exception_name array_index_out_of_bounds_exception_name string_index_out_of_bounds_exception_name linkage_error_name virtual_machine_error_name no_class_def_found_error_name exception_in_initializer_error_name incompatible_class_change_error_name abstract_method_error_name stack_overflow_error_name
string_in = refl

pub builder_in : is_built_in string_builder_name ≡ true
unfolding built_in_classes built_in_plain_classes built_in_throwables object_name string_name string_builder_name system_name print_stream_name throwable_name exception_name error_name runtime_exception_name arithmetic_exception_name null_pointer_exception_name array_store_exception_name class_cast_exception_name index_out_of_bounds_exception_name negative_array_size_exception_name illegal_argument_exception_name illegal_state_exception_name array_index_out_of_bounds_exception_name string_index_out_of_bounds_exception_name linkage_error_name virtual_machine_error_name no_class_def_found_error_name exception_in_initializer_error_name incompatible_class_change_error_name abstract_method_error_name stack_overflow_error_name
builder_in = refl

pub stream_in : is_built_in print_stream_name ≡ true
unfolding built_in_classes built_in_plain_classes built_in_throwables object_name string_name string_builder_name system_name print_stream_name throwable_name exception_name error_name runtime_exception_name arithmetic_exception_name null_pointer_exception_name array_store_exception_name class_cast_exception_name index_out_of_bounds_exception_name negative_array_size_exception_name illegal_argument_exception_name illegal_state_exception_name array_index_out_of_bounds_exception_name string_index_out_of_bounds_exception_name linkage_error_name virtual_machine_error_name no_class_def_found_error_name exception_in_initializer_error_name incompatible_class_change_error_name abstract_method_error_name stack_overflow_error_name
stream_in = refl

pub system_in : is_built_in system_name ≡ true
unfolding built_in_classes built_in_plain_classes built_in_throwables object_name string_name string_builder_name system_name print_stream_name throwable_name exception_name error_name runtime_exception_name arithmetic_exception_name null_pointer_exception_name array_store_exception_name class_cast_exception_name index_out_of_bounds_exception_name negative_array_size_exception_name illegal_argument_exception_name illegal_state_exception_name array_index_out_of_bounds_exception_name string_index_out_of_bounds_exception_name linkage_error_name virtual_machine_error_name no_class_def_found_error_name exception_in_initializer_error_name incompatible_class_change_error_name abstract_method_error_name stack_overflow_error_name
system_in = refl

pub string_above : built_in_superclass string_name ≡ Some object_name
unfolding built_in_classes built_in_plain_classes built_in_throwables object_name string_name string_builder_name system_name print_stream_name throwable_name exception_name error_name runtime_exception_name arithmetic_exception_name null_pointer_exception_name array_store_exception_name class_cast_exception_name index_out_of_bounds_exception_name negative_array_size_exception_name illegal_argument_exception_name illegal_state_exception_name array_index_out_of_bounds_exception_name string_index_out_of_bounds_exception_name linkage_error_name virtual_machine_error_name no_class_def_found_error_name exception_in_initializer_error_name incompatible_class_change_error_name abstract_method_error_name stack_overflow_error_name
string_above = refl

pub builder_above : built_in_superclass string_builder_name ≡ Some object_name
unfolding built_in_classes built_in_plain_classes built_in_throwables object_name string_name string_builder_name system_name print_stream_name throwable_name exception_name error_name runtime_exception_name arithmetic_exception_name null_pointer_exception_name array_store_exception_name class_cast_exception_name index_out_of_bounds_exception_name negative_array_size_exception_name illegal_argument_exception_name illegal_state_exception_name array_index_out_of_bounds_exception_name string_index_out_of_bounds_exception_name linkage_error_name virtual_machine_error_name no_class_def_found_error_name exception_in_initializer_error_name incompatible_class_change_error_name abstract_method_error_name stack_overflow_error_name
builder_above = refl

pub stream_above : built_in_superclass print_stream_name ≡ Some object_name
unfolding built_in_classes built_in_plain_classes built_in_throwables object_name string_name string_builder_name system_name print_stream_name throwable_name exception_name error_name runtime_exception_name arithmetic_exception_name null_pointer_exception_name array_store_exception_name class_cast_exception_name index_out_of_bounds_exception_name negative_array_size_exception_name illegal_argument_exception_name illegal_state_exception_name array_index_out_of_bounds_exception_name string_index_out_of_bounds_exception_name linkage_error_name virtual_machine_error_name no_class_def_found_error_name exception_in_initializer_error_name incompatible_class_change_error_name abstract_method_error_name stack_overflow_error_name
stream_above = refl

-- every built-in class is named as classes are
all_classes : list_all (λ (class : BuiltInClass). names_class class.name) built_in_classes ≡ true
unfolding built_in_classes built_in_plain_classes built_in_throwables object_name string_name string_builder_name system_name print_stream_name throwable_name exception_name error_name runtime_exception_name arithmetic_exception_name null_pointer_exception_name array_store_exception_name class_cast_exception_name index_out_of_bounds_exception_name negative_array_size_exception_name illegal_argument_exception_name illegal_state_exception_name array_index_out_of_bounds_exception_name string_index_out_of_bounds_exception_name linkage_error_name virtual_machine_error_name no_class_def_found_error_name exception_in_initializer_error_name incompatible_class_change_error_name abstract_method_error_name stack_overflow_error_name
all_classes = refl

pub built_in_begins : (name : List ℕ) → is_built_in name ≡ true → names_class name ≡ true
built_in_begins name e =
    let one = any_found (λ (c : BuiltInClass). bytes_eq c.name name) built_in_classes e in
    let found = found_is (λ (c : BuiltInClass). bytes_eq c.name name) built_in_classes one.0 one.1 in
    subst (λ n. names_class n ≡ true) (same_bytes one.0.name name found.0) (all_at (λ (c : BuiltInClass). names_class c.name) built_in_classes found.1.0 one.0 all_classes found.1.1)

-- whether a class of this name has no instances of its own
unfoldable pub never_made : List ℕ → Bool
never_made name = bytes_eq name string_name || (bytes_eq name system_name || bytes_eq name print_stream_name)

-- each throwable of the table is a built-in class that has instances
all_throwables : list_all (λ (class : BuiltInClass). is_built_in class.name && not (never_made class.name)) built_in_throwables ≡ true
unfolding never_made built_in_classes built_in_plain_classes built_in_throwables object_name string_name string_builder_name system_name print_stream_name throwable_name exception_name error_name runtime_exception_name arithmetic_exception_name null_pointer_exception_name array_store_exception_name class_cast_exception_name index_out_of_bounds_exception_name negative_array_size_exception_name illegal_argument_exception_name illegal_state_exception_name array_index_out_of_bounds_exception_name string_index_out_of_bounds_exception_name linkage_error_name virtual_machine_error_name no_class_def_found_error_name exception_in_initializer_error_name incompatible_class_change_error_name abstract_method_error_name stack_overflow_error_name
all_throwables = refl

pub throwable_is : (name : List ℕ) → is_built_in_throwable name ≡ true → (is_built_in name ≡ true) × (never_made name ≡ false)
throwable_is name e =
    let one = any_found (λ (c : BuiltInClass). bytes_eq c.name name) built_in_throwables e in
    let found = found_is (λ (c : BuiltInClass). bytes_eq c.name name) built_in_throwables one.0 one.1 in
    let two = both_true (is_built_in one.0.name) (not (never_made one.0.name)) (all_at (λ (c : BuiltInClass). is_built_in c.name && not (never_made c.name)) built_in_throwables found.1.0 one.0 all_throwables found.1.1) in
    subst (λ n. (is_built_in n ≡ true) × (never_made n ≡ false)) (same_bytes one.0.name name found.0) (two.0, not_true (never_made one.0.name) two.1)
