-- The exceptions that the interpreter raises: their classes are built in, and below Throwable.
use Rattle.std.proofs.Common.{◌≡◌, ℕ, Bool, true, false, not, ◌&&◌, ◌||◌, cond, List, [], ◌∷◌, ◌++◌, Option, Some, refl, sym, ap, ◌∙◌, subst, slice_get}
use Rattle.std.specs.List.{list_any, AllByRecursion}
use Rattle.std.specs.Str.{bytes_eq}
use Rattle.cc_meaning.specs.declared.file.Ids.{Ids}
use Rattle.cc_meaning.specs.declared.file.RawClass.{RawClass}
use Rattle.cc_meaning.specs.declared.program.Program.{Program}
use Rattle.cc_meaning.specs.BuiltIn.{built_in_plain_classes, built_in_throwables, built_in_classes, BuiltInClass, built_in_superclass, is_built_in, is_built_in_throwable, object_name, string_name, string_builder_name, system_name, print_stream_name, throwable_name, exception_name, error_name, runtime_exception_name, arithmetic_exception_name, null_pointer_exception_name, array_store_exception_name, class_cast_exception_name, index_out_of_bounds_exception_name, negative_array_size_exception_name, illegal_argument_exception_name, illegal_state_exception_name, array_index_out_of_bounds_exception_name, string_index_out_of_bounds_exception_name, linkage_error_name, virtual_machine_error_name, no_class_def_found_error_name, exception_in_initializer_error_name, incompatible_class_change_error_name, abstract_method_error_name, stack_overflow_error_name}
use Rattle.cc_meaning_program.specs.ClassFaults.{AreSound}
use Rattle.cc_meaning_program.specs.Programs.{IsProgram}
use Rattle.cc_meaning_program.specs.Rows.{FitTables}
use Rattle.cc_meaning_typing.specs.Complete.{IsComplete}
use Rattle.cc_meaning_typing.specs.Code.{string_type, throwable_type, type_of_class}
use Rattle.cc_meaning_typing.specs.Hierarchy.{object_class, Inherits, itself}
use Rattle.cc_meaning_typing.specs.Types.{class_type, held_base, held, IsBelow, classes as by_classes}
use Rattle.cc_meaning_typing.specs.WellTyped.{is_of_file, is_abstract_in_file, is_never_made, can_be_made}
use Rattle.cc_meaning_fits.specs.Premises.{IsRaised, null_pointer, out_of_bounds, array_store, class_cast, abstract_method, incompatible, arithmetic, negative_size, text_bounds, no_class, in_initializer, stack_overflow, Raisable}
use Rattle.cc_meaning_world.specs.Layouts.{types_of_fields, layout_of, shape}
use Rattle.cc_meaning_world.specs.Sorts.{number_of}
use Rattle.cc_program_laws.proofs.Lists.{same_bytes}
use Rattle.cc_program_laws.proofs.Names.{throwable_in}
use Rattle.cc_run_laws.proofs.BuiltNames.{builder_in}
use Rattle.cc_run_laws.proofs.Built.{built, differ, up}
use Rattle.cc_run_laws.proofs.Layouts.{message_first, empty_layout}

-- a built-in class below Throwable, of instances
record IsThrowable (name : List ℕ) (next : List ℕ) : Type 0 where
  built_in : is_built_in name ≡ true
  throwable : is_built_in_throwable name ≡ true
  above : built_in_superclass name ≡ Some next
  made : (bytes_eq name string_name || (bytes_eq name system_name || bytes_eq name print_stream_name)) ≡ false
  no_builder : bytes_eq name string_builder_name ≡ false

runtime_exception : IsThrowable runtime_exception_name exception_name
unfolding built_in_classes built_in_plain_classes built_in_throwables object_name string_name string_builder_name system_name print_stream_name throwable_name exception_name error_name runtime_exception_name arithmetic_exception_name null_pointer_exception_name array_store_exception_name class_cast_exception_name index_out_of_bounds_exception_name negative_array_size_exception_name illegal_argument_exception_name illegal_state_exception_name array_index_out_of_bounds_exception_name string_index_out_of_bounds_exception_name linkage_error_name virtual_machine_error_name no_class_def_found_error_name exception_in_initializer_error_name incompatible_class_change_error_name abstract_method_error_name stack_overflow_error_name
runtime_exception = record { built_in = refl; throwable = refl; above = refl; made = refl; no_builder = refl }

arithmetic_exception : IsThrowable arithmetic_exception_name runtime_exception_name
unfolding built_in_classes built_in_plain_classes built_in_throwables object_name string_name string_builder_name system_name print_stream_name throwable_name exception_name error_name runtime_exception_name arithmetic_exception_name null_pointer_exception_name array_store_exception_name class_cast_exception_name index_out_of_bounds_exception_name negative_array_size_exception_name illegal_argument_exception_name illegal_state_exception_name array_index_out_of_bounds_exception_name string_index_out_of_bounds_exception_name linkage_error_name virtual_machine_error_name no_class_def_found_error_name exception_in_initializer_error_name incompatible_class_change_error_name abstract_method_error_name stack_overflow_error_name
arithmetic_exception = record { built_in = refl; throwable = refl; above = refl; made = refl; no_builder = refl }

null_pointer_exception : IsThrowable null_pointer_exception_name runtime_exception_name
unfolding built_in_classes built_in_plain_classes built_in_throwables object_name string_name string_builder_name system_name print_stream_name throwable_name exception_name error_name runtime_exception_name arithmetic_exception_name null_pointer_exception_name array_store_exception_name class_cast_exception_name index_out_of_bounds_exception_name negative_array_size_exception_name illegal_argument_exception_name illegal_state_exception_name array_index_out_of_bounds_exception_name string_index_out_of_bounds_exception_name linkage_error_name virtual_machine_error_name no_class_def_found_error_name exception_in_initializer_error_name incompatible_class_change_error_name abstract_method_error_name stack_overflow_error_name
null_pointer_exception = record { built_in = refl; throwable = refl; above = refl; made = refl; no_builder = refl }

array_store_exception : IsThrowable array_store_exception_name runtime_exception_name
unfolding built_in_classes built_in_plain_classes built_in_throwables object_name string_name string_builder_name system_name print_stream_name throwable_name exception_name error_name runtime_exception_name arithmetic_exception_name null_pointer_exception_name array_store_exception_name class_cast_exception_name index_out_of_bounds_exception_name negative_array_size_exception_name illegal_argument_exception_name illegal_state_exception_name array_index_out_of_bounds_exception_name string_index_out_of_bounds_exception_name linkage_error_name virtual_machine_error_name no_class_def_found_error_name exception_in_initializer_error_name incompatible_class_change_error_name abstract_method_error_name stack_overflow_error_name
array_store_exception = record { built_in = refl; throwable = refl; above = refl; made = refl; no_builder = refl }

class_cast_exception : IsThrowable class_cast_exception_name runtime_exception_name
unfolding built_in_classes built_in_plain_classes built_in_throwables object_name string_name string_builder_name system_name print_stream_name throwable_name exception_name error_name runtime_exception_name arithmetic_exception_name null_pointer_exception_name array_store_exception_name class_cast_exception_name index_out_of_bounds_exception_name negative_array_size_exception_name illegal_argument_exception_name illegal_state_exception_name array_index_out_of_bounds_exception_name string_index_out_of_bounds_exception_name linkage_error_name virtual_machine_error_name no_class_def_found_error_name exception_in_initializer_error_name incompatible_class_change_error_name abstract_method_error_name stack_overflow_error_name
class_cast_exception = record { built_in = refl; throwable = refl; above = refl; made = refl; no_builder = refl }

index_out_of_bounds_exception : IsThrowable index_out_of_bounds_exception_name runtime_exception_name
unfolding built_in_classes built_in_plain_classes built_in_throwables object_name string_name string_builder_name system_name print_stream_name throwable_name exception_name error_name runtime_exception_name arithmetic_exception_name null_pointer_exception_name array_store_exception_name class_cast_exception_name index_out_of_bounds_exception_name negative_array_size_exception_name illegal_argument_exception_name illegal_state_exception_name array_index_out_of_bounds_exception_name string_index_out_of_bounds_exception_name linkage_error_name virtual_machine_error_name no_class_def_found_error_name exception_in_initializer_error_name incompatible_class_change_error_name abstract_method_error_name stack_overflow_error_name
index_out_of_bounds_exception = record { built_in = refl; throwable = refl; above = refl; made = refl; no_builder = refl }

negative_array_size_exception : IsThrowable negative_array_size_exception_name runtime_exception_name
unfolding built_in_classes built_in_plain_classes built_in_throwables object_name string_name string_builder_name system_name print_stream_name throwable_name exception_name error_name runtime_exception_name arithmetic_exception_name null_pointer_exception_name array_store_exception_name class_cast_exception_name index_out_of_bounds_exception_name negative_array_size_exception_name illegal_argument_exception_name illegal_state_exception_name array_index_out_of_bounds_exception_name string_index_out_of_bounds_exception_name linkage_error_name virtual_machine_error_name no_class_def_found_error_name exception_in_initializer_error_name incompatible_class_change_error_name abstract_method_error_name stack_overflow_error_name
negative_array_size_exception = record { built_in = refl; throwable = refl; above = refl; made = refl; no_builder = refl }

array_index_out_of_bounds_exception : IsThrowable array_index_out_of_bounds_exception_name index_out_of_bounds_exception_name
unfolding built_in_classes built_in_plain_classes built_in_throwables object_name string_name string_builder_name system_name print_stream_name throwable_name exception_name error_name runtime_exception_name arithmetic_exception_name null_pointer_exception_name array_store_exception_name class_cast_exception_name index_out_of_bounds_exception_name negative_array_size_exception_name illegal_argument_exception_name illegal_state_exception_name array_index_out_of_bounds_exception_name string_index_out_of_bounds_exception_name linkage_error_name virtual_machine_error_name no_class_def_found_error_name exception_in_initializer_error_name incompatible_class_change_error_name abstract_method_error_name stack_overflow_error_name
array_index_out_of_bounds_exception = record { built_in = refl; throwable = refl; above = refl; made = refl; no_builder = refl }

string_index_out_of_bounds_exception : IsThrowable string_index_out_of_bounds_exception_name index_out_of_bounds_exception_name
unfolding built_in_classes built_in_plain_classes built_in_throwables object_name string_name string_builder_name system_name print_stream_name throwable_name exception_name error_name runtime_exception_name arithmetic_exception_name null_pointer_exception_name array_store_exception_name class_cast_exception_name index_out_of_bounds_exception_name negative_array_size_exception_name illegal_argument_exception_name illegal_state_exception_name array_index_out_of_bounds_exception_name string_index_out_of_bounds_exception_name linkage_error_name virtual_machine_error_name no_class_def_found_error_name exception_in_initializer_error_name incompatible_class_change_error_name abstract_method_error_name stack_overflow_error_name
string_index_out_of_bounds_exception = record { built_in = refl; throwable = refl; above = refl; made = refl; no_builder = refl }

linkage_error : IsThrowable linkage_error_name error_name
unfolding built_in_classes built_in_plain_classes built_in_throwables object_name string_name string_builder_name system_name print_stream_name throwable_name exception_name error_name runtime_exception_name arithmetic_exception_name null_pointer_exception_name array_store_exception_name class_cast_exception_name index_out_of_bounds_exception_name negative_array_size_exception_name illegal_argument_exception_name illegal_state_exception_name array_index_out_of_bounds_exception_name string_index_out_of_bounds_exception_name linkage_error_name virtual_machine_error_name no_class_def_found_error_name exception_in_initializer_error_name incompatible_class_change_error_name abstract_method_error_name stack_overflow_error_name
linkage_error = record { built_in = refl; throwable = refl; above = refl; made = refl; no_builder = refl }

virtual_machine_error : IsThrowable virtual_machine_error_name error_name
unfolding built_in_classes built_in_plain_classes built_in_throwables object_name string_name string_builder_name system_name print_stream_name throwable_name exception_name error_name runtime_exception_name arithmetic_exception_name null_pointer_exception_name array_store_exception_name class_cast_exception_name index_out_of_bounds_exception_name negative_array_size_exception_name illegal_argument_exception_name illegal_state_exception_name array_index_out_of_bounds_exception_name string_index_out_of_bounds_exception_name linkage_error_name virtual_machine_error_name no_class_def_found_error_name exception_in_initializer_error_name incompatible_class_change_error_name abstract_method_error_name stack_overflow_error_name
virtual_machine_error = record { built_in = refl; throwable = refl; above = refl; made = refl; no_builder = refl }

no_class_def_found_error : IsThrowable no_class_def_found_error_name linkage_error_name
unfolding built_in_classes built_in_plain_classes built_in_throwables object_name string_name string_builder_name system_name print_stream_name throwable_name exception_name error_name runtime_exception_name arithmetic_exception_name null_pointer_exception_name array_store_exception_name class_cast_exception_name index_out_of_bounds_exception_name negative_array_size_exception_name illegal_argument_exception_name illegal_state_exception_name array_index_out_of_bounds_exception_name string_index_out_of_bounds_exception_name linkage_error_name virtual_machine_error_name no_class_def_found_error_name exception_in_initializer_error_name incompatible_class_change_error_name abstract_method_error_name stack_overflow_error_name
no_class_def_found_error = record { built_in = refl; throwable = refl; above = refl; made = refl; no_builder = refl }

exception_in_initializer_error : IsThrowable exception_in_initializer_error_name linkage_error_name
unfolding built_in_classes built_in_plain_classes built_in_throwables object_name string_name string_builder_name system_name print_stream_name throwable_name exception_name error_name runtime_exception_name arithmetic_exception_name null_pointer_exception_name array_store_exception_name class_cast_exception_name index_out_of_bounds_exception_name negative_array_size_exception_name illegal_argument_exception_name illegal_state_exception_name array_index_out_of_bounds_exception_name string_index_out_of_bounds_exception_name linkage_error_name virtual_machine_error_name no_class_def_found_error_name exception_in_initializer_error_name incompatible_class_change_error_name abstract_method_error_name stack_overflow_error_name
exception_in_initializer_error = record { built_in = refl; throwable = refl; above = refl; made = refl; no_builder = refl }

incompatible_class_change_error : IsThrowable incompatible_class_change_error_name linkage_error_name
unfolding built_in_classes built_in_plain_classes built_in_throwables object_name string_name string_builder_name system_name print_stream_name throwable_name exception_name error_name runtime_exception_name arithmetic_exception_name null_pointer_exception_name array_store_exception_name class_cast_exception_name index_out_of_bounds_exception_name negative_array_size_exception_name illegal_argument_exception_name illegal_state_exception_name array_index_out_of_bounds_exception_name string_index_out_of_bounds_exception_name linkage_error_name virtual_machine_error_name no_class_def_found_error_name exception_in_initializer_error_name incompatible_class_change_error_name abstract_method_error_name stack_overflow_error_name
incompatible_class_change_error = record { built_in = refl; throwable = refl; above = refl; made = refl; no_builder = refl }

abstract_method_error : IsThrowable abstract_method_error_name incompatible_class_change_error_name
unfolding built_in_classes built_in_plain_classes built_in_throwables object_name string_name string_builder_name system_name print_stream_name throwable_name exception_name error_name runtime_exception_name arithmetic_exception_name null_pointer_exception_name array_store_exception_name class_cast_exception_name index_out_of_bounds_exception_name negative_array_size_exception_name illegal_argument_exception_name illegal_state_exception_name array_index_out_of_bounds_exception_name string_index_out_of_bounds_exception_name linkage_error_name virtual_machine_error_name no_class_def_found_error_name exception_in_initializer_error_name incompatible_class_change_error_name abstract_method_error_name stack_overflow_error_name
abstract_method_error = record { built_in = refl; throwable = refl; above = refl; made = refl; no_builder = refl }

stack_overflow_error : IsThrowable stack_overflow_error_name virtual_machine_error_name
unfolding built_in_classes built_in_plain_classes built_in_throwables object_name string_name string_builder_name system_name print_stream_name throwable_name exception_name error_name runtime_exception_name arithmetic_exception_name null_pointer_exception_name array_store_exception_name class_cast_exception_name index_out_of_bounds_exception_name negative_array_size_exception_name illegal_argument_exception_name illegal_state_exception_name array_index_out_of_bounds_exception_name string_index_out_of_bounds_exception_name linkage_error_name virtual_machine_error_name no_class_def_found_error_name exception_in_initializer_error_name incompatible_class_change_error_name abstract_method_error_name stack_overflow_error_name
stack_overflow_error = record { built_in = refl; throwable = refl; above = refl; made = refl; no_builder = refl }

exception : IsThrowable exception_name throwable_name
unfolding built_in_classes built_in_plain_classes built_in_throwables object_name string_name string_builder_name system_name print_stream_name throwable_name exception_name error_name runtime_exception_name arithmetic_exception_name null_pointer_exception_name array_store_exception_name class_cast_exception_name index_out_of_bounds_exception_name negative_array_size_exception_name illegal_argument_exception_name illegal_state_exception_name array_index_out_of_bounds_exception_name string_index_out_of_bounds_exception_name linkage_error_name virtual_machine_error_name no_class_def_found_error_name exception_in_initializer_error_name incompatible_class_change_error_name abstract_method_error_name stack_overflow_error_name
exception = record { built_in = refl; throwable = refl; above = refl; made = refl; no_builder = refl }

error : IsThrowable error_name throwable_name
unfolding built_in_classes built_in_plain_classes built_in_throwables object_name string_name string_builder_name system_name print_stream_name throwable_name exception_name error_name runtime_exception_name arithmetic_exception_name null_pointer_exception_name array_store_exception_name class_cast_exception_name index_out_of_bounds_exception_name negative_array_size_exception_name illegal_argument_exception_name illegal_state_exception_name array_index_out_of_bounds_exception_name string_index_out_of_bounds_exception_name linkage_error_name virtual_machine_error_name no_class_def_found_error_name exception_in_initializer_error_name incompatible_class_change_error_name abstract_method_error_name stack_overflow_error_name
error = record { built_in = refl; throwable = refl; above = refl; made = refl; no_builder = refl }

illegal_argument_exception : IsThrowable illegal_argument_exception_name runtime_exception_name
unfolding built_in_classes built_in_plain_classes built_in_throwables object_name string_name string_builder_name system_name print_stream_name throwable_name exception_name error_name runtime_exception_name arithmetic_exception_name null_pointer_exception_name array_store_exception_name class_cast_exception_name index_out_of_bounds_exception_name negative_array_size_exception_name illegal_argument_exception_name illegal_state_exception_name array_index_out_of_bounds_exception_name string_index_out_of_bounds_exception_name linkage_error_name virtual_machine_error_name no_class_def_found_error_name exception_in_initializer_error_name incompatible_class_change_error_name abstract_method_error_name stack_overflow_error_name
illegal_argument_exception = record { built_in = refl; throwable = refl; above = refl; made = refl; no_builder = refl }

illegal_state_exception : IsThrowable illegal_state_exception_name runtime_exception_name
unfolding built_in_classes built_in_plain_classes built_in_throwables object_name string_name string_builder_name system_name print_stream_name throwable_name exception_name error_name runtime_exception_name arithmetic_exception_name null_pointer_exception_name array_store_exception_name class_cast_exception_name index_out_of_bounds_exception_name negative_array_size_exception_name illegal_argument_exception_name illegal_state_exception_name array_index_out_of_bounds_exception_name string_index_out_of_bounds_exception_name linkage_error_name virtual_machine_error_name no_class_def_found_error_name exception_in_initializer_error_name incompatible_class_change_error_name abstract_method_error_name stack_overflow_error_name
illegal_state_exception = record { built_in = refl; throwable = refl; above = refl; made = refl; no_builder = refl }

pub exception_throwable : is_built_in_throwable exception_name ≡ true
exception_throwable = exception.throwable

pub error_throwable : is_built_in_throwable error_name ≡ true
error_throwable = error.throwable

module _ (p : Program) (whole : IsComplete p) where
  -- its class is below Throwable's
  abbrev Below : List ℕ → Type 0
  Below name = Inherits p (number_of p name) (number_of p throwable_name)

  on : {name next : List ℕ} → IsThrowable name next → Below next → Below name
  on {name} {next} is h = up p whole name next is.built_in is.above h

  -- the throwables with others below them
  below_exception : Below exception_name
  below_exception = on exception itself

  below_error : Below error_name
  below_error = on error itself

  below_runtime_exception : Below runtime_exception_name
  below_runtime_exception = on runtime_exception below_exception

  below_index_out_of_bounds_exception : Below index_out_of_bounds_exception_name
  below_index_out_of_bounds_exception = on index_out_of_bounds_exception below_runtime_exception

  below_linkage_error : Below linkage_error_name
  below_linkage_error = on linkage_error below_error

  below_virtual_machine_error : Below virtual_machine_error_name
  below_virtual_machine_error = on virtual_machine_error below_error

  below_incompatible_class_change_error : Below incompatible_class_change_error_name
  below_incompatible_class_change_error = on incompatible_class_change_error below_linkage_error

  -- and so for each throwable of the table
  all_below : AllByRecursion (λ (class : BuiltInClass). Below class.name) built_in_throwables
  unfolding built_in_throwables
  all_below = (itself, (below_exception, (below_error, (below_runtime_exception, (on arithmetic_exception below_runtime_exception, (on null_pointer_exception below_runtime_exception, (on array_store_exception below_runtime_exception, (on class_cast_exception below_runtime_exception, (below_index_out_of_bounds_exception, (on negative_array_size_exception below_runtime_exception, (on illegal_argument_exception below_runtime_exception, (on illegal_state_exception below_runtime_exception, (on array_index_out_of_bounds_exception below_index_out_of_bounds_exception, (on string_index_out_of_bounds_exception below_index_out_of_bounds_exception, (below_linkage_error, (below_virtual_machine_error, (on no_class_def_found_error below_linkage_error, (on exception_in_initializer_error below_linkage_error, (below_incompatible_class_change_error, (on abstract_method_error below_incompatible_class_change_error, (on stack_overflow_error below_virtual_machine_error, tt)))))))))))))))))))))

  of_all : (name : List ℕ) (table : List BuiltInClass) → AllByRecursion (λ (class : BuiltInClass). Below class.name) table → list_any (λ (class : BuiltInClass). bytes_eq class.name name) table ≡ true → Below name
  of_all name [] all e = absurd cc
  of_all name (class ∷ rest) all e = by (bytes_eq class.name name) refl e (of_all name rest all.1)
    where
      by : (b : Bool) → bytes_eq class.name name ≡ b → (b || list_any (λ (other : BuiltInClass). bytes_eq other.name name) rest) ≡ true → (list_any (λ (other : BuiltInClass). bytes_eq other.name name) rest ≡ true → Below name) → Below name
      by true q e more = subst Below (same_bytes class.name name q) all.0
      by false q e more = more e

  pub below_throwable : (name : List ℕ) → is_built_in_throwable name ≡ true → Inherits p (number_of p name) (number_of p throwable_name)
  below_throwable name e = of_all name built_in_throwables all_below e

  -- a class below Throwable is below it as a type
  pub below_as_type : (name : List ℕ) → is_built_in name ≡ true → is_built_in_throwable name ≡ true → IsBelow p (held p (type_of_class p (number_of p name))) (throwable_type p)
  unfolding number_of throwable_type held held_base
  below_as_type name b e =
      let one = built p whole name b in
      let top = built p whole throwable_name throwable_in in
      subst (λ z. IsBelow p z (throwable_type p)) (sym (ap (held p) one.is_type ∙ ap (λ c. class_type (cond c (object_class p) (number_of p name))) one.held)) (by_classes (below_throwable name e) top.held)

  -- what the table says of it
  raised_is : (name : List ℕ) → IsRaised name → (next : List ℕ) × IsThrowable name next
  raised_is _ null_pointer = (runtime_exception_name, null_pointer_exception)
  raised_is _ out_of_bounds = (index_out_of_bounds_exception_name, array_index_out_of_bounds_exception)
  raised_is _ array_store = (runtime_exception_name, array_store_exception)
  raised_is _ class_cast = (runtime_exception_name, class_cast_exception)
  raised_is _ abstract_method = (incompatible_class_change_error_name, abstract_method_error)
  raised_is _ incompatible = (linkage_error_name, incompatible_class_change_error)
  raised_is _ arithmetic = (runtime_exception_name, arithmetic_exception)
  raised_is _ negative_size = (runtime_exception_name, negative_array_size_exception)
  raised_is _ text_bounds = (index_out_of_bounds_exception_name, string_index_out_of_bounds_exception)
  raised_is _ no_class = (linkage_error_name, no_class_def_found_error)
  raised_is _ in_initializer = (linkage_error_name, exception_in_initializer_error)
  raised_is _ stack_overflow = (virtual_machine_error_name, stack_overflow_error)

  -- a built-in class that is none of those that have no instances can be made
  pub built_made : (name : List ℕ) → is_built_in name ≡ true → (bytes_eq name string_name || (bytes_eq name system_name || bytes_eq name print_stream_name)) ≡ false → can_be_made (slice_get p.classes (number_of p name)) ≡ true
  unfolding can_be_made is_abstract_in_file is_never_made is_of_file
  built_made name b never =
      let one = built p whole name b in
      ap can_be_made one.there
      ∙ (ap (λ k. not (is_of_file k && (one.class.is_interface || one.class.is_abstract)) && not (is_never_made one.class)) one.kind
      ∙ ap not (ap (λ n. bytes_eq n string_name || (bytes_eq n system_name || bytes_eq n print_stream_name)) one.called ∙ never))

module _ (ids : Ids) (classes : List RawClass) (asked : Option (List ℕ)) (p : Program) (fit : FitTables ids) (sound : AreSound ids classes) (is : IsProgram ids classes asked p) (whole : IsComplete p) where
  pub raised : (name : List ℕ) → IsRaised name → Raisable p name
  unfolding number_of throwable_type held held_base shape types_of_fields
  raised name r =
      let t = raised_is p whole name r in
      let one = built p whole name t.1.built_in in
      let h = below_throwable p whole name t.1.throwable in
      let made = built_made p whole name t.1.built_in t.1.made in
      let top = built p whole throwable_name throwable_in in
      record {
        class = number_of p name;
        named = one.named;
        shaped = ap (λ ts. ts ++ types_of_fields p (layout_of p (number_of p name))) (message_first p whole (number_of p name) made h)
            ∙ ap (λ fs. string_type p ∷ types_of_fields p fs) (empty_layout ids classes asked p fit sound is whole name t.1.built_in);
        below = subst (λ z. IsBelow p z (throwable_type p)) (sym (ap (λ b. class_type (cond b (object_class p) (number_of p name))) one.held)) (by_classes h top.held);
        made = record { made = made; no_builder = λ e. differ p whole name string_builder_name t.1.built_in builder_in t.1.no_builder e; no_array = one.is_type };
      }
