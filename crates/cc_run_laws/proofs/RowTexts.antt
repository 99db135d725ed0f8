-- The rows of the table of built-in methods: each is found by its name, and its texts are those of what it does.
use Rattle.std.proofs.Common.{◌≡◌, ℕ, zero, suc, true, List, [], ◌∷◌, Option, Some, None, refl, subst, slice_get}
use Rattle.std.specs.Prelude.{codes, find}
use Rattle.std.specs.List.{AllByRecursion}
use Rattle.std.specs.Str.{bytes_eq}
use Rattle.cc_meaning.specs.BuiltIn.{built_in_plain_classes, built_in_throwables, built_in_classes, is_built_in_throwable, object_name, string_name, string_builder_name, system_name, print_stream_name, throwable_name, exception_name, error_name, runtime_exception_name, arithmetic_exception_name, null_pointer_exception_name, array_store_exception_name, class_cast_exception_name, index_out_of_bounds_exception_name, negative_array_size_exception_name, illegal_argument_exception_name, illegal_state_exception_name, array_index_out_of_bounds_exception_name, string_index_out_of_bounds_exception_name, linkage_error_name, virtual_machine_error_name, no_class_def_found_error_name, exception_in_initializer_error_name, incompatible_class_change_error_name, abstract_method_error_name, stack_overflow_error_name}
use Rattle.cc_built_in.specs.BuiltInMethods.{BuiltInMethod, BuiltInMethods, throwable_methods, print_stream_methods, object_methods, string_methods, string_builder_methods, message_methods, built_in_tables, methods_of_table, methods_of_class, built_in_member}
use Rattle.cc_meaning_rows.specs.declared.builtin.BuiltIn.{BuiltIn}
use Rattle.cc_meaning_rows.specs.declared.builtin.BuiltIn.TheVariants as row
use Rattle.cc_meaning_rows.specs.declared.builtin.Printed.{Printed}
use Rattle.cc_meaning_rows.specs.declared.builtin.Printed.TheVariants as form
use Rattle.cc_meaning_rows.specs.Rows.{named_rows, found_row, object_rows, throwable_rows, message_rows, string_rows, string_builder_rows, print_stream_rows}
use Rattle.cc_program_laws.proofs.Lists.{same_bytes, some_same, found_is}

-- the descriptor of what is printed in a form
unfoldable pub printed_text : Printed → List ℕ
printed_text form.Boolean = codes "Z"
printed_text form.Char = codes "C"
printed_text form.Int = codes "I"
printed_text form.Long = codes "J"
printed_text form.Text = string_name

-- what the table's text says of a row by what it does: its parameters, its result and, where that matters, its class
abbrev pub Texts : BuiltIn → List ℕ → BuiltInMethod → Type 0
Texts row.Construct class l = (l.params ≡ []) × (l.result ≡ codes "V")
Texts row.ConstructThrowable class l = (l.params ≡ []) × (l.result ≡ codes "V") × (is_built_in_throwable class ≡ true)
Texts row.ConstructThrowableWith class l = (l.params ≡ string_name ∷ []) × (l.result ≡ codes "V") × (is_built_in_throwable class ≡ true)
Texts row.Message class l = (l.params ≡ []) × (l.result ≡ string_name) × (is_built_in_throwable class ≡ true)
Texts row.IsSameObject class l = (l.params ≡ object_name ∷ []) × (l.result ≡ codes "Z")
Texts row.TextLength class l = (l.params ≡ []) × (l.result ≡ codes "I") × (class ≡ string_name)
Texts row.CharAt class l = (l.params ≡ codes "I" ∷ []) × (l.result ≡ codes "C") × (class ≡ string_name)
Texts row.IsEqualText class l = (l.params ≡ object_name ∷ []) × (l.result ≡ codes "Z") × (class ≡ string_name)
Texts row.ConstructBuilder class l = (l.params ≡ string_name ∷ []) × (l.result ≡ codes "V") × (class ≡ string_builder_name)
Texts (row.Append f) class l = (l.params ≡ printed_text f ∷ []) × (l.result ≡ string_builder_name) × (class ≡ string_builder_name)
Texts row.BuiltText class l = (l.params ≡ []) × (l.result ≡ string_name) × (class ≡ string_builder_name)
Texts (row.Print f) class l = (l.params ≡ printed_text f ∷ []) × (l.result ≡ codes "V")
Texts (row.PrintLine f) class l = (l.params ≡ printed_text f ∷ []) × (l.result ≡ codes "V")
Texts row.EndLine class l = (l.params ≡ []) × (l.result ≡ codes "V")
Texts row.CloneArray class l = ⊥

-- a row of a class is found by its name within the class, and says what it does
abbrev pub RowSays : List ℕ → BuiltInMethod → Type 0
RowSays class l = (does : BuiltIn) × (found_row (built_in_member l) (named_rows class) ≡ Some does) × Texts does class l

abbrev TableSays : BuiltInMethods → Type 0
TableSays table = AllByRecursion (RowSays table.class) table.methods

abbrev ThrowableSays : List ℕ → Type 0
ThrowableSays class = TableSays (throwable_methods class)

print_stream_rows_say : AllByRecursion (RowSays print_stream_name) print_stream_methods
unfolding built_in_classes built_in_plain_classes built_in_throwables object_name string_name string_builder_name system_name print_stream_name throwable_name exception_name error_name runtime_exception_name arithmetic_exception_name null_pointer_exception_name array_store_exception_name class_cast_exception_name index_out_of_bounds_exception_name negative_array_size_exception_name illegal_argument_exception_name illegal_state_exception_name array_index_out_of_bounds_exception_name string_index_out_of_bounds_exception_name linkage_error_name virtual_machine_error_name no_class_def_found_error_name exception_in_initializer_error_name incompatible_class_change_error_name abstract_method_error_name stack_overflow_error_name built_in_member named_rows found_row print_stream_methods object_methods string_methods string_builder_methods message_methods object_rows throwable_rows message_rows string_rows string_builder_rows print_stream_rows printed_text
print_stream_rows_say = ((row.Print form.Char, refl, (refl, refl)), ((row.Print form.Int, refl, (refl, refl)), ((row.Print form.Long, refl, (refl, refl)), ((row.Print form.Text, refl, (refl, refl)), ((row.Print form.Boolean, refl, (refl, refl)), ((row.EndLine, refl, (refl, refl)), ((row.PrintLine form.Char, refl, (refl, refl)), ((row.PrintLine form.Int, refl, (refl, refl)), ((row.PrintLine form.Long, refl, (refl, refl)), ((row.PrintLine form.Text, refl, (refl, refl)), ((row.PrintLine form.Boolean, refl, (refl, refl)), tt)))))))))))

abstract_method_error_rows_say : ThrowableSays abstract_method_error_name
unfolding built_in_classes built_in_plain_classes built_in_throwables object_name string_name string_builder_name system_name print_stream_name throwable_name exception_name error_name runtime_exception_name arithmetic_exception_name null_pointer_exception_name array_store_exception_name class_cast_exception_name index_out_of_bounds_exception_name negative_array_size_exception_name illegal_argument_exception_name illegal_state_exception_name array_index_out_of_bounds_exception_name string_index_out_of_bounds_exception_name linkage_error_name virtual_machine_error_name no_class_def_found_error_name exception_in_initializer_error_name incompatible_class_change_error_name abstract_method_error_name stack_overflow_error_name built_in_member named_rows found_row print_stream_methods object_methods string_methods string_builder_methods message_methods object_rows throwable_rows message_rows string_rows string_builder_rows print_stream_rows printed_text
abstract_method_error_rows_say = ((row.ConstructThrowable, refl, (refl, refl, refl)), ((row.ConstructThrowableWith, refl, (refl, refl, refl)), tt))

arithmetic_exception_rows_say : ThrowableSays arithmetic_exception_name
unfolding built_in_classes built_in_plain_classes built_in_throwables object_name string_name string_builder_name system_name print_stream_name throwable_name exception_name error_name runtime_exception_name arithmetic_exception_name null_pointer_exception_name array_store_exception_name class_cast_exception_name index_out_of_bounds_exception_name negative_array_size_exception_name illegal_argument_exception_name illegal_state_exception_name array_index_out_of_bounds_exception_name string_index_out_of_bounds_exception_name linkage_error_name virtual_machine_error_name no_class_def_found_error_name exception_in_initializer_error_name incompatible_class_change_error_name abstract_method_error_name stack_overflow_error_name built_in_member named_rows found_row print_stream_methods object_methods string_methods string_builder_methods message_methods object_rows throwable_rows message_rows string_rows string_builder_rows print_stream_rows printed_text
arithmetic_exception_rows_say = ((row.ConstructThrowable, refl, (refl, refl, refl)), ((row.ConstructThrowableWith, refl, (refl, refl, refl)), tt))

array_index_out_of_bounds_exception_rows_say : ThrowableSays array_index_out_of_bounds_exception_name
unfolding built_in_classes built_in_plain_classes built_in_throwables object_name string_name string_builder_name system_name print_stream_name throwable_name exception_name error_name runtime_exception_name arithmetic_exception_name null_pointer_exception_name array_store_exception_name class_cast_exception_name index_out_of_bounds_exception_name negative_array_size_exception_name illegal_argument_exception_name illegal_state_exception_name array_index_out_of_bounds_exception_name string_index_out_of_bounds_exception_name linkage_error_name virtual_machine_error_name no_class_def_found_error_name exception_in_initializer_error_name incompatible_class_change_error_name abstract_method_error_name stack_overflow_error_name built_in_member named_rows found_row print_stream_methods object_methods string_methods string_builder_methods message_methods object_rows throwable_rows message_rows string_rows string_builder_rows print_stream_rows printed_text
array_index_out_of_bounds_exception_rows_say = ((row.ConstructThrowable, refl, (refl, refl, refl)), ((row.ConstructThrowableWith, refl, (refl, refl, refl)), tt))

array_store_exception_rows_say : ThrowableSays array_store_exception_name
unfolding built_in_classes built_in_plain_classes built_in_throwables object_name string_name string_builder_name system_name print_stream_name throwable_name exception_name error_name runtime_exception_name arithmetic_exception_name null_pointer_exception_name array_store_exception_name class_cast_exception_name index_out_of_bounds_exception_name negative_array_size_exception_name illegal_argument_exception_name illegal_state_exception_name array_index_out_of_bounds_exception_name string_index_out_of_bounds_exception_name linkage_error_name virtual_machine_error_name no_class_def_found_error_name exception_in_initializer_error_name incompatible_class_change_error_name abstract_method_error_name stack_overflow_error_name built_in_member named_rows found_row print_stream_methods object_methods string_methods string_builder_methods message_methods object_rows throwable_rows message_rows string_rows string_builder_rows print_stream_rows printed_text
array_store_exception_rows_say = ((row.ConstructThrowable, refl, (refl, refl, refl)), ((row.ConstructThrowableWith, refl, (refl, refl, refl)), tt))

class_cast_exception_rows_say : ThrowableSays class_cast_exception_name
unfolding built_in_classes built_in_plain_classes built_in_throwables object_name string_name string_builder_name system_name print_stream_name throwable_name exception_name error_name runtime_exception_name arithmetic_exception_name null_pointer_exception_name array_store_exception_name class_cast_exception_name index_out_of_bounds_exception_name negative_array_size_exception_name illegal_argument_exception_name illegal_state_exception_name array_index_out_of_bounds_exception_name string_index_out_of_bounds_exception_name linkage_error_name virtual_machine_error_name no_class_def_found_error_name exception_in_initializer_error_name incompatible_class_change_error_name abstract_method_error_name stack_overflow_error_name built_in_member named_rows found_row print_stream_methods object_methods string_methods string_builder_methods message_methods object_rows throwable_rows message_rows string_rows string_builder_rows print_stream_rows printed_text
class_cast_exception_rows_say = ((row.ConstructThrowable, refl, (refl, refl, refl)), ((row.ConstructThrowableWith, refl, (refl, refl, refl)), tt))

error_rows_say : ThrowableSays error_name
unfolding built_in_classes built_in_plain_classes built_in_throwables object_name string_name string_builder_name system_name print_stream_name throwable_name exception_name error_name runtime_exception_name arithmetic_exception_name null_pointer_exception_name array_store_exception_name class_cast_exception_name index_out_of_bounds_exception_name negative_array_size_exception_name illegal_argument_exception_name illegal_state_exception_name array_index_out_of_bounds_exception_name string_index_out_of_bounds_exception_name linkage_error_name virtual_machine_error_name no_class_def_found_error_name exception_in_initializer_error_name incompatible_class_change_error_name abstract_method_error_name stack_overflow_error_name built_in_member named_rows found_row print_stream_methods object_methods string_methods string_builder_methods message_methods object_rows throwable_rows message_rows string_rows string_builder_rows print_stream_rows printed_text
error_rows_say = ((row.ConstructThrowable, refl, (refl, refl, refl)), ((row.ConstructThrowableWith, refl, (refl, refl, refl)), tt))

exception_rows_say : ThrowableSays exception_name
unfolding built_in_classes built_in_plain_classes built_in_throwables object_name string_name string_builder_name system_name print_stream_name throwable_name exception_name error_name runtime_exception_name arithmetic_exception_name null_pointer_exception_name array_store_exception_name class_cast_exception_name index_out_of_bounds_exception_name negative_array_size_exception_name illegal_argument_exception_name illegal_state_exception_name array_index_out_of_bounds_exception_name string_index_out_of_bounds_exception_name linkage_error_name virtual_machine_error_name no_class_def_found_error_name exception_in_initializer_error_name incompatible_class_change_error_name abstract_method_error_name stack_overflow_error_name built_in_member named_rows found_row print_stream_methods object_methods string_methods string_builder_methods message_methods object_rows throwable_rows message_rows string_rows string_builder_rows print_stream_rows printed_text
exception_rows_say = ((row.ConstructThrowable, refl, (refl, refl, refl)), ((row.ConstructThrowableWith, refl, (refl, refl, refl)), tt))

exception_in_initializer_error_rows_say : ThrowableSays exception_in_initializer_error_name
unfolding built_in_classes built_in_plain_classes built_in_throwables object_name string_name string_builder_name system_name print_stream_name throwable_name exception_name error_name runtime_exception_name arithmetic_exception_name null_pointer_exception_name array_store_exception_name class_cast_exception_name index_out_of_bounds_exception_name negative_array_size_exception_name illegal_argument_exception_name illegal_state_exception_name array_index_out_of_bounds_exception_name string_index_out_of_bounds_exception_name linkage_error_name virtual_machine_error_name no_class_def_found_error_name exception_in_initializer_error_name incompatible_class_change_error_name abstract_method_error_name stack_overflow_error_name built_in_member named_rows found_row print_stream_methods object_methods string_methods string_builder_methods message_methods object_rows throwable_rows message_rows string_rows string_builder_rows print_stream_rows printed_text
exception_in_initializer_error_rows_say = ((row.ConstructThrowable, refl, (refl, refl, refl)), ((row.ConstructThrowableWith, refl, (refl, refl, refl)), tt))

illegal_argument_exception_rows_say : ThrowableSays illegal_argument_exception_name
unfolding built_in_classes built_in_plain_classes built_in_throwables object_name string_name string_builder_name system_name print_stream_name throwable_name exception_name error_name runtime_exception_name arithmetic_exception_name null_pointer_exception_name array_store_exception_name class_cast_exception_name index_out_of_bounds_exception_name negative_array_size_exception_name illegal_argument_exception_name illegal_state_exception_name array_index_out_of_bounds_exception_name string_index_out_of_bounds_exception_name linkage_error_name virtual_machine_error_name no_class_def_found_error_name exception_in_initializer_error_name incompatible_class_change_error_name abstract_method_error_name stack_overflow_error_name built_in_member named_rows found_row print_stream_methods object_methods string_methods string_builder_methods message_methods object_rows throwable_rows message_rows string_rows string_builder_rows print_stream_rows printed_text
illegal_argument_exception_rows_say = ((row.ConstructThrowable, refl, (refl, refl, refl)), ((row.ConstructThrowableWith, refl, (refl, refl, refl)), tt))

illegal_state_exception_rows_say : ThrowableSays illegal_state_exception_name
unfolding built_in_classes built_in_plain_classes built_in_throwables object_name string_name string_builder_name system_name print_stream_name throwable_name exception_name error_name runtime_exception_name arithmetic_exception_name null_pointer_exception_name array_store_exception_name class_cast_exception_name index_out_of_bounds_exception_name negative_array_size_exception_name illegal_argument_exception_name illegal_state_exception_name array_index_out_of_bounds_exception_name string_index_out_of_bounds_exception_name linkage_error_name virtual_machine_error_name no_class_def_found_error_name exception_in_initializer_error_name incompatible_class_change_error_name abstract_method_error_name stack_overflow_error_name built_in_member named_rows found_row print_stream_methods object_methods string_methods string_builder_methods message_methods object_rows throwable_rows message_rows string_rows string_builder_rows print_stream_rows printed_text
illegal_state_exception_rows_say = ((row.ConstructThrowable, refl, (refl, refl, refl)), ((row.ConstructThrowableWith, refl, (refl, refl, refl)), tt))

incompatible_class_change_error_rows_say : ThrowableSays incompatible_class_change_error_name
unfolding built_in_classes built_in_plain_classes built_in_throwables object_name string_name string_builder_name system_name print_stream_name throwable_name exception_name error_name runtime_exception_name arithmetic_exception_name null_pointer_exception_name array_store_exception_name class_cast_exception_name index_out_of_bounds_exception_name negative_array_size_exception_name illegal_argument_exception_name illegal_state_exception_name array_index_out_of_bounds_exception_name string_index_out_of_bounds_exception_name linkage_error_name virtual_machine_error_name no_class_def_found_error_name exception_in_initializer_error_name incompatible_class_change_error_name abstract_method_error_name stack_overflow_error_name built_in_member named_rows found_row print_stream_methods object_methods string_methods string_builder_methods message_methods object_rows throwable_rows message_rows string_rows string_builder_rows print_stream_rows printed_text
incompatible_class_change_error_rows_say = ((row.ConstructThrowable, refl, (refl, refl, refl)), ((row.ConstructThrowableWith, refl, (refl, refl, refl)), tt))

index_out_of_bounds_exception_rows_say : ThrowableSays index_out_of_bounds_exception_name
unfolding built_in_classes built_in_plain_classes built_in_throwables object_name string_name string_builder_name system_name print_stream_name throwable_name exception_name error_name runtime_exception_name arithmetic_exception_name null_pointer_exception_name array_store_exception_name class_cast_exception_name index_out_of_bounds_exception_name negative_array_size_exception_name illegal_argument_exception_name illegal_state_exception_name array_index_out_of_bounds_exception_name string_index_out_of_bounds_exception_name linkage_error_name virtual_machine_error_name no_class_def_found_error_name exception_in_initializer_error_name incompatible_class_change_error_name abstract_method_error_name stack_overflow_error_name built_in_member named_rows found_row print_stream_methods object_methods string_methods string_builder_methods message_methods object_rows throwable_rows message_rows string_rows string_builder_rows print_stream_rows printed_text
index_out_of_bounds_exception_rows_say = ((row.ConstructThrowable, refl, (refl, refl, refl)), ((row.ConstructThrowableWith, refl, (refl, refl, refl)), tt))

linkage_error_rows_say : ThrowableSays linkage_error_name
unfolding built_in_classes built_in_plain_classes built_in_throwables object_name string_name string_builder_name system_name print_stream_name throwable_name exception_name error_name runtime_exception_name arithmetic_exception_name null_pointer_exception_name array_store_exception_name class_cast_exception_name index_out_of_bounds_exception_name negative_array_size_exception_name illegal_argument_exception_name illegal_state_exception_name array_index_out_of_bounds_exception_name string_index_out_of_bounds_exception_name linkage_error_name virtual_machine_error_name no_class_def_found_error_name exception_in_initializer_error_name incompatible_class_change_error_name abstract_method_error_name stack_overflow_error_name built_in_member named_rows found_row print_stream_methods object_methods string_methods string_builder_methods message_methods object_rows throwable_rows message_rows string_rows string_builder_rows print_stream_rows printed_text
linkage_error_rows_say = ((row.ConstructThrowable, refl, (refl, refl, refl)), ((row.ConstructThrowableWith, refl, (refl, refl, refl)), tt))

negative_array_size_exception_rows_say : ThrowableSays negative_array_size_exception_name
unfolding built_in_classes built_in_plain_classes built_in_throwables object_name string_name string_builder_name system_name print_stream_name throwable_name exception_name error_name runtime_exception_name arithmetic_exception_name null_pointer_exception_name array_store_exception_name class_cast_exception_name index_out_of_bounds_exception_name negative_array_size_exception_name illegal_argument_exception_name illegal_state_exception_name array_index_out_of_bounds_exception_name string_index_out_of_bounds_exception_name linkage_error_name virtual_machine_error_name no_class_def_found_error_name exception_in_initializer_error_name incompatible_class_change_error_name abstract_method_error_name stack_overflow_error_name built_in_member named_rows found_row print_stream_methods object_methods string_methods string_builder_methods message_methods object_rows throwable_rows message_rows string_rows string_builder_rows print_stream_rows printed_text
negative_array_size_exception_rows_say = ((row.ConstructThrowable, refl, (refl, refl, refl)), ((row.ConstructThrowableWith, refl, (refl, refl, refl)), tt))

no_class_def_found_error_rows_say : ThrowableSays no_class_def_found_error_name
unfolding built_in_classes built_in_plain_classes built_in_throwables object_name string_name string_builder_name system_name print_stream_name throwable_name exception_name error_name runtime_exception_name arithmetic_exception_name null_pointer_exception_name array_store_exception_name class_cast_exception_name index_out_of_bounds_exception_name negative_array_size_exception_name illegal_argument_exception_name illegal_state_exception_name array_index_out_of_bounds_exception_name string_index_out_of_bounds_exception_name linkage_error_name virtual_machine_error_name no_class_def_found_error_name exception_in_initializer_error_name incompatible_class_change_error_name abstract_method_error_name stack_overflow_error_name built_in_member named_rows found_row print_stream_methods object_methods string_methods string_builder_methods message_methods object_rows throwable_rows message_rows string_rows string_builder_rows print_stream_rows printed_text
no_class_def_found_error_rows_say = ((row.ConstructThrowable, refl, (refl, refl, refl)), ((row.ConstructThrowableWith, refl, (refl, refl, refl)), tt))

null_pointer_exception_rows_say : ThrowableSays null_pointer_exception_name
unfolding built_in_classes built_in_plain_classes built_in_throwables object_name string_name string_builder_name system_name print_stream_name throwable_name exception_name error_name runtime_exception_name arithmetic_exception_name null_pointer_exception_name array_store_exception_name class_cast_exception_name index_out_of_bounds_exception_name negative_array_size_exception_name illegal_argument_exception_name illegal_state_exception_name array_index_out_of_bounds_exception_name string_index_out_of_bounds_exception_name linkage_error_name virtual_machine_error_name no_class_def_found_error_name exception_in_initializer_error_name incompatible_class_change_error_name abstract_method_error_name stack_overflow_error_name built_in_member named_rows found_row print_stream_methods object_methods string_methods string_builder_methods message_methods object_rows throwable_rows message_rows string_rows string_builder_rows print_stream_rows printed_text
null_pointer_exception_rows_say = ((row.ConstructThrowable, refl, (refl, refl, refl)), ((row.ConstructThrowableWith, refl, (refl, refl, refl)), tt))

object_rows_say : AllByRecursion (RowSays object_name) object_methods
unfolding built_in_classes built_in_plain_classes built_in_throwables object_name string_name string_builder_name system_name print_stream_name throwable_name exception_name error_name runtime_exception_name arithmetic_exception_name null_pointer_exception_name array_store_exception_name class_cast_exception_name index_out_of_bounds_exception_name negative_array_size_exception_name illegal_argument_exception_name illegal_state_exception_name array_index_out_of_bounds_exception_name string_index_out_of_bounds_exception_name linkage_error_name virtual_machine_error_name no_class_def_found_error_name exception_in_initializer_error_name incompatible_class_change_error_name abstract_method_error_name stack_overflow_error_name built_in_member named_rows found_row print_stream_methods object_methods string_methods string_builder_methods message_methods object_rows throwable_rows message_rows string_rows string_builder_rows print_stream_rows printed_text
object_rows_say = ((row.Construct, refl, (refl, refl)), ((row.IsSameObject, refl, (refl, refl)), tt))

runtime_exception_rows_say : ThrowableSays runtime_exception_name
unfolding built_in_classes built_in_plain_classes built_in_throwables object_name string_name string_builder_name system_name print_stream_name throwable_name exception_name error_name runtime_exception_name arithmetic_exception_name null_pointer_exception_name array_store_exception_name class_cast_exception_name index_out_of_bounds_exception_name negative_array_size_exception_name illegal_argument_exception_name illegal_state_exception_name array_index_out_of_bounds_exception_name string_index_out_of_bounds_exception_name linkage_error_name virtual_machine_error_name no_class_def_found_error_name exception_in_initializer_error_name incompatible_class_change_error_name abstract_method_error_name stack_overflow_error_name built_in_member named_rows found_row print_stream_methods object_methods string_methods string_builder_methods message_methods object_rows throwable_rows message_rows string_rows string_builder_rows print_stream_rows printed_text
runtime_exception_rows_say = ((row.ConstructThrowable, refl, (refl, refl, refl)), ((row.ConstructThrowableWith, refl, (refl, refl, refl)), tt))

stack_overflow_error_rows_say : ThrowableSays stack_overflow_error_name
unfolding built_in_classes built_in_plain_classes built_in_throwables object_name string_name string_builder_name system_name print_stream_name throwable_name exception_name error_name runtime_exception_name arithmetic_exception_name null_pointer_exception_name array_store_exception_name class_cast_exception_name index_out_of_bounds_exception_name negative_array_size_exception_name illegal_argument_exception_name illegal_state_exception_name array_index_out_of_bounds_exception_name string_index_out_of_bounds_exception_name linkage_error_name virtual_machine_error_name no_class_def_found_error_name exception_in_initializer_error_name incompatible_class_change_error_name abstract_method_error_name stack_overflow_error_name built_in_member named_rows found_row print_stream_methods object_methods string_methods string_builder_methods message_methods object_rows throwable_rows message_rows string_rows string_builder_rows print_stream_rows printed_text
stack_overflow_error_rows_say = ((row.ConstructThrowable, refl, (refl, refl, refl)), ((row.ConstructThrowableWith, refl, (refl, refl, refl)), tt))

string_rows_say : AllByRecursion (RowSays string_name) string_methods
unfolding built_in_classes built_in_plain_classes built_in_throwables object_name string_name string_builder_name system_name print_stream_name throwable_name exception_name error_name runtime_exception_name arithmetic_exception_name null_pointer_exception_name array_store_exception_name class_cast_exception_name index_out_of_bounds_exception_name negative_array_size_exception_name illegal_argument_exception_name illegal_state_exception_name array_index_out_of_bounds_exception_name string_index_out_of_bounds_exception_name linkage_error_name virtual_machine_error_name no_class_def_found_error_name exception_in_initializer_error_name incompatible_class_change_error_name abstract_method_error_name stack_overflow_error_name built_in_member named_rows found_row print_stream_methods object_methods string_methods string_builder_methods message_methods object_rows throwable_rows message_rows string_rows string_builder_rows print_stream_rows printed_text
string_rows_say = ((row.CharAt, refl, (refl, refl, refl)), ((row.IsEqualText, refl, (refl, refl, refl)), ((row.TextLength, refl, (refl, refl, refl)), tt)))

string_builder_rows_say : AllByRecursion (RowSays string_builder_name) string_builder_methods
unfolding built_in_classes built_in_plain_classes built_in_throwables object_name string_name string_builder_name system_name print_stream_name throwable_name exception_name error_name runtime_exception_name arithmetic_exception_name null_pointer_exception_name array_store_exception_name class_cast_exception_name index_out_of_bounds_exception_name negative_array_size_exception_name illegal_argument_exception_name illegal_state_exception_name array_index_out_of_bounds_exception_name string_index_out_of_bounds_exception_name linkage_error_name virtual_machine_error_name no_class_def_found_error_name exception_in_initializer_error_name incompatible_class_change_error_name abstract_method_error_name stack_overflow_error_name built_in_member named_rows found_row print_stream_methods object_methods string_methods string_builder_methods message_methods object_rows throwable_rows message_rows string_rows string_builder_rows print_stream_rows printed_text
string_builder_rows_say = ((row.Construct, refl, (refl, refl)), ((row.ConstructBuilder, refl, (refl, refl, refl)), ((row.Append form.Char, refl, (refl, refl, refl)), ((row.Append form.Int, refl, (refl, refl, refl)), ((row.Append form.Long, refl, (refl, refl, refl)), ((row.Append form.Text, refl, (refl, refl, refl)), ((row.Append form.Boolean, refl, (refl, refl, refl)), ((row.BuiltText, refl, (refl, refl, refl)), tt))))))))

string_index_out_of_bounds_exception_rows_say : ThrowableSays string_index_out_of_bounds_exception_name
unfolding built_in_classes built_in_plain_classes built_in_throwables object_name string_name string_builder_name system_name print_stream_name throwable_name exception_name error_name runtime_exception_name arithmetic_exception_name null_pointer_exception_name array_store_exception_name class_cast_exception_name index_out_of_bounds_exception_name negative_array_size_exception_name illegal_argument_exception_name illegal_state_exception_name array_index_out_of_bounds_exception_name string_index_out_of_bounds_exception_name linkage_error_name virtual_machine_error_name no_class_def_found_error_name exception_in_initializer_error_name incompatible_class_change_error_name abstract_method_error_name stack_overflow_error_name built_in_member named_rows found_row print_stream_methods object_methods string_methods string_builder_methods message_methods object_rows throwable_rows message_rows string_rows string_builder_rows print_stream_rows printed_text
string_index_out_of_bounds_exception_rows_say = ((row.ConstructThrowable, refl, (refl, refl, refl)), ((row.ConstructThrowableWith, refl, (refl, refl, refl)), tt))

system_rows_say : AllByRecursion (RowSays system_name) []
unfolding built_in_classes built_in_plain_classes built_in_throwables object_name string_name string_builder_name system_name print_stream_name throwable_name exception_name error_name runtime_exception_name arithmetic_exception_name null_pointer_exception_name array_store_exception_name class_cast_exception_name index_out_of_bounds_exception_name negative_array_size_exception_name illegal_argument_exception_name illegal_state_exception_name array_index_out_of_bounds_exception_name string_index_out_of_bounds_exception_name linkage_error_name virtual_machine_error_name no_class_def_found_error_name exception_in_initializer_error_name incompatible_class_change_error_name abstract_method_error_name stack_overflow_error_name built_in_member named_rows found_row print_stream_methods object_methods string_methods string_builder_methods message_methods object_rows throwable_rows message_rows string_rows string_builder_rows print_stream_rows printed_text
system_rows_say = tt

throwable_rows_say : AllByRecursion (RowSays throwable_name) message_methods
unfolding built_in_classes built_in_plain_classes built_in_throwables object_name string_name string_builder_name system_name print_stream_name throwable_name exception_name error_name runtime_exception_name arithmetic_exception_name null_pointer_exception_name array_store_exception_name class_cast_exception_name index_out_of_bounds_exception_name negative_array_size_exception_name illegal_argument_exception_name illegal_state_exception_name array_index_out_of_bounds_exception_name string_index_out_of_bounds_exception_name linkage_error_name virtual_machine_error_name no_class_def_found_error_name exception_in_initializer_error_name incompatible_class_change_error_name abstract_method_error_name stack_overflow_error_name built_in_member named_rows found_row print_stream_methods object_methods string_methods string_builder_methods message_methods object_rows throwable_rows message_rows string_rows string_builder_rows print_stream_rows printed_text
throwable_rows_say = ((row.ConstructThrowable, refl, (refl, refl, refl)), ((row.ConstructThrowableWith, refl, (refl, refl, refl)), ((row.Message, refl, (refl, refl, refl)), tt)))

virtual_machine_error_rows_say : ThrowableSays virtual_machine_error_name
unfolding built_in_classes built_in_plain_classes built_in_throwables object_name string_name string_builder_name system_name print_stream_name throwable_name exception_name error_name runtime_exception_name arithmetic_exception_name null_pointer_exception_name array_store_exception_name class_cast_exception_name index_out_of_bounds_exception_name negative_array_size_exception_name illegal_argument_exception_name illegal_state_exception_name array_index_out_of_bounds_exception_name string_index_out_of_bounds_exception_name linkage_error_name virtual_machine_error_name no_class_def_found_error_name exception_in_initializer_error_name incompatible_class_change_error_name abstract_method_error_name stack_overflow_error_name built_in_member named_rows found_row print_stream_methods object_methods string_methods string_builder_methods message_methods object_rows throwable_rows message_rows string_rows string_builder_rows print_stream_rows printed_text
virtual_machine_error_rows_say = ((row.ConstructThrowable, refl, (refl, refl, refl)), ((row.ConstructThrowableWith, refl, (refl, refl, refl)), tt))

all_say : AllByRecursion TableSays built_in_tables
unfolding built_in_tables
all_say = (print_stream_rows_say, (abstract_method_error_rows_say, (arithmetic_exception_rows_say, (array_index_out_of_bounds_exception_rows_say, (array_store_exception_rows_say, (class_cast_exception_rows_say, (error_rows_say, (exception_rows_say, (exception_in_initializer_error_rows_say, (illegal_argument_exception_rows_say, (illegal_state_exception_rows_say, (incompatible_class_change_error_rows_say, (index_out_of_bounds_exception_rows_say, (linkage_error_rows_say, (negative_array_size_exception_rows_say, (no_class_def_found_error_rows_say, (null_pointer_exception_rows_say, (object_rows_say, (runtime_exception_rows_say, (stack_overflow_error_rows_say, (string_rows_say, (string_builder_rows_say, (string_index_out_of_bounds_exception_rows_say, (system_rows_say, (throwable_rows_say, (virtual_machine_error_rows_say, tt))))))))))))))))))))))))))

at : {A : Type 0} (P : A → Type 0) (xs : List A) (k : ℕ) (x : A) → AllByRecursion P xs → slice_get xs k ≡ Some x → P x
at P [] k x all e = absurd cc
at P (y ∷ ys) zero x all e = subst P (some_same y x e) all.0
at P (y ∷ ys) (suc k) x all e = at P ys k x all.1 e

-- each row of the class of a name says what it does
pub row_says : (class : List ℕ) (k : ℕ) (l : BuiltInMethod) → slice_get (methods_of_class class) k ≡ Some l → RowSays class l
unfolding methods_of_table
row_says class k l e = from (find (λ (table : BuiltInMethods). bytes_eq table.class class) built_in_tables) refl e
  where
    from : (o : Option BuiltInMethods) → find (λ (table : BuiltInMethods). bytes_eq table.class class) built_in_tables ≡ o → slice_get (methods_of_table o) k ≡ Some l → RowSays class l
    from None q e = absurd cc
    from (Some table) q e =
        let found = found_is (λ (table : BuiltInMethods). bytes_eq table.class class) built_in_tables table q in
        subst (λ c. RowSays c l) (same_bytes table.class class found.0) (at (RowSays table.class) table.methods k l (at TableSays built_in_tables found.1.0 table all_say found.1.1) e)
