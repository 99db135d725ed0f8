-- Worked examples of the definitions in specs/, each computed.
use Rattle.std.proofs.Common.{◌≡◌, ℕ, List, [], ◌∷◌, length, Option, Some, None, Bool, true, false, refl}
use Rattle.std.specs.Prelude.{pos, codes, ◌||◌}
use Rattle.std.specs.List.{list_all, list_any}
use Rattle.std.specs.Str.{bytes_eq}
use Rattle.cc_meaning.specs.declared.value.Object.TheVariants as object
use Rattle.cc_meaning.specs.declared.value.Value.TheVariants as value
use Rattle.cc_meaning.specs.declared.report.Answer.TheVariants as answer
use Rattle.cc_meaning.specs.declared.report.Arg.TheVariants as arg
use Rattle.cc_meaning.specs.declared.report.Event.TheVariants as event
use Rattle.cc_meaning.specs.Words.{words_of, words_of_event}
use Rattle.cc_meaning.specs.declared.program.Base.TheVariants as base
use Rattle.cc_meaning.specs.declared.program.Class.{Class}
use Rattle.cc_meaning.specs.declared.program.ClassKind.TheVariants as class_kind
use Rattle.cc_meaning.specs.declared.program.DexType.{DexType}
use Rattle.cc_meaning.specs.declared.program.Field.{Field}
use Rattle.cc_meaning.specs.declared.program.Method.{Method}
use Rattle.cc_meaning.specs.declared.program.MethodKind.TheVariants as method_kind
use Rattle.cc_meaning.specs.declared.program.Program.{Program}
use Rattle.cc_meaning.specs.declared.instruction.Kind.{Kind}
use Rattle.cc_meaning.specs.declared.instruction.Kind.TheVariants as kind
use Rattle.cc_meaning.specs.Kinds.{argument_width, is_of_kind, kind_of, width_of_types, width_of_values, zero_of}
use Rattle.cc_meaning.specs.Lookup.{class_of_object, system_out, method_named}
use Rattle.cc_meaning.specs.Order.{IsBefore}
use Rattle.cc_meaning.specs.Names.{field_name, method_name}
use Rattle.cc_meaning.specs.BuiltIn.{BuiltInClass, built_in_classes, built_in_plain_classes, built_in_throwables, built_in_superclass, system_out_name, object_name, string_name, string_builder_name, system_name, print_stream_name, throwable_name, exception_name, error_name, runtime_exception_name, arithmetic_exception_name, null_pointer_exception_name, array_store_exception_name, class_cast_exception_name, index_out_of_bounds_exception_name, negative_array_size_exception_name, illegal_argument_exception_name, illegal_state_exception_name, array_index_out_of_bounds_exception_name, string_index_out_of_bounds_exception_name, linkage_error_name, virtual_machine_error_name, no_class_def_found_error_name, exception_in_initializer_error_name, incompatible_class_change_error_name, abstract_method_error_name, stack_overflow_error_name}

-- a text of three units takes five words
text_of_three : words_of (object.Text (104 ∷ 105 ∷ 33 ∷ [])) ≡ 5
text_of_three = refl

-- System.out takes none, a class constant two
out_is_free : words_of object.Out ≡ 0
out_is_free = refl

constant_takes_two : words_of (object.Constant 7) ≡ 2
constant_takes_two = refl

-- an exception without fields of its own takes three: two, and one for its message
exception_takes_three : words_of (object.Instance 4 (value.Obj None ∷ [])) ≡ 3
exception_takes_three = refl

-- "hi" and a line feed, printed, take five
print_takes_five : words_of_event (event.Print (104 ∷ 105 ∷ 10 ∷ [])) ≡ 5
print_takes_five = refl

-- a call with an int and a text of two units, answered by a text of three units: two, two, two and three
call_takes_nine : words_of_event (event.Call 3 (arg.Int (pos 8) ∷ arg.Text (104 ∷ 105 ∷ []) ∷ []) (answer.Text (97 ∷ 98 ∷ 99 ∷ []))) ≡ 9
call_takes_nine = refl

abbrev plain : DexType
plain = record { dims = 0; base = base.Int }

abbrev long : DexType
long = record { dims = 0; base = base.Long }

abbrev longs : DexType
longs = record { dims = 2; base = base.Long }

abbrev class_of_name : List ℕ → Class
class_of_name name = record { name = name; kind = class_kind.File; superclass = None; interfaces = []; is_interface = false; is_abstract = false; layout = []; initialiser = None; values = [] }

abbrev main_method : Method
main_method = record { class = 0; name = codes "main"; params = record { dims = 1; base = base.Class 3 } ∷ long ∷ []; result = None; is_static = true; is_virtual = false; kind = method_kind.Abstract }

abbrev size_field : Field
size_field = record { class = 0; name = codes "size"; ty = longs; is_static = false }

abbrev out_field : Field
out_field = record { class = 5; name = codes "out"; ty = record { dims = 0; base = base.Class 1 }; is_static = true }

abbrev small : Program
small = record {
  classes = class_of_name (codes "LA;") ∷ class_of_name (codes "Ljava/io/PrintStream;") ∷ class_of_name (codes "Ljava/lang/Object;") ∷ class_of_name (codes "Ljava/lang/String;")
      ∷ class_of_name (codes "Ljava/lang/StringBuilder;") ∷ class_of_name (codes "Ljava/lang/System;") ∷ [];
  methods = main_method ∷ [];
  fields = size_field ∷ out_field ∷ [];
  texts = [];
  main = 0;
}

long_is_wide : kind_of long ≡ kind.Wide
long_is_wide = refl

array_of_longs_is_reference : kind_of longs ≡ kind.Object
array_of_longs_is_reference = refl

-- an int, a long and an array take four registers
parameters_take_four : width_of_types (plain ∷ long ∷ longs ∷ []) ≡ 4
parameters_take_four = refl

-- a receiver takes one more
receiver_takes_one : argument_width (record main_method { is_static = false }) ≡ 4
receiver_takes_one = refl

values_take_three : width_of_values (value.Long (pos 1) ∷ value.Obj None ∷ []) ≡ 3
values_take_three = refl

name_of_main : method_name small main_method ≡ codes "LA;->main([Ljava/lang/String;J)V"
name_of_main = refl

name_of_size : field_name small size_field ≡ codes "LA;->size:[[J"
name_of_size = refl

number_of_main : method_named (codes "LA;->main([Ljava/lang/String;J)V") small ≡ Some 0
number_of_main = refl

number_of_system_out : system_out small ≡ Some 1
unfolding system_out_name
number_of_system_out = refl

class_of_text : class_of_object small (object.Text []) ≡ Some 3
unfolding string_name
class_of_text = refl

class_of_builder : class_of_object small (object.Builder []) ≡ Some 4
unfolding string_builder_name
class_of_builder = refl

class_of_constant : class_of_object small (object.Constant 0) ≡ Some 2
unfolding object_name
class_of_constant = refl

class_of_out : class_of_object small object.Out ≡ Some 1
unfolding print_stream_name
class_of_out = refl

there_are_26 : length built_in_classes ≡ 26
unfolding built_in_classes built_in_plain_classes built_in_throwables
there_are_26 = refl

abbrev any_named : List BuiltInClass → Option (List ℕ) → Bool
any_named classes None = false
any_named classes (Some name) = list_any (λ (class : BuiltInClass). bytes_eq class.name name) classes

-- whether the superclass of a built-in class is one of a list
abbrev above_among : List BuiltInClass → BuiltInClass → Bool
above_among classes class = any_named classes class.superclass

-- the superclass of each throwable is Object for Throwable, and a throwable for the others
throwables_are_closed : list_all (λ (class : BuiltInClass). bytes_eq class.name throwable_name || above_among built_in_throwables class) built_in_throwables ≡ true
unfolding built_in_classes built_in_plain_classes built_in_throwables object_name string_name string_builder_name system_name print_stream_name throwable_name exception_name error_name runtime_exception_name arithmetic_exception_name null_pointer_exception_name array_store_exception_name class_cast_exception_name index_out_of_bounds_exception_name negative_array_size_exception_name illegal_argument_exception_name illegal_state_exception_name array_index_out_of_bounds_exception_name string_index_out_of_bounds_exception_name linkage_error_name virtual_machine_error_name no_class_def_found_error_name exception_in_initializer_error_name incompatible_class_change_error_name abstract_method_error_name stack_overflow_error_name
throwables_are_closed = refl

-- the superclass of each built-in class but Object is built in
classes_are_closed : list_all (λ (class : BuiltInClass). bytes_eq class.name object_name || above_among built_in_classes class) built_in_classes ≡ true
unfolding built_in_classes built_in_plain_classes built_in_throwables object_name string_name string_builder_name system_name print_stream_name throwable_name exception_name error_name runtime_exception_name arithmetic_exception_name null_pointer_exception_name array_store_exception_name class_cast_exception_name index_out_of_bounds_exception_name negative_array_size_exception_name illegal_argument_exception_name illegal_state_exception_name array_index_out_of_bounds_exception_name string_index_out_of_bounds_exception_name linkage_error_name virtual_machine_error_name no_class_def_found_error_name exception_in_initializer_error_name incompatible_class_change_error_name abstract_method_error_name stack_overflow_error_name
classes_are_closed = refl

above_stack_overflow : built_in_superclass (codes "Ljava/lang/StackOverflowError;") ≡ Some (codes "Ljava/lang/VirtualMachineError;")
unfolding built_in_classes built_in_plain_classes built_in_throwables object_name string_name string_builder_name system_name print_stream_name throwable_name exception_name error_name runtime_exception_name arithmetic_exception_name null_pointer_exception_name array_store_exception_name class_cast_exception_name index_out_of_bounds_exception_name negative_array_size_exception_name illegal_argument_exception_name illegal_state_exception_name array_index_out_of_bounds_exception_name string_index_out_of_bounds_exception_name linkage_error_name virtual_machine_error_name no_class_def_found_error_name exception_in_initializer_error_name incompatible_class_change_error_name abstract_method_error_name stack_overflow_error_name
above_stack_overflow = refl

-- what a field of a kind begins with is of that kind
zero_is_of_kind : (k : Kind) → is_of_kind k (zero_of k) ≡ true
zero_is_of_kind kind.Plain = refl
zero_is_of_kind kind.Wide = refl
zero_is_of_kind kind.Object = refl
zero_is_of_kind kind.Boolean = refl
zero_is_of_kind kind.Byte = refl
zero_is_of_kind kind.Char = refl
zero_is_of_kind kind.Short = refl

-- a name comes before one that goes on behind it, and before one whose first other unit is greater
shorter_is_before : IsBefore (codes "LA") (codes "LA;")
shorter_is_before = refl

lower_is_before : IsBefore (codes "LA;") (codes "LB")
lower_is_before = refl
