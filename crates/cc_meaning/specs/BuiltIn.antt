-- The classes that every program has beside those of its file, and the superclass that each has.
use Rattle.std.specs.Prelude.{ℕ, Bool, List, [], ◌∷◌, ◌++◌, Option, Some, None, codes, find, option_and_then}
use Rattle.std.specs.List.{list_any}
use Rattle.std.specs.Str.{bytes_eq}

unfoldable pub object_name : List ℕ
object_name = codes "Ljava/lang/Object;"

unfoldable pub string_name : List ℕ
string_name = codes "Ljava/lang/String;"

unfoldable pub string_builder_name : List ℕ
string_builder_name = codes "Ljava/lang/StringBuilder;"

unfoldable pub system_name : List ℕ
system_name = codes "Ljava/lang/System;"

unfoldable pub print_stream_name : List ℕ
print_stream_name = codes "Ljava/io/PrintStream;"

unfoldable pub throwable_name : List ℕ
throwable_name = codes "Ljava/lang/Throwable;"

unfoldable pub exception_name : List ℕ
exception_name = codes "Ljava/lang/Exception;"

unfoldable pub error_name : List ℕ
error_name = codes "Ljava/lang/Error;"

unfoldable pub runtime_exception_name : List ℕ
runtime_exception_name = codes "Ljava/lang/RuntimeException;"

unfoldable pub arithmetic_exception_name : List ℕ
arithmetic_exception_name = codes "Ljava/lang/ArithmeticException;"

unfoldable pub null_pointer_exception_name : List ℕ
null_pointer_exception_name = codes "Ljava/lang/NullPointerException;"

unfoldable pub array_store_exception_name : List ℕ
array_store_exception_name = codes "Ljava/lang/ArrayStoreException;"

unfoldable pub class_cast_exception_name : List ℕ
class_cast_exception_name = codes "Ljava/lang/ClassCastException;"

unfoldable pub index_out_of_bounds_exception_name : List ℕ
index_out_of_bounds_exception_name = codes "Ljava/lang/IndexOutOfBoundsException;"

unfoldable pub negative_array_size_exception_name : List ℕ
negative_array_size_exception_name = codes "Ljava/lang/NegativeArraySizeException;"

unfoldable pub illegal_argument_exception_name : List ℕ
illegal_argument_exception_name = codes "Ljava/lang/IllegalArgumentException;"

unfoldable pub illegal_state_exception_name : List ℕ
illegal_state_exception_name = codes "Ljava/lang/IllegalStateException;"

unfoldable pub array_index_out_of_bounds_exception_name : List ℕ
array_index_out_of_bounds_exception_name = codes "Ljava/lang/ArrayIndexOutOfBoundsException;"

unfoldable pub string_index_out_of_bounds_exception_name : List ℕ
string_index_out_of_bounds_exception_name = codes "Ljava/lang/StringIndexOutOfBoundsException;"

unfoldable pub linkage_error_name : List ℕ
linkage_error_name = codes "Ljava/lang/LinkageError;"

unfoldable pub virtual_machine_error_name : List ℕ
virtual_machine_error_name = codes "Ljava/lang/VirtualMachineError;"

unfoldable pub no_class_def_found_error_name : List ℕ
no_class_def_found_error_name = codes "Ljava/lang/NoClassDefFoundError;"

unfoldable pub exception_in_initializer_error_name : List ℕ
exception_in_initializer_error_name = codes "Ljava/lang/ExceptionInInitializerError;"

unfoldable pub incompatible_class_change_error_name : List ℕ
incompatible_class_change_error_name = codes "Ljava/lang/IncompatibleClassChangeError;"

unfoldable pub abstract_method_error_name : List ℕ
abstract_method_error_name = codes "Ljava/lang/AbstractMethodError;"

unfoldable pub stack_overflow_error_name : List ℕ
stack_overflow_error_name = codes "Ljava/lang/StackOverflowError;"

-- a built-in class: its name, and its superclass's, which Object alone hasn't got
pub record BuiltInClass : Type 0 where
  pub name : List ℕ
  pub superclass : Option (List ℕ)

abbrev below : List ℕ → List ℕ → BuiltInClass
below superclass name = record { name = name; superclass = Some superclass }

-- the built-in classes that are no throwables
unfoldable pub built_in_plain_classes : List BuiltInClass
built_in_plain_classes =
    record { name = object_name; superclass = None }
    ∷ below object_name string_name
    ∷ below object_name string_builder_name
    ∷ below object_name system_name
    ∷ below object_name print_stream_name
    ∷ []

-- Throwable, and the built-in classes below it
unfoldable pub built_in_throwables : List BuiltInClass
built_in_throwables =
    below object_name throwable_name
    ∷ below throwable_name exception_name
    ∷ below throwable_name error_name
    ∷ below exception_name runtime_exception_name
    ∷ below runtime_exception_name arithmetic_exception_name
    ∷ below runtime_exception_name null_pointer_exception_name
    ∷ below runtime_exception_name array_store_exception_name
    ∷ below runtime_exception_name class_cast_exception_name
    ∷ below runtime_exception_name index_out_of_bounds_exception_name
    ∷ below runtime_exception_name negative_array_size_exception_name
    ∷ below runtime_exception_name illegal_argument_exception_name
    ∷ below runtime_exception_name illegal_state_exception_name
    ∷ below index_out_of_bounds_exception_name array_index_out_of_bounds_exception_name
    ∷ below index_out_of_bounds_exception_name string_index_out_of_bounds_exception_name
    ∷ below error_name linkage_error_name
    ∷ below error_name virtual_machine_error_name
    ∷ below linkage_error_name no_class_def_found_error_name
    ∷ below linkage_error_name exception_in_initializer_error_name
    ∷ below linkage_error_name incompatible_class_change_error_name
    ∷ below incompatible_class_change_error_name abstract_method_error_name
    ∷ below virtual_machine_error_name stack_overflow_error_name
    ∷ []

-- the 26 built-in classes
unfoldable pub built_in_classes : List BuiltInClass
built_in_classes = built_in_plain_classes ++ built_in_throwables

-- the built-in class of a name
abbrev pub built_in_class : List ℕ → Option BuiltInClass
built_in_class name = find (λ (class : BuiltInClass). bytes_eq class.name name) built_in_classes

-- whether a name is that of a built-in class
abbrev pub is_built_in : List ℕ → Bool
is_built_in name = list_any (λ (class : BuiltInClass). bytes_eq class.name name) built_in_classes

-- whether a name is that of Throwable or of a built-in class below it
abbrev pub is_built_in_throwable : List ℕ → Bool
is_built_in_throwable name = list_any (λ (class : BuiltInClass). bytes_eq class.name name) built_in_throwables

-- the name of a built-in class's superclass
abbrev pub built_in_superclass : List ℕ → Option (List ℕ)
built_in_superclass name = option_and_then (λ (class : BuiltInClass). class.superclass) (built_in_class name)

-- the standard output's field: its bare name, and its name as printed
unfoldable pub out_name : List ℕ
out_name = codes "out"

unfoldable pub system_out_name : List ℕ
system_out_name = codes "Ljava/lang/System;->out:Ljava/io/PrintStream;"
