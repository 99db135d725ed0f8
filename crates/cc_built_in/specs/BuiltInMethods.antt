-- The methods of the built-in classes, by class and within a class in the order of their names as printed.
use Rattle.std.specs.Prelude.{ℕ, ◌+◌, Bool, cond, List, [], ◌∷◌, ◌++◌, Option, Some, None, length, codes, find}
use Rattle.std.specs.List.{flat_map}
use Rattle.std.specs.Ordering.{nat_cmp, is_lt}
use Rattle.std.specs.Cmp.Lexicographic.{slice_cmp}
use Rattle.std.specs.Str.{bytes_eq}
use Rattle.cc_meaning.specs.BuiltIn.{object_name, string_name, string_builder_name, system_name, print_stream_name, throwable_name, exception_name, error_name, runtime_exception_name, arithmetic_exception_name, null_pointer_exception_name, array_store_exception_name, class_cast_exception_name, index_out_of_bounds_exception_name, negative_array_size_exception_name, illegal_argument_exception_name, illegal_state_exception_name, array_index_out_of_bounds_exception_name, string_index_out_of_bounds_exception_name, linkage_error_name, virtual_machine_error_name, no_class_def_found_error_name, exception_in_initializer_error_name, incompatible_class_change_error_name, abstract_method_error_name, stack_overflow_error_name}

-- a built-in method, its types by their descriptors
pub record BuiltInMethod : Type 0 where
  pub class : List ℕ
  pub name : List ℕ
  pub params : List (List ℕ)
  pub result : List ℕ

-- a built-in class and its methods
pub record BuiltInMethods : Type 0 where
  pub class : List ℕ
  pub methods : List BuiltInMethod

abbrev pub built_in_method : List ℕ → List ℕ → List (List ℕ) → List ℕ → BuiltInMethod
built_in_method class name params result = record { class = class; name = name; params = params; result = result }

-- a constructor without parameters, and one that takes a text
abbrev pub constructor : List ℕ → BuiltInMethod
constructor class = built_in_method class (codes "<init>") [] (codes "V")

abbrev pub text_constructor : List ℕ → BuiltInMethod
text_constructor class = built_in_method class (codes "<init>") (string_name ∷ []) (codes "V")

-- each throwable has these two
abbrev pub throwable_methods : List ℕ → BuiltInMethods
throwable_methods class = record { class = class; methods = constructor class ∷ text_constructor class ∷ [] }

-- a print of a value of this type
abbrev pub print_of : List ℕ → List ℕ → BuiltInMethod
print_of name type = built_in_method print_stream_name name (type ∷ []) (codes "V")

abbrev pub append_of : List ℕ → BuiltInMethod
append_of type = built_in_method string_builder_name (codes "append") (type ∷ []) string_builder_name

unfoldable pub print_stream_methods : List BuiltInMethod
print_stream_methods =
    print_of (codes "print") (codes "C") ∷ print_of (codes "print") (codes "I") ∷ print_of (codes "print") (codes "J")
    ∷ print_of (codes "print") string_name ∷ print_of (codes "print") (codes "Z")
    ∷ built_in_method print_stream_name (codes "println") [] (codes "V")
    ∷ print_of (codes "println") (codes "C") ∷ print_of (codes "println") (codes "I") ∷ print_of (codes "println") (codes "J")
    ∷ print_of (codes "println") string_name ∷ print_of (codes "println") (codes "Z") ∷ []

unfoldable pub object_methods : List BuiltInMethod
object_methods = constructor object_name ∷ built_in_method object_name (codes "equals") (object_name ∷ []) (codes "Z") ∷ []

unfoldable pub string_methods : List BuiltInMethod
string_methods =
    built_in_method string_name (codes "charAt") (codes "I" ∷ []) (codes "C")
    ∷ built_in_method string_name (codes "equals") (object_name ∷ []) (codes "Z")
    ∷ built_in_method string_name (codes "length") [] (codes "I") ∷ []

unfoldable pub string_builder_methods : List BuiltInMethod
string_builder_methods =
    constructor string_builder_name ∷ text_constructor string_builder_name
    ∷ append_of (codes "C") ∷ append_of (codes "I") ∷ append_of (codes "J") ∷ append_of string_name ∷ append_of (codes "Z")
    ∷ built_in_method string_builder_name (codes "toString") [] string_name ∷ []

unfoldable pub message_methods : List BuiltInMethod
message_methods = constructor throwable_name ∷ text_constructor throwable_name ∷ built_in_method throwable_name (codes "getMessage") [] string_name ∷ []

-- the built-in classes in the order of their names, each with its methods
unfoldable pub built_in_tables : List BuiltInMethods
built_in_tables =
    record { class = print_stream_name; methods = print_stream_methods }
    ∷ throwable_methods abstract_method_error_name
    ∷ throwable_methods arithmetic_exception_name
    ∷ throwable_methods array_index_out_of_bounds_exception_name
    ∷ throwable_methods array_store_exception_name
    ∷ throwable_methods class_cast_exception_name
    ∷ throwable_methods error_name
    ∷ throwable_methods exception_name
    ∷ throwable_methods exception_in_initializer_error_name
    ∷ throwable_methods illegal_argument_exception_name
    ∷ throwable_methods illegal_state_exception_name
    ∷ throwable_methods incompatible_class_change_error_name
    ∷ throwable_methods index_out_of_bounds_exception_name
    ∷ throwable_methods linkage_error_name
    ∷ throwable_methods negative_array_size_exception_name
    ∷ throwable_methods no_class_def_found_error_name
    ∷ throwable_methods null_pointer_exception_name
    ∷ record { class = object_name; methods = object_methods }
    ∷ throwable_methods runtime_exception_name
    ∷ throwable_methods stack_overflow_error_name
    ∷ record { class = string_name; methods = string_methods }
    ∷ record { class = string_builder_name; methods = string_builder_methods }
    ∷ throwable_methods string_index_out_of_bounds_exception_name
    ∷ record { class = system_name; methods = [] }
    ∷ record { class = throwable_name; methods = message_methods }
    ∷ throwable_methods virtual_machine_error_name
    ∷ []

-- the methods of the built-in classes, in the order of their names
unfoldable pub built_in_methods : List BuiltInMethod
built_in_methods = flat_map (λ (table : BuiltInMethods). table.methods) built_in_tables

-- the methods of the built-in class of a name, none where no built-in class has it
unfoldable pub methods_of_table : Option BuiltInMethods → List BuiltInMethod
methods_of_table None = []
methods_of_table (Some table) = table.methods

abbrev pub methods_of_class : List ℕ → List BuiltInMethod
methods_of_class name = methods_of_table (find (λ (table : BuiltInMethods). bytes_eq table.class name) built_in_tables)

-- each array has a copy of itself made
unfoldable pub array_methods : List ℕ → List BuiltInMethod
array_methods class = built_in_method class (codes "clone") [] object_name ∷ []

-- a built-in method's name within its class, as printed
unfoldable pub built_in_member : BuiltInMethod → List ℕ
built_in_member method = method.name ++ codes "(" ++ flat_map (λ (type : List ℕ). type) method.params ++ codes ")" ++ method.result

-- whether a name stands before another in the order of names
abbrev pub is_before : List ℕ → List ℕ → Bool
is_before a b = is_lt (slice_cmp nat_cmp a b)

-- how many methods have the classes of a table whose names stand before a name
unfoldable pub methods_before : List BuiltInMethods → List ℕ → ℕ
methods_before [] name = 0
methods_before (table ∷ rest) name = cond (is_before table.class name) (length table.methods) 0 + methods_before rest name
