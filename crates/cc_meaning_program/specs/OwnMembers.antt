-- The members that a class itself has: those that the file defines, and the built-in methods.
use Rattle.std.specs.Prelude.{ℕ, Bool, List, [], Option, Some, None, option_and_then, slice_get, find, position, codes, take}
use Rattle.std.specs.Str.{bytes_eq}
use Rattle.cc_meaning.specs.declared.file.ClassRow.{ClassRow}
use Rattle.cc_meaning.specs.declared.file.Ids.{Ids}
use Rattle.cc_meaning.specs.declared.file.RawClass.{RawClass}
use Rattle.cc_meaning.specs.declared.file.RawField.{RawField}
use Rattle.cc_meaning.specs.declared.file.RawMethod.{RawMethod}
use Rattle.cc_meaning.specs.declared.program.ClassKind.{ClassKind}
use Rattle.cc_meaning.specs.declared.program.ClassKind.TheVariants as kind
use Rattle.cc_built_in.specs.BuiltInMethods.{BuiltInMethod, built_in_member, methods_of_class, array_methods}
use Rattle.cc_meaning_program.specs.Named.{type_name, field_member, method_member}
use Rattle.cc_meaning_program.specs.Ancestry.{kind_of_class}

-- ---- members of the file

-- what the file's class data says of a class
unfoldable pub members_of : Ids → List RawClass → List ℕ → Option RawClass
members_of ids classes name = option_and_then (slice_get classes) (position (λ (stated : ClassRow). bytes_eq (type_name ids stated.class) name) ids.classes)

unfoldable pub method_among : Ids → List ℕ → Option RawClass → Option RawMethod
method_among ids member None = None
method_among ids member (Some class) = find (λ (method : RawMethod). bytes_eq (method_member ids method.row) member) class.methods

unfoldable pub field_among : Ids → List ℕ → Option RawClass → Option RawField
field_among ids member None = None
field_among ids member (Some class) = find (λ (field : RawField). bytes_eq (field_member ids field.row) member) class.fields

-- the method of this name that a class of the file defines
unfoldable pub method_defined : Ids → List RawClass → List ℕ → List ℕ → Option RawMethod
method_defined ids classes class member = method_among ids member (members_of ids classes class)

-- the field of this name that a class of the file defines
unfoldable pub field_defined : Ids → List RawClass → List ℕ → List ℕ → Option RawField
field_defined ids classes class member = field_among ids member (members_of ids classes class)

-- ---- built-in members

unfoldable pub built_in_by_kind : ClassKind → List ℕ → List BuiltInMethod
built_in_by_kind kind.BuiltIn class = methods_of_class class
built_in_by_kind kind.Array class = array_methods class
built_in_by_kind _ class = []

-- the built-in methods that a class lists itself
unfoldable pub built_in_methods_of : Ids → List ℕ → List BuiltInMethod
built_in_methods_of ids class = built_in_by_kind (kind_of_class ids class) class

-- the one of this name
unfoldable pub method_listed : Ids → List ℕ → List ℕ → Option BuiltInMethod
method_listed ids class member = find (λ (method : BuiltInMethod). bytes_eq (built_in_member method) member) (built_in_methods_of ids class)

-- ---- constructors

-- whether a name within a class is that of a constructor
unfoldable pub is_constructor : List ℕ → Bool
is_constructor member = bytes_eq (take 7 member) (codes "<init>(")
