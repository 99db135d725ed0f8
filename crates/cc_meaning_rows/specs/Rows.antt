-- Which built-in method a method is: by the name of its class, and its own name with parameters and result.
use Rattle.std.specs.Prelude.{ℕ, List, [], ◌∷◌, Option, Some, None, slice_get, option_and_then, codes, if◌then◌else◌}
use Rattle.std.specs.Str.{bytes_eq}
use Rattle.cc_meaning.specs.declared.program.Class.{Class}
use Rattle.cc_meaning.specs.declared.program.ClassKind.{ClassKind}
use Rattle.cc_meaning.specs.declared.program.ClassKind.TheVariants as kind
use Rattle.cc_meaning.specs.declared.program.Method.{Method}
use Rattle.cc_meaning.specs.declared.program.Program.{Program}
use Rattle.cc_meaning.specs.BuiltIn.{object_name, string_name, string_builder_name, print_stream_name, throwable_name, is_built_in_throwable}
use Rattle.cc_meaning.specs.Names.{member_name}
use Rattle.cc_meaning_rows.specs.declared.builtin.BuiltIn.{BuiltIn}
use Rattle.cc_meaning_rows.specs.declared.builtin.BuiltIn.TheVariants as method
use Rattle.cc_meaning_rows.specs.declared.builtin.Printed.TheVariants as form

-- a method's name within its class, and what it does
pub record MemberRow : Type 0 where
  pub member : List ℕ
  pub does : BuiltIn

abbrev pub row : List ℕ → BuiltIn → MemberRow
row member does = record { member = member; does = does }

unfoldable pub object_rows : List MemberRow
object_rows =
    row (codes "<init>()V") method.Construct
    ∷ row (codes "equals(Ljava/lang/Object;)Z") method.IsSameObject ∷ []

unfoldable pub throwable_rows : List MemberRow
throwable_rows =
    row (codes "<init>()V") method.ConstructThrowable
    ∷ row (codes "<init>(Ljava/lang/String;)V") method.ConstructThrowableWith ∷ []

-- Throwable's own, which the throwables below it inherit
unfoldable pub message_rows : List MemberRow
message_rows = row (codes "getMessage()Ljava/lang/String;") method.Message ∷ throwable_rows

unfoldable pub string_rows : List MemberRow
string_rows =
    row (codes "length()I") method.TextLength
    ∷ row (codes "charAt(I)C") method.CharAt
    ∷ row (codes "equals(Ljava/lang/Object;)Z") method.IsEqualText ∷ []

unfoldable pub string_builder_rows : List MemberRow
string_builder_rows =
    row (codes "append(C)Ljava/lang/StringBuilder;") (method.Append form.Char)
    ∷ row (codes "append(I)Ljava/lang/StringBuilder;") (method.Append form.Int)
    ∷ row (codes "append(J)Ljava/lang/StringBuilder;") (method.Append form.Long)
    ∷ row (codes "append(Z)Ljava/lang/StringBuilder;") (method.Append form.Boolean)
    ∷ row (codes "append(Ljava/lang/String;)Ljava/lang/StringBuilder;") (method.Append form.Text)
    ∷ row (codes "toString()Ljava/lang/String;") method.BuiltText
    ∷ row (codes "<init>()V") method.Construct
    ∷ row (codes "<init>(Ljava/lang/String;)V") method.ConstructBuilder ∷ []

unfoldable pub print_stream_rows : List MemberRow
print_stream_rows =
    row (codes "print(C)V") (method.Print form.Char)
    ∷ row (codes "print(I)V") (method.Print form.Int)
    ∷ row (codes "print(J)V") (method.Print form.Long)
    ∷ row (codes "print(Z)V") (method.Print form.Boolean)
    ∷ row (codes "print(Ljava/lang/String;)V") (method.Print form.Text)
    ∷ row (codes "println(C)V") (method.PrintLine form.Char)
    ∷ row (codes "println(I)V") (method.PrintLine form.Int)
    ∷ row (codes "println(J)V") (method.PrintLine form.Long)
    ∷ row (codes "println(Z)V") (method.PrintLine form.Boolean)
    ∷ row (codes "println(Ljava/lang/String;)V") (method.PrintLine form.Text)
    ∷ row (codes "println()V") method.EndLine ∷ []

unfoldable pub array_rows : List MemberRow
array_rows = row (codes "clone()Ljava/lang/Object;") method.CloneArray ∷ []

-- the methods that a class of this name lists
unfoldable pub named_rows : List ℕ → List MemberRow
named_rows class =
    if bytes_eq class string_builder_name then string_builder_rows
    else (if bytes_eq class print_stream_name then print_stream_rows
    else (if bytes_eq class string_name then string_rows
    else (if bytes_eq class object_name then object_rows
    else (if bytes_eq class throwable_name then message_rows
    else (if is_built_in_throwable class then throwable_rows else [])))))

-- the methods that a class lists
unfoldable pub rows_of : ClassKind → List ℕ → List MemberRow
rows_of kind.Array name = array_rows
rows_of kind.BuiltIn name = named_rows name
rows_of _ name = []

-- what the first row of a name does
unfoldable pub found_row : List ℕ → List MemberRow → Option BuiltIn
found_row member [] = None
found_row member (r ∷ rest) = if bytes_eq member r.member then Some r.does else found_row member rest

unfoldable pub built_in_of : Program → Option Class → Method → Option BuiltIn
built_in_of p None m = None
built_in_of p (Some class) m = found_row (member_name p m) (rows_of class.kind class.name)

-- the built-in method that a method of the program is
unfoldable pub built_in : Program → Method → Option BuiltIn
built_in p m = built_in_of p (slice_get p.classes m.class) m

unfoldable pub built_in_numbered : Program → ℕ → Option BuiltIn
built_in_numbered p m = option_and_then (built_in p) (slice_get p.methods m)
