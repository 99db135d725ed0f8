-- What each built-in method does with its receiver and its argument.
use Rattle.std.specs.Prelude.{ℕ, ◌^◌, ℤ, pos, negsuc, Bool, true, false, ◌==◌, nat_lt, List, [], ◌∷◌, ◌++◌, length, Option, Some, None, slice_get, if◌then◌else◌}
use Rattle.std.specs.Str.{bytes_eq}
use Rattle.std.specs.Fmt.{signed_decimal}
use Rattle.cc_meaning.specs.declared.value.Value.{Value}
use Rattle.cc_meaning.specs.declared.value.Value.TheVariants as value
use Rattle.cc_meaning.specs.declared.value.Object.{Object}
use Rattle.cc_meaning.specs.declared.value.Object.TheVariants as object
use Rattle.cc_meaning.specs.declared.program.Program.{Program}
use Rattle.cc_meaning.specs.BuiltIn.{null_pointer_exception_name, string_index_out_of_bounds_exception_name}
use Rattle.cc_meaning.specs.Lookup.{class_named}
use Rattle.cc_meaning_run.specs.World.{World}
use Rattle.cc_meaning_run.specs.Acts.{Returns, Throws, Stuck, Reached}
use Rattle.cc_meaning_builtin.specs.declared.builtin.Printed.{Printed}
use Rattle.cc_meaning_builtin.specs.declared.builtin.Printed.TheVariants as form
use Rattle.cc_meaning_builtin.specs.declared.builtin.BuiltIn.{BuiltIn}
use Rattle.cc_meaning_builtin.specs.declared.builtin.BuiltIn.TheVariants as method
use Rattle.cc_meaning_builtin.specs.Rows.{built_in_numbered}
use Rattle.cc_meaning_builtin.specs.Printing.{unit_of, truth_units, null_units}
use Rattle.cc_meaning_builtin.specs.Acts.{Act, Done, Make, Look, Put, Append, Tell, run_act}

-- ---- ends

unfoldable pub returns_nothing : Act
returns_nothing = Done (Returns None)

unfoldable pub returns : Value → Act
returns v = Done (Returns (Some v))

unfoldable pub returns_object : ℕ → Act
returns_object a = returns (value.Obj (Some a))

unfoldable pub truth : Bool → Value
truth true = value.Int (pos 1)
truth false = value.Int (pos 0)

-- ---- going on with what a value or an object is

unfoldable pub on_some : {A : Type 0} → Option A → (A → Act) → Act
on_some None k = Done Stuck
on_some (Some x) k = k x

unfoldable pub int_of : Value → Option ℤ
int_of (value.Int n) = Some n
int_of _ = None

unfoldable pub reference_of : Value → Option (Option ℕ)
reference_of (value.Obj o) = Some o
reference_of _ = None

unfoldable pub text_of : Object → Option (List ℕ)
text_of (object.Text units) = Some units
text_of _ = None

unfoldable pub builder_of : Object → Option (List ℕ)
builder_of (object.Builder units) = Some units
builder_of _ = None

-- goes on with the units of a text
unfoldable pub on_text : ℕ → (List ℕ → Act) → Act
on_text a k = Look a (λ o. on_some (text_of o) k)

-- ---- exceptions

-- a new exception of a class, without a message, is thrown
unfoldable pub throw_of : ℕ → Act
throw_of class = Make (object.Instance class (value.Obj None ∷ [])) (λ a. Done (Throws a))

unfoldable pub throw_new : Program → List ℕ → Act
throw_new p name = on_some (class_named name p) throw_of

-- goes on with the object of a reference; null throws
unfoldable pub on_object_or_null : Program → Option ℕ → (ℕ → Act) → Act
on_object_or_null p None k = throw_new p null_pointer_exception_name
on_object_or_null p (Some a) k = k a

unfoldable pub on_object : Program → Value → (ℕ → Act) → Act
on_object p v k = on_some (reference_of v) (λ o. on_object_or_null p o k)

-- ---- printed forms

unfoldable pub on_text_or_null : Option ℕ → (List ℕ → Act) → Act
on_text_or_null None k = k null_units
on_text_or_null (Some a) k = on_text a k

-- goes on with what is printed for a value
unfoldable pub on_printed : Printed → Value → (List ℕ → Act) → Act
on_printed form.Boolean v k = on_some (int_of v) (λ n. k (truth_units n))
on_printed form.Char v k = on_some (int_of v) (λ n. k (unit_of n ∷ []))
on_printed form.Int v k = on_some (int_of v) (λ n. k (signed_decimal n))
on_printed form.Long (value.Long n) k = k (signed_decimal n)
on_printed form.Long _ k = Done Stuck
on_printed form.Text v k = on_some (reference_of v) (λ o. on_text_or_null o k)

-- ---- the parts of some rows

unfoldable pub message_of : Object → Option Value
message_of (object.Instance class values) = slice_get values 0
message_of _ = None

-- an array of the same class and elements
unfoldable pub copy_of : Object → Option Object
copy_of (object.Array class values) = Some (object.Array class values)
copy_of _ = None

-- the length of a text as an int; no text has more units than an int counts
unfoldable pub length_of : List ℕ → Option ℤ
length_of units = if nat_lt (length units) (2 ^ 31) then Some (pos (length units)) else None

unfoldable pub unit_at : List ℕ → ℤ → Option ℕ
unit_at units (pos i) = slice_get units i
unit_at units (negsuc i) = None

unfoldable pub unit_or_throw : Program → Option ℕ → Act
unit_or_throw p None = throw_new p string_index_out_of_bounds_exception_name
unit_or_throw p (Some unit) = returns (value.Int (pos unit))

unfoldable pub is_same : ℕ → Option ℕ → Bool
is_same a None = false
is_same a (Some b) = a == b

unfoldable pub is_text_of : List ℕ → Object → Bool
is_text_of units (object.Text others) = bytes_eq units others
is_text_of units _ = false

unfoldable pub equals_text : List ℕ → Option ℕ → Act
equals_text units None = returns (truth false)
equals_text units (Some b) = Look b (λ o. returns (truth (is_text_of units o)))

-- ---- the methods without parameters

unfoldable pub alone : BuiltIn → (m receiver : ℕ) → Act
alone method.Construct m a = returns_nothing
alone method.ConstructThrowable m a = Put a 0 (value.Obj None) returns_nothing
alone method.Message m a = Look a (λ o. on_some (message_of o) returns)
alone method.TextLength m a = on_text a (λ units. on_some (length_of units) (λ n. returns (value.Int n)))
alone method.BuiltText m a = Look a (λ o. on_some (builder_of o) (λ units. Make (object.Text units) returns_object))
alone method.EndLine m a = Tell m (10 ∷ []) returns_nothing
alone method.CloneArray m a = Look a (λ o. on_some (copy_of o) (λ copy. Make copy returns_object))
alone _ m a = Done Stuck

-- ---- the methods of one parameter

unfoldable pub with_argument : Program → BuiltIn → (m receiver : ℕ) → Value → Act
with_argument p method.IsSameObject m a v = on_some (reference_of v) (λ other. returns (truth (is_same a other)))
with_argument p method.ConstructThrowableWith m a v = on_some (reference_of v) (λ message. Put a 0 (value.Obj message) returns_nothing)
with_argument p method.CharAt m a v = on_some (int_of v) (λ i. on_text a (λ units. unit_or_throw p (unit_at units i)))
with_argument p method.IsEqualText m a v = on_some (reference_of v) (λ other. on_text a (λ units. equals_text units other))
with_argument p method.ConstructBuilder m a v = on_object p v (λ text. on_text text (λ units. Append a units returns_nothing))
with_argument p (method.Append form) m a v = on_printed form v (λ units. Append a units (returns_object a))
with_argument p (method.Print form) m a v = on_printed form v (λ units. Tell m units returns_nothing)
with_argument p (method.PrintLine form) m a v = on_printed form v (λ units. Tell m (units ++ 10 ∷ []) returns_nothing)
with_argument p _ m a v = Done Stuck

-- ---- a call

unfoldable pub on_receiver : Program → BuiltIn → (m receiver : ℕ) → List Value → Act
on_receiver p does m a [] = alone does m a
on_receiver p does m a (v ∷ []) = with_argument p does m a v
on_receiver p does m a _ = Done Stuck

-- what a built-in method does with its arguments, the receiver first
unfoldable pub act_of : Program → BuiltIn → (m : ℕ) → List Value → Act
act_of p does m [] = Done Stuck
act_of p does m (receiver ∷ args) = on_object p receiver (λ a. on_receiver p does m a args)

-- what the method of a number does with its arguments
unfoldable pub act_of_call : Program → (m : ℕ) → List Value → Act
act_of_call p m args = on_some (built_in_numbered p m) (λ does. act_of p does m args)

-- where a call leads from a world
unfoldable pub called : Program → (m : ℕ) → List Value → World → Reached
called p m args w = run_act (act_of_call p m args) w
