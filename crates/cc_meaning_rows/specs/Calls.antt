-- What each built-in method does with its receiver and its arguments, and then with what follows on its result.
use Rattle.std.specs.Prelude.{ℕ, ℤ, pos, negsuc, Bool, true, false, ◌==◌, List, [], ◌∷◌, ◌++◌, length, Option, Some, None, slice_get, option_and_then}
use Rattle.std.specs.Fmt.{signed_decimal}
use Rattle.std.specs.Str.{bytes_eq}
use Rattle.cc_meaning.specs.declared.program.Program.{Program}
use Rattle.cc_meaning.specs.declared.script.Script.{Script}
use Rattle.cc_meaning.specs.declared.value.Object.{Object}
use Rattle.cc_meaning.specs.declared.value.Object.TheVariants as object
use Rattle.cc_meaning.specs.declared.value.Value.{Value}
use Rattle.cc_meaning.specs.declared.value.Value.TheVariants as value
use Rattle.cc_meaning.specs.BuiltIn.{string_index_out_of_bounds_exception_name}
use Rattle.cc_meaning_world.specs.World.{World}
use Rattle.cc_meaning_world.specs.Acts.{Act, Done, Make, Look, Put, Append, Tell, Returns, Stuck, Reached, run_act}
use Rattle.cc_meaning_world.specs.Throwing.{on_some, on_object, or_throw}
use Rattle.cc_meaning_rows.specs.declared.builtin.BuiltIn.{BuiltIn}
use Rattle.cc_meaning_rows.specs.declared.builtin.BuiltIn.TheVariants as row
use Rattle.cc_meaning_rows.specs.declared.builtin.Printed.{Printed}
use Rattle.cc_meaning_rows.specs.declared.builtin.Printed.TheVariants as form
use Rattle.cc_meaning_rows.specs.Printing.{unit_of, truth_units, null_units}
use Rattle.cc_meaning_rows.specs.Rows.{built_in_numbered}

-- ---- the parts of some rows

unfoldable pub truth : Bool → Value
truth true = value.Int (pos 1)
truth false = value.Int (pos 0)

unfoldable pub text_of : Object → Option (List ℕ)
text_of (object.Text units) = Some units
text_of _ = None

unfoldable pub builder_of : Object → Option (List ℕ)
builder_of (object.Builder units) = Some units
builder_of _ = None

-- a throwable's first value is its message
unfoldable pub message_of : Object → Option Value
message_of (object.Instance class values) = slice_get values 0
message_of _ = None

-- an array of the same class and elements
unfoldable pub copy_of : Object → Option Object
copy_of (object.Array class values) = Some (object.Array class values)
copy_of _ = None

unfoldable pub is_same_object : Option ℕ → Option ℕ → Bool
is_same_object None None = true
is_same_object (Some a) (Some b) = a == b
is_same_object _ _ = false

unfoldable pub is_text_of : List ℕ → Object → Bool
is_text_of units (object.Text others) = bytes_eq units others
is_text_of units _ = false

-- a text equals each text of the same units, and nothing else
unfoldable pub equals_text : List ℕ → Option ℕ → (Option Value → Act) → Act
equals_text units None k = k (Some (truth false))
equals_text units (Some b) k = Look b (λ o. k (Some (truth (is_text_of units o))))

unfoldable pub unit_at : List ℕ → ℤ → Option ℕ
unit_at units (pos i) = slice_get units i
unit_at units (negsuc i) = None

-- goes on with the units of a text
unfoldable pub on_text : ℕ → (List ℕ → Act) → Act
on_text a k = Look a (λ o. on_some (text_of o) k)

-- ---- printed forms

unfoldable pub on_text_or_null : Option ℕ → (List ℕ → Act) → Act
on_text_or_null None k = k null_units
on_text_or_null (Some a) k = on_text a k

-- goes on with what is printed for a value
unfoldable pub on_printed : Printed → Value → (List ℕ → Act) → Act
on_printed form.Boolean (value.Int n) k = k (truth_units n)
on_printed form.Char (value.Int n) k = k (unit_of n ∷ [])
on_printed form.Int (value.Int n) k = k (signed_decimal n)
on_printed form.Long (value.Long n) k = k (signed_decimal n)
on_printed form.Text (value.Obj o) k = on_text_or_null o k
on_printed _ _ k = Done Stuck

-- ---- the rows

-- What a method does with its receiver and its other arguments, and then with its result. An index that a text hasn't got and a null text for a builder throw.
unfoldable pub row_act : Program → BuiltIn → (m receiver : ℕ) → List Value → (Option Value → Act) → Act
row_act p row.Construct m a [] k = k None
row_act p row.ConstructThrowable m a [] k = Put a 0 (value.Obj None) (k None)
row_act p row.ConstructThrowableWith m a (value.Obj o ∷ []) k = Put a 0 (value.Obj o) (k None)
row_act p row.Message m a [] k = Look a (λ o. on_some (message_of o) (λ v. k (Some v)))
row_act p row.IsSameObject m a (value.Obj o ∷ []) k = k (Some (truth (is_same_object (Some a) o)))
row_act p row.TextLength m a [] k = on_text a (λ units. k (Some (value.Int (pos (length units)))))
row_act p row.CharAt m a (value.Int i ∷ []) k =
    on_text a (λ units. or_throw p string_index_out_of_bounds_exception_name (unit_at units i) (λ unit. k (Some (value.Int (pos unit)))))
row_act p row.IsEqualText m a (value.Obj b ∷ []) k = on_text a (λ units. equals_text units b k)
row_act p row.ConstructBuilder m a (value.Obj b ∷ []) k = on_object p b (λ text. on_text text (λ units. Append a units (k None)))
row_act p (row.Append form) m a (v ∷ []) k = on_printed form v (λ units. Append a units (k (Some (value.Obj (Some a)))))
row_act p row.BuiltText m a [] k = Look a (λ o. on_some (builder_of o) (λ units. Make (object.Text units) (λ b. k (Some (value.Obj (Some b))))))
row_act p (row.Print form) m a (v ∷ []) k = on_printed form v (λ units. Tell m units (k None))
row_act p (row.PrintLine form) m a (v ∷ []) k = on_printed form v (λ units. Tell m (units ++ 10 ∷ []) (k None))
row_act p row.EndLine m a [] k = Tell m (10 ∷ []) (k None)
row_act p row.CloneArray m a [] k = Look a (λ o. on_some (copy_of o) (λ copy. Make copy (λ b. k (Some (value.Obj (Some b))))))
row_act p _ m a vs k = Done Stuck

-- the receiver stands first; where it is null, NullPointerException is thrown, whichever method is called
unfoldable pub on_receiver : Program → BuiltIn → (m : ℕ) → List Value → (Option Value → Act) → Act
on_receiver p does m (value.Obj o ∷ vs) k = on_object p o (λ a. row_act p does m a vs k)
on_receiver p does m _ k = Done Stuck

-- a call of the method that a row says
unfoldable pub row_of_call : Program → Option BuiltIn → (m : ℕ) → List Value → (Option Value → Act) → Act
row_of_call p found m args k = on_some found (λ does. on_receiver p does m args k)

-- ---- a call by itself

-- what the built-in method of a number does with its arguments, the receiver first
unfoldable pub act_of_call : Program → (m : ℕ) → List Value → Act
act_of_call p m args = row_of_call p (built_in_numbered p m) m args (λ v. Done (Returns v))

-- where a call of a built-in method leads from a world
unfoldable pub called : Script → Program → (m : ℕ) → List Value → World → Reached
called script p m args w = run_act script p (act_of_call p m args) w
