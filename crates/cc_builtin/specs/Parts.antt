-- What is at an object's number, and what is printed for a value in a heap.
use Rattle.std.specs.Prelude.{◌≡◌, ℕ, Bool, false, length, List, [], ◌∷◌, Option, Some, None, slice_get, option_and_then}
use Rattle.std.specs.Str.{bytes_eq}
use Rattle.std.specs.Fmt.{signed_decimal}
use Rattle.cc_meaning.specs.declared.value.Value.{Value}
use Rattle.cc_meaning.specs.declared.value.Value.TheVariants as value
use Rattle.cc_meaning.specs.declared.value.Object.{Object}
use Rattle.cc_meaning.specs.declared.report.CallEnd.{CallEnd}
use Rattle.cc_meaning.specs.declared.report.CallEnd.TheVariants as end
use Rattle.cc_meaning.specs.declared.report.StopCause.TheVariants as cause
use Rattle.cc_meaning.specs.Words.{words_of}
use Rattle.cc_meaning_run.specs.Acts.{less_by, with_words, with_object}
use Rattle.cc_heap.specs.Effects.{Held}
use Rattle.cc_meaning_builtin.specs.declared.builtin.Printed.{Printed}
use Rattle.cc_meaning_builtin.specs.declared.builtin.Printed.TheVariants as form
use Rattle.cc_meaning_builtin.specs.Printing.{unit_of, truth_units, null_units}
use Rattle.cc_meaning_builtin.specs.Calls.{text_of, builder_of, copy_of, message_of}

abbrev pub text_at : List Object → ℕ → Option (List ℕ)
text_at objects a = option_and_then text_of (slice_get objects a)

abbrev pub builder_at : List Object → ℕ → Option (List ℕ)
builder_at objects a = option_and_then builder_of (slice_get objects a)

abbrev pub copy_at : List Object → ℕ → Option Object
copy_at objects a = option_and_then copy_of (slice_get objects a)

abbrev pub message_at : List Object → ℕ → Option Value
message_at objects a = option_and_then message_of (slice_get objects a)

-- whether an object is a text of these units
abbrev pub is_equal : List ℕ → Option (List ℕ) → Bool
is_equal units None = false
is_equal units (Some others) = bytes_eq units others

abbrev pub is_text_at : List Object → List ℕ → Option ℕ → Bool
is_text_at objects units None = false
is_text_at objects units (Some b) = is_equal units (text_at objects b)

abbrev pub text_or_null_in : List Object → Option ℕ → Option (List ℕ)
text_or_null_in objects None = Some null_units
text_or_null_in objects (Some a) = text_at objects a

-- what is printed for a value, where it is one of that form
abbrev pub printed_in : List Object → Printed → Value → Option (List ℕ)
printed_in objects form.Boolean (value.Int n) = Some (truth_units n)
printed_in objects form.Char (value.Int n) = Some (unit_of n ∷ [])
printed_in objects form.Int (value.Int n) = Some (signed_decimal n)
printed_in objects form.Long (value.Long n) = Some (signed_decimal n)
printed_in objects form.Text (value.Obj o) = text_or_null_in objects o
printed_in objects _ _ = None

-- An object was made, and paid for, or too few words were left and nothing was done.
abbrev pub MakesFor : Option ℕ → Object → (old : Held) → Option ℕ → (new : Held) → Type 0
MakesFor (Some left) o old made new = (made ≡ Some (length old.world.objects)) × (new ≡ record old { world = with_object (with_words old.world left) o })
MakesFor None o old made new = (made ≡ None) × (new ≡ old)

abbrev pub Makes : Object → (old : Held) → Option ℕ → (new : Held) → Type 0
Makes o old made new = MakesFor (less_by (words_of o) old.world.counters.words) o old made new

-- the end of a call that made what it gives, and of one that made what it throws
abbrev pub given_end : Option ℕ → CallEnd
given_end (Some a) = end.Returned (Some (value.Obj (Some a)))
given_end None = end.Stopped cause.Heap

abbrev pub thrown_end : Option ℕ → CallEnd
thrown_end (Some a) = end.Thrown a
thrown_end None = end.Stopped cause.Heap
