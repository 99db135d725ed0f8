-- What a listed answer says for a method of a program.
use Rattle.std.specs.Prelude.{ℕ, ℤ, pos, negsuc, ◌==◌, ◌&&◌, ◌||◌, Bool, true, false, List, Option, Some, None, option_map, unwrap_or, slice_get, int_le, if◌then◌else◌}
use Rattle.std.specs.Str.{bytes_eq}
use Rattle.cc_meaning.specs.declared.program.Base.{Base}
use Rattle.cc_meaning.specs.declared.program.Base.TheVariants as base
use Rattle.cc_meaning.specs.declared.program.Class.{Class}
use Rattle.cc_meaning.specs.declared.program.ClassKind.{ClassKind}
use Rattle.cc_meaning.specs.declared.program.ClassKind.TheVariants as kind
use Rattle.cc_meaning.specs.declared.program.DexType.{DexType}
use Rattle.cc_meaning.specs.declared.program.Program.{Program}
use Rattle.cc_meaning.specs.declared.report.Answer.{Answer}
use Rattle.cc_meaning.specs.declared.report.Answer.TheVariants as answer
use Rattle.cc_meaning.specs.BuiltIn.{object_name, string_name, is_built_in_throwable}
use Rattle.cc_meaning.specs.Lookup.{class_named}
use Rattle.cc_units.specs.Units.{units_of}
use Rattle.cc_meaning_typing.specs.Types.{is_loose, fits_class}
use Rattle.cc_meaning_script.specs.declared.listed.Listed.{Listed}
use Rattle.cc_meaning_script.specs.declared.listed.Listed.TheVariants as listed

-- the number of the class whose name a text is
abbrev pub class_listed : Program → List ℕ → Option ℕ
class_listed p name = class_named (units_of name) p

-- ---- classes

abbrev pub is_outside : ClassKind → Bool
is_outside kind.Outside = true
is_outside kind.OutsideError = true
is_outside _ = false

abbrev pub is_outside_error : ClassKind → Bool
is_outside_error kind.OutsideError = true
is_outside_error _ = false

abbrev pub is_built_in_kind : ClassKind → Bool
is_built_in_kind kind.BuiltIn = true
is_built_in_kind _ = false

-- what a script can throw: a built-in throwable or an outside exception
abbrev pub can_be_thrown : Class → Bool
can_be_thrown class = is_outside_error class.kind || (is_built_in_kind class.kind && is_built_in_throwable class.name)

-- a test of the class of a number, where there is one
abbrev pub holds_of : (Class → Bool) → Program → ℕ → Bool
holds_of test p class = unwrap_or (option_map test (slice_get p.classes class)) false

abbrev pub is_text_class : Class → Bool
is_text_class class = bytes_eq class.name string_name || bytes_eq class.name object_name

-- a text fits String, Object and what each reference fits
abbrev pub takes_text : Program → (declared : ℕ) → Bool
takes_text p declared = is_loose p declared || holds_of is_text_class p declared

-- ---- answers

abbrev pub when : {A : Type 0} → Bool → A → Option A
when true x = Some x
when false x = None

abbrev pub is_within : (low high : ℤ) → ℤ → Bool
is_within low high n = int_le low n && int_le n high

abbrev pub truth_answer : Listed → Option Answer
truth_answer (listed.Truth true) = Some (answer.Int (pos 1))
truth_answer (listed.Truth false) = Some (answer.Int (pos 0))
truth_answer _ = None

-- a whole number in a range
abbrev pub int_answer : (low high : ℤ) → Listed → Option Answer
int_answer low high (listed.Whole n) = when (is_within low high n) (answer.Int n)
int_answer low high _ = None

abbrev pub long_answer : Listed → Option Answer
long_answer (listed.Whole n) = Some (answer.Long n)
long_answer _ = None

-- a new object of an outside class
abbrev pub instance_answer : Program → (declared : ℕ) → Option ℕ → Option Answer
instance_answer p declared None = None
instance_answer p declared (Some class) = when (holds_of (λ (c : Class). is_outside c.kind) p class && fits_class p class declared) (answer.Instance class)

abbrev pub object_answer : Program → (declared : ℕ) → Listed → Option Answer
object_answer p declared listed.Null = Some answer.Null
object_answer p declared (listed.Text text) = when (takes_text p declared) (answer.Text (units_of text))
object_answer p declared (listed.Object name) = instance_answer p declared (class_listed p name)
object_answer p declared _ = None

abbrev pub array_answer : Listed → Option Answer
array_answer listed.Null = Some answer.Null
array_answer _ = None

abbrev pub base_answer : Program → Base → Listed → Option Answer
base_answer p base.Boolean said = truth_answer said
base_answer p base.Byte said = int_answer (negsuc 127) (pos 127) said
base_answer p base.Short said = int_answer (negsuc 32767) (pos 32767) said
base_answer p base.Char said = int_answer (pos 0) (pos 65535) said
base_answer p base.Int said = int_answer (negsuc 2147483647) (pos 2147483647) said
base_answer p base.Long said = long_answer said
base_answer p (base.Class declared) said = object_answer p declared said

abbrev pub nothing_answer : Listed → Option Answer
nothing_answer listed.Null = Some answer.Nothing
nothing_answer _ = None

-- what an answer says for a result, an exception aside
abbrev pub result_answer : Program → Option DexType → Listed → Option Answer
result_answer p None said = nothing_answer said
result_answer p (Some type) said = if type.dims == 0 then base_answer p type.base said else array_answer said

abbrev pub thrown_answer : Program → Option ℕ → Option Answer
thrown_answer p None = None
thrown_answer p (Some class) = when (holds_of can_be_thrown p class) (answer.Throws class)

-- what a listed answer says for a method of this result, where it is one
abbrev pub answer_for : Program → Option DexType → Listed → Option Answer
answer_for p type (listed.Throw name) = thrown_answer p (class_listed p name)
answer_for p type said = result_answer p type said
