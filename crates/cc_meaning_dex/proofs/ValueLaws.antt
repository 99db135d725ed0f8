-- That static values are read exactly where they are spelled.
use Rattle.std.proofs.Common.{◌≡◌, inl, inr, ℕ, ◌+◌, ◌/◌, ◌%◌, ◌<◌, ◌≤◌, pos, Bool, true, false, ◌&&◌, cond, eqb, nat_le, nat_lt, List, [], length, get_or, slice_get, Some, None, refl, sym, ap, subst, ◌∙◌, arith}
use Rattle.std.proofs.lemmas.Bool.Decides.{nat_tests}
use Rattle.cc_meaning.specs.declared.file.Ids.{Ids}
use Rattle.cc_meaning.specs.declared.file.RawField.{RawField}
use Rattle.cc_meaning.specs.declared.program.StaticValue.{StaticValue}
use Rattle.cc_meaning.specs.declared.program.StaticValue.TheVariants as static
use Rattle.cc_meaning_dex.specs.TextLaws.{UlebAgrees}
use Rattle.cc_meaning_dex.specs.declared.items.Cursor.{Cursor}
use Rattle.cc_meaning_dex.specs.declared.items.ValueKind.{ValueKind}
use Rattle.cc_meaning_dex.specs.declared.items.ValueKind.TheVariants.{Boolean, Byte, Short, Char, Int, Long, Text, Reference}
use Rattle.cc_meaning_dex.specs.Sequences.{◌>>=◌, number_at, list_at}
use Rattle.cc_meaning_dex.specs.Members.{row_behind, only_if}
use Rattle.cc_meaning_dex.specs.Values.{field_kind, little_at, signed_little_at, HeadStands, NumberStands, NullStands, SignedStands, SpellsValue, ValueStands, SpellsSomeValues, SpellsValues, number_fits, boolean_by, null_by, signed_by, char_by, long_by, text_by, value_by, value_at, element_at, some_values_at, values_at}
use Rattle.cc_meaning_dex.proofs.Sequencing.{bind_some, some_is, number_spelled, number_read, ItemAgrees, list_stands, list_read}
use Rattle.cc_meaning_dex.proofs.MemberLaws.{only_true, true_only, row_fits, fits_row, same_cursor}
use Rattle.cc_meaning_dex.proofs.TryLaws.{both_hold, within_from, from_within, if_true}
use Rattle.cc_meaning_dex.proofs.CodeLaws.{equal_from, from_equal, other_from, from_other}

below_from : (a b : ℕ) → nat_lt a b ≡ true → a < b
below_from a b e = grind (arith, nat_tests)

from_below : (a b : ℕ) → a < b → nat_lt a b ≡ true
from_below a b h = grind (arith, nat_tests)

-- ---- numbers

-- the type and the argument in the first byte of a value
abbrev type_at : List ℕ → ℕ → ℕ
type_at file at = get_or file at 0 % 32

abbrev argument_at : List ℕ → ℕ → ℕ
argument_at file at = get_or file at 0 / 32

-- a number that passes its tests stands
number_stands : (file : List ℕ) (at wanted most : ℕ) → at < length file → type_at file at ≡ wanted → number_fits file most (at + 1) (argument_at file at + 1) ≡ true →
    NumberStands file at wanted most (argument_at file at) (at + 1 + (argument_at file at + 1))
number_stands file at wanted most within type fits =
    let size = argument_at file at + 1 in
    let both = both_hold (nat_le size most) (nat_le (at + 1 + size) (length file)) fits in
    record { head = record { within = within; lower = type; upper = refl }; few = within_from size most both.0; within = within_from (at + 1 + size) (length file) both.1; end = refl }

-- one that stands passes them
number_passes : (file : List ℕ) (at wanted most argument next : ℕ) → NumberStands file at wanted most argument next → number_fits file most (at + 1) (argument + 1) ≡ true
number_passes file at wanted most argument next s = rw (from_within (argument + 1) most s.few) (from_within (at + 1 + (argument + 1)) (length file) s.within)

signed_stands : (file : List ℕ) (wanted most at : ℕ) (read : StaticValue × ℕ) → at < length file → signed_by file wanted most (type_at file at) (argument_at file at) (at + 1) ≡ Some read →
    SignedStands file wanted most at read.0 read.1
signed_stands file wanted most at read within e =
    let argument = argument_at file at in
    let made : StaticValue × ℕ = (static.Int (signed_little_at file (at + 1) (argument + 1)), at + 1 + (argument + 1)) in
    let passed = only_true (eqb (type_at file at) wanted && number_fits file most (at + 1) (argument + 1)) made read e in
    let tests = both_hold (eqb (type_at file at) wanted) (number_fits file most (at + 1) (argument + 1)) passed.0 in
    subst (λ (r : StaticValue × ℕ). SignedStands file wanted most at r.0 r.1) passed.1
    (argument, number_stands file at wanted most within (equal_from (type_at file at) wanted tests.0) tests.1, refl)

stands_signed : (file : List ℕ) (wanted most at : ℕ) (value : StaticValue) (next : ℕ) → SignedStands file wanted most at value next →
    signed_by file wanted most (type_at file at) (argument_at file at) (at + 1) ≡ Some (value, next)
stands_signed file wanted most at value next (argument, s, is) =
    let made : StaticValue × ℕ = (static.Int (signed_little_at file (at + 1) (argument + 1)), at + 1 + (argument + 1)) in
    let test : (eqb wanted wanted && number_fits file most (at + 1) (argument + 1)) ≡ true = rw (from_equal wanted wanted refl) (number_passes file at wanted most argument next s) in
    ap (λ t. signed_by file wanted most t (argument_at file at) (at + 1)) s.head.lower ∙ ap (λ a. signed_by file wanted most wanted a (at + 1)) s.head.upper
    ∙ true_only (eqb wanted wanted && number_fits file most (at + 1) (argument + 1)) made test
    ∙ ap (λ v. Some (v, at + 1 + (argument + 1))) (sym is) ∙ ap (λ n. Some (value, n)) (sym s.end)

char_stands : (file : List ℕ) (at : ℕ) (read : StaticValue × ℕ) → at < length file → char_by file (type_at file at) (argument_at file at) (at + 1) ≡ Some read →
    (argument : ℕ) × NumberStands file at 3 2 argument read.1 × (read.0 ≡ static.Int (pos (little_at file (at + 1) (argument + 1))))
char_stands file at read within e =
    let argument = argument_at file at in
    let made : StaticValue × ℕ = (static.Int (pos (little_at file (at + 1) (argument + 1))), at + 1 + (argument + 1)) in
    let passed = only_true (eqb (type_at file at) 3 && number_fits file 2 (at + 1) (argument + 1)) made read e in
    let tests = both_hold (eqb (type_at file at) 3) (number_fits file 2 (at + 1) (argument + 1)) passed.0 in
    subst (λ (r : StaticValue × ℕ). (argument : ℕ) × NumberStands file at 3 2 argument r.1 × (r.0 ≡ static.Int (pos (little_at file (at + 1) (argument + 1))))) passed.1
    (argument, number_stands file at 3 2 within (equal_from (type_at file at) 3 tests.0) tests.1, refl)

stands_char : (file : List ℕ) (at : ℕ) (value : StaticValue) (next : ℕ) → (argument : ℕ) → NumberStands file at 3 2 argument next → value ≡ static.Int (pos (little_at file (at + 1) (argument + 1))) →
    char_by file (type_at file at) (argument_at file at) (at + 1) ≡ Some (value, next)
stands_char file at value next argument s is =
    let made : StaticValue × ℕ = (static.Int (pos (little_at file (at + 1) (argument + 1))), at + 1 + (argument + 1)) in
    ap (λ t. char_by file t (argument_at file at) (at + 1)) s.head.lower ∙ ap (λ a. char_by file 3 a (at + 1)) s.head.upper
    ∙ true_only (number_fits file 2 (at + 1) (argument + 1)) made (number_passes file at 3 2 argument next s)
    ∙ ap (λ v. Some (v, at + 1 + (argument + 1))) (sym is) ∙ ap (λ n. Some (value, n)) (sym s.end)

long_stands : (file : List ℕ) (at : ℕ) (read : StaticValue × ℕ) → at < length file → long_by file (type_at file at) (argument_at file at) (at + 1) ≡ Some read →
    (argument : ℕ) × NumberStands file at 6 8 argument read.1 × (read.0 ≡ static.Long (signed_little_at file (at + 1) (argument + 1)))
long_stands file at read within e =
    let argument = argument_at file at in
    let made : StaticValue × ℕ = (static.Long (signed_little_at file (at + 1) (argument + 1)), at + 1 + (argument + 1)) in
    let passed = only_true (eqb (type_at file at) 6 && number_fits file 8 (at + 1) (argument + 1)) made read e in
    let tests = both_hold (eqb (type_at file at) 6) (number_fits file 8 (at + 1) (argument + 1)) passed.0 in
    subst (λ (r : StaticValue × ℕ). (argument : ℕ) × NumberStands file at 6 8 argument r.1 × (r.0 ≡ static.Long (signed_little_at file (at + 1) (argument + 1)))) passed.1
    (argument, number_stands file at 6 8 within (equal_from (type_at file at) 6 tests.0) tests.1, refl)

stands_long : (file : List ℕ) (at : ℕ) (value : StaticValue) (next : ℕ) → (argument : ℕ) → NumberStands file at 6 8 argument next → value ≡ static.Long (signed_little_at file (at + 1) (argument + 1)) →
    long_by file (type_at file at) (argument_at file at) (at + 1) ≡ Some (value, next)
stands_long file at value next argument s is =
    let made : StaticValue × ℕ = (static.Long (signed_little_at file (at + 1) (argument + 1)), at + 1 + (argument + 1)) in
    ap (λ t. long_by file t (argument_at file at) (at + 1)) s.head.lower ∙ ap (λ a. long_by file 6 a (at + 1)) s.head.upper
    ∙ true_only (number_fits file 8 (at + 1) (argument + 1)) made (number_passes file at 6 8 argument next s)
    ∙ ap (λ v. Some (v, at + 1 + (argument + 1))) (sym is) ∙ ap (λ n. Some (value, n)) (sym s.end)

-- ---- booleans, null and strings

boolean_stands : (file : List ℕ) (at : ℕ) (read : StaticValue × ℕ) → at < length file → boolean_by (type_at file at) (argument_at file at) (at + 1) ≡ Some read →
    (flag : ℕ) × HeadStands file at 31 flag × (flag ≤ 1) × (read.0 ≡ static.Int (pos flag)) × (read.1 ≡ at + 1)
boolean_stands file at read within e =
    let argument = argument_at file at in
    let made : StaticValue × ℕ = (static.Int (pos argument), at + 1) in
    let passed = only_true (eqb (type_at file at) 31 && nat_le argument 1) made read e in
    let tests = both_hold (eqb (type_at file at) 31) (nat_le argument 1) passed.0 in
    subst (λ (r : StaticValue × ℕ). (flag : ℕ) × HeadStands file at 31 flag × (flag ≤ 1) × (r.0 ≡ static.Int (pos flag)) × (r.1 ≡ at + 1)) passed.1
    (argument, record { within = within; lower = equal_from (type_at file at) 31 tests.0; upper = refl }, within_from argument 1 tests.1, refl, refl)

stands_boolean : (file : List ℕ) (at : ℕ) (value : StaticValue) (next flag : ℕ) → HeadStands file at 31 flag → flag ≤ 1 → value ≡ static.Int (pos flag) → next ≡ at + 1 →
    boolean_by (type_at file at) (argument_at file at) (at + 1) ≡ Some (value, next)
stands_boolean file at value next flag s few is end =
    let made : StaticValue × ℕ = (static.Int (pos flag), at + 1) in
    ap (λ t. boolean_by t (argument_at file at) (at + 1)) s.lower ∙ ap (λ a. boolean_by 31 a (at + 1)) s.upper
    ∙ true_only (nat_le flag 1) made (from_within flag 1 few) ∙ ap (λ v. Some (v, at + 1)) (sym is) ∙ ap (λ n. Some (value, n)) (sym end)

null_stands : (file : List ℕ) (at : ℕ) (read : StaticValue × ℕ) → at < length file → null_by (type_at file at) (argument_at file at) (at + 1) ≡ Some read → NullStands file at read.0 read.1
null_stands file at read within e =
    let argument = argument_at file at in
    let made : StaticValue × ℕ = (static.Null, at + 1) in
    let passed = only_true (eqb (type_at file at) 30 && eqb argument 0) made read e in
    let tests = both_hold (eqb (type_at file at) 30) (eqb argument 0) passed.0 in
    subst (λ (r : StaticValue × ℕ). NullStands file at r.0 r.1) passed.1
    (record { within = within; lower = equal_from (type_at file at) 30 tests.0; upper = equal_from argument 0 tests.1 }, refl, refl)

stands_null : (file : List ℕ) (at : ℕ) (value : StaticValue) (next : ℕ) → NullStands file at value next → null_by (type_at file at) (argument_at file at) (at + 1) ≡ Some (value, next)
stands_null file at value next (s, is, end) =
    ap (λ t. null_by t (argument_at file at) (at + 1)) s.lower ∙ ap (λ a. null_by 30 a (at + 1)) s.upper
    ∙ ap (λ v. Some (v, at + 1)) (sym is) ∙ ap (λ n. Some (value, n)) (sym end)

-- a string's row
abbrev StringStands : List ℕ → ℕ → ℕ → StaticValue → ℕ → Type 0
StringStands file texts at value next =
    (argument : ℕ) × NumberStands file at 23 4 argument next × (little_at file (at + 1) (argument + 1) < texts) × (value ≡ static.Text (little_at file (at + 1) (argument + 1)))

string_stands : (file : List ℕ) (texts at : ℕ) (read : StaticValue × ℕ) → at < length file → type_at file at ≡ 23 → text_by file texts (argument_at file at) (at + 1) ≡ Some read → StringStands file texts at read.0 read.1
string_stands file texts at read within type e =
    let argument = argument_at file at in
    let row = little_at file (at + 1) (argument + 1) in
    let made : StaticValue × ℕ = (static.Text row, at + 1 + (argument + 1)) in
    let passed = only_true (number_fits file 4 (at + 1) (argument + 1) && nat_lt row texts) made read e in
    let tests = both_hold (number_fits file 4 (at + 1) (argument + 1)) (nat_lt row texts) passed.0 in
    subst (λ (r : StaticValue × ℕ). StringStands file texts at r.0 r.1) passed.1
    (argument, number_stands file at 23 4 within type tests.0, below_from row texts tests.1, refl)

stands_string : (file : List ℕ) (texts at : ℕ) (value : StaticValue) (next : ℕ) → StringStands file texts at value next → text_by file texts (argument_at file at) (at + 1) ≡ Some (value, next)
stands_string file texts at value next (argument, s, row, is) =
    let text = little_at file (at + 1) (argument + 1) in
    let made : StaticValue × ℕ = (static.Text text, at + 1 + (argument + 1)) in
    let test : (number_fits file 4 (at + 1) (argument + 1) && nat_lt text texts) ≡ true = rw (number_passes file at 23 4 argument next s) (from_below text texts row) in
    ap (λ a. text_by file texts a (at + 1)) s.head.upper
    ∙ true_only (number_fits file 4 (at + 1) (argument + 1) && nat_lt text texts) made test
    ∙ ap (λ v. Some (v, at + 1 + (argument + 1))) (sym is) ∙ ap (λ n. Some (value, n)) (sym s.end)

-- ---- values

value_stands : (file : List ℕ) (texts : ℕ) (kind : ValueKind) (at : ℕ) (read : StaticValue × ℕ) → at < length file →
    value_by file texts kind (type_at file at) (argument_at file at) (at + 1) ≡ Some read → SpellsValue file texts kind at read.0 read.1
unfolding value_by
value_stands file texts Boolean at read within e = boolean_stands file at read within e
value_stands file texts Byte at read within e = signed_stands file 0 1 at read within e
value_stands file texts Short at read within e = signed_stands file 2 2 at read within e
value_stands file texts Char at read within e = char_stands file at read within e
value_stands file texts Int at read within e = signed_stands file 4 4 at read within e
value_stands file texts Long at read within e = long_stands file at read within e
value_stands file texts Text at read within e = cases (eqb (type_at file at) 23) refl e
  where
    cases : (test : Bool) → eqb (type_at file at) 23 ≡ test → cond test (text_by file texts (argument_at file at) (at + 1)) (null_by (type_at file at) (argument_at file at) (at + 1)) ≡ Some read → SpellsValue file texts Text at read.0 read.1
    cases true t e = inr (string_stands file texts at read within (equal_from (type_at file at) 23 t) e)
    cases false t e = inl (null_stands file at read within e)
value_stands file texts Reference at read within e = null_stands file at read within e

stands_value : (file : List ℕ) (texts : ℕ) (kind : ValueKind) (at : ℕ) (value : StaticValue) (next : ℕ) → SpellsValue file texts kind at value next →
    value_by file texts kind (type_at file at) (argument_at file at) (at + 1) ≡ Some (value, next)
unfolding value_by
stands_value file texts Boolean at value next (flag, head, few, is, end) = stands_boolean file at value next flag head few is end
stands_value file texts Byte at value next s = stands_signed file 0 1 at value next s
stands_value file texts Short at value next s = stands_signed file 2 2 at value next s
stands_value file texts Char at value next (argument, s, is) = stands_char file at value next argument s is
stands_value file texts Int at value next s = stands_signed file 4 4 at value next s
stands_value file texts Long at value next (argument, s, is) = stands_long file at value next argument s is
stands_value file texts Text at value next (inl null) =
    let test : eqb (type_at file at) 23 ≡ false = ap (λ t. eqb t 23) null.0.lower in
    ap (λ b. cond b (text_by file texts (argument_at file at) (at + 1)) (null_by (type_at file at) (argument_at file at) (at + 1))) test ∙ stands_null file at value next null
stands_value file texts Text at value next (inr string) =
    let test : eqb (type_at file at) 23 ≡ true = ap (λ t. eqb t 23) string.1.head.lower in
    ap (λ b. cond b (text_by file texts (argument_at file at) (at + 1)) (null_by (type_at file at) (argument_at file at) (at + 1))) test ∙ stands_string file texts at value next string
stands_value file texts Reference at value next s = stands_null file at value next s

value_within : (file : List ℕ) (texts : ℕ) (kind : ValueKind) (at : ℕ) (value : StaticValue) (next : ℕ) → SpellsValue file texts kind at value next → at < length file
value_within file texts Boolean at value next s = s.1.within
value_within file texts Byte at value next s = s.1.head.within
value_within file texts Short at value next s = s.1.head.within
value_within file texts Char at value next s = s.1.head.within
value_within file texts Int at value next s = s.1.head.within
value_within file texts Long at value next s = s.1.head.within
value_within file texts Text at value next (inl null) = null.0.within
value_within file texts Text at value next (inr string) = string.1.head.within
value_within file texts Reference at value next s = s.0.within

value_spelled : (file : List ℕ) (texts : ℕ) (kind : ValueKind) (at : ℕ) (read : StaticValue × ℕ) → value_at file texts kind at ≡ Some read → SpellsValue file texts kind at read.0 read.1
unfolding value_at
value_spelled file texts kind at read e =
    let there = if_true (nat_lt at (length file)) (value_by file texts kind (type_at file at) (argument_at file at) (at + 1)) read e in
    value_stands file texts kind at read (below_from at (length file) there.0) there.1

value_read : (file : List ℕ) (texts : ℕ) (kind : ValueKind) (at : ℕ) (value : StaticValue) (next : ℕ) → SpellsValue file texts kind at value next → value_at file texts kind at ≡ Some (value, next)
unfolding value_at
value_read file texts kind at value next s =
    let test = from_below at (length file) (value_within file texts kind at value next s) in
    ap (λ b. cond b (value_by file texts kind (type_at file at) (argument_at file at) (at + 1)) None) test ∙ stands_value file texts kind at value next s

-- ---- values of fields

element_stands : (file : List ℕ) (ids : Ids) (fields : List RawField) (from : Cursor) (read : StaticValue × Cursor) → element_at file ids fields from ≡ Some read → ValueStands file ids fields from read.0 read.1
unfolding element_at
element_stands file ids fields from read e =
    let texts = length ids.texts in
    let made : StaticValue × ℕ → ℕ → StaticValue × Cursor = λ value row. (value.0, record { at = value.1; row = row }) in
    let field = bind_some (slice_get fields from.row) (λ field. only_if field.is_static field >>= λ listed. field_kind ids listed.row >>= λ kind. value_at file texts kind from.at >>= λ value. row_behind 1 from.row >>= λ row. Some (made value row)) read e in
    let listed = bind_some (only_if field.0.is_static field.0) (λ listed. field_kind ids listed.row >>= λ kind. value_at file texts kind from.at >>= λ value. row_behind 1 from.row >>= λ row. Some (made value row)) read field.2 in
    let static_field = only_true field.0.is_static field.0 listed.0 listed.1 in
    let kind = bind_some (field_kind ids listed.0.row) (λ kind. value_at file texts kind from.at >>= λ value. row_behind 1 from.row >>= λ row. Some (made value row)) read listed.2 in
    let value = bind_some (value_at file texts kind.0 from.at) (λ value. row_behind 1 from.row >>= λ row. Some (made value row)) read kind.2 in
    let row = bind_some (row_behind 1 from.row) (λ row. Some (made value.0 row)) read value.2 in
    let fits = row_fits 1 from.row row.0 row.1 in
    subst (λ (r : StaticValue × Cursor). ValueStands file ids fields from r.0 r.1) (some_is (made value.0 row.0) read row.2)
    (record {
      field = field.0;
      there = field.1;
      static = static_field.0;
      kind = kind.0;
      kinded = subst (λ (f : RawField). field_kind ids f.row ≡ Some kind.0) (sym static_field.1) kind.1;
      spelled = value_spelled file texts kind.0 from.at value.0 value.1;
      fits = fits.1;
      behind = fits.0;
    })

stands_element : (file : List ℕ) (ids : Ids) (fields : List RawField) (from : Cursor) (value : StaticValue) (next : Cursor) → ValueStands file ids fields from value next →
    element_at file ids fields from ≡ Some (value, next)
unfolding element_at
stands_element file ids fields from value next s =
    let after : Cursor = record { at = next.at; row = from.row + 1 } in
    let behind : after ≡ next = same_cursor after next refl (sym s.behind) in
    rw (s.there, true_only s.field.is_static s.field s.static, s.kinded, value_read file (length ids.texts) s.kind from.at value next.at s.spelled, fits_row 1 from.row s.fits)
    (ap (λ n. Some (value, n)) behind)

element_agrees : (file : List ℕ) (ids : Ids) (fields : List RawField) → ItemAgrees (element_at file ids fields) (ValueStands file ids fields)
element_agrees file ids fields from value next = (element_stands file ids fields from (value, next), stands_element file ids fields from value next)

some_values_spelled : UlebAgrees → (file : List ℕ) (ids : Ids) (fields : List RawField) (at : ℕ) (values : List StaticValue) → some_values_at file ids fields at ≡ Some values → SpellsSomeValues file ids fields at values
unfolding some_values_at
some_values_spelled agrees file ids fields at values e =
    let count = bind_some (number_at file at) (λ count. list_at (element_at file ids fields) count.0 count.1 >>= λ values. Some values.0) values e in
    let list = bind_some (list_at (element_at file ids fields) count.0.0 count.0.1) (λ values. Some values.0) values count.2 in
    subst (λ (vs : List StaticValue). SpellsSomeValues file ids fields at vs) (some_is list.0.0 values list.2)
    (record {
      count = count.0.0;
      place = count.0.1;
      end = list.0.1;
      stated = number_spelled agrees file at count.0 count.1;
      listed = list_stands (element_at file ids fields) (ValueStands file ids fields) (element_agrees file ids fields) count.0.0 count.0.1 list.0 list.1;
    })

some_values_read : UlebAgrees → (file : List ℕ) (ids : Ids) (fields : List RawField) (at : ℕ) (values : List StaticValue) → SpellsSomeValues file ids fields at values → some_values_at file ids fields at ≡ Some values
unfolding some_values_at
some_values_read agrees file ids fields at values s =
    rw (number_read agrees file at s.count s.place s.stated, list_read (element_at file ids fields) (ValueStands file ids fields) (element_agrees file ids fields) s.count s.place values s.end s.listed) refl

pub values_spelled : UlebAgrees → (file : List ℕ) (ids : Ids) (fields : List RawField) (at : ℕ) (values : List StaticValue) → values_at file ids fields at ≡ Some values → SpellsValues file ids fields at values
unfolding values_at
values_spelled agrees file ids fields at values e = cases (eqb at 0) refl e
  where
    cases : (test : Bool) → eqb at 0 ≡ test → cond test (Some []) (some_values_at file ids fields at) ≡ Some values → SpellsValues file ids fields at values
    cases true t e = inl (equal_from at 0 t, sym (some_is [] values e))
    cases false t e = inr (other_from at 0 t, some_values_spelled agrees file ids fields at values e)

pub values_read : UlebAgrees → (file : List ℕ) (ids : Ids) (fields : List RawField) (at : ℕ) (values : List StaticValue) → SpellsValues file ids fields at values → values_at file ids fields at ≡ Some values
unfolding values_at
values_read agrees file ids fields at values (inl none) = rw (from_equal at 0 none.0) (ap Some (sym none.1))
values_read agrees file ids fields at values (inr some) = rw (from_other at 0 some.0) (some_values_read agrees file ids fields at values some.1)
