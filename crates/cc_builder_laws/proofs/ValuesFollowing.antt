-- The values of a class follow each other where they are written.
use Rattle.std.proofs.Common.{◌≡◌, ◌≢◌, inl, inr, ℕ, ◌+◌, ◌^◌, ◌<◌, ◌≤◌, true, List, [], ◌∷◌, ◌++◌, length, slice_get, Option, Some, None, refl, sym, ap, ◌∙◌, arith}
use Rattle.std.specs.List.{All}
use Rattle.std.proofs.lemmas.List.{append_assoc, length-append}
use Rattle.std.proofs.lemmas.List.Elements.{All-head, All-tail}
use Rattle.cc_meaning.specs.declared.file.Ids.{Ids}
use Rattle.cc_meaning.specs.declared.file.RawField.{RawField}
use Rattle.cc_meaning.specs.declared.program.StaticValue.{StaticValue}
use Rattle.cc_meaning.specs.declared.program.StaticValue.TheVariants as static
use Rattle.cc_meaning_dex.specs.Numbers.{Stands}
use Rattle.cc_meaning_dex.specs.Tables.{longest_file}
use Rattle.cc_meaning_dex.specs.declared.items.Cursor.{Cursor}
use Rattle.cc_meaning_dex.specs.declared.items.ValueKind.{ValueKind}
use Rattle.cc_meaning_dex.specs.declared.items.ValueKind.TheVariants as kind
use Rattle.cc_meaning_dex.specs.Sequences.{Follow}
use Rattle.cc_meaning_dex.specs.Values.{field_kind, SpellsSomeValues, SpellsValue, ValueStands}
use Rattle.cc_meaning_builder.specs.Built.{SuitsKind}
use Rattle.cc_meaning_builder.specs.Forms.{each_value_form, uleb_form, value_form, values_form}
use Rattle.cc_meaning_builder.specs.Laws.{StandsApart, WrittenUleb, WrittenValues}
use Rattle.cc_meaning_builder.specs.Written.{IsSmallValue}
use Rattle.cc_builder_laws.specs.Standing.{StandsWithin, UlebLength}
use Rattle.cc_builder_laws.proofs.Fields.{Fitting, fitting, field_behind}
use Rattle.cc_builder_laws.proofs.Values.{value_written}

-- ---- one value

-- a value ends behind its place, in the file
value_ends : (file : List ℕ) (texts : ℕ) (kind : ValueKind) (at : ℕ) (value : StaticValue) (next : ℕ) → SpellsValue file texts kind at value next → (at + 1 ≤ next) × (next ≤ length file)
value_ends file texts kind.Boolean at value next (flag, head, few, is, end) = (omega (arith, end), omega (arith, end, head.within))
value_ends file texts kind.Byte at value next (argument, s, is) = (omega (arith, s.end), omega (arith, s.end, s.within))
value_ends file texts kind.Short at value next (argument, s, is) = (omega (arith, s.end), omega (arith, s.end, s.within))
value_ends file texts kind.Char at value next (argument, s, is) = (omega (arith, s.end), omega (arith, s.end, s.within))
value_ends file texts kind.Int at value next (argument, s, is) = (omega (arith, s.end), omega (arith, s.end, s.within))
value_ends file texts kind.Long at value next (argument, s, is) = (omega (arith, s.end), omega (arith, s.end, s.within))
value_ends file texts kind.Text at value next (inl (head, is, end)) = (omega (arith, end), omega (arith, end, head.within))
value_ends file texts kind.Text at value next (inr (argument, s, there, is)) = (omega (arith, s.end), omega (arith, s.end, s.within))
value_ends file texts kind.Reference at value next (head, is, end) = (omega (arith, end), omega (arith, end, head.within))

no_kind : (ids : Ids) (value : StaticValue) → SuitsKind ids None value → ⊥
no_kind ids (static.Int n) suits = suits
no_kind ids (static.Long n) suits = suits
no_kind ids (static.Text row) suits = suits
no_kind ids static.Null suits = suits

-- the place behind a value
abbrev next_of : Cursor → List ℕ → Cursor
next_of from form = record { at = from.at + length form; row = from.row + 1 }

value_stands : StandsApart → StandsWithin → (file : List ℕ) (ids : Ids) (fields : List RawField) (from : Cursor) (field : RawField) (value : StaticValue) (kind : Option ValueKind) →
    field_kind ids field.row ≡ kind → slice_get fields from.row ≡ Some field → field.is_static ≡ true → from.row + 1 < 2 ^ 32 → SuitsKind ids kind value → IsSmallValue value →
    Stands file from.at (value_form kind value) → ValueStands file ids fields from value (next_of from (value_form kind value))
value_stands apart within file ids fields from field value None kinded there static fits suits small stands = absurd (no_kind ids value suits)
value_stands apart within file ids fields from field value (Some kind) kinded there static fits suits small stands = record {
  field = field;
  there = there;
  static = static;
  kind = kind;
  kinded = kinded;
  spelled = value_written apart within file ids kind from.at value suits small stands;
  fits = fits;
  behind = refl;
}

-- ---- values in order

record Followed (file : List ℕ) (ids : Ids) (fields : List RawField) (from : Cursor) (values : List StaticValue) : Type 0 where
  end : Cursor
  each : Follow (ValueStands file ids fields) from values end
  few : from.row + length values ≤ length file

-- a cursor that has come past so many fields
record Stood (file : List ℕ) (from : Cursor) (front : List RawField) : Type 0 where
  past : from.row ≡ length front
  far : from.row ≤ from.at
  within : from.at ≤ length file

values_follow : StandsApart → StandsWithin → (file : List ℕ) (ids : Ids) (all fields : List RawField) (values : List StaticValue) (front : List RawField) (from : Cursor) →
    length file ≤ longest_file → all ≡ front ++ fields → Stood file from front → Fitting ids fields values → All IsSmallValue values →
    Stands file from.at (each_value_form ids fields values) → Followed file ids all from values
unfolding each_value_form
values_follow apart within file ids all fields [] front from short whole stood fit small stands =
    record { end = from; each = refl; few = omega (arith, stood.far, stood.within) }
values_follow apart within file ids all [] (value ∷ values) front from short whole stood fit small stands = absurd fit
values_follow apart within file ids all (field ∷ fields) (value ∷ values) front from short whole stood fit small stands =
    let form = value_form (field_kind ids field.row) value in
    let parts = apart file from.at form (each_value_form ids fields values) stands in
    let there : slice_get all from.row ≡ Some field = ap (λ xs. slice_get xs from.row) whole ∙ ap (slice_get (front ++ (field ∷ fields))) stood.past ∙ field_behind front fields field in
    let fits : from.row + 1 < 2 ^ 32 = omega (arith, short, stood.far, stood.within) in
    let one = value_stands apart within file ids all from field value (field_kind ids field.row) refl there fit.0 fits fit.1 (All-head IsSmallValue value values small) parts.0 in
    let ends = value_ends file (length ids.texts) one.kind from.at value (from.at + length form) one.spelled in
    let next : Stood file (next_of from form) (front ++ (field ∷ [])) = record {
      past = omega (arith, stood.past, length-append front (field ∷ []));
      far = omega (arith, stood.far, ends.0);
      within = ends.1;
    } in
    let rest = values_follow apart within file ids all fields values (front ++ (field ∷ [])) (next_of from form) short (whole ∙ sym (append_assoc front (field ∷ []) fields)) next fit.2
    (All-tail IsSmallValue value values small) parts.1 in
    record { end = rest.end; each = (next_of from form, one, rest.each); few = omega (arith, rest.few) }

-- ---- all values of a class

uleb_some : UlebLength → (n : ℕ) → uleb_form n ≢ []
uleb_some lengths n none = absurd (omega (arith, (lengths n).0, ap length none))

values_spelled : StandsApart → StandsWithin → UlebLength → WrittenUleb → (file : List ℕ) (ids : Ids) (fields : List RawField) (at : ℕ) (values : List StaticValue) →
    length file ≤ longest_file → Fitting ids fields values → All IsSmallValue values → Stands file at (values_form ids fields values) → SpellsSomeValues file ids fields at values
unfolding values_form
values_spelled apart within lengths uleb file ids fields at values short fit small stands =
    let count = length values in
    let place = at + length (uleb_form count) in
    let parts = apart file at (uleb_form count) (each_value_form ids fields values) stands in
    let inside : place ≤ length file = within file at (uleb_form count) parts.0 (uleb_some lengths count) in
    let followed = values_follow apart within file ids fields fields values [] (record { at = place; row = 0 }) short refl (record { past = refl; far = omega arith; within = inside }) fit small parts.1 in
    record {
      count = count;
      place = place;
      end = followed.end.at;
      stated = uleb file at count (omega (arith, short, followed.few)) parts.0;
      listed = record { all = refl; end = followed.end; each = followed.each; last = refl };
    }

pub written_values : StandsApart → StandsWithin → UlebLength → WrittenUleb → WrittenValues
written_values apart within lengths uleb file ids stated class short small rise (inl none) suited = inl none
written_values apart within lengths uleb file ids stated class short small rise (inr (some, stands)) suited =
    inr (some, values_spelled apart within lengths uleb file ids class.fields stated.values_at class.values short (fitting ids class.fields class.values rise suited.few suited.each) small.each_value stands)
