-- What outlines say of a class, and the names of members that are told by places.
use Rattle.std.proofs.Common.{◌≡◌, ℕ, zero, suc, ◌<◌, List, [], ◌∷◌, length, map, Option, Some, None, slice_get, refl, sym, ap, ◌∙◌}
use Rattle.std.specs.Prelude.{option_and_then, option_map, unwrap_or}
use Rattle.std.proofs.lemmas.Option.{slice_get-get_or, unwrap_or-slice_get}
use Rattle.cc_meaning.specs.declared.file.Ids.{Ids}
use Rattle.cc_meaning.specs.declared.file.RawClass.{RawClass}
use Rattle.cc_meaning.specs.declared.file.RawField.{RawField}
use Rattle.cc_meaning.specs.declared.file.RawMethod.{RawMethod}
use Rattle.cc_meaning_program.specs.Named.{method_member, field_member}
use Rattle.cc_built_in.specs.BuiltInMethods.{BuiltInMethod, built_in_member}
use Rattle.cc_meaning_program.specs.OwnMembers.{members_of, built_in_by_kind, built_in_methods_of}
use Rattle.cc_meaning_program.specs.declared.outline.Outline.{Outline}
use Rattle.cc_meaning_program.specs.Outlines.{AreOutlines, IsOutline, definition_number}
use Rattle.cc_meaning_program.specs.Plans.{name_at, raw_method_member, raw_field_member, listed_member}
use Rattle.cc_members.specs.ListedNames.{listed_at, listed_text}

pub there_at : (names : List (List ℕ)) (number : ℕ) → number < length names → slice_get names number ≡ Some (name_at names number)
unfolding name_at
there_at names number within = slice_get-get_or names number [] within ∙ ap Some (sym (unwrap_or-slice_get names number []))

pub name_there : (names : List (List ℕ)) (number : ℕ) (name : List ℕ) → slice_get names number ≡ Some name → name_at names number ≡ name
unfolding name_at
name_there names number name there = ap (λ (o : Option (List ℕ)). unwrap_or o []) there

pub outlined : (ids : Ids) (names : List (List ℕ)) (outlines : List Outline) (number : ℕ) (outline : Outline) → AreOutlines ids names outlines → number < length names → slice_get outlines number ≡ Some outline →
    IsOutline ids names (name_at names number) outline
outlined ids names outlines number outline are within at = are.each number (name_at names number) outline (there_at names number within) at

pub members_by : (ids : Ids) (classes : List RawClass) (names : List (List ℕ)) (name : List ℕ) (outline : Outline) → IsOutline ids names name outline →
    option_and_then (slice_get classes) outline.definition ≡ members_of ids classes name
unfolding members_of definition_number
members_by ids classes names name outline is = ap (option_and_then (slice_get classes)) is.definition

pub listed_by : (ids : Ids) (names : List (List ℕ)) (name : List ℕ) (outline : Outline) → IsOutline ids names name outline →
    map built_in_member (built_in_by_kind outline.kind name) ≡ map built_in_member (built_in_methods_of ids name)
unfolding built_in_methods_of
listed_by ids names name outline is = ap (λ what. map built_in_member (built_in_by_kind what name)) is.kind

-- ---- names within a class

pub row_named : (ids : Ids) (o : Option RawMethod) (row : ℕ) → Some row ≡ option_map (λ (raw : RawMethod). raw.row) o → method_member ids row ≡ raw_method_member ids o
unfolding raw_method_member
row_named ids None row e = absurd (cc)
row_named ids (Some raw) row e = let same : row ≡ raw.row = cc in ap (method_member ids) same

pub row_none : (ids : Ids) (o : Option RawMethod) → None ≡ option_map (λ (raw : RawMethod). raw.row) o → [] ≡ raw_method_member ids o
unfolding raw_method_member
row_none ids None e = refl
row_none ids (Some raw) e = absurd (cc)

text_at : (methods : List BuiltInMethod) (place : ℕ) → unwrap_or (slice_get (map built_in_member methods) place) [] ≡ listed_member (slice_get methods place)
unfolding listed_member
text_at [] place = refl
text_at (method ∷ methods) zero = refl
text_at (method ∷ methods) (suc place) = text_at methods place

pub listed_named : (members : List (List (List ℕ))) (table place : ℕ) (methods : List BuiltInMethod) → listed_at members (Some table) ≡ map built_in_member methods → listed_text members table place ≡ listed_member (slice_get methods place)
unfolding listed_text
listed_named members table place methods e = ap (λ (names : List (List ℕ)). unwrap_or (slice_get names place) []) e ∙ text_at methods place

pub listed_none : (members : List (List (List ℕ))) (place : ℕ) (methods : List BuiltInMethod) → listed_at members None ≡ map built_in_member methods → [] ≡ listed_member (slice_get methods place)
unfolding listed_at
listed_none members place methods e = ap (λ (names : List (List ℕ)). unwrap_or (slice_get names place) []) e ∙ text_at methods place

pub field_named : (ids : Ids) (o : Option RawField) (row : ℕ) → Some row ≡ option_map (λ (raw : RawField). raw.row) o → field_member ids row ≡ raw_field_member ids o
unfolding raw_field_member
field_named ids None row e = absurd (cc)
field_named ids (Some raw) row e = let same : row ≡ raw.row = cc in ap (field_member ids) same

pub field_none : (ids : Ids) (o : Option RawField) → None ≡ option_map (λ (raw : RawField). raw.row) o → [] ≡ raw_field_member ids o
unfolding raw_field_member
field_none ids None e = refl
field_none ids (Some raw) e = absurd (cc)
