-- Classes by their numbers and by their names.
use Rattle.std.proofs.Common.{◌≡◌, ℕ, zero, suc, List, [], ◌∷◌, ◌++◌, map, Option, Some, refl, sym, ap, ◌∙◌, append_assoc, arith}
use Rattle.std.specs.Prelude.{slice_get, unwrap_or, option_and_then, codes}
use Rattle.std.proofs.lemmas.Option.{slice_get_within}
use Rattle.cc_meaning.specs.declared.file.Ids.{Ids}
use Rattle.cc_meaning.specs.declared.file.RawClass.{RawClass}
use Rattle.cc_meaning.specs.declared.program.Class.{Class}
use Rattle.cc_meaning.specs.declared.program.DexType.{DexType}
use Rattle.cc_meaning.specs.declared.program.Field.{Field}
use Rattle.cc_meaning.specs.declared.program.Program.{Program}
use Rattle.cc_meaning.specs.Names.{name_or_none, class_name, descriptor, field_name}
use Rattle.cc_meaning_program.specs.TypeNames.{type_spelled, Spells}
use Rattle.cc_meaning_program.specs.OwnMembers.{members_of}
use Rattle.cc_meaning_program.specs.Resolved.{names_of, whole_name}
use Rattle.cc_meaning_program.proofs.Alike.{descriptor_by_names}
use Rattle.cc_meaning_program.specs.Outlines.{definition_number, AreOutlines}
use Rattle.cc_meaning_program.specs.Plans.{name_at}
use Rattle.cc_meaning_program.specs.declared.outline.Outline.{Outline}
use Rattle.cc_members.specs.Stated.{members_at}
use Rattle.cc_members.proofs.Typed.{item_there}

pub name_there : (names : List (List ℕ)) (number : ℕ) (name : List ℕ) → slice_get names number ≡ Some name → slice_get names number ≡ Some (name_at names number)
unfolding name_at
name_there names number name is = is ∙ ap Some (sym (ap (λ (o : Option (List ℕ)). unwrap_or o []) is))

-- the members of a class by its number are those by its name
pub members_same : (ids : Ids) (classes : List RawClass) (names : List (List ℕ)) (outlines : List Outline) → AreOutlines ids names outlines → (owner : ℕ) (name : List ℕ) → slice_get names owner ≡ Some name →
    members_at classes outlines owner ≡ members_of ids classes name
unfolding members_of definition_number
members_same ids classes names outlines are owner name is =
    let (outline, there) = item_there outlines owner (omega (arith, are.all, slice_get_within names owner name is)) in
    ap (λ (o : Option Outline). option_and_then (slice_get classes) (option_and_then (λ (outline : Outline). outline.definition) o)) there
    ∙ ap (option_and_then (slice_get classes)) (are.each owner name outline is there).definition

class_at : (classes : List Class) (number : ℕ) → name_or_none (slice_get classes number) ≡ unwrap_or (slice_get (map (λ (class : Class). class.name) classes) number) []
class_at [] number = refl
class_at (class ∷ classes) zero = refl
class_at (class ∷ classes) (suc n) = class_at classes n

module _ (program : Program) (names : List (List ℕ)) (are : names_of program ≡ names) where
  pub class_named_at : (class : ℕ) → class_name program class ≡ name_at names class
  unfolding names_of name_at
  class_named_at class = class_at program.classes class ∙ ap (λ (ns : List (List ℕ)). unwrap_or (slice_get ns class) []) are

  pub spelled_by_names : (ty : DexType) (text : List ℕ) → Spells names ty text → descriptor program ty ≡ text
  spelled_by_names ty text spells = descriptor_by_names program ty ∙ (ap (λ ns. type_spelled ns ty) are ∙ spells.spelled)

  -- a field's whole name from its parts
  pub field_named : (field : Field) (name text : List ℕ) → field.name ≡ name → Spells names field.ty text → field_name program field ≡ whole_name (name_at names field.class) (name ++ codes ":" ++ text)
  unfolding whole_name
  field_named field name text is spells =
      let class = class_named_at field.class in
      let ty = spelled_by_names field.ty text spells in
      ap (λ n. n ++ codes "->" ++ field.name ++ codes ":" ++ descriptor program field.ty) class
      ∙ (ap (λ n. name_at names field.class ++ codes "->" ++ n ++ codes ":" ++ descriptor program field.ty) is
      ∙ (ap (λ n. name_at names field.class ++ codes "->" ++ name ++ codes ":" ++ n) ty
      ∙ grouped (name_at names field.class ++ codes "->") name (codes ":") text))
    where
      grouped : (a b c d : List ℕ) → a ++ b ++ c ++ d ≡ a ++ (b ++ c ++ d)
      grouped a b c d = simp append_assoc
