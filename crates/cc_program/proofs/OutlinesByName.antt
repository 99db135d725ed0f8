-- What outlines say of classes by numbers, a program says by names.
use Rattle.std.proofs.Common.{◌≡◌, ℕ, Bool, List, [], ◌∷◌, map, Option, Some, None, position, true, refl, sym, ap, ◌∙◌}
use Rattle.std.specs.Prelude.{slice_get, option_and_then}
use Rattle.std.specs.Str.{bytes_eq}
use Rattle.std.proofs.lemmas.Slice.Eq.{bytes_eq-Decides}
use Rattle.cc_meaning.specs.declared.file.ClassRow.{ClassRow}
use Rattle.cc_meaning.specs.declared.file.Ids.{Ids}
use Rattle.cc_meaning.specs.declared.program.Class.{Class}
use Rattle.cc_meaning.specs.declared.program.Program.{Program}
use Rattle.cc_meaning.specs.Lookup.{class_named}
use Rattle.cc_meaning.specs.Order.{IsRising}
use Rattle.cc_meaning_program.specs.Named.{type_name}
use Rattle.cc_meaning_program.specs.Ancestry.{definition_of}
use Rattle.cc_meaning_program.specs.Programs.{has_class_flag}
use Rattle.cc_meaning_program.specs.Resolved.{names_of}
use Rattle.cc_meaning_program.proofs.Alike.{position_map}
use Rattle.cc_meaning_program.specs.Outlines.{IsNumberOf, definition_number}
use Rattle.cc_program.specs.Made.{stated_at}
use Rattle.cc_program.proofs.Places.{Placed, placed, find_placed, position_by_name}

module _ (program : Program) (names : List (List ℕ)) (are : names_of program ≡ names) where
  pub named_at : (name : List ℕ) → class_named name program ≡ position (λ (other : List ℕ). bytes_eq other name) names
  unfolding names_of
  named_at name = position_map (λ n. bytes_eq n name) (λ (class : Class). class.name) program.classes ∙ ap (λ ns. position (λ n. bytes_eq n name) ns) are

  -- the name of a class that has a number
  pub name_is : (name : List ℕ) (n : ℕ) → class_named name program ≡ Some n → slice_get names n ≡ Some name
  name_is name n e =
      let at : Placed (λ (other : List ℕ). bytes_eq other name) names n = placed (λ (other : List ℕ). bytes_eq other name) names n (sym (named_at name) ∙ e) in
      at.there ∙ ap Some (same at.item at.passes)
    where
      same : (item : List ℕ) → bytes_eq item name ≡ true → item ≡ name
      same item e = (bytes_eq-Decides item name).0 e

  module _ (rise : IsRising names) where
    -- the number of a class that has a name
    pub number_is : (n : ℕ) (name : List ℕ) → slice_get names n ≡ Some name → class_named name program ≡ Some n
    number_is n name there = named_at name ∙ position_by_name (λ other. other) names n name name rise there refl

    pub superclass_is : (named : Option (List ℕ)) (number : Option ℕ) → IsNumberOf names named number → number ≡ option_and_then (λ name. class_named name program) named
    superclass_is None None is = refl
    superclass_is None (Some n) is = absurd is
    superclass_is (Some name) None is = absurd is
    superclass_is (Some name) (Some n) is = sym (number_is n name is)

    pub interfaces_are : (given : List (List ℕ)) (numbers : List ℕ) → map (slice_get names) numbers ≡ map Some given → map Some numbers ≡ map (λ name. class_named name program) given
    interfaces_are [] [] e = refl
    interfaces_are [] (n ∷ ns) e = absurd (cc)
    interfaces_are (x ∷ xs) [] e = absurd (cc)
    interfaces_are (x ∷ xs) (n ∷ ns) e =
        let first : slice_get names n ≡ Some x = cc in
        let rest : map (slice_get names) ns ≡ map Some xs = cc in
        ap (λ o. o ∷ map Some ns) (sym (number_is n x first)) ∙ ap (λ os. class_named x program ∷ os) (interfaces_are xs ns rest)

-- a definition is that of its number
pub stated_is : (ids : Ids) (name : List ℕ) (definition : Option ℕ) → definition ≡ definition_number ids name → stated_at ids definition ≡ definition_of ids name
unfolding stated_at definition_number definition_of
stated_is ids name definition is = ap (option_and_then (slice_get ids.classes)) is ∙ sym (find_placed (λ (stated : ClassRow). bytes_eq (type_name ids stated.class) name) ids.classes)

pub flag_is : (ids : Ids) (name : List ℕ) (definition : Option ℕ) (flag : ℕ) (given : Bool) → definition ≡ definition_number ids name → given ≡ has_class_flag flag (stated_at ids definition) → given ≡ has_class_flag flag (definition_of ids name)
flag_is ids name definition flag given is flagged = flagged ∙ ap (has_class_flag flag) (stated_is ids name definition is)
