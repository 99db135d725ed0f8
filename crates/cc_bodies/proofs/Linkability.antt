-- In sound bodies each row that code names has a link.
use Rattle.std.proofs.Common.{◌≡◌, inl, inr, ℕ, ◌<◌, ◌≤◌, true, List, [], ◌∷◌, length, map, Option, Some, None, refl, sym, ap, ◌∙◌, subst, arith}
use Rattle.std.specs.Prelude.{slice_get, Contains, IfSome, codes}
use Rattle.std.proofs.lemmas.List.{length-map}
use Rattle.std.proofs.lemmas.Option.{slice_get_cases, slice_get_within}
use Rattle.cc_meaning.specs.declared.file.Ids.{Ids}
use Rattle.cc_meaning.specs.declared.file.RawClass.{RawClass}
use Rattle.cc_meaning.specs.declared.file.RawCode.{RawCode}
use Rattle.cc_meaning.specs.declared.program.DexType.{DexType}
use Rattle.cc_meaning.specs.declared.program.Placed.{Placed}
use Rattle.cc_meaning_dex.specs.Descriptors.{names_value, IsDescriptor, IsValueDescriptor}
use Rattle.cc_meaning_program.specs.declared.reference.Reference.{Reference}
use Rattle.cc_meaning_program.specs.declared.reference.Reference.TheVariants as reference
use Rattle.cc_meaning_program.specs.ClassNames.{AreClassNames}
use Rattle.cc_meaning_program.specs.Instructions.{AreInstructions, StandToEnd, OneReading}
use Rattle.cc_meaning_program.specs.Named.{type_name, method_text}
use Rattle.cc_meaning_program.specs.References.{reference_of, IsFloating}
use Rattle.cc_meaning_program.specs.TypeNames.{IsTypeOf, ListedTypesSpelled}
use Rattle.cc_meaning_program.specs.Links.{AreLinks}
use Rattle.cc_meaning_program.specs.Rows.{FitTables, FitClasses, IsTypeRow}
use Rattle.cc_meaning_program.specs.Uses.{AreUses}
use Rattle.cc_meaning_program.specs.declared.links.Links.{Links}
use Rattle.cc_meaning_program.specs.declared.uses.MethodUse.{MethodUse}
use Rattle.cc_bodies.specs.Linkable.{HasLink, IsCodeOf, IsLinkable, SoundCodeIsLinkable}
use Rattle.cc_bodies.proofs.Among.{contains_at, in_classes}
use Rattle.cc_bodies.proofs.LinkedReferences.{uses_method, uses_field}
use Rattle.cc_bodies.proofs.Soundness.{NamedIsSound, CodeIsSound, code_is_sound, named_is_sound}

-- ---- descriptors

value_not_void : (name : List ℕ) → IsDescriptor name → ¬ (name ≡ codes "V") → IsValueDescriptor name
value_not_void name (inl void) other = absurd (other void)
value_not_void name (inr value) other = value

value_by_first : (name : List ℕ) → IsDescriptor name → names_value name ≡ true → IsValueDescriptor name
value_by_first name (inl void) first = absurd (let e : names_value (86 ∷ []) ≡ true = subst (λ n. names_value n ≡ true) void first in cc)
value_by_first name (inr value) first = value

-- ---- options

if_some : {A : Type 0} (holds : A → Type 0) (option : Option A) → ((x : A) → option ≡ Some x → holds x) → IfSome option holds
if_some holds None each = tt
if_some holds (Some x) each = each x refl

item_at : {A : Type 0} (xs : List A) (place : ℕ) → place < length xs → (x : A) × (slice_get xs place ≡ Some x)
item_at xs place within = elim (slice_get_cases xs place).1 [ inl (x, h, there, is) ↦ (x, there) | inr (past, none) ↦ absurd (omega arith) ]

within_table : (size row : ℕ) → ¬ (size ≤ row) → row < size
within_table size row present = grind (arith, present)

-- ---- rows

module _ (ids : Ids) (classes : List RawClass) (names texts methods fields : List (List ℕ)) (method_uses : List MethodUse) (field_uses : List ℕ) (links : Links)
    (spelled : ListedTypesSpelled) (fit : FitTables ids) (class_names : AreClassNames ids names) (uses : AreUses classes method_uses field_uses)
    (are : AreLinks ids classes names texts methods fields method_uses field_uses links) where
  text_has : (row : ℕ) → row < length ids.texts → row < length links.texts
  text_has row within =
      let some : List ℕ → Option (List ℕ) = λ text. Some text in
      let e : length (map (slice_get texts) links.texts) ≡ length (map some ids.texts) = ap length are.text_numbers in
      omega (arith, e, length-map links.texts (slice_get texts), length-map ids.texts some)

  type_is_some : (row : ℕ) (option : Option DexType) → slice_get links.types row ≡ Some option → row < length ids.types → IsValueDescriptor (type_name ids row) → ¬ IsFloating (type_name ids row) → HasLink links (reference.Type row)
  type_is_some row None there within value plain =
      let one = spelled ids names class_names row within value plain in
      let none : IsTypeOf names (type_name ids row) None = are.each_type row None there in
      absurd (none one.0 one.1)
  type_is_some row (Some type) there within value plain = (type, there)

  type_has : (row : ℕ) → row < length ids.types → IsValueDescriptor (type_name ids row) → ¬ IsFloating (type_name ids row) → HasLink links (reference.Type row)
  type_has row within value plain =
      let all = are.all_types in
      let at = item_at links.types row (omega arith) in
      type_is_some row at.0 at.1 within value plain

  method_has : (row : ℕ) (placed : Placed) → Contains uses.instructions placed → reference_of placed.insn ≡ Some (reference.Method row) → HasLink links (reference.Method row)
  method_has row placed among refers =
      let used = uses_method uses.instructions placed row among refers in
      let link = are.all_methods used.0 (subst (λ (it : List MethodUse). Contains it used.0) (sym uses.of_methods) used.1) in
      (link.0, ap (slice_get links.methods) (sym used.2) ∙ link.1)

  field_has : (row : ℕ) (placed : Placed) → Contains uses.instructions placed → reference_of placed.insn ≡ Some (reference.Field row) → HasLink links (reference.Field row)
  field_has row placed among refers = are.all_fields row (subst (λ (it : List ℕ). Contains it row) (sym uses.of_fields) (uses_field uses.instructions placed row among refers))

  named_has : (placed : Placed) → Contains uses.instructions placed → (named : Reference) → reference_of placed.insn ≡ Some named → NamedIsSound ids named → HasLink links named
  named_has placed among (reference.Text row) refers sound = text_has row (within_table (length ids.texts) row sound.present)
  named_has placed among (reference.Type row) refers sound =
      let within = within_table (length ids.types) row (λ past. sound.present (inl past)) in
      type_has row within (value_not_void (type_name ids row) (fit.types row within) (λ void. sound.present (inr void))) sound.plain
  named_has placed among (reference.Field row) refers sound = field_has row placed among refers
  named_has placed among (reference.Method row) refers sound = method_has row placed among refers

  catch_has : (row : ℕ) → IsTypeRow names_value ids row → ¬ IsFloating (type_name ids row) → HasLink links (reference.Type row)
  catch_has row is plain = type_has row is.there (value_by_first (type_name ids row) (fit.types row is.there) is.sorted) plain

  linkable : OneReading → FitClasses ids classes → (code : RawCode) (insns : List Placed) (of : IsCodeOf classes code) → AreInstructions code.units insns →
      CodeIsSound ids (method_text ids of.method.row) code insns → IsLinkable links code insns
  linkable one fit_classes code insns of stand sound =
      record {
        of_insns = λ number placed there. if_some (HasLink links) (reference_of placed.insn) (λ named refers.
            let among = in_classes one classes uses.instructions uses.are of.number of.class of.class_there of.place of.method of.method_there code insns of.coded stand placed (contains_at insns number placed there) in
            named_has placed among named refers (named_is_sound ids (method_text ids of.method.row) insns sound.of_insns number placed there named refers));
        of_tries = λ number try there place catch catch_there. if_some (λ (row : ℕ). HasLink links (reference.Type row)) catch.row (λ row typed.
            let whole = fit_classes.whole in
            let within = slice_get_within classes of.number of.class of.class_there in
            let stated = item_at ids.classes of.number (omega arith) in
            let members = fit_classes.members of.number stated.0 of.class stated.1 of.class_there in
            let fits = (members.methods of.method (contains_at of.class.methods of.place of.method of.method_there)).tries code of.coded try catch (contains_at code.tries number try there) (contains_at try.catches place catch catch_there) in
            let plain : ¬ IsFloating (type_name ids row) = λ floats. sound.of_tries number try there place catch _ catch_there (record { row = row; typed = typed; floats = floats; named = refl }) in
            catch_has row (fits row typed) plain);
      }

pub sound_code_is_linkable : StandToEnd → OneReading → ListedTypesSpelled → SoundCodeIsLinkable
sound_code_is_linkable to_end one spelled ids classes names texts methods fields method_uses field_uses links fit fit_classes class_names sound uses are code insns of stand =
    linkable ids classes names texts methods fields method_uses field_uses links spelled fit class_names uses are one fit_classes code insns of stand
    (code_is_sound to_end ids classes sound of.number of.class of.class_there of.place of.method of.method_there code insns of.coded stand)
