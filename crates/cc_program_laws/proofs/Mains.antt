-- The method that a program of a file begins with.
use Rattle.std.proofs.Common.{◌≡◌, ℕ, ◌<◌, true, false, List, [], length, Option, Some, None, refl, sym, ap, ◌∙◌, subst}
use Rattle.std.specs.Prelude.{slice_get, option_and_then, is_some, unwrap_or, ◌||◌}
use Rattle.std.specs.Str.{bytes_eq}
use Rattle.std.proofs.lemmas.Option.{slice_get_within}
use Rattle.cc_meaning.specs.declared.file.Ids.{Ids}
use Rattle.cc_meaning.specs.declared.file.RawClass.{RawClass}
use Rattle.cc_meaning.specs.declared.file.RawMethod.{RawMethod}
use Rattle.cc_meaning.specs.declared.program.Class.{Class}
use Rattle.cc_meaning.specs.declared.program.Code.{Code}
use Rattle.cc_meaning.specs.declared.program.Method.{Method}
use Rattle.cc_meaning.specs.declared.program.MethodKind.{MethodKind}
use Rattle.cc_meaning.specs.declared.program.MethodKind.TheVariants as kinds
use Rattle.cc_meaning.specs.declared.program.Program.{Program}
use Rattle.cc_meaning.specs.Lookup.{class_named}
use Rattle.cc_meaning.specs.Names.{method_name}
use Rattle.cc_meaning_dex.specs.Descriptors.{begins_with, names_reference, IsDescriptor}
use Rattle.cc_meaning_dex.specs.CodeItems.{has_flag}
use Rattle.cc_meaning_program.specs.ClassNames.{IsClassName}
use Rattle.cc_meaning_program.specs.Named.{type_name}
use Rattle.cc_meaning_program.specs.OwnMembers.{method_defined}
use Rattle.cc_meaning_program.specs.Laws.{AreDescriptors}
use Rattle.cc_meaning_program.specs.Members.{IsMethod, KindResolved}
use Rattle.cc_meaning_program.specs.Programs.{IsProgram, IsMainClass, HasMain as HasMainMethod, main_member}
use Rattle.cc_meaning_program.specs.Resolved.{names_of, whole_name}
use Rattle.cc_meaning_program.proofs.Leading.{same_class, same_member, class_name_leads}
use Rattle.cc_meaning_program.proofs.Splitting.{Leads}
use Rattle.cc_meaning_program.specs.Rows.{FitTables}
use Rattle.cc_meaning_typing.specs.Complete.{HasMain}
use Rattle.cc_program_laws.specs.Laws.{ArePlainlyCoded}
use Rattle.cc_program_laws.proofs.Lists.{some_same, same_bytes, position_is, found_contained, mapped_found}
use Rattle.cc_program_laws.proofs.WellFormed.{defined_there}
use Rattle.cc_program_laws.proofs.Totals.{members_found}

module _ (ids : Ids) (classes : List RawClass) (asked : Option (List ℕ)) (program : Program) (fit : FitTables ids) (coded : ArePlainlyCoded classes) (is : IsProgram ids classes asked program) where
  are_descriptors : AreDescriptors ids
  unfolding type_name
  are_descriptors type name e = subst IsDescriptor (ap (λ o. unwrap_or o []) e) (fit.types type (there (slice_get ids.types type) refl e))
    where
      there : (o : Option ℕ) → slice_get ids.types type ≡ o → option_and_then (slice_get ids.texts) o ≡ Some name → type < length ids.types
      there None at e = absurd cc
      there (Some text) at e = slice_get_within ids.types type text at

  has_main : (class : List ℕ) → IsMainClass ids classes asked class → HasMainMethod ids classes class
  has_main class main = from asked class main
    where
      from : (o : Option (List ℕ)) (class : List ℕ) → IsMainClass ids classes o class → HasMainMethod ids classes class
      from _ _ (IsMainClass.asked has) = has
      from _ _ (IsMainClass.first defines has others) = has

  -- a class that the file defines is among the names
  defined_leads : (owner : List ℕ) (raw : RawMethod) (member : List ℕ) → method_defined ids classes owner member ≡ Some raw → Leads owner
  defined_leads owner raw member e =
      let of = members_found ids classes owner member raw e in
      let row = (fit.classes of.1.number of.1.stated of.1.defined).class in
      let reference : names_reference (type_name ids of.1.stated.class) ≡ true = ap (λ b. b || begins_with 91 (type_name ids of.1.stated.class)) row.sorted in
      subst Leads of.1.named (class_name_leads ids are_descriptors (type_name ids of.1.stated.class) (IsClassName.listed row.there reference))

  named_leads : (owner : List ℕ) (number : ℕ) → class_named owner program ≡ Some number → Leads owner
  unfolding names_of
  named_leads owner number e =
      let found = position_is (λ (class : Class). bytes_eq class.name owner) program.classes number e in
      let there = found_contained (names_of program) number found.0.name (mapped_found (λ (class : Class). class.name) program.classes number found.0 found.1) in
      subst Leads (same_bytes found.0.name owner found.2) (class_name_leads ids are_descriptors found.0.name ((is.class_names.are found.0.name).0 there))

  kind_is_code : (raw : RawMethod) (kind : MethodKind) → (has_flag raw.flags 256 ≡ false) × (has_flag raw.flags 1024 ≡ false) → KindResolved ids classes program raw kind → (code : Code) × (kind ≡ kinds.Code code)
  kind_is_code raw _ plain (KindResolved.native flag) = absurd (let no = plain.0 in cc)
  kind_is_code raw _ plain (KindResolved.abstract other flag) = absurd (let no = plain.1 in cc)
  kind_is_code raw _ plain (KindResolved.code {code = code} native abstract there resolved) = (code, refl)

  main_by : (owner member : List ℕ) (raw : RawMethod) (method : Method) → slice_get program.methods program.main ≡ Some method → method_defined ids classes owner member ≡ Some raw → has_flag raw.flags 8 ≡ true → is_some raw.code ≡ true → IsMethod ids classes program owner member method → HasMain program
  main_by owner member raw method there defined flag some (IsMethod.defined {raw = other} also named static virtual kind) =
      let same : other ≡ raw = some_same other raw (sym also ∙ defined) in
      let at = defined_there ids classes owner member raw defined in
      let code = kind_is_code raw method.kind (coded at.0 at.2 at.1 raw at.3 at.4 some) (subst (λ (r : RawMethod). KindResolved ids classes program r method.kind) same kind) in
      record { method = method; code = code.0; there = there; is_static = static ∙ (ap (λ (r : RawMethod). has_flag r.flags 8) same ∙ flag); kind = code.1 }
  main_by owner member raw method there defined flag some (IsMethod.built_in missing listed name params result static virtual kind) = absurd (let no = missing in cc)
  main_by owner member raw method there defined flag some (IsMethod.outside missing unlisted all first refers named static virtual kind) = absurd (let no = missing in cc)

  pub main_stands : HasMain program
  main_stands =
      let found = position_is (λ (method : Method). bytes_eq (method_name program method) (whole_name is.main_class main_member)) program.methods program.main is.main in
      let each = is.each_method program.main found.0 found.1 in
      let has = has_main is.main_class is.main_is in
      let whole : whole_name each.0 each.1 ≡ whole_name is.main_class main_member = sym each.3 ∙ same_bytes (method_name program found.0) (whole_name is.main_class main_member) found.2 in
      let left = named_leads each.0 found.0.class each.2 in
      let right = defined_leads is.main_class has.0 main_member has.1 in
      let owner = same_class each.0 is.main_class each.1 main_member left right whole in
      let member = same_member each.0 is.main_class each.1 main_member left right whole in
      main_by is.main_class main_member has.0 found.0 found.1 has.1 has.2 has.3 (subst (λ m. IsMethod ids classes program is.main_class m found.0) member (subst (λ o. IsMethod ids classes program o each.1 found.0) owner each.4))
