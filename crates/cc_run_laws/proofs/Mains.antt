-- The methods and the field of a file's program that have names of their own: `main`, initialisers, and `System.out`.
use Rattle.std.proofs.Common.{unwrap_or, ◌≡◌, inl, inr, ℕ, ◌<◌, Bool, true, false, ◌||◌, cond, List, [], ◌∷◌, ◌++◌, length, map, Option, Some, None, refl, sym, ap, ◌∙◌, subst, arith, slice_get}
use Rattle.std.specs.Prelude.{codes, option_and_then, Contains}
use Rattle.std.specs.List.{flat_map}
use Rattle.std.specs.Str.{bytes_eq}
use Rattle.std.proofs.lemmas.Option.{slice_get_within}
use Rattle.cc_meaning.specs.declared.file.Ids.{Ids}
use Rattle.cc_meaning.specs.declared.file.RawClass.{RawClass}
use Rattle.cc_meaning.specs.declared.program.Class.{Class}
use Rattle.cc_meaning.specs.declared.program.ClassKind.TheVariants as origin
use Rattle.cc_meaning.specs.declared.program.Code.{Code}
use Rattle.cc_meaning.specs.declared.program.Field.{Field}
use Rattle.cc_meaning.specs.declared.program.Method.{Method}
use Rattle.cc_meaning.specs.declared.program.MethodKind.{MethodKind}
use Rattle.cc_meaning.specs.declared.program.MethodKind.TheVariants as kinds
use Rattle.cc_meaning.specs.declared.program.Program.{Program}
use Rattle.cc_meaning.specs.BuiltIn.{system_name, out_name, print_stream_name, string_name, system_out_name}
use Rattle.cc_meaning.specs.Lookup.{class_named, method_named}
use Rattle.cc_meaning.specs.Names.{name_or_none, class_name, descriptor, result_descriptor, member_name, method_name, field_name}
use Rattle.cc_meaning_dex.specs.Descriptors.{begins_with, names_reference, names_value, IsDescriptor}
use Rattle.cc_meaning_program.specs.Ancestry.{kind_of_class}
use Rattle.cc_meaning_program.specs.ClassFaults.{AreSound}
use Rattle.cc_meaning_program.specs.ClassNames.{texts_name, IsClassName}
use Rattle.cc_meaning_program.specs.Laws.{AreDescriptors}
use Rattle.cc_meaning_program.specs.Members.{Pairs, IsNamedBy, IsMethod, IsField, out_member}
use Rattle.cc_meaning_program.specs.Named.{type_name}
use Rattle.cc_meaning_program.specs.Programs.{IsProgram, IsMainClass, HasMain, main_member, has_code, is_run, static_with_code}
use Rattle.cc_meaning_program.specs.Resolved.{names_of, whole_name}
use Rattle.cc_meaning_program.specs.Rows.{FitTables, IsTypeRow}
use Rattle.cc_meaning_program.specs.TypeNames.{Spells, type_spelled}
use Rattle.cc_meaning_program.proofs.Leading.{same_class, same_member, class_name_leads}
use Rattle.cc_meaning_program.proofs.Spelling.{spelled_once}
use Rattle.cc_meaning_program.proofs.Splitting.{Leads, descriptor_leads}
use Rattle.cc_meaning_typing.specs.Complete.{IsComplete, BaseStands}
use Rattle.cc_meaning_typing.specs.Code.{is_array_of, is_array, string_type, type_of_class}
use Rattle.cc_meaning_typing.specs.Types.{class_type, array_of}
use Rattle.cc_meaning_exec.specs.Starts.{initialiser_in}
use Rattle.cc_meaning_fits.specs.Premises.{Initialises, OutFits, MainFits}
use Rattle.cc_meaning_world.specs.Opening.{texts_class}
use Rattle.cc_meaning_world.specs.Sorts.{number_of}
use Rattle.cc_program_laws.proofs.Hierarchy.{numbered, in_names}
use Rattle.cc_program_laws.proofs.Lists.{same_bytes, some_same, position_is, found_contained, mapped_found}
use Rattle.cc_program_laws.proofs.Standing.{built_in_kind}
use Rattle.cc_program_laws.proofs.Totals.{members_found}
use Rattle.cc_run_laws.proofs.BuiltNames.{string_in, stream_in, system_in}
use Rattle.cc_run_laws.proofs.Built.{built, called_so}
use Rattle.cc_run_laws.proofs.Layouts.{both_true, field_owner_kind}
use Rattle.cc_run_laws.proofs.Types.{class_spelled, array_is, spells_class}
use Rattle.cc_run_laws.proofs.Texts.{behind_open, opens, split_open, no_params, one_param}

unfoldable pub initialiser_member : List ℕ
initialiser_member = codes "<clinit>()V"

origins : origin.File ≡ origin.BuiltIn → ⊥
origins e = cc

module _ (ids : Ids) (classes : List RawClass) (asked : Option (List ℕ)) (p : Program) (fit : FitTables ids) (sound : AreSound ids classes) (is : IsProgram ids classes asked p) (whole : IsComplete p) where
  are_descriptors : AreDescriptors ids
  unfolding type_name
  are_descriptors type name e = subst IsDescriptor (ap (λ o. unwrap_or o []) e) (fit.types type (there (slice_get ids.types type) refl e))
    where
      there : (o : Option ℕ) → slice_get ids.types type ≡ o → option_and_then (slice_get ids.texts) o ≡ Some name → type < length ids.types
      there None at e = absurd cc
      there (Some text) at e = slice_get_within ids.types type text at

  -- the name of a class of the program is one descriptor
  pub named_leads : (owner : List ℕ) (number : ℕ) → class_named owner p ≡ Some number → Leads owner
  unfolding names_of
  named_leads owner number e =
      let found = called_so p whole owner number e in
      let there = found_contained (names_of p) number found.0.name (mapped_found (λ (class : Class). class.name) p.classes number found.0 found.1) in
      subst Leads found.2 (class_name_leads ids are_descriptors found.0.name ((is.class_names.are found.0.name).0 there))

  value_leads : (type : ℕ) → IsTypeRow names_value ids type → Leads (type_name ids type)
  value_leads type row = by (fit.types type row.there)
    where
      by : IsDescriptor (type_name ids type) → Leads (type_name ids type)
      by (inl void) = absurd (let e = row.sorted in let f : names_value (type_name ids type) ≡ false = ap names_value void in cc)
      by (inr value) = descriptor_leads (type_name ids type) value

  -- ---- a method by its whole name

  -- a method with the whole name of another class's member is that member
  pub member_of : (m : ℕ) (method : Method) (owner member : List ℕ) (number : ℕ) → slice_get p.methods m ≡ Some method → class_named owner p ≡ Some number → method_name p method ≡ whole_name owner member → (member_name p method ≡ member) × (class_name p method.class ≡ owner)
  unfolding whole_name
  member_of m method owner member number there of e =
      let each = is.each_method m method there in
      let found = called_so p whole each.0 method.class each.2 in
      let name : class_name p method.class ≡ each.0 = ap name_or_none found.1 ∙ found.2 in
      let left : Leads (class_name p method.class) = subst Leads (sym name) (named_leads each.0 method.class each.2) in
      let right = named_leads owner number of in
      (same_member (class_name p method.class) owner (member_name p method) member left right e, same_class (class_name p method.class) owner (member_name p method) member left right e)

  -- what stands behind `(` in a method's name
  behind_name : (method : Method) (member : List ℕ) → member_name p method ≡ member → opens member ≡ 1 → flat_map (descriptor p) method.params ++ codes ")" ++ result_descriptor p method.result ≡ behind_open member
  behind_name method member e one = split_open method.name (flat_map (descriptor p) method.params ++ codes ")" ++ result_descriptor p method.result) member e one

  -- ---- the parameters of a method that is defined

  -- the texts of a method's parameters, each a descriptor
  pub record HasTexts (method : Method) : Type 0 where
    pub texts : List (List ℕ)
    pub spelled : Pairs (Spells (names_of p)) method.params texts
    pub leads : (text : List ℕ) (rest : List (List ℕ)) → texts ≡ text ∷ rest → Leads text

  of_row : (row : ℕ) (method : Method) → IsNamedBy ids p row method → HasTexts method
  of_row row method named = record { texts = map (type_name ids) named.prototype.params; spelled = named.params; leads = λ text rest e. first named.prototype.params (λ type in_it. (fit.protos named.stated.proto named.prototype named.typed).params type in_it) text rest e }
    where
      first : (params : List ℕ) → ((type : ℕ) → Contains params type → IsTypeRow names_value ids type) → (text : List ℕ) (rest : List (List ℕ)) → map (type_name ids) params ≡ text ∷ rest → Leads text
      first [] all text rest e = absurd cc
      first (type ∷ types) all text rest e =
          let same : type_name ids type ≡ text = cc in
          subst Leads same (value_leads type (all type (found_contained (type ∷ types) 0 type refl)))

  with_code : (owner member : List ℕ) (method : Method) (code : Code) → IsMethod ids classes p owner member method → method.kind ≡ kinds.Code code → HasTexts method
  with_code owner member method code (IsMethod.defined {raw = raw} defined named static virtual kind) k = of_row raw.row method named
  with_code owner member method code (IsMethod.built_in missing listed name params result static virtual kind) k = absurd cc
  with_code owner member method code (IsMethod.outside missing unlisted all first refers named static virtual kind) k = absurd cc

  pub texts_of : (m : ℕ) (method : Method) (code : Code) → slice_get p.methods m ≡ Some method → method.kind ≡ kinds.Code code → HasTexts method
  texts_of m method code there k = let each = is.each_method m method there in with_code each.0 each.1 method code each.4 k

  -- ---- initialisers

  run_is : (o : Option Method) → is_run o ≡ true → (method : Method) × (o ≡ Some method) × (method.is_static ≡ true) × ((code : Code) × (method.kind ≡ kinds.Code code))
  unfolding is_run has_code
  run_is None e = absurd cc
  run_is (Some method) e = let two = both_true method.is_static (has_code method.kind) e in (method, refl, two.0, coded method.kind two.1)
    where
      coded : (k : MethodKind) → has_code k ≡ true → (code : Code) × (k ≡ kinds.Code code)
      coded (kinds.Code code) e = (code, refl)
      coded kinds.Abstract e = absurd cc
      coded kinds.Native e = absurd cc
      coded kinds.BuiltIn e = absurd cc
      coded kinds.Outside e = absurd cc

  kept : (b : Bool) (number k : ℕ) → cond b (Some number) None ≡ Some k → (b ≡ true) × (number ≡ k)
  kept true number k e = (refl, some_same number k e)
  kept false number k e = absurd cc

  after_some : (f : ℕ → Option ℕ) (o : Option ℕ) (y : ℕ) → option_and_then f o ≡ Some y → (x : ℕ) × (o ≡ Some x) × (f x ≡ Some y)
  after_some f None y e = absurd cc
  after_some f (Some x) y e = (x, refl, e)

  initialises : (class m : ℕ) (c : Class) → slice_get p.classes class ≡ Some c → c.initialiser ≡ Some m → Initialises p m
  unfolding static_with_code behind_open opens names_of
  initialises class m c there e =
      let N = whole_name c.name (codes "<clinit>()V") in
      let named = after_some (λ number. cond (is_run (slice_get p.methods number)) (Some number) None) (method_named N p) m (sym (is.each_class class c there).initialiser ∙ e) in
      let run = kept (is_run (slice_get p.methods named.0)) named.0 m named.2 in
      let found = run_is (slice_get p.methods named.0) run.0 in
      let at = position_is (λ (method : Method). bytes_eq (method_name p method) N) p.methods named.0 named.1 in
      let same : at.0 ≡ found.0 = some_same at.0 found.0 (sym at.1 ∙ found.1) in
      let name : method_name p found.0 ≡ N = ap (method_name p) (sym same) ∙ same_bytes (method_name p at.0) N at.2 in
      let number = numbered ids classes asked p fit sound is class c.name (mapped_found (λ (z : Class). z.name) p.classes class c there) in
      let member = member_of named.0 found.0 c.name (codes "<clinit>()V") class found.1 number name in
      let texts = texts_of named.0 found.0 found.3.0 found.1 found.3.1 in
      let behind = behind_name found.0 (codes "<clinit>()V") member.0 refl in
      record {
        method = found.0;
        code = found.3.0;
        there = ap (slice_get p.methods) (sym run.1) ∙ found.1;
        kind = found.3.1;
        static_one = found.2;
        params = no_params p found.0.params texts.texts (result_descriptor p found.0.result) texts.spelled (ap (begins_with 41) behind);
      }

  pub initialisers : (class m : ℕ) → initialiser_in (slice_get p.classes class) ≡ Some m → Initialises p m
  unfolding initialiser_in
  initialisers class m e = by (slice_get p.classes class) refl e
    where
      by : (o : Option Class) → slice_get p.classes class ≡ o → initialiser_in o ≡ Some m → Initialises p m
      by None there e = absurd cc
      by (Some c) there e = initialises class m c there e

  -- ---- the class of arrays of texts

  string_stands : BaseStands p (string_type p).base
  unfolding string_type number_of
  string_stands = let one = built p whole string_name string_in in (one.class, one.there, λ q. let k = one.kind in cc)

  texts_spelled : Spells (names_of p) (array_of (string_type p)) texts_name
  unfolding type_spelled texts_name string_name string_type number_of
  texts_spelled =
      let one = spells_class ids classes asked p fit sound is whole string_name string_in in
      record { spelled = ap (λ n. 91 ∷ n) one.spelled; based = one.based; few = omega arith }

  texts_descriptor : descriptor p (array_of (string_type p)) ≡ texts_name
  unfolding texts_name string_name string_type number_of
  texts_descriptor = let one = built p whole string_name string_in in ap (λ n. 91 ∷ n) (ap name_or_none one.there ∙ one.called)

  texts_are : type_of_class p (texts_class p) ≡ array_of (string_type p)
  unfolding texts_class texts_name is_array is_array_of
  texts_are =
      let place = in_names ids classes asked p fit sound is texts_name IsClassName.texts in
      let number = numbered ids classes asked p fit sound is place.0 texts_name place.1 in
      let at : texts_class p ≡ place.0 = ap (λ o. unwrap_or o 0) number in
      ap (type_of_class p) at ∙ (array_is ids classes asked p fit sound is whole (array_of (string_type p)) place.0 refl string_stands (ap (λ n. class_named n p) texts_descriptor ∙ number)).0

  -- ---- main

  has_main : (class : List ℕ) → IsMainClass ids classes asked class → HasMain ids classes class
  has_main class main = from asked class main
    where
      from : (o : Option (List ℕ)) (class : List ℕ) → IsMainClass ids classes o class → HasMain ids classes class
      from _ _ (IsMainClass.asked has) = has
      from _ _ (IsMainClass.first defines has others) = has

  -- the main class is one of the program
  main_numbered : (number : ℕ) × (class_named is.main_class p ≡ Some number)
  main_numbered =
      let has = has_main is.main_class is.main_is in
      let of = members_found ids classes is.main_class main_member has.0 has.1 in
      let row = (fit.classes of.1.number of.1.stated of.1.defined).class in
      let reference : names_reference (type_name ids of.1.stated.class) ≡ true = ap (λ b. b || begins_with 91 (type_name ids of.1.stated.class)) row.sorted in
      let place = in_names ids classes asked p fit sound is is.main_class (subst (IsClassName ids) of.1.named (IsClassName.listed row.there reference)) in
      (place.0, numbered ids classes asked p fit sound is place.0 is.main_class place.1)

  main_named : (method : Method) → slice_get p.methods p.main ≡ Some method → method_name p method ≡ whole_name is.main_class main_member → member_name p method ≡ main_member
  main_named method there e = (member_of p.main method is.main_class main_member main_numbered.0 there main_numbered.1 e).0

  pub main_fits : MainFits p
  unfolding behind_open opens main_member texts_name
  main_fits =
      let main = whole.main in
      let at = position_is (λ (method : Method). bytes_eq (method_name p method) (whole_name is.main_class main_member)) p.methods p.main is.main in
      let same : at.0 ≡ main.method = some_same at.0 main.method (sym at.1 ∙ main.there) in
      let name : method_name p main.method ≡ whole_name is.main_class main_member = ap (method_name p) (sym same) ∙ same_bytes (method_name p at.0) (whole_name is.main_class main_member) at.2 in
      let member = main_named main.method main.there name in
      let texts = texts_of p.main main.method main.code main.there main.kind in
      let behind = behind_name main.method main_member member refl in
      let leads : Leads texts_name = (let place = in_names ids classes asked p fit sound is texts_name IsClassName.texts in named_leads texts_name place.0 (numbered ids classes asked p fit sound is place.0 texts_name place.1)) in
      let one = one_param p texts_name main.method.params texts.texts (result_descriptor p main.method.result) (codes ")V") leads texts.leads refl refl texts.spelled behind refl in
      record {
        method = main.method;
        code = main.code;
        there = main.there;
        kind = main.kind;
        static_one = main.is_static;
        params = one.1 ∙ ap (λ t. t ∷ []) (spelled_once (names_of p) is.class_names.rise one.0 (array_of (string_type p)) texts_name one.2 texts_spelled);
        texts = texts_are;
      }

  -- ---- the standard output

  -- the only field of that name is the built-in one
  pub out_fits : OutFits p
  unfolding system_out_name system_name out_member out_name print_stream_name whole_name
  out_fits f field there named =
      let each = is.each_field f field there in
      let name : field_name p field ≡ system_out_name = same_bytes (field_name p field) system_out_name named in
      let whole_is : whole_name each.0 each.1 ≡ whole_name system_name out_member = sym each.3 ∙ name in
      let left = named_leads each.0 field.class each.2 in
      let system = built p whole system_name system_in in
      let right = named_leads system_name (number_of p system_name) system.named in
      let owner : each.0 ≡ system_name = same_class each.0 system_name each.1 out_member left right whole_is in
      let member : each.1 ≡ out_member = same_member each.0 system_name each.1 out_member left right whole_is in
      by each.0 each.1 field owner member each.4
    where
      by : (owner member : List ℕ) (field : Field) → owner ≡ system_name → member ≡ out_member → IsField ids classes p owner member field → field.ty ≡ class_type (number_of p print_stream_name)
      by owner member field o m (IsField.defined {raw = raw} defined named static) =
          let file = field_owner_kind ids classes asked p fit sound is whole owner member raw defined in
          let own = built_in_kind ids system_name system_in in
          let q = ap (kind_of_class ids) o in
          absurd (origins (sym file ∙ (q ∙ own)))
      by owner member field o m (IsField.out of_system of_out missing called spells static) = class_spelled ids classes asked p fit sound is whole print_stream_name field.ty stream_in spells
      by owner member field o m (IsField.outside other missing all first refers named static) = absurd (other m o)
