-- The rows of the tables that a file spells name what is there.
use Rattle.std.proofs.Common.{◌≡◌, ◌⊎◌, inl, inr, ℕ, ◌<◌, Bool, List, [], length, get_or, ◌≤◌, Option, Some, None, slice_get, unwrap_or, refl, sym, ap, subst, ◌∙◌, arith}
use Rattle.std.specs.Prelude.{Contains, option_and_then}
use Rattle.std.proofs.lemmas.Option.{slice_get_within, slice_get_cases, slice_get_read}
use Rattle.cc_meaning.specs.declared.file.ClassRow.{ClassRow}
use Rattle.cc_meaning.specs.declared.file.FieldRow.{FieldRow}
use Rattle.cc_meaning.specs.declared.file.Ids.{Ids}
use Rattle.cc_meaning.specs.declared.file.MethodRow.{MethodRow}
use Rattle.cc_meaning.specs.declared.file.ProtoRow.{ProtoRow}
use Rattle.cc_meaning_dex.specs.declared.table.Table.TheVariants.{Texts, Types, Prototypes, Fields, Methods, Classes}
use Rattle.cc_meaning_dex.specs.Descriptors.{names_class, names_reference, names_value, IsDescriptor}
use Rattle.cc_meaning_dex.specs.Faults.{type_text, params_at, interfaces_at, no_row}
use Rattle.cc_meaning_dex.specs.Ids.{SpellsIds, ListsTypes, PrototypeSpelled, FieldSpelled, MethodSpelled, ClassSpelled, RowStated}
use Rattle.cc_meaning_dex.specs.TextLaws.{OneText}
use Rattle.cc_meaning_dex.specs.RowForms as forms
use Rattle.cc_meaning_dex.specs.Tables.{IsRow}
use Rattle.cc_meaning_program.specs.Named.{type_name}
use Rattle.cc_meaning_program.specs.Rows.{IsTypeRow, PrototypeFits, FieldFits, MethodFits, ClassFits, FitTables, SpelledTablesFit}

-- what is said of each row that is there has a row
there : {A : Type 0} (items : List A) (row : ℕ) → row < length items → (item : A) × (slice_get items row ≡ Some item)
there {A = A} items row within = from (slice_get_cases items row).1
  where
    from : ((item : A) × (row < length items) × (slice_get items row ≡ Some item) × (get_or items row item ≡ item)) ⊎ ((length items ≤ row) × (slice_get items row ≡ None)) → (item : A) × (slice_get items row ≡ Some item)
    from (inl (item, inside, is, same)) = (item, is)
    from (inr (past, none)) = absurd (omega (arith, within, past))

contained : {A : Type 0} (items : List A) (item : A) → Contains items item → (place : ℕ) × (slice_get items place ≡ Some item)
contained items item (place, within, is) = (place, slice_get_read items (length items) place item refl within (sym is))

module _ (file : List ℕ) (ids : Ids) (one_text : OneText) (lists : forms.TypesListed) (spelled : SpellsIds file ids) where
  text_there : (row : ℕ) (units : List ℕ) → forms.TextAt file row units → slice_get ids.texts row ≡ Some units
  text_there row units text =
      let (found, is) = there ids.texts row (subst (λ n. row < n) (sym spelled.tables.texts.all) text.there) in
      let same : found ≡ units = one_text file _ found units (spelled.tables.texts.each row found is) text.spelled in
      is ∙ ap Some same

  text_within : (row : ℕ) → IsRow file Texts row → row < length ids.texts
  text_within row is = subst (λ n. row < n) (sym spelled.tables.texts.all) is

  proto_within : (row : ℕ) → IsRow file Prototypes row → row < length ids.protos
  proto_within row is = subst (λ n. row < n) (sym spelled.tables.protos.all) is

  type_within : (row : ℕ) → IsRow file Types row → row < length ids.types
  type_within row is = subst (λ n. row < n) (sym spelled.tables.types.all) is

  type_named : (row : ℕ) (units : List ℕ) → IsRow file Types row → forms.TextAt file (type_text file row) units → type_name ids row ≡ units
  unfolding type_name
  type_named row units within text =
      let (found, is) = there ids.types row (type_within row within) in
      let same : found ≡ type_text file row = spelled.tables.types.each row found is in
      ap (λ stated. unwrap_or (option_and_then (slice_get ids.texts) stated) []) (is ∙ ap Some same)
      ∙ ap (λ name. unwrap_or name []) (text_there (type_text file row) units text)

  type_row : (sort : List ℕ → Bool) (row : ℕ) → forms.TypeOf sort file row → IsTypeRow sort ids row
  type_row sort row type = record {
    there = type_within row type.there;
    sorted = ap sort (type_named row type.units type.there type.descriptor) ∙ type.sorted;
  }

  -- what is listed at an offset is one list, of types of a sort
  types_row : (sort : List ℕ → Bool) (at : ℕ) (rows : List ℕ) → ListsTypes file at rows → forms.TypesOf sort file at → (type : ℕ) → Contains rows type → IsTypeRow sort ids type
  types_row sort at rows listed types type named =
      let same : rows ≡ types.types = ((lists file at rows).1 listed).1 ∙ sym ((lists file at types.types).1 types.listed).1 in
      let (place, is) = contained rows type named in
      type_row sort type (types.each place type (subst (λ all. slice_get all place ≡ Some type) same is))

  prototype_fits : (row : ℕ) (prototype : ProtoRow) → PrototypeSpelled file row prototype → forms.PrototypeFits file row → PrototypeFits ids prototype
  prototype_fits row prototype stated fits = record {
    result = subst (λ type. type < length ids.types) (sym stated.result) (type_within _ fits.result);
    params = types_row names_value (params_at file row) prototype.params stated.params fits.params;
  }

  field_fits : (row : ℕ) (field : FieldRow) → FieldSpelled file row field → forms.FieldFits file row → FieldFits ids field
  field_fits row field stated fits = record {
    class = subst (IsTypeRow names_reference ids) (sym stated.class) (type_row names_reference _ fits.class);
    kind = subst (IsTypeRow names_value ids) (sym stated.kind) (type_row names_value _ fits.kind);
    name = subst (λ text. text < length ids.texts) (sym stated.name) (text_within _ fits.name.text.there);
  }

  method_fits : (row : ℕ) (method : MethodRow) → MethodSpelled file row method → forms.MethodFits file row → MethodFits ids method
  method_fits row method stated fits = record {
    class = subst (IsTypeRow names_reference ids) (sym stated.class) (type_row names_reference _ fits.class);
    proto = subst (λ proto. proto < length ids.protos) (sym stated.proto) (proto_within _ fits.prototype);
    name = subst (λ text. text < length ids.texts) (sym stated.name) (text_within _ fits.name.text.there);
  }

  superclass_fits : (at : ℕ) (superclass : Option ℕ) → RowStated superclass at → (at ≡ no_row) ⊎ forms.TypeOf names_reference file at → (type : ℕ) → superclass ≡ Some type → IsTypeRow names_reference ids type
  superclass_fits at None stated fits type is = absurd cc
  superclass_fits at (Some row) (apart, same) (inl none) type is = absurd (apart none)
  superclass_fits at (Some row) (apart, same) (inr fits) type is =
      let e : at ≡ type = cc in
      subst (IsTypeRow names_reference ids) e (type_row names_reference at fits)

  class_fits : (row : ℕ) (class : ClassRow) → ClassSpelled file row class → forms.ClassFits file row → ClassFits ids class
  class_fits row class stated fits = record {
    class = subst (IsTypeRow names_class ids) (sym stated.class) (type_row names_class _ fits.class);
    superclass = superclass_fits _ class.superclass stated.superclass fits.superclass;
    interfaces = types_row names_reference (interfaces_at file row) class.interfaces stated.interfaces fits.interfaces;
  }

  tables_fit : forms.IsWellFormed file → FitTables ids
  tables_fit well = record {
    types = λ row within.
        let is : IsRow file Types row = subst (λ n. row < n) spelled.tables.types.all within in
        let fits = well.rows Types row is in
        subst IsDescriptor (sym (type_named row fits.units is fits.text)) fits.descriptor;
    protos = λ row prototype is. prototype_fits row prototype (spelled.tables.protos.each row prototype is) (well.rows Prototypes row (subst (λ n. row < n) spelled.tables.protos.all (slice_get_within ids.protos row prototype is)));
    fields = λ row field is. field_fits row field (spelled.tables.fields.each row field is) (well.rows Fields row (subst (λ n. row < n) spelled.tables.fields.all (slice_get_within ids.fields row field is)));
    methods = λ row method is. method_fits row method (spelled.tables.methods.each row method is) (well.rows Methods row (subst (λ n. row < n) spelled.tables.methods.all (slice_get_within ids.methods row method is)));
    classes = λ row class is. class_fits row class (spelled.tables.classes.each row class is) (well.rows Classes row (subst (λ n. row < n) spelled.tables.classes.all (slice_get_within ids.classes row class is)));
  }

pub spelled_tables_fit : OneText → forms.WellFormedFiles → forms.TypesListed → SpelledTablesFit
spelled_tables_fit one_text well_formed lists file ids spelled = tables_fit file ids one_text lists spelled ((well_formed file).0 spelled.sound)
