-- Tables whose rows fit have no fault where a sound header states them.
use Rattle.std.proofs.Common.{◌≡◌, ◌⊎◌, inl, inr, ℕ, zero, suc, ◌<◌, ◌≤◌, Bool, List, [], ◌∷◌, ◌++◌, length, get_or, Option, Some, None, slice_get, unwrap_or, refl, sym, ap, subst, ◌∙◌, arith}
use Rattle.std.specs.Prelude.{Contains, option_and_then}
use Rattle.std.proofs.lemmas.Option.{slice_get_within, slice_get_cases, get_or_from_slice_get}
use Rattle.cc_meaning.specs.declared.file.ClassRow.{ClassRow}
use Rattle.cc_meaning.specs.declared.file.FieldRow.{FieldRow}
use Rattle.cc_meaning.specs.declared.file.Ids.{Ids}
use Rattle.cc_meaning.specs.declared.file.MethodRow.{MethodRow}
use Rattle.cc_meaning.specs.declared.file.ProtoRow.{ProtoRow}
use Rattle.cc_meaning_dex.specs.declared.table.Table.{Table}
use Rattle.cc_meaning_dex.specs.declared.table.Table.TheVariants.{Texts, Types, Prototypes, Fields, Methods, Classes}
use Rattle.cc_meaning_dex.specs.Descriptors.{dimensions, names_class, names_reference, names_value, IsDescriptor, IsPaired, IsValue}
use Rattle.cc_meaning_dex.specs.Faults.{type_text, params_at, interfaces_at, no_row}
use Rattle.cc_meaning_dex.specs.Ids.{ListsTypes, PrototypeSpelled, FieldSpelled, MethodSpelled, ClassSpelled, RowStated, TablesSpelled, TextSpelled}
use Rattle.cc_meaning_dex.specs.RowForms as forms
use Rattle.cc_meaning_dex.specs.Tables.{IsRow}
use Rattle.cc_meaning_program.specs.Named.{text_of, type_name}
use Rattle.cc_meaning_program.specs.Rows.{IsTypeRow, PrototypeFits, FieldFits, MethodFits, ClassFits, FitTables}
use Rattle.cc_meaning_builder.specs.Laws.{NamesArePaired, WrittenTables}

-- what is at a place of a list
there : {A : Type 0} (items : List A) (row : ℕ) → row < length items → (item : A) × (slice_get items row ≡ Some item)
there {A = A} items row within = from (slice_get_cases items row).1
  where
    from : ((item : A) × (row < length items) × (slice_get items row ≡ Some item) × (get_or items row item ≡ item)) ⊎ ((length items ≤ row) × (slice_get items row ≡ None)) → (item : A) × (slice_get items row ≡ Some item)
    from (inl (item, inside, is, same)) = (item, is)
    from (inr (past, none)) = absurd (omega (arith, within, past))

contained : {A : Type 0} (items : List A) (item : A) (place : ℕ) → slice_get items place ≡ Some item → Contains items item
contained items item place is = (place, slice_get_within items place item is, get_or_from_slice_get items place item item is)

-- no descriptor is empty
not_empty : IsDescriptor [] → ⊥
not_empty (inl is) = absurd cc
not_empty (inr value) = from value.dims value.base value.form value.value
  where
    from : (dims : ℕ) (base : List ℕ) → [] ≡ dimensions dims ++ base → IsValue base → ⊥
    from zero base is (inl (u, primitive, one)) = let both : [] ≡ u ∷ [] = is ∙ one in absurd cc
    from zero base is (inr class) = let both : [] ≡ 76 ∷ class.name ++ 59 ∷ [] = is ∙ class.form in absurd cc
    from (suc dims) base is value = absurd cc

module _ (file : List ℕ) (ids : Ids) (fits : FitTables ids) (spelled : TablesSpelled file ids) where
  text_row : (row : ℕ) → row < length ids.texts → forms.TextAt file row (text_of ids row)
  unfolding text_of
  text_row row within =
      let (units, is) = there ids.texts row within in
      let same : units ≡ text_of ids row = sym (ap (λ found. unwrap_or found []) is) in
      record {
        there = subst (λ n. row < n) spelled.texts.all within;
        spelled = subst (TextSpelled file row) same (spelled.texts.each row units is);
      }

  -- the text of a row of types, where that row has a descriptor
  named_text : (row text : ℕ) → slice_get ids.types row ≡ Some text → IsDescriptor (type_name ids row) → forms.TextAt file text (type_name ids row)
  unfolding text_of type_name
  named_text row text is described = from (slice_get_cases ids.texts text).1
    where
      same : type_name ids row ≡ text_of ids text
      same = ap (λ stated. unwrap_or (option_and_then (slice_get ids.texts) stated) []) is

      from : ((item : List ℕ) × (text < length ids.texts) × (slice_get ids.texts text ≡ Some item) × (get_or ids.texts text item ≡ item)) ⊎ ((length ids.texts ≤ text) × (slice_get ids.texts text ≡ None)) → forms.TextAt file text (type_name ids row)
      from (inl (item, inside, found, at)) = subst (forms.TextAt file text) (sym same) (text_row text inside)
      from (inr (past, none)) = absurd (not_empty (subst IsDescriptor (same ∙ ap (λ found. unwrap_or found []) none) described))

  type_text_row : (row : ℕ) → row < length ids.types → forms.TextAt file (type_text file row) (type_name ids row)
  type_text_row row within =
      let (text, is) = there ids.types row within in
      subst (λ stated. forms.TextAt file stated (type_name ids row)) (spelled.types.each row text is) (named_text row text is (fits.types row within))

  type_there : (row : ℕ) → row < length ids.types → IsRow file Types row
  type_there row within = subst (λ n. row < n) spelled.types.all within

  type_of : (sort : List ℕ → Bool) (row : ℕ) → IsTypeRow sort ids row → forms.TypeOf sort file row
  type_of sort row type = record { there = type_there row type.there; units = type_name ids row; descriptor = type_text_row row type.there; sorted = type.sorted }

  -- the types that are listed at an offset
  types_of : (sort : List ℕ → Bool) (at : ℕ) (rows : List ℕ) → ListsTypes file at rows → ((type : ℕ) → Contains rows type → IsTypeRow sort ids type) → forms.TypesOf sort file at
  types_of sort at rows listed each = record { types = rows; listed = listed; each = λ place type is. type_of sort type (each type (contained rows type place is)) }

  name_at : (row : ℕ) → row < length ids.texts → IsPaired (text_of ids row) → forms.NameAt file row
  name_at row within paired = record { units = text_of ids row; text = text_row row within; paired = paired }

  type_fits : (row : ℕ) → row < length ids.types → forms.TypeFits file row
  type_fits row within = record { units = type_name ids row; text = type_text_row row within; descriptor = fits.types row within }

  prototype_fits : (row : ℕ) (prototype : ProtoRow) → PrototypeSpelled file row prototype → PrototypeFits ids prototype → forms.PrototypeFits file row
  prototype_fits row prototype stated fit = record {
    result = subst (IsRow file Types) stated.result (type_there prototype.result fit.result);
    params = types_of names_value (params_at file row) prototype.params stated.params fit.params;
  }

  field_fits : (row : ℕ) (field : FieldRow) → FieldSpelled file row field → FieldFits ids field → IsPaired (text_of ids field.name) → forms.FieldFits file row
  field_fits row field stated fit paired = record {
    class = subst (forms.TypeOf names_reference file) stated.class (type_of names_reference field.class fit.class);
    kind = subst (forms.TypeOf names_value file) stated.kind (type_of names_value field.kind fit.kind);
    name = subst (forms.NameAt file) stated.name (name_at field.name fit.name paired);
  }

  method_fits : (row : ℕ) (method : MethodRow) → MethodSpelled file row method → MethodFits ids method → IsPaired (text_of ids method.name) → forms.MethodFits file row
  method_fits row method stated fit paired = record {
    class = subst (forms.TypeOf names_reference file) stated.class (type_of names_reference method.class fit.class);
    prototype = subst (IsRow file Prototypes) stated.proto (subst (λ n. method.proto < n) spelled.protos.all fit.proto);
    name = subst (forms.NameAt file) stated.name (name_at method.name fit.name paired);
  }

  superclass_fits : (superclass : Option ℕ) (at : ℕ) → RowStated superclass at → ((type : ℕ) → superclass ≡ Some type → IsTypeRow names_reference ids type) → (at ≡ no_row) ⊎ forms.TypeOf names_reference file at
  superclass_fits None at stated each = inl stated
  superclass_fits (Some row) at (apart, same) each = inr (subst (forms.TypeOf names_reference file) same (type_of names_reference row (each row refl)))

  class_fits : (row : ℕ) (class : ClassRow) → ClassSpelled file row class → ClassFits ids class → forms.ClassFits file row
  class_fits row class stated fit = record {
    class = subst (forms.TypeOf names_class file) stated.class (type_of names_class class.class fit.class);
    superclass = superclass_fits class.superclass _ stated.superclass fit.superclass;
    interfaces = types_of names_reference (interfaces_at file row) class.interfaces stated.interfaces fit.interfaces;
  }

  rows_fit : NamesArePaired ids → (table : Table) (row : ℕ) → IsRow file table row → forms.RowFits file table row
  rows_fit paired Texts row within = let (units, is) = there ids.texts row (subst (λ n. row < n) (sym spelled.texts.all) within) in (units, spelled.texts.each row units is)
  rows_fit paired Types row within = type_fits row (subst (λ n. row < n) (sym spelled.types.all) within)
  rows_fit paired Prototypes row within =
      let (prototype, is) = there ids.protos row (subst (λ n. row < n) (sym spelled.protos.all) within) in
      prototype_fits row prototype (spelled.protos.each row prototype is) (fits.protos row prototype is)
  rows_fit paired Fields row within =
      let (field, is) = there ids.fields row (subst (λ n. row < n) (sym spelled.fields.all) within) in
      field_fits row field (spelled.fields.each row field is) (fits.fields row field is) (paired.of_fields row field is)
  rows_fit paired Methods row within =
      let (method, is) = there ids.methods row (subst (λ n. row < n) (sym spelled.methods.all) within) in
      method_fits row method (spelled.methods.each row method is) (fits.methods row method is) (paired.of_methods row method is)
  rows_fit paired Classes row within =
      let (class, is) = there ids.classes row (subst (λ n. row < n) (sym spelled.classes.all) within) in
      class_fits row class (spelled.classes.each row class is) (fits.classes row class is)

pub written_tables : forms.WellFormedFiles → WrittenTables
written_tables well_formed file ids fits paired header tables spelled = record {
  sound = (well_formed file).1 (record { header = header; tables = tables; rows = rows_fit file ids fits spelled paired });
  tables = spelled;
}
