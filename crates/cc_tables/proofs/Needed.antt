-- What is named is among what is needed, and what is needed is named.
use Rattle.std.proofs.Common.{◌≡◌, inl, inr, ℕ, List, [], ◌∷◌, ◌++◌, sym, ap, subst}
use Rattle.std.specs.Prelude.{Contains}
use Rattle.std.specs.List.{flat_map}
use Rattle.std.proofs.lemmas.List.Elements.{Contains-append_left, Contains-append_right, Contains-append_cases}
use Rattle.cc_meaning.specs.declared.listing.RowName.{RowName}
use Rattle.cc_meaning.specs.declared.listing.RowName.TheVariants as row
use Rattle.cc_meaning_builder.specs.WellNamed.{IsPrototypeName}
use Rattle.cc_tables.specs.Rows.{IsSplit}
use Rattle.cc_tables.specs.declared.needs.NamedField.{NamedField}
use Rattle.cc_tables.specs.declared.needs.NamedMethod.{NamedMethod}
use Rattle.cc_tables.specs.declared.needs.Needs.{Needs}
use Rattle.cc_tables.specs.Needs.{AreNeeds, IsMethodNamed, classes_in, descriptors_of, field_texts, field_types, fields_in, method_texts, method_types, methods_in, short_of, texts_in, texts_of}
use Rattle.cc_tables.proofs.Among.{contains_cases, contains_first, contains_flat, contains_later, contains_none, contains_one, found_flat, left_of, right_of}

-- ---- which names say something

text_from : (name : RowName) (units : List ℕ) → Contains (texts_in name) units → name ≡ row.Text units
text_from (row.Text text) units here = ap row.Text (contains_one text units here)
text_from (row.Class class) units here = absurd (contains_none units here)
text_from (row.Field class name kind) units here = absurd (contains_none units here)
text_from (row.Method class name proto) units here = absurd (contains_none units here)

class_from : (name : RowName) (units : List ℕ) → Contains (classes_in name) units → name ≡ row.Class units
class_from (row.Text text) units here = absurd (contains_none units here)
class_from (row.Class class) units here = ap row.Class (contains_one class units here)
class_from (row.Field class name kind) units here = absurd (contains_none units here)
class_from (row.Method class name proto) units here = absurd (contains_none units here)

field_from : (name : RowName) (field : NamedField) → Contains (fields_in name) field → name ≡ row.Field field.class field.name field.kind
field_from (row.Text text) field here = absurd (contains_none field here)
field_from (row.Class class) field here = absurd (contains_none field here)
field_from (row.Field class name kind) field here =
    let same = contains_one (record { class = class; name = name; kind = kind }) field here in
    ap (λ (f : NamedField). row.Field f.class f.name f.kind) same
field_from (row.Method class name proto) field here = absurd (contains_none field here)

method_from : (name other : RowName) → Contains (methods_in name) other → name ≡ other
method_from (row.Text text) other here = absurd (contains_none other here)
method_from (row.Class class) other here = absurd (contains_none other here)
method_from (row.Field class name kind) other here = absurd (contains_none other here)
method_from (row.Method class name proto) other here = contains_one (row.Method class name proto) other here

-- the name of a method that is needed
pub record MethodName (names : List RowName) (method : NamedMethod) : Type 0 where
  pub proto : List ℕ
  pub listed : Contains names (row.Method method.class method.name proto)
  pub split : IsPrototypeName proto → IsSplit proto method.params method.result

name_of_method : (names : List RowName) (name : RowName) (method : NamedMethod) → Contains names name → IsMethodNamed name method → MethodName names method
name_of_method names (row.Text text) method here is = absurd is
name_of_method names (row.Class class) method here is = absurd is
name_of_method names (row.Field class name kind) method here is = absurd is
name_of_method names (row.Method class name proto) method here (classed, named, split) = record {
  proto = proto;
  listed = subst (λ c. Contains names (row.Method c method.name proto)) (sym classed) (subst (λ n. Contains names (row.Method class n proto)) (sym named) here);
  split = split;
}

-- a type that is needed, by its descriptor
pub data NeedsDescriptor (needs : Needs) : List ℕ → Type 0 where
  class : {name : List ℕ} → Contains needs.classes name → NeedsDescriptor needs name
  field_class : {field : NamedField} → Contains needs.fields field → NeedsDescriptor needs field.class
  field_kind : {field : NamedField} → Contains needs.fields field → NeedsDescriptor needs field.kind
  method_class : {method : NamedMethod} → Contains needs.methods method → NeedsDescriptor needs method.class
  result : {method : NamedMethod} → Contains needs.methods method → NeedsDescriptor needs method.result
  param : {method : NamedMethod} {name : List ℕ} → Contains needs.methods method → Contains method.params name → NeedsDescriptor needs name

-- a text that is needed
pub data NeedsUnits (needs : Needs) : List ℕ → Type 0 where
  text : {units : List ℕ} → Contains needs.texts units → NeedsUnits needs units
  descriptor : {units : List ℕ} → Contains (descriptors_of needs) units → NeedsUnits needs units
  field_name : {field : NamedField} → Contains needs.fields field → NeedsUnits needs field.name
  method_name : {method : NamedMethod} → Contains needs.methods method → NeedsUnits needs method.name
  short : {method : NamedMethod} → Contains needs.methods method → NeedsUnits needs (short_of method)

module _ (needs : Needs) where
  field_descriptor : (field : NamedField) (name : List ℕ) → Contains needs.fields field → Contains (field_types field) name → NeedsDescriptor needs name
  field_descriptor field name among here = elim (contains_cases field.class (field.kind ∷ []) name here) [
    | inl same ↦ subst (NeedsDescriptor needs) same (field_class among)
    | inr later ↦ subst (NeedsDescriptor needs) (contains_one field.kind name later) (field_kind among)
  ]

  method_descriptor : (method : NamedMethod) (name : List ℕ) → Contains needs.methods method → Contains (method_types method) name → NeedsDescriptor needs name
  method_descriptor method name among here = elim (contains_cases method.class (method.result ∷ method.params) name here) [
    | inl same ↦ subst (NeedsDescriptor needs) same (method_class among)
    | inr later ↦ elim (contains_cases method.result method.params name later) [
      | inl same ↦ subst (NeedsDescriptor needs) same (result among)
      | inr behind ↦ param among behind
    ]
  ]

  pub descriptor_needed : (name : List ℕ) → Contains (descriptors_of needs) name → NeedsDescriptor needs name
  descriptor_needed name here =
      let fields = flat_map field_types needs.fields in
      let methods = flat_map method_types needs.methods in
      elim (Contains-append_cases needs.classes (fields ++ methods) name here) [
        | inl listed ↦ class listed
        | inr other ↦ elim (Contains-append_cases fields methods name other) [
          | inl first ↦ let found = found_flat field_types needs.fields name first in field_descriptor found.0 name found.1 found.2
          | inr second ↦ let found = found_flat method_types needs.methods name second in method_descriptor found.0 name found.1 found.2
        ]
      ]

  of_field : (field : NamedField) (name : List ℕ) → Contains needs.fields field → Contains (field_types field) name → Contains (descriptors_of needs) name
  of_field field name among here =
      let fields = flat_map field_types needs.fields in
      let methods = flat_map method_types needs.methods in
      Contains-append_right needs.classes (fields ++ methods) name (Contains-append_left fields methods name (contains_flat field_types needs.fields field name among here))

  of_method : (method : NamedMethod) (name : List ℕ) → Contains needs.methods method → Contains (method_types method) name → Contains (descriptors_of needs) name
  of_method method name among here =
      let fields = flat_map field_types needs.fields in
      let methods = flat_map method_types needs.methods in
      Contains-append_right needs.classes (fields ++ methods) name (Contains-append_right fields methods name (contains_flat method_types needs.methods method name among here))

  pub needs_descriptor : (name : List ℕ) → NeedsDescriptor needs name → Contains (descriptors_of needs) name
  needs_descriptor name (class listed) = Contains-append_left needs.classes (flat_map field_types needs.fields ++ flat_map method_types needs.methods) name listed
  needs_descriptor name (field_class {field} among) = of_field field field.class among (contains_first field.class (field.kind ∷ []))
  needs_descriptor name (field_kind {field} among) = of_field field field.kind among (contains_later field.class (field.kind ∷ []) field.kind (contains_first field.kind []))
  needs_descriptor name (method_class {method} among) = of_method method method.class among (contains_first method.class (method.result ∷ method.params))
  needs_descriptor name (result {method} among) =
      of_method method method.result among (contains_later method.class (method.result ∷ method.params) method.result (contains_first method.result method.params))
  needs_descriptor name (param {method} among here) =
      of_method method name among (contains_later method.class (method.result ∷ method.params) name (contains_later method.result method.params name here))

  field_parts : (field : NamedField) (units : List ℕ) → Contains needs.fields field → Contains (field_texts field) units → NeedsUnits needs units
  field_parts field units among here = subst (NeedsUnits needs) (contains_one field.name units here) (field_name among)

  method_parts : (method : NamedMethod) (units : List ℕ) → Contains needs.methods method → Contains (method_texts method) units → NeedsUnits needs units
  method_parts method units among here = elim (contains_cases method.name (short_of method ∷ []) units here) [
    | inl same ↦ subst (NeedsUnits needs) same (method_name among)
    | inr later ↦ subst (NeedsUnits needs) (contains_one (short_of method) units later) (short among)
  ]

  pub text_needed : (units : List ℕ) → Contains (texts_of needs) units → NeedsUnits needs units
  text_needed units here =
      let fields = flat_map field_texts needs.fields in
      let methods = flat_map method_texts needs.methods in
      elim (Contains-append_cases needs.texts (descriptors_of needs ++ (fields ++ methods)) units here) [
        | inl listed ↦ text listed
        | inr other ↦ elim (Contains-append_cases (descriptors_of needs) (fields ++ methods) units other) [
          | inl first ↦ descriptor first
          | inr rest ↦ elim (Contains-append_cases fields methods units rest) [
            | inl second ↦ let found = found_flat field_texts needs.fields units second in field_parts found.0 units found.1 found.2
            | inr third ↦ let found = found_flat method_texts needs.methods units third in method_parts found.0 units found.1 found.2
          ]
        ]
      ]

  of_members : (units : List ℕ) → Contains (flat_map field_texts needs.fields ++ flat_map method_texts needs.methods) units → Contains (texts_of needs) units
  of_members units here =
      let members = flat_map field_texts needs.fields ++ flat_map method_texts needs.methods in
      Contains-append_right needs.texts (descriptors_of needs ++ members) units (Contains-append_right (descriptors_of needs) members units here)

  method_text : (method : NamedMethod) (units : List ℕ) → Contains needs.methods method → Contains (method_texts method) units → Contains (texts_of needs) units
  method_text method units among here =
      of_members units (Contains-append_right (flat_map field_texts needs.fields) (flat_map method_texts needs.methods) units (contains_flat method_texts needs.methods method units among here))

  pub needs_text : (units : List ℕ) → NeedsUnits needs units → Contains (texts_of needs) units
  needs_text units (text listed) = Contains-append_left needs.texts (descriptors_of needs ++ (flat_map field_texts needs.fields ++ flat_map method_texts needs.methods)) units listed
  needs_text units (descriptor here) =
      let members = flat_map field_texts needs.fields ++ flat_map method_texts needs.methods in
      Contains-append_right needs.texts (descriptors_of needs ++ members) units (Contains-append_left (descriptors_of needs) members units here)
  needs_text units (field_name {field} among) =
      of_members field.name (Contains-append_left (flat_map field_texts needs.fields) (flat_map method_texts needs.methods) field.name
      (contains_flat field_texts needs.fields field field.name among (contains_first field.name [])))
  needs_text units (method_name {method} among) = method_text method method.name among (contains_first method.name (short_of method ∷ []))
  needs_text units (short {method} among) = method_text method (short_of method) among (contains_later method.name (short_of method ∷ []) (short_of method) (contains_first (short_of method) []))

module _ (names : List RowName) (needs : Needs) (are : AreNeeds names needs) where
  pub text_named : (units : List ℕ) → Contains needs.texts units → Contains names (row.Text units)
  text_named units here =
      let found = found_flat texts_in names units (subst (λ all. Contains all units) are.texts here) in
      subst (Contains names) (text_from found.0 units found.2) found.1

  pub class_named : (units : List ℕ) → Contains needs.classes units → Contains names (row.Class units)
  class_named units here =
      let found = found_flat classes_in names units (subst (λ all. Contains all units) are.classes here) in
      subst (Contains names) (class_from found.0 units found.2) found.1

  pub field_named : (field : NamedField) → Contains needs.fields field → Contains names (row.Field field.class field.name field.kind)
  field_named field here =
      let found = found_flat fields_in names field (subst (λ all. Contains all field) are.fields here) in
      subst (Contains names) (field_from found.0 field found.2) found.1

  pub method_named : (method : NamedMethod) → Contains needs.methods method → MethodName names method
  method_named method here =
      let found = left_of IsMethodNamed (flat_map methods_in names) needs.methods method are.methods here in
      let listed = found_flat methods_in names found.0 found.1 in
      name_of_method names found.0 method (subst (Contains names) (method_from listed.0 found.0 listed.2) listed.1) found.2

  pub named_text : (units : List ℕ) → Contains names (row.Text units) → Contains needs.texts units
  named_text units here = subst (λ all. Contains all units) (sym are.texts) (contains_flat texts_in names (row.Text units) units here (contains_first units []))

  pub named_class : (units : List ℕ) → Contains names (row.Class units) → Contains needs.classes units
  named_class units here = subst (λ all. Contains all units) (sym are.classes) (contains_flat classes_in names (row.Class units) units here (contains_first units []))

  pub named_field : (owner name kind : List ℕ) → Contains names (row.Field owner name kind) → Contains needs.fields (record { class = owner; name = name; kind = kind })
  named_field owner name kind here =
      let field : NamedField = record { class = owner; name = name; kind = kind } in
      subst (λ (all : List NamedField). Contains all field) (sym are.fields) (contains_flat fields_in names (row.Field owner name kind) field here (contains_first field []))

  pub named_method : (owner name proto : List ℕ) → Contains names (row.Method owner name proto) → (method : NamedMethod) × Contains needs.methods method × IsMethodNamed (row.Method owner name proto) method
  named_method owner name proto here =
      let wanted = row.Method owner name proto in
      right_of IsMethodNamed (flat_map methods_in names) needs.methods wanted are.methods (contains_flat methods_in names wanted wanted here (contains_first wanted []))
