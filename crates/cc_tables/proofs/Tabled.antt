-- Tables that are made of what well-formed names need are the tables of it.
use Rattle.std.proofs.Common.{◌≡◌, ◌⊎◌, inl, inr, ℕ, zero, suc, ◌<◌, Bool, true, false, List, [], ◌∷◌, ◌++◌, length, map, get_or, Option, Some, None, slice_get, refl, sym, ap, subst, ◌∙◌, append_assoc, eqb, eqb-true}
use Rattle.std.specs.Prelude.{Contains, IsTrue, option_map}
use Rattle.std.specs.List.{flat_map}
use Rattle.std.specs.Ordering.{MatchOrdering, nat_cmp, ordering_then}
use Rattle.std.specs.declared.cmp.Ordering.{Ordering}
use Rattle.std.specs.declared.cmp.Ordering.TheVariants.{Less, Equal, Greater}
use Rattle.std.proofs.lemmas.Cmp.{ranked}
use Rattle.std.proofs.lemmas.List.{map-id}
use Rattle.std.proofs.lemmas.List.Elements.{Contains-get_or, Contains-append_left, Contains-append_right, All-contains}
use Rattle.std.proofs.lemmas.Option.{slice_get-get_or, slice_get_within, get_or_from_slice_get}
use Rattle.cc_meaning.specs.declared.file.FieldRow.{FieldRow}
use Rattle.cc_meaning.specs.declared.file.Ids.{Ids}
use Rattle.cc_meaning.specs.declared.file.MethodRow.{MethodRow}
use Rattle.cc_meaning.specs.declared.file.ProtoRow.{ProtoRow}
use Rattle.cc_meaning.specs.declared.listing.RowName.{RowName}
use Rattle.cc_meaning.specs.declared.listing.RowName.TheVariants as row
use Rattle.cc_meaning.specs.Order.{IsBefore}
use Rattle.cc_meaning_dex.specs.Descriptors.{IsClassDescriptor, IsDescriptor, IsValueDescriptor, dimensions, is_primitive, names_class, names_reference, names_value}
use Rattle.cc_meaning_dex.specs.Classes.{EachPair}
use Rattle.cc_meaning_program.specs.Named.{prototype_of, text_of, type_name}
use Rattle.cc_meaning_program.specs.Rows.{ClassFits, FieldFits, FitTables, IsTypeRow, MethodFits, PrototypeFits}
use Rattle.cc_meaning_builder.specs.declared.content.ListedClass.{ListedClass}
use Rattle.cc_meaning_builder.specs.Named.{Means, all_names, class_names, listed_names}
use Rattle.cc_meaning_builder.specs.Tables.{AreNeeded, AreOrdered, AreTables, IsClassRow, NeedsField, NeedsMethod, NeedsPrototype, NeedsText, NeedsType, short_form, short_letter}
use Rattle.cc_meaning_builder.specs.Tables as needed
use Rattle.cc_meaning_builder.specs.WellNamed.{ClassIsNamed, IsReferenceName, IsWellNamed, WellNamed}
use Rattle.cc_names.proofs.Ordered.{contains_mapped, mapped_from}
use Rattle.cc_tables.specs.Rows.{IsSplit}
use Rattle.cc_tables.specs.declared.needs.NamedField.{NamedField}
use Rattle.cc_tables.specs.declared.needs.NamedMethod.{NamedMethod}
use Rattle.cc_tables.specs.declared.needs.Needs.{Needs}
use Rattle.cc_tables.specs.Made.{AreMade}
use Rattle.cc_tables.specs.Needs.{AreNeeds, short_of}
use Rattle.cc_tables.specs.Places.{alone, class_row_of, field_row_of, method_row_of, proto_place, proto_row_of, text_place, type_place}
use Rattle.cc_tables.proofs.Among.{contains_first, contains_flat, contains_later}
use Rattle.cc_tables.proofs.Needed.{NeedsDescriptor, NeedsUnits, class, class_named, descriptor, descriptor_needed, field_class, field_kind, field_name, field_named, method_class, method_name, method_named, named_class, named_field, named_method, named_text, needs_descriptor, needs_text, param, result, short, text, text_named, text_needed}
use Rattle.cc_tables.proofs.Placed.{IsTypeAt, field_from_row, field_there, method_from_row, method_there, proto_at, proto_from, proto_row_from, proto_there, proto_within, text_at, text_is, type_at, type_from}
use Rattle.cc_tables.proofs.Placing.{keys_rise, never_before}

-- ---- lists

contains_at : {A : Type 0} (xs : List A) (place : ℕ) (x : A) → slice_get xs place ≡ Some x → Contains xs x
contains_at xs place x there = (place, slice_get_within xs place x there, get_or_from_slice_get xs place x x there)

found_at : {A : Type 0} (xs : List A) (x : A) → Contains xs x → (place : ℕ) × (slice_get xs place ≡ Some x)
found_at xs x (place, within, is) = (place, slice_get-get_or xs place x within ∙ ap Some is)

-- what is mapped there and back is as it was
map_back : {A B C : Type 0} (there : A → B) (back : B → C) (whole : A → C) (xs : List A) → ((x : A) → Contains xs x → back (there x) ≡ whole x) → map back (map there xs) ≡ map whole xs
map_back there back whole [] each = refl
map_back there back whole (x ∷ xs) each =
    let first : back (there x) ≡ whole x = each x (contains_first x xs) in
    let rest : map back (map there xs) ≡ map whole xs = map_back there back whole xs (λ y here. each y (contains_later x xs y here)) in
    cc

flat_back : {A B : Type 0} (there : List A → B) (back : B → List A) (xs : List (List A)) → ((x : List A) → Contains xs x → back (there x) ≡ x) → flat_map back (map there xs) ≡ flat_map (λ x. x) xs
flat_back there back [] each = refl
flat_back there back (x ∷ xs) each =
    let first : back (there x) ≡ x = each x (contains_first x xs) in
    let rest : flat_map back (map there xs) ≡ flat_map (λ y. y) xs = flat_back there back xs (λ y here. each y (contains_later x xs y here)) in
    ap (λ front. front ++ flat_map back (map there xs)) first ∙ ap (λ behind. x ++ behind) rest

each_mapped : {A B : Type 0} (holds : A → B → Type 0) (f : A → B) (xs : List A) → ((x : A) → Contains xs x → holds x (f x)) → EachPair holds xs (map f xs)
each_mapped holds f [] each = tt
each_mapped holds f (x ∷ xs) each = (each x (contains_first x xs), each_mapped holds f xs (λ y here. each y (contains_later x xs y here)))

-- ---- descriptors

no_void : (u : ℕ) (b : Bool) → eqb u 86 ≡ b → IsTrue (is_primitive u) → b ≡ false
no_void u false e letter = refl
no_void u true e letter = absurd (let same : u ≡ 86 = eqb-true u 86 e in let none : false ≡ true = subst (λ v. is_primitive v ≡ true) same letter in cc)

base_value : (base : List ℕ) → (((u : ℕ) × IsTrue (is_primitive u) × (base ≡ u ∷ [])) ⊎ IsClassDescriptor base) → names_value base ≡ true
base_value base (inl (u, letter, e)) = rw (e, no_void u (eqb u 86) refl letter) refl
base_value base (inr described) = let e = described.form in rw (e) refl

value_by : (dims : ℕ) (base name : List ℕ) → (((u : ℕ) × IsTrue (is_primitive u) × (base ≡ u ∷ [])) ⊎ IsClassDescriptor base) → name ≡ dimensions dims ++ base → names_value name ≡ true
value_by zero base name of form = ap names_value form ∙ base_value base of
value_by (suc dims) base name of form = ap names_value form

is_value : (name : List ℕ) → IsValueDescriptor name → names_value name ≡ true
is_value name value = value_by value.dims value.base name value.value value.form

is_class : (name : List ℕ) → IsClassDescriptor name → names_class name ≡ true
is_class name described = ap names_class described.form

-- the text of a row of prototypes
prototype_text : (ids : Ids) (stated : ProtoRow) → prototype_of ids (Some stated) ≡ 40 ∷ (flat_map (type_name ids) stated.params ++ 41 ∷ type_name ids stated.result)
unfolding prototype_of
prototype_text ids stated = ap (λ rest. 40 ∷ rest) (append_assoc (flat_map (type_name ids) stated.params) (41 ∷ []) (type_name ids stated.result))

-- ---- order

number_before : (a b : ℕ) → IsBefore (alone a) (alone b) → a < b
number_before a b before = from (nat_cmp a b) refl (ranked a b (nat_cmp a b) refl)
  where
    from : (order : Ordering) → nat_cmp a b ≡ order → MatchOrdering order (a < b) (a ≡ b) (b < a) → a < b
    from Less is below = below
    from Equal is same = absurd (never_before (alone a) (subst (λ n. IsBefore (alone a) (alone n)) (sym same) before))
    from Greater is above = absurd (let e : Greater ≡ Less = subst (λ o. ordering_then o Equal ≡ Less) is before in cc)

pub ordered : (content : List ListedClass) (needs : Needs) (ids : Ids) → AreMade content needs ids → AreOrdered ids
ordered content needs ids made = record {
  texts = made.texts.rise;
  types = λ i j d below within. number_before (get_or ids.types i d) (get_or ids.types j d) (keys_rise alone ids.types made.types.rise i j d below within);
  protos = made.protos.rise;
  fields = made.fields.rise;
  methods = made.methods.rise;
}

module _ (content : List ListedClass) (needs : Needs) (ids : Ids) (well : WellNamed content) (are : AreNeeds (all_names content) needs) (made : AreMade content needs ids) where
  field_well : (field : NamedField) → Contains needs.fields field → IsWellNamed (row.Field field.class field.name field.kind)
  field_well field here = All-contains IsWellNamed (all_names content) (row.Field field.class field.name field.kind) well.rows (field_named (all_names content) needs are field here)

  method_class_well : (method : NamedMethod) → Contains needs.methods method → IsReferenceName method.class
  method_class_well method here =
      let name = method_named (all_names content) needs are method here in
      let sound : IsWellNamed (row.Method method.class method.name name.proto) = All-contains IsWellNamed (all_names content) (row.Method method.class method.name name.proto) well.rows name.listed in
      sound.0

  method_split : (method : NamedMethod) → Contains needs.methods method → (proto : List ℕ) × Contains (all_names content) (row.Method method.class method.name proto) × IsSplit proto method.params method.result
  method_split method here =
      let name = method_named (all_names content) needs are method here in
      let sound : IsWellNamed (row.Method method.class method.name name.proto) = All-contains IsWellNamed (all_names content) (row.Method method.class method.name name.proto) well.rows name.listed in
      (name.proto, name.listed, name.split sound.2)

  described : (name : List ℕ) → NeedsDescriptor needs name → IsDescriptor name
  described name (class here) = All-contains IsWellNamed (all_names content) (row.Class name) well.rows (class_named (all_names content) needs are name here)
  described name (field_class {field} here) = inr (field_well field here).0.0
  described name (field_kind {field} here) = inr (field_well field here).2
  described name (method_class {method} here) = inr (method_class_well method here).0
  described name (result {method} here) = (method_split method here).2.described
  described name (param {method} here among) = inr (All-contains IsValueDescriptor method.params name (method_split method here).2.values among)

  typed : (name : List ℕ) → NeedsDescriptor needs name → IsTypeAt ids name (type_place ids name)
  typed name here = type_at content needs ids made name (needs_descriptor needs name here)

  type_row : (sort : List ℕ → Bool) (name : List ℕ) → NeedsDescriptor needs name → sort name ≡ true → IsTypeRow sort ids (type_place ids name)
  type_row sort name here is = record { there = (typed name here).within; sorted = subst (λ n. sort n ≡ true) (sym (typed name here).named) is }

  text_within : (units : List ℕ) → NeedsUnits needs units → text_place ids units < length ids.texts
  text_within units here = slice_get_within ids.texts (text_place ids units) units (text_at content needs ids made units (needs_text needs units here))

  -- ---- what rows name is there

  prototype_fits : (method : NamedMethod) → Contains needs.methods method → PrototypeFits ids (proto_row_of ids method)
  prototype_fits method here = record {
    result = (typed method.result (result here)).within;
    params = λ type there.
        let (name, among, is) = mapped_from (type_place ids) method.params type there in
        subst (IsTypeRow names_value ids) is (type_row names_value name (param here among) (is_value name (All-contains IsValueDescriptor method.params name (method_split method here).2.values among)));
  }

  field_fits : (field : NamedField) → Contains needs.fields field → FieldFits ids (field_row_of ids field)
  field_fits field here = record {
    class = type_row names_reference field.class (field_class here) (field_well field here).0.1;
    kind = type_row names_value field.kind (field_kind here) (is_value field.kind (field_well field here).2);
    name = text_within field.name (field_name here);
  }

  method_fits : (method : NamedMethod) → Contains needs.methods method → MethodFits ids (method_row_of ids method)
  method_fits method here = record {
    class = type_row names_reference method.class (method_class here) (method_class_well method here).1;
    proto = proto_within content needs ids made method here;
    name = text_within method.name (method_name here);
  }

  class_needed : (listed : ListedClass) (name : List ℕ) → Contains content listed → Contains (listed_names listed) (row.Class name) → NeedsDescriptor needs name
  class_needed listed name here among = class (named_class (all_names content) needs are name (contains_flat listed_names content listed (row.Class name) here among))

  name_needed : (listed : ListedClass) → Contains content listed → NeedsDescriptor needs listed.name
  name_needed listed here = class_needed listed listed.name here (contains_first (row.Class listed.name) _)

  superclass_needed : (listed : ListedClass) → Contains content listed → (name : List ℕ) → listed.superclass ≡ Some name → NeedsDescriptor needs name
  superclass_needed listed here name is =
      class_needed listed name here (contains_later (row.Class listed.name) _ (row.Class name) (Contains-append_left (class_names listed.superclass) _ (row.Class name)
      (subst (λ o. Contains (class_names o) (row.Class name)) (sym is) (contains_first (row.Class name) []))))

  interface_needed : (listed : ListedClass) → Contains content listed → (name : List ℕ) → Contains listed.interfaces name → NeedsDescriptor needs name
  interface_needed listed here name among =
      class_needed listed name here (contains_later (row.Class listed.name) _ (row.Class name) (Contains-append_right (class_names listed.superclass) _ (row.Class name)
      (Contains-append_left (map row.Class listed.interfaces) _ (row.Class name) (contains_mapped row.Class listed.interfaces name among))))

  superclass_fits : (superclass : Option (List ℕ)) (type : ℕ) → ((name : List ℕ) → superclass ≡ Some name → NeedsDescriptor needs name × IsReferenceName name) →
      option_map (type_place ids) superclass ≡ Some type → IsTypeRow names_reference ids type
  superclass_fits None type each is = absurd (cc)
  superclass_fits (Some name) type each is =
      let same : type_place ids name ≡ type = cc in
      let known = each name refl in
      subst (IsTypeRow names_reference ids) same (type_row names_reference name known.0 known.1.1)

  class_fits : (listed : ListedClass) → Contains content listed → ClassFits ids (class_row_of ids listed)
  class_fits listed here =
      let is : ClassIsNamed listed = All-contains ClassIsNamed content listed well.classes here in
      record {
        class = type_row names_class listed.name (name_needed listed here) (is_class listed.name is.name);
        superclass = λ type stated. superclass_fits listed.superclass type (λ name there. (superclass_needed listed here name there, is.superclass name there)) stated;
        interfaces = λ type there.
            let (name, among, same) = mapped_from (type_place ids) listed.interfaces type there in
            subst (IsTypeRow names_reference ids) same
            (type_row names_reference name (interface_needed listed here name among) (All-contains IsReferenceName listed.interfaces name is.interfaces among).1);
      }

  fit : FitTables ids
  fit = record {
    types = λ type within.
        let (name, here, is) = type_from content needs ids made type within in
        subst (λ n. IsDescriptor (type_name ids n)) is (subst IsDescriptor (sym (type_at content needs ids made name here).named) (described name (descriptor_needed needs name here)));
    protos = λ number prototype there.
        let (method, here, is) = proto_from content needs ids made prototype (contains_at ids.protos number prototype there) in
        subst (PrototypeFits ids) is (prototype_fits method here);
    fields = λ number stated there.
        let (field, here, is) = field_from_row content needs ids made stated (contains_at ids.fields number stated there) in
        subst (FieldFits ids) is (field_fits field here);
    methods = λ number stated there.
        let (method, here, is) = method_from_row content needs ids made stated (contains_at ids.methods number stated there) in
        subst (MethodFits ids) is (method_fits method here);
    classes = λ number stated there.
        let (listed, here, is) = mapped_from (class_row_of ids) content stated (subst (λ rows. Contains rows stated) made.classes (contains_at ids.classes number stated there)) in
        subst (ClassFits ids) is (class_fits listed here);
  }

  -- ---- what is named has a row

  text_named_is : (units : List ℕ) → NeedsUnits needs units → text_of ids (text_place ids units) ≡ units
  text_named_is units here = text_is content needs ids made units (needs_text needs units here)

  prototype_is : (method : NamedMethod) → Contains needs.methods method → (proto : List ℕ) → IsSplit proto method.params method.result →
      prototype_of ids (slice_get ids.protos (proto_place ids (proto_row_of ids method))) ≡ proto
  prototype_is method here proto split =
      let params = flat_back (type_place ids) (type_name ids) method.params (λ name among. (typed name (param here among)).named) in
      let gives = (typed method.result (result here)).named in
      ap (prototype_of ids) (proto_at content needs ids made method here)
      ∙ (prototype_text ids (proto_row_of ids method)
      ∙ (ap (λ (middle : List ℕ). 40 ∷ (middle ++ 41 ∷ type_name ids (type_place ids method.result))) params
      ∙ (ap (λ (end : List ℕ). 40 ∷ (flat_map (λ (x : List ℕ). x) method.params ++ 41 ∷ end)) gives
      ∙ sym split.form)))

  field_means : (field : NamedField) → Contains needs.fields field → (number : ℕ) → slice_get ids.fields number ≡ Some (field_row_of ids field) → Means ids (row.Field field.class field.name field.kind) number
  field_means field here number there = record {
    stated = field_row_of ids field;
    there = there;
    classed = (typed field.class (field_class here)).named;
    named = text_named_is field.name (field_name here);
    kinded = (typed field.kind (field_kind here)).named;
  }

  method_means : (method : NamedMethod) → Contains needs.methods method → (proto : List ℕ) → IsSplit proto method.params method.result → (number : ℕ) →
      slice_get ids.methods number ≡ Some (method_row_of ids method) → Means ids (row.Method method.class method.name proto) number
  method_means method here proto split number there = record {
    stated = method_row_of ids method;
    there = there;
    classed = (typed method.class (method_class here)).named;
    named = text_named_is method.name (method_name here);
    typed = prototype_is method here proto split;
  }

  meant : (name : RowName) → Contains (all_names content) name → (number : ℕ) × Means ids name number
  meant (row.Text units) here = (text_place ids units, text_at content needs ids made units (needs_text needs units (text (named_text (all_names content) needs are units here))))
  meant (row.Class name) here =
      let type = typed name (class (named_class (all_names content) needs are name here)) in
      (type_place ids name, (type.within, type.named))
  meant (row.Field owner name kind) here =
      let field : NamedField = record { class = owner; name = name; kind = kind } in
      let among = named_field (all_names content) needs are owner name kind here in
      let (number, there) = found_at ids.fields (field_row_of ids field) (field_there content needs ids made field among) in
      (number, field_means field among number there)
  meant (row.Method owner name proto) here =
      let (method, among, (classed, named, split)) = named_method (all_names content) needs are owner name proto here in
      let sound : IsWellNamed (row.Method owner name proto) = All-contains IsWellNamed (all_names content) (row.Method owner name proto) well.rows here in
      let (number, there) = found_at ids.methods (method_row_of ids method) (method_there content needs ids made method among) in
      (number, subst (λ c. Means ids (row.Method c name proto) number) classed (subst (λ n. Means ids (row.Method method.class n proto) number) named (method_means method among proto (split sound.2) number there)))

  -- ---- each row is needed

  short_is : (method : NamedMethod) → Contains needs.methods method → short_form ids (proto_row_of ids method) ≡ short_of method
  short_is method here =
      let each : (name : List ℕ) → NeedsDescriptor needs name → short_letter (type_name ids (type_place ids name)) ≡ short_letter name = λ name there. ap short_letter (typed name there).named in
      let first = each method.result (result here) in
      let rest = map_back (type_place ids) (λ (type : ℕ). short_letter (type_name ids type)) short_letter method.params (λ name among. each name (param here among)) in
      cc

  needs_units : (units : List ℕ) → NeedsUnits needs units → NeedsText (all_names content) ids units
  needs_units units (text here) = needed.text (text_named (all_names content) needs are units here)
  needs_units units (descriptor here) =
      let type = type_at content needs ids made units here in
      needed.descriptor (contains_at ids.types (type_place ids units) (text_place ids units) type.stated) (text_at content needs ids made units (needs_text needs units (descriptor here)))
  needs_units units (field_name {field} here) = needed.field_name (field_there content needs ids made field here) (text_at content needs ids made field.name (needs_text needs field.name (field_name here)))
  needs_units units (method_name {method} here) =
      needed.method_name (method_there content needs ids made method here) (text_at content needs ids made method.name (needs_text needs method.name (method_name here)))
  needs_units units (short {method} here) = subst (NeedsText (all_names content) ids) (short_is method here) (needed.short (proto_there content needs ids made method here))

  needs_type : (name : List ℕ) → NeedsDescriptor needs name → NeedsType (all_names content) ids (type_place ids name)
  needs_type name (class here) =
      needed.class (subst (λ n. Contains (all_names content) (row.Class n)) (sym (typed name (class here)).named) (class_named (all_names content) needs are name here))
  needs_type name (field_class {field} here) = needed.field_class (field_there content needs ids made field here)
  needs_type name (field_kind {field} here) = needed.field_kind (field_there content needs ids made field here)
  needs_type name (method_class {method} here) = needed.method_class (method_there content needs ids made method here)
  needs_type name (result {method} here) = needed.result (proto_there content needs ids made method here)
  needs_type name (param {method} here among) = needed.param (proto_there content needs ids made method here) (contains_mapped (type_place ids) method.params name among)

  needs_field : (number : ℕ) → number < length ids.fields → NeedsField (all_names content) ids number
  needs_field number within =
      let none : FieldRow = record { class = 0; kind = 0; name = 0 } in
      let stated = get_or ids.fields number none in
      let (field, here, is) = field_from_row content needs ids made stated (Contains-get_or ids.fields number none within) in
      record {
        class = field.class;
        name = field.name;
        kind = field.kind;
        listed = field_named (all_names content) needs are field here;
        meant = field_means field here number (slice_get-get_or ids.fields number none within ∙ ap Some (sym is));
      }

  needs_method : (number : ℕ) → number < length ids.methods → NeedsMethod (all_names content) ids number
  needs_method number within =
      let none : MethodRow = record { class = 0; proto = 0; name = 0 } in
      let stated = get_or ids.methods number none in
      let (method, here, is) = method_from_row content needs ids made stated (Contains-get_or ids.methods number none within) in
      let (proto, listed, split) = method_split method here in
      record {
        class = method.class;
        name = method.name;
        proto = proto;
        listed = listed;
        meant = method_means method here proto split number (slice_get-get_or ids.methods number none within ∙ ap Some (sym is));
      }

  needs_prototype : (number : ℕ) → number < length ids.protos → NeedsPrototype ids number
  needs_prototype number within =
      let (method, here, is) = proto_row_from content needs ids made number within in
      (method_row_of ids method, method_there content needs ids made method here, is)

  all_needed : AreNeeded (all_names content) ids
  all_needed = record {
    texts = λ units here. needs_units units (text_needed needs units ((made.texts.are units).0 here));
    types = λ number within.
        let (name, here, is) = type_from content needs ids made number within in
        subst (NeedsType (all_names content) ids) is (needs_type name (descriptor_needed needs name here));
    protos = needs_prototype;
    fields = needs_field;
    methods = needs_method;
  }

  -- ---- classes

  superclass_is : (superclass : Option (List ℕ)) → ((name : List ℕ) → superclass ≡ Some name → NeedsDescriptor needs name) → option_map (type_name ids) (option_map (type_place ids) superclass) ≡ superclass
  superclass_is None each = refl
  superclass_is (Some name) each = ap Some (typed name (each name refl)).named

  class_is : (listed : ListedClass) → Contains content listed → IsClassRow ids listed (class_row_of ids listed)
  class_is listed here = record {
    class = (typed listed.name (name_needed listed here)).named;
    flags = refl;
    superclass = superclass_is listed.superclass (superclass_needed listed here);
    interfaces = map_back (type_place ids) (type_name ids) (λ name. name) listed.interfaces (λ name among. (typed name (interface_needed listed here name among)).named) ∙ map-id listed.interfaces;
  }

  pub tables : AreTables content ids
  tables = record {
    fit = fit;
    ordered = ordered content needs ids made;
    named = meant;
    needed = all_needed;
    classes = subst (EachPair (IsClassRow ids) content) (sym made.classes) (each_mapped (IsClassRow ids) (class_row_of ids) content class_is);
  }
