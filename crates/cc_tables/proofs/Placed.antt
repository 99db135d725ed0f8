-- Where the rows of what is needed stand in the tables that are made of it.
use Rattle.std.proofs.Common.{◌≡◌, ℕ, ◌<◌, List, [], length, map, get_or, Option, Some, slice_get, unwrap_or, refl, sym, ap, subst, ◌∙◌}
use Rattle.std.specs.Prelude.{Contains, option_and_then}
use Rattle.std.proofs.lemmas.List.Elements.{Contains-get_or}
use Rattle.std.proofs.lemmas.Option.{slice_get-get_or}
use Rattle.cc_meaning.specs.declared.file.FieldRow.{FieldRow}
use Rattle.cc_meaning.specs.declared.file.Ids.{Ids}
use Rattle.cc_meaning.specs.declared.file.MethodRow.{MethodRow}
use Rattle.cc_meaning.specs.declared.file.ProtoRow.{ProtoRow}
use Rattle.cc_meaning_program.specs.Named.{text_of, type_name}
use Rattle.cc_meaning_builder.specs.declared.content.ListedClass.{ListedClass}
use Rattle.cc_meaning_builder.specs.Tables.{field_key, method_key, prototype_key}
use Rattle.cc_names.proofs.Ordered.{contains_mapped, mapped_from}
use Rattle.cc_tables.specs.declared.needs.NamedField.{NamedField}
use Rattle.cc_tables.specs.declared.needs.NamedMethod.{NamedMethod}
use Rattle.cc_tables.specs.declared.needs.Needs.{Needs}
use Rattle.cc_tables.specs.Made.{AreMade}
use Rattle.cc_tables.specs.Needs.{descriptors_of, texts_of}
use Rattle.cc_tables.specs.Places.{alone, field_row_of, itself, method_row_of, proto_place, proto_row_of, text_place, type_place}
use Rattle.cc_tables.proofs.Among.{kept}
use Rattle.cc_tables.proofs.Needed.{descriptor, needs_text}
use Rattle.cc_tables.proofs.Placing.{place_is, placed}

-- ---- a row is given by its key

same_number : (a b : ℕ) → alone a ≡ alone b → a ≡ b
same_number a b e = cc

prototype_from : ℕ → List ℕ → ProtoRow
prototype_from result params = record { result = result; params = params }

pub same_prototype : (a b : ProtoRow) → prototype_key a ≡ prototype_key b → a ≡ b
unfolding prototype_from
same_prototype a b e =
    let result : a.result ≡ b.result = cc in
    let params : a.params ≡ b.params = cc in
    ap (λ r. prototype_from r a.params) result ∙ ap (λ p. prototype_from b.result p) params

field_from : ℕ → ℕ → ℕ → FieldRow
field_from class kind name = record { class = class; kind = kind; name = name }

same_field : (a b : FieldRow) → field_key a ≡ field_key b → a ≡ b
unfolding field_from
same_field a b e =
    let class : a.class ≡ b.class = cc in
    let name : a.name ≡ b.name = cc in
    let kind : a.kind ≡ b.kind = cc in
    ap (λ c. field_from c a.kind a.name) class ∙ ap (λ k. field_from b.class k a.name) kind ∙ ap (λ n. field_from b.class b.kind n) name

method_from : ℕ → ℕ → ℕ → MethodRow
method_from class proto name = record { class = class; proto = proto; name = name }

same_method : (a b : MethodRow) → method_key a ≡ method_key b → a ≡ b
unfolding method_from
same_method a b e =
    let class : a.class ≡ b.class = cc in
    let name : a.name ≡ b.name = cc in
    let proto : a.proto ≡ b.proto = cc in
    ap (λ c. method_from c a.proto a.name) class ∙ ap (λ k. method_from b.class k a.name) proto ∙ ap (λ n. method_from b.class b.proto n) name

-- a row of types that is there, and has this descriptor
pub record IsTypeAt (ids : Ids) (name : List ℕ) (type : ℕ) : Type 0 where
  pub within : type < length ids.types
  pub stated : slice_get ids.types type ≡ Some (text_place ids name)
  pub named : type_name ids type ≡ name

module _ (content : List ListedClass) (needs : Needs) (ids : Ids) (made : AreMade content needs ids) where
  -- ---- texts

  pub text_at : (units : List ℕ) → Contains (texts_of needs) units → slice_get ids.texts (text_place ids units) ≡ Some units
  text_at units here =
      let at = placed itself ids.texts units ((made.texts.are units).1 here) in
      slice_get-get_or ids.texts (text_place ids units) [] at.0 ∙ ap Some (at.1 [])

  pub text_is : (units : List ℕ) → Contains (texts_of needs) units → text_of ids (text_place ids units) ≡ units
  unfolding text_of
  text_is units here = ap (λ (o : Option (List ℕ)). unwrap_or o []) (text_at units here)

  -- ---- types

  pub type_at : (name : List ℕ) → Contains (descriptors_of needs) name → IsTypeAt ids name (type_place ids name)
  unfolding type_name
  type_at name here =
      let text = text_place ids name in
      let there : Contains ids.types text = kept alone (map (text_place ids) (descriptors_of needs)) ids.types same_number made.types text (contains_mapped (text_place ids) (descriptors_of needs) name here) in
      let at = placed alone ids.types text there in
      let is : get_or ids.types (type_place ids name) 0 ≡ text = same_number (get_or ids.types (type_place ids name) 0) text (at.1 0) in
      let stated : slice_get ids.types (type_place ids name) ≡ Some text = slice_get-get_or ids.types (type_place ids name) 0 at.0 ∙ ap Some is in
      record {
        within = at.0;
        stated = stated;
        named = ap (λ (o : Option ℕ). unwrap_or (option_and_then (slice_get ids.texts) o) []) stated
            ∙ ap (λ (o : Option (List ℕ)). unwrap_or o []) (text_at name (needs_text needs name (descriptor here)));
      }

  -- each row of types is that of a descriptor
  pub type_from : (type : ℕ) → type < length ids.types → (name : List ℕ) × Contains (descriptors_of needs) name × (type_place ids name ≡ type)
  type_from type within =
      let text = get_or ids.types type 0 in
      let (name, here, is) = mapped_from (text_place ids) (descriptors_of needs) text (made.types.among text (Contains-get_or ids.types type 0 within)) in
      (name, here, place_is alone ids.types made.types.rise (alone (text_place ids name)) type 0 within (ap alone (sym is)))

  -- ---- prototypes

  pub proto_there : (method : NamedMethod) → Contains needs.methods method → Contains ids.protos (proto_row_of ids method)
  proto_there method here =
      kept prototype_key (map (proto_row_of ids) needs.methods) ids.protos same_prototype made.protos (proto_row_of ids method) (contains_mapped (proto_row_of ids) needs.methods method here)

  pub proto_within : (method : NamedMethod) → Contains needs.methods method → proto_place ids (proto_row_of ids method) < length ids.protos
  proto_within method here = (placed prototype_key ids.protos (proto_row_of ids method) (proto_there method here)).0

  pub proto_at : (method : NamedMethod) → Contains needs.methods method → slice_get ids.protos (proto_place ids (proto_row_of ids method)) ≡ Some (proto_row_of ids method)
  proto_at method here =
      let prototype = proto_row_of ids method in
      let at = placed prototype_key ids.protos prototype (proto_there method here) in
      slice_get-get_or ids.protos (proto_place ids prototype) prototype at.0 ∙ ap Some (same_prototype (get_or ids.protos (proto_place ids prototype) prototype) prototype (at.1 prototype))

  pub proto_from : (prototype : ProtoRow) → Contains ids.protos prototype → (method : NamedMethod) × Contains needs.methods method × (proto_row_of ids method ≡ prototype)
  proto_from prototype here = mapped_from (proto_row_of ids) needs.methods prototype (made.protos.among prototype here)

  -- each row of prototypes is that of a method
  pub proto_row_from : (number : ℕ) → number < length ids.protos → (method : NamedMethod) × Contains needs.methods method × (proto_place ids (proto_row_of ids method) ≡ number)
  proto_row_from number within = from (get_or ids.protos number none) refl
    where
      none : ProtoRow
      none = record { result = 0; params = [] }

      from : (prototype : ProtoRow) → prototype ≡ get_or ids.protos number none → (method : NamedMethod) × Contains needs.methods method × (proto_place ids (proto_row_of ids method) ≡ number)
      from prototype at =
          let (method, here, is) = proto_from prototype (subst (Contains ids.protos) (sym at) (Contains-get_or ids.protos number none within)) in
          (method, here, place_is prototype_key ids.protos made.protos.rise (prototype_key (proto_row_of ids method)) number none within (ap prototype_key (sym at ∙ sym is)))

  -- ---- members

  pub field_there : (field : NamedField) → Contains needs.fields field → Contains ids.fields (field_row_of ids field)
  field_there field here =
      kept field_key (map (field_row_of ids) needs.fields) ids.fields same_field made.fields (field_row_of ids field) (contains_mapped (field_row_of ids) needs.fields field here)

  pub field_from_row : (stated : FieldRow) → Contains ids.fields stated → (field : NamedField) × Contains needs.fields field × (field_row_of ids field ≡ stated)
  field_from_row stated here = mapped_from (field_row_of ids) needs.fields stated (made.fields.among stated here)

  pub method_there : (method : NamedMethod) → Contains needs.methods method → Contains ids.methods (method_row_of ids method)
  method_there method here =
      kept method_key (map (method_row_of ids) needs.methods) ids.methods same_method made.methods (method_row_of ids method) (contains_mapped (method_row_of ids) needs.methods method here)

  pub method_from_row : (stated : MethodRow) → Contains ids.methods stated → (method : NamedMethod) × Contains needs.methods method × (method_row_of ids method ≡ stated)
  method_from_row stated here = mapped_from (method_row_of ids) needs.methods stated (made.methods.among stated here)
