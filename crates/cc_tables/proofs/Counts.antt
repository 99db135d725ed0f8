-- There are no more rows of a table than texts that are needed.
use Rattle.std.proofs.Common.{◌+◌, ◌≤◌, List, [], ◌∷◌, ◌++◌, length, arith}
use Rattle.std.specs.List.{flat_map}
use Rattle.std.proofs.lemmas.List.{length-append, length-map}
use Rattle.cc_meaning.specs.declared.file.Ids.{Ids}
use Rattle.cc_tables.specs.Rows.{FewRows}
use Rattle.cc_tables.specs.declared.needs.Needs.{Needs}
use Rattle.cc_tables.specs.Made.{AreProtosMade, AreTypesMade, HasMethods, HasProtos, HasTypes}
use Rattle.cc_tables.specs.Needs.{descriptors_of, field_texts, method_texts, texts_of}
use Rattle.cc_tables.specs.Places.{field_row_of, method_row_of, proto_row_of, text_place}

-- at least one of each
each_some : {A B : Type 0} (of : A → List B) (xs : List A) → ((x : A) → 1 ≤ length (of x)) → length xs ≤ length (flat_map of xs)
each_some of [] some = omega arith
each_some of (x ∷ xs) some = omega (arith, each_some of xs some, some x, length-append (of x) (flat_map of xs))

few_descriptors : (needs : Needs) → length (descriptors_of needs) ≤ length (texts_of needs)
few_descriptors needs =
    let members = flat_map field_texts needs.fields ++ flat_map method_texts needs.methods in
    omega (arith, length-append needs.texts (descriptors_of needs ++ members), length-append (descriptors_of needs) members)

few_members : (needs : Needs) → length needs.fields + length needs.methods ≤ length (texts_of needs)
few_members needs =
    let fields = flat_map field_texts needs.fields in
    let methods = flat_map method_texts needs.methods in
    omega (
      arith,
      length-append needs.texts (descriptors_of needs ++ (fields ++ methods)),
      length-append (descriptors_of needs) (fields ++ methods),
      length-append fields methods,
      each_some field_texts needs.fields (λ field. omega arith),
      each_some method_texts needs.methods (λ method. omega arith),
    )

pub types_made : (needs : Needs) (ids : Ids) → HasTypes needs ids → AreTypesMade ids
types_made needs ids has = record {
  texts = record { few = has.few_texts; rise = has.texts.rise };
  few = omega (arith, has.few, has.types.few, few_descriptors needs, length-map (descriptors_of needs) (text_place ids));
  rise = has.types.rise;
}

pub protos_made : (needs : Needs) (ids : Ids) → HasProtos needs ids → AreProtosMade ids
protos_made needs ids has = record {
  types = types_made needs ids has.types;
  few = omega (arith, has.types.few, has.protos.few, few_members needs, length-map needs.methods (proto_row_of ids));
  rise = has.protos.rise;
}

pub few_rows : (needs : Needs) (ids : Ids) → HasMethods needs ids → FewRows ids
few_rows needs ids has =
    let few = has.fields.protos.types.few in
    let protos = protos_made needs ids has.fields.protos in
    record {
      texts = has.fields.protos.types.few_texts;
      types = protos.types.few;
      protos = protos.few;
      fields = omega (arith, few, has.fields.fields.few, few_members needs, length-map needs.fields (field_row_of ids));
      methods = omega (arith, few, has.methods.few, few_members needs, length-map needs.methods (method_row_of ids));
    }
