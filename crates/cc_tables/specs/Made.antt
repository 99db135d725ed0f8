-- How the tables are made of what is named: each holds the rows of it, each once, in order.
use Rattle.std.specs.Prelude.{◌≡◌, ◌↔◌, ℕ, ◌^◌, ◌<◌, List, length, map, Contains}
use Rattle.cc_meaning.specs.Order.{IsRising}
use Rattle.cc_meaning.specs.declared.file.Ids.{Ids}
use Rattle.cc_meaning_builder.specs.declared.content.ListedClass.{ListedClass}
use Rattle.cc_meaning_builder.specs.Tables.{field_key, method_key, prototype_key}
use Rattle.cc_names.specs.InOrder.{AreInOrder}
use Rattle.cc_tables.specs.declared.needs.Needs.{Needs}
use Rattle.cc_tables.specs.Needs.{descriptors_of, texts_of}
use Rattle.cc_tables.specs.Places.{alone, class_row_of, field_row_of, method_row_of, proto_row_of, text_place}

-- exactly these texts, each once, in order
pub record IsTextTable (all texts : List (List ℕ)) : Type 0 where
  pub rise : IsRising texts
  pub are : (text : List ℕ) → Contains texts text ↔ Contains all text

-- the tables of texts, of types and of prototypes are in order, and their rows have numbers of 32 bits
pub record AreTextsMade (ids : Ids) : Type 0 where
  pub few : length ids.texts < 2 ^ 32
  pub rise : IsRising ids.texts

pub record AreTypesMade (ids : Ids) : Type 0 where
  pub texts : AreTextsMade ids
  pub few : length ids.types < 2 ^ 32
  pub rise : IsRising (map alone ids.types)

pub record AreProtosMade (ids : Ids) : Type 0 where
  pub types : AreTypesMade ids
  pub few : length ids.protos < 2 ^ 32
  pub rise : IsRising (map prototype_key ids.protos)

-- the tables of what is needed, one more at a time, where its texts have numbers of 32 bits
pub record HasTypes (needs : Needs) (ids : Ids) : Type 0 where
  pub few : length (texts_of needs) < 2 ^ 32
  pub few_texts : length ids.texts < 2 ^ 32
  pub texts : IsTextTable (texts_of needs) ids.texts
  pub types : AreInOrder alone (map (text_place ids) (descriptors_of needs)) ids.types

pub record HasProtos (needs : Needs) (ids : Ids) : Type 0 where
  pub types : HasTypes needs ids
  pub protos : AreInOrder prototype_key (map (proto_row_of ids) needs.methods) ids.protos

pub record HasFields (needs : Needs) (ids : Ids) : Type 0 where
  pub protos : HasProtos needs ids
  pub fields : AreInOrder field_key (map (field_row_of ids) needs.fields) ids.fields

pub record HasMethods (needs : Needs) (ids : Ids) : Type 0 where
  pub fields : HasFields needs ids
  pub methods : AreInOrder method_key (map (method_row_of ids) needs.methods) ids.methods

-- all tables of what is needed, and of the definitions of these classes
pub record AreMade (content : List ListedClass) (needs : Needs) (ids : Ids) : Type 0 where
  pub texts : IsTextTable (texts_of needs) ids.texts
  pub types : AreInOrder alone (map (text_place ids) (descriptors_of needs)) ids.types
  pub protos : AreInOrder prototype_key (map (proto_row_of ids) needs.methods) ids.protos
  pub fields : AreInOrder field_key (map (field_row_of ids) needs.fields) ids.fields
  pub methods : AreInOrder method_key (map (method_row_of ids) needs.methods) ids.methods
  pub classes : ids.classes ≡ map (class_row_of ids) content
