-- What a file is that is written for tables, offsets and data.
use Rattle.std.specs.Prelude.{◌≡◌, ℕ, ◌+◌, ◌^◌, ◌<◌, ◌≤◌, List, ◌++◌, length, slice_get, slice_index, Some}
use Rattle.std.specs.List.{flat_map}
use Rattle.sha1.specs.Sha1.{sha1}
use Rattle.cc_meaning.specs.declared.file.ClassRow.{ClassRow}
use Rattle.cc_meaning.specs.declared.file.FieldRow.{FieldRow}
use Rattle.cc_meaning.specs.declared.file.Ids.{Ids}
use Rattle.cc_meaning.specs.declared.file.MethodRow.{MethodRow}
use Rattle.cc_meaning.specs.declared.file.ProtoRow.{ProtoRow}
use Rattle.cc_meaning_dex.specs.Adler32.{adler32_of}
use Rattle.cc_meaning_dex.specs.Faults.{no_row}
use Rattle.cc_meaning_dex.specs.Ids.{ListsTypes, TablesSpelled}
use Rattle.cc_meaning_dex.specs.Numbers.{Stands}
use Rattle.cc_meaning_dex.specs.Tables.{magic, longest_file, IsHeader, HasTables}
use Rattle.cc_meaning_dex.specs.Texts.{SpellsText}
use Rattle.cc_meaning_builder.specs.Forms.{u32_form}
use Rattle.cc_meaning_builder.specs.Written.{HasNoSections}
use Rattle.cc_dex_writer.specs.declared.offsets.Offsets.{Offsets}
use Rattle.cc_dex_writer.specs.Layout.{data_start_of, header_numbers}
use Rattle.cc_dex_writer.specs.Rows.{tables_form}

-- ---- what the numbers of definitions are by their type

-- the numbers of a definition that are no rows have 32 bits
pub record IsWideClass (class : ClassRow) : Type 0 where
  pub flags : class.flags < 2 ^ 32
  pub members_at : class.members_at < 2 ^ 32
  pub values_at : class.values_at < 2 ^ 32

abbrev pub AreWideClasses : List ClassRow → Type 0
AreWideClasses classes = (row : ℕ) (class : ClassRow) → slice_get classes row ≡ Some class → IsWideClass class

-- ---- the parts of the file, back to front

-- what the signature is of; the numbers of the header are those of the format where 32 bits hold the file's length
pub record IsBody (ids : Ids) (offsets : Offsets) (bytes body : List ℕ) : Type 0 where
  pub numbers : List ℕ
  pub each : length numbers ≡ 20
  pub exact : data_start_of ids + length bytes < 2 ^ 32 → numbers ≡ header_numbers ids (length bytes)
  pub wide : AreWideClasses ids.classes
  pub form : body ≡ flat_map u32_form numbers ++ (tables_form ids offsets ++ bytes)

-- a body behind its signature
abbrev pub signed_form : List ℕ → List ℕ
signed_form body = sha1 body ++ body

-- a signed body behind the beginning of a file and its sum
abbrev pub file_form : List ℕ → List ℕ
file_form body = magic ++ (u32_form (adler32_of (signed_form body)) ++ signed_form body)

-- ---- what its rows are

-- numbers of types and prototypes that 16 bits hold
pub record IsSmallField (field : FieldRow) : Type 0 where
  pub class : field.class < 65536
  pub kind : field.kind < 65536
  pub name : field.name < 2 ^ 32

pub record IsSmallMethod (method : MethodRow) : Type 0 where
  pub class : method.class < 65536
  pub proto : method.proto < 65536
  pub name : method.name < 2 ^ 32

-- numbers that 32 bits hold; no superclass has the number that stands for none
pub record IsSmallClass (stated : ClassRow) : Type 0 where
  pub class : stated.class < 2 ^ 32
  pub flags : stated.flags < 2 ^ 32
  pub superclass : (row : ℕ) → stated.superclass ≡ Some row → row < no_row
  pub members_at : stated.members_at < 2 ^ 32
  pub values_at : stated.values_at < 2 ^ 32

-- the numbers of the rows have room in the slots of the format
pub record HasSmallRows (ids : Ids) : Type 0 where
  pub types : (row text : ℕ) → slice_get ids.types row ≡ Some text → text < 2 ^ 32
  pub protos : (row : ℕ) (proto : ProtoRow) → slice_get ids.protos row ≡ Some proto → proto.result < 2 ^ 32
  pub fields : (row : ℕ) (field : FieldRow) → slice_get ids.fields row ≡ Some field → IsSmallField field
  pub methods : (row : ℕ) (method : MethodRow) → slice_get ids.methods row ≡ Some method → IsSmallMethod method
  pub classes : (row : ℕ) (class : ClassRow) → slice_get ids.classes row ≡ Some class → IsSmallClass class

-- each text and each list of types stands where the offsets say
pub record ItemsStand (ids : Ids) (offsets : Offsets) (file : List ℕ) : Type 0 where
  pub texts : (row : ℕ) (units : List ℕ) → slice_get ids.texts row ≡ Some units → SpellsText file (slice_index offsets.texts row) units
  pub params : (row : ℕ) (proto : ProtoRow) → slice_get ids.protos row ≡ Some proto → ListsTypes file (slice_index offsets.params row) proto.params
  pub interfaces : (row : ℕ) (class : ClassRow) → slice_get ids.classes row ≡ Some class → ListsTypes file (slice_index offsets.interfaces row) class.interfaces

-- ---- the whole file

-- A file of a header, tables and data. One that is short enough to be read has a sound header that states neither a link section nor a map, and whose tables
-- lie in the file; they spell the rows where these have room in the slots of the format, and the items stand where the offsets say.
pub record IsWhole (ids : Ids) (offsets : Offsets) (bytes file : List ℕ) : Type 0 where
  pub long : length file ≡ data_start_of ids + length bytes
  pub stands : Stands file (data_start_of ids) bytes
  pub wide : AreWideClasses ids.classes
  pub header : length file ≤ longest_file → IsHeader file
  pub sections : length file ≤ longest_file → HasNoSections file
  pub tables : length file ≤ longest_file → HasTables file
  pub spelled : length file ≤ longest_file → HasSmallRows ids → ItemsStand ids offsets file → TablesSpelled file ids
