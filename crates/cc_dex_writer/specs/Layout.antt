-- Where the parts of a file stand, and the numbers of its header (Dalvik Executable format, sections File layout and header_item).
use Rattle.std.specs.Prelude.{ℕ, ◌+◌, ◌*◌, ◌==◌, if◌then◌else◌, List, [], ◌∷◌, length}
use Rattle.cc_meaning.specs.declared.file.Ids.{Ids}
use Rattle.cc_meaning_dex.specs.Tables.{usual_order}

-- the texts stand behind the header, and each table behind the one before it
abbrev pub texts_at : ℕ
texts_at = 112

abbrev pub types_at : Ids → ℕ
types_at ids = texts_at + length ids.texts * 4

abbrev pub protos_at : Ids → ℕ
protos_at ids = types_at ids + length ids.types * 4

abbrev pub fields_at : Ids → ℕ
fields_at ids = protos_at ids + length ids.protos * 12

abbrev pub methods_at : Ids → ℕ
methods_at ids = fields_at ids + length ids.fields * 8

abbrev pub classes_at : Ids → ℕ
classes_at ids = methods_at ids + length ids.methods * 8

-- how many bytes stand before the data
abbrev pub data_start_of : Ids → ℕ
data_start_of ids = classes_at ids + length ids.classes * 32

-- where a table of so many rows is stated to stand: an empty one at 0
abbrev pub stated_place : ℕ → ℕ → ℕ
stated_place rows at = if rows == 0 then 0 else at

-- The numbers of the header behind the signature: the sizes of the file and the header, the order of bytes; no link section and no map; the rows and
-- the place of each table, and the size and the place of the data.
unfoldable pub header_numbers : Ids → ℕ → List ℕ
header_numbers ids size =
    (data_start_of ids + size) ∷ 112 ∷ usual_order ∷ 0 ∷ 0 ∷ 0
    ∷ length ids.texts ∷ stated_place (length ids.texts) texts_at
    ∷ length ids.types ∷ stated_place (length ids.types) (types_at ids)
    ∷ length ids.protos ∷ stated_place (length ids.protos) (protos_at ids)
    ∷ length ids.fields ∷ stated_place (length ids.fields) (fields_at ids)
    ∷ length ids.methods ∷ stated_place (length ids.methods) (methods_at ids)
    ∷ length ids.classes ∷ stated_place (length ids.classes) (classes_at ids)
    ∷ size ∷ data_start_of ids ∷ []
