-- A header and tables that stand in a file are its own, and spell their rows.
use Rattle.std.proofs.Common.{◌≡◌, inl, inr, ℕ, ◌+◌, ◌*◌, ◌^◌, ◌<◌, ◌≤◌, List, ◌++◌, length, slice_get, slice_index, Option, Some, None, refl, sym, ap, subst, ◌∙◌, arith}
use Rattle.std.specs.List.{flat_map}
use Rattle.cc_meaning.specs.declared.file.ClassRow.{ClassRow}
use Rattle.cc_meaning.specs.declared.file.FieldRow.{FieldRow}
use Rattle.cc_meaning.specs.declared.file.Ids.{Ids}
use Rattle.cc_meaning.specs.declared.file.MethodRow.{MethodRow}
use Rattle.cc_meaning.specs.declared.file.ProtoRow.{ProtoRow}
use Rattle.cc_meaning_dex.specs.declared.table.Table.TheVariants.{Texts, Types, Prototypes, Fields, Methods, Classes}
use Rattle.cc_meaning_dex.specs.Faults.{no_row}
use Rattle.cc_meaning_dex.specs.Ids.{ListsTypes, TextSpelled, TypeSpelled, PrototypeSpelled, FieldSpelled, MethodSpelled, ClassSpelled, RowStated, TablesSpelled}
use Rattle.cc_meaning_dex.specs.Numbers.{Stands, u16_at, u32_at}
use Rattle.cc_meaning_dex.specs.Tables.{row_count, table_at, row_at, longest_file, HasTables}
use Rattle.cc_meaning_dex.specs.Texts.{SpellsText}
use Rattle.cc_meaning_builder.specs.Forms.{u16_form, u32_form}
use Rattle.cc_dex_writer.specs.declared.offsets.Offsets.{Offsets}
use Rattle.cc_dex_writer.specs.Layout.{texts_at, types_at, protos_at, fields_at, methods_at, classes_at, data_start_of, stated_place, header_numbers}
use Rattle.cc_dex_writer.specs.Laws.{Lower}
use Rattle.cc_dex_writer.specs.Rows.{numbered_form, text_row_form, proto_row_form, proto_numbers, field_row_form, method_row_form, class_row_form, class_numbers, stated_superclass, tables_form}
use Rattle.cc_dex_writer.specs.Whole.{HasSmallRows, ItemsStand}
use Rattle.cc_dex_writer.proofs.Sizes.{half_size, little_size, flat_size, numbered_size, text_size, proto_size, field_size, method_size, class_size}
use Rattle.cc_dex_writer.proofs.Standing.{moved, row_of_flat, row_of_table, word_of, place_few, in_file, row_there}

-- where the parts of a file stand that is short enough
pub record IsLaid (ids : Ids) (offsets : Offsets) (size : ℕ) (file : List ℕ) : Type 0 where
  pub numbers : Stands file 32 (flat_map u32_form (header_numbers ids size))
  pub tables : Stands file texts_at (tables_form ids offsets)
  pub long : length file ≡ data_start_of ids + size
  pub short : length file ≤ longest_file

-- a list of types begins in the file
list_few : (file : List ℕ) (at : ℕ) (rows : List ℕ) → ListsTypes file at rows → at ≤ length file
list_few file at rows (inl (none, empty)) = omega (arith, none)
list_few file at rows (inr (some, spells)) = omega (arith, spells.within)

superclass_stated : (superclass : Option ℕ) (found : ℕ) → ((row : ℕ) → superclass ≡ Some row → row < no_row) → found ≡ stated_superclass superclass → RowStated superclass found
superclass_stated None found small is = is
superclass_stated (Some row) found small is = (λ e. absurd (omega (arith, e, is, small row refl)), sym is)

superclass_few : (superclass : Option ℕ) → ((row : ℕ) → superclass ≡ Some row → row < no_row) → stated_superclass superclass < 2 ^ 32
superclass_few None small = omega arith
superclass_few (Some row) small = omega (arith, small row refl)

module _ (lower : Lower) (ids : Ids) (offsets : Offsets) (size : ℕ) (file : List ℕ) (laid : IsLaid ids offsets size file) where
  -- ---- the header

  pub stated : (place n : ℕ) → slice_get (header_numbers ids size) place ≡ Some n → n < 2 ^ 32 → u32_at file (32 + place * 4) ≡ n
  stated place n is few = (lower.u32 file (32 + place * 4) n few (word_of lower.apart file 32 (header_numbers ids size) laid.numbers place n is)).1

  -- no count and no place is larger than the file
  word : (place n : ℕ) → slice_get (header_numbers ids size) place ≡ Some n → n ≤ length file → u32_at file (32 + place * 4) ≡ n
  word place n is few = stated place n is (omega (arith, few, laid.short))

  texts_count : row_count file Texts ≡ length ids.texts
  unfolding header_numbers
  texts_count = word 6 (length ids.texts) refl (omega (arith, laid.long))

  texts_place : table_at file Texts ≡ stated_place (length ids.texts) texts_at
  unfolding header_numbers
  texts_place = word 7 (stated_place (length ids.texts) texts_at) refl (omega (arith, laid.long, place_few (length ids.texts) texts_at))

  types_count : row_count file Types ≡ length ids.types
  unfolding header_numbers
  types_count = word 8 (length ids.types) refl (omega (arith, laid.long))

  types_place : table_at file Types ≡ stated_place (length ids.types) (types_at ids)
  unfolding header_numbers
  types_place = word 9 (stated_place (length ids.types) (types_at ids)) refl (omega (arith, laid.long, place_few (length ids.types) (types_at ids)))

  protos_count : row_count file Prototypes ≡ length ids.protos
  unfolding header_numbers
  protos_count = word 10 (length ids.protos) refl (omega (arith, laid.long))

  protos_place : table_at file Prototypes ≡ stated_place (length ids.protos) (protos_at ids)
  unfolding header_numbers
  protos_place = word 11 (stated_place (length ids.protos) (protos_at ids)) refl (omega (arith, laid.long, place_few (length ids.protos) (protos_at ids)))

  fields_count : row_count file Fields ≡ length ids.fields
  unfolding header_numbers
  fields_count = word 12 (length ids.fields) refl (omega (arith, laid.long))

  fields_place : table_at file Fields ≡ stated_place (length ids.fields) (fields_at ids)
  unfolding header_numbers
  fields_place = word 13 (stated_place (length ids.fields) (fields_at ids)) refl (omega (arith, laid.long, place_few (length ids.fields) (fields_at ids)))

  methods_count : row_count file Methods ≡ length ids.methods
  unfolding header_numbers
  methods_count = word 14 (length ids.methods) refl (omega (arith, laid.long))

  methods_place : table_at file Methods ≡ stated_place (length ids.methods) (methods_at ids)
  unfolding header_numbers
  methods_place = word 15 (stated_place (length ids.methods) (methods_at ids)) refl (omega (arith, laid.long, place_few (length ids.methods) (methods_at ids)))

  classes_count : row_count file Classes ≡ length ids.classes
  unfolding header_numbers
  classes_count = word 16 (length ids.classes) refl (omega (arith, laid.long))

  classes_place : table_at file Classes ≡ stated_place (length ids.classes) (classes_at ids)
  unfolding header_numbers
  classes_place = word 17 (stated_place (length ids.classes) (classes_at ids)) refl (omega (arith, laid.long, place_few (length ids.classes) (classes_at ids)))

  pub has_tables : HasTables file
  has_tables = record {
    texts = in_file file Texts (length ids.texts) texts_at texts_count texts_place (omega (arith, laid.long));
    types = in_file file Types (length ids.types) (types_at ids) types_count types_place (omega (arith, laid.long));
    prototypes = in_file file Prototypes (length ids.protos) (protos_at ids) protos_count protos_place (omega (arith, laid.long));
    fields = in_file file Fields (length ids.fields) (fields_at ids) fields_count fields_place (omega (arith, laid.long));
    methods = in_file file Methods (length ids.methods) (methods_at ids) methods_count methods_place (omega (arith, laid.long));
    classes = in_file file Classes (length ids.classes) (classes_at ids) classes_count classes_place (omega (arith, laid.long));
  }

  -- ---- the tables

  abbrev texts_form : List ℕ
  texts_form = numbered_form (text_row_form offsets) 0 ids.texts

  abbrev types_form : List ℕ
  types_form = flat_map u32_form ids.types

  abbrev protos_form : List ℕ
  protos_form = numbered_form (proto_row_form offsets) 0 ids.protos

  abbrev fields_form : List ℕ
  fields_form = flat_map field_row_form ids.fields

  abbrev methods_form : List ℕ
  methods_form = flat_map method_row_form ids.methods

  abbrev classes_form : List ℕ
  classes_form = numbered_form (class_row_form offsets) 0 ids.classes

  from_texts : Stands file texts_at (texts_form ++ (types_form ++ (protos_form ++ (fields_form ++ (methods_form ++ classes_form)))))
  unfolding tables_form
  from_texts = laid.tables

  -- a table's bytes, and those of the tables behind it
  split : (at next : ℕ) (front back : List ℕ) → at + length front ≡ next → Stands file at (front ++ back) → Stands file at front × Stands file next back
  split at next front back is stands = let (first, second) = lower.apart file at front back stands in (first, moved lower.apart file (at + length front) next back is second)

  texts_stand : Stands file texts_at texts_form × Stands file (types_at ids) (types_form ++ (protos_form ++ (fields_form ++ (methods_form ++ classes_form))))
  texts_stand = split texts_at (types_at ids) texts_form _ (omega (arith, numbered_size (text_row_form offsets) 4 (text_size offsets) 0 ids.texts)) from_texts

  types_stand : Stands file (types_at ids) types_form × Stands file (protos_at ids) (protos_form ++ (fields_form ++ (methods_form ++ classes_form)))
  types_stand = split (types_at ids) (protos_at ids) types_form _ (omega (arith, flat_size u32_form 4 little_size ids.types)) texts_stand.1

  protos_stand : Stands file (protos_at ids) protos_form × Stands file (fields_at ids) (fields_form ++ (methods_form ++ classes_form))
  protos_stand = split (protos_at ids) (fields_at ids) protos_form _ (omega (arith, numbered_size (proto_row_form offsets) 12 (proto_size offsets) 0 ids.protos)) types_stand.1

  fields_stand : Stands file (fields_at ids) fields_form × Stands file (methods_at ids) (methods_form ++ classes_form)
  fields_stand = split (fields_at ids) (methods_at ids) fields_form _ (omega (arith, flat_size field_row_form 8 field_size ids.fields)) protos_stand.1

  methods_stand : Stands file (methods_at ids) methods_form × Stands file (classes_at ids) classes_form
  methods_stand = split (methods_at ids) (classes_at ids) methods_form classes_form (omega (arith, flat_size method_row_form 8 method_size ids.methods)) fields_stand.1

  -- ---- the rows

  -- one of the numbers of a row
  read : (at : ℕ) (numbers : List ℕ) → Stands file at (flat_map u32_form numbers) → (place n : ℕ) → slice_get numbers place ≡ Some n → n < 2 ^ 32 → u32_at file (at + place * 4) ≡ n
  read at numbers stands place n is few = (lower.u32 file (at + place * 4) n few (word_of lower.apart file at numbers stands place n is)).1

  text_spelled : ItemsStand ids offsets file → (place : ℕ) (units : List ℕ) → slice_get ids.texts place ≡ Some units → TextSpelled file place units
  text_spelled items place units is =
      let text = items.texts place units is in
      let offset = slice_index offsets.texts place in
      let few : offset < 2 ^ 32 = omega (arith, text.count.stands.some, text.count.stands.within, laid.short) in
      let stands = row_of_table lower.apart file (text_row_form offsets) 4 (text_size offsets) texts_at ids.texts texts_stand.0 place units is in
      let there = moved lower.apart file _ (row_at file Texts place) (u32_form offset) (row_there file Texts ids.texts texts_at texts_place place units is) stands in
      subst (λ at. SpellsText file at units) (sym (lower.u32 file (row_at file Texts place) offset few there).1) text

  type_spelled : HasSmallRows ids → (place text : ℕ) → slice_get ids.types place ≡ Some text → TypeSpelled file place text
  type_spelled small place text is =
      let stands = row_of_flat lower.apart file u32_form 4 little_size (types_at ids) ids.types types_stand.0 place text is in
      let there = moved lower.apart file _ (row_at file Types place) (u32_form text) (row_there file Types ids.types (types_at ids) types_place place text is) stands in
      sym (lower.u32 file (row_at file Types place) text (small.types place text is) there).1

  proto_spelled : HasSmallRows ids → ItemsStand ids offsets file → (place : ℕ) (proto : ProtoRow) → slice_get ids.protos place ≡ Some proto → PrototypeSpelled file place proto
  proto_spelled small items place proto is =
      let at = row_at file Prototypes place in
      let numbers = proto_numbers offsets place proto in
      let offset = slice_index offsets.params place in
      let listed = items.params place proto is in
      let few : offset < 2 ^ 32 = omega (arith, list_few file offset proto.params listed, laid.short) in
      let stands = row_of_table lower.apart file (proto_row_form offsets) 12 (proto_size offsets) (protos_at ids) ids.protos protos_stand.0 place proto is in
      let there = moved lower.apart file _ at (flat_map u32_form numbers) (row_there file Prototypes ids.protos (protos_at ids) protos_place place proto is) stands in
      record {
        result = sym (read at numbers there 1 proto.result refl (small.protos place proto is));
        params = subst (λ k. ListsTypes file k proto.params) (sym (read at numbers there 2 offset refl few)) listed;
      }

  -- the three numbers of a row of members
  thirds : (at first second third : ℕ) → first < 65536 → second < 65536 → third < 2 ^ 32 → Stands file at (u16_form first ++ (u16_form second ++ u32_form third)) →
      (u16_at file at ≡ first) × (u16_at file (at + 2) ≡ second) × (u32_at file (at + 4) ≡ third)
  thirds at first second third few_first few_second few_third stands =
      let (one, rest) = split at (at + 2) (u16_form first) (u16_form second ++ u32_form third) (omega (arith, half_size first)) stands in
      let (two, three) = split (at + 2) (at + 4) (u16_form second) (u32_form third) (omega (arith, half_size second)) rest in
      ((lower.u16 file at first few_first one).1, (lower.u16 file (at + 2) second few_second two).1, (lower.u32 file (at + 4) third few_third three).1)

  field_spelled : HasSmallRows ids → (place : ℕ) (field : FieldRow) → slice_get ids.fields place ≡ Some field → FieldSpelled file place field
  field_spelled small place field is =
      let at = row_at file Fields place in
      let stands = row_of_flat lower.apart file field_row_form 8 field_size (fields_at ids) ids.fields fields_stand.0 place field is in
      let there = moved lower.apart file _ at (field_row_form field) (row_there file Fields ids.fields (fields_at ids) fields_place place field is) stands in
      let few = small.fields place field is in
      let read_again = thirds at field.class field.kind field.name few.class few.kind few.name there in
      record { class = sym read_again.0; kind = sym read_again.1; name = sym read_again.2 }

  method_spelled : HasSmallRows ids → (place : ℕ) (method : MethodRow) → slice_get ids.methods place ≡ Some method → MethodSpelled file place method
  method_spelled small place method is =
      let at = row_at file Methods place in
      let stands = row_of_flat lower.apart file method_row_form 8 method_size (methods_at ids) ids.methods methods_stand.0 place method is in
      let there = moved lower.apart file _ at (method_row_form method) (row_there file Methods ids.methods (methods_at ids) methods_place place method is) stands in
      let few = small.methods place method is in
      let read_again = thirds at method.class method.proto method.name few.class few.proto few.name there in
      record { class = sym read_again.0; proto = sym read_again.1; name = sym read_again.2 }

  class_spelled : HasSmallRows ids → ItemsStand ids offsets file → (place : ℕ) (class : ClassRow) → slice_get ids.classes place ≡ Some class → ClassSpelled file place class
  class_spelled small items place class is =
      let at = row_at file Classes place in
      let numbers = class_numbers offsets place class in
      let offset = slice_index offsets.interfaces place in
      let listed = items.interfaces place class is in
      let few : offset < 2 ^ 32 = omega (arith, list_few file offset class.interfaces listed, laid.short) in
      let stands = row_of_table lower.apart file (class_row_form offsets) 32 (class_size offsets) (classes_at ids) ids.classes methods_stand.1 place class is in
      let there = moved lower.apart file _ at (flat_map u32_form numbers) (row_there file Classes ids.classes (classes_at ids) classes_place place class is) stands in
      let own = small.classes place class is in
      let begin : at ≡ at + 0 * 4 = omega arith in
      record {
        class = sym (ap (u32_at file) begin ∙ read at numbers there 0 class.class refl own.class);
        flags = sym (read at numbers there 1 class.flags refl own.flags);
        superclass = superclass_stated class.superclass _ own.superclass (read at numbers there 2 (stated_superclass class.superclass) refl (superclass_few class.superclass own.superclass));
        interfaces = subst (λ k. ListsTypes file k class.interfaces) (sym (read at numbers there 3 offset refl few)) listed;
        members_at = sym (read at numbers there 6 class.members_at refl own.members_at);
        values_at = sym (read at numbers there 7 class.values_at refl own.values_at);
      }

  pub tables_spelled : HasSmallRows ids → ItemsStand ids offsets file → TablesSpelled file ids
  tables_spelled small items = record {
    texts = record { all = sym texts_count; each = text_spelled items };
    types = record { all = sym types_count; each = type_spelled small };
    protos = record { all = sym protos_count; each = proto_spelled small items };
    fields = record { all = sym fields_count; each = field_spelled small };
    methods = record { all = sym methods_count; each = method_spelled small };
    classes = record { all = sym classes_count; each = class_spelled small items };
  }
