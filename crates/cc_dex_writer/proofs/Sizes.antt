-- How many bytes parts have.
use Rattle.std.proofs.Common.{◌≡◌, ℕ, ◌+◌, ◌*◌, List, [], ◌∷◌, ◌++◌, length, refl, sym, arith}
use Rattle.std.specs.List.{flat_map}
use Rattle.std.proofs.lemmas.List.{length-append}
use Rattle.std.proofs.Math.Nat.{suc-mul, zero-mul}
use Rattle.cc_meaning.specs.declared.file.ClassRow.{ClassRow}
use Rattle.cc_meaning.specs.declared.file.FieldRow.{FieldRow}
use Rattle.cc_meaning.specs.declared.file.Ids.{Ids}
use Rattle.cc_meaning.specs.declared.file.MethodRow.{MethodRow}
use Rattle.cc_meaning.specs.declared.file.ProtoRow.{ProtoRow}
use Rattle.cc_meaning_builder.specs.Forms.{little_form, u16_form, u32_form}
use Rattle.cc_dex_writer.specs.declared.offsets.Offsets.{Offsets}
use Rattle.cc_dex_writer.specs.Layout.{texts_at, data_start_of}
use Rattle.cc_dex_writer.specs.Rows.{numbered_form, text_row_form, proto_row_form, field_row_form, method_row_form, class_row_form, tables_form}

pub little_size : (n : ℕ) → length (u32_form n) ≡ 4
unfolding little_form
little_size n = refl

pub half_size : (n : ℕ) → length (u16_form n) ≡ 2
unfolding little_form
half_size n = refl

pub flat_size : {A : Type 0} (form : A → List ℕ) (size : ℕ) → ((row : A) → length (form row) ≡ size) → (rows : List A) → length (flat_map form rows) ≡ length rows * size
flat_size form size sized [] = sym (zero-mul size)
flat_size form size sized (row ∷ rows) =
    omega (arith, length-append (form row) (flat_map form rows), sized row, flat_size form size sized rows, suc-mul (length rows) size)

pub numbered_size : {A : Type 0} (form : ℕ → A → List ℕ) (size : ℕ) → ((number : ℕ) (row : A) → length (form number row) ≡ size) → (number : ℕ) (rows : List A) → length (numbered_form form number rows) ≡ length rows * size
unfolding numbered_form
numbered_size form size sized number [] = sym (zero-mul size)
numbered_size form size sized number (row ∷ rows) =
    omega (arith, length-append (form number row) (numbered_form form (number + 1) rows), sized number row, numbered_size form size sized (number + 1) rows, suc-mul (length rows) size)

pub text_size : (offsets : Offsets) (number : ℕ) (units : List ℕ) → length (text_row_form offsets number units) ≡ 4
unfolding little_form
text_size offsets number units = refl

pub proto_size : (offsets : Offsets) (number : ℕ) (proto : ProtoRow) → length (proto_row_form offsets number proto) ≡ 12
unfolding little_form
proto_size offsets number proto = refl

pub field_size : (field : FieldRow) → length (field_row_form field) ≡ 8
unfolding little_form
field_size field = refl

pub method_size : (method : MethodRow) → length (method_row_form method) ≡ 8
unfolding little_form
method_size method = refl

pub class_size : (offsets : Offsets) (number : ℕ) (class : ClassRow) → length (class_row_form offsets number class) ≡ 32
unfolding little_form
class_size offsets number class = refl

-- the six tables have all bytes between the header and the data
pub tables_size : (ids : Ids) (offsets : Offsets) → texts_at + length (tables_form ids offsets) ≡ data_start_of ids
unfolding tables_form
tables_size ids offsets =
    let texts = numbered_form (text_row_form offsets) 0 ids.texts in
    let types = flat_map u32_form ids.types in
    let protos = numbered_form (proto_row_form offsets) 0 ids.protos in
    let fields = flat_map field_row_form ids.fields in
    let methods = flat_map method_row_form ids.methods in
    let classes = numbered_form (class_row_form offsets) 0 ids.classes in
    omega (
      arith,
      length-append texts (types ++ (protos ++ (fields ++ (methods ++ classes)))),
      length-append types (protos ++ (fields ++ (methods ++ classes))),
      length-append protos (fields ++ (methods ++ classes)),
      length-append fields (methods ++ classes),
      length-append methods classes,
      numbered_size (text_row_form offsets) 4 (text_size offsets) 0 ids.texts,
      flat_size u32_form 4 little_size ids.types,
      numbered_size (proto_row_form offsets) 12 (proto_size offsets) 0 ids.protos,
      flat_size field_row_form 8 field_size ids.fields,
      flat_size method_row_form 8 method_size ids.methods,
      numbered_size (class_row_form offsets) 32 (class_size offsets) 0 ids.classes,
    )
