-- Class data (Dalvik Executable format, `class_data_item`): four counts, then that many static fields, instance fields, direct methods and
-- virtual methods.
use Rattle.std.specs.Prelude.{◌≡◌, ◌≢◌, ◌⊎◌, ℕ, ◌+◌, ◌^◌, ◌<◌, Bool, true, false, nat_lt, ◌==◌, if◌then◌else◌, List, [], ◌++◌, Option, Some, None}
use Rattle.cc_meaning.specs.declared.file.Ids.{Ids}
use Rattle.cc_meaning.specs.declared.file.ClassRow.{ClassRow}
use Rattle.cc_meaning.specs.declared.file.RawField.{RawField}
use Rattle.cc_meaning_dex.specs.Leb128.{SpellsUleb}
use Rattle.cc_meaning_dex.specs.declared.items.Cursor.{Cursor}
use Rattle.cc_meaning_dex.specs.declared.items.StatedMethod.{StatedMethod}
use Rattle.cc_meaning_dex.specs.declared.items.Members.{Members}
use Rattle.cc_meaning_dex.specs.Sequences.{◌>>=◌, number_at, ListStands, list_at}
use Rattle.cc_meaning_dex.specs.Rows.{IsFieldOf, IsMethodOf, is_field_of, is_method_of}

-- ---- what is spelled

-- a field of a class: how far its row lies behind that of the field before it in its list, or behind 0, and its access flags
pub record FieldStands (file : List ℕ) (ids : Ids) (class : ℕ) (is_static : Bool) (from : Cursor) (field : RawField) (next : Cursor) : Type 0 where
  pub difference : ℕ
  pub place : ℕ
  pub step : SpellsUleb file from.at difference place
  pub flags : SpellsUleb file place field.flags next.at
  pub row : field.row ≡ from.row + difference
  pub fits : from.row + difference < 2 ^ 32
  pub owned : IsFieldOf ids class (from.row + difference)
  pub list : field.is_static ≡ is_static
  pub behind : next.row ≡ from.row + difference

-- a method of a class: the same, and the offset of its code
pub record MethodStands (file : List ℕ) (ids : Ids) (class : ℕ) (is_direct : Bool) (from : Cursor) (method : StatedMethod) (next : Cursor) : Type 0 where
  pub difference : ℕ
  pub flags_at : ℕ
  pub code_place : ℕ
  pub step : SpellsUleb file from.at difference flags_at
  pub flags : SpellsUleb file flags_at method.flags code_place
  pub code : SpellsUleb file code_place method.code_at next.at
  pub row : method.row ≡ from.row + difference
  pub fits : from.row + difference < 2 ^ 32
  pub owned : IsMethodOf ids class (from.row + difference)
  pub list : method.is_direct ≡ is_direct
  pub behind : next.row ≡ from.row + difference

-- the four counts at `at`, and the place after them
pub record CountsStand (file : List ℕ) (at : ℕ) (statics instances directs virtuals : ℕ) (next : ℕ) : Type 0 where
  pub instances_at : ℕ
  pub directs_at : ℕ
  pub virtuals_at : ℕ
  pub static_fields : SpellsUleb file at statics instances_at
  pub instance_fields : SpellsUleb file instances_at instances directs_at
  pub direct_methods : SpellsUleb file directs_at directs virtuals_at
  pub virtual_methods : SpellsUleb file virtuals_at virtuals next

-- the class data at `at`, of the class of this row of types
pub record SpellsClassData (file : List ℕ) (ids : Ids) (class : ℕ) (at : ℕ) (members : Members) : Type 0 where
  pub statics : ℕ
  pub instances : ℕ
  pub directs : ℕ
  pub virtuals : ℕ
  pub statics_at : ℕ
  pub counts : CountsStand file at statics instances directs virtuals statics_at
  pub static_fields : List RawField
  pub instances_at : ℕ
  pub static_list : ListStands (FieldStands file ids class true) statics statics_at static_fields instances_at
  pub instance_fields : List RawField
  pub directs_at : ℕ
  pub instance_list : ListStands (FieldStands file ids class false) instances instances_at instance_fields directs_at
  pub direct_methods : List StatedMethod
  pub virtuals_at : ℕ
  pub direct_list : ListStands (MethodStands file ids class true) directs directs_at direct_methods virtuals_at
  pub virtual_methods : List StatedMethod
  pub end : ℕ
  pub virtual_list : ListStands (MethodStands file ids class false) virtuals virtuals_at virtual_methods end
  pub fields : members.fields ≡ static_fields ++ instance_fields
  pub methods : members.methods ≡ direct_methods ++ virtual_methods

abbrev pub no_members : Members
no_members = record { fields = []; methods = [] }

-- the members of a class, none at offset 0
abbrev pub SpellsMembers : List ℕ → Ids → ClassRow → Members → Type 0
SpellsMembers file ids class members =
    ((class.members_at ≡ 0) × (members ≡ no_members)) ⊎ ((class.members_at ≢ 0) × SpellsClassData file ids class.class class.members_at members)

-- ---- how it is read

-- a row that lies so far behind another, and is a number of 32 bits
abbrev pub row_behind : ℕ → ℕ → Option ℕ
row_behind difference before = if nat_lt (before + difference) (2 ^ 32) then Some (before + difference) else None

-- something that holds is asked of what was read
abbrev pub only_if : {A : Type 0} → Bool → A → Option A
only_if true read = Some read
only_if false read = None

unfoldable pub field_at : List ℕ → Ids → ℕ → Bool → Cursor → Option (RawField × Cursor)
field_at file ids class is_static from = do
  difference ← number_at file from.at
  flags ← number_at file difference.1
  row ← row_behind difference.0 from.row
  only_if (is_field_of ids class row) (record { row = row; flags = flags.0; is_static = is_static }, record { at = flags.1; row = row })

unfoldable pub method_at : List ℕ → Ids → ℕ → Bool → Cursor → Option (StatedMethod × Cursor)
method_at file ids class is_direct from = do
  difference ← number_at file from.at
  flags ← number_at file difference.1
  code ← number_at file flags.1
  row ← row_behind difference.0 from.row
  only_if (is_method_of ids class row) (record { row = row; flags = flags.0; is_direct = is_direct; code_at = code.0 }, record { at = code.1; row = row })

-- so many static fields from `at` on, then so many instance fields; and the place after them
unfoldable pub fields_at : List ℕ → Ids → ℕ → ℕ → ℕ → ℕ → Option (List RawField × ℕ)
fields_at file ids class statics instances at = do
  static_fields ← list_at (field_at file ids class true) statics at
  instance_fields ← list_at (field_at file ids class false) instances static_fields.1
  Some (static_fields.0 ++ instance_fields.0, instance_fields.1)

-- so many direct methods from `at` on, then so many virtual methods; and the place after them
unfoldable pub methods_at : List ℕ → Ids → ℕ → ℕ → ℕ → ℕ → Option (List StatedMethod × ℕ)
methods_at file ids class directs virtuals at = do
  direct_methods ← list_at (method_at file ids class true) directs at
  virtual_methods ← list_at (method_at file ids class false) virtuals direct_methods.1
  Some (direct_methods.0 ++ virtual_methods.0, virtual_methods.1)

unfoldable pub class_data_at : List ℕ → Ids → ℕ → ℕ → Option Members
class_data_at file ids class at = do
  statics ← number_at file at
  instances ← number_at file statics.1
  directs ← number_at file instances.1
  virtuals ← number_at file directs.1
  fields ← fields_at file ids class statics.0 instances.0 virtuals.1
  methods ← methods_at file ids class directs.0 virtuals.0 fields.1
  Some (record { fields = fields.0; methods = methods.0 })

unfoldable pub members_of : List ℕ → Ids → ClassRow → Option Members
members_of file ids class = if class.members_at == 0 then Some no_members else class_data_at file ids class.class class.members_at
