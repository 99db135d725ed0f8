-- What is written is what is read: the laws of the forms of a file's parts.
use Rattle.std.specs.Prelude.{◌≡◌, ◌≢◌, ℕ, ◌+◌, ◌^◌, ◌<◌, ◌≤◌, ℤ, pos, neg_ℤ, Bool, true, false, List, [], ◌∷◌, ◌++◌, length, slice_get, Some, None, All, AllPairs, Contains}
use Rattle.cc_meaning.specs.declared.file.ClassRow.{ClassRow}
use Rattle.cc_meaning.specs.declared.file.FieldRow.{FieldRow}
use Rattle.cc_meaning.specs.declared.file.Ids.{Ids}
use Rattle.cc_meaning.specs.declared.file.MethodRow.{MethodRow}
use Rattle.cc_meaning.specs.declared.file.RawCatch.{RawCatch}
use Rattle.cc_meaning.specs.declared.file.RawClass.{RawClass}
use Rattle.cc_meaning.specs.declared.file.RawCode.{RawCode}
use Rattle.cc_meaning.specs.declared.file.RawField.{RawField}
use Rattle.cc_meaning.specs.declared.file.RawMethod.{RawMethod}
use Rattle.cc_meaning.specs.declared.file.RawTry.{RawTry}
use Rattle.cc_meaning_dex.specs.Descriptors.{IsPaired}
use Rattle.cc_meaning_dex.specs.Ids.{ListsTypes, SpellsIds, TablesSpelled}
use Rattle.cc_meaning_dex.specs.Leb128.{SpellsUleb, SpellsSleb}
use Rattle.cc_meaning_dex.specs.Numbers.{Stands, Within, u16_at, u32_at}
use Rattle.cc_meaning_dex.specs.Tables.{HasTables, IsHeader, longest_file}
use Rattle.cc_meaning_dex.specs.Texts.{SpellsText}
use Rattle.cc_meaning_dex.specs.declared.items.Members.{Members}
use Rattle.cc_meaning_dex.specs.declared.items.StatedMethod.{StatedMethod}
use Rattle.cc_meaning_dex.specs.CodeItems.{HasSoundCode}
use Rattle.cc_meaning_dex.specs.Members.{SpellsMembers}
use Rattle.cc_meaning_dex.specs.Rows.{IsFieldOf, IsMethodOf}
use Rattle.cc_meaning_dex.specs.Tries.{IsValueType, SpellsMethod}
use Rattle.cc_meaning_dex.specs.Values.{SpellsValues}
use Rattle.cc_meaning_program.specs.Named.{text_of}
use Rattle.cc_meaning_program.specs.Rows.{FitTables}
use Rattle.cc_meaning_builder.specs.declared.content.ListedClass.{ListedClass}
use Rattle.cc_meaning_builder.specs.Built.{HasSuitedCode, HasSuitedTries, HasSuitedValues, IsReadAgain}
use Rattle.cc_meaning_builder.specs.Forms.{u16_form, u32_form, uleb_form, sleb_form, text_form, types_form}
use Rattle.cc_meaning_builder.specs.Members.{AreRawClasses, FieldBefore, MethodBefore}
use Rattle.cc_meaning_builder.specs.Tables.{AreTables}
use Rattle.cc_meaning_builder.specs.WellNamed.{WellNamed}
use Rattle.cc_meaning_builder.specs.Written.{AreMembersWritten, AreValuesWritten, FitsFormat, IsMethodWritten, IsWritten, IsSmallClass, IsSmallMethod, MethodFitsFormat}

-- ---- numbers, texts and lists of types

abbrev pub WrittenU16 : Type 0
WrittenU16 = (file : List ℕ) (at n : ℕ) → n < 65536 → Stands file at (u16_form n) → Within file at 2 × (u16_at file at ≡ n)

abbrev pub WrittenU32 : Type 0
WrittenU32 = (file : List ℕ) (at n : ℕ) → n < 2 ^ 32 → Stands file at (u32_form n) → Within file at 4 × (u32_at file at ≡ n)

abbrev pub WrittenUleb : Type 0
WrittenUleb = (file : List ℕ) (at n : ℕ) → n < 2 ^ 32 → Stands file at (uleb_form n) → SpellsUleb file at n (at + length (uleb_form n))

-- a size that is negative, or not
abbrev pub signed : Bool → ℕ → ℤ
signed true size = neg_ℤ (pos size)
signed false size = pos size

abbrev pub WrittenSleb : Type 0
WrittenSleb = (file : List ℕ) (at size : ℕ) (negative : Bool) → size < 2 ^ 31 → Stands file at (sleb_form negative size) → SpellsSleb file at (signed negative size) (at + length (sleb_form negative size))

abbrev pub WrittenText : Type 0
WrittenText = (file : List ℕ) (at : ℕ) (units : List ℕ) → All (λ unit. unit < 65536) units → length units < 2 ^ 32 → Stands file at (text_form units) → SpellsText file at units

abbrev pub WrittenTypes : Type 0
WrittenTypes = (file : List ℕ) (at : ℕ) (rows : List ℕ) → All (λ row. row < 65536) rows → length rows < 2 ^ 32 → at ≢ 0 → Stands file at (types_form rows) → ListsTypes file at rows

-- a part stands where its two parts stand one behind the other
abbrev pub StandsApart : Type 0
StandsApart = (file : List ℕ) (at : ℕ) (front back : List ℕ) → Stands file at (front ++ back) → Stands file at front × Stands file (at + length front) back

-- ---- tables

-- the names of members have no half of a pair alone
pub record NamesArePaired (ids : Ids) : Type 0 where
  pub of_fields : (number : ℕ) (field : FieldRow) → slice_get ids.fields number ≡ Some field → IsPaired (text_of ids field.name)
  pub of_methods : (number : ℕ) (method : MethodRow) → slice_get ids.methods number ≡ Some method → IsPaired (text_of ids method.name)

-- tables whose rows fit, and which a sound header states, have no fault
abbrev pub WrittenTables : Type 0
WrittenTables = (file : List ℕ) (ids : Ids) → FitTables ids → NamesArePaired ids → IsHeader file → HasTables file → TablesSpelled file ids → SpellsIds file ids

-- ---- members

-- the rows of a class's members are its own, in their order
pub record MembersAreOwn (ids : Ids) (type : ℕ) (class : RawClass) : Type 0 where
  pub each_field : All (λ (field : RawField). IsFieldOf ids type field.row) class.fields
  pub each_method : All (λ (method : RawMethod). IsMethodOf ids type method.row) class.methods
  pub fields_rise : AllPairs FieldBefore class.fields
  pub methods_rise : AllPairs MethodBefore class.methods

abbrev pub members_with : RawClass → List StatedMethod → Members
members_with class methods = record { fields = class.fields; methods = methods }

abbrev pub WrittenMembers : Type 0
WrittenMembers = (file : List ℕ) (ids : Ids) (stated : ClassRow) (class : RawClass) → length file ≤ longest_file → IsSmallClass class → MembersAreOwn ids stated.class class →
    (written : AreMembersWritten file stated class) → SpellsMembers file ids stated (members_with class written.methods)

-- ---- code

-- there are handlers, which take values, and only the last one takes all
pub record CatchesFit (ids : Ids) (catches : List RawCatch) : Type 0 where
  pub some : catches ≢ []
  pub types : (catch : RawCatch) (type : ℕ) → Contains catches catch → catch.row ≡ Some type → IsValueType ids type
  pub last : (front back : List RawCatch) (catch : RawCatch) → catches ≡ front ++ (catch ∷ back) → catch.row ≡ None → back ≡ []

abbrev pub HandlersFit : Ids → RawMethod → Type 0
HandlersFit ids method = (code : RawCode) → method.code ≡ Some code → All (λ (try : RawTry). CatchesFit ids try.catches) code.tries

abbrev pub WrittenCode : Type 0
WrittenCode = (file : List ℕ) (ids : Ids) (stated : StatedMethod) (method : RawMethod) → length file ≤ longest_file → IsSmallMethod method → MethodFitsFormat method →
    IsMethodWritten file stated method → HasSuitedCode ids method → HasSoundCode file ids stated

abbrev pub WrittenTries : Type 0
WrittenTries = (file : List ℕ) (ids : Ids) (stated : StatedMethod) (method : RawMethod) → length file ≤ longest_file → IsSmallMethod method → MethodFitsFormat method →
    IsMethodWritten file stated method → HandlersFit ids method → HasSuitedTries method → SpellsMethod file ids stated method

-- ---- values

abbrev pub WrittenValues : Type 0
WrittenValues = (file : List ℕ) (ids : Ids) (stated : ClassRow) (class : RawClass) → length file ≤ longest_file → IsSmallClass class → AllPairs FieldBefore class.fields →
    AreValuesWritten file ids stated class → HasSuitedValues ids class → SpellsValues file ids class.fields stated.values_at class.values

-- ---- the whole file

-- what is written for what was added is read again
abbrev pub WrittenIsReadAgain : Type 0
WrittenIsReadAgain = (content : List ListedClass) (ids : Ids) (classes : List RawClass) (outs : List (List ℕ)) (file : List ℕ) → WellNamed content → AreTables content ids → AreRawClasses content ids classes →
    FitsFormat file ids classes → IsWritten ids classes outs file → IsReadAgain ids classes outs file
