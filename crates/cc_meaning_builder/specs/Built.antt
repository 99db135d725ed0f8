-- What the file that is built has, and which faults it can have.
use Rattle.std.specs.Prelude.{◌≡◌, ◌⊎◌, ℕ, ◌≤◌, ◌<◌, pos, true, false, List, length, take, slice_get, Option, Some, None, All, Contains}
use Rattle.cc_meaning.specs.declared.fault.DexFault.{DexFault}
use Rattle.cc_meaning.specs.declared.fault.DexFault.TheVariants as fault
use Rattle.cc_meaning.specs.declared.file.ClassRow.{ClassRow}
use Rattle.cc_meaning.specs.declared.file.Ids.{Ids}
use Rattle.cc_meaning.specs.declared.file.RawClass.{RawClass}
use Rattle.cc_meaning.specs.declared.file.RawCode.{RawCode}
use Rattle.cc_meaning.specs.declared.file.RawField.{RawField}
use Rattle.cc_meaning.specs.declared.file.RawMethod.{RawMethod}
use Rattle.cc_meaning.specs.declared.file.RawTry.{RawTry}
use Rattle.cc_meaning.specs.declared.program.StaticValue.{StaticValue}
use Rattle.cc_meaning.specs.declared.program.StaticValue.TheVariants as static
use Rattle.cc_meaning_dex.specs.Ids.{SpellsIds}
use Rattle.cc_meaning_dex.specs.Causes.{IsFirstCause}
use Rattle.cc_meaning_dex.specs.Classes.{EachPair, SpellsClasses}
use Rattle.cc_meaning_dex.specs.CodeItems.{argument_registers, has_no_code}
use Rattle.cc_meaning_dex.specs.Members.{SpellsMembers}
use Rattle.cc_meaning_dex.specs.Values.{field_kind}
use Rattle.cc_meaning_dex.specs.declared.items.Members.{Members}
use Rattle.cc_meaning_dex.specs.declared.items.ValueKind.{ValueKind}
use Rattle.cc_meaning_dex.specs.declared.items.ValueKind.TheVariants as kind
use Rattle.cc_meaning_builder.specs.declared.content.ListedClass.{ListedClass}
use Rattle.cc_meaning_builder.specs.Forms.{is_unit, is_within, static_fields}
use Rattle.cc_meaning_builder.specs.Members.{AreOuts, AreRawClasses}
use Rattle.cc_meaning_builder.specs.Tables.{AreTables}
use Rattle.cc_meaning_builder.specs.Written.{AreSameTables, FitsFormat, HasNoSections, MethodsPass}

-- ---- whether what was added suits

-- a method that is native or abstract has no code; each other has, and its arguments are among its registers
abbrev pub SuitsFlags : Ids → RawMethod → Option RawCode → Type 0
SuitsFlags ids method None = has_no_code method.flags ≡ true
SuitsFlags ids method (Some code) = (has_no_code method.flags ≡ false) × (argument_registers ids method.row method.flags ≡ Some code.ins) × (code.ins ≤ code.registers)

abbrev pub HasSuitedCode : Ids → RawMethod → Type 0
HasSuitedCode ids method = SuitsFlags ids method method.code

-- each try lies in the code
abbrev pub AreTriesInside : RawCode → Type 0
AreTriesInside code = All (λ (try : RawTry). try.end ≤ length code.units) code.tries

abbrev pub HasSuitedTries : RawMethod → Type 0
HasSuitedTries method = (code : RawCode) → method.code ≡ Some code → AreTriesInside code

-- a value is of the kind of its field, and in its range
abbrev pub SuitsKind : Ids → Option ValueKind → StaticValue → Type 0
SuitsKind ids (Some kind.Boolean) (static.Int n) = (n ≡ pos 0) ⊎ (n ≡ pos 1)
SuitsKind ids (Some kind.Byte) (static.Int n) = is_within 7 n ≡ true
SuitsKind ids (Some kind.Short) (static.Int n) = is_within 15 n ≡ true
SuitsKind ids (Some kind.Char) (static.Int n) = is_unit n ≡ true
SuitsKind ids (Some kind.Int) (static.Int n) = is_within 31 n ≡ true
SuitsKind ids (Some kind.Long) (static.Long n) = is_within 63 n ≡ true
SuitsKind ids (Some kind.Text) (static.Text row) = row < length ids.texts
SuitsKind ids (Some kind.Text) static.Null = Unit {0}
SuitsKind ids (Some kind.Reference) static.Null = Unit {0}
SuitsKind ids kind value = ⊥

abbrev pub SuitsField : Ids → RawField → StaticValue → Type 0
SuitsField ids field value = SuitsKind ids (field_kind ids field.row) value

-- the values of the first static fields
pub record HasSuitedValues (ids : Ids) (class : RawClass) : Type 0 where
  pub few : length class.values ≤ length (static_fields class.fields)
  pub each : EachPair (SuitsField ids) (take (length class.values) (static_fields class.fields)) class.values

pub record IsSuited (ids : Ids) (class : RawClass) : Type 0 where
  pub code : All (HasSuitedCode ids) class.methods
  pub tries : All HasSuitedTries class.methods
  pub values : HasSuitedValues ids class

-- ---- faults

-- The cause of a fault is in what was added: in the code of a method, in its tries, or in the values of a class. No other fault is there.
abbrev pub IsAdded : Ids → List RawClass → DexFault → Type 0
IsAdded ids classes (fault.BadCode row) = (class : RawClass) × (method : RawMethod) × Contains classes class × Contains class.methods method × (method.row ≡ row) × ¬ HasSuitedCode ids method
IsAdded ids classes (fault.BadTry row) = (class : RawClass) × (method : RawMethod) × Contains classes class × Contains class.methods method × (method.row ≡ row) × ¬ HasSuitedTries method
IsAdded ids classes (fault.BadValue number) = (class : RawClass) × (slice_get classes number ≡ Some class) × ¬ HasSuitedValues ids class
IsAdded ids classes other = ⊥

-- ---- the file

-- the items of code state this of each method of each class, in the order in which the file has them
abbrev pub SpellsOuts : List ℕ → Ids → List (List ℕ) → Type 0
SpellsOuts file ids outs =
    (place : ℕ) (stated : ClassRow) (passed : List ℕ) (members : Members) → slice_get ids.classes place ≡ Some stated → slice_get outs place ≡ Some passed → SpellsMembers file ids stated members →
    MethodsPass file members.methods passed

-- What a file of these tables and classes is when it is read again. Its header and tables have no fault, and are these tables, with offsets of members and
-- values besides; its classes have none but where they were added with it; and where they suit, they are what the file spells. Its code items state what
-- their code passes, and its header neither a link section nor a map.
pub record IsReadAgain (ids : Ids) (classes : List RawClass) (outs : List (List ℕ)) (file : List ℕ) : Type 0 where
  pub read : Ids
  pub same : AreSameTables read ids
  pub spelled : SpellsIds file read
  pub faults : (fault : DexFault) → IsFirstCause file read fault → IsAdded read classes fault
  pub suited : All (IsSuited read) classes → SpellsClasses file read classes
  pub passed : SpellsOuts file read outs
  pub sections : HasNoSections file

-- The file that is built from what was added: tables of all that is named, the members in a file's form, and what the code of each method passes; within the
-- bounds of the format it is read again.
pub record Built (content : List ListedClass) (file : List ℕ) : Type 0 where
  pub ids : Ids
  pub classes : List RawClass
  pub outs : List (List ℕ)
  pub tables : AreTables content ids
  pub members : AreRawClasses content ids classes
  pub passed : AreOuts ids content classes outs
  pub again : FitsFormat file ids classes → IsReadAgain ids classes outs file
