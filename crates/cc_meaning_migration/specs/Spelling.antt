-- The bytes of images: each image of an entry has one spelling, and each image of an end one in each version. Numbers are big-endian.
use Rattle.std.specs.Prelude.{ℕ, zero, suc, List, [], ◌∷◌, ◌++◌, length, Option, Some, None}
use Rattle.std.specs.List.{flat_map}
use Rattle.std.specs.Int.{w16, w32, w64, to_be_bytes, cast_unsigned}
use Rattle.cc_meaning.specs.declared.value.Value.{Value}
use Rattle.cc_meaning.specs.declared.value.Value.TheVariants as value
use Rattle.cc_meaning.specs.declared.value.Made.{Made}
use Rattle.cc_meaning.specs.declared.value.Object.{Object}
use Rattle.cc_meaning.specs.declared.value.Object.TheVariants as object
use Rattle.cc_meaning.specs.declared.report.Arg.{Arg}
use Rattle.cc_meaning.specs.declared.report.Arg.TheVariants as arg
use Rattle.cc_meaning.specs.declared.report.SentCall.{SentCall}
use Rattle.cc_meaning.specs.declared.report.StopCause.{StopCause}
use Rattle.cc_meaning.specs.declared.report.StopCause.TheVariants as cause
use Rattle.cc_meaning.specs.declared.report.CallEnd.{CallEnd}
use Rattle.cc_meaning.specs.declared.report.CallEnd.TheVariants as end
use Rattle.cc_meaning.specs.declared.image.Contents.{Contents}
use Rattle.cc_meaning.specs.declared.image.Contents.TheVariants as contents
use Rattle.cc_meaning.specs.declared.image.RunImage.{RunImage}
use Rattle.cc_meaning_migration.specs.declared.image.BackImage.{BackImage}
use Rattle.cc_meaning_migration.specs.declared.image.Change.{Change}
use Rattle.cc_meaning_migration.specs.declared.image.Version.{Version}
use Rattle.cc_meaning_migration.specs.declared.image.Version.TheVariants.{First, Second}

-- numbers of two, four and eight bytes
abbrev pub u2 : ℕ → List ℕ
u2 n = to_be_bytes w16 n

abbrev pub u4 : ℕ → List ℕ
u4 n = to_be_bytes w32 n

abbrev pub u8 : ℕ → List ℕ
u8 n = to_be_bytes w64 n

-- a count in four bytes, and the spellings of that many items
abbrev pub counted : {A : Type 0} → (A → List ℕ) → List A → List ℕ
counted spell items = u4 (length items) ++ flat_map spell items

-- ---- versions

-- the byte by which the two sides name a version
unfoldable pub byte_of_version : Version → ℕ
byte_of_version First = 1
byte_of_version Second = 2

-- the version that a byte names
unfoldable pub version_of_byte : ℕ → Option Version
version_of_byte (suc zero) = Some First
version_of_byte (suc (suc zero)) = Some Second
version_of_byte _ = None

-- ---- values and objects

-- the number of an object in the image, 0 for null
abbrev pub spelled_reference : Option ℕ → List ℕ
spelled_reference None = u4 0
spelled_reference (Some number) = u4 number

-- a number in two's complement, or a reference
abbrev pub spelled_value : Value → List ℕ
spelled_value (value.Int n) = u4 (cast_unsigned w32 n)
spelled_value (value.Long n) = u8 (cast_unsigned w64 n)
spelled_value (value.Obj reference) = spelled_reference reference

abbrev pub spelled_values : List Value → List ℕ
spelled_values values = flat_map spelled_value values

abbrev pub spelled_units : List ℕ → List ℕ
spelled_units units = counted u2 units

abbrev pub spelled_made : Made → List ℕ
spelled_made made = u4 made.what ++ u4 made.number

-- a kind in one byte, and what it holds
abbrev pub spelled_object : Object → List ℕ
spelled_object object.Out = 0 ∷ []
spelled_object (object.Instance class values) = 1 ∷ u4 class ++ spelled_values values
spelled_object (object.Array class values) = 2 ∷ u4 class ++ counted spelled_value values
spelled_object (object.Text units) = 3 ∷ spelled_units units
spelled_object (object.Builder units) = 4 ∷ spelled_units units
spelled_object (object.Constant class) = 5 ∷ u4 class

-- ---- the image of an entry

unfoldable pub spelled_run : RunImage → List ℕ
spelled_run image =
    u4 image.method ++ (u8 image.instructions ++ (u4 image.words ++ (u2 image.depth ++ (u4 image.registers
    ++ (image.statuses ++ (spelled_values image.args ++ (spelled_values image.statics
    ++ (counted spelled_made image.literals ++ (counted spelled_made image.constants
    ++ flat_map spelled_object image.objects)))))))))

-- ---- the image of an end

abbrev pub spelled_result : Option Value → List ℕ
spelled_result None = []
spelled_result (Some v) = spelled_value v

abbrev pub spelled_stop : StopCause → List ℕ
spelled_stop cause.Budget = 2 ∷ []
spelled_stop cause.Heap = 3 ∷ []
spelled_stop (cause.ScriptEnd class) = 4 ∷ u4 class
spelled_stop (cause.ScriptOther class wanted found) = 5 ∷ u4 class ++ (u4 wanted ++ u4 found)

abbrev pub spelled_end : CallEnd → List ℕ
spelled_end (end.Returned v) = 0 ∷ spelled_result v
spelled_end (end.Thrown number) = 1 ∷ u4 number
spelled_end (end.Stopped stop) = spelled_stop stop

abbrev pub spelled_argument : Arg → List ℕ
spelled_argument (arg.Int n) = u4 (cast_unsigned w32 n)
spelled_argument (arg.Long n) = u8 (cast_unsigned w64 n)
spelled_argument arg.Null = 0 ∷ []
spelled_argument (arg.Instance class) = 1 ∷ u4 class
spelled_argument (arg.Text units) = 2 ∷ spelled_units units

abbrev pub spelled_call : SentCall → List ℕ
spelled_call call = u4 call.method ++ flat_map spelled_argument call.args

abbrev pub spelled_contents : Contents → List ℕ
spelled_contents contents.Nothing = []
spelled_contents (contents.Values values) = spelled_values values
spelled_contents (contents.Units units) = spelled_units units

abbrev pub spelled_change : Change → List ℕ
spelled_change change = u4 change.number ++ spelled_contents change.contents

-- The first version spells what each object of the entry holds, in number order. The second counts those that it lists, and gives the number of each.
unfoldable pub spelled_changes : Version → List Change → List ℕ
spelled_changes First changes = flat_map (λ (change : Change). spelled_contents change.contents) changes
spelled_changes Second changes = counted spelled_change changes

unfoldable pub spelled_back : Version → BackImage → List ℕ
spelled_back version image =
    spelled_end image.ending ++ (u8 image.instructions ++ (u4 image.words ++ (image.statuses ++ (spelled_values image.statics
    ++ (counted spelled_made image.literals ++ (counted spelled_made image.constants ++ (counted spelled_call image.events
    ++ (spelled_changes version image.old ++ flat_map spelled_object image.fresh))))))))
