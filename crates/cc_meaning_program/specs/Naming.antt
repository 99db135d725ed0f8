-- The instructions of a file in their order, and what each names after resolution.
use Rattle.std.specs.Prelude.{◌≡◌, ℕ, List, [], ◌∷◌, ◌++◌, Option, Some, None, slice_get}
use Rattle.cc_meaning.specs.declared.file.FieldRow.{FieldRow}
use Rattle.cc_meaning.specs.declared.file.Ids.{Ids}
use Rattle.cc_meaning.specs.declared.file.MethodRow.{MethodRow}
use Rattle.cc_meaning.specs.declared.file.RawClass.{RawClass}
use Rattle.cc_meaning.specs.declared.file.RawCode.{RawCode}
use Rattle.cc_meaning.specs.declared.file.RawMethod.{RawMethod}
use Rattle.cc_meaning.specs.declared.program.Placed.{Placed}
use Rattle.cc_meaning_program.specs.declared.reference.Reference.TheVariants as reference
use Rattle.cc_meaning_program.specs.Instructions.{AreInstructions}
use Rattle.cc_meaning_program.specs.Named.{type_name, field_member, method_member}
use Rattle.cc_meaning_program.specs.References.{reference_of}
use Rattle.cc_meaning_program.specs.Owners.{MethodOwner, FieldOwner}

-- ---- all instructions

-- the instructions of a method, none where it has no code
abbrev pub BodyIs : Option RawCode → List Placed → Type 0
BodyIs None placed = placed ≡ []
BodyIs (Some code) placed = AreInstructions code.units placed

-- those of methods, one method behind the other
pub data MethodsAre : List RawMethod → List Placed → Type 0 where
  none : MethodsAre [] []
  next : {method : RawMethod} {methods : List RawMethod} (body rest : List Placed) → BodyIs method.code body → MethodsAre methods rest → MethodsAre (method ∷ methods) (body ++ rest)

-- those of classes, one class behind the other
pub data ClassesAre : List RawClass → List Placed → Type 0 where
  none : ClassesAre [] []
  next : {class : RawClass} {classes : List RawClass} (bodies rest : List Placed) → MethodsAre class.methods bodies → ClassesAre classes rest → ClassesAre (class ∷ classes) (bodies ++ rest)

-- ---- what they name

-- a row of methods names this method of this class after resolution
pub record RowNamesMethod (ids : Ids) (classes : List RawClass) (row : ℕ) (owner member : List ℕ) : Type 0 where
  pub stated : MethodRow
  pub there : slice_get ids.methods row ≡ Some stated
  pub within : method_member ids row ≡ member
  pub owned : MethodOwner ids classes (type_name ids stated.class) member owner

-- a row of fields names this field of this class after resolution
pub record RowNamesField (ids : Ids) (classes : List RawClass) (row : ℕ) (owner member : List ℕ) : Type 0 where
  pub stated : FieldRow
  pub there : slice_get ids.fields row ≡ Some stated
  pub within : field_member ids row ≡ member
  pub owned : FieldOwner ids classes (type_name ids stated.class) member owner

pub record NamesMethod (ids : Ids) (classes : List RawClass) (owner member : List ℕ) (placed : Placed) : Type 0 where
  pub row : ℕ
  pub refers : reference_of placed.insn ≡ Some (reference.Method row)
  pub names : RowNamesMethod ids classes row owner member

pub record NamesField (ids : Ids) (classes : List RawClass) (owner member : List ℕ) (placed : Placed) : Type 0 where
  pub row : ℕ
  pub refers : reference_of placed.insn ≡ Some (reference.Field row)
  pub names : RowNamesField ids classes row owner member
