-- What each fault of a class means, by what is spelled.
use Rattle.std.specs.Prelude.{◌≡◌, ℕ, ◌<◌, List, slice_get, Some, Err}
use Rattle.cc_meaning.specs.declared.fault.DexFault.{DexFault}
use Rattle.cc_meaning.specs.declared.fault.DexFault.TheVariants as fault
use Rattle.cc_meaning.specs.declared.file.Ids.{Ids}
use Rattle.cc_meaning.specs.declared.file.ClassRow.{ClassRow}
use Rattle.cc_meaning.specs.declared.file.RawClass.{RawClass}
use Rattle.cc_meaning.specs.declared.file.RawMethod.{RawMethod}
use Rattle.cc_meaning.specs.declared.program.StaticValue.{StaticValue}
use Rattle.cc_meaning_dex.specs.declared.items.StatedMethod.{StatedMethod}
use Rattle.cc_meaning_dex.specs.declared.items.Members.{Members}
use Rattle.cc_meaning_dex.specs.Members.{SpellsMembers}
use Rattle.cc_meaning_dex.specs.CodeItems.{HasSoundCode}
use Rattle.cc_meaning_dex.specs.Tries.{SpellsMethod}
use Rattle.cc_meaning_dex.specs.Values.{SpellsValues}
use Rattle.cc_meaning_dex.specs.Classes.{SpellsClass, classes_of}

-- the first of these items that isn't so, and its place among them
pub record IsFirstWithout {A : Type 0} (is_so : A → Type 0) (items : List A) (place : ℕ) (item : A) : Type 0 where
  pub there : slice_get items place ≡ Some item
  pub lacks : ¬ is_so item
  pub before : (k : ℕ) (other : A) → k < place → slice_get items k ≡ Some other → is_so other

-- each of these items is so
abbrev pub EachIs : {A : Type 0} → (A → Type 0) → List A → Type 0
EachIs {A} is_so items = (k : ℕ) (item : A) → slice_get items k ≡ Some item → is_so item

-- a method has tries, if any, that are spelled
abbrev pub IsSpelled : List ℕ → Ids → StatedMethod → Type 0
IsSpelled file ids stated = (method : RawMethod) × SpellsMethod file ids stated method

-- the first method that hasn't the code that it is to have is of this row
pub record LacksCode (file : List ℕ) (ids : Ids) (methods : List StatedMethod) (row : ℕ) : Type 0 where
  pub place : ℕ
  pub method : StatedMethod
  pub first : IsFirstWithout (HasSoundCode file ids) methods place method
  pub named : method.row ≡ row

-- each method has the code that it is to have, and the first whose tries aren't spelled is of this row
pub record LacksTries (file : List ℕ) (ids : Ids) (methods : List StatedMethod) (row : ℕ) : Type 0 where
  pub sound : EachIs (HasSoundCode file ids) methods
  pub place : ℕ
  pub method : StatedMethod
  pub first : IsFirstWithout (IsSpelled file ids) methods place method
  pub named : method.row ≡ row

-- all of the class but its values is spelled
pub record LacksValues (file : List ℕ) (ids : Ids) (stated : ClassRow) (members : Members) : Type 0 where
  pub sound : EachIs (HasSoundCode file ids) members.methods
  pub spelled : EachIs (IsSpelled file ids) members.methods
  pub lacks : (values : List StaticValue) → ¬ SpellsValues file ids members.fields stated.values_at values

-- what the fault of the class of this number means
abbrev pub IsCause : List ℕ → Ids → ℕ → ClassRow → DexFault → Type 0
IsCause file ids number stated (fault.BadClassData class) = (class ≡ number) × ((members : Members) → ¬ SpellsMembers file ids stated members)
IsCause file ids number stated (fault.BadCode row) = (members : Members) × SpellsMembers file ids stated members × LacksCode file ids members.methods row
IsCause file ids number stated (fault.BadTry row) = (members : Members) × SpellsMembers file ids stated members × LacksTries file ids members.methods row
IsCause file ids number stated (fault.BadValue class) = (class ≡ number) × (members : Members) × SpellsMembers file ids stated members × LacksValues file ids stated members
IsCause file ids number stated other = ⊥

-- the first class that isn't spelled, and the cause of its fault
pub record IsFirstCause (file : List ℕ) (ids : Ids) (fault : DexFault) : Type 0 where
  pub number : ℕ
  pub stated : ClassRow
  pub first : IsFirstWithout (λ stated. (class : RawClass) × SpellsClass file ids stated class) ids.classes number stated
  pub cause : IsCause file ids number stated fault

-- each fault comes exactly where its cause is
abbrev pub FaultsCaused : Type 0
FaultsCaused = (file : List ℕ) (ids : Ids) (fault : DexFault) → classes_of file ids ≡ Err fault → IsFirstCause file ids fault
