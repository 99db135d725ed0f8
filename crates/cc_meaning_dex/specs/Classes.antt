-- All classes of a file, and the first fault: of the first class in the file's order that has one, first of its class data, then of the code of its
-- first method, then of the tries of its first method, then of its values.
use Rattle.std.specs.Prelude.{◌≡◌, ℕ, ◌+◌, if◌then◌else◌, List, [], ◌∷◌, Option, Some, None, Result, Ok, Err}
use Rattle.cc_meaning.specs.declared.fault.DexFault.{DexFault}
use Rattle.cc_meaning.specs.declared.fault.DexFault.TheVariants.{BadClassData, BadCode, BadTry, BadValue}
use Rattle.cc_meaning.specs.declared.file.Ids.{Ids}
use Rattle.cc_meaning.specs.declared.file.ClassRow.{ClassRow}
use Rattle.cc_meaning.specs.declared.file.RawClass.{RawClass}
use Rattle.cc_meaning.specs.declared.file.RawMethod.{RawMethod}
use Rattle.cc_meaning_dex.specs.declared.items.StatedMethod.{StatedMethod}
use Rattle.cc_meaning_dex.specs.declared.items.Members.{Members}
use Rattle.cc_meaning_dex.specs.Members.{SpellsMembers, members_of}
use Rattle.cc_meaning_dex.specs.CodeItems.{HasSoundCode, has_sound_code}
use Rattle.cc_meaning_dex.specs.Tries.{SpellsMethod, method_of}
use Rattle.cc_meaning_dex.specs.Values.{SpellsValues, values_at}

-- ---- what is spelled

-- each of the ones goes with the other in its place, and there are as many
abbrev pub EachPair : {A B : Type 0} → (A → B → Type 0) → List A → List B → Type 0
EachPair holds [] [] = Unit {0}
EachPair holds (x ∷ xs) (y ∷ ys) = holds x y × EachPair holds xs ys
EachPair holds [] (y ∷ ys) = ⊥
EachPair holds (x ∷ xs) [] = ⊥

-- a method that has the code that it is to have
pub record SpellsSoundMethod (file : List ℕ) (ids : Ids) (stated : StatedMethod) (method : RawMethod) : Type 0 where
  pub sound : HasSoundCode file ids stated
  pub spelled : SpellsMethod file ids stated method

-- a class: its class data with the code of each method, and its values
pub record SpellsClass (file : List ℕ) (ids : Ids) (stated : ClassRow) (class : RawClass) : Type 0 where
  pub members : Members
  pub spelled : SpellsMembers file ids stated members
  pub fields : class.fields ≡ members.fields
  pub methods : EachPair (SpellsSoundMethod file ids) members.methods class.methods
  pub values : SpellsValues file ids members.fields stated.values_at class.values

-- the classes of a file, in the order of its class definitions
abbrev pub SpellsClasses : List ℕ → Ids → List RawClass → Type 0
SpellsClasses file ids classes = EachPair (SpellsClass file ids) ids.classes classes

-- ---- how it is read

infixl 10 ◌>>=◌
abbrev pub ◌>>=◌ : {A B : Type 0} → Result A DexFault → (A → Result B DexFault) → Result B DexFault
(Ok x) >>= f = f x
(Err fault) >>= f = Err fault

-- a part that isn't read is this fault
abbrev pub or_fault : {A : Type 0} → Option A → DexFault → Result A DexFault
or_fault (Some read) fault = Ok read
or_fault None fault = Err fault

-- what follows where there is no fault
abbrev pub unless : {A : Type 0} → Option DexFault → Result A DexFault → Result A DexFault
unless None rest = rest
unless (Some fault) rest = Err fault

-- the fault of the first method that hasn't the code that it is to have
unfoldable pub code_fault : List ℕ → Ids → List StatedMethod → Option DexFault
code_fault file ids [] = None
code_fault file ids (method ∷ methods) = if has_sound_code file ids method then code_fault file ids methods else Some (BadCode method.row)

-- the methods with their code, up to the first whose tries are faulty
unfoldable pub methods_with_code : List ℕ → Ids → List StatedMethod → Result (List RawMethod) DexFault
methods_with_code file ids [] = Ok []
methods_with_code file ids (stated ∷ rest) = do
  method ← or_fault (method_of file ids stated) (BadTry stated.row)
  methods ← methods_with_code file ids rest
  Ok (method ∷ methods)

-- a class, by its number among the class definitions
unfoldable pub class_of : List ℕ → Ids → ℕ → ClassRow → Result RawClass DexFault
class_of file ids number stated = do
  members ← or_fault (members_of file ids stated) (BadClassData number)
  methods ← unless (code_fault file ids members.methods) (methods_with_code file ids members.methods)
  values ← or_fault (values_at file ids members.fields stated.values_at) (BadValue number)
  Ok (record { fields = members.fields; methods = methods; values = values })

-- the classes from this number on
unfoldable pub classes_from : List ℕ → Ids → ℕ → List ClassRow → Result (List RawClass) DexFault
classes_from file ids number [] = Ok []
classes_from file ids number (stated ∷ rest) = do
  class ← class_of file ids number stated
  classes ← classes_from file ids (number + 1) rest
  Ok (class ∷ classes)

-- all classes of a file, or the first fault
abbrev pub classes_of : List ℕ → Ids → Result (List RawClass) DexFault
classes_of file ids = classes_from file ids 0 ids.classes
