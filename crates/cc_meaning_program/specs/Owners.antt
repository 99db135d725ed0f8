-- The class that a named member belongs to.
use Rattle.std.specs.Prelude.{◌≡◌, ℕ, Bool, true, false, List, is_some}
use Rattle.cc_meaning.specs.declared.file.Ids.{Ids}
use Rattle.cc_meaning.specs.declared.file.RawClass.{RawClass}
use Rattle.cc_meaning.specs.declared.program.ClassKind.{ClassKind}
use Rattle.cc_meaning.specs.declared.program.ClassKind.TheVariants.{BuiltIn, Array}
use Rattle.cc_meaning_program.specs.Ancestry.{is_defined, kind_of_class, Ancestry}
use Rattle.cc_meaning_program.specs.OwnMembers.{method_defined, field_defined, method_listed, is_constructor}
use Rattle.cc_meaning_program.specs.Searches.{First, NoneOf, MethodOrder, FieldOrder}

-- the first class upward that isn't of the file
pub record IsBeyond (ids : Ids) (named beyond : List ℕ) : Type 0 where
  pub classes : List (List ℕ)
  pub ancestry : Ancestry ids named classes
  pub first : First (λ class. is_defined ids class ≡ false) classes beyond

abbrev pub DefinesMethod : Ids → List RawClass → List ℕ → List ℕ → Type 0
DefinesMethod ids classes member class = is_some (method_defined ids classes class member) ≡ true

abbrev pub DefinesField : Ids → List RawClass → List ℕ → List ℕ → Type 0
DefinesField ids classes member class = is_some (field_defined ids classes class member) ≡ true

-- built-in classes and arrays inherit built-in methods, outside classes don't
unfoldable pub inherits : ClassKind → Bool
inherits BuiltIn = true
inherits Array = true
inherits _ = false

-- A class upward of one that isn't of the file lists the method, which that one inherits, but for a constructor.
pub record Lists (ids : Ids) (beyond member class : List ℕ) : Type 0 where
  pub inherited : inherits (kind_of_class ids beyond) ≡ true
  pub listed : is_some (method_listed ids class member) ≡ true
  pub own : is_constructor member ≡ true → class ≡ beyond

-- The class that a method belongs to which an instruction names by a class and a name within it. A class of the file that defines it comes first. Where there is
-- none, the first class upward that isn't of the file is looked at: if that is built in or an array, the method is the built-in one of the first class from
-- there upward that lists it. Otherwise it is an outside method of that class.
pub data MethodOwner (ids : Ids) (classes : List RawClass) (named member : List ℕ) : List ℕ → Type 0 where
  defined : {order : List (List ℕ)} {owner : List ℕ} → MethodOrder ids named order → First (DefinesMethod ids classes member) order owner → MethodOwner ids classes named member owner
  listed : {order above : List (List ℕ)} {beyond owner : List ℕ} → MethodOrder ids named order → NoneOf (DefinesMethod ids classes member) order → IsBeyond ids named beyond → Ancestry ids beyond above → First (Lists ids beyond member) above owner → MethodOwner ids classes named member owner
  outside : {order above : List (List ℕ)} {beyond : List ℕ} → MethodOrder ids named order → NoneOf (DefinesMethod ids classes member) order → IsBeyond ids named beyond → Ancestry ids beyond above → NoneOf (Lists ids beyond member) above → MethodOwner ids classes named member beyond

-- The class that a field belongs to which an instruction names. Where no class of the file has it, it belongs to the first class upward that isn't of the file.
pub data FieldOwner (ids : Ids) (classes : List RawClass) (named member : List ℕ) : List ℕ → Type 0 where
  defined : {order : List (List ℕ)} {owner : List ℕ} → FieldOrder ids named order → First (DefinesField ids classes member) order owner → FieldOwner ids classes named member owner
  beyond : {order : List (List ℕ)} {owner : List ℕ} → FieldOrder ids named order → NoneOf (DefinesField ids classes member) order → IsBeyond ids named owner → FieldOwner ids classes named member owner
