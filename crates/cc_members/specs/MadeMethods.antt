-- A method of a program as it is made from its plan.
use Rattle.std.specs.Prelude.{◌≡◌, ◌⊎◌, ℕ, ◌<◌, Bool, true, false, not, List, map, length, slice_get, Option, Some, None, is_some, option_and_then, Contains, codes}
use Rattle.std.specs.Str.{bytes_eq}
use Rattle.cc_bodies.specs.Bodies.{IsBody}
use Rattle.cc_bodies.specs.Linkable.{IsLinkable}
use Rattle.cc_bodies.specs.ProgramLinks.{LinkInto}
use Rattle.cc_meaning.specs.declared.file.Ids.{Ids}
use Rattle.cc_meaning.specs.declared.file.MethodRow.{MethodRow}
use Rattle.cc_meaning.specs.declared.file.ProtoRow.{ProtoRow}
use Rattle.cc_meaning.specs.declared.file.RawClass.{RawClass}
use Rattle.cc_meaning.specs.declared.file.RawCode.{RawCode}
use Rattle.cc_meaning.specs.declared.file.RawMethod.{RawMethod}
use Rattle.cc_meaning.specs.declared.program.DexType.{DexType}
use Rattle.cc_meaning.specs.declared.program.Method.{Method}
use Rattle.cc_meaning.specs.declared.program.MethodKind.{MethodKind}
use Rattle.cc_meaning.specs.declared.program.MethodKind.TheVariants as body
use Rattle.cc_meaning.specs.declared.program.Placed.{Placed}
use Rattle.cc_meaning.specs.declared.program.Program.{Program}
use Rattle.cc_meaning_dex.specs.CodeItems.{has_flag}
use Rattle.cc_meaning_program.specs.Named.{text_of}
use Rattle.cc_meaning_program.specs.TypeNames.{Spells}
use Rattle.cc_meaning_program.specs.OwnMembers.{built_in_by_kind, is_constructor}
use Rattle.cc_meaning_program.specs.Members.{Pairs, KindResolved, ResultSpelled, is_static_call, is_virtual_call}
use Rattle.cc_built_in.specs.BuiltInMethods.{BuiltInMethod, built_in_member}
use Rattle.cc_meaning_program.specs.OwnerNumbers.{method_in}
use Rattle.cc_meaning_program.specs.Plans.{name_at}
use Rattle.cc_meaning_program.specs.declared.links.Links.{Links}
use Rattle.cc_meaning_program.specs.declared.outline.Outline.{Outline}
use Rattle.cc_meaning_program.specs.declared.plan.MethodSource.{MethodSource}
use Rattle.cc_meaning_program.specs.declared.plan.MethodSource.TheVariants as from
use Rattle.cc_members.specs.Stated.{definition_at, members_at}
use Rattle.cc_members.specs.Taking.{BodyAt, TakesBody}

-- ---- what is there

-- a row of methods that is there, and so are its name, its prototype and, among types by rows, the types of that
pub record MethodRowStands (ids : Ids) (types : List (Option DexType)) (row : ℕ) : Type 0 where
  pub stated : MethodRow
  pub there : slice_get ids.methods row ≡ Some stated
  pub name : stated.name < length ids.texts
  pub prototype : ProtoRow
  pub typed : slice_get ids.protos stated.proto ≡ Some prototype
  pub result : prototype.result < length types
  pub params : (type : ℕ) → Contains prototype.params type → (ty : DexType) × (slice_get types type ≡ Some (Some ty))

-- a type spells this text
abbrev pub IsSpelled : List (List ℕ) → List ℕ → Type 0
IsSpelled names text = (ty : DexType) × Spells names ty text

-- a built-in method's types are spelled, and by its name it is a constructor or not
pub record ListedStands (names : List (List ℕ)) (listed : BuiltInMethod) : Type 0 where
  pub params : (text : List ℕ) → Contains listed.params text → IsSpelled names text
  pub result : ResultSpelled names None listed.result ⊎ IsSpelled names listed.result
  pub constructor : is_constructor (built_in_member listed) ≡ bytes_eq listed.name (codes "<init>")

-- the method at a place among those that a class lists
abbrev pub listed_at : List (List ℕ) → List Outline → ℕ → ℕ → Option BuiltInMethod
listed_at names outlines owner place = option_and_then (λ (outline : Outline). slice_get (built_in_by_kind outline.kind (name_at names owner)) place) (slice_get outlines owner)

-- a method's code is as it was read, and each row that it names has a link
pub record KindCanBeMade (links : Links) (raw : RawMethod) (taken : Option (List Placed)) : Type 0 where
  pub read : IsBody raw.code taken
  pub coded : has_flag raw.flags 256 ≡ false → has_flag raw.flags 1024 ≡ false → is_some raw.code ≡ true
  pub linked : (code : RawCode) (insns : List Placed) → raw.code ≡ Some code → taken ≡ Some insns → IsLinkable links code insns

-- the method that the file defines at a place of the class of a number, and its body
pub record DefinedStands (ids : Ids) (classes : List RawClass) (outlines : List Outline) (links : Links) (bodies : List (List (Option (List Placed)))) (owner place : ℕ) : Type 0 where
  pub definition : ℕ
  pub defined : definition_at outlines owner ≡ Some definition
  pub raw : RawMethod
  pub there : method_in place (members_at classes outlines owner) ≡ Some raw
  pub row : MethodRowStands ids links.types raw.row
  pub taken : Option (List Placed)
  pub stands : BodyAt bodies definition place taken
  pub kind : KindCanBeMade links raw taken

-- what a method is made from is there
abbrev pub MethodCanBeMade : Ids → List RawClass → List (List ℕ) → List Outline → Links → List (List (Option (List Placed))) → ℕ → MethodSource → Type 0
MethodCanBeMade ids classes names outlines links bodies owner (from.File place) = DefinedStands ids classes outlines links bodies owner place
MethodCanBeMade ids classes names outlines links bodies owner (from.BuiltIn place) = (listed : BuiltInMethod) × (listed_at names outlines owner place ≡ Some listed) × ListedStands names listed
MethodCanBeMade ids classes names outlines links bodies owner (from.Outside used) = MethodRowStands ids links.types used.row

-- ---- what is made of it

-- a method of a class with the name and the types of a row
pub record MethodOfRow (ids : Ids) (types : List (Option DexType)) (owner row : ℕ) (method : Method) : Type 0 where
  pub stated : MethodRow
  pub there : slice_get ids.methods row ≡ Some stated
  pub prototype : ProtoRow
  pub typed : slice_get ids.protos stated.proto ≡ Some prototype
  pub class : method.class ≡ owner
  pub name : method.name ≡ text_of ids stated.name
  pub params : map (λ (ty : DexType). Some (Some ty)) method.params ≡ map (slice_get types) prototype.params
  pub result : slice_get types prototype.result ≡ Some method.result

-- whether it is static, whether a call of it is dispatched, and what its meaning is
pub record MethodIs (is_static is_virtual : Bool) (holds : MethodKind → Type 0) (method : Method) : Type 0 where
  pub static : method.is_static ≡ is_static
  pub virtual : method.is_virtual ≡ is_virtual
  pub kind : holds method.kind

-- in each program that the links lead into, it is resolved
abbrev pub KindMade : Ids → List RawClass → Links → RawMethod → MethodKind → Type 0
KindMade ids classes links raw made = (program : Program) → LinkInto ids classes program links → KindResolved ids classes program raw made

-- a built-in method
pub record MethodOfListed (names : List (List ℕ)) (owner : ℕ) (listed : BuiltInMethod) (method : Method) : Type 0 where
  pub class : method.class ≡ owner
  pub name : method.name ≡ listed.name
  pub params : Pairs (Spells names) method.params listed.params
  pub result : ResultSpelled names method.result listed.result
  pub is : MethodIs false (not (is_constructor (built_in_member listed))) (λ kind. kind ≡ body.BuiltIn) method

-- a method is made from its source
abbrev pub MethodMade : Ids → List RawClass → List (List ℕ) → List Outline → Links → ℕ → MethodSource → Method → Type 0
MethodMade ids classes names outlines links owner (from.File place) method =
    (raw : RawMethod) × (method_in place (members_at classes outlines owner) ≡ Some raw) × MethodOfRow ids links.types owner raw.row method
    × MethodIs (has_flag raw.flags 8) (not raw.is_direct) (KindMade ids classes links raw) method
MethodMade ids classes names outlines links owner (from.BuiltIn place) method = (listed : BuiltInMethod) × (listed_at names outlines owner place ≡ Some listed) × MethodOfListed names owner listed method
MethodMade ids classes names outlines links owner (from.Outside used) method =
    MethodOfRow ids links.types owner used.row method × MethodIs (is_static_call (Some used.how)) (is_virtual_call (Some used.how)) (λ kind. kind ≡ body.Outside) method

-- and takes its body, where it has one, out of the bodies
abbrev pub SourceTakes : List Outline → ℕ → MethodSource → List (List (Option (List Placed))) → List (List (Option (List Placed))) → Type 0
SourceTakes outlines owner (from.File place) before after = (definition : ℕ) × (definition_at outlines owner ≡ Some definition) × TakesBody definition place before after
SourceTakes outlines owner _ before after = after ≡ before
