-- The methods that the file doesn't define: what is listed, and what is found.
use Rattle.std.specs.Prelude.{◌≡◌, ℕ, true, false, List, map, take, position, slice_get, Option, Some, is_some}
use Rattle.std.specs.Str.{bytes_eq}
use Rattle.cc_meaning.specs.declared.file.Ids.{Ids}
use Rattle.cc_meaning_program.specs.Ancestry.{is_defined, Ancestry}
use Rattle.cc_built_in.specs.BuiltInMethods.{built_in_member}
use Rattle.cc_meaning_program.specs.OwnMembers.{built_in_methods_of}
use Rattle.cc_meaning_program.specs.Owners.{IsBeyond, Lists}
use Rattle.cc_meaning_program.specs.Searches.{First, NoneOf}
use Rattle.cc_meaning_program.specs.declared.owner.MethodOwner.{MethodOwner}
use Rattle.cc_meaning_program.specs.declared.owner.MethodOwner.TheVariants as method
use Rattle.cc_owners.specs.declared.linked.Linked.{Linked}
use Rattle.cc_owners.specs.declared.place.Found.{Found}

-- the place of a name among those of the built-in methods that a class lists
unfoldable pub listed_place : Ids → List ℕ → List ℕ → Option ℕ
listed_place ids class member = position (λ listed. bytes_eq listed member) (map built_in_member (built_in_methods_of ids class))

abbrev pub IsUndefined : Ids → List ℕ → Type 0
IsUndefined ids class = is_defined ids class ≡ false

-- at this place stands the first of these classes that isn't of the file
pub record IsFirstBeyond (ids : Ids) (order : List (List ℕ)) (place : ℕ) : Type 0 where
  pub name : List ℕ
  pub there : slice_get order place ≡ Some name
  pub before : NoneOf (IsUndefined ids) (take place order)
  pub undefined : IsUndefined ids name

abbrev pub Listed : Ids → List ℕ → List ℕ → Type 0
Listed ids member class = is_some (listed_place ids class member) ≡ true

-- the first of these classes that lists a built-in method of this name, and the method's place
pub record IsFoundListed (linked : Linked) (member : List ℕ) (order : List (List ℕ)) (found : Found) : Type 0 where
  pub owner : List ℕ
  pub there : slice_get linked.names.now found.class ≡ Some owner
  pub first : First (Listed linked.ids.now member) order owner
  pub placed : listed_place linked.ids.now owner member ≡ Some found.place

-- the one that a class inherits which isn't of the file
pub record IsListed (linked : Linked) (beyond member : List ℕ) (order : List (List ℕ)) (found : Found) : Type 0 where
  pub owner : List ℕ
  pub there : slice_get linked.names.now found.class ≡ Some owner
  pub first : First (Lists linked.ids.now beyond member) order owner
  pub placed : listed_place linked.ids.now owner member ≡ Some found.place

-- what a method of a class is that the file doesn't define
pub data IsBeyondOwner (linked : Linked) (named member : List ℕ) : MethodOwner → Type 0 where
  listed : {beyond owner : List ℕ} {above : List (List ℕ)} {class place : ℕ} → IsBeyond linked.ids.now named beyond → Ancestry linked.ids.now beyond above → First (Lists linked.ids.now beyond member) above owner → slice_get linked.names.now class ≡ Some owner → listed_place linked.ids.now owner member ≡ Some place → IsBeyondOwner linked named member (method.BuiltIn class place)
  outside : {beyond : List ℕ} {above : List (List ℕ)} {class : ℕ} → IsBeyond linked.ids.now named beyond → Ancestry linked.ids.now beyond above → NoneOf (Lists linked.ids.now beyond member) above → slice_get linked.names.now class ≡ Some beyond → IsBeyondOwner linked named member (method.Outside class)
