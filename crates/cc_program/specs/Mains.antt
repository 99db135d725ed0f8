-- Whether a class of the file has a main method.
use Rattle.std.specs.Prelude.{◌≡◌, ℕ, ◌<◌, true, List, Option, Some, None, is_some, slice_get, find}
use Rattle.std.specs.Str.{bytes_eq}
use Rattle.cc_meaning.specs.declared.file.ClassRow.{ClassRow}
use Rattle.cc_meaning.specs.declared.file.Ids.{Ids}
use Rattle.cc_meaning.specs.declared.file.RawClass.{RawClass}
use Rattle.cc_meaning.specs.declared.file.RawMethod.{RawMethod}
use Rattle.cc_meaning_program.specs.declared.plan.MethodPlan.{MethodPlan}
use Rattle.cc_meaning_program.specs.declared.plan.MethodSource.{MethodSource}
use Rattle.cc_meaning_program.specs.declared.plan.MethodSource.TheVariants as from
use Rattle.cc_meaning_dex.specs.CodeItems.{has_flag}
use Rattle.cc_meaning_program.specs.Named.{method_member, type_name}
use Rattle.cc_meaning_program.specs.Programs.{main_member}

-- a static method with code
pub record IsRunnable (raw : RawMethod) : Type 0 where
  pub static : has_flag raw.flags 8 ≡ true
  pub coded : is_some raw.code ≡ true

-- the first method of this name is one, and it stands at this place
pub record IsMainAt (ids : Ids) (class : RawClass) (place : ℕ) : Type 0 where
  pub raw : RawMethod
  pub there : slice_get class.methods place ≡ Some raw
  pub found : find (λ (method : RawMethod). bytes_eq (method_member ids method.row) main_member) class.methods ≡ Some raw
  pub runs : IsRunnable raw

-- any class is wanted, or the one of a name
abbrev pub IsWanted : Option (List ℕ) → List ℕ → Type 0
IsWanted None name = Unit {0}
IsWanted (Some asked) name = asked ≡ name

-- a definition is of a wanted class that has a main method at this place
pub record IsMainOf (ids : Ids) (classes : List RawClass) (asked : Option (List ℕ)) (number place : ℕ) : Type 0 where
  pub stated : ClassRow
  pub defined : slice_get ids.classes number ≡ Some stated
  pub class : RawClass
  pub there : slice_get classes number ≡ Some class
  pub wanted : IsWanted asked (type_name ids stated.class)
  pub has : IsMainAt ids class place

-- no definition from the first to before this one is so
abbrev pub NoMainBefore : Ids → List RawClass → Option (List ℕ) → ℕ → Type 0
NoMainBefore ids classes asked end = (number place : ℕ) → number < end → ¬ IsMainOf ids classes asked number place

-- a method of a class comes from a method that it defines with the name of a main method
abbrev pub IsMainSource : Ids → RawClass → MethodSource → Type 0
IsMainSource ids class (from.File place) = (raw : RawMethod) × (slice_get class.methods place ≡ Some raw) × (bytes_eq (method_member ids raw.row) main_member ≡ true)
IsMainSource ids class (from.BuiltIn place) = ⊥
IsMainSource ids class (from.Outside used) = ⊥

-- the plan of this number is that of the main method of a class
pub record IsMainPlan (ids : Ids) (class : RawClass) (owner : ℕ) (plans : List MethodPlan) (number : ℕ) : Type 0 where
  pub plan : MethodPlan
  pub there : slice_get plans number ≡ Some plan
  pub owned : plan.owner ≡ owner
  pub source : IsMainSource ids class plan.source

-- the plan of this number is that of the main method of the class that a definition is of
pub record IsMainNumber (ids : Ids) (classes : List RawClass) (names : List (List ℕ)) (plans : List MethodPlan) (definition number : ℕ) : Type 0 where
  pub stated : ClassRow
  pub defined : slice_get ids.classes definition ≡ Some stated
  pub class : RawClass
  pub members : slice_get classes definition ≡ Some class
  pub owner : ℕ
  pub numbered : slice_get names owner ≡ Some (type_name ids stated.class)
  pub planned : IsMainPlan ids class owner plans number
