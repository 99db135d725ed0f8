-- What may be a member of a program.
use Rattle.std.specs.Prelude.{◌≡◌, ◌⊎◌, ℕ, ◌<◌, List, length, map, Option, Some, None, slice_get, Contains}
use Rattle.std.specs.List.{filter_map}
use Rattle.cc_meaning.specs.declared.file.Ids.{Ids}
use Rattle.cc_meaning.specs.declared.file.RawClass.{RawClass}
use Rattle.cc_meaning_program.specs.OwnMembers.{members_of, built_in_methods_of}
use Rattle.cc_meaning.specs.BuiltIn.{system_name}
use Rattle.cc_meaning_program.specs.declared.owner.FieldOwner.{FieldOwner}
use Rattle.cc_meaning_program.specs.declared.owner.FieldOwner.TheVariants as field
use Rattle.cc_meaning_program.specs.declared.owner.MethodOwner.{MethodOwner}
use Rattle.cc_meaning_program.specs.declared.owner.MethodOwner.TheVariants as method
use Rattle.cc_meaning_program.specs.declared.plan.FieldPlan.{FieldPlan}
use Rattle.cc_meaning_program.specs.declared.plan.FieldSource.TheVariants as from_field
use Rattle.cc_meaning_program.specs.declared.plan.MethodPlan.{MethodPlan}
use Rattle.cc_meaning_program.specs.declared.plan.MethodSource.TheVariants as from
use Rattle.cc_meaning_program.specs.declared.uses.MethodUse.{MethodUse}
use Rattle.cc_meaning_program.specs.Outlines.{AreOutlines}
use Rattle.cc_meaning_program.specs.Plans.{name_at, method_plan_name, field_plan_name}
use Rattle.cc_members.specs.declared.planned_fields.FieldCandidate.{FieldCandidate}
use Rattle.cc_members.specs.declared.planned_methods.Candidate.{Candidate}
use Rattle.cc_members.specs.declared.tables.Tables.{Tables}
use Rattle.cc_members.specs.ListedNames.{AreListings}
use Rattle.cc_members.specs.Named.{named_text}

-- outlines of the classes of these names, and the built-in members
pub record AreTables (tables : Tables) : Type 0 where
  pub outlines : AreOutlines tables.names.ids.now tables.names.classes.now tables.outlines.now
  pub listings : AreListings tables.names.listings.now

-- one of the first so many of these
abbrev pub IsBelow : {A : Type 0} → (ℕ → A) → ℕ → A → Type 0
IsBelow made count item = (number : ℕ) × (number < count) × (made number ≡ item)

-- ---- methods

unfoldable pub file_plan : ℕ → ℕ → MethodPlan
file_plan owner place = record { owner = owner; source = from.File place }

unfoldable pub built_in_plan : ℕ → ℕ → MethodPlan
built_in_plan owner place = record { owner = owner; source = from.BuiltIn place }

-- how many methods the file defines in a class
unfoldable pub method_count : Option RawClass → ℕ
method_count None = 0
method_count (Some class) = length class.methods

-- a method that the file defines in the class of a number, or a built-in one of it
abbrev pub IsOwnPlan : Ids → List RawClass → List (List ℕ) → ℕ → MethodPlan → Type 0
IsOwnPlan ids classes names owner plan =
    IsBelow (file_plan owner) (method_count (members_of ids classes (name_at names owner))) plan
    ⊎ IsBelow (built_in_plan owner) (length (built_in_methods_of ids (name_at names owner))) plan

-- one of a class before this number
abbrev pub IsOwnBelow : Ids → List RawClass → List (List ℕ) → ℕ → MethodPlan → Type 0
IsOwnBelow ids classes names count plan = (owner : ℕ) × (owner < count) × IsOwnPlan ids classes names owner plan

-- the method that a use names, by its row's owner, where no class has it itself
unfoldable pub outside_plan : Option MethodOwner → MethodUse → Option MethodPlan
outside_plan (Some (method.Outside class)) used = Some (record { owner = class; source = from.Outside used })
outside_plan other used = None

unfoldable pub outside_plans : List MethodOwner → List MethodUse → List MethodPlan
outside_plans owners uses = filter_map (λ (used : MethodUse). outside_plan (slice_get owners used.row) used) uses

-- these methods, each with what names it
pub record AreCandidates (tables : Tables) (plans : List MethodPlan) (candidates : List Candidate) : Type 0 where
  pub are : map (λ (candidate : Candidate). candidate.plan) candidates ≡ plans
  pub named : (candidate : Candidate) → Contains candidates candidate →
      named_text tables.names.ids.now tables.names.classes.now tables.names.listings.now.members candidate.named ≡ method_plan_name tables.names.ids.now tables.classes.now tables.names.classes.now candidate.plan

-- the class of what a row of methods names
unfoldable pub owner_class : MethodOwner → ℕ
owner_class (method.File class place) = class
owner_class (method.BuiltIn class place) = class
owner_class (method.Outside class) = class

-- ---- fields

unfoldable pub file_field : ℕ → ℕ → FieldPlan
file_field owner place = record { owner = owner; source = from_field.File place }

-- how many fields the file defines in a class
unfoldable pub field_count : Option RawClass → ℕ
field_count None = 0
field_count (Some class) = length class.fields

-- a field that the file defines in the class of a number
abbrev pub IsOwnField : Ids → List RawClass → List (List ℕ) → ℕ → FieldPlan → Type 0
IsOwnField ids classes names owner plan = IsBelow (file_field owner) (field_count (members_of ids classes (name_at names owner))) plan

-- one of a class before this number
abbrev pub IsOwnFieldBelow : Ids → List RawClass → List (List ℕ) → ℕ → FieldPlan → Type 0
IsOwnFieldBelow ids classes names count plan = (owner : ℕ) × (owner < count) × IsOwnField ids classes names owner plan

-- `System.out`
pub record IsOut (names : List (List ℕ)) (plan : FieldPlan) : Type 0 where
  pub owner : slice_get names plan.owner ≡ Some system_name
  pub source : plan.source ≡ from_field.Out

-- the field that a row names, by its owner, where no class of the file has it
unfoldable pub beyond_field : Option FieldOwner → ℕ → Option FieldPlan
beyond_field (Some (field.Beyond class)) row = Some (record { owner = class; source = from_field.Outside row })
beyond_field other row = None

unfoldable pub beyond_fields : List FieldOwner → List ℕ → List FieldPlan
beyond_fields owners rows = filter_map (λ (row : ℕ). beyond_field (slice_get owners row) row) rows

-- the class of what a row of fields names
unfoldable pub field_owner_class : FieldOwner → ℕ
field_owner_class (field.File class place) = class
field_owner_class (field.Beyond class) = class

-- these fields, each with what names it
pub record AreFieldCandidates (tables : Tables) (plans : List FieldPlan) (candidates : List FieldCandidate) : Type 0 where
  pub are : map (λ (candidate : FieldCandidate). candidate.plan) candidates ≡ plans
  pub named : (candidate : FieldCandidate) → Contains candidates candidate →
      named_text tables.names.ids.now tables.names.classes.now tables.names.listings.now.members candidate.named ≡ field_plan_name tables.names.ids.now tables.classes.now tables.names.classes.now candidate.plan
