-- The methods and fields of a program in the order of their names, each with what it is made from.
use Rattle.std.specs.Prelude.{◌≡◌, ◌≢◌, ℕ, List, [], map, slice_get, Option, Some, None, unwrap_or, Contains}
use Rattle.cc_meaning.specs.declared.file.Ids.{Ids}
use Rattle.cc_meaning.specs.declared.file.RawClass.{RawClass}
use Rattle.cc_meaning.specs.declared.file.RawField.{RawField}
use Rattle.cc_meaning.specs.declared.file.RawMethod.{RawMethod}
use Rattle.cc_meaning.specs.BuiltIn.{system_name}
use Rattle.cc_meaning.specs.Order.{IsRising}
use Rattle.cc_built_in.specs.BuiltInMethods.{BuiltInMethod, built_in_member}
use Rattle.cc_meaning_program.specs.Named.{field_member, method_member}
use Rattle.cc_meaning_program.specs.OwnMembers.{method_defined, field_defined, method_listed, built_in_methods_of}
use Rattle.cc_meaning_program.specs.Members.{BelongsMethod, BelongsField, out_member}
use Rattle.cc_meaning_program.specs.Naming.{RowNamesMethod, RowNamesField}
use Rattle.cc_meaning_program.specs.Resolved.{whole_name}
use Rattle.cc_meaning_program.specs.Searches.{First}
use Rattle.cc_meaning_program.specs.declared.plan.FieldPlan.{FieldPlan}
use Rattle.cc_meaning_program.specs.declared.plan.FieldSource.{FieldSource}
use Rattle.cc_meaning_program.specs.declared.plan.FieldSource.TheVariants as from_field
use Rattle.cc_meaning_program.specs.declared.plan.MethodPlan.{MethodPlan}
use Rattle.cc_meaning_program.specs.declared.plan.MethodSource.{MethodSource}
use Rattle.cc_meaning_program.specs.declared.plan.MethodSource.TheVariants as from
use Rattle.cc_meaning_program.specs.declared.uses.MethodUse.{MethodUse}
use Rattle.cc_meaning_program.specs.OwnerNumbers.{method_placed, field_placed}

-- the name of the class of a number
unfoldable pub name_at : List (List ℕ) → ℕ → List ℕ
name_at names number = unwrap_or (slice_get names number) []

-- ---- methods

unfoldable pub raw_method_member : Ids → Option RawMethod → List ℕ
raw_method_member ids None = []
raw_method_member ids (Some raw) = method_member ids raw.row

unfoldable pub listed_member : Option BuiltInMethod → List ℕ
listed_member None = []
listed_member (Some listed) = built_in_member listed

-- the name within its class of a method of this source, in the class of this name
unfoldable pub source_member : Ids → List RawClass → List ℕ → MethodSource → List ℕ
source_member ids classes class (from.File place) = raw_method_member ids (method_placed ids classes class place)
source_member ids classes class (from.BuiltIn place) = listed_member (slice_get (built_in_methods_of ids class) place)
source_member ids classes class (from.Outside used) = method_member ids used.row

-- a plan's whole name
unfoldable pub method_plan_name : Ids → List RawClass → List (List ℕ) → MethodPlan → List ℕ
method_plan_name ids classes names plan = whole_name (name_at names plan.owner) (source_member ids classes (name_at names plan.owner) plan.source)

-- What a method is made from, in the class of this name: what the file defines, what is listed, or the first instruction that names it.
pub data IsSource (ids : Ids) (classes : List RawClass) (uses : List MethodUse) (class : List ℕ) : MethodSource → Type 0 where
  file : {place : ℕ} {raw : RawMethod} → method_placed ids classes class place ≡ Some raw → method_defined ids classes class (method_member ids raw.row) ≡ Some raw → IsSource ids classes uses class (from.File place)
  built_in : {place : ℕ} {listed : BuiltInMethod} → slice_get (built_in_methods_of ids class) place ≡ Some listed → method_listed ids class (built_in_member listed) ≡ Some listed → method_defined ids classes class (built_in_member listed) ≡ None → IsSource ids classes uses class (from.BuiltIn place)
  outside : {used : MethodUse} → First (λ (other : MethodUse). RowNamesMethod ids classes other.row class (method_member ids used.row)) uses used → method_defined ids classes class (method_member ids used.row) ≡ None → method_listed ids class (method_member ids used.row) ≡ None → IsSource ids classes uses class (from.Outside used)

-- all methods of a program, in rising order of their whole names, each once
pub record AreMethodPlans (ids : Ids) (classes : List RawClass) (names : List (List ℕ)) (uses : List MethodUse) (plans : List MethodPlan) : Type 0 where
  pub rise : IsRising (map (method_plan_name ids classes names) plans)
  pub owned : (number : ℕ) (plan : MethodPlan) → slice_get plans number ≡ Some plan → (name : List ℕ) × (slice_get names plan.owner ≡ Some name)
  pub each : (number : ℕ) (plan : MethodPlan) → slice_get plans number ≡ Some plan → IsSource ids classes uses (name_at names plan.owner) plan.source
  pub all : (owner member : List ℕ) → BelongsMethod ids classes owner member → Contains (map (method_plan_name ids classes names) plans) (whole_name owner member)

-- ---- fields

unfoldable pub raw_field_member : Ids → Option RawField → List ℕ
raw_field_member ids None = []
raw_field_member ids (Some raw) = field_member ids raw.row

unfoldable pub field_source_member : Ids → List RawClass → List ℕ → FieldSource → List ℕ
field_source_member ids classes class (from_field.File place) = raw_field_member ids (field_placed ids classes class place)
field_source_member ids classes class from_field.Out = out_member
field_source_member ids classes class (from_field.Outside row) = field_member ids row

unfoldable pub field_plan_name : Ids → List RawClass → List (List ℕ) → FieldPlan → List ℕ
field_plan_name ids classes names plan = whole_name (name_at names plan.owner) (field_source_member ids classes (name_at names plan.owner) plan.source)

-- What a field is made from, in the class of this name: what the file defines, `System.out`, or the first instruction that names it.
pub data IsFieldSource (ids : Ids) (classes : List RawClass) (uses : List ℕ) (class : List ℕ) : FieldSource → Type 0 where
  file : {place : ℕ} {raw : RawField} → field_placed ids classes class place ≡ Some raw → field_defined ids classes class (field_member ids raw.row) ≡ Some raw → IsFieldSource ids classes uses class (from_field.File place)
  out : class ≡ system_name → field_defined ids classes class out_member ≡ None → IsFieldSource ids classes uses class from_field.Out
  outside : {row : ℕ} → (field_member ids row ≡ out_member → class ≢ system_name) → First (λ (other : ℕ). RowNamesField ids classes other class (field_member ids row)) uses row → field_defined ids classes class (field_member ids row) ≡ None → IsFieldSource ids classes uses class (from_field.Outside row)

-- all fields of a program, in rising order of their whole names, each once
pub record AreFieldPlans (ids : Ids) (classes : List RawClass) (names : List (List ℕ)) (uses : List ℕ) (plans : List FieldPlan) : Type 0 where
  pub rise : IsRising (map (field_plan_name ids classes names) plans)
  pub owned : (number : ℕ) (plan : FieldPlan) → slice_get plans number ≡ Some plan → (name : List ℕ) × (slice_get names plan.owner ≡ Some name)
  pub each : (number : ℕ) (plan : FieldPlan) → slice_get plans number ≡ Some plan → IsFieldSource ids classes uses (name_at names plan.owner) plan.source
  pub all : (owner member : List ℕ) → BelongsField ids classes owner member → Contains (map (field_plan_name ids classes names) plans) (whole_name owner member)
