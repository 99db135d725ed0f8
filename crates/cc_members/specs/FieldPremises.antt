-- The plans of a file's fields, and what is said of the fields that they give.
use Rattle.std.specs.Prelude.{◌≡◌, ℕ, List, map, slice_get, Some}
use Rattle.cc_meaning.specs.declared.file.Ids.{Ids}
use Rattle.cc_meaning.specs.declared.file.RawClass.{RawClass}
use Rattle.cc_meaning.specs.declared.program.Field.{Field}
use Rattle.cc_meaning.specs.declared.program.Program.{Program}
use Rattle.cc_meaning.specs.Names.{field_name}
use Rattle.cc_meaning_program.specs.Members.{IsField}
use Rattle.cc_meaning_program.specs.Resolved.{names_of}
use Rattle.cc_meaning_program.specs.Plans.{name_at, field_plan_name, field_source_member, AreFieldPlans}
use Rattle.cc_meaning_program.specs.Uses.{AreUses}
use Rattle.cc_meaning_program.specs.declared.plan.FieldPlan.{FieldPlan}
use Rattle.cc_meaning_program.specs.declared.uses.MethodUse.{MethodUse}

-- all fields of the program of a file, by what its instructions name
pub record PlanFields (ids : Ids) (classes : List RawClass) (names : List (List ℕ)) (plans : List FieldPlan) : Type 0 where
  pub methods : List MethodUse
  pub fields : List ℕ
  pub uses : AreUses classes methods fields
  pub planned : AreFieldPlans ids classes names fields plans

-- in a program with these names of classes, fields have the names that are planned
abbrev pub HaveFieldNames : Ids → List RawClass → List (List ℕ) → List FieldPlan → List Field → Type 0
HaveFieldNames ids classes names plans fields = (program : Program) → names_of program ≡ names → map (field_name program) fields ≡ map (field_plan_name ids classes names) plans

-- in such a program a field is that of its plan
pub record IsPlannedField (ids : Ids) (classes : List RawClass) (names : List (List ℕ)) (program : Program) (plan : FieldPlan) (field : Field) : Type 0 where
  pub class : field.class ≡ plan.owner
  pub is : IsField ids classes program (name_at names plan.owner) (field_source_member ids classes (name_at names plan.owner) plan.source) field

-- and so is each
abbrev pub ArePlannedFields : Ids → List RawClass → List (List ℕ) → List FieldPlan → List Field → Type 0
ArePlannedFields ids classes names plans fields =
    (program : Program) → names_of program ≡ names → (number : ℕ) (plan : FieldPlan) (field : Field) → slice_get plans number ≡ Some plan → slice_get fields number ≡ Some field → IsPlannedField ids classes names program plan field
