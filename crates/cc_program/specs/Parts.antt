-- The members and texts of a program whose classes are to be made.
use Rattle.std.specs.Prelude.{◌≡◌, ℕ, List, map, Some, slice_get}
use Rattle.cc_meaning.specs.declared.file.Ids.{Ids}
use Rattle.cc_meaning.specs.declared.file.RawClass.{RawClass}
use Rattle.cc_meaning.specs.declared.program.Field.{Field}
use Rattle.cc_meaning.specs.declared.program.Method.{Method}
use Rattle.cc_meaning.specs.declared.program.Program.{Program}
use Rattle.cc_meaning.specs.Lookup.{class_named}
use Rattle.cc_meaning.specs.Names.{field_name, method_name}
use Rattle.cc_meaning.specs.Order.{IsRising, MethodsRise}
use Rattle.cc_meaning_program.specs.Members.{IsMethod}
use Rattle.cc_meaning_program.specs.Resolved.{whole_name}
use Rattle.cc_meaning_program.specs.declared.plan.FieldPlan.{FieldPlan}
use Rattle.cc_meaning_program.specs.Plans.{field_plan_name}

-- A program has these fields, which have the names of their plans; these methods, in rising order of their names, each a method of its class; and the texts
-- that have these numbers, in rising order.
pub record HasParts (ids : Ids) (classes : List RawClass) (names : List (List ℕ)) (plans : List FieldPlan) (fields : List Field) (methods : List Method) (texts : List ℕ) (program : Program) : Type 0 where
  pub of_fields : program.fields ≡ fields
  pub field_names : map (field_name program) program.fields ≡ map (field_plan_name ids classes names) plans
  pub of_methods : program.methods ≡ methods
  pub methods_rise : MethodsRise program
  pub each_method : (number : ℕ) (method : Method) → slice_get program.methods number ≡ Some method → (owner : List ℕ) × (member : List ℕ) × (class_named owner program ≡ Some method.class) × (method_name program method ≡ whole_name owner member) × IsMethod ids classes program owner member method
  pub texts_rise : IsRising program.texts
  pub text_numbers : map (slice_get program.texts) texts ≡ map Some ids.texts
