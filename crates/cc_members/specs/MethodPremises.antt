-- The plans of a file's methods, what is known of its links and its bodies, and what is said of the methods that the plans give.
use Rattle.std.specs.Prelude.{◌≡◌, ℕ, ◌≤◌, List, map, slice_get, Option, Some}
use Rattle.cc_bodies.specs.Bodies.{IsBody}
use Rattle.cc_bodies.specs.ProgramLinks.{LinkInto}
use Rattle.cc_meaning.specs.declared.file.Ids.{Ids}
use Rattle.cc_meaning.specs.declared.file.RawClass.{RawClass}
use Rattle.cc_meaning.specs.declared.file.RawMethod.{RawMethod}
use Rattle.cc_meaning.specs.declared.program.Method.{Method}
use Rattle.cc_meaning.specs.declared.program.Placed.{Placed}
use Rattle.cc_meaning.specs.declared.program.Program.{Program}
use Rattle.cc_meaning.specs.Names.{method_name}
use Rattle.cc_meaning_program.specs.Members.{IsMethod}
use Rattle.cc_meaning_program.specs.Resolved.{names_of}
use Rattle.cc_meaning_program.specs.Links.{AreLinks}
use Rattle.cc_meaning_program.specs.OwnerNumbers.{method_in}
use Rattle.cc_meaning_program.specs.Plans.{name_at, method_plan_name, source_member, AreMethodPlans}
use Rattle.cc_meaning_program.specs.Uses.{AreUses}
use Rattle.cc_meaning_program.specs.declared.links.Links.{Links}
use Rattle.cc_meaning_program.specs.declared.outline.Outline.{Outline}
use Rattle.cc_meaning_program.specs.declared.plan.MethodPlan.{MethodPlan}
use Rattle.cc_meaning_program.specs.declared.plan.MethodSource.TheVariants as from
use Rattle.cc_meaning_program.specs.declared.uses.MethodUse.{MethodUse}
use Rattle.cc_members.specs.Stated.{definition_at, members_at}
use Rattle.cc_members.specs.Taking.{BodyAt}

-- all methods of the program of a file, by what its instructions name
pub record PlanMethods (ids : Ids) (classes : List RawClass) (names : List (List ℕ)) (plans : List MethodPlan) : Type 0 where
  pub methods : List MethodUse
  pub fields : List ℕ
  pub uses : AreUses classes methods fields
  pub planned : AreMethodPlans ids classes names methods plans

-- what the rows of a file are among these names of classes, and some names of texts, methods and fields
pub record LinkFile (ids : Ids) (classes : List RawClass) (names : List (List ℕ)) (links : Links) : Type 0 where
  pub texts : List (List ℕ)
  pub methods : List (List ℕ)
  pub fields : List (List ℕ)
  pub method_uses : List MethodUse
  pub field_uses : List ℕ
  pub uses : AreUses classes method_uses field_uses
  pub are : AreLinks ids classes names texts methods fields method_uses field_uses links

-- in a program with these names of classes, methods have the names that are planned
abbrev pub HaveMethodNames : Ids → List RawClass → List (List ℕ) → List MethodPlan → List Method → Type 0
HaveMethodNames ids classes names plans methods = (program : Program) → names_of program ≡ names → map (method_name program) methods ≡ map (method_plan_name ids classes names) plans

-- in such a program a method is that of its plan
pub record IsPlannedMethod (ids : Ids) (classes : List RawClass) (names : List (List ℕ)) (program : Program) (plan : MethodPlan) (method : Method) : Type 0 where
  pub class : method.class ≡ plan.owner
  pub is : IsMethod ids classes program (name_at names plan.owner) (source_member ids classes (name_at names plan.owner) plan.source) method

-- and so is each, where the links lead into that program
abbrev pub ArePlannedMethods : Ids → List RawClass → List (List ℕ) → Links → List MethodPlan → List Method → Type 0
ArePlannedMethods ids classes names links plans methods =
    (program : Program) → names_of program ≡ names → LinkInto ids classes program links → (number : ℕ) (plan : MethodPlan) (method : Method) → slice_get plans number ≡ Some plan → slice_get methods number ≡ Some method →
    IsPlannedMethod ids classes names program plan method

-- ---- bodies

-- the body of the method that the file defines at a place of the class of a number
pub record BodyLeft (classes : List RawClass) (outlines : List Outline) (bodies : List (List (Option (List Placed)))) (owner place : ℕ) : Type 0 where
  pub definition : ℕ
  pub defined : definition_at outlines owner ≡ Some definition
  pub raw : RawMethod
  pub there : method_in place (members_at classes outlines owner) ≡ Some raw
  pub taken : Option (List Placed)
  pub stands : BodyAt bodies definition place taken
  pub read : IsBody raw.code taken

-- from this plan on the bodies are there
abbrev pub BodiesLeft : List RawClass → List Outline → List MethodPlan → List (List (Option (List Placed))) → ℕ → Type 0
BodiesLeft classes outlines plans bodies first =
    (number place : ℕ) (plan : MethodPlan) → first ≤ number → slice_get plans number ≡ Some plan → plan.source ≡ from.File place → BodyLeft classes outlines bodies plan.owner place
