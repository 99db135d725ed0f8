-- What a program's members are made from, and what the rows of its file are in it.
use Rattle.std.specs.Prelude.{ℕ, ◌<◌, ◌^◌, List, length, map, Option}
use Rattle.cc_meaning.specs.declared.file.Ids.{Ids}
use Rattle.cc_meaning.specs.declared.file.RawClass.{RawClass}
use Rattle.cc_meaning_program.specs.ClassFaults.{AreSound}
use Rattle.cc_meaning_program.specs.ClassNames.{AreClassNames}
use Rattle.cc_meaning_program.specs.declared.outline.Outline.{Outline}
use Rattle.cc_meaning_program.specs.declared.uses.MethodUse.{MethodUse}
use Rattle.cc_meaning_program.specs.Links.{AreLinks}
use Rattle.cc_meaning_program.specs.Outlines.{AreOutlines}
use Rattle.cc_meaning_program.specs.Plans.{AreMethodPlans, AreFieldPlans, method_plan_name, field_plan_name}
use Rattle.cc_meaning_program.specs.Rows.{FitTables, FitClasses}
use Rattle.cc_meaning_program.specs.Uses.{AreUses}
use Rattle.cc_members.specs.Linked.{AreMethodLinks, AreFieldLinks}
use Rattle.cc_program.specs.declared.links.Linked.{Linked}
use Rattle.cc_program.specs.declared.links.LinkedFields.{LinkedFields}
use Rattle.cc_program.specs.declared.links.LinkedMethods.{LinkedMethods}

-- a file without faults in its classes, which are known by their numbers
pub record IsOutlined (ids : Ids) (classes : List RawClass) (names : List (List ℕ)) (outlines : List Outline) : Type 0 where
  pub tables : FitTables ids
  pub members : FitClasses ids classes
  pub sound : AreSound ids classes
  pub named : AreClassNames ids names
  pub few : length names < 2 ^ 32
  pub outlined : AreOutlines ids names outlines

pub record MethodsLinked (ids : Ids) (classes : List RawClass) (names : List (List ℕ)) (uses : List MethodUse) (linked : LinkedMethods) : Type 0 where
  pub planned : AreMethodPlans ids classes names uses linked.plans
  pub rows : AreMethodLinks ids classes names (map (method_plan_name ids classes names) linked.plans) uses linked.links

pub record FieldsLinked (ids : Ids) (classes : List RawClass) (names : List (List ℕ)) (uses : List ℕ) (linked : LinkedFields) : Type 0 where
  pub planned : AreFieldPlans ids classes names uses linked.plans
  pub rows : AreFieldLinks ids classes (map (field_plan_name ids classes names) linked.plans) uses linked.links

pub record IsLinked (ids : Ids) (classes : List RawClass) (names texts : List (List ℕ)) (linked : Linked) : Type 0 where
  pub method_uses : List MethodUse
  pub field_uses : List ℕ
  pub uses : AreUses classes method_uses field_uses
  pub methods_planned : AreMethodPlans ids classes names method_uses linked.methods
  pub fields_planned : AreFieldPlans ids classes names field_uses linked.fields
  pub rows : AreLinks ids classes names texts (map (method_plan_name ids classes names) linked.methods) (map (field_plan_name ids classes names) linked.fields) method_uses field_uses linked.links
