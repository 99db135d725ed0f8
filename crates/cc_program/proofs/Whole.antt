-- What is made from linked parts is the program of its file.
use Rattle.std.proofs.Common.{◌≡◌, ℕ, List, map, Option, Some, refl, sym, ap, ◌∙◌, subst}
use Rattle.std.specs.Prelude.{slice_get}
use Rattle.cc_meaning.specs.declared.file.ClassRow.{ClassRow}
use Rattle.cc_meaning.specs.declared.file.Ids.{Ids}
use Rattle.cc_meaning.specs.declared.file.RawClass.{RawClass}
use Rattle.cc_meaning.specs.declared.program.Class.{Class}
use Rattle.cc_meaning.specs.declared.program.Field.{Field}
use Rattle.cc_meaning.specs.declared.program.Method.{Method}
use Rattle.cc_meaning.specs.declared.program.Program.{Program}
use Rattle.cc_meaning.specs.Names.{field_name, method_name}
use Rattle.cc_meaning_dex.specs.TableLaws.{DescriptorsAgree}
use Rattle.cc_meaning_program.specs.ClassFaults.{AreSound}
use Rattle.cc_meaning_program.specs.ClassNames.{AreClassNames, AreTexts}
use Rattle.cc_meaning_program.specs.Named.{type_name}
use Rattle.cc_meaning_program.specs.Members.{IsField, IsMethod}
use Rattle.cc_meaning_program.specs.Programs.{IsClass, IsProgram, main_member}
use Rattle.cc_meaning_program.specs.Resolved.{names_of, whole_name}
use Rattle.cc_meaning_program.specs.declared.plan.FieldPlan.{FieldPlan}
use Rattle.cc_meaning_program.specs.declared.plan.MethodPlan.{MethodPlan}
use Rattle.cc_meaning_program.specs.Plans.{name_at, source_member, method_plan_name, field_source_member, field_plan_name}
use Rattle.cc_meaning_program.specs.Rows.{FitTables}
use Rattle.cc_program.specs.Parts.{HasParts}
use Rattle.cc_bodies.specs.ProgramLinks.{LinkInto}
use Rattle.cc_members.specs.FieldPremises.{HaveFieldNames, ArePlannedFields}
use Rattle.cc_members.specs.MethodPremises.{HaveMethodNames, ArePlannedMethods}
use Rattle.cc_program.specs.declared.links.Linked.{Linked}
use Rattle.cc_program.specs.Linking.{IsLinked}
use Rattle.cc_program.specs.Mains.{IsMainOf, IsMainNumber, IsMainPlan, NoMainBefore}
use Rattle.cc_program.proofs.Assembly as assembly
use Rattle.cc_program.proofs.MainClasses.{main_found}
use Rattle.cc_program.proofs.MainNames.{main_is_named}

module _ (ids : Ids) (classes : List RawClass) (asked : Option (List ℕ)) (names : List (List ℕ)) (program : Program) (linked : Linked) (definition place : ℕ)
    (fit : FitTables ids) (sound : AreSound ids classes) (agree : DescriptorsAgree) (class_names : AreClassNames ids names) (are_texts : AreTexts ids program.texts)
    (are_linked : IsLinked ids classes names program.texts linked) (named : map (λ (class : Class). class.name) program.classes ≡ names)
    (field_names : HaveFieldNames ids classes names linked.fields program.fields) (are_fields : ArePlannedFields ids classes names linked.fields program.fields)
    (method_names : HaveMethodNames ids classes names linked.methods program.methods) (are_methods : ArePlannedMethods ids classes names linked.links linked.methods program.methods)
    (are_classes : HasParts ids classes names linked.fields program.fields program.methods linked.links.texts program → (number : ℕ) (class : Class) → slice_get program.classes number ≡ Some class → IsClass ids classes program number class)
    (main : IsMainOf ids classes asked definition place) (first : NoMainBefore ids classes asked definition) (main_number : IsMainNumber ids classes names linked.methods definition program.main) where
  names_are : names_of program ≡ names
  unfolding names_of
  names_are = named

  links_lead : LinkInto ids classes program linked.links
  links_lead = record {
    names = names;
    texts = program.texts;
    methods = map (method_plan_name ids classes names) linked.methods;
    fields = map (field_plan_name ids classes names) linked.fields;
    method_uses = are_linked.method_uses;
    field_uses = are_linked.field_uses;
    are = are_linked.rows;
    named = record { of_classes = names_are; of_texts = refl; of_methods = method_names program names_are; of_fields = field_names program names_are };
    names_rise = class_names.rise;
    texts_rise = are_texts.rise;
    methods_rise = are_linked.methods_planned.rise;
    fields_rise = are_linked.fields_planned.rise;
  }

  methods_made : (number : ℕ) (plan : MethodPlan) (method : Method) → slice_get linked.methods number ≡ Some plan → slice_get program.methods number ≡ Some method → (method.class ≡ plan.owner) × IsMethod ids classes program (name_at names plan.owner) (source_member ids classes (name_at names plan.owner) plan.source) method
  methods_made number plan method planned there = let is = are_methods program names_are links_lead number plan method planned there in (is.class, is.is)

  fields_made : (number : ℕ) (plan : FieldPlan) (field : Field) → slice_get linked.fields number ≡ Some plan → slice_get program.fields number ≡ Some field → (field.class ≡ plan.owner) × IsField ids classes program (name_at names plan.owner) (field_source_member ids classes (name_at names plan.owner) plan.source) field
  fields_made number plan field planned there = let is = are_fields program names_are number plan field planned there in (is.class, is.is)

  parts : HasParts ids classes names linked.fields program.fields program.methods linked.links.texts program
  parts = record {
    of_fields = refl;
    field_names = field_names program names_are;
    of_methods = refl;
    methods_rise = assembly.methods_rise ids classes program names are_linked.method_uses are_linked.field_uses class_names names_are are_linked.uses linked.methods are_linked.methods_planned (method_names program names_are) methods_made;
    each_method = assembly.each_method ids classes program names are_linked.method_uses are_linked.field_uses class_names names_are are_linked.uses linked.methods are_linked.methods_planned (method_names program names_are) methods_made;
    texts_rise = are_texts.rise;
    text_numbers = are_linked.rows.text_numbers;
  }

  main_plan : IsMainPlan ids main.class main_number.owner linked.methods program.main
  main_plan = subst (λ (class : RawClass). IsMainPlan ids class main_number.owner linked.methods program.main) (assembly.some_same main_number.class main.class (sym main_number.members ∙ main.there)) main_number.planned

  main_numbered : slice_get names main_number.owner ≡ Some (type_name ids main.stated.class)
  main_numbered = main_number.numbered ∙ ap (λ (row : ClassRow). Some (type_name ids row.class)) (assembly.some_same main_number.stated main.stated (sym main_number.defined ∙ main.defined))

  pub is_program : IsProgram ids classes asked program
  is_program = record {
    class_names = subst (AreClassNames ids) (sym names_are) class_names;
    each_class = are_classes parts;
    methods_rise = parts.methods_rise;
    methods = assembly.methods_are ids classes program names are_linked.method_uses are_linked.field_uses class_names names_are are_linked.uses linked.methods are_linked.methods_planned (method_names program names_are) methods_made;
    each_method = parts.each_method;
    fields_rise = assembly.fields_rise ids classes program names are_linked.method_uses are_linked.field_uses class_names names_are are_linked.uses linked.fields are_linked.fields_planned (field_names program names_are) fields_made;
    fields = assembly.fields_are ids classes program names are_linked.method_uses are_linked.field_uses class_names names_are are_linked.uses linked.fields are_linked.fields_planned (field_names program names_are) fields_made;
    each_field = assembly.each_field ids classes program names are_linked.method_uses are_linked.field_uses class_names names_are are_linked.uses linked.fields are_linked.fields_planned (field_names program names_are) fields_made;
    texts = are_texts;
    main_class = type_name ids main.stated.class;
    main_is = main_found ids classes sound asked definition place main first;
    main = assembly.method_numbered ids classes program names are_linked.method_uses are_linked.field_uses class_names names_are are_linked.uses linked.methods are_linked.methods_planned (method_names program names_are) methods_made
        program.main main_plan.plan (whole_name (type_name ids main.stated.class) main_member) main_plan.there
        (main_is_named ids classes names are_linked.method_uses linked.methods asked definition place main_number.owner fit sound agree class_names are_linked.methods_planned main main_numbered program.main main_plan);
  }
