-- Classes that are made by numbers are those of the program.
use Rattle.std.proofs.Common.{◌≡◌, ℕ, false, List, length, map, Some, sym, ap, ◌∙◌, subst}
use Rattle.std.specs.Prelude.{slice_get}
use Rattle.cc_meaning.specs.declared.file.Ids.{Ids}
use Rattle.cc_meaning.specs.declared.file.RawClass.{RawClass}
use Rattle.cc_meaning.specs.declared.program.Class.{Class}
use Rattle.cc_meaning.specs.declared.program.Field.{Field}
use Rattle.cc_meaning.specs.declared.program.Method.{Method}
use Rattle.cc_meaning.specs.declared.program.Program.{Program}
use Rattle.cc_meaning_program.specs.ClassFaults.{AreSound}
use Rattle.cc_meaning_program.specs.ClassNames.{AreClassNames}
use Rattle.cc_meaning_program.specs.Programs.{IsClass}
use Rattle.cc_meaning_program.specs.Resolved.{names_of}
use Rattle.cc_meaning_program.proofs.Alike.{length_map, same_lists}
use Rattle.cc_meaning_program.proofs.SameNames.{found_mapped}
use Rattle.cc_meaning_program.specs.declared.outline.Outline.{Outline}
use Rattle.cc_meaning_program.specs.declared.plan.FieldPlan.{FieldPlan}
use Rattle.cc_meaning_program.specs.Outlines.{AreOutlines}
use Rattle.cc_meaning_program.specs.Plans.{AreFieldPlans}
use Rattle.cc_meaning_program.specs.Rows.{FitTables}
use Rattle.cc_program.specs.Layouts.{AreOwnFields}
use Rattle.cc_program.specs.Made.{AreMade}
use Rattle.cc_program.specs.Parts.{HasParts}
use Rattle.cc_program.proofs.LayoutsByName.{laid}
use Rattle.cc_program.proofs.ValuesByName.{values_are}
use Rattle.cc_program.proofs.OutlinesByName.{number_is, superclass_is, interfaces_are, flag_is}
use Rattle.cc_program.proofs.InitialisersByName.{initialiser_is}

module _ (ids : Ids) (raw : List RawClass) (names : List (List ℕ)) (outlines : List Outline) (plans : List FieldPlan) (fields : List Field) (methods : List Method) (texts : List ℕ) (are : AreOutlines ids names outlines) (classes : List Class) (made : AreMade ids raw names outlines plans fields methods texts classes) where
  pub names_are : map (λ (class : Class). class.name) classes ≡ names
  names_are = same_lists (map (λ (class : Class). class.name) classes) names (length_map (λ (class : Class). class.name) classes ∙ (made.all ∙ are.all)) at
    where
      some_is : (x y : List ℕ) → Some x ≡ Some y → x ≡ y
      some_is x y e = cc

      at : (k : ℕ) (x y : List ℕ) → slice_get (map (λ (class : Class). class.name) classes) k ≡ Some x → slice_get names k ≡ Some y → x ≡ y
      at k x y one two =
          let found = found_mapped (λ (class : Class). class.name) classes k x one in
          sym found.2 ∙ some_is found.0.name y (sym (made.each k found.0 found.1).name ∙ two)

  module _ (uses : List ℕ) (tables : FitTables ids) (sound : AreSound ids raw) (named : AreClassNames ids names) (planned : AreFieldPlans ids raw names uses plans) (program : Program) (is : program.classes ≡ classes) (parts : HasParts ids raw names plans fields methods texts program) where
    same_names : names_of program ≡ names
    unfolding names_of
    same_names = ap (map (λ (class : Class). class.name)) is ∙ names_are

    pub class_is : (number : ℕ) (class : Class) → slice_get classes number ≡ Some class → IsClass ids raw program number class
    class_is number class there =
        let one = made.each number class there in
        let out = are.each number class.name one.outline one.name one.there in
        let owned : AreOwnFields false program.fields (length outlines) made.own = subst (λ fs. AreOwnFields false fs (length outlines) made.own) (sym parts.of_fields) made.owned in
        let laid_out = laid ids names outlines are program (number_is program names same_names named.rise) made.own owned number class.name class.layout one.name one.layout in
        record {
          kind = one.kind ∙ out.kind;
          superclass = one.superclass ∙ superclass_is program names same_names named.rise _ one.outline.superclass out.superclass;
          interfaces = ap (map Some) one.interfaces ∙ interfaces_are program names same_names named.rise _ one.outline.interfaces out.interfaces;
          is_interface = flag_is ids class.name one.outline.definition 512 class.is_interface out.definition one.is_interface;
          is_abstract = flag_is ids class.name one.outline.definition 1024 class.is_abstract out.definition one.is_abstract;
          ancestors = laid_out.ancestors;
          ancestry = laid_out.ancestry;
          layout = laid_out.laid;
          initialiser = initialiser_is ids raw names plans fields methods texts program same_names tables named parts number class.name (length outlines) made.begun class.initialiser one.name made.beginnings one.initialiser;
          values = values_are ids raw names uses plans fields methods texts program same_names tables sound named planned parts number class.name one.outline.definition one.name out.definition class.values
              (number_is program names same_names named.rise number class.name one.name) one.values;
        }
