-- The values of a class's static fields by their numbers are those by their names.
use Rattle.std.proofs.Common.{◌≡◌, ℕ, zero, suc, ◌+◌, ◌<◌, Bool, true, false, eqb, ◌&&◌, cond, List, [], ◌∷◌, length, map, get_or, Option, Some, None, refl, sym, ap, ◌∙◌, subst, arith}
use Rattle.std.specs.Prelude.{slice_get, option_map, unwrap_or, Contains}
use Rattle.std.proofs.lemmas.Bool.Decides.{nat_tests}
use Rattle.std.proofs.lemmas.Option.{slice_get_within, slice_get-get_or, slice_get-map}
use Rattle.cc_meaning.specs.declared.file.ClassRow.{ClassRow}
use Rattle.cc_meaning.specs.declared.file.Ids.{Ids}
use Rattle.cc_meaning.specs.declared.file.RawClass.{RawClass}
use Rattle.cc_meaning.specs.declared.program.Field.{Field}
use Rattle.cc_meaning.specs.declared.program.Method.{Method}
use Rattle.cc_meaning.specs.declared.program.Program.{Program}
use Rattle.cc_meaning.specs.declared.program.StaticValue.{StaticValue}
use Rattle.cc_meaning.specs.declared.program.StaticValue.TheVariants as value
use Rattle.cc_meaning.specs.Lookup.{class_named, text_numbered}
use Rattle.cc_meaning_program.specs.ClassFaults.{AreSound}
use Rattle.cc_meaning_program.specs.ClassNames.{AreClassNames}
use Rattle.cc_meaning_program.specs.Named.{text_of}
use Rattle.cc_meaning_program.specs.Programs.{fields_from, fields_of, is_number, same_truth, value_listed, zero_of_field, ValueResolved, ValueIs, AreValues}
use Rattle.cc_meaning_program.specs.Resolved.{names_of}
use Rattle.cc_meaning_program.proofs.SameNames.{found_mapped}
use Rattle.cc_meaning_program.specs.declared.plan.FieldPlan.{FieldPlan}
use Rattle.cc_meaning_program.specs.Outlines.{definition_number}
use Rattle.cc_meaning_program.specs.Plans.{AreFieldPlans}
use Rattle.cc_meaning_program.specs.Rows.{FitTables, FitClasses}
use Rattle.cc_program.specs.Layouts.{own_fields}
use Rattle.cc_program.specs.Made.{values_in, values_at, TextsAre}
use Rattle.cc_program.specs.Parts.{HasParts}
use Rattle.cc_program.specs.Values.{listed_at, IsNumbered, Holds, AreHeld}
use Rattle.cc_program.proofs.LayoutsByName.{own_by_name}
use Rattle.cc_program.proofs.Places.{position_by_name}
use Rattle.cc_program.proofs.ListedByName.{listed_is}

some_is : {A : Type 0} (x y : A) → Some x ≡ Some y → x ≡ y
some_is x y e = cc

-- ---- the fields that a class declares itself are there, and of that class

pub record IsOwn (fields : List Field) (class start number : ℕ) : Type 0 where
  pub place : ℕ
  pub field : Field
  pub counted : number ≡ start + place
  pub there : slice_get fields place ≡ Some field
  pub of_class : field.class ≡ class

own_from : (fields : List Field) (start class : ℕ) (s : Bool) (place number : ℕ) → slice_get (fields_from start (Some class) s fields) place ≡ Some number → IsOwn fields class start number
unfolding fields_from is_number
own_from [] start class s place number e = absurd (cc)
own_from (f ∷ fs) start class s place number e = from (eqb class f.class) refl (same_truth f.is_static s) place e (λ p. own_from fs (suc start) class s p number)
  where
    later : IsOwn fs class (suc start) number → IsOwn (f ∷ fs) class start number
    later own = record { place = suc own.place; field = own.field; counted = let counted = own.counted in omega arith; there = own.there; of_class = own.of_class }

    from : (b : Bool) → eqb class f.class ≡ b → (t : Bool) (p : ℕ) → slice_get (cond (b && t) (start ∷ fields_from (suc start) (Some class) s fs) (fields_from (suc start) (Some class) s fs)) p ≡ Some number →
        ((p : ℕ) → slice_get (fields_from (suc start) (Some class) s fs) p ≡ Some number → IsOwn fs class (suc start) number) → IsOwn (f ∷ fs) class start number
    from true is true zero e on = record { place = 0; field = f; counted = let first : start ≡ number = some_is start number e in omega (arith, first); there = refl; of_class = let same : class ≡ f.class = grind (arith, nat_tests) in sym same }
    from true is true (suc p) e on = later (on p e)
    from true is false p e on = later (on p e)
    from false is t p e on = later (on p e)

pub own_is : (s : Bool) (fields : List Field) (class place number : ℕ) → slice_get (own_fields s fields class) place ≡ Some number → (field : Field) × (slice_get fields number ≡ Some field) × (field.class ≡ class)
unfolding own_fields
own_is s fields class place number e =
    let own = own_from fields 0 class s place number e in
    let counted : own.place ≡ number = let counted = own.counted in omega (arith, counted) in
    (own.field, ap (slice_get fields) (sym counted) ∙ own.there, own.of_class)

-- ---- texts of values

-- rows of texts are there
pub texts_are : (ids : Ids) (raw : List RawClass) (texts : List ℕ) → FitClasses ids raw → length texts ≡ length ids.texts → (definition : Option ℕ) → TextsAre raw texts definition
unfolding values_at values_in
texts_are ids raw texts fits long None row held = absurd (let within = held.1 in omega (arith, within))
texts_are ids raw texts fits long (Some number) row held = from (slice_get raw number) refl (held)
  where
    from : (o : Option RawClass) → slice_get raw number ≡ o → Contains (values_in o) (value.Text row) → row < length texts
    from None e held = absurd (let within = held.1 in omega (arith, within))
    from (Some class) e held =
        let within : number < length raw = slice_get_within raw number class e in
        let whole = fits.whole in
        let stated : slice_get ids.classes number ≡ Some (get_or ids.classes number none) = slice_get-get_or ids.classes number none (omega (arith, within, whole)) in
        let row_within = (fits.members number (get_or ids.classes number none) class stated e).values row held in
        omega (arith, row_within, long)
      where
        none : ClassRow
        none = record { class = 0; flags = 0; superclass = None; interfaces = []; members_at = 0; values_at = 0 }

-- ---- the values

module _ (ids : Ids) (raw : List RawClass) (names : List (List ℕ)) (uses : List ℕ) (plans : List FieldPlan) (fields : List Field) (methods : List Method) (texts : List ℕ) (program : Program) (are : names_of program ≡ names) (tables : FitTables ids) (sound : AreSound ids raw) (named : AreClassNames ids names) (planned : AreFieldPlans ids raw names uses plans) (parts : HasParts ids raw names plans fields methods texts program) where
  text_is : (row number : ℕ) → slice_get texts row ≡ Some number → text_numbered (text_of ids row) program ≡ Some number
  unfolding text_of
  text_is row number there =
      let mapped : slice_get (map Some ids.texts) row ≡ Some (slice_get program.texts number) =
      ap (λ xs. slice_get xs row) (sym parts.text_numbers) ∙ (slice_get-map (slice_get program.texts) texts row ∙ ap (option_map (slice_get program.texts)) there) in
      let found = found_mapped Some ids.texts row (slice_get program.texts number) mapped in
      position_by_name (λ (text : List ℕ). text) program.texts number found.0 (unwrap_or (slice_get ids.texts row) []) parts.texts_rise (sym found.2) (sym (ap (λ o. unwrap_or o []) found.1))

  resolved : (listed held : StaticValue) → IsNumbered texts listed held → ValueResolved ids program listed held
  resolved _ _ IsNumbered.int = ValueResolved.int
  resolved _ _ IsNumbered.long = ValueResolved.long
  resolved _ _ IsNumbered.null = ValueResolved.null
  resolved _ _ (IsNumbered.text {row = row} {number = number} there) = ValueResolved.text (text_is row number there)

  value_is : (number : ℕ) (listed : Option StaticValue) (held : StaticValue) → Holds fields texts number listed held → ValueIs ids program (slice_get program.fields number) listed held
  value_is number None held is = is ∙ ap (λ fs. zero_of_field (slice_get fs number)) (sym parts.of_fields)
  value_is number (Some listed) held is = resolved listed held is

  module _ (n : ℕ) (name : List ℕ) (definition : Option ℕ) (there : slice_get names n ≡ Some name) (is : definition ≡ definition_number ids name) where
    listed_here : (place number : ℕ) → slice_get (own_fields true program.fields n) place ≡ Some number → value_listed ids raw program name (slice_get program.fields number) ≡ listed_at plans (values_at raw definition) number
    listed_here place number e =
        let own = own_is true program.fields n place number e in
        ap (value_listed ids raw program name) own.1 ∙ listed_is ids raw names uses plans fields methods texts program are tables sound named planned parts n name definition number own.0 there is own.1 own.2

    by_numbers : (values : List StaticValue) → AreHeld fields plans (values_at raw definition) texts (own_fields true program.fields n) values → AreValues ids raw program name (own_fields true program.fields n) values
    by_numbers values held = record {
      few = held.few;
      each = λ place number given at got.
          subst (λ o. ValueIs ids program (slice_get program.fields number) o given) (sym (listed_here place number at)) (value_is number (listed_at plans (values_at raw definition) number) given (held.each place number given at got));
      all = λ place number at high. listed_here place number at ∙ held.all place number at high;
      last = λ place number ends at none. held.last place number ends at (sym (listed_here place number at) ∙ none);
    }

    pub values_are : (values : List StaticValue) → class_named name program ≡ Some n → AreHeld fields plans (values_at raw definition) texts (own_fields true fields n) values → AreValues ids raw program name (fields_of program true name) values
    values_are values number held =
        subst (λ own. AreValues ids raw program name own values) (sym (own_by_name program true n name number))
        (by_numbers values (subst (λ fs. AreHeld fields plans (values_at raw definition) texts (own_fields true fs n) values) (sym parts.of_fields) held))
