-- The initialiser of a class by numbers is the static method with code of its name.
use Rattle.std.proofs.Common.{◌≡◌, ℕ, ◌<◌, Bool, true, false, cond, List, [], ◌++◌, length, Option, Some, None, refl, sym, ap, ◌∙◌, subst}
use Rattle.std.specs.Prelude.{slice_get, option_and_then, unwrap_or, codes}
use Rattle.std.specs.Str.{bytes_eq}
use Rattle.std.proofs.lemmas.Option.{slice_get_within, get_or_from_slice_get}
use Rattle.std.proofs.lemmas.Slice.Eq.{bytes_eq-Decides}
use Rattle.cc_meaning.specs.declared.file.Ids.{Ids}
use Rattle.cc_meaning.specs.declared.file.RawClass.{RawClass}
use Rattle.cc_meaning.specs.declared.program.Class.{Class}
use Rattle.cc_meaning.specs.declared.program.Method.{Method}
use Rattle.cc_meaning.specs.declared.program.Program.{Program}
use Rattle.cc_meaning.specs.Lookup.{class_named, method_named}
use Rattle.cc_meaning.specs.Names.{member_name, method_name, class_name, name_or_none}
use Rattle.cc_meaning_dex.specs.Descriptors.{IsDescriptor}
use Rattle.cc_meaning_program.specs.ClassNames.{AreClassNames}
use Rattle.cc_meaning_program.specs.Named.{type_name}
use Rattle.cc_meaning_program.specs.Laws.{AreDescriptors}
use Rattle.cc_meaning_program.specs.Programs.{is_run, static_with_code}
use Rattle.cc_meaning_program.specs.Resolved.{names_of, whole_name}
use Rattle.cc_meaning_program.proofs.Leading.{class_name_leads, same_class, same_member}
use Rattle.cc_meaning_program.proofs.Splitting.{Leads}
use Rattle.cc_meaning_program.proofs.SameNames.{found_mapped}
use Rattle.cc_meaning_program.specs.Rows.{FitTables}
use Rattle.cc_meaning_program.specs.declared.plan.FieldPlan.{FieldPlan}
use Rattle.cc_meaning.specs.declared.program.Field.{Field}
use Rattle.cc_program.specs.Initialisers.{IsInitialiser, AreInitialisers}
use Rattle.cc_program.specs.Parts.{HasParts}
use Rattle.cc_program.proofs.MemberNames.{begins_by_name, member_by_begins}
use Rattle.cc_program.proofs.OutlinesByName.{name_is, number_is}
use Rattle.cc_program.proofs.Places.{Placed, placed, position_by_name}

-- ---- names of classes

pub are_descriptors : (ids : Ids) → FitTables ids → AreDescriptors ids
unfolding type_name
are_descriptors ids tables row name is = subst IsDescriptor (ap (λ o. unwrap_or o []) is) (tables.types row (within (slice_get ids.types row) refl is))
  where
    within : (o : Option ℕ) → slice_get ids.types row ≡ o → option_and_then (slice_get ids.texts) o ≡ Some name → row < length ids.types
    within None e none = absurd (cc)
    within (Some text) e some = slice_get_within ids.types row text e

pub leads_at : (ids : Ids) (names : List (List ℕ)) → FitTables ids → AreClassNames ids names → (n : ℕ) (name : List ℕ) → slice_get names n ≡ Some name → Leads name
leads_at ids names tables are n name there = class_name_leads ids (are_descriptors ids tables) name ((are.are name).0 (n, slice_get_within names n name there, get_or_from_slice_get names n name name there))

pub class_name_is : (program : Program) (names : List (List ℕ)) → names_of program ≡ names → (n : ℕ) (name : List ℕ) → slice_get names n ≡ Some name → class_name program n ≡ name
unfolding names_of
class_name_is program names are n name there =
    let found = found_mapped (λ (class : Class). class.name) program.classes n name (ap (λ xs. slice_get xs n) are ∙ there) in
    ap name_or_none found.1 ∙ found.2

-- ---- the initialiser

some_is : {A : Type 0} (x y : A) → Some x ≡ Some y → x ≡ y
some_is x y e = cc

module _ (ids : Ids) (raw : List RawClass) (names : List (List ℕ)) (plans : List FieldPlan) (fields : List Field) (methods : List Method) (texts : List ℕ) (program : Program) (are : names_of program ≡ names) (tables : FitTables ids) (named : AreClassNames ids names) (parts : HasParts ids raw names plans fields methods texts program) where
  -- a method's whole name, where its class has this name
  whole : (method : Method) (name : List ℕ) → slice_get names method.class ≡ Some name → method_name program method ≡ whole_name name (member_name program method)
  unfolding whole_name
  whole method name there = ap (λ c. c ++ codes "->" ++ member_name program method) (class_name_is program names are method.class name there)

  run_at : (k : ℕ) (method : Method) → slice_get program.methods k ≡ Some method → is_run (Some method) ≡ true → cond (is_run (slice_get program.methods k)) (Some k) None ≡ Some k
  run_at k method there run = ap (λ o. cond (is_run o) (Some k) None) there ∙ ap (λ b. cond b (Some k) None) run

  found_is : (n k : ℕ) (name : List ℕ) → slice_get names n ≡ Some name → IsInitialiser methods n k → static_with_code program (whole_name name (codes "<clinit>()V")) ≡ Some k
  unfolding static_with_code
  found_is n k name there is =
      let at : slice_get program.methods k ≡ Some is.method = ap (λ ms. slice_get ms k) parts.of_methods ∙ is.there in
      let class : slice_get names is.method.class ≡ Some name = ap (slice_get names) is.of_class ∙ there in
      let full : method_name program is.method ≡ whole_name name (codes "<clinit>()V") = whole is.method name class ∙ ap (whole_name name) (member_by_begins program is.method is.begins) in
      let place : method_named (whole_name name (codes "<clinit>()V")) program ≡ Some k = position_by_name (method_name program) program.methods k is.method (whole_name name (codes "<clinit>()V")) parts.methods_rise at full in
      ap (option_and_then (λ number. cond (is_run (slice_get program.methods number)) (Some number) None)) place ∙ run_at k is.method at is.begins.run

  -- the static method with code of this name begins the class
  begins : (n k : ℕ) (name : List ℕ) (method : Method) → slice_get names n ≡ Some name → slice_get program.methods k ≡ Some method → method_name program method ≡ whole_name name (codes "<clinit>()V") → is_run (Some method) ≡ true → IsInitialiser methods n k
  begins n k name method there at full run =
      let owned = parts.each_method k method at in
      let class : slice_get names method.class ≡ Some owned.0 = name_is program names are owned.0 method.class owned.2 in
      let leads : Leads owned.0 = leads_at ids names tables named method.class owned.0 class in
      let also : Leads name = leads_at ids names tables named n name there in
      let mine : whole_name owned.0 (member_name program method) ≡ whole_name name (codes "<clinit>()V") = sym (whole method owned.0 class) ∙ full in
      let same : owned.0 ≡ name = same_class owned.0 name (member_name program method) (codes "<clinit>()V") leads also mine in
      let member : member_name program method ≡ codes "<clinit>()V" = same_member owned.0 name (member_name program method) (codes "<clinit>()V") leads also mine in
      let number : method.class ≡ n = some_is method.class n (sym (number_is program names are named.rise method.class owned.0 class) ∙ (ap (λ o. class_named o program) same ∙ number_is program names are named.rise n name there)) in
      record {
        method = method;
        there = ap (λ ms. slice_get ms k) (sym parts.of_methods) ∙ at;
        of_class = number;
        begins = begins_by_name program ids raw owned.0 owned.1 method owned.4 run member;
      }

  none_is : (n : ℕ) (name : List ℕ) → slice_get names n ≡ Some name → ((k : ℕ) → ¬ IsInitialiser methods n k) → static_with_code program (whole_name name (codes "<clinit>()V")) ≡ None
  unfolding static_with_code
  none_is n name there none = from (method_named (whole_name name (codes "<clinit>()V")) program) refl
    where
      same : (method : Method) → bytes_eq (method_name program method) (whole_name name (codes "<clinit>()V")) ≡ true → method_name program method ≡ whole_name name (codes "<clinit>()V")
      same method e = (bytes_eq-Decides (method_name program method) (whole_name name (codes "<clinit>()V"))).0 e

      idle : (k : ℕ) (method : Method) (b : Bool) → is_run (Some method) ≡ b → slice_get program.methods k ≡ Some method → method_name program method ≡ whole_name name (codes "<clinit>()V") → cond b (Some k) None ≡ None
      idle k method false e at full = refl
      idle k method true e at full = absurd (none k (begins n k name method there at full e))

      from : (o : Option ℕ) → method_named (whole_name name (codes "<clinit>()V")) program ≡ o → option_and_then (λ number. cond (is_run (slice_get program.methods number)) (Some number) None) o ≡ None
      from None e = refl
      from (Some k) e =
          let at : Placed (λ (method : Method). bytes_eq (method_name program method) (whole_name name (codes "<clinit>()V"))) program.methods k = placed (λ (method : Method). bytes_eq (method_name program method) (whole_name name (codes "<clinit>()V"))) program.methods k e in
          ap (λ o. cond (is_run o) (Some k) None) at.there ∙ idle k at.item (is_run (Some at.item)) refl at.there (same at.item at.passes)

  pub initialiser_is : (n : ℕ) (name : List ℕ) (count : ℕ) (begun : List (Option ℕ)) (given : Option ℕ) → slice_get names n ≡ Some name → AreInitialisers methods count begun → slice_get begun n ≡ Some given → given ≡ static_with_code program (whole_name name (codes "<clinit>()V"))
  initialiser_is n name count begun None there all is = sym (none_is n name there (all.none n is))
  initialiser_is n name count begun (Some k) there all is = sym (found_is n k name there (all.are n k is))
