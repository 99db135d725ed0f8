-- The lists of members of two programs of one file are one.
use Rattle.std.proofs.Common.{◌≡◌, ℕ, false, List, [], length, map, get_or, Option, Some, None, sym, ap, ◌∙◌, subst}
use Rattle.std.specs.Prelude.{slice_get, Contains, option_map}
use Rattle.std.specs.Str.{bytes_eq}
use Rattle.std.proofs.lemmas.List.Quantifiers.{position-Some}
use Rattle.std.proofs.lemmas.Option.{slice_get-map, slice_get-get_or}
use Rattle.std.proofs.lemmas.Slice.Eq.{bytes_eq-Decides}
use Rattle.cc_meaning.specs.declared.file.Ids.{Ids}
use Rattle.cc_meaning.specs.declared.file.RawClass.{RawClass}
use Rattle.cc_meaning.specs.declared.program.Class.{Class}
use Rattle.cc_meaning.specs.declared.program.ClassKind.TheVariants as origin
use Rattle.cc_meaning.specs.declared.program.Field.{Field}
use Rattle.cc_meaning.specs.declared.program.Method.{Method}
use Rattle.cc_meaning.specs.declared.program.Program.{Program}
use Rattle.cc_meaning.specs.Lookup.{class_named}
use Rattle.cc_meaning.specs.Names.{method_name, field_name}
use Rattle.cc_meaning_program.specs.ClassNames.{OneClassNames, OneTexts}
use Rattle.cc_meaning_program.specs.Instructions.{OneReading}
use Rattle.cc_meaning_program.specs.TypeNames.{SpelledOnce}
use Rattle.cc_meaning_program.specs.Laws.{AreDescriptors}
use Rattle.cc_meaning_program.specs.Members.{IsMethod, IsField}
use Rattle.cc_meaning_program.specs.Programs.{IsProgram}
use Rattle.cc_meaning_program.specs.Resolved.{names_of, whole_name}
use Rattle.cc_meaning_program.proofs.Splitting.{Leads}
use Rattle.cc_meaning_program.proofs.Leading.{class_name_leads, same_class, same_member}
use Rattle.cc_meaning_program.proofs.Alike.{length_map, same_lists, same_class_number}
use Rattle.cc_meaning_program.proofs.SameNames.{found_contains, same_methods, same_fields, same_method_number, same_field_number}
use Rattle.cc_meaning_program.proofs.SameCode.{Agree}
use Rattle.cc_meaning_program.proofs.SameMembers.{method_once, field_once}

no_class : Class
no_class = record { name = []; kind = origin.File; superclass = None; interfaces = []; is_interface = false; is_abstract = false; layout = []; initialiser = None; values = [] }

pub some_is : {A : Type 0} (x y : A) → Some x ≡ Some y → x ≡ y
some_is x y e = cc

-- a class that has a number stands among the names
named_there : (program : Program) (name : List ℕ) (class : ℕ) → class_named name program ≡ Some class → Contains (names_of program) name
unfolding names_of
named_there program name class e =
    let at = position-Some (λ (c : Class). bytes_eq c.name name) program.classes class no_class e in
    let there = slice_get-get_or program.classes class no_class at.0 in
    found_contains (λ (c : Class). c.name) program.classes name class (get_or program.classes class no_class) there ((bytes_eq-Decides (get_or program.classes class no_class).name name).0 at.1)

-- the elements at a place of two lists give the same, where all do
pub same_image : {A B : Type 0} (f g : A → B) (xs ys : List A) → map f xs ≡ map g ys → (k : ℕ) (x y : A) → slice_get xs k ≡ Some x → slice_get ys k ≡ Some y → f x ≡ g y
same_image f g xs ys same k x y first second =
    some_is (f x) (g y) (sym (ap (option_map f) first) ∙ (sym (slice_get-map f xs k) ∙ (ap (λ zs. slice_get zs k) same ∙ (slice_get-map g ys k ∙ ap (option_map g) second))))

module _ (class_names : OneClassNames) (texts : OneTexts) (once : SpelledOnce) (reading : OneReading) (ids : Ids) (classes : List RawClass) (asked : Option (List ℕ)) (are : AreDescriptors ids)
    (this that : Program) (one : IsProgram ids classes asked this) (two : IsProgram ids classes asked that) where
  pub names : names_of this ≡ names_of that
  names = class_names ids (names_of this) (names_of that) one.class_names two.class_names

  pub agree : Agree ids classes this that
  agree = record {
    names = names;
    rise = two.class_names.rise;
    texts = texts ids this.texts that.texts one.texts two.texts;
    class = same_class_number this that names;
    method = same_method_number ids classes asked this that one two;
    field = same_field_number ids classes asked this that one two;
  }

  leads_of : (program : Program) → IsProgram ids classes asked program → (name : List ℕ) (class : ℕ) → class_named name program ≡ Some class → Leads name
  leads_of program is name class named = class_name_leads ids are name ((is.class_names.are name).0 (named_there program name class named))

  same_method_at : (k : ℕ) (a b : Method) → slice_get this.methods k ≡ Some a → slice_get that.methods k ≡ Some b → a ≡ b
  same_method_at k a b first second =
      let mine = one.each_method k a first in
      let other = two.each_method k b second in
      let text : whole_name mine.0 mine.1 ≡ whole_name other.0 other.1 =
      sym mine.3 ∙ (same_image (method_name this) (method_name that) this.methods that.methods (same_methods ids classes asked this that one two) k a b first second ∙ other.3) in
      let left = leads_of this one mine.0 a.class mine.2 in
      let right = leads_of that two other.0 b.class other.2 in
      let owner : mine.0 ≡ other.0 = same_class mine.0 other.0 mine.1 other.1 left right text in
      let member : mine.1 ≡ other.1 = same_member mine.0 other.0 mine.1 other.1 left right text in
      let class : a.class ≡ b.class = some_is a.class b.class (sym mine.2 ∙ (agree.class mine.0 ∙ (ap (λ o. class_named o that) owner ∙ other.2))) in
      method_once once reading ids classes this that agree other.0 other.1 a b class
      (subst (λ m. IsMethod ids classes this other.0 m a) member (subst (λ o. IsMethod ids classes this o mine.1 a) owner mine.4)) other.4

  same_field_at : (k : ℕ) (a b : Field) → slice_get this.fields k ≡ Some a → slice_get that.fields k ≡ Some b → a ≡ b
  same_field_at k a b first second =
      let mine = one.each_field k a first in
      let other = two.each_field k b second in
      let text : whole_name mine.0 mine.1 ≡ whole_name other.0 other.1 =
      sym mine.3 ∙ (same_image (field_name this) (field_name that) this.fields that.fields (same_fields ids classes asked this that one two) k a b first second ∙ other.3) in
      let left = leads_of this one mine.0 a.class mine.2 in
      let right = leads_of that two other.0 b.class other.2 in
      let owner : mine.0 ≡ other.0 = same_class mine.0 other.0 mine.1 other.1 left right text in
      let member : mine.1 ≡ other.1 = same_member mine.0 other.0 mine.1 other.1 left right text in
      let class : a.class ≡ b.class = some_is a.class b.class (sym mine.2 ∙ (agree.class mine.0 ∙ (ap (λ o. class_named o that) owner ∙ other.2))) in
      field_once once reading ids classes this that agree other.0 other.1 a b class
      (subst (λ m. IsField ids classes this other.0 m a) member (subst (λ o. IsField ids classes this o mine.1 a) owner mine.4)) other.4

  pub all_methods : this.methods ≡ that.methods
  all_methods =
      same_lists this.methods that.methods
      (sym (length_map (method_name this) this.methods) ∙ (ap length (same_methods ids classes asked this that one two) ∙ length_map (method_name that) that.methods)) same_method_at

  pub all_fields : this.fields ≡ that.fields
  all_fields =
      same_lists this.fields that.fields
      (sym (length_map (field_name this) this.fields) ∙ (ap length (same_fields ids classes asked this that one two) ∙ length_map (field_name that) that.fields)) same_field_at
