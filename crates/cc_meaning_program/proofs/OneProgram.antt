-- A file's tables and classes give one program at most.
use Rattle.std.proofs.Common.{◌≡◌, ◌⊎◌, inl, inr, ℕ, ◌<◌, List, length, Option, Some, refl, sym, ap, ◌∙◌, subst}
use Rattle.std.specs.Prelude.{slice_get}
use Rattle.cc_meaning.specs.declared.file.ClassRow.{ClassRow}
use Rattle.cc_meaning.specs.declared.file.Ids.{Ids}
use Rattle.cc_meaning.specs.declared.file.RawClass.{RawClass}
use Rattle.cc_meaning.specs.declared.program.Class.{Class}
use Rattle.cc_meaning.specs.declared.program.Field.{Field}
use Rattle.cc_meaning.specs.declared.program.Method.{Method}
use Rattle.cc_meaning.specs.declared.program.Program.{Program}
use Rattle.cc_meaning.specs.Lookup.{method_named}
use Rattle.cc_meaning_program.specs.ClassNames.{OneClassNames, OneTexts}
use Rattle.cc_meaning_program.specs.Definitions.{Defines}
use Rattle.cc_meaning_program.specs.Instructions.{OneReading}
use Rattle.cc_meaning_program.specs.Named.{type_name}
use Rattle.cc_meaning_program.specs.TypeNames.{SpelledOnce}
use Rattle.cc_meaning_program.specs.Laws.{OneProgram}
use Rattle.cc_meaning_program.specs.Programs.{IsMainClass, main_member}
use Rattle.cc_meaning_program.specs.Resolved.{names_of, whole_name}
use Rattle.cc_meaning_program.proofs.Alike.{length_map, same_lists}
use Rattle.cc_meaning_program.proofs.SameClasses.{lt_cases, class_once}
use Rattle.cc_meaning_program.proofs.SameCode.{three_parts}
use Rattle.cc_meaning_program.proofs.SameLists.{some_is, same_image, names, agree, all_methods, all_fields}

defined_once : (ids : Ids) (number : ℕ) (this that : List ℕ) → Defines ids number this → Defines ids number that → this ≡ that
defined_once ids number this that one two =
    let stated : one.stated ≡ two.stated = some_is one.stated two.stated (sym one.there ∙ two.there) in
    sym one.named ∙ (ap (λ (s : ClassRow). type_name ids s.class) stated ∙ two.named)

main_class_once : (ids : Ids) (classes : List RawClass) (asked : Option (List ℕ)) (this that : List ℕ) → IsMainClass ids classes asked this → IsMainClass ids classes asked that → this ≡ that
main_class_once ids classes _ this that (IsMainClass.asked one) (IsMainClass.asked two) = refl
main_class_once ids classes _ this that (IsMainClass.first {number = m} defines has before) (IsMainClass.first {number = n} also there earlier) = from (lt_cases m n)
  where
    from : (m < n) ⊎ ((n < m) ⊎ (m ≡ n)) → this ≡ that
    from (inl less) = absurd (earlier m this less defines has)
    from (inr (inl more)) = absurd (before n that more also there)
    from (inr (inr same)) = defined_once ids n this that (subst (λ k. Defines ids k this) same defines) also

abbrev program_of : List Class → List Method → List Field → List (List ℕ) → ℕ → Program
program_of classes methods fields texts main = record { classes = classes; methods = methods; fields = fields; texts = texts; main = main }

pub one_program : OneClassNames → OneTexts → SpelledOnce → OneReading → OneProgram
unfolding names_of
one_program class_names one_texts once reading ids classes asked are this that one two =
    let same = agree class_names one_texts once reading ids classes asked are this that one two in
    let methods : this.methods ≡ that.methods = all_methods class_names one_texts once reading ids classes asked are this that one two in
    let fields : this.fields ≡ that.fields = all_fields class_names one_texts once reading ids classes asked are this that one two in
    let listed : this.classes ≡ that.classes = all_classes methods fields in
    let main_class : one.main_class ≡ two.main_class = main_class_once ids classes asked one.main_class two.main_class one.main_is two.main_is in
    let main : this.main ≡ that.main =
    some_is this.main that.main (sym one.main ∙ (same.method (whole_name one.main_class main_member) ∙ (ap (λ c. method_named (whole_name c main_member) that) main_class ∙ two.main))) in
    ap (λ c. program_of c this.methods this.fields this.texts this.main) listed
    ∙ (ap (λ m. program_of that.classes m this.fields this.texts this.main) methods ∙ three_parts (program_of that.classes that.methods) fields same.texts main)
  where
    class_at : this.methods ≡ that.methods → this.fields ≡ that.fields → (k : ℕ) (a b : Class) → slice_get this.classes k ≡ Some a → slice_get that.classes k ≡ Some b → a ≡ b
    class_at methods fields k a b first second =
        let name : a.name ≡ b.name = same_image (λ (c : Class). c.name) (λ (c : Class). c.name) this.classes that.classes (names class_names one_texts once reading ids classes asked are this that one two) k a b first second in
        class_once ids classes this that (agree class_names one_texts once reading ids classes asked are this that one two) methods fields k a b name (one.each_class k a first) (two.each_class k b second)

    all_classes : this.methods ≡ that.methods → this.fields ≡ that.fields → this.classes ≡ that.classes
    all_classes methods fields =
        let long : length this.classes ≡ length that.classes =
        sym (length_map (λ (c : Class). c.name) this.classes) ∙ (ap length (names class_names one_texts once reading ids classes asked are this that one two) ∙ length_map (λ (c : Class). c.name) that.classes) in
        same_lists this.classes that.classes long (class_at methods fields)
