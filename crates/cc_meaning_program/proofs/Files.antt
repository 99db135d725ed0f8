-- From the tables and classes of a file to its bytes.
use Rattle.std.proofs.Common.{◌≡◌, ℕ, ◌<◌, length, Option, Some, None, refl, subst}
use Rattle.std.specs.Prelude.{slice_get, option_and_then}
use Rattle.std.proofs.lemmas.Option.{slice_get_within}
use Rattle.cc_meaning_dex.specs.declared.table.Table.TheVariants.{Types}
use Rattle.cc_meaning_dex.specs.Descriptors.{IsDescriptor}
use Rattle.cc_meaning_dex.specs.Faults.{type_text}
use Rattle.cc_meaning_dex.specs.Ids.{TextSpelled}
use Rattle.cc_meaning_dex.specs.TextLaws.{OneText}
use Rattle.cc_meaning_dex.specs.RowForms.{WellFormedFiles}
use Rattle.cc_meaning_dex.specs.Tables.{row_count}
use Rattle.cc_meaning_dex.specs.TableLaws.{OneIds}
use Rattle.cc_meaning_dex.specs.Classes.{SpellsClasses}
use Rattle.cc_meaning_dex.specs.ClassLaws.{OneClasses}
use Rattle.cc_meaning_program.specs.Laws.{OneProgram, FilesHaveDescriptors, OneProgramOfFile}
use Rattle.cc_meaning_program.specs.Programs.{IsProgram}

some_then : {A B : Type 0} (f : A → Option B) (o : Option A) (y : B) → option_and_then f o ≡ Some y → (x : A) × (o ≡ Some x) × (f x ≡ Some y)
some_then f (Some x) y e = (x, refl, e)
some_then f None y e = absurd (cc)

pub files_have_descriptors : OneText → WellFormedFiles → FilesHaveDescriptors
files_have_descriptors one_text well_formed file ids spelled type name e =
    let found = some_then (slice_get ids.texts) (slice_get ids.types type) name e in
    let text : ℕ = found.0 in
    let inside : type < length ids.types = slice_get_within ids.types type text found.1 in
    let there : type < row_count file Types = subst (λ n. type < n) spelled.tables.types.all inside in
    let fits = ((well_formed file).0 spelled.sound).rows Types type there in
    let row : text ≡ type_text file type = spelled.tables.types.each type text found.1 in
    let mine : TextSpelled file (type_text file type) name = subst (λ t. TextSpelled file t name) row (spelled.tables.texts.each text name found.2) in
    let same : fits.units ≡ name = one_text file _ fits.units name fits.text.spelled mine in
    subst IsDescriptor same fits.descriptor

pub one_program_of_file : OneIds → OneClasses → FilesHaveDescriptors → OneProgram → OneProgramOfFile
one_program_of_file one_ids one_classes descriptors one_program file asked this that one two =
    let ids : one.ids ≡ two.ids = one_ids file one.ids two.ids one.tables two.tables in
    let members : SpellsClasses file two.ids one.classes = subst (λ i. SpellsClasses file i one.classes) ids one.members in
    let classes : one.classes ≡ two.classes = one_classes file two.ids one.classes two.classes members two.members in
    let first : IsProgram two.ids two.classes asked this = subst (λ c. IsProgram two.ids c asked this) classes (subst (λ i. IsProgram i one.classes asked this) ids one.is) in
    one_program two.ids two.classes asked (descriptors file two.ids two.tables) this that first two.is
