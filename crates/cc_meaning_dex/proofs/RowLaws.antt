-- That a file has no fault just where each row fits.
use Rattle.std.proofs.Common.{◌≡◌, ◌⊎◌, inl, inr, ℕ, ◌+◌, ◌<◌, Bool, true, false, ◌&&◌, ◌||◌, eqb, nat_lt, List, Some, None, Result, Ok, Err, IsTrue, refl, sym, subst, arith}
use Rattle.std.specs.List.{list_all}
use Rattle.std.proofs.lemmas.Bool.Decides.{nat_tests}
use Rattle.cc_meaning.specs.declared.fault.TextFault.{TextFault}
use Rattle.cc_meaning.specs.declared.fault.TextFault.TheVariants as reason
use Rattle.cc_meaning_dex.specs.declared.table.Table.{Table}
use Rattle.cc_meaning_dex.specs.declared.table.Table.TheVariants.{Texts, Types, Prototypes, Fields, Methods, Classes}
use Rattle.cc_meaning_dex.specs.Numbers.{u16_at, u32_at}
use Rattle.cc_meaning_dex.specs.Texts.{text_at, text_item_at, units_of}
use Rattle.cc_meaning_dex.specs.TextLaws.{TextAgrees}
use Rattle.cc_meaning_dex.specs.Tables.{row_count, row_at, IsRow}
use Rattle.cc_meaning_dex.specs.Descriptors.{is_paired, is_descriptor, names_class, names_reference, names_value}
use Rattle.cc_meaning_dex.specs.Faults.{text_offset, text_units, type_text, is_type, is_name, is_described, may_extend, no_row, list_fault, listed_types, misfit, text_fault, params_at, interfaces_at, prototype_fits, field_fits, method_fits, class_fits, row_fault}
use Rattle.cc_meaning_dex.specs.Ids.{TextSpelled}
use Rattle.cc_meaning_dex.specs.TableLaws.{IsSound, SoundFiles, TextsJudged, PairsAgree, DescriptorsAgree}
use Rattle.cc_meaning_dex.specs.RowForms.{TypeOf, NameAt, TypeFits, TypesOf, PrototypeFits, FieldFits, MethodFits, ClassFits, RowFits, WellFormedFiles, TypesListed}
use Rattle.cc_meaning_dex.proofs.FaultLaws.{or_none, none_or}
use Rattle.cc_meaning_dex.proofs.ListLaws.{each_passes, passes_each}

both_true : (a b : Bool) → (a && b) ≡ true → (a ≡ true) × (b ≡ true)
both_true true b e = (refl, e)
both_true false b e = absurd (cc)

true_both : (a b : Bool) → a ≡ true → b ≡ true → (a && b) ≡ true
true_both true b first second = second
true_both false b first second = absurd (cc)

below : (m n : ℕ) → nat_lt m n ≡ true → m < n
below m n e = grind (arith, nat_tests)

is_below : (m n : ℕ) → m < n → nat_lt m n ≡ true
is_below m n e = grind (arith, nat_tests)

-- what the laws below this one say
record Known : Type 0 where
  agrees : TextAgrees
  judged : TextsJudged
  pairs : PairsAgree
  descriptors : DescriptorsAgree
  listed : TypesListed

-- ---- texts

item_stands : (at row : ℕ) (item : Result (List ℕ × ℕ) TextFault) → text_fault at row item ≡ None → (units : List ℕ) × (units_of item ≡ Some units)
item_stands at row (Ok item) none = (item.0, refl)
item_stands at row (Err reason.CutOff) none = absurd (cc)
item_stands at row (Err (reason.BadForm place)) none = absurd (cc)
item_stands at row (Err reason.BadCount) none = absurd (cc)
item_stands at row (Err reason.Memory) none = absurd (cc)

no_text_fault : (at row : ℕ) (units : List ℕ) (item : Result (List ℕ × ℕ) TextFault) → units_of item ≡ Some units → text_fault at row item ≡ None
no_text_fault at row units (Ok item) e = refl
no_text_fault at row units (Err reason) e = absurd (cc)

text_fits : Known → (file : List ℕ) (row : ℕ) → row_fault file Texts row ≡ None → RowFits file Texts row
unfolding row_fault text_at
text_fits known file row none =
    let item = item_stands (text_offset file row) row (text_item_at file (text_offset file row)) none in
    (item.0, (known.agrees file (text_offset file row) item.0).0 item.1)

fits_text : Known → (file : List ℕ) (row : ℕ) → RowFits file Texts row → row_fault file Texts row ≡ None
unfolding row_fault text_at
fits_text known file row fits =
    no_text_fault (text_offset file row) row fits.0 (text_item_at file (text_offset file row)) ((known.agrees file (text_offset file row) fits.0).1 fits.1)

-- ---- types and names

-- each row of texts spells one, and each row of types names one
record Spelled (file : List ℕ) : Type 0 where
  texts : (row : ℕ) → IsRow file Texts row → (units : List ℕ) × TextSpelled file row units
  types : (row : ℕ) → IsRow file Types row → IsRow file Texts (type_text file row)

type_is : Known → (sort : List ℕ → Bool) (file : List ℕ) (row : ℕ) → Spelled file → is_type sort file row ≡ true → TypeOf sort file row
type_is known sort file row spelled e =
    let both = both_true (nat_lt row (row_count file Types)) (sort (text_units file (type_text file row))) e in
    let there = below row (row_count file Types) both.0 in
    let named = spelled.types row there in
    let text = spelled.texts (type_text file row) named in
    record {
      there = there;
      units = text.0;
      descriptor = record { there = named; spelled = text.1 };
      sorted = subst (λ units. IsTrue (sort units)) (known.judged file (type_text file row) text.0 text.1) both.1;
    }

is_type_of : Known → (sort : List ℕ → Bool) (file : List ℕ) (row : ℕ) → TypeOf sort file row → is_type sort file row ≡ true
is_type_of known sort file row type =
    true_both (nat_lt row (row_count file Types)) (sort (text_units file (type_text file row))) (is_below row (row_count file Types) type.there)
    (subst (λ units. IsTrue (sort units)) (sym (known.judged file (type_text file row) type.units type.descriptor.spelled)) type.sorted)

name_is : Known → (file : List ℕ) (row : ℕ) → Spelled file → is_name file row ≡ true → NameAt file row
name_is known file row spelled e =
    let both = both_true (nat_lt row (row_count file Texts)) (is_paired (text_units file row)) e in
    let there = below row (row_count file Texts) both.0 in
    let text = spelled.texts row there in
    record {
      units = text.0;
      text = record { there = there; spelled = text.1 };
      paired = (known.pairs text.0).0 (subst (λ units. IsTrue (is_paired units)) (known.judged file row text.0 text.1) both.1);
    }

is_name_at : Known → (file : List ℕ) (row : ℕ) → NameAt file row → is_name file row ≡ true
is_name_at known file row name =
    true_both (nat_lt row (row_count file Texts)) (is_paired (text_units file row)) (is_below row (row_count file Texts) name.text.there)
    (subst (λ units. IsTrue (is_paired units)) (sym (known.judged file row name.units name.text.spelled)) ((known.pairs name.units).1 name.paired))

types_are : Known → (sort : List ℕ → Bool) (file : List ℕ) (at : ℕ) → Spelled file → list_fault file at ≡ None → list_all (is_type sort file) (listed_types file at) ≡ true → TypesOf sort file at
types_are known sort file at spelled stands e = record {
  types = listed_types file at;
  listed = (known.listed file at (listed_types file at)).0 (stands, refl);
  each = λ place type found. type_is known sort file type spelled (each_passes (is_type sort file) (listed_types file at) e place type found);
}

are_types : Known → (sort : List ℕ → Bool) (file : List ℕ) (at : ℕ) → TypesOf sort file at → (list_fault file at ≡ None) × (list_all (is_type sort file) (listed_types file at) ≡ true)
are_types known sort file at of =
    let listed = (known.listed file at of.types).1 of.listed in
    let passes = passes_each (is_type sort file) of.types (λ place type found. is_type_of known sort file type (of.each place type found)) in
    (listed.0, subst (λ types. list_all (is_type sort file) types ≡ true) listed.1 passes)

-- ---- rows

fits_none : (table : Table) (row : ℕ) (fits : Bool) → misfit table row fits ≡ None → fits ≡ true
fits_none table row true e = refl
fits_none table row false e = absurd (cc)

none_fits : (table : Table) (row : ℕ) (fits : Bool) → fits ≡ true → misfit table row fits ≡ None
none_fits table row true e = refl
none_fits table row false e = absurd (cc)

named_type : (file : List ℕ) (row : ℕ) → row_fault file Types row ≡ None → is_described file (type_text file row) ≡ true
unfolding row_fault
named_type file row none = fits_none Types row (is_described file (type_text file row)) none

type_fits : Known → (file : List ℕ) (row : ℕ) → Spelled file → row_fault file Types row ≡ None → TypeFits file row
type_fits known file row spelled none =
    let both = both_true (nat_lt (type_text file row) (row_count file Texts)) (is_descriptor (text_units file (type_text file row))) (named_type file row none) in
    let there = below (type_text file row) (row_count file Texts) both.0 in
    let text = spelled.texts (type_text file row) there in
    record {
      units = text.0;
      text = record { there = there; spelled = text.1 };
      descriptor = (known.descriptors text.0).0 (subst (λ units. IsTrue (is_descriptor units)) (known.judged file (type_text file row) text.0 text.1) both.1);
    }

fits_type : Known → (file : List ℕ) (row : ℕ) → TypeFits file row → row_fault file Types row ≡ None
unfolding row_fault
fits_type known file row fits =
    let units = subst (λ units. IsTrue (is_descriptor units)) (sym (known.judged file (type_text file row) fits.units fits.text.spelled)) ((known.descriptors fits.units).1 fits.descriptor) in
    none_fits Types row (is_described file (type_text file row))
    (true_both (nat_lt (type_text file row) (row_count file Texts)) (is_descriptor (text_units file (type_text file row))) (is_below (type_text file row) (row_count file Texts) fits.text.there) units)

prototype_is : Known → (file : List ℕ) (row : ℕ) → Spelled file → row_fault file Prototypes row ≡ None → PrototypeFits file row
unfolding row_fault
prototype_is known file row spelled none =
    let parts = or_none (list_fault file (params_at file row)) (misfit Prototypes row (prototype_fits file row)) none in
    let result = u32_at file (row_at file Prototypes row + 4) in
    let both = both_true (nat_lt result (row_count file Types)) (list_all (is_type names_value file) (listed_types file (params_at file row))) (fits_none Prototypes row (prototype_fits file row) parts.1) in
    record { result = below result (row_count file Types) both.0; params = types_are known names_value file (params_at file row) spelled parts.0 both.1 }

is_prototype : Known → (file : List ℕ) (row : ℕ) → PrototypeFits file row → row_fault file Prototypes row ≡ None
unfolding row_fault
is_prototype known file row fits =
    let result = u32_at file (row_at file Prototypes row + 4) in
    let params = are_types known names_value file (params_at file row) fits.params in
    none_or (list_fault file (params_at file row)) (misfit Prototypes row (prototype_fits file row)) params.0
    (none_fits Prototypes row (prototype_fits file row) (true_both (nat_lt result (row_count file Types)) (list_all (is_type names_value file) (listed_types file (params_at file row))) (is_below result (row_count file Types) fits.result) params.1))

field_is : Known → (file : List ℕ) (row : ℕ) → Spelled file → row_fault file Fields row ≡ None → FieldFits file row
unfolding row_fault
field_is known file row spelled none =
    let class = u16_at file (row_at file Fields row) in
    let kind = u16_at file (row_at file Fields row + 2) in
    let name = u32_at file (row_at file Fields row + 4) in
    let last = both_true (is_type names_reference file class && is_type names_value file kind) (is_name file name) (fits_none Fields row (field_fits file row) none) in
    let first = both_true (is_type names_reference file class) (is_type names_value file kind) last.0 in
    record {
      class = type_is known names_reference file class spelled first.0;
      kind = type_is known names_value file kind spelled first.1;
      name = name_is known file name spelled last.1;
    }

is_field : Known → (file : List ℕ) (row : ℕ) → FieldFits file row → row_fault file Fields row ≡ None
unfolding row_fault
is_field known file row fits =
    let class = u16_at file (row_at file Fields row) in
    let kind = u16_at file (row_at file Fields row + 2) in
    let name = u32_at file (row_at file Fields row + 4) in
    none_fits Fields row (field_fits file row)
    (true_both (is_type names_reference file class && is_type names_value file kind) (is_name file name)
    (true_both (is_type names_reference file class) (is_type names_value file kind) (is_type_of known names_reference file class fits.class) (is_type_of known names_value file kind fits.kind))
    (is_name_at known file name fits.name))

method_is : Known → (file : List ℕ) (row : ℕ) → Spelled file → row_fault file Methods row ≡ None → MethodFits file row
unfolding row_fault
method_is known file row spelled none =
    let class = u16_at file (row_at file Methods row) in
    let prototype = u16_at file (row_at file Methods row + 2) in
    let name = u32_at file (row_at file Methods row + 4) in
    let last = both_true (is_type names_reference file class && nat_lt prototype (row_count file Prototypes)) (is_name file name) (fits_none Methods row (method_fits file row) none) in
    let first = both_true (is_type names_reference file class) (nat_lt prototype (row_count file Prototypes)) last.0 in
    record {
      class = type_is known names_reference file class spelled first.0;
      prototype = below prototype (row_count file Prototypes) first.1;
      name = name_is known file name spelled last.1;
    }

is_method : Known → (file : List ℕ) (row : ℕ) → MethodFits file row → row_fault file Methods row ≡ None
unfolding row_fault
is_method known file row fits =
    let class = u16_at file (row_at file Methods row) in
    let prototype = u16_at file (row_at file Methods row + 2) in
    let name = u32_at file (row_at file Methods row + 4) in
    none_fits Methods row (method_fits file row)
    (true_both (is_type names_reference file class && nat_lt prototype (row_count file Prototypes)) (is_name file name)
    (true_both (is_type names_reference file class) (nat_lt prototype (row_count file Prototypes)) (is_type_of known names_reference file class fits.class) (is_below prototype (row_count file Prototypes) fits.prototype))
    (is_name_at known file name fits.name))

superclass_is : Known → (file : List ℕ) (stated : ℕ) → Spelled file → (none : Bool) → eqb stated no_row ≡ none → (none || is_type names_reference file stated) ≡ true → (stated ≡ no_row) ⊎ TypeOf names_reference file stated
superclass_is known file stated spelled true is e = inl (grind (arith, nat_tests))
superclass_is known file stated spelled false is e = inr (type_is known names_reference file stated spelled e)

or_last : (a b : Bool) → b ≡ true → (a || b) ≡ true
or_last true b e = refl
or_last false b e = e

is_superclass : Known → (file : List ℕ) (stated : ℕ) → (stated ≡ no_row) ⊎ TypeOf names_reference file stated → may_extend file stated ≡ true
is_superclass known file stated (inl none) =
    let test : eqb stated no_row ≡ true = grind (arith, nat_tests) in
    rw test refl
is_superclass known file stated (inr type) = or_last (eqb stated no_row) (is_type names_reference file stated) (is_type_of known names_reference file stated type)

class_is : Known → (file : List ℕ) (row : ℕ) → Spelled file → row_fault file Classes row ≡ None → ClassFits file row
unfolding row_fault
class_is known file row spelled none =
    let parts = or_none (list_fault file (interfaces_at file row)) (misfit Classes row (class_fits file row)) none in
    let class = u32_at file (row_at file Classes row) in
    let superclass = u32_at file (row_at file Classes row + 8) in
    let interfaces = list_all (is_type names_reference file) (listed_types file (interfaces_at file row)) in
    let last = both_true (is_type names_class file class && may_extend file superclass) interfaces (fits_none Classes row (class_fits file row) parts.1) in
    let first = both_true (is_type names_class file class) (may_extend file superclass) last.0 in
    record {
      class = type_is known names_class file class spelled first.0;
      superclass = superclass_is known file superclass spelled (eqb superclass no_row) refl first.1;
      interfaces = types_are known names_reference file (interfaces_at file row) spelled parts.0 last.1;
    }

is_class : Known → (file : List ℕ) (row : ℕ) → ClassFits file row → row_fault file Classes row ≡ None
unfolding row_fault
is_class known file row fits =
    let class = u32_at file (row_at file Classes row) in
    let superclass = u32_at file (row_at file Classes row + 8) in
    let interfaces = are_types known names_reference file (interfaces_at file row) fits.interfaces in
    none_or (list_fault file (interfaces_at file row)) (misfit Classes row (class_fits file row)) interfaces.0
    (none_fits Classes row (class_fits file row)
    (true_both (is_type names_class file class && may_extend file superclass) (list_all (is_type names_reference file) (listed_types file (interfaces_at file row)))
    (true_both (is_type names_class file class) (may_extend file superclass) (is_type_of known names_class file class fits.class) (is_superclass known file superclass fits.superclass))
    interfaces.1))

-- ---- files

row_fits : Known → (file : List ℕ) → Spelled file → (table : Table) (row : ℕ) → row_fault file table row ≡ None → RowFits file table row
row_fits known file spelled Texts row none = text_fits known file row none
row_fits known file spelled Types row none = type_fits known file row spelled none
row_fits known file spelled Prototypes row none = prototype_is known file row spelled none
row_fits known file spelled Fields row none = field_is known file row spelled none
row_fits known file spelled Methods row none = method_is known file row spelled none
row_fits known file spelled Classes row none = class_is known file row spelled none

fits_row : Known → (file : List ℕ) (table : Table) (row : ℕ) → RowFits file table row → row_fault file table row ≡ None
fits_row known file Texts row fits = fits_text known file row fits
fits_row known file Types row fits = fits_type known file row fits
fits_row known file Prototypes row fits = is_prototype known file row fits
fits_row known file Fields row fits = is_field known file row fits
fits_row known file Methods row fits = is_method known file row fits
fits_row known file Classes row fits = is_class known file row fits

sound_spelled : Known → (file : List ℕ) → IsSound file → Spelled file
sound_spelled known file sound = record {
  texts = λ row there. text_fits known file row (sound.rows Texts row there);
  types = λ row there.
      let both = both_true (nat_lt (type_text file row) (row_count file Texts)) (is_descriptor (text_units file (type_text file row))) (named_type file row (sound.rows Types row there)) in
      below (type_text file row) (row_count file Texts) both.0;
}

pub well_formed_files : TextAgrees → TextsJudged → PairsAgree → DescriptorsAgree → TypesListed → SoundFiles → WellFormedFiles
well_formed_files agrees judged pairs descriptors listed sound file =
    let known : Known = record { agrees = agrees; judged = judged; pairs = pairs; descriptors = descriptors; listed = listed } in (
      λ none.
          let is = (sound file).0 none in
          let spelled = sound_spelled known file is in
          record { header = is.header; tables = is.tables; rows = λ table row there. row_fits known file spelled table row (is.rows table row there) },
      λ formed.
          (sound file).1 (record { header = formed.header; tables = formed.tables; rows = λ table row there. fits_row known file table row (formed.rows table row there) }),
    )
