-- What it means that a file has no fault.
use Rattle.std.proofs.Common.{◌≡◌, ◌⊎◌, inl, inr, ℕ, zero, suc, ◌+◌, ◌*◌, ◌≤◌, Bool, true, false, not, ◌&&◌, cond, eqb, nat_eq, nat_lt, List, [], length, Option, Some, None, unwrap_or, refl, ap, arith}
use Rattle.std.specs.Option.{option_or}
use Rattle.std.specs.List.{starts_with}
use Rattle.std.specs.Str.{bytes_eq}
use Rattle.std.proofs.lemmas.Slice.Eq.{bytes_eq-Decides}
use Rattle.std.proofs.lemmas.Bool.Decides.{nat_tests}
use Rattle.cc_meaning.specs.declared.fault.DexFault.{DexFault}
use Rattle.cc_meaning.specs.declared.fault.DexFault.TheVariants as fault
use Rattle.cc_meaning_dex.specs.declared.table.Table.{Table}
use Rattle.cc_meaning_dex.specs.declared.table.Table.TheVariants.{Texts, Types, Prototypes, Fields, Methods, Classes}
use Rattle.cc_meaning_dex.specs.Numbers.{u32_at}
use Rattle.cc_meaning_dex.specs.TextLaws.{TextAgrees}
use Rattle.cc_meaning_dex.specs.Tables.{longest_file, magic, usual_order, stated_sum, found_sum, stated_signature, found_signature, row_bytes, row_count, table_at, IsHeader, HasTables, StandsInFile}
use Rattle.cc_meaning_dex.specs.Faults.{header_fault, sums_fault, table_fault, first_of_tables, rows_fault, row_fault, text_offset, first_fault}
use Rattle.cc_meaning_dex.specs.TableLaws.{IsSound, SoundFiles, TextsJudged}
use Rattle.cc_meaning_dex.proofs.FaultLaws.{or_none, none_or, none_below, below_none}

-- ---- tests of the header

same_number : (m n : ℕ) → eqb m n ≡ true → m ≡ n
same_number m n e = grind (arith, nat_tests)

number_same : (m n : ℕ) → m ≡ n → eqb m n ≡ true
number_same m n e = grind (arith, nat_tests)

at_most : (m n : ℕ) → nat_lt n m ≡ false → m ≤ n
at_most m n e = grind (arith, nat_tests)

not_more : (m n : ℕ) → m ≤ n → nat_lt n m ≡ false
not_more m n e = grind (arith, nat_tests)

-- the six tests in front, by their answers
tests : (big begins short order size length : Bool) (a b c d e f : DexFault) (rest : Option DexFault) →
    cond big (Some a) (cond (not begins) (Some b) (cond short (Some c) (cond (not order) (Some d) (cond (not size) (Some e) (cond (not length) (Some f) rest))))) ≡ None →
    (big ≡ false) × (begins ≡ true) × (short ≡ false) × (order ≡ true) × (size ≡ true) × (length ≡ true) × (rest ≡ None)
tests true begins short order size length a b c d e f rest none = absurd (cc)
tests false false short order size length a b c d e f rest none = absurd (cc)
tests false true true order size length a b c d e f rest none = absurd (cc)
tests false true false false size length a b c d e f rest none = absurd (cc)
tests false true false true false length a b c d e f rest none = absurd (cc)
tests false true false true true false a b c d e f rest none = absurd (cc)
tests false true false true true true a b c d e f rest none = (refl, refl, refl, refl, refl, refl, none)

two_tests : (sum signature : Bool) (a b : DexFault) → cond (not sum) (Some a) (cond (not signature) (Some b) None) ≡ None → (sum ≡ true) × (signature ≡ true)
two_tests false signature a b none = absurd (cc)
two_tests true false a b none = absurd (cc)
two_tests true true a b none = (refl, refl)

sums_pass : (file : List ℕ) → sums_fault file ≡ None → (stated_sum file ≡ found_sum file) × (stated_signature file ≡ found_signature file)
unfolding sums_fault
sums_pass file none =
    let sum = eqb (stated_sum file) (found_sum file) in
    let signature = bytes_eq (stated_signature file) (found_signature file) in
    let pass = two_tests sum signature (fault.BadChecksum (stated_sum file) (found_sum file)) fault.BadSignature none in
    (same_number (stated_sum file) (found_sum file) pass.0, (bytes_eq-Decides (stated_signature file) (found_signature file)).0 pass.1)

pub header_passes : (file : List ℕ) → header_fault file ≡ None → IsHeader file
unfolding header_fault
header_passes file none =
    let pass = tests (nat_lt longest_file (length file)) (starts_with nat_eq file magic) (nat_lt (length file) 112) (eqb (u32_at file 40) usual_order) (eqb (u32_at file 36) 112) (eqb (u32_at file 32) (length file))
    fault.TooLarge fault.NotDex035 fault.BadSize fault.NotDex035 fault.BadSize fault.BadSize (sums_fault file) none in
    let sums = sums_pass file pass.6 in
    record {
      few = at_most (length file) longest_file pass.0;
      whole = at_most 112 (length file) pass.2;
      magic = pass.1;
      order = same_number (u32_at file 40) usual_order pass.3;
      header_size = same_number (u32_at file 36) 112 pass.4;
      file_size = same_number (u32_at file 32) (length file) pass.5;
      sum = sums.0;
      signature = sums.1;
    }

sums_none : (file : List ℕ) → stated_sum file ≡ found_sum file → stated_signature file ≡ found_signature file → sums_fault file ≡ None
unfolding sums_fault
sums_none file sum signature =
    let a = number_same (stated_sum file) (found_sum file) sum in
    let b : bytes_eq (stated_signature file) (found_signature file) ≡ true = (bytes_eq-Decides (stated_signature file) (found_signature file)).1 signature in
    rw (a, b) refl

pub header_none : (file : List ℕ) → IsHeader file → header_fault file ≡ None
unfolding header_fault
header_none file h =
    let few = not_more (length file) longest_file h.few in
    let whole = not_more 112 (length file) h.whole in
    let a = number_same (u32_at file 40) usual_order h.order in
    let b = number_same (u32_at file 36) 112 h.header_size in
    let d = number_same (u32_at file 32) (length file) h.file_size in
    let begins : starts_with nat_eq file magic ≡ true = h.magic in
    rw (few, begins, whole, a, b, d) (sums_none file h.sum h.signature)

-- ---- tables

not_some : (b : Bool) (found : DexFault) → cond b (Some found) None ≡ None → b ≡ false
not_some true found none = absurd (cc)
not_some false found none = refl

stays : (some : Bool) (at size last : ℕ) (found : DexFault) → some ≡ true → cond (some && nat_lt last (at + size)) (Some found) None ≡ None → at + size ≤ last
stays false at size last found is none = absurd (cc)
stays true at size last found is none = at_most (at + size) last (not_some (nat_lt last (at + size)) found none)

leaves : (count at size last : ℕ) (found : DexFault) → cond (nat_lt 0 count && nat_lt last (at + size)) (Some found) None ≡ None → (count ≡ 0) ⊎ (at + size ≤ last)
leaves zero at size last found none = inl refl
leaves (suc n) at size last found none = inr (stays (nat_lt 0 (suc n)) at size last found (grind (arith, nat_tests)) none)

table_stands : (file : List ℕ) (table : Table) → table_fault file table ≡ None → StandsInFile file table
unfolding table_fault
table_stands file table none = leaves (row_count file table) (table_at file table) (row_count file table * row_bytes table) (length file) (fault.OutOfFile (table_at file table)) none

table_none : (file : List ℕ) (table : Table) → StandsInFile file table → table_fault file table ≡ None
unfolding table_fault
table_none file table (inl empty) = rw empty refl
table_none file table (inr within) =
    let test = not_more (table_at file table + row_count file table * row_bytes table) (length file) within in
    rw (test, and_false (nat_lt 0 (row_count file table))) refl
  where
    and_false : (b : Bool) → (b && false) ≡ false
    and_false true = refl
    and_false false = refl

-- ---- all six tables

each_none : (of : Table → Option DexFault) → first_of_tables of ≡ None → (table : Table) → of table ≡ None
each_none of none table =
    let texts = or_none (of Texts) (option_or (of Types) (option_or (of Prototypes) (option_or (of Fields) (option_or (of Methods) (of Classes))))) none in
    let types = or_none (of Types) (option_or (of Prototypes) (option_or (of Fields) (option_or (of Methods) (of Classes)))) texts.1 in
    let prototypes = or_none (of Prototypes) (option_or (of Fields) (option_or (of Methods) (of Classes))) types.1 in
    let fields = or_none (of Fields) (option_or (of Methods) (of Classes)) prototypes.1 in
    let methods = or_none (of Methods) (of Classes) fields.1 in
    elim table as (λ table. of table ≡ None) [
      | Texts ↦ texts.0
      | Types ↦ types.0
      | Prototypes ↦ prototypes.0
      | Fields ↦ fields.0
      | Methods ↦ methods.0
      | Classes ↦ methods.1
    ]

none_each : (of : Table → Option DexFault) → ((table : Table) → of table ≡ None) → first_of_tables of ≡ None
none_each of none = rw (none Texts, none Types, none Prototypes, none Fields, none Methods, none Classes) refl

stand : (file : List ℕ) → HasTables file → (table : Table) → StandsInFile file table
stand file h Texts = h.texts
stand file h Types = h.types
stand file h Prototypes = h.prototypes
stand file h Fields = h.fields
stand file h Methods = h.methods
stand file h Classes = h.classes

-- ---- files without a fault

is_sound : (file : List ℕ) → first_fault file ≡ None → IsSound file
unfolding first_fault
is_sound file none =
    let header = or_none (header_fault file) (option_or (first_of_tables (table_fault file)) (first_of_tables (rows_fault file))) none in
    let tables = or_none (first_of_tables (table_fault file)) (first_of_tables (rows_fault file)) header.1 in
    let stands : (table : Table) → StandsInFile file table = λ table. table_stands file table (each_none (table_fault file) tables.0 table) in
    record {
      header = header_passes file header.0;
      tables = record { texts = stands Texts; types = stands Types; prototypes = stands Prototypes; fields = stands Fields; methods = stands Methods; classes = stands Classes };
      rows = λ table row below. none_below (row_fault file table) (row_count file table) (each_none (rows_fault file) tables.1 table) row below;
    }

sound_is : (file : List ℕ) → IsSound file → first_fault file ≡ None
unfolding first_fault
sound_is file sound =
    let tables = none_each (table_fault file) (λ table. table_none file table (stand file sound.tables table)) in
    let rows = none_each (rows_fault file) (λ table. below_none (row_fault file table) (row_count file table) (sound.rows table)) in
    none_or (header_fault file) (option_or (first_of_tables (table_fault file)) (first_of_tables (rows_fault file))) (header_none file sound.header)
    (none_or (first_of_tables (table_fault file)) (first_of_tables (rows_fault file)) tables rows)

pub sound_files : SoundFiles
sound_files file = (is_sound file, sound_is file)

-- ---- texts by which rows are judged

pub texts_judged : TextAgrees → TextsJudged
texts_judged agrees file row units spelled = ap (λ text. unwrap_or text []) ((agrees file (text_offset file row) units).1 spelled)
