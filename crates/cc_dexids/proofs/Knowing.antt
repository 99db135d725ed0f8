-- What the texts and types that were read say of a row.
use Rattle.std.proofs.Common.{◌≡◌, inl, inr, ℕ, ◌<◌, ◌≤◌, true, false, ◌&&◌, nat_lt, List, length, slice_get, Some, None, sym, ap, ◌∙◌, arith}
use Rattle.std.proofs.lemmas.Bool.Decides.{nat_tests}
use Rattle.std.proofs.lemmas.Option.{slice_get_within, slice_get_cases}
use Rattle.cc_meaning_dex.specs.declared.table.Table.TheVariants.{Texts, Types}
use Rattle.cc_meaning_dex.specs.Tables.{row_count}
use Rattle.cc_meaning_dex.specs.Descriptors.{is_paired, is_descriptor}
use Rattle.cc_meaning_dex.specs.Faults.{text_units, type_text, is_name, is_described}
use Rattle.cc_meaning_dex.specs.Ids.{EachSpelled}
use Rattle.cc_dexids.specs.Known.{TextRead, IsKnown}

pub none_past : {A : Type 0} (items : List A) (place : ℕ) → slice_get items place ≡ None → length items ≤ place
none_past items place none =
    elim ((slice_get_cases items place).1) [ inl there ↦ absurd (let both = sym none ∙ there.2 in cc) | inr past ↦ past.0 ]

pub below : (row count : ℕ) → row < count → nat_lt row count ≡ true
below row count h = grind (arith, nat_tests)

pub not_below : (row count : ℕ) → count ≤ row → nat_lt row count ≡ false
not_below row count h = grind (arith, nat_tests)

pub name_there : (file : List ℕ) (texts : List (List ℕ)) (row : ℕ) (units : List ℕ) → EachSpelled texts (row_count file Texts) (TextRead file) →
    slice_get texts row ≡ Some units → is_name file row ≡ is_paired units
name_there file texts row units known e =
    let within : row < row_count file Texts = omega (arith, slice_get_within texts row units e, known.all) in
    ap (λ b. b && is_paired (text_units file row)) (below row (row_count file Texts) within) ∙ ap is_paired (sym (known.each row units e).found)

pub name_past : (file : List ℕ) (texts : List (List ℕ)) (row : ℕ) → EachSpelled texts (row_count file Texts) (TextRead file) →
    slice_get texts row ≡ None → is_name file row ≡ false
name_past file texts row known e =
    let past : row_count file Texts ≤ row = omega (arith, none_past texts row e, known.all) in
    ap (λ b. b && is_paired (text_units file row)) (not_below row (row_count file Texts) past)

pub descriptor_there : (file : List ℕ) (texts : List (List ℕ)) (text : ℕ) (units : List ℕ) → EachSpelled texts (row_count file Texts) (TextRead file) →
    slice_get texts text ≡ Some units → is_described file text ≡ is_descriptor units
descriptor_there file texts text units known e =
    let within : text < row_count file Texts = omega (arith, slice_get_within texts text units e, known.all) in
    ap (λ b. b && is_descriptor (text_units file text)) (below text (row_count file Texts) within) ∙ ap is_descriptor (sym (known.each text units e).found)

pub descriptor_past : (file : List ℕ) (texts : List (List ℕ)) (text : ℕ) → EachSpelled texts (row_count file Texts) (TextRead file) →
    slice_get texts text ≡ None → is_described file text ≡ false
descriptor_past file texts text known e =
    let past : row_count file Texts ≤ text = omega (arith, none_past texts text e, known.all) in
    ap (λ b. b && is_descriptor (text_units file text)) (not_below text (row_count file Texts) past)

pub described : (file : List ℕ) (texts : List (List ℕ)) (types : List ℕ) (row text : ℕ) (units : List ℕ) → IsKnown file texts types →
    slice_get types row ≡ Some text → slice_get texts text ≡ Some units →
    (row < row_count file Types) × (units ≡ text_units file (type_text file row))
described file texts types row text units known type e =
    let within : row < row_count file Types = omega (arith, slice_get_within types row text type, known.types_read.all) in
    (within, (known.texts_read.each text units e).found ∙ ap (text_units file) (known.types_read.each row text type).spelled)
