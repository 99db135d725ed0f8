-- Lists of items are put item by item.
use Rattle.std.proofs.Common.{◌≡◌, ◌⊎◌, inl, inr, not, nat_lt, ℕ, zero, suc, ◌+◌, ◌-◌, ◌%◌, ◌<◌, ◌≤◌, List, [], ◌∷◌, ◌++◌, drop, length, None, refl, sym, ap, ◌∙◌, arith, append_assoc, slice_index_or}
use Rattle.std.proofs.lemmas.List.{append-nil, drop_all}
use Rattle.std.proofs.lemmas.Bool.{cases_lt, le-ltb, lt-ltb}
use Rattle.std.proofs.lemmas.List.Filters.{length-filter_both}
use Rattle.std.specs.List.{filter}
use Rattle.cc_meaning.specs.declared.file.Ids.{Ids}
use Rattle.cc_meaning.specs.declared.file.RawCatch.{RawCatch}
use Rattle.cc_meaning.specs.declared.file.RawField.{RawField}
use Rattle.cc_meaning.specs.declared.file.RawTry.{RawTry}
use Rattle.cc_meaning.specs.declared.program.StaticValue.{StaticValue}
use Rattle.cc_meaning_dex.specs.Mutf8.{mutf8_bytes, unit_form}
use Rattle.cc_meaning_dex.specs.declared.items.StatedMethod.{StatedMethod}
use Rattle.cc_meaning_builder.specs.Forms.{any_takes_all, each_value_form, fields_form, handler_form, methods_form, takes_all, tries_form, typed_count, u16_form, u32_form, uleb_form, value_form}
use Rattle.cc_items.specs.Listed.{kind_at, try_form}
use Rattle.cc_items.proofs.Chosen.{next}
use Rattle.cc_items.proofs.Widths.{low_form}

-- a part is put, and the rest is left
part : (out more back whole : List ℕ) → out ++ (more ++ back) ≡ whole → (out ++ more) ++ back ≡ whole
part out more back whole shows = append_assoc out more back ∙ shows

-- ---- texts

pub forms_more : (out new : List ℕ) (units : List ℕ) (i unit d : ℕ) (whole : List ℕ) → i < length units → unit ≡ slice_index_or units i d → new ≡ out ++ unit_form unit →
    out ++ mutf8_bytes (drop i units) ≡ whole → new ++ mutf8_bytes (drop (i + 1) units) ≡ whole
unfolding mutf8_bytes
forms_more out new units i unit d whole here is put shows =
    let rest = mutf8_bytes (drop (i + 1) units) in
    ap (λ (l : List ℕ). l ++ rest) put ∙ part out (unit_form unit) rest whole (ap (λ (us : List ℕ). out ++ mutf8_bytes us) (sym (next units i unit d here is)) ∙ shows)

pub forms_end : (out : List ℕ) (units : List ℕ) (i : ℕ) (whole : List ℕ) → length units ≤ i → out ++ mutf8_bytes (drop i units) ≡ whole → out ≡ whole
unfolding mutf8_bytes
forms_end out units i whole past shows = sym (append-nil out) ∙ ap (λ (us : List ℕ). out ++ mutf8_bytes us) (sym (drop_all i units past)) ∙ shows

-- ---- members

pub fields_more : (out first new : List ℕ) (before : ℕ) (field : RawField) (chosen rest : List RawField) (whole : List ℕ) → chosen ≡ field ∷ rest →
    first ≡ out ++ uleb_form (field.row - before) → new ≡ first ++ uleb_form field.flags → out ++ fields_form before chosen ≡ whole → new ++ fields_form field.row rest ≡ whole
unfolding fields_form
fields_more out first new before field chosen rest whole is one two shows =
    let behind = fields_form field.row rest in
    let all : out ++ (uleb_form (field.row - before) ++ (uleb_form field.flags ++ behind)) ≡ whole = ap (λ (fs : List RawField). out ++ fields_form before fs) (sym is) ∙ shows in
    ap (λ (l : List ℕ). l ++ behind) two ∙ part first (uleb_form field.flags) behind whole (ap (λ (l : List ℕ). l ++ (uleb_form field.flags ++ behind)) one
    ∙ part out (uleb_form (field.row - before)) (uleb_form field.flags ++ behind) whole all)

pub fields_end : (out : List ℕ) (before : ℕ) (chosen : List RawField) (whole : List ℕ) → chosen ≡ [] → out ++ fields_form before chosen ≡ whole → out ≡ whole
unfolding fields_form
fields_end out before chosen whole none shows = sym (append-nil out) ∙ ap (λ (fs : List RawField). out ++ fields_form before fs) (sym none) ∙ shows

pub methods_more : (out first second new : List ℕ) (before : ℕ) (method : StatedMethod) (chosen rest : List StatedMethod) (whole : List ℕ) → chosen ≡ method ∷ rest →
    first ≡ out ++ uleb_form (method.row - before) → second ≡ first ++ uleb_form method.flags → new ≡ second ++ uleb_form method.code_at →
    out ++ methods_form before chosen ≡ whole → new ++ methods_form method.row rest ≡ whole
unfolding methods_form
methods_more out first second new before method chosen rest whole is one two three shows =
    let behind = methods_form method.row rest in
    let all : out ++ (uleb_form (method.row - before) ++ (uleb_form method.flags ++ (uleb_form method.code_at ++ behind))) ≡ whole =
    ap (λ (ms : List StatedMethod). out ++ methods_form before ms) (sym is) ∙ shows in
    ap (λ (l : List ℕ). l ++ behind) three ∙ part second (uleb_form method.code_at) behind whole (ap (λ (l : List ℕ). l ++ (uleb_form method.code_at ++ behind)) two
    ∙ part first (uleb_form method.flags) (uleb_form method.code_at ++ behind) whole (ap (λ (l : List ℕ). l ++ (uleb_form method.flags ++ (uleb_form method.code_at ++ behind))) one
    ∙ part out (uleb_form (method.row - before)) (uleb_form method.flags ++ (uleb_form method.code_at ++ behind)) whole all))

pub methods_end : (out : List ℕ) (before : ℕ) (chosen : List StatedMethod) (whole : List ℕ) → chosen ≡ [] → out ++ methods_form before chosen ≡ whole → out ≡ whole
unfolding methods_form
methods_end out before chosen whole none shows = sym (append-nil out) ∙ ap (λ (ms : List StatedMethod). out ++ methods_form before ms) (sym none) ∙ shows

-- ---- tries

same_try : (low offset : ℕ) (try : RawTry) → low ≡ offset % 65536 → try_form low try ≡ try_form offset try
same_try low offset try is =
    ap (λ (l : List ℕ). u32_form try.start ++ (u16_form (try.end - try.start) ++ l)) (ap (λ (n : ℕ). u16_form n) is ∙ low_form offset)

joined : (front middle back rest : List ℕ) → (front ++ (middle ++ back)) ++ rest ≡ front ++ (middle ++ (back ++ rest))
joined front middle back rest = append_assoc front (middle ++ back) rest ∙ ap (λ (l : List ℕ). front ++ l) (append_assoc middle back rest)

-- a try is put by the low 16 bits of its handler's offset
pub tries_more : (out new : List ℕ) (low offset : ℕ) (tries : List RawTry) (i : ℕ) (try d : RawTry) (whole : List ℕ) → i < length tries → try ≡ slice_index_or tries i d →
    low ≡ offset % 65536 → new ≡ out ++ try_form low try → out ++ tries_form offset (drop i tries) ≡ whole →
    new ++ tries_form (offset + length (handler_form try.catches)) (drop (i + 1) tries) ≡ whole
unfolding tries_form
tries_more out new low offset tries i try d whole here is low_is put shows =
    let rest = tries_form (offset + length (handler_form try.catches)) (drop (i + 1) tries) in
    let all : out ++ tries_form offset (try ∷ drop (i + 1) tries) ≡ whole = ap (λ (ts : List RawTry). out ++ tries_form offset ts) (sym (next tries i try d here is)) ∙ shows in
    ap (λ (l : List ℕ). l ++ rest) put ∙ part out (try_form low try) rest whole
    (ap (λ (l : List ℕ). out ++ (l ++ rest)) (same_try low offset try low_is)
    ∙ ap (λ (l : List ℕ). out ++ l) (joined (u32_form try.start) (u16_form (try.end - try.start)) (u16_form offset) rest) ∙ all)

pub tries_end : (out : List ℕ) (offset : ℕ) (tries : List RawTry) (i : ℕ) (whole : List ℕ) → length tries ≤ i → out ++ tries_form offset (drop i tries) ≡ whole → out ≡ whole
unfolding tries_form
tries_end out offset tries i whole past shows = sym (append-nil out) ∙ ap (λ (ts : List RawTry). out ++ tries_form offset ts) (sym (drop_all i tries past)) ∙ shows

-- ---- values

pub values_step : (ids : Ids) (fields : List RawField) (i j : ℕ) (value : StaticValue) (values : List StaticValue) → j ≡ i + 1 →
    each_value_form ids (drop i fields) (value ∷ values) ≡ value_form (kind_at ids fields i) value ++ each_value_form ids (drop j fields) values
unfolding each_value_form
values_step ids [] i j value values is =
    ap (λ (fs : List RawField). each_value_form ids fs (value ∷ values)) (drop_all i [] (omega arith))
    ∙ ap (λ (fs : List RawField). value_form None value ++ each_value_form ids fs values) (sym (drop_all j [] (omega arith)))
values_step ids (field ∷ fields) zero j value values is = rw is refl
values_step ids (field ∷ fields) (suc i) zero value values is = absurd (omega (arith, is))
values_step ids (field ∷ fields) (suc i) (suc j) value values is = values_step ids fields i j value values (omega (arith, is))

pub values_more : (ids : Ids) (fields : List RawField) (out new : List ℕ) (values : List StaticValue) (i : ℕ) (value d : StaticValue) (whole : List ℕ) → i < length values →
    value ≡ slice_index_or values i d → new ≡ out ++ value_form (kind_at ids fields i) value → out ++ each_value_form ids (drop i fields) (drop i values) ≡ whole →
    new ++ each_value_form ids (drop (i + 1) fields) (drop (i + 1) values) ≡ whole
values_more ids fields out new values i value d whole here is put shows =
    let rest = each_value_form ids (drop (i + 1) fields) (drop (i + 1) values) in
    let all = ap (λ (vs : List StaticValue). out ++ each_value_form ids (drop i fields) vs) (sym (next values i value d here is)) ∙ shows in
    ap (λ (l : List ℕ). l ++ rest) put ∙ part out (value_form (kind_at ids fields i) value) rest whole
    (ap (λ (l : List ℕ). out ++ l) (sym (values_step ids fields i (i + 1) value (drop (i + 1) values) refl)) ∙ all)

no_values : (ids : Ids) (fields : List RawField) → each_value_form ids fields [] ≡ []
unfolding each_value_form
no_values ids [] = refl
no_values ids (field ∷ fields) = refl

pub values_end : (ids : Ids) (fields : List RawField) (out : List ℕ) (values : List StaticValue) (i : ℕ) (whole : List ℕ) → length values ≤ i →
    out ++ each_value_form ids (drop i fields) (drop i values) ≡ whole → out ≡ whole
values_end ids fields out values i whole past shows =
    sym (append-nil out) ∙ ap (λ (l : List ℕ). out ++ l) (sym (no_values ids (drop i fields))) ∙ ap (λ (vs : List StaticValue). out ++ each_value_form ids (drop i fields) vs) (sym (drop_all i values past)) ∙ shows

-- ---- handlers

compare : (all typed count : ℕ) → all + typed ≡ count → nat_lt typed count ≡ nat_lt 0 all
compare all typed count is = from (cases_lt 0 all)
  where
    from : (0 < all) ⊎ (all ≤ 0) → nat_lt typed count ≡ nat_lt 0 all
    from (inl some) = lt-ltb typed count (omega (arith, is, some)) ∙ sym (lt-ltb 0 all some)
    from (inr no_more) = le-ltb typed count (omega (arith, is, no_more)) ∙ sym (le-ltb 0 all no_more)

-- a handler takes all where fewer are for a type than there are
pub some_take_all : (catches : List RawCatch) → nat_lt (typed_count catches) (length catches) ≡ any_takes_all catches
some_take_all catches =
    compare (length (filter takes_all catches)) (typed_count catches) (length catches) (length-filter_both takes_all (λ (catch : RawCatch). not (takes_all catch)) (λ _. refl) catches)
