-- What is read of a row is what the row spells.
use Rattle.std.proofs.Common.{◌≡◌, ℕ, Bool, true, false, ◌&&◌, nat_lt, List, [], Some, None, Result, Ok, Err, unwrap_or, refl, sym, ap, subst, arith}
use Rattle.std.proofs.lemmas.Bool.Decides.{nat_tests}
use Rattle.cc_meaning.specs.declared.fault.TextFault.{TextFault}
use Rattle.cc_meaning_dex.specs.declared.table.Table.TheVariants.{Texts, Types, Prototypes, Classes}
use Rattle.cc_meaning_dex.specs.Texts.{SpellsText, text_at, text_item_at, units_of}
use Rattle.cc_meaning_dex.specs.Tables.{row_count}
use Rattle.cc_meaning_dex.specs.Descriptors.{is_descriptor}
use Rattle.cc_meaning_dex.specs.Faults.{text_offset, text_units, type_text, text_fault, is_described, list_fault, params_at, prototype_fits, interfaces_at, class_fits, row_fault}
use Rattle.cc_dexids.specs.Known.{TextRead, TypeRead}

-- ---- texts

no_text_fault : (at row : ℕ) (units : List ℕ) (item : Result (List ℕ × ℕ) TextFault) → units_of item ≡ Some units → text_fault at row item ≡ None
no_text_fault at row units (Ok item) e = refl
no_text_fault at row units (Err reason) e = absurd (cc)

pub text_row : (file : List ℕ) (row at : ℕ) (units : List ℕ) → at ≡ text_offset file row → text_at file at ≡ Some units → SpellsText file at units →
    (row_fault file Texts row ≡ None) × TextRead file row units
unfolding row_fault text_at
text_row file row at units place found text =
    let here = subst (λ p. text_at file p ≡ Some units) place found in (
      no_text_fault (text_offset file row) row units (text_item_at file (text_offset file row)) here,
      record { spelled = subst (λ p. SpellsText file p units) place text; found = sym (ap (λ o. unwrap_or o []) here) },
    )

-- ---- types

both_true : (a b : Bool) → (a && b) ≡ true → (a ≡ true) × (b ≡ true)
both_true true b e = (refl, e)
both_true false b e = absurd (cc)

pub type_row : (file : List ℕ) (row text : ℕ) → text ≡ type_text file row → is_described file text ≡ true →
    (row_fault file Types row ≡ None) × TypeRead file row text
unfolding row_fault
type_row file row text is described =
    let here = subst (λ t. is_described file t ≡ true) is described in
    let within = (both_true (nat_lt text (row_count file Texts)) (is_descriptor (text_units file text)) described).0 in
    (rw here refl, record { spelled = is; within = grind (arith, nat_tests) })

-- ---- rows with lists

pub prototype_row : (file : List ℕ) (row : ℕ) → list_fault file (params_at file row) ≡ None → prototype_fits file row ≡ true → row_fault file Prototypes row ≡ None
unfolding row_fault
prototype_row file row stands fits = rw (stands, fits) refl

pub class_row : (file : List ℕ) (row : ℕ) → list_fault file (interfaces_at file row) ≡ None → class_fits file row ≡ true → row_fault file Classes row ≡ None
unfolding row_fault
class_row file row stands fits = rw (stands, fits) refl
