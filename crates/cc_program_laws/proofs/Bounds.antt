-- What a file spells is bounded by its length.
use Rattle.std.proofs.Common.{◌≡◌, inl, inr, ℕ, zero, suc, ◌+◌, ◌*◌, ◌<◌, ◌≤◌, ◌^◌, Bool, true, false, List, [], ◌∷◌, length, Option, Some, None, refl, sym, subst, arith}
use Rattle.std.specs.Prelude.{slice_get, is_some, ◌||◌}
use Rattle.cc_meaning.specs.declared.file.Ids.{Ids}
use Rattle.cc_meaning.specs.declared.file.RawClass.{RawClass}
use Rattle.cc_meaning.specs.declared.file.RawCode.{RawCode}
use Rattle.cc_meaning.specs.declared.file.RawMethod.{RawMethod}
use Rattle.cc_meaning_dex.specs.declared.table.Table.{Table}
use Rattle.cc_meaning_dex.specs.declared.table.Table.TheVariants.{Texts, Types, Fields, Methods}
use Rattle.cc_meaning_dex.specs.Ids.{SpellsIds}
use Rattle.cc_meaning_dex.specs.RowForms as forms
use Rattle.cc_meaning_dex.specs.Tables.{row_count, table_at, row_bytes, StandsInFile, longest_file}
use Rattle.cc_meaning_dex.specs.declared.items.StatedMethod.{StatedMethod}
use Rattle.cc_meaning_dex.specs.Classes.{EachPair, SpellsClasses, SpellsClass, SpellsSoundMethod}
use Rattle.cc_meaning_dex.specs.CodeItems.{HasSoundCode, has_flag, handlers_at, tries_at, unit_count}
use Rattle.cc_meaning_dex.specs.Tries.{HasCode}
use Rattle.cc_program_laws.specs.Laws.{HasFewRows, IsPlainlyCoded, SpelledPartsAreBounded}

-- ---- tables

few_rows : (file : List ℕ) (table : Table) → length file ≤ longest_file → 4 ≤ row_bytes table → StandsInFile file table → row_count file table ≤ 2 ^ 21
few_rows file table few wide (inl none) = omega (arith, none)
few_rows file table few wide (inr within) = bound (row_count file table) (row_bytes table) (table_at file table) wide within few
  where
    bound : (n width at : ℕ) → 4 ≤ width → at + n * width ≤ length file → length file ≤ 8388608 → n ≤ 2 ^ 21
    bound n width at wide within few = let more : n * 4 ≤ n * width = grind (arith, wide) in omega (arith, within, few, more)

tables_few : (file : List ℕ) (ids : Ids) → SpellsIds file ids → forms.IsWellFormed file → HasFewRows ids
tables_few file ids spelled well = record {
  texts = subst (λ n. n ≤ 2 ^ 21) (sym spelled.tables.texts.all) (few_rows file Texts well.header.few (omega arith) well.tables.texts);
  types = subst (λ n. n ≤ 2 ^ 21) (sym spelled.tables.types.all) (few_rows file Types well.header.few (omega arith) well.tables.types);
  fields = subst (λ n. n ≤ 2 ^ 21) (sym spelled.tables.fields.all) (few_rows file Fields well.header.few (omega arith) well.tables.fields);
  methods = subst (λ n. n ≤ 2 ^ 21) (sym spelled.tables.methods.all) (few_rows file Methods well.header.few (omega arith) well.tables.methods);
}

-- ---- code

-- what goes with an item
pair_of : {A B : Type 0} (holds : A → B → Type 0) (xs : List A) (ys : List B) → EachPair holds xs ys → (place : ℕ) (y : B) → slice_get ys place ≡ Some y → (x : A) × holds x y
pair_of holds [] [] each place y e = absurd cc
pair_of holds [] (z ∷ ys) each place y e = absurd each
pair_of holds (x ∷ xs) [] each place y e = absurd each
pair_of {A} {B} holds (x ∷ xs) (z ∷ ys) each zero y e = let same : z ≡ y = cc in (x, subst (λ (it : B). holds x it) same each.0)
pair_of holds (x ∷ xs) (z ∷ ys) each (suc place) y e = pair_of holds xs ys each.1 place y e

module _ (file : List ℕ) (ids : Ids) (few : length file ≤ longest_file) where
  units_within : (at : ℕ) → handlers_at file at ≤ length file → unit_count file at < 2 ^ 32
  unfolding handlers_at tries_at
  units_within at within = omega (arith, within, few)

  few_units : (stated : StatedMethod) (o : Option RawCode) (code : RawCode) → HasSoundCode file ids stated → HasCode file ids stated.code_at o → o ≡ Some code → length code.units < 2 ^ 32
  few_units stated None code sound has e = absurd cc
  few_units stated (Some other) code (inl none) has e = absurd (has.0 none.0)
  few_units stated (Some other) code (inr fits) has e =
      let same : other ≡ code = cc in
      subst (λ (it : RawCode). length it.units < 2 ^ 32) same (subst (λ n. n < 2 ^ 32) (sym has.1.units.all) (units_within stated.code_at fits.2.within))

  neither : (a b : Bool) → (a || b) ≡ false → (a ≡ false) × (b ≡ false)
  neither true b e = absurd cc
  neither false b e = (refl, e)

  plain_code : (stated : StatedMethod) (o : Option RawCode) → HasSoundCode file ids stated → HasCode file ids stated.code_at o → is_some o ≡ true → (has_flag stated.flags 256 ≡ false) × (has_flag stated.flags 1024 ≡ false)
  plain_code stated None sound has e = absurd cc
  plain_code stated (Some code) (inl none) has e = absurd (has.0 none.0)
  plain_code stated (Some code) (inr fits) has e = neither (has_flag stated.flags 256) (has_flag stated.flags 1024) fits.1

  module _ (classes : List RawClass) (spells : SpellsClasses file ids classes) where
    method_of : (number place : ℕ) (class : RawClass) (method : RawMethod) → slice_get classes number ≡ Some class → slice_get class.methods place ≡ Some method → (stated : StatedMethod) × SpellsSoundMethod file ids stated method
    method_of number place class method there found =
        let of_class = pair_of (SpellsClass file ids) ids.classes classes spells number class there in
        pair_of (SpellsSoundMethod file ids) of_class.1.members.methods class.methods of_class.1.methods place method found

    coded : (number place : ℕ) (class : RawClass) (method : RawMethod) → slice_get classes number ≡ Some class → slice_get class.methods place ≡ Some method → IsPlainlyCoded method
    coded number place class method there found has =
        let of = method_of number place class method there found in
        subst (λ flags. (has_flag flags 256 ≡ false) × (has_flag flags 1024 ≡ false)) (sym of.1.spelled.flags) (plain_code of.0 method.code of.1.sound of.1.spelled.code has)

pub parts_are_bounded : forms.WellFormedFiles → SpelledPartsAreBounded
parts_are_bounded law file ids classes spelled spells =
    let well = (law file).0 spelled.sound in
    record {
      rows = tables_few file ids spelled well;
      units = λ number class there place method found code stands. let of = method_of file ids well.header.few classes spells number place class method there found in few_units file ids well.header.few of.0 method.code code of.1.sound of.1.spelled.code stands;
      coded = coded file ids well.header.few classes spells;
    }
