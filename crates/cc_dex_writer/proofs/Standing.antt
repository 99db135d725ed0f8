-- Rows of one size stand one behind the other.
use Rattle.std.proofs.Common.{◌≡◌, ◌≢◌, ◌⊎◌, true, false, ℕ, zero, suc, ◌+◌, ◌*◌, ◌<◌, ◌≤◌, List, [], ◌∷◌, length, slice_get, Some, inl, inr, refl, sym, ap, subst, ◌∙◌, arith}
use Rattle.std.specs.List.{flat_map}
use Rattle.std.proofs.lemmas.Bool.Decides.{eqb_tells}
use Rattle.std.proofs.lemmas.Option.{slice_get_within}
use Rattle.std.proofs.Math.Dec.{eqb}
use Rattle.std.proofs.Math.Nat.{suc-mul}
use Rattle.cc_meaning_dex.specs.Numbers.{Stands}
use Rattle.cc_meaning_dex.specs.declared.table.Table.{Table}
use Rattle.cc_meaning_dex.specs.Tables.{row_count, row_bytes, table_at, row_at, StandsInFile}
use Rattle.cc_meaning_builder.specs.Forms.{u32_form}
use Rattle.cc_meaning_builder.specs.Laws.{StandsApart}
use Rattle.cc_dex_writer.specs.Layout.{stated_place}
use Rattle.cc_dex_writer.specs.Rows.{numbered_form}
use Rattle.cc_dex_writer.proofs.Sizes.{little_size}

module _ (apart : StandsApart) (file : List ℕ) where
  -- a part stands at a place that is the same
  pub moved : (at at' : ℕ) (part : List ℕ) → at ≡ at' → Stands file at part → Stands file at' part
  moved at at' part same stands = subst (λ k. Stands file k part) same stands

  pub row_of_flat : {A : Type 0} (form : A → List ℕ) (size : ℕ) → ((row : A) → length (form row) ≡ size) → (at : ℕ) (rows : List A) → Stands file at (flat_map form rows) →
      (place : ℕ) (row : A) → slice_get rows place ≡ Some row → Stands file (at + place * size) (form row)
  row_of_flat form size sized at [] stands place row is = absurd cc
  row_of_flat form size sized at (r ∷ rs) stands zero row is =
      let same : r ≡ row = cc in
      let front = (apart file at (form r) (flat_map form rs) stands).0 in
      moved at (at + 0 * size) (form row) (omega arith) (subst (λ k. Stands file at (form k)) same front)
  row_of_flat form size sized at (r ∷ rs) stands (suc place) row is =
      let back = (apart file at (form r) (flat_map form rs) stands).1 in
      let further : at + length (form r) + place * size ≡ at + suc place * size = omega (arith, sized r, suc-mul place size) in
      moved _ _ (form row) further (row_of_flat form size sized (at + length (form r)) rs back place row is)

  pub row_of_numbered : {A : Type 0} (form : ℕ → A → List ℕ) (size : ℕ) → ((number : ℕ) (row : A) → length (form number row) ≡ size) → (at number : ℕ) (rows : List A) → Stands file at (numbered_form form number rows) →
      (place : ℕ) (row : A) → slice_get rows place ≡ Some row → Stands file (at + place * size) (form (number + place) row)
  unfolding numbered_form
  row_of_numbered form size sized at number [] stands place row is = absurd cc
  row_of_numbered form size sized at number (r ∷ rs) stands zero row is =
      let same : r ≡ row = cc in
      let front = (apart file at (form number r) (numbered_form form (number + 1) rs) stands).0 in
      let own : number ≡ number + 0 = omega arith in
      moved at (at + 0 * size) (form (number + 0) row) (omega arith) (subst (λ k. Stands file at (form k row)) own (subst (λ k. Stands file at (form number k)) same front))
  row_of_numbered form size sized at number (r ∷ rs) stands (suc place) row is =
      let back = (apart file at (form number r) (numbered_form form (number + 1) rs) stands).1 in
      let further : at + length (form number r) + place * size ≡ at + suc place * size = omega (arith, sized number r, suc-mul place size) in
      let own : number + 1 + place ≡ number + suc place = omega arith in
      let next = row_of_numbered form size sized (at + length (form number r)) (number + 1) rs back place row is in
      moved _ _ (form (number + suc place) row) further (subst (λ k. Stands file (at + length (form number r) + place * size) (form k row)) own next)

  -- the first row has the number 0
  pub row_of_table : {A : Type 0} (form : ℕ → A → List ℕ) (size : ℕ) → ((number : ℕ) (row : A) → length (form number row) ≡ size) → (at : ℕ) (rows : List A) → Stands file at (numbered_form form 0 rows) →
      (place : ℕ) (row : A) → slice_get rows place ≡ Some row → Stands file (at + place * size) (form place row)
  row_of_table form size sized at rows stands place row is =
      let own : 0 + place ≡ place = omega arith in
      subst (λ k. Stands file (at + place * size) (form k row)) own (row_of_numbered form size sized at 0 rows stands place row is)

  -- of numbers of 32 bits, each stands four bytes behind the one before it
  pub word_of : (at : ℕ) (numbers : List ℕ) → Stands file at (flat_map u32_form numbers) → (place n : ℕ) → slice_get numbers place ≡ Some n → Stands file (at + place * 4) (u32_form n)
  word_of at numbers stands place n is = row_of_flat u32_form 4 little_size at numbers stands place n is

-- a table that has rows is stated to stand where it does
pub place_some : (rows at place : ℕ) → place < rows → stated_place rows at ≡ at
place_some rows at place within = from (eqb_tells rows 0)
  where
    from : ((eqb rows 0 ≡ true) × (rows ≡ 0)) ⊎ ((eqb rows 0 ≡ false) × (rows ≢ 0)) → stated_place rows at ≡ at
    from (inl (same, none)) = absurd (omega (arith, within, none))
    from (inr (other, some)) = rw other refl

pub place_few : (rows at : ℕ) → stated_place rows at ≤ at
place_few rows at = from (eqb_tells rows 0)
  where
    from : ((eqb rows 0 ≡ true) × (rows ≡ 0)) ⊎ ((eqb rows 0 ≡ false) × (rows ≢ 0)) → stated_place rows at ≤ at
    from (inl (same, none)) = rw same (omega arith)
    from (inr (other, some)) = rw other (omega arith)

-- a table that lies in the file at its place is stated to lie in it
pub in_file : (file : List ℕ) (table : Table) (rows at : ℕ) → row_count file table ≡ rows → table_at file table ≡ stated_place rows at → at + rows * row_bytes table ≤ length file → StandsInFile file table
in_file file table zero at count place fits = inl count
in_file file table (suc rows) at count place fits =
    inr (subst (λ n. table_at file table + n * row_bytes table ≤ length file) (sym count) (subst (λ a. a + suc rows * row_bytes table ≤ length file) (sym (place ∙ place_some (suc rows) at 0 (omega arith))) fits))

-- where a row of a table is stated to stand
pub row_there : {A : Type 0} (file : List ℕ) (table : Table) (rows : List A) (at : ℕ) → table_at file table ≡ stated_place (length rows) at → (place : ℕ) (row : A) → slice_get rows place ≡ Some row →
    at + place * row_bytes table ≡ row_at file table place
row_there file table rows at states place row is =
    let there : table_at file table ≡ at = states ∙ place_some (length rows) at place (slice_get_within rows place row is) in
    ap (λ (a : ℕ). a + place * row_bytes table) (sym there)
