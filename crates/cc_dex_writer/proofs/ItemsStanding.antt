-- Where the items of tables stand, by the numbers of their rows.
use Rattle.std.proofs.Common.{◌≡◌, ℕ, zero, suc, ◌<◌, ◌≤◌, Bool, List, [], ◌∷◌, length, get_or, Some, refl, sym, subst, arith}
use Rattle.std.specs.Prelude.{All, Contains, slice_get, slice_index}
use Rattle.std.proofs.lemmas.Option.{get_or_from_slice_get, slice_get-get_or}
use Rattle.cc_meaning.specs.declared.file.ClassRow.{ClassRow}
use Rattle.cc_meaning.specs.declared.file.Ids.{Ids}
use Rattle.cc_meaning_dex.specs.Ids.{ListsTypes}
use Rattle.cc_meaning_dex.specs.Texts.{SpellsText}
use Rattle.cc_meaning_dex.specs.Classes.{EachPair}
use Rattle.cc_meaning_program.specs.Rows.{FitTables, IsTypeRow}
use Rattle.cc_meaning_builder.specs.Written.{IsSameClass}
use Rattle.cc_dex_writer.specs.declared.offsets.Offsets.{Offsets}
use Rattle.cc_dex_writer.specs.Whole.{ItemsStand}
use Rattle.cc_dex_writer.specs.Items.{TypesStand}
use Rattle.cc_dex_writer.specs.Writing.{AreItems}

-- what goes with a second
pub right : {A B : Type 0} (R : A → B → Type 0) (xs : List A) (ys : List B) → EachPair R xs ys → (place : ℕ) (y : B) → slice_get ys place ≡ Some y → (x : A) × (slice_get xs place ≡ Some x) × R x y
right R [] [] pairs place y e = absurd cc
right R [] (z ∷ ys) pairs place y e = absurd pairs
right R (x ∷ xs) [] pairs place y e = absurd pairs
right R (x ∷ xs) (z ∷ ys) (here, behind) zero y e = let same : z ≡ y = cc in (x, refl, subst (λ it. R x it) same here)
right R (x ∷ xs) (z ∷ ys) (here, behind) (suc place) y e = right R xs ys behind place y e

pub left : {A B : Type 0} (R : A → B → Type 0) (xs : List A) (ys : List B) → EachPair R xs ys → (place : ℕ) (x : A) → slice_get xs place ≡ Some x → (y : B) × (slice_get ys place ≡ Some y) × R x y
left R [] [] pairs place x e = absurd cc
left R [] (y ∷ ys) pairs place x e = absurd pairs
left R (z ∷ xs) [] pairs place x e = absurd pairs
left R (z ∷ xs) (y ∷ ys) (here, behind) zero x e = let same : z ≡ x = cc in (y, refl, subst (λ it. R it y) same here)
left R (z ∷ xs) (y ∷ ys) (here, behind) (suc place) x e = left R xs ys behind place x e

-- what stands at the offset of a row
at_offset : {B : Type 0} (R : ℕ → B → Type 0) (offsets : List ℕ) (rows : List B) → EachPair R offsets rows → (place : ℕ) (row : B) → slice_get rows place ≡ Some row → R (slice_index offsets place) row
at_offset R offsets rows pairs place row there =
    let (at, found, here) = right R offsets rows pairs place row there in
    subst (λ n. R n row) (sym (get_or_from_slice_get offsets place at 0 found)) here

-- rows that are there are below their number
pub all_small : {sort : List ℕ → Bool} (ids : Ids) (rows : List ℕ) → length ids.types ≤ 65536 → ((type : ℕ) → Contains rows type → IsTypeRow sort ids type) → All (λ row. row < 65536) rows
all_small ids rows few each k d within =
    let is : slice_get rows k ≡ Some (get_or rows k d) = slice_get-get_or rows k d within in
    let there = (each (get_or rows k d) (k, within, get_or_from_slice_get rows k (get_or rows k d) (get_or rows k d) is)).there in
    omega arith

-- the items of the tables, with other offsets of members and values in the definitions of classes
pub items_stand : (file : List ℕ) (ids : Ids) (rows : List ClassRow) (offsets : Offsets) → FitTables ids → length ids.types ≤ 65536 → EachPair IsSameClass rows ids.classes → AreItems file ids offsets →
    ItemsStand (record ids { classes = rows }) offsets file
items_stand file ids rows offsets fit few same items = record {
  texts = at_offset (SpellsText file) offsets.texts ids.texts items.texts;
  params = λ row proto there. at_offset (λ at proto. TypesStand file at proto.params) offsets.params ids.protos items.params row proto there (all_small ids proto.params few (fit.protos row proto there).params);
  interfaces = λ row class there.
      let (stated, is, alike) = left IsSameClass rows ids.classes same row class there in
      let here = at_offset (λ at stated. TypesStand file at stated.interfaces) offsets.interfaces ids.classes items.interfaces row stated is in
      let listed = here (all_small ids stated.interfaces few (fit.classes row stated is).interfaces) in
      subst (λ types. ListsTypes file (slice_index offsets.interfaces row) types) (sym alike.interfaces) listed;
}
