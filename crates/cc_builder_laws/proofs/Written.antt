-- Texts and lists of types are spelled where they are written.
use Rattle.std.proofs.Common.{◌≡◌, ℕ, ◌+◌, ◌*◌, ◌<◌, List, [], ◌∷◌, ◌++◌, length, slice_get, Some, inr, refl, sym, subst, arith}
use Rattle.std.specs.Prelude.{All}
use Rattle.std.specs.List.{flat_map}
use Rattle.std.proofs.lemmas.List.{length-append}
use Rattle.std.proofs.lemmas.List.Elements.{All-get_or}
use Rattle.std.proofs.lemmas.Option.{slice_get_within, get_or_from_slice_get}
use Rattle.cc_meaning_dex.specs.Ids.{SpellsTypes}
use Rattle.cc_meaning_dex.specs.Mutf8.{mutf8_bytes}
use Rattle.cc_meaning_dex.specs.Numbers.{Stands}
use Rattle.cc_meaning_builder.specs.Forms.{little_form, types_form, u16_form, u32_form, uleb_form}
use Rattle.cc_meaning_builder.specs.Laws.{WrittenText, WrittenTypes}
use Rattle.cc_builder_laws.specs.Standing.{UnitsLength}
use Rattle.cc_builder_laws.proofs.Lebs.{written_uleb}
use Rattle.cc_builder_laws.proofs.Parts.{stands_apart, stands_few, units_stand}
use Rattle.cc_builder_laws.proofs.Widths.{little_length, written_u16, written_u32}

pub written_text : WrittenText
written_text file at units small few stands =
    let (front, back) = stands_apart file at (uleb_form (length units)) (mutf8_bytes units ++ 0 ∷ []) stands in
    record {
      place = at + length (uleb_form (length units));
      next = at + length (uleb_form (length units)) + length (mutf8_bytes units) + 1;
      count = written_uleb file at (length units) few front;
      text = record { small = small; stands = back; end = refl };
    }

-- what holds of each is so of the one at a place
pub holds_at : (P : ℕ → Type 0) (xs : List ℕ) (place x : ℕ) → All P xs → slice_get xs place ≡ Some x → P x
holds_at P xs place x all is = subst P (get_or_from_slice_get xs place x 0 is) (All-get_or P xs place 0 (slice_get_within xs place x is) all)

pub units_length : UnitsLength
unfolding little_form
units_length [] = refl
units_length (u ∷ us) = omega (arith, units_length us)

pub written_types : WrittenTypes
written_types file at rows small few some stands =
    let (front, back) = stands_apart file at (u32_form (length rows)) (flat_map u16_form rows) stands in
    let count = written_u32 file at (length rows) few front in
    let long : length (types_form rows) ≡ 4 + length rows * 2 = omega (arith, length-append (u32_form (length rows)) (flat_map u16_form rows), little_length 4 (length rows), units_length rows) in
    let spelled : SpellsTypes file at rows = record {
      within = omega (arith, count.0, stands_few file at (types_form rows) stands, long);
      each = record {
        all = sym count.1;
        each = λ place row is.
            let one = units_stand file (at + length (u32_form (length rows))) rows back place row is in
            let there : at + length (u32_form (length rows)) + place * 2 ≡ at + 4 + place * 2 = omega (arith, little_length 4 (length rows)) in
            sym (written_u16 file (at + 4 + place * 2) row (holds_at (λ n. n < 65536) rows place row small is) (subst (λ k. Stands file k (u16_form row)) there one)).1;
      };
    } in
    inr (some, spelled)
