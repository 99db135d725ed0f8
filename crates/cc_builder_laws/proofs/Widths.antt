-- Numbers of a fixed width are read where they are written.
use Rattle.std.proofs.Common.{◌≡◌, ℕ, zero, suc, ◌+◌, ◌/◌, ◌%◌, List, drop, get_or, refl, sym, ap, ◌∙◌, arith}
use Rattle.std.specs.Prelude.{slice_index}
use Rattle.std.proofs.lemmas.List.{get_or-drop}
use Rattle.cc_meaning_dex.specs.Numbers.{u16_at, u32_at}
use Rattle.cc_meaning_builder.specs.Forms.{u16_form, u32_form, little_form}
use Rattle.cc_meaning_builder.specs.Laws.{WrittenU16, WrittenU32}
use Rattle.cc_builder_laws.specs.Standing.{LittleLength}
use Rattle.cc_builder_laws.proofs.Parts.{opened, stands_few}

pub little_length : LittleLength
unfolding little_form
little_length zero n = refl
little_length (suc size) n = ap suc (little_length size (n / 256))

-- a byte of what stands at a place
byte : (file : List ℕ) (at k : ℕ) (there : List ℕ) → drop at file ≡ there → slice_index file (at + k) ≡ get_or there k 0
byte file at k there is = sym (get_or-drop at file k 0) ∙ ap (λ xs. get_or xs k 0) is

pub written_u16 : WrittenU16
unfolding little_form u16_at
written_u16 file at n small stands =
    let is = opened file at (u16_form n) stands in
    let first : slice_index file at ≡ n % 256 = ap (slice_index file) (omega arith) ∙ byte file at 0 _ is in
    let second : slice_index file (at + 1) ≡ n / 256 % 256 = byte file at 1 _ is in
    (omega (arith, stands_few file at (u16_form n) stands), omega (arith, first, second))

pub written_u32 : WrittenU32
unfolding little_form u16_at u32_at
written_u32 file at n small stands =
    let is = opened file at (u32_form n) stands in
    let first : slice_index file at ≡ n % 256 = ap (slice_index file) (omega arith) ∙ byte file at 0 _ is in
    let second : slice_index file (at + 1) ≡ n / 256 % 256 = byte file at 1 _ is in
    let third : slice_index file (at + 2) ≡ n / 256 / 256 % 256 = byte file at 2 _ is in
    let fourth : slice_index file (at + 2 + 1) ≡ n / 256 / 256 / 256 % 256 = ap (slice_index file) (omega arith) ∙ byte file at 3 _ is in
    (omega (arith, stands_few file at (u32_form n) stands), omega (arith, first, second, third, fourth))
