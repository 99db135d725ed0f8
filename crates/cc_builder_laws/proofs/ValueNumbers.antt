-- Numbers of several bytes are read where they are written, with their sign.
use Rattle.std.proofs.Common.{◌≡◌, ℕ, zero, suc, ◌+◌, ◌-◌, ◌/◌, ◌%◌, ◌^◌, ◌<◌, ◌≤◌, ℤ, pos, negsuc, Bool, true, false, cond, nat_lt, nat_le, List, [], ◌∷◌, length, take, drop, get_or, refl, sym, ap, ◌∙◌, arith}
use Rattle.std.specs.Prelude.{slice_index, int_lt, unsigned_abs, ◌-ℤ◌}
use Rattle.std.proofs.lemmas.Bool.{lt-ltb, le-ltb}
use Rattle.std.proofs.lemmas.Bool.Decides.{nat_tests}
use Rattle.std.proofs.lemmas.Int.{ints}
use Rattle.std.proofs.lemmas.List.{get_or-drop}
use Rattle.std.proofs.lemmas.Nat.{div_below}
use Rattle.std.proofs.Math.Nat.{pow-suc}
use Rattle.cc_meaning_dex.specs.Numbers.{Stands}
use Rattle.cc_meaning_dex.specs.Values.{little_at}
use Rattle.cc_meaning_builder.specs.Forms.{little_form}
use Rattle.cc_meaning_builder.specs.Laws.{StandsApart}
use Rattle.cc_builder_laws.specs.Standing.{StandsWithin}

-- ---- bytes

front_byte : (bytes : List ℕ) (b : ℕ) → take 1 bytes ≡ b ∷ [] → get_or bytes 0 0 ≡ b
front_byte [] b is = absurd cc
front_byte (first ∷ bytes) b is = cc

pub byte_there : (file : List ℕ) (at b : ℕ) → Stands file at (b ∷ []) → slice_index file at ≡ b
byte_there file at b stands =
    let place : at + 0 ≡ at = omega arith in
    sym (ap (slice_index file) place) ∙ sym (get_or-drop at file 0 0) ∙ front_byte (drop at file) b stands

pub byte_within : StandsWithin → (file : List ℕ) (at b : ℕ) → Stands file at (b ∷ []) → at < length file
byte_within within file at b stands = omega (arith, within file at (b ∷ []) stands (λ none. absurd cc))

-- ---- numbers without a sign

pub little_length : (size n : ℕ) → length (little_form size n) ≡ size
unfolding little_form
little_length zero n = refl
little_length (suc size) n = omega (arith, little_length size (n / 256))

pub little_written : StandsApart → (file : List ℕ) (at size n : ℕ) → n < 256 ^ size → Stands file at (little_form size n) → little_at file at size ≡ n
unfolding little_form little_at
little_written apart file at zero n small stands = omega (arith, small)
little_written apart file at (suc size) n small stands =
    let parts = apart file at (n % 256 ∷ []) (little_form size (n / 256)) stands in
    let first = byte_there file at (n % 256) parts.0 in
    let below : n / 256 < 256 ^ size = div_below n 256 (256 ^ size) (omega arith) (omega (arith, small, pow-suc 256 size)) in
    let rest = little_written apart file (at + 1) size (n / 256) below parts.1 in
    omega (arith, first, rest)

-- ---- signs

-- a number whose upper half is below zero
abbrev pub extended : (half full : ℕ) → ℕ → ℤ
extended half full number = cond (nat_lt number half) (pos number) (pos number -ℤ pos full)

-- the remainder that has a number's sign
abbrev pub remainder : (full : ℕ) → ℤ → ℕ
remainder full n = cond (int_lt n (pos 0)) (full - unsigned_abs n) (unsigned_abs n)

abbrev pub is_inside : (half : ℕ) → ℤ → Bool
is_inside half n = cond (int_lt n (pos 0)) (nat_le (unsigned_abs n) half) (nat_lt (unsigned_abs n) half)

never_below : (k : ℕ) → nat_lt k 0 ≡ false
never_below k = le-ltb k 0 (omega arith)

pub remainder_of_pos : (full k : ℕ) → remainder full (pos k) ≡ k
remainder_of_pos full k = ap (λ b. cond b (full - k) k) (never_below k)

inside_pos : (half k : ℕ) → is_inside half (pos k) ≡ true → k < half
inside_pos half k test =
    let plain : nat_lt k half ≡ true = sym (ap (λ b. cond b (nat_le k half) (nat_lt k half)) (never_below k)) ∙ test in
    grind (arith, nat_tests)

inside_neg : (half k : ℕ) → is_inside half (negsuc k) ≡ true → suc k ≤ half
inside_neg half k test = let plain : nat_le (suc k) half ≡ true = test in grind (arith, nat_tests)

pub remainder_below : (half full : ℕ) (n : ℤ) → half + half ≡ full → is_inside half n ≡ true → remainder full n < full
remainder_below half full (pos k) twice test = let small = inside_pos half k test in omega (arith, small, remainder_of_pos full k)
remainder_below half full (negsuc k) twice test = let small = inside_neg half k test in omega arith

pub sign_kept : (half full : ℕ) (n : ℤ) → half + half ≡ full → is_inside half n ≡ true → extended half full (remainder full n) ≡ n
sign_kept half full (pos k) twice test =
    ap (extended half full) (remainder_of_pos full k) ∙ ap (λ b. cond b (pos k) (pos k -ℤ pos full)) (lt-ltb k half (inside_pos half k test))
sign_kept half full (negsuc k) twice test =
    let small = inside_neg half k test in
    let rest = full - suc k in
    let value : pos rest -ℤ pos full ≡ negsuc k = omega (arith, ints) in
    ap (λ b. cond b (pos rest) (pos rest -ℤ pos full)) (le-ltb rest half (omega arith)) ∙ value
