-- The form of a number of 16 bits has its low bits alone.
use Rattle.std.proofs.Common.{◌≡◌, ℕ, ◌/◌, ◌%◌, [], ◌∷◌, ap, ◌∙◌, arith}
use Rattle.cc_meaning_builder.specs.Forms.{u16_form, little_form}

pub low_half : (n : ℕ) → u16_form (n % 65536) ≡ u16_form n
unfolding little_form
low_half n =
    let lowest : n % 65536 % 256 ≡ n % 256 = omega arith in
    let second : n % 65536 / 256 % 256 ≡ n / 256 % 256 = omega arith in
    ap (λ (b : ℕ). b ∷ n % 65536 / 256 % 256 ∷ []) lowest ∙ ap (λ (b : ℕ). n % 256 ∷ b ∷ []) second
