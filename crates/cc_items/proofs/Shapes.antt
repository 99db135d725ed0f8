-- The forms of values by their kinds.
use Rattle.std.proofs.Common.{◌≡◌, ◌≢◌, ◌⊎◌, inl, inr, ℕ, suc, ◌-◌, ◌^◌, ◌<◌, ◌≤◌, Bool, true, false, not, cond, nat_lt, nat_le, List, [], ◌∷◌, Option, Some, None, refl, sym, ap, ◌∙◌, arith}
use Rattle.std.specs.Prelude.{ℤ, pos, negsuc, int_lt, unsigned_abs, ◌&&◌, ◌==◌}
use Rattle.std.specs.Int.{Width, w8, w16, FitsUnsignedBits}
use lib.Signed.{mag}
use mir.Val.{SFits, hbits}
use Rattle.std.proofs.lemmas.Bool.{cases_lt, lt-ltb, le-ltb, le-leb, lt-leb, ne_eqb}
use Rattle.cc_meaning.specs.declared.program.StaticValue.TheVariants as static
use Rattle.cc_meaning_dex.specs.declared.items.ValueKind.{ValueKind}
use Rattle.cc_meaning_dex.specs.declared.items.ValueKind.TheVariants as kinds
use Rattle.cc_meaning_builder.specs.Forms.{is_unit, is_within, little_form, signed_form, u32_form, value_form}

pub long_is : (kind : Option ValueKind) (n : ℤ) → value_form kind (static.Long n) ≡ 230 ∷ signed_form 8 n
unfolding value_form
long_is None n = refl
long_is (Some kinds.Boolean) n = refl
long_is (Some kinds.Byte) n = refl
long_is (Some kinds.Short) n = refl
long_is (Some kinds.Char) n = refl
long_is (Some kinds.Int) n = refl
long_is (Some kinds.Long) n = refl
long_is (Some kinds.Text) n = refl
long_is (Some kinds.Reference) n = refl

pub text_is : (kind : Option ValueKind) (row : ℕ) → value_form kind (static.Text row) ≡ 119 ∷ u32_form row
unfolding value_form
text_is None row = refl
text_is (Some kinds.Boolean) row = refl
text_is (Some kinds.Byte) row = refl
text_is (Some kinds.Short) row = refl
text_is (Some kinds.Char) row = refl
text_is (Some kinds.Int) row = refl
text_is (Some kinds.Long) row = refl
text_is (Some kinds.Text) row = refl
text_is (Some kinds.Reference) row = refl

pub null_is : (kind : Option ValueKind) → value_form kind static.Null ≡ 30 ∷ []
unfolding value_form
null_is None = refl
null_is (Some kinds.Boolean) = refl
null_is (Some kinds.Byte) = refl
null_is (Some kinds.Short) = refl
null_is (Some kinds.Char) = refl
null_is (Some kinds.Int) = refl
null_is (Some kinds.Long) = refl
null_is (Some kinds.Text) = refl
null_is (Some kinds.Reference) = refl

pub lone_is : (n : ℤ) → value_form None (static.Int n) ≡ 100 ∷ signed_form 4 n
unfolding value_form
lone_is n = refl

-- an int of a kind that has no form of its own for ints
pub wide_is : (kind : ValueKind) (n : ℤ) → kind ≢ kinds.Boolean → kind ≢ kinds.Byte → kind ≢ kinds.Short → kind ≢ kinds.Char →
    value_form (Some kind) (static.Int n) ≡ 100 ∷ signed_form 4 n
unfolding value_form
wide_is kinds.Boolean n a b c d = absurd (a refl)
wide_is kinds.Byte n a b c d = absurd (b refl)
wide_is kinds.Short n a b c d = absurd (c refl)
wide_is kinds.Char n a b c d = absurd (d refl)
wide_is kinds.Int n a b c d = refl
wide_is kinds.Long n a b c d = refl
wide_is kinds.Text n a b c d = refl
wide_is kinds.Reference n a b c d = refl

-- ---- ints of fewer bits

taken : (b : Bool) (x y : List ℕ) → b ≡ true → cond b x y ≡ x
taken b x y is = rw is refl

left : (b : Bool) (x y : List ℕ) → b ≡ false → cond b x y ≡ y
left b x y is = rw is refl

never : (n : ℕ) → nat_lt n 0 ≡ false
never n = le-ltb n 0 (omega arith)

fits_within : (bits : ℕ) (z : ℤ) → mag z < 2 ^ bits → is_within bits z ≡ true
fits_within bits (pos n) fits = ap (λ (b : Bool). cond b (nat_le n (2 ^ bits)) (nat_lt n (2 ^ bits))) (never n) ∙ lt-ltb n (2 ^ bits) fits
fits_within bits (negsuc n) fits = le-leb (suc n) (2 ^ bits) (omega (arith, fits))

beyond : (bits : ℕ) (z : ℤ) → 2 ^ bits ≤ mag z → is_within bits z ≡ false
beyond bits (pos n) large = ap (λ (b : Bool). cond b (nat_le n (2 ^ bits)) (nat_lt n (2 ^ bits))) (never n) ∙ le-ltb n (2 ^ bits) large
beyond bits (negsuc n) large = lt-leb (suc n) (2 ^ bits) (omega (arith, large))

not_fits : (w : Width) (z : ℤ) → ¬ SFits w z → 2 ^ hbits w ≤ mag z
not_fits w z none = from (cases_lt (mag z) (2 ^ hbits w))
  where
    from : (mag z < 2 ^ hbits w) ⊎ (2 ^ hbits w ≤ mag z) → 2 ^ hbits w ≤ mag z
    from (inl small) = absurd (none (record { sfits = small }))
    from (inr large) = large

pub byte_is : (n : ℤ) → SFits w8 n → value_form (Some kinds.Byte) (static.Int n) ≡ 0 ∷ signed_form 1 n
unfolding value_form
byte_is n fits = taken (is_within 7 n) (0 ∷ signed_form 1 n) (100 ∷ signed_form 4 n) (fits_within 7 n fits.sfits)

pub no_byte : (n : ℤ) → ¬ SFits w8 n → value_form (Some kinds.Byte) (static.Int n) ≡ 100 ∷ signed_form 4 n
unfolding value_form
no_byte n none = left (is_within 7 n) (0 ∷ signed_form 1 n) (100 ∷ signed_form 4 n) (beyond 7 n (not_fits w8 n none))

pub short_is : (n : ℤ) → SFits w16 n → value_form (Some kinds.Short) (static.Int n) ≡ 34 ∷ signed_form 2 n
unfolding value_form
short_is n fits = taken (is_within 15 n) (34 ∷ signed_form 2 n) (100 ∷ signed_form 4 n) (fits_within 15 n fits.sfits)

pub no_short : (n : ℤ) → ¬ SFits w16 n → value_form (Some kinds.Short) (static.Int n) ≡ 100 ∷ signed_form 4 n
unfolding value_form
no_short n none = left (is_within 15 n) (34 ∷ signed_form 2 n) (100 ∷ signed_form 4 n) (beyond 15 n (not_fits w16 n none))

unit_fits : (n : ℤ) → FitsUnsignedBits 16 n → is_unit n ≡ true
unit_fits (pos n) fits = ap (λ (b : Bool). not b && nat_lt n 65536) (never n) ∙ lt-ltb n 65536 fits
unit_fits (negsuc n) fits = absurd fits

not_unit : (n : ℤ) → ¬ FitsUnsignedBits 16 n → is_unit n ≡ false
not_unit (pos n) none = ap (λ (b : Bool). not b && nat_lt n 65536) (never n) ∙ from (cases_lt n 65536)
  where
    from : (n < 65536) ⊎ (65536 ≤ n) → nat_lt n 65536 ≡ false
    from (inl small) = absurd (none small)
    from (inr large) = le-ltb n 65536 large
not_unit (negsuc n) none = refl

unit_number : (n : ℤ) → FitsUnsignedBits 16 n → little_form 2 (unsigned_abs n) ≡ signed_form 2 n
unit_number (pos n) fits = ap (λ (b : Bool). little_form 2 (cond b (65536 - n) n)) (sym (never n))
unit_number (negsuc n) fits = absurd fits

pub char_is : (n : ℤ) → FitsUnsignedBits 16 n → value_form (Some kinds.Char) (static.Int n) ≡ 35 ∷ little_form 2 (unsigned_abs n)
unfolding value_form
char_is n fits = taken (is_unit n) (35 ∷ signed_form 2 n) (100 ∷ signed_form 4 n) (unit_fits n fits) ∙ ap (λ (l : List ℕ). 35 ∷ l) (sym (unit_number n fits))

pub no_char : (n : ℤ) → ¬ FitsUnsignedBits 16 n → value_form (Some kinds.Char) (static.Int n) ≡ 100 ∷ signed_form 4 n
unfolding value_form
no_char n none = left (is_unit n) (35 ∷ signed_form 2 n) (100 ∷ signed_form 4 n) (not_unit n none)

-- ---- booleans

pub false_is : (n : ℤ) → n ≡ pos 0 → value_form (Some kinds.Boolean) (static.Int n) ≡ 31 ∷ []
unfolding value_form
false_is n is = rw is refl

pub true_is : (n : ℤ) → n ≡ pos 1 → value_form (Some kinds.Boolean) (static.Int n) ≡ 63 ∷ []
unfolding value_form
true_is n is = rw is refl

neither : (a b : Bool) (x y z : List ℕ) → a ≡ false → b ≡ false → cond a x (cond b y z) ≡ z
neither a b x y z p q = rw (p, q) refl

no_zero : (n : ℤ) → n ≢ pos 0 → (unsigned_abs n == 0) ≡ false
no_zero (pos n) none = ne_eqb n 0 (λ is. none (ap pos is))
no_zero (negsuc n) none = ne_eqb (suc n) 0 (λ is. omega (arith, is))

no_and : (a : Bool) → (a && false) ≡ false
no_and true = refl
no_and false = refl

no_one : (n : ℤ) → n ≢ pos 1 → (unsigned_abs n == 1 && not (int_lt n (pos 0))) ≡ false
no_one (pos n) none = ap (λ (b : Bool). b && not (nat_lt n 0)) (ne_eqb n 1 (λ is. none (ap pos is)))
no_one (negsuc n) none = no_and (suc n == 1)

pub no_boolean : (n : ℤ) → n ≢ pos 0 → n ≢ pos 1 → value_form (Some kinds.Boolean) (static.Int n) ≡ 100 ∷ signed_form 4 n
unfolding value_form
no_boolean n zero one = neither (unsigned_abs n == 0) (unsigned_abs n == 1 && not (int_lt n (pos 0))) (31 ∷ []) (63 ∷ []) (100 ∷ signed_form 4 n) (no_zero n zero) (no_one n one)
