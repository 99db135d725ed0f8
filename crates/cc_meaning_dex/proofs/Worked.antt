-- Worked values of the definitions.
use Rattle.std.proofs.Common.{◌≡◌, [], ◌∷◌, Ok, Err, pos, neg_ℤ, refl}
use Rattle.cc_meaning.specs.declared.fault.LebFault.TheVariants as leb
use Rattle.cc_meaning.specs.declared.fault.TextFault.TheVariants as text
use Rattle.cc_meaning_dex.specs.Leb128.{leb_size, leb_value, uleb_judged, uleb_sized, uleb_at, signed_group, signed_leb_value, fits_i32, sleb_judged, sleb_sized, sleb_at}
use Rattle.cc_meaning_dex.specs.Mutf8.{front_of_two, front_of_three, front_of, text_within, text_of, counted, mutf8_at}
use Rattle.cc_meaning_dex.specs.Adler32.{adler_sums, adler32_of}

in_three_bytes : uleb_at (229 ∷ 142 ∷ 38 ∷ []) 0 ≡ Ok (624485, 3)
unfolding leb_size leb_value uleb_judged uleb_sized uleb_at
in_three_bytes = refl

longer_than_needed : uleb_at (128 ∷ 0 ∷ []) 0 ≡ Ok (0, 2)
unfolding leb_size leb_value uleb_judged uleb_sized uleb_at
longer_than_needed = refl

above_32_bits : uleb_at (128 ∷ 128 ∷ 128 ∷ 128 ∷ 16 ∷ []) 0 ≡ Err leb.TooBig
unfolding leb_size leb_value uleb_judged uleb_sized uleb_at
above_32_bits = refl

signed : sleb_at (192 ∷ 187 ∷ 120 ∷ []) 0 ≡ Ok (neg_ℤ (pos 123456), 3)
unfolding leb_size signed_group signed_leb_value fits_i32 sleb_judged sleb_sized sleb_at
signed = refl

surrogates : mutf8_at (192 ∷ 128 ∷ 65 ∷ 237 ∷ 160 ∷ 189 ∷ 237 ∷ 184 ∷ 128 ∷ 0 ∷ []) 0 4 ≡ Ok (0 ∷ 65 ∷ 55357 ∷ 56832 ∷ [], 10)
unfolding front_of_two front_of_three front_of text_within text_of counted mutf8_at
surrogates = refl

overlong : mutf8_at (193 ∷ 129 ∷ 0 ∷ []) 0 1 ≡ Err (text.BadForm 0)
unfolding front_of_two front_of_three front_of text_within text_of counted mutf8_at
overlong = refl

checksum : adler32_of (87 ∷ 105 ∷ 107 ∷ 105 ∷ 112 ∷ 101 ∷ 100 ∷ 105 ∷ 97 ∷ []) ≡ 300286872
unfolding adler_sums adler32_of
checksum = refl
