-- How the sums of the checksum go on.
use Rattle.std.proofs.Common.{◌≡◌, ℕ, ◌+◌, ◌*◌, ◌%◌, ◌<◌, ◌≤◌, List, [], ◌∷◌, length, drop, get_or, refl, sym, ap, ◌∙◌, arith}
use Rattle.std.proofs.lemmas.List.{drop_more, drop_all}
use Rattle.cc_meaning_dex.specs.Adler32.{adler_sums, adler_of, adler32_of}

-- a and b are the sums of the first i bytes
pub record Sums (bytes : List ℕ) (i a b : ℕ) : Type 0 where
  pub sums : adler_sums a b (drop i bytes) ≡ adler_sums 1 0 bytes
  pub first : a < 65521
  pub second : b < 65521

sums_cons : (a b x : ℕ) (xs : List ℕ) → adler_sums a b (x ∷ xs) ≡ adler_sums ((a + x) % 65521) ((b + (a + x) % 65521) % 65521) xs
unfolding adler_sums
sums_cons a b x xs = refl

sums_nil : (a b : ℕ) → adler_sums a b [] ≡ (a, b)
unfolding adler_sums
sums_nil a b = refl

pub Sums-more : (bytes : List ℕ) (i a b : ℕ) → i < length bytes → Sums bytes i a b →
    Sums bytes (i + 1) ((a + get_or bytes i 0) % 65521) ((b + (a + get_or bytes i 0) % 65521) % 65521)
Sums-more bytes i a b h s = record {
  sums = sym (sums_cons a b (get_or bytes i 0) (drop (i + 1) bytes)) ∙ ap (adler_sums a b) (sym (drop_more bytes i 0 h)) ∙ s.sums;
  first = omega arith;
  second = omega arith;
}

pub Sums-all : (bytes : List ℕ) (i a b : ℕ) → length bytes ≤ i → Sums bytes i a b → adler32_of bytes ≡ b * 65536 + a
unfolding adler32_of
Sums-all bytes i a b h s =
    ap adler_of (sym s.sums ∙ ap (adler_sums a b) (drop_all i bytes h) ∙ sums_nil a b)
