-- The sum and the signature of bytes.
use Rattle.std.proofs.Common.{◌≡◌, ℕ, ◌+◌, ◌%◌, ◌^◌, ◌<◌, List, [], ◌∷◌, length, refl, arith}
use Rattle.sha1.specs.Sha1.{sha1, digest_bytes}
use Rattle.cc_meaning_dex.specs.Adler32.{adler_sums, adler32_of}

pub digest_size : (message : List ℕ) → length (sha1 message) ≡ 20
unfolding sha1 digest_bytes
digest_size message = refl

sums_small : (a b : ℕ) (bytes : List ℕ) → a < 65521 → b < 65521 → ((adler_sums a b bytes).0 < 65521) × ((adler_sums a b bytes).1 < 65521)
unfolding adler_sums
sums_small a b [] first second = (first, second)
sums_small a b (x ∷ xs) first second = sums_small ((a + x) % 65521) ((b + (a + x) % 65521) % 65521) xs (omega arith) (omega arith)

pub sum_fits : (bytes : List ℕ) → adler32_of bytes < 2 ^ 32
unfolding adler32_of
sum_fits bytes = let small = sums_small 1 0 bytes (omega arith) (omega arith) in omega (arith, small.0, small.1)
