-- The checksum Adler-32 of RFC 1950.
use Rattle.std.specs.Prelude.{ℕ, ◌+◌, ◌*◌, ◌%◌, List, [], ◌∷◌}

-- the sums a and b, with each byte added to a, and then a to b, both modulo 65521
unfoldable pub adler_sums : ℕ → ℕ → List ℕ → ℕ × ℕ
adler_sums a b [] = (a, b)
adler_sums a b (x ∷ xs) = adler_sums ((a + x) % 65521) ((b + (a + x) % 65521) % 65521) xs

abbrev pub adler_of : ℕ × ℕ → ℕ
adler_of sums = sums.1 * 65536 + sums.0

-- the checksum of these bytes: a begins as 1, and b as 0
unfoldable pub adler32_of : List ℕ → ℕ
adler32_of bytes = adler_of (adler_sums 1 0 bytes)
