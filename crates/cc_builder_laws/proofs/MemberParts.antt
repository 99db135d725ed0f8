-- Parts that stand in a file are no longer than it.
use Rattle.std.proofs.Common.{◌≢◌, ℕ, ◌+◌, ◌<◌, ◌≤◌, List, [], ◌∷◌, length, arith}
use Rattle.cc_meaning_dex.specs.Numbers.{Stands}
use Rattle.cc_builder_laws.specs.Lower.{Lower}

some_bytes : (part : List ℕ) → 0 < length part → part ≢ []
some_bytes [] some none = absurd (omega (arith, some))
some_bytes (byte ∷ part) some none = absurd (cc)

-- a part that has bytes ends in the file
pub ends_inside : Lower → (file : List ℕ) (at : ℕ) (part : List ℕ) → Stands file at part → 0 < length part → at + length part ≤ length file
ends_inside low file at part stands some = low.within file at part stands (some_bytes part some)

-- no part is longer than the file
pub is_shorter : Lower → (file : List ℕ) (at : ℕ) (part : List ℕ) → Stands file at part → length part ≤ length file
is_shorter low file at [] stands = omega arith
is_shorter low file at (byte ∷ part) stands = omega (arith, ends_inside low file at (byte ∷ part) stands (omega arith))
