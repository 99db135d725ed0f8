-- Places as numbers of 32 bits.
use Rattle.std.proofs.Common.{◌≡◌, ℕ, ◌+◌, ◌-◌, ◌^◌, ◌<◌, ◌≤◌, arith}
use Rattle.cc_meaning_script.specs.Listed.{capped}

pub few_places : (at : ℕ) → at < 4294967295 → at ≡ capped at
few_places at h = omega arith

pub many_places : (at : ℕ) → 4294967295 ≤ at → 4294967295 ≡ capped at
many_places at h = omega arith

pub sum_capped : (start at sum : ℕ) → (start + at < 2 ^ 64 → sum ≡ start + at) → (2 ^ 64 ≤ start + at → sum ≡ 2 ^ 64 - 1) → capped sum ≡ capped (start + at)
sum_capped start at sum small large = grind (arith, small, large)
