-- Where the parts of a code item stand.
use Rattle.std.proofs.Common.{◌≡◌, ℕ, ◌+◌, ◌<◌, ◌≤◌, false, nat_le, List, length, arith}
use Rattle.std.proofs.lemmas.Bool.Decides.{nat_tests}
use Rattle.cc_meaning_dex.specs.CodeItems.{tries_at, handlers_at}

pub head_first : (file : List ℕ) (at : ℕ) → at + 16 ≤ handlers_at file at
unfolding tries_at handlers_at
head_first file at = omega arith

pub no_head : (file : List ℕ) (at : ℕ) → length file < at + 16 → nat_le (handlers_at file at) (length file) ≡ false
no_head file at past = let first = head_first file at in grind (arith, nat_tests)
