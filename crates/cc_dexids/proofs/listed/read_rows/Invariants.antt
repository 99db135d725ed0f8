use Rattle.std.proofs.Common.{◌≡◌, ◌+◌, ◌*◌, map}
use Rattle.std.specs.List.{range_with_len}
use Rattle.cc_meaning_dex.specs.Numbers.{u16_at}
use Rattle.cc_dexids.proofs.listed.read_rows.Given as goal

abbrev pub invariant-loop-k : goal.invariant-loop-k
invariant-loop-k l = l.rows.items ≡ map (λ k. u16_at l.file (l.start + k * 2)) (range_with_len 0 l.k)
