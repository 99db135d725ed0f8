use Rattle.std.proofs.Common.{◌≡◌, ◌-◌, drop}
use Rattle.cc_meaning_dex.specs.Leb128.{leb_size}
use Rattle.cc_text.proofs.Leb.{ahead}
use Rattle.cc_text.proofs.leb128.number_size.Given as goal

abbrev pub invariant-loop-i : goal.invariant-loop-i
invariant-loop-i l = leb_size 5 l.bytes ≡ ahead l.i (leb_size (5 - l.i) (drop l.i l.bytes))
