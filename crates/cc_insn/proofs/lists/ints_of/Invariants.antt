use Rattle.std.proofs.Common.{◌≡◌, ◌*◌, ◌++◌, drop}
use Rattle.cc_meaning_insn.specs.Payloads.{ints_of}
use Rattle.cc_insn.proofs.lists.ints_of.Given as goal

abbrev pub invariant-loop-i : goal.invariant-loop-i
invariant-loop-i l = l.ints.items ++ ints_of (drop (2 * l.i) l.units) ≡ ints_of l.units
