use Rattle.std.proofs.Common.{◌≡◌, ◌++◌, take}
use Rattle.cc_world.proofs.opening.add_ascii.Given as goal

abbrev pub invariant-loop-byte : goal.invariant-loop-byte
invariant-loop-byte l = l.name ≡ l.initial.name ++ take l.byte-index l.text
