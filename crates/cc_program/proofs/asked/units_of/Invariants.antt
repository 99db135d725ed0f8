use Rattle.std.proofs.Common.{◌≡◌, ◌++◌, drop, length}
use Rattle.std.specs.Str.{chars}
use Rattle.std.specs.List.{flat_map}
use Rattle.std.specs.Char.Escape.{encode_utf16}
use Rattle.cc_meaning_program.specs.Asked.{units_of}
use Rattle.cc_program.proofs.asked.units_of.Given as goal

abbrev pub invariant-loop-c : goal.invariant-loop-c
invariant-loop-c l = l.units ++ flat_map encode_utf16 (drop (length l.yielded) (chars l.text)) ≡ units_of l.text
