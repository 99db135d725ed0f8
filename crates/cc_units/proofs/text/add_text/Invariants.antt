use Rattle.std.proofs.Common.{◌≡◌, ◌++◌, drop, length}
use Rattle.std.specs.Str.{chars}
use Rattle.std.specs.List.{flat_map}
use Rattle.std.specs.Char.Escape.{encode_utf16}
use Rattle.cc_units.specs.Units.{units_of}
use Rattle.cc_units.proofs.text.add_text.Given as goal

abbrev pub invariant-loop-c : goal.invariant-loop-c
invariant-loop-c l = l.units ++ flat_map encode_utf16 (drop (length l.yielded) (chars l.text)) ≡ l.initial.units ++ units_of l.text
