use Rattle.std.proofs.Common.{◌≡◌, ◌++◌, drop, length}
use Rattle.std.specs.Str.{chars}
use Rattle.std.specs.List.{flat_map}
use Rattle.std.specs.Char.Escape.{encode_utf16}
use Rattle.cc_output.specs.Shown.{shown_units, shown_text}
use Rattle.cc_output.proofs.shown.put_text.Given as goal

abbrev pub invariant-loop-c : goal.invariant-loop-c
invariant-loop-c l = l.line.items ++ flat_map (λ c. shown_units (encode_utf16 c)) (drop (length l.yielded) (chars l.text)) ≡ l.initial.line.items ++ shown_text l.text
