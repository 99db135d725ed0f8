use Rattle.std.proofs.Common.{◌≡◌, ◌+◌, drop}
use Rattle.cc_meaning_typing.specs.Code.{brackets, behind_brackets}
use Rattle.cc_transfer.proofs.types.brackets.Given as goal

abbrev pub invariant-loop-at : goal.invariant-loop-at
invariant-loop-at l = record {
  counted : l.at + brackets (drop l.at l.name) ≡ brackets l.name;
  behind : behind_brackets (drop l.at l.name) ≡ behind_brackets l.name;
}
