use Rattle.std.proofs.Common.{◌≡◌, ◌++◌, take}
use Rattle.std.specs.List.{flat_map}
use Rattle.cc_wire.proofs.spell.put_all.Given as goal

-- the spellings of the items so far stand behind the bytes that were there
abbrev pub invariant-loop-item : goal.invariant-loop-item
invariant-loop-item g l = l.bytes.items ≡ l.fn.bytes.items ++ flat_map g.T.Spell.spelling (take l.item-index l.items)
