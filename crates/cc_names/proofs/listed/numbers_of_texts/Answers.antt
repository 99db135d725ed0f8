use Rattle.std.proofs.Common.{Contains, sym, subst}
use Rattle.cc_names.proofs.listed.numbers_of_texts.Goals as goal

pub unreachable-requires : goal.unreachable-requires
unreachable-requires c =
    let given : Contains c.as_slice-text-items.result.now c.text-item.result = (c.loop-text.text-index, c.loop-text-test.true, sym c.text-item.is) in
    let there = (c.requires.texts.are c.text-item.result).1 (rw c.as_slice-text-items.ensures at given) in
    c.in-None.ensures (subst (Contains c.args.texts.now) (sym c.as_slice.ensures) there)
