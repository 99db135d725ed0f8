use Rattle.std.proofs.Common.{suc, Some, sym, ap, ◌∙◌, arith}
use Rattle.cc_meaning_plain.proofs.Words.{less_some, less_none}
use Rattle.cc_machine.proofs.function.left_after.Goals as goal

pub returns-then-instructions-count : goal.returns-then-instructions-count
returns-then-instructions-count c = sym (less_none (suc c.args.count) c.args.instructions (omega (arith, c.if-instructions-count.true)))

pub returns : goal.returns
returns c = ap Some (omega arith) ∙ sym (less_some (suc c.args.count) c.args.instructions (omega (arith, c.if-instructions-count.false)))
