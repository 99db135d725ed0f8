use Rattle.std.proofs.Common.{sym, ◌∙◌, arith}
use Rattle.cc_text.proofs.Leb.{size_more, size_here, size_cut, size_full}
use Rattle.cc_text.proofs.leb128.number_size.Goals as goal

pub returns-then-i-bytes-clause-value : goal.returns-then-i-bytes-clause-value
returns-then-i-bytes-clause-value c = sym (c.loop-i.invariant ∙ size_cut c.loop-i.i c.args.bytes.now (omega arith) (omega arith))

pub returns-then-bytes-i-lt128-clause-value : goal.returns-then-bytes-i-lt128-clause-value
returns-then-bytes-i-lt128-clause-value c = sym (c.loop-i.invariant ∙ size_here c.loop-i.i c.args.bytes.now (omega arith) (omega arith) (omega arith))

pub loop-i-preserved : goal.loop-i-preserved
loop-i-preserved c = c.loop-i.invariant ∙ size_more c.loop-i.i c.args.bytes.now (omega arith) (omega arith) (omega arith)

pub returns-clause-value : goal.returns-clause-value
returns-clause-value c = sym (c.loop-i.invariant ∙ size_full c.loop-i.i c.args.bytes.now (omega arith))
