use Rattle.std.proofs.Common.{List, ℕ, ◌++◌, ap, ◌∙◌}
use Rattle.cc_dex_writer.proofs.Bytes.{low_half}
use Rattle.cc_dex_writer.proofs.numbers.put_low.Goals as goal

pub returns : goal.returns
returns c = c.in_ok-put_u16.ensures ∙ ap (λ (bytes : List ℕ). c.args.out.now ++ bytes) (low_half c.args.n)
