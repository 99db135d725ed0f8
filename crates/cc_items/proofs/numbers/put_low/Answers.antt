use Rattle.std.proofs.Common.{List, ℕ, ◌++◌, ap, ◌∙◌}
use Rattle.std.proofs.lemmas.Result.{on_ok_weaker}
use Rattle.cc_items.proofs.Widths.{low_form}
use Rattle.cc_items.proofs.numbers.put_low.Goals as goal

pub returns : goal.returns
returns c = on_ok_weaker c.put_u16.result (λ e. e ∙ ap (λ (l : List ℕ). c.args.out.now ++ l) (low_form c.args.n)) c.put_u16.ensures
