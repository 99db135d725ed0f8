use Rattle.std.proofs.Common.{refl, ◌∙◌, sym, arith}
use Rattle.cc_builtin.proofs.InOrder.{not_rising, next_rises, all_rise}
use Rattle.cc_builtin.proofs.lookup.is_rising.Goals as goal

pub returns-then-not-is_lt : goal.returns-then-not-is_lt
returns-then-not-is_lt c = (
  λ e. absurd cc,
  λ rise. absurd (not_rising c.args.classes.now c.loop-at.at c.index-classes-at.result c.index-classes-at-in-loop-at.result c.cmp.result c.loop-at.invariant.0
      (omega (arith, c.loop-at-test.true)) c.cmp.ensures (sym c.is_lt.ensures ∙ c.if-not-is_lt.true) rise),
)

pub loop-at-preserved : goal.loop-at-preserved
loop-at-preserved c = (
  omega arith,
  next_rises c.args.classes.now c.loop-at.at c.index-classes-at.result c.index-classes-at-in-loop-at.result c.cmp.result c.loop-at.invariant.0
      (omega (arith, c.loop-at-test.true)) c.loop-at.invariant.1 c.cmp.ensures (sym c.is_lt.ensures ∙ c.if-not-is_lt.false),
)

pub returns : goal.returns
returns c = (λ e. all_rise c.args.classes.now c.loop-at.at (omega (arith, c.loop-at-test.false)) c.loop-at.invariant.1, λ rise. refl)
