use Rattle.std.proofs.Common.{◌≡◌, ◌<◌, ◌↔◌, ℕ, Contains, [], ◌∷◌, length-append, subst, arith}
use Rattle.cc_names.proofs.Ordered.{rows_more}
use Rattle.cc_names.proofs.rows.all_rows.Goals as goal

pub loop-row-preserved : goal.loop-row-preserved
loop-row-preserved c = rw c.in_ok-push.ensures.ok (
  rows_more c.loop-row.rows c.loop-row.row c.loop-row.invariant.0,
  omega (arith, c.loop-row.invariant.1, length-append c.loop-row.rows (c.loop-row.row ∷ [])),
)

pub returns-clause-are : goal.returns-clause-are
returns-clause-are c =
    let all : c.loop-row.row ≡ c.args.count = omega (arith, c.loop-row-test.false, c.loop-row.auto.row-end) in
    subst (λ (n : ℕ). (row : ℕ) → Contains c.loop-row.rows row ↔ (row < n)) all c.loop-row.invariant.0

pub returns-clause-count : goal.returns-clause-count
returns-clause-count c = omega (arith, c.loop-row.invariant.1, c.loop-row-test.false, c.loop-row.auto.row-end)
