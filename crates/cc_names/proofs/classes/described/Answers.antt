use Rattle.std.proofs.Common.{◌≡◌, ℕ, [], ◌∷◌, Contains, subst}
use Rattle.cc_names.proofs.Ordered.{mapped_from}
use Rattle.cc_names.proofs.classes.described.Goals as goal

pub returns-clause-are : goal.returns-clause-are
returns-clause-are c =
    let are = rw c.in_ok-copy.ensures at c.in_ok-rows.ensures in
    λ row. (
      λ here. are.among row here,
      λ there.
          let (other, here, is) = mapped_from (λ (x : ℕ). x ∷ []) c.in_ok-rows.rows (row ∷ []) (are.named row there) in
          let same : other ≡ row = cc in
          subst (Contains c.in_ok-rows.rows) same here,
    )

pub returns-clause-few : goal.returns-clause-few
returns-clause-few c = rw (← c.in_ok-copy.ensures) c.in_ok-rows.ensures.few
