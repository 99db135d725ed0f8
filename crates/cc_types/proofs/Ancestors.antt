-- A walk along the superclasses.
use Rattle.std.proofs.Common.{◌≡◌, ℕ, zero, suc, ◌+◌, ◌-◌, ◌<◌, ◌≤◌, ◌==◌, true, false, Some, None, refl, ap, sym, ◌∙◌, arith}
use Rattle.cc_meaning.specs.declared.program.Program.{Program}
use Rattle.cc_meaning_typing.specs.Hierarchy.{on_value, superclass_of, climbs_to}

step : (p : Program) (n at other : ℕ) → (at == other) ≡ false → climbs_to p (suc n) at other ≡ on_value (superclass_of p at) false (λ above. climbs_to p n above other)
unfolding climbs_to
step p n at other e = rw e refl

-- the walk goes on above
pub above : (p : Program) (n k at up other : ℕ) → k < n → (at == other) ≡ false → Some up ≡ superclass_of p at → climbs_to p (n - k) at other ≡ climbs_to p (n - (k + 1)) up other
unfolding on_value
above p n k at up other h e more =
    let split : n - k ≡ suc (n - (k + 1)) = omega arith in
    ap (λ m. climbs_to p m at other) split ∙ step p (n - (k + 1)) at other e ∙ ap (λ c. on_value c false (λ above. climbs_to p (n - (k + 1)) above other)) (sym more)

-- it ends where there is none above
pub none_above : (p : Program) (n k at other : ℕ) → k < n → (at == other) ≡ false → None ≡ superclass_of p at → climbs_to p (n - k) at other ≡ false
unfolding on_value
none_above p n k at other h e none =
    let split : n - k ≡ suc (n - (k + 1)) = omega arith in
    ap (λ m. climbs_to p m at other) split ∙ step p (n - (k + 1)) at other e ∙ ap (λ c. on_value c false (λ above. climbs_to p (n - (k + 1)) above other)) (sym none)

found : (p : Program) (n at other : ℕ) → (at == other) ≡ true → climbs_to p n at other ≡ true
unfolding climbs_to
found p zero at other e = e
found p (suc n) at other e = rw e refl

pub same : (p : Program) (n k at other : ℕ) → (at == other) ≡ true → climbs_to p (n - k) at other ≡ true
same p n k at other e = found p (n - k) at other e

-- after the last step
pub at_end : (p : Program) (n k at other : ℕ) → n ≤ k → climbs_to p (n - k) at other ≡ (at == other)
unfolding climbs_to
at_end p n k at other h =
    let none : n - k ≡ 0 = omega arith in
    ap (λ m. climbs_to p m at other) none
