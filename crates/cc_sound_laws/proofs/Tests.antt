-- What tests tell that are true or false.
use Rattle.std.proofs.Common.{◌≡◌, ◌⊎◌, inl, inr, ℕ, ◌==◌, ◌||◌, ◌&&◌, not, Bool, true, false, refl}
use Rattle.cc_meaning_typing.proofs.Tree.{test_eq}

pub same_true : (a b : ℕ) → (a == b) ≡ true → a ≡ b
same_true a b e = elim (test_eq a b) [ inl t ↦ t.1 | inr t ↦ absurd (let f = t.0 in cc) ]

pub same_false : (a b : ℕ) → (a == b) ≡ false → a ≡ b → ⊥
same_false a b e q = elim (test_eq a b) [ inl t ↦ (let f = t.0 in cc) | inr t ↦ t.1 q ]

pub either : (a b : Bool) → (a || b) ≡ true → (a ≡ true) ⊎ (b ≡ true)
either true b e = inl refl
either false b e = inr e

pub both_true : (a b : Bool) → (a && b) ≡ true → (a ≡ true) × (b ≡ true)
both_true true b e = (refl, e)
both_true false b e = absurd (cc)

pub not_true : (a : Bool) → not a ≡ true → a ≡ false
not_true false e = refl
not_true true e = absurd (cc)
