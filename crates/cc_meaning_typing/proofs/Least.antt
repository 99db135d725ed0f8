-- The first type above one that another rises to is the least above both.
use Rattle.std.proofs.Common.{◌≡◌, ◌≢◌, ◌⊎◌, inl, inr, ℕ, zero, suc, ◌+◌, ◌≤◌, Bool, true, false, length, Option, Some, None, refl, sym, ap, ◌∙◌, subst, arith}
use Rattle.cc_meaning.specs.declared.program.Base.{Base}
use Rattle.cc_meaning.specs.declared.program.Base.TheVariants as base
use Rattle.cc_meaning.specs.declared.program.DexType.{DexType}
use Rattle.cc_meaning.specs.declared.program.Program.{Program}
use Rattle.cc_meaning_typing.specs.Hierarchy.{on_value, IsHierarchy}
use Rattle.cc_meaning_typing.specs.Types.{typed, next_above, is_same_base, is_same_type, rises_to, reach, first_shared, least_above}
use Rattle.cc_meaning_typing.specs.Heights.{rank_in, rank}
use Rattle.cc_meaning_typing.proofs.Tree.{test_eq, Rises, here, on, object_inside, depth_bound, next_rank, next_none, ups, to_object}

-- ---- equal types

abbrev Tested : Bool → {A : Type 0} → A → A → Type 0
Tested test a b = ((test ≡ true) × (a ≡ b)) ⊎ ((test ≡ false) × (a ≢ b))

pub test_base : (a b : Base) → Tested (is_same_base a b) a b
unfolding is_same_base
test_base (base.Class a) (base.Class b) = elim (test_eq a b) [ inl t ↦ inl (t.0, ap base.Class t.1) | inr t ↦ inr (t.0, λ e. let f : a ≡ b = cc in t.1 f) ]
test_base base.Boolean base.Boolean = inl (refl, refl)
test_base base.Byte base.Byte = inl (refl, refl)
test_base base.Short base.Short = inl (refl, refl)
test_base base.Char base.Char = inl (refl, refl)
test_base base.Int base.Int = inl (refl, refl)
test_base base.Long base.Long = inl (refl, refl)
test_base a b = inr (refl, λ e. cc)

pub test_type : (a b : DexType) → Tested (is_same_type a b) a b
unfolding is_same_type
test_type a b = elim (test_eq a.dims b.dims) [
  | inl t ↦ elim (test_base a.base b.base) [
    | inl u ↦ inl (rw (t.0, u.0) refl, let d = t.1 in let c = u.1 in same_parts a b d c)
    | inr u ↦ inr (rw (t.0, u.0) refl, λ e. u.1 (ap (λ (z : DexType). z.base) e))
  ]
  | inr t ↦ inr (rw t.0 refl, λ e. t.1 (ap (λ (z : DexType). z.dims) e))
]
  where
    same_parts : (a b : DexType) → a.dims ≡ b.dims → a.base ≡ b.base → a ≡ b
    same_parts a b d c = ap (λ n. typed n a.base) d ∙ ap (λ z. typed b.dims z) c

module _ (program : Program) (hierarchy : IsHierarchy program) where
  -- ---- how far up

  rank_bound_in : (dims : ℕ) (b : Base) → rank_in program dims b ≤ dims + length program.classes
  unfolding rank_in
  rank_bound_in dims (base.Class class) = let d = depth_bound program hierarchy class in omega arith
  rank_bound_in zero base.Boolean = let k = object_inside program hierarchy in omega arith
  rank_bound_in zero base.Byte = let k = object_inside program hierarchy in omega arith
  rank_bound_in zero base.Short = let k = object_inside program hierarchy in omega arith
  rank_bound_in zero base.Char = let k = object_inside program hierarchy in omega arith
  rank_bound_in zero base.Int = let k = object_inside program hierarchy in omega arith
  rank_bound_in zero base.Long = let k = object_inside program hierarchy in omega arith
  rank_bound_in (suc dims) base.Boolean = omega arith
  rank_bound_in (suc dims) base.Byte = omega arith
  rank_bound_in (suc dims) base.Short = omega arith
  rank_bound_in (suc dims) base.Char = omega arith
  rank_bound_in (suc dims) base.Int = omega arith
  rank_bound_in (suc dims) base.Long = omega arith

  pub rank_bound : (t : DexType) → rank program t ≤ t.dims + length program.classes
  unfolding rank
  rank_bound t = rank_bound_in t.dims t.base

  rank_reach : (t : DexType) → rank program t ≤ reach program t
  unfolding reach
  rank_reach t = let h = rank_bound t in omega arith

  -- ---- the test

  rises_by : (a b : DexType) (s : Option DexType) (go : DexType → Bool) → next_above program a ≡ s → on_value s false go ≡ true → ((u : DexType) → go u ≡ true → Rises program u b) → Rises program a b
  unfolding on_value
  rises_by a b None go e h ih = cc
  rises_by a b (Some u) go e h ih = on e (ih u h)

  rises_yes : (n : ℕ) (a b : DexType) → rises_to program n a b ≡ true → Rises program a b
  unfolding rises_to
  rises_yes zero a b e = elim (test_type a b) [
    | inl t ↦ subst (λ z. Rises program a z) t.1 here
    | inr t ↦ let f = t.0 in cc
  ]
  rises_yes (suc n) a b e = elim (test_type a b) [
    | inl t ↦ subst (λ z. Rises program a z) t.1 here
    | inr t ↦ let e2 = rw t.0 at e in rises_by a b (next_above program a) (λ u. rises_to program n u b) refl e2 (λ u. rises_yes n u b)
  ]

  rises_same : (n : ℕ) (a : DexType) → rises_to program n a a ≡ true
  unfolding rises_to
  rises_same zero a = elim (test_type a a) [ inl t ↦ t.0 | inr t ↦ absurd (t.1 refl) ]
  rises_same (suc n) a = elim (test_type a a) [ inl t ↦ rw t.0 refl | inr t ↦ absurd (t.1 refl) ]

  rises_more : (n : ℕ) {a b : DexType} → Rises program a b → rank program a ≤ n → rises_to program n a b ≡ true
  unfolding rises_to on_value
  rises_more n (here {type = a}) l = rises_same n a
  rises_more zero (on {type = a} {above = s} e h) l = let r = next_rank program hierarchy a s e in absurd (omega arith)
  rises_more (suc n) {b = b} (on {type = a} {above = s} e h) l = elim (test_type a b) [
    | inl t ↦ rw t.0 refl
    | inr t ↦ let r = next_rank program hierarchy a s e in rw (t.0, e) (rises_more n h (omega arith))
  ]

  pub TestRises : DexType → DexType → Type 0
  TestRises a b = ((rises_to program (reach program a) a b ≡ true) × Rises program a b) ⊎ ((rises_to program (reach program a) a b ≡ false) × (Rises program a b → ⊥))

  test_by : (a b : DexType) (t : Bool) → rises_to program (reach program a) a b ≡ t → TestRises a b
  unfolding TestRises
  test_by a b true e = inl (e, rises_yes (reach program a) a b e)
  test_by a b false e = inr (e, λ h. let x = rises_more (reach program a) h (rank_reach a) in cc)

  pub test_rises : (a b : DexType) → TestRises a b
  test_rises a b = test_by a b (rises_to program (reach program a) a b) refl

  -- ---- the least

  pub record IsLeast (a b r : DexType) : Type 0 where
    pub left : Rises program a r
    pub right : Rises program b r
    pub least : (c : DexType) → Rises program a c → Rises program b c → Rises program r c

  first_by : (a b : DexType) (s : Option DexType) (go : DexType → DexType) → (Rises program b a → ⊥) → next_above program a ≡ s → ((u : DexType) → next_above program a ≡ Some u → IsLeast u b (go u)) → IsLeast a b (on_value s a go)
  unfolding on_value
  first_by a b None go not e ih = absurd (not (subst (λ z. Rises program b z) (sym (next_none program hierarchy a e)) (to_object program hierarchy b)))
  first_by a b (Some u) go not e ih =
      let x = ih u e in
      record {
        left = on e x.left;
        right = x.right;
        least = λ c p q. elim (ups program hierarchy p) [
          | inl f ↦ absurd (not (subst (λ z. Rises program b z) (sym f) q))
          | inr y ↦ x.least c (subst (λ z. Rises program z c) (let g = y.1 in let k : y.0 ≡ u = cc in k) y.2) q
        ];
      }

  here_least : (a b : DexType) → Rises program b a → IsLeast a b a
  here_least a b h = record { left = here; right = h; least = λ c p q. p }

  first_least : (n : ℕ) (a b : DexType) → rank program a ≤ n → IsLeast a b (first_shared program n a b)
  unfolding first_shared TestRises
  first_least zero a b l = first_zero a b (next_above program a) refl l
    where
      first_zero : (a b : DexType) (s : Option DexType) → next_above program a ≡ s → rank program a ≤ zero → IsLeast a b a
      first_zero a b None e l = here_least a b (subst (λ z. Rises program b z) (sym (next_none program hierarchy a e)) (to_object program hierarchy b))
      first_zero a b (Some u) e l = let r = next_rank program hierarchy a u e in absurd (omega arith)
  first_least (suc n) a b l = elim (test_rises b a) [
    | inl t ↦ rw t.0 (here_least a b t.1)
    | inr t ↦ rw t.0 (first_by a b (next_above program a) (λ u. first_shared program n u b) t.1 refl (λ u e. let r = next_rank program hierarchy a u e in first_least n u b (omega arith)))
  ]

  pub least : (a b : DexType) → IsLeast a b (least_above program a b)
  unfolding least_above
  least a b = first_least (reach program a) a b (rank_reach a)
