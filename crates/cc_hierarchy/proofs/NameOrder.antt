-- The order of names by their units.
use Rattle.std.proofs.Common.{◌≡◌, ◌≢◌, ℕ, true, false, List, refl, ap, subst, sym, ◌∙◌}
use Rattle.std.specs.Cmp.{IsStrictWeakOrder}
use Rattle.std.specs.Cmp.Lexicographic.{slice_cmp}
use Rattle.std.specs.Ordering.{nat_cmp, is_lt, is_eq, ordering_reverse}
use Rattle.std.specs.declared.cmp.Ordering.{Ordering}
use Rattle.std.specs.declared.cmp.Ordering.TheVariants.{Less, Equal, Greater}
use Rattle.std.proofs.lemmas.Cmp.{nat_list_cmp_total, tied_itself}
use Rattle.std.proofs.lemmas.List.Sorted.{ranks_by}
use Rattle.std.proofs.lemmas.Map.Lookups.{exact_bytes}
use Rattle.cc_hierarchy.specs.Indexes.{comes_before}

pub is_less : (o : Ordering) → is_lt o ≡ true → o ≡ Less
is_less Less e = refl
is_less Equal e = absurd cc
is_less Greater e = absurd cc

pub is_equal : (o : Ordering) → is_eq o ≡ true → o ≡ Equal
is_equal Less e = absurd cc
is_equal Equal e = refl
is_equal Greater e = absurd cc

pub same_ties : (a b : List ℕ) → a ≡ b → slice_cmp nat_cmp a b ≡ Equal
same_ties a b e = subst (λ c. slice_cmp nat_cmp a c ≡ Equal) e (tied_itself nat_list_cmp_total a)

pub not_less_itself : (a b : List ℕ) → a ≡ b → is_lt (slice_cmp nat_cmp a b) ≡ false
not_less_itself a b e = ap is_lt (same_ties a b e)

pub no_less_itself : (a b : List ℕ) → a ≡ b → is_lt (slice_cmp nat_cmp a b) ≢ true
no_less_itself a b e less = let both : false ≡ true = sym (not_less_itself a b e) ∙ less in cc

pub weak_order : (name_of : ℕ → List ℕ) → IsStrictWeakOrder (comes_before name_of)
weak_order name_of = ranks_by nat_list_cmp_total name_of

-- neither comes before the other
pub neither : (a b : List ℕ) → is_lt (slice_cmp nat_cmp a b) ≡ false → is_lt (slice_cmp nat_cmp b a) ≡ false → a ≡ b
neither a b ab ba = from (slice_cmp nat_cmp a b) refl
  where
    from : (o : Ordering) → slice_cmp nat_cmp a b ≡ o → a ≡ b
    from Less is = absurd (let both : true ≡ false = ap is_lt (sym is) ∙ ab in cc)
    from Equal is = exact_bytes a b is
    from Greater is =
        let back : slice_cmp nat_cmp b a ≡ Less = nat_list_cmp_total.antisymm b a ∙ ap ordering_reverse is in
        absurd (let both : true ≡ false = ap is_lt (sym back) ∙ ba in cc)

-- what doesn't come behind a name that comes before another
pub before_too : (a b name : List ℕ) → is_lt (slice_cmp nat_cmp a name) ≡ true → is_lt (slice_cmp nat_cmp a b) ≡ false → is_lt (slice_cmp nat_cmp b name) ≡ true
before_too a b name less not_less = from (slice_cmp nat_cmp b name) refl
  where
    clash : slice_cmp nat_cmp a b ≡ Less → ⊥
    clash is = let both : true ≡ false = ap is_lt (sym is) ∙ not_less in cc

    from : (o : Ordering) → slice_cmp nat_cmp b name ≡ o → is_lt (slice_cmp nat_cmp b name) ≡ true
    from Less is = ap is_lt is
    from Equal is = absurd (clash (subst (λ c. slice_cmp nat_cmp a c ≡ Less) (sym (exact_bytes b name is)) (is_less (slice_cmp nat_cmp a name) less)))
    from Greater is =
        let back : slice_cmp nat_cmp name b ≡ Less = nat_list_cmp_total.antisymm name b ∙ ap ordering_reverse is in
        absurd (clash (nat_list_cmp_total.trans a name b (is_less (slice_cmp nat_cmp a name) less) back))
