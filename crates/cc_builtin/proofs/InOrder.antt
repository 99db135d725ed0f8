-- Whether classes stand in the order of their names.
use Rattle.std.proofs.Common.{◌≡◌, ◌⊎◌, inl, inr, ℕ, ◌+◌, ◌-◌, ◌<◌, ◌≤◌, true, false, List, length, get_or, refl, ap, subst, sym, ◌∙◌, arith}
use Rattle.std.specs.Cmp.Lexicographic.{slice_cmp}
use Rattle.std.specs.Ordering.{nat_cmp, is_lt}
use Rattle.std.specs.declared.cmp.Ordering.{Ordering}
use Rattle.std.specs.declared.cmp.Ordering.TheVariants.{Less, Equal, Greater}
use Rattle.std.proofs.lemmas.Bool.{cases_lt}
use Rattle.std.proofs.lemmas.Cmp.{nat_list_cmp_total}
use Rattle.std.proofs.lemmas.List.{get_or_default}
use Rattle.cc_meaning.specs.declared.program.Class.{Class}
use Rattle.cc_meaning.specs.Order.{IsBefore, IsRisingByName}

-- the first n classes rise
abbrev pub RisesTo : List Class → ℕ → Type 0
RisesTo classes n = (i j : ℕ) (d : Class) → i < j → j < n → IsBefore (get_or classes i d).name (get_or classes j d).name

pub rises_at_first : (classes : List Class) → RisesTo classes 1
rises_at_first classes i j d below within = absurd (omega arith)

pub rises_more : (classes : List Class) (n : ℕ) → 1 ≤ n → RisesTo classes n →
    ((d : Class) → IsBefore (get_or classes (n - 1) d).name (get_or classes n d).name) → RisesTo classes (n + 1)
rises_more classes n some rises next i j d below within = from (cases_lt j n)
  where
    last : (n - 1 ≤ i) ⊎ (i < n - 1) → j ≡ n → IsBefore (get_or classes i d).name (get_or classes j d).name
    last (inl same) at_end =
        let e : n - 1 ≡ i = omega arith in
        subst (λ k. IsBefore (get_or classes i d).name (get_or classes k d).name) (sym at_end)
        (subst (λ k. IsBefore (get_or classes k d).name (get_or classes n d).name) e (next d))
    last (inr before) at_end =
        subst (λ k. IsBefore (get_or classes i d).name (get_or classes k d).name) (sym at_end)
        (nat_list_cmp_total.trans (get_or classes i d).name (get_or classes (n - 1) d).name (get_or classes n d).name (rises i (n - 1) d before (omega arith)) (next d))

    turn : (i < n - 1) ⊎ (n - 1 ≤ i) → (n - 1 ≤ i) ⊎ (i < n - 1)
    turn (inl a) = inr a
    turn (inr a) = inl a

    from : (j < n) ⊎ (n ≤ j) → IsBefore (get_or classes i d).name (get_or classes j d).name
    from (inl inside) = rises i j d below inside
    from (inr at_end) = last (turn (cases_lt i (n - 1))) (omega arith)

is_less : (o : Ordering) → is_lt o ≡ true → o ≡ Less
is_less Less e = refl
is_less Equal e = absurd cc
is_less Greater e = absurd cc

pub next_rises : (classes : List Class) (n : ℕ) (x y : Class) (o : Ordering) → 1 ≤ n → n < length classes → RisesTo classes n →
    o ≡ slice_cmp nat_cmp (get_or classes (n - 1) x).name (get_or classes n y).name → is_lt o ≡ true → RisesTo classes (n + 1)
next_rises classes n x y o some within rises compared holds =
    rises_more classes n some rises (λ d.
    let less : IsBefore (get_or classes (n - 1) x).name (get_or classes n y).name = sym compared ∙ is_less o holds in
    rw (get_or_default classes (n - 1) d x (omega arith), get_or_default classes n d y within) less)

pub all_rise : (classes : List Class) (n : ℕ) → length classes ≤ n → RisesTo classes n → IsRisingByName classes
all_rise classes n whole rises i j d below within = rises i j d below (omega (arith, whole, within))

-- one that isn't less than the next one
pub not_rising : (classes : List Class) (n : ℕ) (x y : Class) (o : Ordering) → 1 ≤ n → n < length classes →
    o ≡ slice_cmp nat_cmp (get_or classes (n - 1) x).name (get_or classes n y).name → is_lt o ≡ false → IsRisingByName classes → ⊥
not_rising classes n x y o some within compared fails rise =
    let before = rise (n - 1) n x (omega arith) within in
    let less : slice_cmp nat_cmp (get_or classes (n - 1) x).name (get_or classes n y).name ≡ Less = rw (get_or_default classes n y x within) before in
    absurd (let e : is_lt Less ≡ false = ap is_lt (sym (compared ∙ less)) ∙ fails in cc)
