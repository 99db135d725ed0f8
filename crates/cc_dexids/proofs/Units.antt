-- Pairs of UTF-16 and descriptors, unit by unit.
use Rattle.std.proofs.Common.{◌≡◌, ◌≢◌, ℕ, ◌+◌, ◌-◌, ◌<◌, ◌≤◌, Bool, true, false, not, ◌&&◌, cond, eqb, nat_le, List, length, get_or, drop, refl, ap, ◌∙◌, arith}
use mathlib.Core.Bool.{beq}
use Rattle.std.specs.List.{list_all}
use Rattle.std.proofs.lemmas.List.{drop_more, at_drop_all}
use Rattle.std.proofs.lemmas.Bool.Decides.{nat_tests}
use Rattle.cc_meaning_dex.specs.Descriptors.{is_high, is_low, paired_after, is_paired, is_name_unit, name_of, is_class_descriptor, dims_of}

-- ---- pairs

pub paired_unit : (begun ends : Bool) (rest : Bool) → not (beq begun ends) ≡ false → (cond ends begun (not begun) && rest) ≡ rest
paired_unit true true rest e = refl
paired_unit false false rest e = refl
paired_unit true false rest e = absurd (cc)
paired_unit false true rest e = absurd (cc)

pub half_unit : (begun ends : Bool) (rest : Bool) → not (beq begun ends) ≡ true → (cond ends begun (not begun) && rest) ≡ false
half_unit true true rest e = absurd (cc)
half_unit false false rest e = absurd (cc)
half_unit true false rest e = refl
half_unit false true rest e = refl

pub paired_more : (units : List ℕ) (i : ℕ) (begun : Bool) → i < length units → not (beq begun (is_low (get_or units i 0))) ≡ false →
    paired_after begun (drop i units) ≡ paired_after (is_high (get_or units i 0)) (drop (i + 1) units)
unfolding paired_after
paired_more units i begun within same =
    ap (paired_after begun) (drop_more units i 0 within) ∙ paired_unit begun (is_low (get_or units i 0)) (paired_after (is_high (get_or units i 0)) (drop (i + 1) units)) same

pub not_paired : (units : List ℕ) (i : ℕ) (begun : Bool) → i < length units → not (beq begun (is_low (get_or units i 0))) ≡ true →
    paired_after begun (drop i units) ≡ false
unfolding paired_after
not_paired units i begun within other =
    ap (paired_after begun) (drop_more units i 0 within) ∙ half_unit begun (is_low (get_or units i 0)) (paired_after (is_high (get_or units i 0)) (drop (i + 1) units)) other

pub paired_all : (units : List ℕ) (n : ℕ) (begun : Bool) → length units ≤ n → paired_after begun (drop n units) ≡ not begun
unfolding paired_after
paired_all units n begun all = at_drop_all (paired_after begun) units n all

-- ---- dimensions

pub dims_more : (units : List ℕ) (i : ℕ) → i < length units → get_or units i 0 ≡ 91 → dims_of (drop i units) ≡ dims_of (drop (i + 1) units) + 1
unfolding dims_of
dims_more units i within is =
    ap dims_of (drop_more units i 0 within) ∙ ap (λ u. cond (eqb u 91) (dims_of (drop (i + 1) units) + 1) 0) is

pub dims_end : (units : List ℕ) (i : ℕ) → i < length units → get_or units i 0 ≢ 91 → dims_of (drop i units) ≡ 0
unfolding dims_of
dims_end units i within other =
    let test : eqb (get_or units i 0) 91 ≡ false = grind (arith, nat_tests) in
    ap dims_of (drop_more units i 0 within) ∙ ap (λ b. cond b (dims_of (drop (i + 1) units) + 1) 0) test

pub dims_all : (units : List ℕ) (n : ℕ) → length units ≤ n → dims_of (drop n units) ≡ 0
unfolding dims_of
dims_all units n all = at_drop_all dims_of units n all

-- ---- descriptors of classes

-- units that begin with `L` and end with `;` are one just if their name is a class's
pub descriptor_by_name : (units : List ℕ) → 3 ≤ length units → get_or units 0 0 ≡ 76 → get_or units (length units - 1) 0 ≡ 59 →
    is_class_descriptor units ≡ (list_all is_name_unit (name_of units) && is_paired (name_of units))
unfolding is_class_descriptor
descriptor_by_name units some first last =
    let a : nat_le 3 (length units) ≡ true = grind (arith, nat_tests) in
    rw (a, first, last) refl
