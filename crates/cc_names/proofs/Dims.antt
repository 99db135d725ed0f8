-- How many `[` stand in front, unit by unit.
use Rattle.std.proofs.Common.{◌≡◌, ◌≢◌, ℕ, ◌+◌, ◌<◌, ◌≤◌, false, cond, eqb, List, length, get_or, drop, ap, ◌∙◌, arith}
use Rattle.std.proofs.lemmas.List.{drop_more, at_drop_all}
use Rattle.std.proofs.lemmas.Bool.Decides.{nat_tests}
use Rattle.cc_meaning_dex.specs.Descriptors.{dims_of}

pub dims_more : (units : List ℕ) (i : ℕ) → i < length units → get_or units i 0 ≡ 91 → dims_of (drop i units) ≡ dims_of (drop (i + 1) units) + 1
unfolding dims_of
dims_more units i within is =
    ap dims_of (drop_more units i 0 within) ∙ ap (λ u. cond (eqb u 91) (dims_of (drop (i + 1) units) + 1) 0) is

pub dims_end : (units : List ℕ) (i : ℕ) → i < length units → get_or units i 0 ≢ 91 → dims_of (drop i units) ≡ 0
unfolding dims_of
dims_end units i within other =
    let test : eqb (get_or units i 0) 91 ≡ false = grind (arith, nat_tests) in
    ap dims_of (drop_more units i 0 within) ∙ ap (λ b. cond b (dims_of (drop (i + 1) units) + 1) 0) test

pub dims_all : (units : List ℕ) (n : ℕ) → length units ≤ n → dims_of (drop n units) ≡ 0
unfolding dims_of
dims_all units n all = at_drop_all dims_of units n all
