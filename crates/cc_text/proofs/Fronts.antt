-- What stands in front, by its bytes.
use Rattle.std.proofs.Common.{◌≡◌, ◌≢◌, ℕ, ◌+◌, ◌-◌, ◌*◌, ◌<◌, ◌≤◌, ◌⊎◌, true, false, List, [], ◌∷◌, length, drop, get_or, Some, None, Ok, Err, refl, arith}
use Rattle.std.proofs.lemmas.Bool.Decides.{nat_tests}
use Rattle.cc_meaning.specs.declared.fault.TextFault.TheVariants.{CutOff, BadForm}
use Rattle.cc_meaning_dex.specs.Mutf8.{front_of, front_of_two, front_of_three, goes_on, begins_three}

-- forms of two bytes
pub two_none : (at a : ℕ) (bs : List ℕ) → length bs ≡ 0 → a ≡ 193 → front_of_two at a bs ≡ Err (BadForm at)
unfolding front_of_two
two_none at a [] h e = grind (arith, nat_tests)
two_none at a (b ∷ bs) h e = absurd (omega arith)

pub two_cut : (at a : ℕ) (bs : List ℕ) → length bs ≡ 0 → a ≢ 193 → front_of_two at a bs ≡ Err CutOff
unfolding front_of_two
two_cut at a [] h e = grind (arith, nat_tests)
two_cut at a (b ∷ bs) h e = absurd (omega arith)

pub two_stray : (at a : ℕ) (bs : List ℕ) → 0 < length bs → goes_on (get_or bs 0 0) ≡ false → front_of_two at a bs ≡ Err (BadForm at)
unfolding front_of_two
two_stray at a [] h e = absurd (omega arith)
two_stray at a (b ∷ bs) h e = rw e

pub two_unit : (at a u : ℕ) (bs : List ℕ) → 0 < length bs → goes_on (get_or bs 0 0) ≡ true → u ≡ (a - 192) * 64 + (get_or bs 0 0 - 128) → (u ≡ 0) ⊎ (128 ≤ u) →
    front_of_two at a bs ≡ Ok (Some (u, 2))
unfolding front_of_two
two_unit at a u [] h e k t = absurd (omega arith)
two_unit at a u (b ∷ bs) h e k t = rw (e, ← k) (grind (arith, nat_tests))

pub two_low : (at a u : ℕ) (bs : List ℕ) → 0 < length bs → goes_on (get_or bs 0 0) ≡ true → u ≡ (a - 192) * 64 + (get_or bs 0 0 - 128) → u ≢ 0 → u < 128 →
    front_of_two at a bs ≡ Err (BadForm at)
unfolding front_of_two
two_low at a u [] h e k n t = absurd (omega arith)
two_low at a u (b ∷ bs) h e k n t = rw (e, ← k) (grind (arith, nat_tests))

-- forms of three bytes
pub three_none : (at a : ℕ) (bs : List ℕ) → length bs ≡ 0 → front_of_three at a bs ≡ Err CutOff
unfolding front_of_three
three_none at a [] h = refl
three_none at a (b ∷ bs) h = absurd (omega arith)

pub three_stray : (at a : ℕ) (bs : List ℕ) → 0 < length bs → begins_three a (get_or bs 0 0) ≡ false → front_of_three at a bs ≡ Err (BadForm at)
unfolding front_of_three
three_stray at a [] h e = absurd (omega arith)
three_stray at a (b ∷ []) h e = rw e
three_stray at a (b ∷ c ∷ cs) h e = rw e

pub three_cut : (at a : ℕ) (bs : List ℕ) → length bs ≡ 1 → begins_three a (get_or bs 0 0) ≡ true → front_of_three at a bs ≡ Err CutOff
unfolding front_of_three
three_cut at a [] h e = absurd (omega arith)
three_cut at a (b ∷ []) h e = rw e
three_cut at a (b ∷ c ∷ cs) h e = absurd (omega arith)

pub three_bad_end : (at a : ℕ) (bs : List ℕ) → 1 < length bs → begins_three a (get_or bs 0 0) ≡ true → goes_on (get_or bs 1 0) ≡ false → front_of_three at a bs ≡ Err (BadForm at)
unfolding front_of_three
three_bad_end at a [] h e k = absurd (omega arith)
three_bad_end at a (b ∷ []) h e k = absurd (omega arith)
three_bad_end at a (b ∷ c ∷ cs) h e k = rw (e, k)

pub three_unit : (at a u : ℕ) (bs : List ℕ) → 1 < length bs → begins_three a (get_or bs 0 0) ≡ true → goes_on (get_or bs 1 0) ≡ true →
    u ≡ (a - 224) * 4096 + (get_or bs 0 0 - 128) * 64 + (get_or bs 1 0 - 128) → front_of_three at a bs ≡ Ok (Some (u, 3))
unfolding front_of_three
three_unit at a u [] h e k v = absurd (omega arith)
three_unit at a u (b ∷ []) h e k v = absurd (omega arith)
three_unit at a u (b ∷ c ∷ cs) h e k v = rw (e, k, ← v)

-- the first byte
pub front_none : (at : ℕ) (bs : List ℕ) → length bs ≡ 0 → front_of at bs ≡ Err CutOff
unfolding front_of
front_none at [] h = refl
front_none at (b ∷ bs) h = absurd (omega arith)

pub front_zero : (at a : ℕ) (bs : List ℕ) → 0 < length bs → get_or bs 0 0 ≡ a → a ≡ 0 → front_of at bs ≡ Ok None
unfolding front_of
front_zero at a [] s f h = absurd (omega arith)
front_zero at a (b ∷ bs) s f h = rw f (grind (arith, nat_tests))

pub front_one : (at a : ℕ) (bs : List ℕ) → 0 < length bs → get_or bs 0 0 ≡ a → 0 < a → a < 128 → front_of at bs ≡ Ok (Some (a, 1))
unfolding front_of
front_one at a [] s f h k = absurd (omega arith)
front_one at a (b ∷ bs) s f h k = rw f (grind (arith, nat_tests))

pub front_stray : (at a : ℕ) (bs : List ℕ) → 0 < length bs → get_or bs 0 0 ≡ a → 128 ≤ a → a < 192 → front_of at bs ≡ Err (BadForm at)
unfolding front_of
front_stray at a [] s f h k = absurd (omega arith)
front_stray at a (b ∷ bs) s f h k = rw f (grind (arith, nat_tests))

pub front_two : (at a : ℕ) (bs : List ℕ) → 0 < length bs → get_or bs 0 0 ≡ a → 192 ≤ a → a < 224 → front_of at bs ≡ front_of_two at a (drop 1 bs)
unfolding front_of
front_two at a [] s f h k = absurd (omega arith)
front_two at a (b ∷ bs) s f h k = rw f (grind (arith, nat_tests))

pub front_three : (at a : ℕ) (bs : List ℕ) → 0 < length bs → get_or bs 0 0 ≡ a → 224 ≤ a → a < 240 → front_of at bs ≡ front_of_three at a (drop 1 bs)
unfolding front_of
front_three at a [] s f h k = absurd (omega arith)
front_three at a (b ∷ bs) s f h k = rw f (grind (arith, nat_tests))

pub front_high : (at a : ℕ) (bs : List ℕ) → 0 < length bs → get_or bs 0 0 ≡ a → 240 ≤ a → front_of at bs ≡ Err (BadForm at)
unfolding front_of
front_high at a [] s f h = absurd (omega arith)
front_high at a (b ∷ bs) s f h = rw f (grind (arith, nat_tests))
