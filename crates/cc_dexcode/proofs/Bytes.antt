-- Numbers of so many bytes, and what range they have.
use Rattle.std.proofs.Common.{◌≡◌, ℕ, zero, suc, ◌+◌, ◌*◌, ◌-◌, ◌<◌, ◌≤◌, ◌^◌, List, length, get_or, take, drop, refl, ap, ◌∙◌, arith, lit≤, pos, ◌-ℤ◌, Bool, true, false, cond, nat_lt}
use Rattle.std.proofs.lemmas.Bool.Decides.{nat_tests}
use Rattle.std.proofs.lemmas.Int.{ints}
use Rattle.cc_meaning_dex.specs.Leb128.{FitsI32}
use Rattle.std.proofs.lemmas.List.{get_or-drop, take_all, length-drop}
use Rattle.byteorder.specs.Endian.{little_from, little_number}
use Rattle.cc_meaning_dex.specs.Values.{little_at, sign_extended}

pub little_same : (file : List ℕ) (at i n : ℕ) → little_from i n (drop at file) ≡ little_at file (at + i) n
unfolding little_at
little_same file at i zero = refl
little_same file at i (suc n) =
    let first : get_or (drop at file) i 0 ≡ get_or file (at + i) 0 = get_or-drop at file i 0 in
    let rest : little_from (suc i) n (drop at file) ≡ little_at file (at + i + 1) n = little_same file at (suc i) n ∙ ap (λ k. little_at file k n) (omega arith) in
    ap (λ b. b + 256 * little_from (suc i) n (drop at file)) first ∙ ap (λ r. get_or file (at + i) 0 + 256 * r) rest

-- what is read of the bytes from a place on is what stands there
pub little_read : (file : List ℕ) (at n : ℕ) → little_number n (take (length file - at) (drop at file)) ≡ little_at file at n
little_read file at n =
    let all : take (length file - at) (drop at file) ≡ drop at file = take_all (length file - at) (drop at file) (omega (arith, length-drop at file)) in
    ap (little_number n) all ∙ little_same file at 0 n ∙ ap (λ k. little_at file k n) (omega arith)

pub little_below : (file : List ℕ) (at n : ℕ) → ((i : ℕ) → get_or file i 0 < 256) → little_at file at n < 256 ^ n
unfolding little_at
little_below file at zero bytes = omega arith
little_below file at (suc n) bytes = omega (arith, bytes at, little_below file (at + 1) n bytes)

pub power_four : (n : ℕ) → n ≤ 4 → 256 ^ n ≤ 2 ^ 32
power_four zero few = lit≤ tt
power_four (suc zero) few = lit≤ tt
power_four (suc (suc zero)) few = lit≤ tt
power_four (suc (suc (suc zero))) few = lit≤ tt
power_four (suc (suc (suc (suc zero)))) few = lit≤ tt
power_four (suc (suc (suc (suc (suc n))))) few = absurd (omega (arith, few))

-- a number below `all` of which those from `half` on are negative
chosen : (number half all : ℕ) (test : Bool) → nat_lt number half ≡ test → half + half ≡ all → all ≤ 2 ^ 32 → number < all → FitsI32 (cond test (pos number) (pos number -ℤ pos all))
chosen number half all true t double most below = let less : number < half = grind (arith, nat_tests) in (omega (arith, ints), omega (arith, ints))
chosen number half all false t double most below = let more : half ≤ number = grind (arith, nat_tests) in (omega (arith, ints), omega (arith, ints))

-- a number of one to four bytes is one of 32 bits
pub word_range : (size number : ℕ) → 1 ≤ size → size ≤ 4 → number < 256 ^ size → FitsI32 (sign_extended size number)
word_range zero number some few below = absurd (omega (arith, some))
word_range (suc zero) number some few below = chosen number 128 256 (nat_lt number 128) refl refl (lit≤ tt) below
word_range (suc (suc zero)) number some few below = chosen number 32768 65536 (nat_lt number 32768) refl refl (lit≤ tt) below
word_range (suc (suc (suc zero))) number some few below = chosen number 8388608 16777216 (nat_lt number 8388608) refl refl (lit≤ tt) below
word_range (suc (suc (suc (suc zero)))) number some few below = chosen number 2147483648 4294967296 (nat_lt number 2147483648) refl refl (lit≤ tt) below
word_range (suc (suc (suc (suc (suc n))))) number some few below = absurd (omega (arith, few))
