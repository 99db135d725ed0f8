-- Signed numbers in LEB128 are spelled where they are written.
use Rattle.std.proofs.Common.{◌≡◌, ℕ, zero, suc, ◌+◌, ◌-◌, ◌*◌, ◌/◌, ◌%◌, ◌^◌, ◌<◌, ◌≤◌, ◌⊎◌, inl, inr, Bool, true, false, nat_lt, nat_le, List, [], ◌∷◌, length, refl, sym, ap, subst, ◌∙◌, arith, ℤ, pos}
use Rattle.std.specs.Prelude.{if◌then◌else◌, neg_ℤ, ◌+ℤ◌, ◌*ℤ◌}
use Rattle.std.proofs.lemmas.Bool.{cases_lt, lt-ltb, le-ltb, le-leb, lt-leb}
use Rattle.std.proofs.lemmas.Int.{ints}
use Rattle.std.proofs.Math.Nat.{pow-suc}
use Rattle.cc_meaning_dex.specs.Leb128.{FitsI32, IsLeb, signed_group, signed_leb_value}
use Rattle.cc_meaning_builder.specs.Forms.{sleb_form, sleb_within}
use Rattle.cc_meaning_builder.specs.Laws.{signed, WrittenSleb}
use Rattle.cc_builder_laws.specs.Standing.{SlebLength}
use Rattle.cc_builder_laws.proofs.Lebs.{leb_more, leb_written, slice_written}

-- the test of a last group
abbrev is_last : Bool → ℕ → ℕ → Bool
is_last negative more n = if negative then nat_le (128 ^ (more + 2) - 64) n else nat_lt n 64

sleb_last : (more n : ℕ) (negative : Bool) → is_last negative more n ≡ true → sleb_within (suc more) n negative ≡ n % 128 ∷ []
unfolding sleb_within
sleb_last more n negative last = rw last refl

sleb_next : (more n : ℕ) (negative : Bool) → is_last negative more n ≡ false → sleb_within (suc more) n negative ≡ (128 + n % 128) ∷ sleb_within more (n / 128) negative
unfolding sleb_within
sleb_next more n negative next = rw next refl

-- ---- how long, and of which form

record IsSleb (more : ℕ) (bytes : List ℕ) : Type 0 where
  some : 0 < length bytes
  few : length bytes ≤ suc more
  form : IsLeb bytes

one_group : (more n : ℕ) → IsSleb more (n % 128 ∷ [])
one_group more n = record { some = omega arith; few = omega arith; form = omega arith }

sleb_is : (more n : ℕ) (negative : Bool) → IsSleb more (sleb_within more n negative)
unfolding sleb_within
sleb_is zero n negative = one_group zero n
sleb_is (suc more) n negative = from (sleb_is more (n / 128) negative) (is_last negative more n) refl
  where
    from : IsSleb more (sleb_within more (n / 128) negative) → (last : Bool) → is_last negative more n ≡ last → IsSleb (suc more) (sleb_within (suc more) n negative)
    from rest true last = subst (IsSleb (suc more)) (sym (sleb_last more n negative last)) (one_group (suc more) n)
    from rest false next =
        subst (IsSleb (suc more)) (sym (sleb_next more n negative next)) (record {
          some = omega arith;
          few = omega (arith, rest.few);
          form = leb_more (128 + n % 128) (sleb_within more (n / 128) negative) (omega arith) rest.form;
        })

-- ---- what is spelled

group_low : (g : ℕ) → g < 64 → signed_group g ≡ pos g
unfolding signed_group
group_low g low = rw (lt-ltb g 64 low) refl

group_high : (g : ℕ) → 64 ≤ g → signed_group g ≡ neg_ℤ (pos (128 - g))
unfolding signed_group
group_high g high = rw (le-ltb g 64 high) refl

value_one : (b : ℕ) → signed_leb_value (b ∷ []) ≡ signed_group (b % 128)
unfolding signed_leb_value
value_one b = refl

value_more : (b : ℕ) (bs : List ℕ) → 0 < length bs → signed_leb_value (b ∷ bs) ≡ pos (b % 128) +ℤ pos 128 *ℤ signed_leb_value bs
unfolding signed_leb_value
value_more b [] some = absurd (omega (arith, some))
value_more b (c ∷ cs) some = refl

-- one group of a number below 64
low_value : (n : ℕ) → n < 64 → signed_leb_value (n % 128 ∷ []) ≡ pos n
low_value n low =
    let same : n % 128 % 128 ≡ n = omega arith in
    value_one (n % 128) ∙ ap signed_group same ∙ group_low n low

-- one group of a number of at most 64 below zero
high_value : (n m q : ℕ) → n + m ≡ 128 * q → m ≤ 64 → signed_leb_value (n % 128 ∷ []) ≡ neg_ℤ (pos m)
high_value n zero q is few =
    let same : n % 128 % 128 ≡ 0 = omega (arith, is) in
    value_one (n % 128) ∙ ap signed_group same ∙ group_low 0 (omega arith)
high_value n (suc m) q is few =
    let same : n % 128 % 128 ≡ 128 - suc m = omega (arith, is, few) in
    let back : 128 - (128 - suc m) ≡ suc m = omega (arith, few) in
    value_one (n % 128) ∙ ap signed_group same ∙ group_high (128 - suc m) (omega (arith, few)) ∙ ap (λ k. neg_ℤ (pos k)) back

-- a group before others
front_low : (g k : ℕ) → pos g +ℤ pos 128 *ℤ pos k ≡ pos (g + 128 * k)
front_low g k = omega (arith, ints)

front_high : (g k m : ℕ) → g + m ≡ 128 * k → pos g +ℤ pos 128 *ℤ neg_ℤ (pos k) ≡ neg_ℤ (pos m)
front_high g k m is = omega (arith, ints, is)

-- a group that isn't the last, by what the others spell
next_value : (more n : ℕ) (negative : Bool) (rest value : ℤ) → signed_leb_value (sleb_within more (n / 128) negative) ≡ rest → pos (n % 128) +ℤ pos 128 *ℤ rest ≡ value →
    signed_leb_value ((128 + n % 128) ∷ sleb_within more (n / 128) negative) ≡ value
next_value more n negative rest value is front =
    let group : (128 + n % 128) % 128 ≡ n % 128 = omega arith in
    value_more (128 + n % 128) (sleb_within more (n / 128) negative) (sleb_is more (n / 128) negative).some
    ∙ ap (λ g. pos g +ℤ pos 128 *ℤ signed_leb_value (sleb_within more (n / 128) negative)) group
    ∙ ap (λ others. pos (n % 128) +ℤ pos 128 *ℤ others) is
    ∙ front

positive_value : (more n : ℕ) → n < 64 * 128 ^ more → signed_leb_value (sleb_within more n false) ≡ pos n
unfolding sleb_within
positive_value zero n low = low_value n (omega (arith, low))
positive_value (suc more) n low = from (positive_value more (n / 128) (omega (arith, low, pow-suc 128 more))) (cases_lt n 64)
  where
    whole : n % 128 + 128 * (n / 128) ≡ n
    whole = omega arith

    from : signed_leb_value (sleb_within more (n / 128) false) ≡ pos (n / 128) → (n < 64) ⊎ (64 ≤ n) → signed_leb_value (sleb_within (suc more) n false) ≡ pos n
    from rest (inl small) = ap signed_leb_value (sleb_last more n false (lt-ltb n 64 small)) ∙ low_value n small
    from rest (inr large) =
        ap signed_leb_value (sleb_next more n false (le-ltb n 64 large))
        ∙ next_value more n false (pos (n / 128)) (pos n) rest (front_low (n % 128) (n / 128) ∙ ap pos whole)

negative_value : (more n m : ℕ) → n + m ≡ 128 ^ suc more → m ≤ 64 * 128 ^ more → signed_leb_value (sleb_within more n true) ≡ neg_ℤ (pos m)
unfolding sleb_within
negative_value zero n m is few = high_value n m 1 (omega (arith, is)) (omega (arith, few))
negative_value (suc more) n m is few = from (λ k others few_others. negative_value more (n / 128) k others few_others) (cases_lt 64 m)
  where
    power : 128 ^ (more + 2) ≡ 128 * 128 ^ suc more
    power = let e : more + 2 ≡ suc (suc more) = omega arith in ap (λ k. 128 ^ k) e ∙ omega (arith, pow-suc 128 (suc more))

    total : n + m ≡ 128 * 128 ^ suc more
    total = omega (arith, is, pow-suc 128 (suc more))

    last : m ≤ 64 → signed_leb_value (sleb_within (suc more) n true) ≡ neg_ℤ (pos m)
    last small = ap signed_leb_value (sleb_last more n true (le-leb (128 ^ (more + 2) - 64) n (omega (arith, power, total, small)))) ∙ high_value n m (128 ^ suc more) total small

    next : 64 < m → (k : ℕ) → n / 128 + k ≡ 128 ^ suc more → signed_leb_value (sleb_within more (n / 128) true) ≡ neg_ℤ (pos k) → signed_leb_value (sleb_within (suc more) n true) ≡ neg_ℤ (pos m)
    next large k others rest =
        ap signed_leb_value (sleb_next more n true (lt-leb (128 ^ (more + 2) - 64) n (omega (arith, power, total, large))))
        ∙ next_value more n true (neg_ℤ (pos k)) (neg_ℤ (pos m)) rest (front_high (n % 128) k m (omega (arith, total, others)))

    bound : (k : ℕ) → n / 128 + k ≡ 128 ^ suc more → k ≤ 64 * 128 ^ more
    bound k others = omega (arith, total, others, few, pow-suc 128 more)

    from : ((k : ℕ) → n / 128 + k ≡ 128 ^ suc more → k ≤ 64 * 128 ^ more → signed_leb_value (sleb_within more (n / 128) true) ≡ neg_ℤ (pos k)) → (64 < m) ⊎ (m ≤ 64) → signed_leb_value (sleb_within (suc more) n true) ≡ neg_ℤ (pos m)
    from rest (inl large) =
        let others : n / 128 + (128 ^ suc more - n / 128) ≡ 128 ^ suc more = omega (arith, total) in
        next large (128 ^ suc more - n / 128) others (rest (128 ^ suc more - n / 128) others (bound (128 ^ suc more - n / 128) others))
    from rest (inr small) = last small

signed_fits : (negative : Bool) (size : ℕ) → size < 2 ^ 31 → FitsI32 (signed negative size)
signed_fits true size small = (omega (arith, ints, small), omega (arith, ints, small))
signed_fits false size small = (omega (arith, ints, small), omega (arith, ints, small))

sleb_value : (negative : Bool) (size : ℕ) → size < 2 ^ 31 → signed_leb_value (sleb_form negative size) ≡ signed negative size
sleb_value true size small = negative_value 4 (128 ^ 5 - size) size (omega (arith, small)) (omega (arith, small))
sleb_value false size small = positive_value 4 size (omega (arith, small))

form_is : (negative : Bool) (size : ℕ) → IsSleb 4 (sleb_form negative size)
form_is true size = sleb_is 4 (128 ^ 5 - size) true
form_is false size = sleb_is 4 size false

pub written_sleb : WrittenSleb
written_sleb file at size negative small stands =
    let is = form_is negative size in record {
      stands = leb_written file at (sleb_form negative size) stands is.some is.few is.form;
      value = sym (ap signed_leb_value (slice_written file at (sleb_form negative size) stands) ∙ sleb_value negative size small);
      fits = signed_fits negative size small;
    }

pub sleb_length : SlebLength
sleb_length negative size = let is = form_is negative size in (is.some, is.few)
