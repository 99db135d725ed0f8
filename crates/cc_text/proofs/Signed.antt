-- Signed numbers in LEB128.
use Rattle.std.proofs.Common.{◌≡◌, ℕ, zero, suc, ◌+◌, ◌-◌, ◌*◌, ◌%◌, ◌<◌, ◌≤◌, ◌^◌, ◌⊎◌, true, false, List, [], ◌∷◌, length, take, drop, get_or, Result, Ok, Err, ℤ, pos, ◌+ℤ◌, ◌*ℤ◌, neg_ℤ, ◌≤ℤ◌, ◌<ℤ◌, refl, sym, ap, ◌∙◌, subst, inl, inr, arith}
use Rattle.std.specs.Prelude.{IfOk, OnErr}
use Rattle.std.proofs.Math.Nat.{pow-suc}
use Rattle.std.proofs.lemmas.Int.{ints}
use Rattle.std.proofs.lemmas.Bool.{cases_lt}
use Rattle.std.proofs.lemmas.Bool.Decides.{nat_tests}
use Rattle.std.proofs.lemmas.List.{drop_all}
use Rattle.cc_meaning.specs.declared.fault.LebFault.{LebFault}
use Rattle.cc_meaning.specs.declared.fault.LebFault.TheVariants.{CutOff, TooBig}
use Rattle.cc_meaning_dex.specs.Leb128.{leb_size, signed_group, signed_leb_value, FitsI32, fits_i32, sleb_judged, sleb_sized, sleb_at, SpellsSleb}
use Rattle.cc_meaning_dex.specs.TextLaws.{SlebAgrees}
use Rattle.cc_text.proofs.Leb.{size_nil}

group_low : (g : ℕ) → g < 64 → signed_group g ≡ pos g
unfolding signed_group
group_low g h = grind (arith, nat_tests)

group_high : (g : ℕ) → 64 ≤ g → signed_group g ≡ neg_ℤ (pos (128 - g))
unfolding signed_group
group_high g h = grind (arith, nat_tests)

signed_one : (b : ℕ) → signed_leb_value (b ∷ []) ≡ signed_group (b % 128)
unfolding signed_leb_value
signed_one b = refl

signed_two : (b c : ℕ) (bs : List ℕ) → signed_leb_value (b ∷ c ∷ bs) ≡ pos (b % 128) +ℤ pos 128 *ℤ signed_leb_value (c ∷ bs)
unfolding signed_leb_value
signed_two b c bs = refl

signed_none : signed_leb_value [] ≡ pos 0
unfolding signed_leb_value
signed_none = refl

pub signed_low : (bytes : List ℕ) → length bytes ≡ 1 → get_or bytes 0 0 % 128 < 64 → signed_leb_value bytes ≡ pos (get_or bytes 0 0 % 128)
signed_low [] h k = absurd (omega arith)
signed_low (b ∷ []) h k = signed_one b ∙ group_low (b % 128) k
signed_low (b ∷ c ∷ bs) h k = absurd (omega arith)

pub signed_high : (bytes : List ℕ) → length bytes ≡ 1 → 64 ≤ get_or bytes 0 0 % 128 → signed_leb_value bytes ≡ neg_ℤ (pos (128 - get_or bytes 0 0 % 128))
signed_high [] h k = absurd (omega arith)
signed_high (b ∷ []) h k = signed_one b ∙ group_high (b % 128) k
signed_high (b ∷ c ∷ bs) h k = absurd (omega arith)

pub signed_more : (bytes : List ℕ) → 1 < length bytes → signed_leb_value bytes ≡ pos (get_or bytes 0 0 % 128) +ℤ pos 128 *ℤ signed_leb_value (drop 1 bytes)
signed_more [] h = absurd (omega arith)
signed_more (b ∷ []) h = absurd (omega arith)
signed_more (b ∷ c ∷ bs) h = signed_two b c bs

-- a number of that many groups is near 0
pub record Near (size : ℕ) (n : ℤ) : Type 0 where
  pub above : neg_ℤ (pos size) ≤ℤ n
  pub below : n <ℤ pos size

near_group : (g size : ℕ) → g < 128 → 128 ≤ size → Near size (signed_group g)
near_group g size h k = elim (cases_lt g 64) [
  | inl low ↦ let e = group_low g low in record { above = omega (arith, ints, e); below = omega (arith, ints, e) }
  | inr high ↦ let e = group_high g high in record { above = omega (arith, ints, e); below = omega (arith, ints, e) }
]

pub signed_near : (k : ℕ) (bytes : List ℕ) → length bytes ≤ k → Near (128 ^ k) (signed_leb_value bytes)
signed_near zero [] h = record { above = omega (arith, ints, signed_none); below = omega (arith, ints, signed_none) }
signed_near zero (b ∷ bs) h = absurd (omega arith)
signed_near (suc k) [] h =
    let smaller = signed_near k [] (omega arith) in
    let p : 128 ^ suc k ≡ 128 ^ k * 128 = pow-suc 128 k in
    record { above = omega (arith, ints, smaller.above, p); below = omega (arith, ints, smaller.below, p) }
signed_near (suc k) (b ∷ []) h =
    let smaller = signed_near k [] (omega arith) in
    let p : 128 ^ suc k ≡ 128 ^ k * 128 = pow-suc 128 k in
    let some : 0 < 128 ^ k = omega (arith, ints, smaller.below, signed_none) in
    let P : ℤ → Type 0 = λ n. Near (128 ^ suc k) n in
    subst P (sym (signed_one b)) (near_group (b % 128) (128 ^ suc k) (omega arith) (omega arith))
signed_near (suc k) (b ∷ c ∷ bs) h =
    let smaller = signed_near k (c ∷ bs) (omega arith) in
    let p : 128 ^ suc k ≡ 128 ^ k * 128 = pow-suc 128 k in
    let e = signed_two b c bs in
    let low : b % 128 < 128 = omega arith in
    record { above = omega (arith, ints, smaller.above, p, e); below = omega (arith, ints, smaller.below, p, e) }

-- the number, by its size
pub sleb_at-Err : (bytes : List ℕ) (at : ℕ) (fault : LebFault) → leb_size 5 (drop at bytes) ≡ Err fault → sleb_at bytes at ≡ Err fault
unfolding sleb_at sleb_sized
sleb_at-Err bytes at fault h = ap (sleb_sized at (drop at bytes)) h

sleb_at-sized : (bytes : List ℕ) (at size : ℕ) → leb_size 5 (drop at bytes) ≡ Ok size → sleb_at bytes at ≡ sleb_judged (signed_leb_value (take size (drop at bytes))) (at + size)
unfolding sleb_at sleb_sized
sleb_at-sized bytes at size h = ap (sleb_sized at (drop at bytes)) h

fits_i32-true : (n : ℤ) → FitsI32 n → fits_i32 n ≡ true
unfolding fits_i32
fits_i32-true n h = grind (arith, ints)

fits_i32-false : (n : ℤ) → (n <ℤ neg_ℤ (pos (2 ^ 31))) ⊎ (pos (2 ^ 31) ≤ℤ n) → fits_i32 n ≡ false
unfolding fits_i32
fits_i32-false n h = grind (arith, ints)

judged_fits : (n : ℤ) (next : ℕ) → FitsI32 n → sleb_judged n next ≡ Ok (n, next)
unfolding sleb_judged
judged_fits n next h = rw (fits_i32-true n h)

judged_big : (n : ℤ) (next : ℕ) → (n <ℤ neg_ℤ (pos (2 ^ 31))) ⊎ (pos (2 ^ 31) ≤ℤ n) → sleb_judged n next ≡ Err TooBig
unfolding sleb_judged
judged_big n next h = rw (fits_i32-false n h)

pub sleb_at-Ok : (bytes : List ℕ) (at size : ℕ) (n : ℤ) → leb_size 5 (drop at bytes) ≡ Ok size → n ≡ signed_leb_value (take size (drop at bytes)) → FitsI32 n →
    sleb_at bytes at ≡ Ok (n, at + size)
sleb_at-Ok bytes at size n h e k = sleb_at-sized bytes at size h ∙ ap (λ v. sleb_judged v (at + size)) (sym e) ∙ judged_fits n (at + size) k

pub sleb_at-big : (bytes : List ℕ) (at size : ℕ) (n : ℤ) → leb_size 5 (drop at bytes) ≡ Ok size → n ≡ signed_leb_value (take size (drop at bytes)) →
    (n <ℤ neg_ℤ (pos (2 ^ 31))) ⊎ (pos (2 ^ 31) ≤ℤ n) → sleb_at bytes at ≡ Err TooBig
sleb_at-big bytes at size n h e k = sleb_at-sized bytes at size h ∙ ap (λ v. sleb_judged v (at + size)) (sym e) ∙ judged_big n (at + size) k

pub sleb_at-past : (bytes : List ℕ) (at : ℕ) → length bytes < at → sleb_at bytes at ≡ Err CutOff
sleb_at-past bytes at h = sleb_at-Err bytes at CutOff (ap (leb_size 5) (drop_all at bytes (omega arith)) ∙ size_nil 4)

-- what the law says of an exact answer
pub sleb_spelled : SlebAgrees → (bytes : List ℕ) (at : ℕ) (r : Result (ℤ × ℕ) LebFault) → r ≡ sleb_at bytes at → IfOk r (λ read. SpellsSleb bytes at read.0 read.1)
sleb_spelled law bytes at (Ok read) h = (law bytes at read.0 read.1).0 (sym h)
sleb_spelled law bytes at (Err fault) h = tt

pub sleb_refused : SlebAgrees → (bytes : List ℕ) (at : ℕ) (r : Result (ℤ × ℕ) LebFault) → r ≡ sleb_at bytes at → OnErr r ((n : ℤ) (next : ℕ) → ¬ SpellsSleb bytes at n next)
sleb_refused law bytes at (Ok read) h = tt
sleb_refused law bytes at (Err fault) h = λ n next s. let e = (law bytes at n next).1 s in absurd cc
