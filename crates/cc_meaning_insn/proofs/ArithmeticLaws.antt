-- What the words of arithmetic come to.
use Rattle.std.proofs.Common.{◌≡◌, ◌≢◌, ℕ, zero, suc, ◌+◌, ◌-◌, ◌/◌, ◌%◌, ◌^◌, ◌<◌, ◌≤◌, ℤ, pos, ◌+ℤ◌, ◌*ℤ◌, ◌≤ℤ◌, to_z, refl, sym, ap, ◌∙◌, subst, inl, inr, arith}
use Rattle.std.specs.Prelude.{negsuc, neg_ℤ, unsigned_abs}
use Rattle.std.specs.Int.{Width, w8, w16, w32, w64, w128, int_wrap}
use Rattle.std.specs.Int.RustNames.{int_rem}
use Rattle.std.proofs.lemmas.Int.{ints, quot-rem, rem_below, SFits-int_wrap}
use Rattle.std.proofs.Math.Nat.{mod-le}
use Rattle.std.proofs.lemmas.Bool.{cases_lt}
use mir.Val.{bits, hbits}
use mir.ValLaws.{to_z_pos, to_z-neg}
use Rattle.cc_meaning_insn.specs.Arithmetic.{modulo}
use Rattle.cc_meaning_insn.specs.Laws.{DivisionAgrees, FloorAgrees, WrapAgrees}

some : (b : ℤ) → b ≢ pos 0 → 0 < unsigned_abs b
some (pos zero) n = absurd (n refl)
some (pos (suc b)) n = omega arith
some (negsuc b) n = omega arith

negative : (n : ℕ) → neg_ℤ (pos n) ≤ℤ pos 0
negative zero = omega (arith, ints)
negative (suc n) = omega (arith, ints)

rem_above : (a b : ℤ) → pos 0 ≤ℤ a → pos 0 ≤ℤ int_rem a b
rem_above (pos a) b h = omega (arith, ints)
rem_above (negsuc a) b h = absurd (omega (arith, ints, h))

rem_under : (a b : ℤ) → a ≤ℤ pos 0 → int_rem a b ≤ℤ pos 0
rem_under (pos zero) b h = omega (arith, ints, mod-le 0 (unsigned_abs b))
rem_under (pos (suc a)) b h = absurd (omega (arith, ints, h))
rem_under (negsuc a) b h = negative (suc a % unsigned_abs b)

pub division_agrees : DivisionAgrees
division_agrees = record {
  whole = λ a b. sym (quot-rem a b);
  less = λ a b n. rem_below a b (some b n);
  above = rem_above;
  below = rem_under;
}

-- a number is what is left of it modulo a size, and a multiple of that size
record Multiple (z : ℤ) (rest : ℤ) (size : ℕ) : Type 0 where
  times : ℤ
  sum : z ≡ rest +ℤ times *ℤ pos size

multiple : (z : ℤ) (size : ℕ) → 0 < size → Multiple z (pos (modulo z size)) size
multiple (pos n) size h = record { times = pos (n / size); sum = omega (arith, ints) }
multiple (negsuc n) size h = record { times = negsuc (n / size); sum = omega (arith, ints) }

one_more : (z : ℤ) (m size : ℕ) (times : ℤ) → m < size → z ≡ pos m +ℤ times *ℤ pos size → Multiple z (negsuc (size - suc m)) size
one_more z m size (pos t) h e = record { times = pos (t + 1); sum = omega (arith, ints, e) }
one_more z m size (negsuc zero) h e = record { times = pos 0; sum = omega (arith, ints, e) }
one_more z m size (negsuc (suc t)) h e = record { times = negsuc t; sum = omega (arith, ints, e) }

wrap_is : (w : Width) (z : ℤ) → int_wrap w z ≡ to_z w (modulo z (2 ^ bits w))
unfolding int_wrap
wrap_is w z = refl

modulo_below : (z : ℤ) (size : ℕ) → 0 < size → modulo z size < size
modulo_below (pos n) size h = omega arith
modulo_below (negsuc n) size h = omega arith

signed : (w : Width) (z : ℤ) (m : ℕ) → m < 2 ^ bits w → Multiple z (pos m) (2 ^ bits w) → Multiple z (to_z w m) (2 ^ bits w)
signed w z m h k = elim (cases_lt m (2 ^ hbits w)) [
  | inl low ↦ let P : ℤ → Type 0 = λ r. Multiple z r (2 ^ bits w) in subst P (sym (to_z_pos w m low)) k
  | inr high ↦
      let size = 2 ^ bits w in
      let back : size - suc (size - suc m) ≡ m = omega arith in
      let is : to_z w m ≡ negsuc (size - suc m) = ap (to_z w) (sym back) ∙ to_z-neg w (size - suc m) (half w m high h) in
      let P : ℤ → Type 0 = λ r. Multiple z r size in
      subst P (sym is) (one_more z m size k.times h k.sum)
]
  where
    half : (w : Width) (m : ℕ) → 2 ^ hbits w ≤ m → m < 2 ^ bits w → 2 ^ bits w - suc m < 2 ^ hbits w
    half w8 m h k = omega arith
    half w16 m h k = omega arith
    half w32 m h k = omega arith
    half w64 m h k = omega arith
    half w128 m h k = omega arith

power_some : (w : Width) → 0 < 2 ^ bits w
power_some w8 = omega arith
power_some w16 = omega arith
power_some w32 = omega arith
power_some w64 = omega arith
power_some w128 = omega arith

pub wrap_agrees : WrapAgrees
wrap_agrees w z =
    let size = 2 ^ bits w in
    let k = signed w z (modulo z size) (modulo_below z size (power_some w)) (multiple z size (power_some w)) in
    (SFits-int_wrap w z, (k.times, k.sum ∙ ap (λ r. r +ℤ k.times *ℤ pos size) (sym (wrap_is w z))))

pub floor_agrees : FloorAgrees
floor_agrees (pos n) d h = (omega (arith, ints), omega arith)
floor_agrees (negsuc n) d h = (omega (arith, ints), omega arith)
