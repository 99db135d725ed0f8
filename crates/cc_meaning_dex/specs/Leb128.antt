-- Numbers in LEB128: groups of seven bits, the lowest first. A byte holds a group, and its top bit says that another byte follows.
use Rattle.std.specs.Prelude.{◌≡◌, ℕ, zero, suc, ◌+◌, ◌-◌, ◌*◌, ◌%◌, ◌^◌, ◌<◌, ◌≤◌, Bool, ◌&&◌, if◌then◌else◌, nat_lt, List, [], ◌∷◌, length, take, drop, slice_range, Result, Ok, Err, ℤ, pos, ◌+ℤ◌, ◌*ℤ◌, neg_ℤ, ◌≤ℤ◌, ◌<ℤ◌, int_le, int_lt}
use Rattle.cc_meaning.specs.declared.fault.LebFault.{LebFault}
use Rattle.cc_meaning.specs.declared.fault.LebFault.TheVariants.{CutOff, TooBig}

-- all bytes but the last have their top bit set, and the last hasn't
abbrev pub IsLeb : List ℕ → Type 0
IsLeb [] = ⊥
IsLeb (b ∷ []) = b < 128
IsLeb (b ∷ c ∷ bs) = (128 ≤ b) × IsLeb (c ∷ bs)

-- the number in the groups of these bytes: the sum of (byte mod 128) * 128 ^ i
unfoldable pub leb_value : List ℕ → ℕ
leb_value [] = 0
leb_value (b ∷ bs) = b % 128 + 128 * leb_value bs

-- a group of seven bits whose highest bit, bit 6, is a sign
unfoldable pub signed_group : ℕ → ℤ
signed_group g = if nat_lt g 64 then pos g else neg_ℤ (pos (128 - g))

-- the same number where the last byte's bit 6 is a sign
unfoldable pub signed_leb_value : List ℕ → ℤ
signed_leb_value [] = pos 0
signed_leb_value (b ∷ []) = signed_group (b % 128)
signed_leb_value (b ∷ c ∷ bs) = pos (b % 128) +ℤ pos 128 *ℤ signed_leb_value (c ∷ bs)

-- one to five bytes from `at` to before `next` are a number in LEB128
pub record LebStands (bytes : List ℕ) (at next : ℕ) : Type 0 where
  pub some : at < next
  pub few : next ≤ at + 5
  pub within : next ≤ length bytes
  pub form : IsLeb (slice_range bytes at next)

-- the bytes from `at` to before `next` spell the number n of 32 bits
pub record SpellsUleb (bytes : List ℕ) (at n next : ℕ) : Type 0 where
  pub stands : LebStands bytes at next
  pub value : n ≡ leb_value (slice_range bytes at next)
  pub fits : n < 2 ^ 32

-- the number has 32 bits, one of them its sign
abbrev pub FitsI32 : ℤ → Type 0
FitsI32 n = (neg_ℤ (pos (2 ^ 31)) ≤ℤ n) × (n <ℤ pos (2 ^ 31))

-- the bytes from `at` to before `next` spell the signed number n of 32 bits
pub record SpellsSleb (bytes : List ℕ) (at : ℕ) (n : ℤ) (next : ℕ) : Type 0 where
  pub stands : LebStands bytes at next
  pub value : n ≡ signed_leb_value (slice_range bytes at next)
  pub fits : FitsI32 n

abbrev pub one_more : Result ℕ LebFault → Result ℕ LebFault
one_more (Ok size) = Ok (size + 1)
one_more (Err fault) = Err fault

-- how many bytes the number in front takes, where it has room for that many: the bytes end within it, or the last that it may take has its top bit set
unfoldable pub leb_size : ℕ → List ℕ → Result ℕ LebFault
leb_size zero bytes = Err TooBig
leb_size (suc room) [] = Err CutOff
leb_size (suc room) (b ∷ bs) = if nat_lt b 128 then Ok 1 else one_more (leb_size room bs)

unfoldable pub uleb_judged : ℕ → ℕ → Result (ℕ × ℕ) LebFault
uleb_judged n next = if nat_lt n (2 ^ 32) then Ok (n, next) else Err TooBig

unfoldable pub uleb_sized : ℕ → List ℕ → Result ℕ LebFault → Result (ℕ × ℕ) LebFault
uleb_sized at bytes (Err fault) = Err fault
uleb_sized at bytes (Ok size) = uleb_judged (leb_value (take size bytes)) (at + size)

-- the number of 32 bits that is spelled at `at`, and the place after it. `CutOff`: the bytes end within it;
-- `TooBig`: a fifth byte has its top bit set, or the number is 2 ^ 32 or more
unfoldable pub uleb_at : List ℕ → ℕ → Result (ℕ × ℕ) LebFault
uleb_at bytes at = uleb_sized at (drop at bytes) (leb_size 5 (drop at bytes))

unfoldable pub fits_i32 : ℤ → Bool
fits_i32 n = int_le (neg_ℤ (pos (2 ^ 31))) n && int_lt n (pos (2 ^ 31))

unfoldable pub sleb_judged : ℤ → ℕ → Result (ℤ × ℕ) LebFault
sleb_judged n next = if fits_i32 n then Ok (n, next) else Err TooBig

unfoldable pub sleb_sized : ℕ → List ℕ → Result ℕ LebFault → Result (ℤ × ℕ) LebFault
sleb_sized at bytes (Err fault) = Err fault
sleb_sized at bytes (Ok size) = sleb_judged (signed_leb_value (take size bytes)) (at + size)

-- the signed number of 32 bits that is spelled at `at`, and the place after it; the faults are those of `uleb_at`, `TooBig` where it doesn't fit
unfoldable pub sleb_at : List ℕ → ℕ → Result (ℤ × ℕ) LebFault
sleb_at bytes at = sleb_sized at (drop at bytes) (leb_size 5 (drop at bytes))
