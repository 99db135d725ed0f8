-- Numbers in LEB128 are spelled where they are written.
use Rattle.std.proofs.Common.{◌≡◌, ℕ, zero, suc, ◌+◌, ◌-◌, ◌/◌, ◌%◌, ◌^◌, ◌<◌, ◌≤◌, ◌⊎◌, inl, inr, List, [], ◌∷◌, length, take, drop, refl, sym, ap, subst, ◌∙◌, arith}
use Rattle.std.specs.Prelude.{slice_range}
use Rattle.std.proofs.lemmas.Bool.{cases_lt, lt-ltb, le-ltb}
use Rattle.std.proofs.lemmas.Nat.{div_below}
use Rattle.std.proofs.Math.Nat.{pow-suc}
use Rattle.cc_meaning_dex.specs.Leb128.{IsLeb, leb_value, LebStands}
use Rattle.cc_meaning_dex.specs.Numbers.{Stands}
use Rattle.cc_meaning_builder.specs.Forms.{uleb_form, uleb_within}
use Rattle.cc_meaning_builder.specs.Laws.{WrittenUleb}
use Rattle.cc_builder_laws.specs.Standing.{UlebLength}
use Rattle.cc_builder_laws.proofs.Parts.{stands_few}

pub leb_more : (b : ℕ) (bs : List ℕ) → 128 ≤ b → IsLeb bs → IsLeb (b ∷ bs)
leb_more b [] large rest = absurd rest
leb_more b (c ∷ cs) large rest = (large, rest)

-- what so many groups and one more are
pub record IsUleb (more n : ℕ) (bytes : List ℕ) : Type 0 where
  pub some : 0 < length bytes
  pub few : length bytes ≤ suc more
  pub form : IsLeb bytes
  pub value : n < 128 ^ suc more → leb_value bytes ≡ n

last_group : (n b : ℕ) (more : ℕ) → b < 128 → b % 128 ≡ n → IsUleb more n (b ∷ [])
unfolding leb_value
last_group n b more small is = record { some = omega arith; few = omega arith; form = small; value = λ fits. omega (arith, is) }

uleb_last : (more n : ℕ) → n < 128 → uleb_within (suc more) n ≡ n ∷ []
unfolding uleb_within
uleb_last more n small = rw (lt-ltb n 128 small) refl

uleb_next : (more n : ℕ) → 128 ≤ n → uleb_within (suc more) n ≡ (128 + n % 128) ∷ uleb_within more (n / 128)
unfolding uleb_within
uleb_next more n large = rw (le-ltb n 128 large) refl

uleb_is : (more n : ℕ) → IsUleb more n (uleb_within more n)
unfolding uleb_within leb_value
uleb_is zero n = record { some = omega arith; few = omega arith; form = omega arith; value = λ fits. omega (arith, fits) }
uleb_is (suc more) n = from (cases_lt n 128) (uleb_is more (n / 128))
  where
    from : (n < 128) ⊎ (128 ≤ n) → IsUleb more (n / 128) (uleb_within more (n / 128)) → IsUleb (suc more) n (uleb_within (suc more) n)
    from (inl small) rest = subst (IsUleb (suc more) n) (sym (uleb_last more n small)) (last_group n n (suc more) small (omega arith))
    from (inr large) rest = subst (IsUleb (suc more) n) (sym (uleb_next more n large)) (record {
      some = omega arith;
      few = omega (arith, rest.few);
      form = leb_more (128 + n % 128) (uleb_within more (n / 128)) (omega arith) rest.form;
      value = λ fits. omega (arith, rest.value (div_below n 128 (128 ^ suc more) (omega arith) (omega (arith, fits, pow-suc 128 (suc more)))));
    })

-- what is written is what the slice has
pub slice_written : (file : List ℕ) (at : ℕ) (part : List ℕ) → Stands file at part → slice_range file at (at + length part) ≡ part
slice_written file at part stands = let width : at + length part - at ≡ length part = omega arith in ap (λ k. take k (drop at file)) width ∙ stands

pub leb_written : (file : List ℕ) (at : ℕ) (part : List ℕ) → Stands file at part → 0 < length part → length part ≤ 5 → IsLeb part → LebStands file at (at + length part)
leb_written file at part stands some few form = record {
  some = omega (arith, some);
  few = omega (arith, few);
  within = omega (arith, some, stands_few file at part stands);
  form = subst IsLeb (sym (slice_written file at part stands)) form;
}

pub written_uleb : WrittenUleb
written_uleb file at n small stands =
    let is = uleb_is 4 n in record {
      stands = leb_written file at (uleb_form n) stands is.some is.few is.form;
      value = sym (ap leb_value (slice_written file at (uleb_form n) stands) ∙ is.value (omega (arith, small)));
      fits = small;
    }

pub uleb_length : UlebLength
uleb_length n = let is = uleb_is 4 n in (is.some, is.few)
