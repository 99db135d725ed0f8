-- A number in LEB128 is read exactly where it is spelled.
use Rattle.std.proofs.Common.{◌≡◌, ℕ, zero, suc, ◌+◌, ◌-◌, ◌<◌, ◌≤◌, ◌^◌, ◌⊎◌, List, [], ◌∷◌, length, take, drop, Result, Ok, Err, refl, sym, ap, ◌∙◌, subst, inl, inr, arith}
use Rattle.std.specs.Prelude.{slice_range}
use Rattle.std.proofs.lemmas.Bool.{cases_lt}
use Rattle.std.proofs.lemmas.Bool.Decides.{nat_tests}
use Rattle.std.proofs.lemmas.List.{length-take, length-drop}
use Rattle.cc_meaning.specs.declared.fault.LebFault.{LebFault}
use Rattle.cc_meaning.specs.declared.fault.LebFault.TheVariants.{CutOff, TooBig}
use Rattle.cc_meaning_dex.specs.Leb128.{IsLeb, leb_value, LebStands, SpellsUleb, one_more, leb_size, uleb_judged, uleb_sized, uleb_at}
use Rattle.cc_meaning_dex.specs.TextLaws.{UlebAgrees, OneUleb}

IsLeb-cons : (b : ℕ) (bs : List ℕ) → 128 ≤ b → IsLeb bs → IsLeb (b ∷ bs)
IsLeb-cons b [] h k = absurd k
IsLeb-cons b (c ∷ cs) h k = (h, k)

IsLeb-split : (b : ℕ) (bs : List ℕ) → IsLeb (b ∷ bs) → ((b < 128) × (bs ≡ [])) ⊎ ((128 ≤ b) × IsLeb bs)
IsLeb-split b [] h = inl (h, refl)
IsLeb-split b (c ∷ cs) h = inr h

one_more-Ok : (r : Result ℕ LebFault) (n : ℕ) → one_more r ≡ Ok n → (m : ℕ) × (r ≡ Ok m) × (n ≡ suc m)
one_more-Ok (Ok m) n h = (m, refl, let e : m + 1 ≡ n = cc in omega arith)
one_more-Ok (Err fault) n h = absurd cc

leb_size-last : (room b : ℕ) (bs : List ℕ) → b < 128 → leb_size (suc room) (b ∷ bs) ≡ Ok 1
unfolding leb_size
leb_size-last room b bs h = grind (arith, nat_tests)

leb_size-more : (room b : ℕ) (bs : List ℕ) → 128 ≤ b → leb_size (suc room) (b ∷ bs) ≡ one_more (leb_size room bs)
unfolding leb_size
leb_size-more room b bs h = grind (arith, nat_tests)

leb_size-zero : (bs : List ℕ) → leb_size zero bs ≡ Err TooBig
unfolding leb_size
leb_size-zero bs = refl

leb_size-nil : (room : ℕ) → leb_size (suc room) [] ≡ Err CutOff
unfolding leb_size
leb_size-nil room = refl

-- a size that is found takes its bytes from those in front, which are a number
record Sized (room : ℕ) (bs : List ℕ) (n : ℕ) : Type 0 where
  some : 0 < n
  few : n ≤ room
  within : n ≤ length bs
  form : IsLeb (take n bs)

sized_more : (room b : ℕ) (bs : List ℕ) (m n : ℕ) → 128 ≤ b → n ≡ suc m → Sized room bs m → Sized (suc room) (b ∷ bs) n
sized_more room b bs m n h e s =
    let P : ℕ → Type 0 = λ k. Sized (suc room) (b ∷ bs) k in
    subst P (sym e) (record { some = omega arith; few = omega (arith, s.few); within = omega (arith, s.within); form = IsLeb-cons b (take m bs) h s.form })

sized_last : (room b : ℕ) (bs : List ℕ) (n : ℕ) → b < 128 → n ≡ 1 → Sized (suc room) (b ∷ bs) n
sized_last room b bs n h e =
    let P : ℕ → Type 0 = λ k. Sized (suc room) (b ∷ bs) k in
    subst P (sym e) (record { some = omega arith; few = omega arith; within = omega arith; form = h })

leb_size-sound : (room : ℕ) (bs : List ℕ) (n : ℕ) → leb_size room bs ≡ Ok n → Sized room bs n
leb_size-sound zero bs n h = absurd (cc (leb_size-zero bs))
leb_size-sound (suc room) [] n h = absurd (cc (leb_size-nil room))
leb_size-sound (suc room) (b ∷ bs) n h =
    elim (cases_lt b 128) [
      | inl small ↦ let first = leb_size-last room b bs small in sized_last room b bs n small (cc)
      | inr large ↦
          let inner = one_more-Ok (leb_size room bs) n (sym (leb_size-more room b bs large) ∙ h) in
          sized_more room b bs inner.0 n large inner.2 (leb_size-sound room bs inner.0 inner.1)
    ]

leb_size-complete : (room : ℕ) (bs : List ℕ) (n : ℕ) → n ≤ room → n ≤ length bs → IsLeb (take n bs) → leb_size room bs ≡ Ok n
leb_size-complete room bs zero h k f = absurd f
leb_size-complete zero bs (suc n) h k f = absurd (omega arith)
leb_size-complete (suc room) [] (suc n) h k f = absurd (omega arith)
leb_size-complete (suc room) (b ∷ bs) (suc n) h k f =
    elim (IsLeb-split b (take n bs) f) [
      | inl last ↦
          let none : n ≡ 0 = omega (arith, length-take n bs, ap length last.1) in
          leb_size-last room b bs last.0 ∙ ap Ok (sym (ap suc none))
      | inr more ↦
          leb_size-more room b bs more.0 ∙ ap one_more (leb_size-complete room bs n (omega arith) (omega arith) more.1) ∙ ap Ok (omega arith)
    ]

uleb_judged-Ok : (v place n next : ℕ) → uleb_judged v place ≡ Ok (n, next) → (n ≡ v) × (next ≡ place) × (v < 2 ^ 32)
unfolding uleb_judged
uleb_judged-Ok v place n next h =
    elim (cases_lt v (2 ^ 32)) [
      | inl small ↦ let e : uleb_judged v place ≡ Ok (v, place) = grind (arith, nat_tests) in
          let same : (n, next) ≡ (v, place) = cc in (ap (λ (p : ℕ × ℕ). p.0) same, ap (λ (p : ℕ × ℕ). p.1) same, small)
      | inr large ↦ let e : uleb_judged v place ≡ Err TooBig = grind (arith, nat_tests) in absurd cc
    ]

uleb_judged-fits : (v place : ℕ) → v < 2 ^ 32 → uleb_judged v place ≡ Ok (v, place)
unfolding uleb_judged
uleb_judged-fits v place h = grind (arith, nat_tests)

uleb_sized-Ok : (at : ℕ) (bytes : List ℕ) (r : Result ℕ LebFault) (n next : ℕ) → uleb_sized at bytes r ≡ Ok (n, next) →
    (size : ℕ) × (r ≡ Ok size) × (uleb_judged (leb_value (take size bytes)) (at + size) ≡ Ok (n, next))
unfolding uleb_sized
uleb_sized-Ok at bytes (Ok size) n next h = (size, refl, h)
uleb_sized-Ok at bytes (Err fault) n next h = absurd cc

uleb_sized-at : (at : ℕ) (bytes : List ℕ) (size : ℕ) → uleb_sized at bytes (Ok size) ≡ uleb_judged (leb_value (take size bytes)) (at + size)
unfolding uleb_sized
uleb_sized-at at bytes size = refl

-- the number in front of what stands from `at` on
pub stands_from_size : (bytes : List ℕ) (at size : ℕ) → leb_size 5 (drop at bytes) ≡ Ok size → LebStands bytes at (at + size) × (slice_range bytes at (at + size) ≡ take size (drop at bytes))
stands_from_size bytes at size h =
    let found = leb_size-sound 5 (drop at bytes) size h in
    let width : at + size - at ≡ size = omega arith in
    let same : slice_range bytes at (at + size) ≡ take size (drop at bytes) = ap (λ k. take k (drop at bytes)) width in
    let P : List ℕ → Type 0 = λ part. IsLeb part in
    (record { some = omega (arith, found.some); few = omega (arith, found.few); within = omega (arith, found.some, found.within, length-drop at bytes); form = subst P (sym same) found.form }, same)

pub size_from_stands : (bytes : List ℕ) (at next : ℕ) → LebStands bytes at next → leb_size 5 (drop at bytes) ≡ Ok (next - at)
size_from_stands bytes at next s =
    leb_size-complete 5 (drop at bytes) (next - at) (omega (arith, s.few)) (omega (arith, s.within, length-drop at bytes)) s.form

uleb_spelled : (bytes : List ℕ) (at n next : ℕ) → uleb_at bytes at ≡ Ok (n, next) → SpellsUleb bytes at n next
unfolding uleb_at
uleb_spelled bytes at n next h =
    let found = uleb_sized-Ok at (drop at bytes) (leb_size 5 (drop at bytes)) n next h in
    let judged = uleb_judged-Ok (leb_value (take found.0 (drop at bytes))) (at + found.0) n next found.2 in
    let stands = stands_from_size bytes at found.0 found.1 in
    let P : ℕ → Type 0 = λ place. SpellsUleb bytes at n place in
    subst P (sym judged.1) (record { stands = stands.0; value = judged.0 ∙ ap leb_value (sym stands.1); fits = omega (arith, judged.0, judged.2) })

uleb_read : (bytes : List ℕ) (at n next : ℕ) → SpellsUleb bytes at n next → uleb_at bytes at ≡ Ok (n, next)
unfolding uleb_at
uleb_read bytes at n next s =
    let size = next - at in
    let place : at + (next - at) ≡ next = omega (arith, s.stands.some) in
    let value : leb_value (take (next - at) (drop at bytes)) ≡ n = sym s.value in
    ap (uleb_sized at (drop at bytes)) (size_from_stands bytes at next s.stands)
    ∙ uleb_sized-at at (drop at bytes) (next - at)
    ∙ ap (λ v. uleb_judged v (at + (next - at))) value
    ∙ ap (λ p. uleb_judged n p) place
    ∙ uleb_judged-fits n next s.fits

pub uleb_agrees : UlebAgrees
uleb_agrees bytes at n next = (uleb_spelled bytes at n next, uleb_read bytes at n next)

pub one_uleb : OneUleb
one_uleb bytes at m n here there s t =
    let first : uleb_at bytes at ≡ Ok (m, here) = uleb_read bytes at m here s in
    let second : uleb_at bytes at ≡ Ok (n, there) = uleb_read bytes at n there t in
    let same : (m, here) ≡ (n, there) = cc in
    (ap (λ (p : ℕ × ℕ). p.0) same, ap (λ (p : ℕ × ℕ). p.1) same)
