-- A signed number in LEB128 is read exactly where it is spelled.
use Rattle.std.proofs.Common.{◌≡◌, ℕ, ◌+◌, ◌-◌, Bool, true, false, cond, List, take, drop, Result, Ok, Err, ℤ, refl, sym, ap, ◌∙◌, subst, arith}
use Rattle.std.proofs.lemmas.Int.{ints}
use Rattle.cc_meaning.specs.declared.fault.LebFault.{LebFault}
use Rattle.cc_meaning.specs.declared.fault.LebFault.TheVariants.{TooBig}
use Rattle.cc_meaning_dex.specs.Leb128.{signed_leb_value, FitsI32, SpellsSleb, leb_size, fits_i32, sleb_judged, sleb_sized, sleb_at}
use Rattle.cc_meaning_dex.specs.TextLaws.{SlebAgrees}
use Rattle.cc_meaning_dex.proofs.LebLaws.{stands_from_size, size_from_stands}

fits_i32-true : (n : ℤ) → FitsI32 n → fits_i32 n ≡ true
unfolding fits_i32
fits_i32-true n h = grind (arith, ints)

fits_i32-is : (n : ℤ) → fits_i32 n ≡ true → FitsI32 n
unfolding fits_i32
fits_i32-is n h = (grind (arith, ints), grind (arith, ints))

sleb_judged-Ok : (v : ℤ) (place : ℕ) (n : ℤ) (next : ℕ) → sleb_judged v place ≡ Ok (n, next) → (n ≡ v) × (next ≡ place) × FitsI32 v
unfolding sleb_judged
sleb_judged-Ok v place n next h = by_test (fits_i32 v) refl h
  where
    by_test : (t : Bool) → fits_i32 v ≡ t → cond {A = Result (ℤ × ℕ) LebFault} t (Ok (v, place)) (Err TooBig) ≡ Ok (n, next) → (n ≡ v) × (next ≡ place) × FitsI32 v
    by_test true e k =
        let same : (v, place) ≡ (n, next) = cc in
        (sym (ap (λ (p : ℤ × ℕ). p.0) same), sym (ap (λ (p : ℤ × ℕ). p.1) same), fits_i32-is v e)
    by_test false e k = absurd cc

sleb_judged-fits : (v : ℤ) (place : ℕ) → FitsI32 v → sleb_judged v place ≡ Ok (v, place)
unfolding sleb_judged
sleb_judged-fits v place h = rw (fits_i32-true v h)

sleb_sized-Ok : (at : ℕ) (bytes : List ℕ) (r : Result ℕ LebFault) (n : ℤ) (next : ℕ) → sleb_sized at bytes r ≡ Ok (n, next) →
    (size : ℕ) × (r ≡ Ok size) × (sleb_judged (signed_leb_value (take size bytes)) (at + size) ≡ Ok (n, next))
unfolding sleb_sized
sleb_sized-Ok at bytes (Ok size) n next h = (size, refl, h)
sleb_sized-Ok at bytes (Err fault) n next h = absurd cc

sleb_sized-at : (at : ℕ) (bytes : List ℕ) (size : ℕ) → sleb_sized at bytes (Ok size) ≡ sleb_judged (signed_leb_value (take size bytes)) (at + size)
unfolding sleb_sized
sleb_sized-at at bytes size = refl

sleb_spelled : (bytes : List ℕ) (at : ℕ) (n : ℤ) (next : ℕ) → sleb_at bytes at ≡ Ok (n, next) → SpellsSleb bytes at n next
unfolding sleb_at
sleb_spelled bytes at n next h =
    let found = sleb_sized-Ok at (drop at bytes) (leb_size 5 (drop at bytes)) n next h in
    let judged = sleb_judged-Ok (signed_leb_value (take found.0 (drop at bytes))) (at + found.0) n next found.2 in
    let stands = stands_from_size bytes at found.0 found.1 in
    let P : ℕ → Type 0 = λ place. SpellsSleb bytes at n place in
    let Q : ℤ → Type 0 = λ v. FitsI32 v in
    subst P (sym judged.1) (record { stands = stands.0; value = judged.0 ∙ ap signed_leb_value (sym stands.1); fits = subst Q (sym judged.0) judged.2 })

sleb_read : (bytes : List ℕ) (at : ℕ) (n : ℤ) (next : ℕ) → SpellsSleb bytes at n next → sleb_at bytes at ≡ Ok (n, next)
unfolding sleb_at
sleb_read bytes at n next s =
    let place : at + (next - at) ≡ next = omega (arith, s.stands.some) in
    ap (sleb_sized at (drop at bytes)) (size_from_stands bytes at next s.stands)
    ∙ sleb_sized-at at (drop at bytes) (next - at)
    ∙ ap (λ v. sleb_judged v (at + (next - at))) (sym s.value)
    ∙ ap (λ p. sleb_judged n p) place
    ∙ sleb_judged-fits n next s.fits

pub sleb_agrees : SlebAgrees
sleb_agrees bytes at n next = (sleb_spelled bytes at n next, sleb_read bytes at n next)
