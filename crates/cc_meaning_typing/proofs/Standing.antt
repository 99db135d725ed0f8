-- Where instructions that are laid out stand.
use Rattle.std.proofs.Common.{◌≡◌, ℕ, zero, suc, ◌+◌, ◌<◌, ◌≤◌, ◌^◌, List, [], ◌∷◌, length, take, Option, Some, None, refl, sym, ap, ◌∙◌, subst, arith, add-one, slice_get, slice_index_or}
use Rattle.std.specs.Prelude.{Contains}
use Rattle.cc_meaning.specs.declared.program.Code.{Code}
use Rattle.cc_meaning.specs.declared.program.Placed.{Placed}
use Rattle.cc_meaning_typing.specs.Code.{placed_at}
use Rattle.cc_meaning_typing.specs.WellFormed.{IsLaidOut}
use Rattle.cc_meaning_typing.specs.Tries.{units_in, units_of}
use Rattle.cc_meaning_typing.specs.VerifyLaws.{StandInOrder, LaidOutStands}
use Rattle.cc_meaning_typing.proofs.Closed.{placed_stands}

units_take : (xs : List Placed) (k : ℕ) (x : Placed) → slice_get xs k ≡ Some x → units_in (take (suc k) xs) ≡ units_in (take k xs) + x.units
unfolding units_in
units_take [] k x e = absurd (cc)
units_take (y ∷ xs) zero x e = let f : y ≡ x = cc in let g = ap (λ (z : Placed). z.units) f in omega arith
units_take (y ∷ xs) (suc k) x e = let h = units_take xs k x e in omega arith

units_front : (xs : List Placed) (k : ℕ) → units_in (take k xs) ≤ units_in xs
unfolding units_in
units_front [] zero = omega arith
units_front [] (suc k) = omega arith
units_front (y ∷ xs) zero = omega arith
units_front (y ∷ xs) (suc k) = let h = units_front xs k in omega arith

get_before : {A : Type 0} (xs : List A) (k : ℕ) (x : A) → slice_get xs (suc k) ≡ Some x → (y : A) × (slice_get xs k ≡ Some y)
get_before [] k x e = absurd (cc)
get_before (y ∷ xs) zero x e = (y, refl)
get_before (y ∷ xs) (suc k) x e = get_before xs k x e

get_at : {A : Type 0} (xs : List A) (k : ℕ) (x : A) → k < length xs → slice_index_or xs k x ≡ x → slice_get xs k ≡ Some x
get_at [] k x l e = absurd (omega arith)
get_at (y ∷ xs) zero x l e = ap Some e
get_at (y ∷ xs) (suc k) x l e = get_at xs k x (omega arith) e

last_get : {A : Type 0} (y : A) (xs : List A) → (x : A) × (slice_get (y ∷ xs) (length xs) ≡ Some x)
last_get y [] = (y, refl)
last_get y (x ∷ xs) = last_get x xs

take_all : {A : Type 0} (xs : List A) → take (length xs) xs ≡ xs
take_all [] = refl
take_all (x ∷ xs) = ap (λ z. x ∷ z) (take_all xs)

module _ (code : Code) (laid : IsLaidOut code) where
  starts : (k : ℕ) (placed : Placed) → slice_get code.insns k ≡ Some placed → placed.at ≡ units_in (take k code.insns)
  unfolding units_in
  starts zero placed e = laid.begins placed e
  starts (suc k) placed e =
      let b = get_before code.insns k placed e in
      laid.follows k b.0 placed b.1 e ∙ ap (λ n. n + b.0.units) (starts k b.0 b.1) ∙ sym (units_take code.insns k b.0 b.1)

  ends : (k : ℕ) (placed : Placed) → slice_get code.insns k ≡ Some placed → units_in (take (suc k) code.insns) ≡ placed.at + placed.units
  ends k placed e = units_take code.insns k placed e ∙ ap (λ n. n + placed.units) (sym (starts k placed e))

  within : (at : ℕ) (placed : Placed) → placed_at code at ≡ Some placed → at < units_of code
  unfolding units_of
  within at placed e =
      let s = placed_stands code at placed e in
      let k = s.0.0 in
      let g = get_at code.insns k placed s.0.1 s.0.2 in
      let h = ends k placed g in
      let f = units_front code.insns (suc k) in
      let t = laid.takes k placed g in
      let a = s.1 in
      omega arith

  ends_fit : (at : ℕ) (placed : Placed) → placed_at code at ≡ Some placed → placed.at + placed.units < 2 ^ 32
  ends_fit at placed e =
      let s = placed_stands code at placed e in
      laid.fits s.0.0 placed (get_at code.insns s.0.0 placed s.0.1 s.0.2)

  fits_in : (xs : List Placed) → xs ≡ code.insns → units_in xs < 2 ^ 32
  unfolding units_in
  fits_in [] e = omega arith
  fits_in (y ∷ xs) e =
      let l = last_get y xs in
      let g : slice_get code.insns (length xs) ≡ Some l.0 = subst (λ z. slice_get z (length xs) ≡ Some l.0) e l.1 in
      let h = ends (length xs) l.0 g in
      let t : take (suc (length xs)) code.insns ≡ y ∷ xs = subst (λ z. take (suc (length xs)) z ≡ y ∷ xs) e (take_all (y ∷ xs)) in
      let u = ap units_in t in
      let f = laid.fits (length xs) l.0 g in
      omega arith

  fits : units_of code < 2 ^ 32
  unfolding units_of
  fits = fits_in code.insns refl

  stand_in_order : StandInOrder code
  stand_in_order = record { starts = starts; more = λ k placed e. rw add-one (units_take code.insns k placed e); within = within; ends = ends_fit; fits = fits }

pub laid_out_stands : LaidOutStands
laid_out_stands code laid = stand_in_order code laid
