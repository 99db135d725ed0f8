-- The brackets that a descriptor begins with, counted one by one.
use Rattle.std.proofs.Common.{◌≡◌, ◌≢◌, ℕ, suc, ◌+◌, ◌<◌, ◌≤◌, List, ◌∷◌, length, drop, slice_index_or, refl, add-one, drop-cons}
use Rattle.std.proofs.lemmas.Bool.{ne_eqb}
use Rattle.std.proofs.Math.ListN.{drop_of_length-le}
use Rattle.cc_meaning_typing.specs.Code.{brackets, behind_brackets}

brackets_more : (unit : ℕ) (units : List ℕ) → unit ≡ 91 → (brackets (unit ∷ units) ≡ suc (brackets units)) × (behind_brackets (unit ∷ units) ≡ behind_brackets units)
unfolding brackets behind_brackets
brackets_more unit units e = rw e (refl, refl)

brackets_end : (unit : ℕ) (units : List ℕ) → unit ≢ 91 → (brackets (unit ∷ units) ≡ 0) × (behind_brackets (unit ∷ units) ≡ unit ∷ units)
unfolding brackets behind_brackets
brackets_end unit units h = let e = ne_eqb unit 91 h in rw e (refl, refl)

pub brackets_on : (name : List ℕ) (at : ℕ) → at < length name → slice_index_or name at 0 ≡ 91 → (brackets (drop at name) ≡ suc (brackets (drop (at + 1) name))) × (behind_brackets (drop at name) ≡ behind_brackets (drop (at + 1) name))
brackets_on name at l e = rw (add-one, drop-cons name at 0) (brackets_more _ _ e)

pub brackets_off : (name : List ℕ) (at : ℕ) → at < length name → slice_index_or name at 0 ≢ 91 → (brackets (drop at name) ≡ 0) × (behind_brackets (drop at name) ≡ drop at name)
brackets_off name at l h = rw (drop-cons name at 0) (brackets_end _ _ h)

pub no_brackets : (name : List ℕ) (at : ℕ) → length name ≤ at → (brackets (drop at name) ≡ 0) × (behind_brackets (drop at name) ≡ drop at name)
unfolding brackets behind_brackets
no_brackets name at l = rw (drop_of_length-le name l) (refl, refl)
