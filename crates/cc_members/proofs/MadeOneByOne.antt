-- One more thing made from a plan.
use Rattle.std.proofs.Common.{◌≡◌, ◌⊎◌, inl, inr, ℕ, zero, suc, ◌+◌, List, [], ◌∷◌, ◌++◌, length, map, Some, refl, sym, ap, subst, ◌∙◌, length-append, arith}
use Rattle.std.specs.Prelude.{slice_get}
use Rattle.cc_meaning_program.proofs.Alike.{same_lists, length_map}
use Rattle.cc_meaning_program.proofs.SameNames.{found_mapped}
use Rattle.cc_members.specs.Made.{EachMade}

last_or_before : {A : Type 0} (xs : List A) (x y : A) (k : ℕ) → slice_get (xs ++ x ∷ []) k ≡ Some y → (slice_get xs k ≡ Some y) ⊎ ((k ≡ length xs) × (x ≡ y))
last_or_before [] x y zero e = inr (refl, cc)
last_or_before [] x y (suc k) e = absurd (cc)
last_or_before (z ∷ zs) x y zero e = inl e
last_or_before (z ∷ zs) x y (suc k) e = elim (last_or_before zs x y k e) [ inl before ↦ inl before | inr last ↦ inr (omega (arith, last.0), last.1) ]

pub none_made : {P A : Type 0} (holds : P → A → Type 0) (plans : List P) → EachMade holds plans [] 0
none_made holds plans = record { all = refl; each = λ number plan item there made. absurd (cc) }

pub one_more_made : {P A : Type 0} (holds : P → A → Type 0) (plans : List P) (made : List A) (count : ℕ) (plan : P) (item : A) → EachMade holds plans made count → slice_get plans count ≡ Some plan → holds plan item →
    EachMade holds plans (made ++ item ∷ []) (count + 1)
one_more_made {P} {A} holds plans made count plan item are there is = record {
  all = length-append made (item ∷ []) ∙ ap (λ (n : ℕ). n + 1) are.all;
  each = λ number other another planned at. each number other another planned (last_or_before made item another number at);
}
  where
    each : (number : ℕ) (other : P) (another : A) → slice_get plans number ≡ Some other → (slice_get made number ≡ Some another) ⊎ ((number ≡ length made) × (item ≡ another)) → holds other another
    each number other another planned (inl before) = are.each number other another planned before
    each number other another planned (inr last) =
        let place : number ≡ count = last.0 ∙ are.all in
        let same : plan ≡ other = let e : Some plan ≡ Some other = sym there ∙ ap (slice_get plans) (sym place) ∙ planned in cc in
        subst (λ (p : P). holds p another) same (subst (holds plan) last.1 is)

-- what is made of all plans has their names, where each has that of its plan
pub all_named : {P A B : Type 0} (holds : P → A → Type 0) (plans : List P) (made : List A) (planned : P → B) (named : A → B) → EachMade holds plans made (length plans) →
    ((number : ℕ) (plan : P) (item : A) → slice_get plans number ≡ Some plan → holds plan item → named item ≡ planned plan) → map named made ≡ map planned plans
all_named {P} {A} {B} holds plans made planned named are same = same_lists (map named made) (map planned plans) (length_map named made ∙ are.all ∙ sym (length_map planned plans)) each
  where
    each : (k : ℕ) (x y : B) → slice_get (map named made) k ≡ Some x → slice_get (map planned plans) k ≡ Some y → x ≡ y
    each k x y here there =
        let (item, at, of_item) = found_mapped named made k x here in
        let (plan, stands, of_plan) = found_mapped planned plans k y there in
        sym of_item ∙ same k plan item stands (are.each k plan item stands at) ∙ of_plan
