-- Lists that rise: what stands in them gives them.
use Rattle.std.proofs.Common.{◌≡◌, ◌↔◌, ◌⊎◌, inl, inr, ℕ, zero, suc, ◌<◌, List, [], ◌∷◌, length, get_or, sym, subst, refl, arith}
use Rattle.std.specs.Prelude.{Contains}
use Rattle.std.specs.Cmp.Lexicographic.{slice_cmp}
use Rattle.std.specs.Ordering.{nat_cmp}
use Rattle.std.specs.declared.cmp.Ordering.TheVariants.{Equal}
use Rattle.std.proofs.lemmas.Cmp.{nat_list_cmp_total, tied_itself}
use Rattle.cc_meaning.specs.Order.{IsBefore, IsRising}
use Rattle.cc_meaning_program.specs.ClassNames.{OneClassNames, OneTexts}

pub not_before_itself : (name : List ℕ) → IsBefore name name → ⊥
not_before_itself name less =
    let same : slice_cmp nat_cmp name name ≡ Equal = tied_itself nat_list_cmp_total name in
    absurd cc

not_before_both : (a b : List ℕ) → IsBefore a b → IsBefore b a → ⊥
not_before_both a b ab ba = not_before_itself a (nat_list_cmp_total.trans a b a ab ba)

contains_cases : {A : Type 0} (x : A) (xs : List A) (y : A) → Contains (x ∷ xs) y → (x ≡ y) ⊎ Contains xs y
contains_cases x xs y (zero, within, is) = inl is
contains_cases x xs y (suc k, within, is) = inr (k, omega arith, is)

contains_first : {A : Type 0} (x : A) (xs : List A) → Contains (x ∷ xs) x
contains_first x xs = (0, omega arith, refl)

contains_later : {A : Type 0} (x : A) (xs : List A) (y : A) → Contains xs y → Contains (x ∷ xs) y
contains_later x xs y (k, within, is) = (suc k, omega arith, is)

before_later : (x : List ℕ) (xs : List (List ℕ)) (y : List ℕ) → IsRising (x ∷ xs) → Contains xs y → IsBefore x y
before_later x xs y rise (k, within, is) = subst (IsBefore x) is (rise 0 (suc k) y (omega arith) (omega arith))

rest_rises : (x : List ℕ) (xs : List (List ℕ)) → IsRising (x ∷ xs) → IsRising xs
rest_rises x xs rise i j d below within = rise (suc i) (suc j) d (omega arith) (omega arith)

first_is : (x y : List ℕ) (xs ys : List (List ℕ)) → IsRising (x ∷ xs) → IsRising (y ∷ ys) → Contains (y ∷ ys) x → Contains (x ∷ xs) y → x ≡ y
first_is x y xs ys up other there here = from (contains_cases y ys x there) (contains_cases x xs y here)
  where
    from : (y ≡ x) ⊎ Contains ys x → (x ≡ y) ⊎ Contains xs y → x ≡ y
    from (inl same) b = sym same
    from (inr later) (inl same) = same
    from (inr later) (inr also) = absurd (not_before_both x y (before_later x xs y up also) (before_later y ys x other later))

-- what a list has behind its first, another has behind the same
rest_has : (x y : List ℕ) (xs ys : List (List ℕ)) (name : List ℕ) → x ≡ y → IsRising (x ∷ xs) → Contains xs name → Contains (y ∷ ys) name → Contains ys name
rest_has x y xs ys name same up here there = from (contains_cases y ys name there)
  where
    from : (y ≡ name) ⊎ Contains ys name → Contains ys name
    from (inl first) = absurd (not_before_itself name (let e : x ≡ name = cc in subst (λ n. IsBefore n name) e (before_later x xs name up here)))
    from (inr later) = later

-- two lists that rise and have the same elements are one
pub one_rising : (these those : List (List ℕ)) → IsRising these → IsRising those → ((name : List ℕ) → Contains these name ↔ Contains those name) → these ≡ those
one_rising [] [] up other same = refl
one_rising [] (y ∷ ys) up other same = absurd (let none = (same y).1 (contains_first y ys) in omega (arith, none.1))
one_rising (x ∷ xs) [] up other same = absurd (let none = (same x).0 (contains_first x xs) in omega (arith, none.1))
one_rising (x ∷ xs) (y ∷ ys) up other same =
    let first : x ≡ y = first_is x y xs ys up other ((same x).0 (contains_first x xs)) ((same y).1 (contains_first y ys)) in
    let rest : xs ≡ ys = one_rising xs ys (rest_rises x xs up) (rest_rises y ys other) (λ name. (
      λ here. rest_has x y xs ys name first up here ((same name).0 (contains_later x xs name here)),
      λ there. rest_has y x ys xs name (sym first) other there ((same name).1 (contains_later y ys name there)),
    )) in
    cc

pub one_class_names : OneClassNames
one_class_names ids these those a b = one_rising these those a.rise b.rise (λ name. (λ h. (b.are name).1 ((a.are name).0 h), λ h. (a.are name).1 ((b.are name).0 h)))

pub one_texts : OneTexts
one_texts ids these those a b = one_rising these those a.rise b.rise (λ text. (λ h. (b.are text).1 ((a.are text).0 h), λ h. (a.are text).1 ((b.are text).0 h)))

-- ---- places

lt_cases : (i j : ℕ) → (i < j) ⊎ ((j < i) ⊎ (i ≡ j))
lt_cases i j = grind arith

-- names that are one stand at one place
pub one_place : (names : List (List ℕ)) → IsRising names → (i j : ℕ) (d : List ℕ) → i < length names → j < length names → get_or names i d ≡ get_or names j d → i ≡ j
one_place names rise i j d here there same = from (lt_cases i j)
  where
    from : (i < j) ⊎ ((j < i) ⊎ (i ≡ j)) → i ≡ j
    from (inl below) = absurd (not_before_itself (get_or names j d) (subst (λ n. IsBefore n (get_or names j d)) same (rise i j d below there)))
    from (inr (inl above)) = absurd (not_before_itself (get_or names j d) (subst (λ n. IsBefore (get_or names j d) n) same (rise j i d above here)))
    from (inr (inr is)) = is
