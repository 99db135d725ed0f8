-- Members that are added to others.
use Rattle.std.proofs.Common.{◌≡◌, ◌⊎◌, ◌↔◌, inl, inr, ℕ, ◌+◌, ◌<◌, List, [], ◌∷◌, ◌++◌, length, get_or, take, Option, sym, ap, subst, ◌∙◌, append_assoc, arith}
use Rattle.std.specs.Prelude.{Contains}
use Rattle.std.proofs.lemmas.List.Elements.{Contains-push_cases, Contains-push, Contains-append_left, filter_map-append}
use Rattle.std.proofs.lemmas.List.{take_more}
use Rattle.std.specs.List.{filter_map, cons_option}
use Rattle.cc_members.specs.Candidates.{IsBelow}

-- one of the first n of these is one of the first n + 1
last_or_before : (k n : ℕ) → k < n + 1 → (k < n) ⊎ (k ≡ n)
last_or_before k n less = grind arith

-- so far nothing is added
pub none_added : {A : Type 0} (made : ℕ → A) (all : List A) (x : A) → Contains all x ↔ (Contains all x ⊎ IsBelow made 0 x)
none_added made all x = (inl, from)
  where
    from : Contains all x ⊎ IsBelow made 0 x → Contains all x
    from (inl here) = here
    from (inr (k, less, is)) = absurd (omega arith)

-- the next one is added
pub one_added : {A : Type 0} (made : ℕ → A) (old all : List A) (n : ℕ) → ((x : A) → Contains all x ↔ (Contains old x ⊎ IsBelow made n x)) → (x : A) → Contains (all ++ made n ∷ []) x ↔ (Contains old x ⊎ IsBelow made (n + 1) x)
one_added {A} made old all n are x = (there, here)
  where
    more : IsBelow made n x → IsBelow made (n + 1) x
    more (k, less, is) = (k, omega arith, is)

    kept : Contains old x ⊎ IsBelow made n x → Contains old x ⊎ IsBelow made (n + 1) x
    kept (inl was) = inl was
    kept (inr below) = inr (more below)

    cases : Contains all x ⊎ (made n ≡ x) → Contains old x ⊎ IsBelow made (n + 1) x
    cases (inl before) = kept ((are x).0 before)
    cases (inr is) = inr (n, omega arith, is)

    there : Contains (all ++ made n ∷ []) x → Contains old x ⊎ IsBelow made (n + 1) x
    there in_all = cases (Contains-push_cases all (made n) x in_all)

    back : (k : ℕ) → made k ≡ x → (k < n) ⊎ (k ≡ n) → Contains (all ++ made n ∷ []) x
    back k is (inl less) = Contains-append_left all (made n ∷ []) x ((are x).1 (inr (k, less, is)))
    back k is (inr same) = subst (Contains (all ++ made n ∷ [])) (ap made (sym same) ∙ is) (Contains-push all (made n))

    here : Contains old x ⊎ IsBelow made (n + 1) x → Contains (all ++ made n ∷ []) x
    here (inl was) = Contains-append_left all (made n ∷ []) x ((are x).1 (inl was))
    here (inr (k, less, is)) = back k is (last_or_before k n less)

-- ---- families

-- one of a family whose number is below this
abbrev pub OfOneBelow : {A : Type 0} → (ℕ → A → Type 0) → ℕ → A → Type 0
OfOneBelow {A} family count x = (number : ℕ) × (number < count) × family number x

pub none_of_any : {A : Type 0} (family : ℕ → A → Type 0) (x : A) → Contains [] x ↔ OfOneBelow family 0 x
none_of_any family x = ((λ here. absurd (omega (arith, here.1))), (λ of. absurd (omega (arith, of.1))))

pub family_added : {A : Type 0} (family : ℕ → A → Type 0) (old all : List A) (n : ℕ) → ((x : A) → Contains old x ↔ OfOneBelow family n x) → ((x : A) → Contains all x ↔ (Contains old x ⊎ family n x)) →
    (x : A) → Contains all x ↔ OfOneBelow family (n + 1) x
family_added {A} family old all n were are x = (there, here)
  where
    more : OfOneBelow family n x → OfOneBelow family (n + 1) x
    more (k, less, is) = (k, omega arith, is)

    cases : Contains old x ⊎ family n x → OfOneBelow family (n + 1) x
    cases (inl was) = more ((were x).0 was)
    cases (inr is) = (n, omega arith, is)

    there : Contains all x → OfOneBelow family (n + 1) x
    there in_all = cases ((are x).0 in_all)

    back : (k : ℕ) → family k x → (k < n) ⊎ (k ≡ n) → Contains all x
    back k is (inl less) = (are x).1 (inl ((were x).1 (k, less, is)))
    back k is (inr same) = (are x).1 (inr (subst (λ (m : ℕ). family m x) same is))

    here : OfOneBelow family (n + 1) x → Contains all x
    here (k, less, is) = back k is (last_or_before k n less)

-- two lots are added
pub both_added : {A : Type 0} (first second : A → Type 0) (old between all : List A) → ((x : A) → Contains between x ↔ (Contains old x ⊎ first x)) → ((x : A) → Contains all x ↔ (Contains between x ⊎ second x)) →
    (x : A) → Contains all x ↔ (Contains old x ⊎ (first x ⊎ second x))
both_added {A} first second old between all one two x = (there, here)
  where
    cases : Contains old x ⊎ first x → Contains old x ⊎ (first x ⊎ second x)
    cases (inl was) = inl was
    cases (inr is) = inr (inl is)

    parts : Contains between x ⊎ second x → Contains old x ⊎ (first x ⊎ second x)
    parts (inl was) = cases ((one x).0 was)
    parts (inr is) = inr (inr is)

    there : Contains all x → Contains old x ⊎ (first x ⊎ second x)
    there in_all = parts ((two x).0 in_all)

    here : Contains old x ⊎ (first x ⊎ second x) → Contains all x
    here (inl was) = (two x).1 (inl ((one x).1 (inl was)))
    here (inr (inl is)) = (two x).1 (inl ((one x).1 (inr is)))
    here (inr (inr is)) = (two x).1 (inr is)

-- ---- what a use makes

-- what the next one makes is added
pub made_more : {A B : Type 0} (f : A → Option B) (old all : List B) (xs : List A) (i : ℕ) (d : A) (o : Option B) → all ≡ old ++ filter_map f (take i xs) → i < length xs → o ≡ f (get_or xs i d) →
    all ++ cons_option o [] ≡ old ++ filter_map f (take (i + 1) xs)
made_more f old all xs i d o so within is =
    let more : filter_map f (take (i + 1) xs) ≡ filter_map f (take i xs) ++ cons_option (f (get_or xs i d)) [] = ap (filter_map f) (take_more xs i d within) ∙ filter_map-append f (take i xs) (get_or xs i d ∷ []) in
    ap (λ made. made ++ cons_option o []) so
    ∙ (append_assoc old (filter_map f (take i xs)) (cons_option o [])
    ∙ (ap (λ made. old ++ (filter_map f (take i xs) ++ cons_option made [])) is ∙ ap (λ made. old ++ made) (sym more)))
