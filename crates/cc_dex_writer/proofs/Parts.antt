-- Parts are put one behind the other.
use Rattle.std.proofs.Common.{◌≡◌, ℕ, ◌<◌, ◌^◌, List, ◌∷◌, ◌++◌, ap, ◌∙◌, arith}
use Rattle.std.proofs.lemmas.List.{append_assoc}
use Rattle.cc_dex_writer.specs.Layout.{stated_place}

-- what is put by a list is put by one that is the same
pub put_same : {A : Type 0} (out out' : List ℕ) (form : A → List ℕ) (these those : A) → out' ≡ out ++ form these → these ≡ those → out' ≡ out ++ form those
put_same out out' form these those put same = put ∙ ap (λ rows. out ++ form rows) same

-- what is put in two steps is put in one
pub put_both : (out out' out'' front back : List ℕ) → out' ≡ out ++ front → out'' ≡ out' ++ back → out'' ≡ out ++ (front ++ back)
put_both out out' out'' front back first second = second ∙ ap (λ (bytes : List ℕ). bytes ++ back) first ∙ append_assoc out front back

pub cons_same : (a b : ℕ) (xs ys : List ℕ) → a ≡ b → xs ≡ ys → a ∷ xs ≡ b ∷ ys
cons_same a b xs ys first rest = ap (λ (x : ℕ). x ∷ xs) first ∙ ap (λ (more : List ℕ). b ∷ more) rest

-- a count that 32 bits hold is stated as it is
pub counted : (stated rows count : ℕ) → (rows < 2 ^ 32 → stated ≡ rows) → rows ≡ count → count < 2 ^ 32 → stated ≡ count
counted stated rows count number is fits = number (omega (arith, is, fits)) ∙ is

-- so is a place
pub placed : (stated rows count at place : ℕ) → (at < 2 ^ 32 → stated ≡ stated_place rows at) → rows ≡ count → at ≡ place → place < 2 ^ 32 → stated ≡ stated_place count place
placed stated rows count at place states is there fits =
    states (omega (arith, there, fits)) ∙ ap (λ (n : ℕ). stated_place n at) is ∙ ap (stated_place count) there
