-- What is left of a text behind units.
use Rattle.std.proofs.Common.{◌≡◌, ◌||◌, take, ℕ, zero, suc, ◌<◌, ◌+◌, ◌-◌, replicate, get_or, add-one, drop-cons, ◌==◌, Bool, true, false, List, [], ◌∷◌, ◌++◌, Option, Some, None, ◌∙◌, ap, sym, refl, arith, length, drop}
use Rattle.std.specs.Prelude.{option_and_then, if◌then◌else◌}
use Rattle.std.specs.List.{flat_map, list_any}
use Rattle.std.specs.Str.{bytes_eq}
use Rattle.std.proofs.lemmas.List.Concat.{flat_map-cons}
use Rattle.std.proofs.lemmas.Grind.{common_steps}
use Rattle.cc_units.specs.Matching.{without}

joined : (same : Bool) (all first : Option (List ℕ)) (b : List ℕ) → all ≡ option_and_then (λ rest. without rest b) first →
    (if same then all else None) ≡ option_and_then (λ rest. without rest b) (if same then first else None)
joined true all first b e = e
joined false all first b e = refl

-- what is left behind two pieces
pub behind_both : (text a b : List ℕ) → without text (a ++ b) ≡ option_and_then (λ rest. without rest b) (without text a)
unfolding without
behind_both text [] b = refl
behind_both [] (u ∷ a) b = refl
behind_both (t ∷ text) (u ∷ a) b = joined (t == u) (without text (a ++ b)) (without text a) b (behind_both text a b)

-- an empty text doesn't begin with what is left
pub nothing_left : (rest units : List ℕ) (i : ℕ) → length rest ≡ 0 → i < length units → without rest (drop i units) ≡ None
unfolding without
nothing_left [] [] i h e = absurd (omega (arith, e))
nothing_left [] (u ∷ units) zero h e = refl
nothing_left [] (u ∷ units) (suc i) h e = nothing_left [] units i h (omega (arith, e))
nothing_left (t ∷ rest) units i h e = absurd (omega (arith, h))

-- ---- the steps of a loop over pieces

pub next_piece : {A : Type 0} (f : A → List ℕ) (xs : List A) (i : ℕ) (x : A) (rest more : List ℕ) → i < length xs → without rest (f (get_or xs i x)) ≡ Some more →
    without rest (flat_map f (drop i xs)) ≡ without more (flat_map f (drop (i + 1) xs))
next_piece f xs i x rest more h left =
    let split : drop i xs ≡ get_or xs i x ∷ drop (i + 1) xs = rw (add-one, drop-cons xs i x) refl in
    rw (split, flat_map-cons f (get_or xs i x) (drop (i + 1) xs), behind_both rest (f (get_or xs i x)) (flat_map f (drop (i + 1) xs)), left) refl

pub no_piece : {A : Type 0} (f : A → List ℕ) (xs : List A) (i : ℕ) (x : A) (rest : List ℕ) → i < length xs → without rest (f (get_or xs i x)) ≡ None →
    without rest (flat_map f (drop i xs)) ≡ None
no_piece f xs i x rest h left =
    let split : drop i xs ≡ get_or xs i x ∷ drop (i + 1) xs = rw (add-one, drop-cons xs i x) refl in
    rw (split, flat_map-cons f (get_or xs i x) (drop (i + 1) xs), behind_both rest (f (get_or xs i x)) (flat_map f (drop (i + 1) xs)), left) refl

-- ---- the whole

-- nothing is left
abbrev is_whole : Option (List ℕ) → Bool
is_whole None = false
is_whole (Some []) = true
is_whole (Some (t ∷ rest)) = false

whole : (text units : List ℕ) → is_whole (without text units) ≡ bytes_eq units text
unfolding without
whole [] [] = refl
whole (t ∷ text) [] = refl
whole [] (u ∷ units) = refl
whole (t ∷ text) (u ∷ units) = grind (arith, common_steps, whole text units)

emptied : (rest : List ℕ) → (length rest == 0) ≡ is_whole (Some rest)
emptied [] = refl
emptied (t ∷ rest) = grind (arith, common_steps)

pub whole_of : (text units rest : List ℕ) → Some rest ≡ without text units → (length rest == 0) ≡ bytes_eq units text
whole_of text units rest left = emptied rest ∙ ap is_whole left ∙ whole text units

pub not_whole : (text units : List ℕ) → without text units ≡ None → false ≡ bytes_eq units text
not_whole text units left = ap is_whole (sym left) ∙ whole text units
