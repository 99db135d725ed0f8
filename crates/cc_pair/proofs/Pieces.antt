-- Pipes, piece by piece, and fronts of lists.
use Rattle.std.proofs.Common.{◌≡◌, ℕ, ◌+◌, min, List, ◌++◌, length, take, drop, sym, ap, ◌∙◌, append_assoc}
use Rattle.std.proofs.lemmas.List.{drop-drop, take-append-drop, take_min, drop_min}
use Rattle.std.proofs.Math.Seq.{take-add}
use Rattle.std.proofs.Math.Nat.{min_comm}
use Rattle.cc_meaning_nodes.specs.Talk.{IsPrefixOf}
use Rattle.cc_pair.specs.Pairs.{Piped, passed_on}

-- one place on
pub drop_one : {A : Type 0} → (n : ℕ) (xs ys : List A) → drop n xs ≡ ys → drop (n + 1) xs ≡ drop 1 ys
drop_one n xs ys e = sym (drop-drop 1 n xs) ∙ ap (drop 1) e

-- a pipe's bytes by the place that they passed
abbrev at_place : ℕ → List ℕ → Piped
at_place n bytes = record { passed = take n bytes; waiting = drop n bytes }

pub pass_more : (n count : ℕ) (bytes : List ℕ) (pipe : Piped) → at_place n bytes ≡ pipe → at_place (n + count) bytes ≡ passed_on count pipe
pass_more n count bytes pipe e =
    ap (λ (xs : List ℕ). record { passed = xs; waiting = drop (n + count) bytes }) (take-add n count bytes)
    ∙ ap (λ (xs : List ℕ). record { passed = take n bytes ++ take count (drop n bytes); waiting = xs }) (sym (drop-drop count n bytes))
    ∙ ap (passed_on count) e

-- as many as there are
pub pass_min : (count : ℕ) (pipe : Piped) → passed_on (min (length pipe.waiting) count) pipe ≡ passed_on count pipe
pass_min count pipe =
    ap (λ (n : ℕ). passed_on n pipe) (min_comm (length pipe.waiting) count)
    ∙ ap (λ (xs : List ℕ). record { passed = pipe.passed ++ xs; waiting = drop (min count (length pipe.waiting)) pipe.waiting }) (take_min count pipe.waiting)
    ∙ ap (λ (xs : List ℕ). record { passed = pipe.passed ++ take count pipe.waiting; waiting = xs }) (drop_min count pipe.waiting)

pub piece_min : (count : ℕ) (xs : List ℕ) → take (min (length xs) count) xs ≡ take count xs
piece_min count xs = ap (λ (n : ℕ). take n xs) (min_comm (length xs) count) ∙ take_min count xs

-- what passes stays
pub all_stay : (n : ℕ) (pipe : Piped) → (passed_on n pipe).passed ++ (passed_on n pipe).waiting ≡ pipe.passed ++ pipe.waiting
all_stay n pipe = append_assoc pipe.passed (take n pipe.waiting) (drop n pipe.waiting) ∙ ap (λ (xs : List ℕ). pipe.passed ++ xs) (take-append-drop n pipe.waiting)

-- ---- fronts

pub front_of_front : (xs ys zs : List ℕ) → IsPrefixOf xs ys → IsPrefixOf ys zs → IsPrefixOf xs zs
front_of_front xs ys zs p q = (p.0 ++ q.0, sym (append_assoc xs p.0 q.0) ∙ ap (λ (ws : List ℕ). ws ++ q.0) p.1 ∙ q.1)

pub front_behind : (front xs ys : List ℕ) → IsPrefixOf xs ys → IsPrefixOf (front ++ xs) (front ++ ys)
front_behind front xs ys p = (p.0, append_assoc front xs p.0 ∙ ap (λ (ws : List ℕ). front ++ ws) p.1)
