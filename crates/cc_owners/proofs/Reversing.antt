-- Pushing a list from its end.
use Rattle.std.proofs.Common.{◌≡◌, ℕ, ◌+◌, ◌<◌, List, [], ◌∷◌, ◌++◌, length, get_or, take, refl, sym, ap, ◌∙◌}
use Rattle.std.specs.Prelude.{reverse}
use Rattle.std.proofs.lemmas.List.{take_more, reverse-append}
use Rattle.cc_owners.proofs.Lists.{together, ends_empty}

pub reversed_more : (xs before after whole : List ℕ) (n k next : ℕ) → n < length xs → k ≡ n + 1 → next ≡ n → after ≡ before ++ get_or xs n 0 ∷ [] → before ++ reverse (take k xs) ≡ whole → after ++ reverse (take next xs) ≡ whole
reversed_more xs before after whole n k next within k_is next_is pushed so_far =
    let turned : reverse (take k xs) ≡ (get_or xs n 0 ∷ []) ++ reverse (take n xs) =
    ap (λ j. reverse (take j xs)) k_is ∙ (ap reverse (take_more xs n 0 within) ∙ reverse-append (take n xs) (get_or xs n 0 ∷ [])) in
    ap (λ j. after ++ reverse (take j xs)) next_is
    ∙ (ap (λ s. s ++ reverse (take n xs)) pushed
    ∙ (together before (get_or xs n 0 ∷ []) (reverse (take n xs)) ∙ (sym (ap (λ l. before ++ l) turned) ∙ so_far)))

none_taken : (xs : List ℕ) → take 0 xs ≡ []
none_taken [] = refl
none_taken (x ∷ xs) = refl

pub reversed_all : (xs stack whole : List ℕ) (k : ℕ) → k ≡ 0 → stack ++ reverse (take k xs) ≡ whole → stack ≡ whole
reversed_all xs stack whole k none so_far = sym (ends_empty stack) ∙ (sym (ap (λ j. stack ++ reverse (take j xs)) none ∙ ap (λ l. stack ++ reverse l) (none_taken xs)) ∙ so_far)
