-- A text is shown character by character.
use Rattle.std.proofs.Common.{◌≡◌, ℕ, ◌+◌, ◌<◌, ◌≤◌, List, ◌∷◌, ◌++◌, length, drop, sym, ap, ◌∙◌, slice_index_or}
use Rattle.std.specs.List.{flat_map}
use Rattle.std.proofs.lemmas.List.{append_assoc, append-nil, drop_more}
use Rattle.std.proofs.Math.ListN.{drop_of_length-le}

-- what is shown already, and of the characters from place i on, is the whole
abbrev pub Shows : (ℕ → List ℕ) → List ℕ → List ℕ → ℕ → List ℕ → Type 0
Shows f line cs i whole = line ++ flat_map f (drop i cs) ≡ whole

pub shows_more : (f : ℕ → List ℕ) (line line' cs whole : List ℕ) (i c : ℕ) → (i < length cs) × (c ≡ slice_index_or cs i c) → line' ≡ line ++ f c → Shows f line cs i whole → Shows f line' cs (i + 1) whole
shows_more f line line' cs whole i c here e shows =
    let next : drop i cs ≡ c ∷ drop (i + 1) cs = drop_more cs i c here.0 ∙ ap (λ (x : ℕ). x ∷ drop (i + 1) cs) (sym here.1) in
    ap (λ (l : List ℕ). l ++ flat_map f (drop (i + 1) cs)) e ∙ append_assoc line (f c) (flat_map f (drop (i + 1) cs))
    ∙ ap (λ (rest : List ℕ). line ++ flat_map f rest) (sym next) ∙ shows

pub shows_all : (f : ℕ → List ℕ) (line cs whole : List ℕ) (i : ℕ) → length cs ≤ i → Shows f line cs i whole → line ≡ whole
shows_all f line cs whole i h shows = sym (append-nil line) ∙ ap (λ (rest : List ℕ). line ++ flat_map f rest) (sym (drop_of_length-le cs h)) ∙ shows
