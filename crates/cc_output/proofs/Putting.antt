-- A line is put piece by piece.
use Rattle.std.proofs.Common.{◌≡◌, ℕ, List, [], ◌∷◌, ◌++◌, refl, append_assoc}

pub in_pieces : (front word digits middle words a b c d : List ℕ) → a ≡ front ++ (word ++ digits) → b ≡ a ++ middle → c ≡ b ++ words → d ≡ c ++ 10 ∷ []
    → d ≡ front ++ ((word ++ (digits ++ (middle ++ words))) ++ 10 ∷ [])
in_pieces front word digits middle words a b c d ea eb ec ed = simp (append_assoc, ed, ec, eb, ea) refl
