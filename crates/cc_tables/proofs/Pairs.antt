-- Two lists of things that belong together one by one.
use Rattle.std.proofs.Common.{List, [], ◌∷◌, ◌++◌}
use Rattle.cc_meaning_dex.specs.Classes.{EachPair}

-- one more of each
pub each_push : {A B : Type 0} (holds : A → B → Type 0) (xs : List A) (ys : List B) (x : A) (y : B) → EachPair holds xs ys → holds x y → EachPair holds (xs ++ x ∷ []) (ys ++ y ∷ [])
each_push holds [] [] x y pairs here = (here, tt)
each_push holds [] (b ∷ ys) x y pairs here = absurd pairs
each_push holds (a ∷ xs) [] x y pairs here = absurd pairs
each_push holds (a ∷ xs) (b ∷ ys) x y (first, rest) here = (first, each_push holds xs ys x y rest here)
