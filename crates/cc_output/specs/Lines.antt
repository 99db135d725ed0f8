-- The lines on notes.
use Rattle.std.specs.Prelude.{ℕ, List, [], ◌∷◌, ◌++◌, codes}

-- a line of this text
abbrev pub line : List ℕ → List ℕ
line text = text ++ 10 ∷ []

-- the line of a run that returned
abbrev pub returned_line : List ℕ
returned_line = line (codes "end return")
