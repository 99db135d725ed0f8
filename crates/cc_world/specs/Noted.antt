-- What was made for the literals and the class constants of a program: a list by rising `what`.
use Rattle.std.specs.Prelude.{ℕ, suc, ◌<◌, ◌==◌, cond, nat_lt, List, [], ◌∷◌, Option, Some, None}
use Rattle.cc_meaning.specs.declared.value.Made.{Made}

-- An object is noted at its place in the order, in the stead of one that was made for the same before.
abbrev pub noted : ℕ → ℕ → List Made → List Made
noted what number [] = record { what = what; number = number } ∷ []
noted what number (made ∷ rest) = cond (nat_lt made.what what) (made ∷ noted what number rest)
    (record { what = what; number = number } ∷ cond (made.what == what) rest (made ∷ rest))

-- all are at least `from`, and each is above the one before it
abbrev pub RisesFrom : ℕ → List Made → Type 0
RisesFrom from [] = Unit {0}
RisesFrom from (made ∷ rest) = (from < suc made.what) × RisesFrom (suc made.what) rest

abbrev pub Rises : List Made → Type 0
Rises made = RisesFrom 0 made

-- each is for one of so many texts or classes, and is one of so many objects
abbrev pub InRange : (whats objects : ℕ) → List Made → Type 0
InRange whats objects [] = Unit {0}
InRange whats objects (made ∷ rest) = ((made.what < whats) × (made.number < objects)) × InRange whats objects rest

-- The list of a row that has a place for each text or class, from number `from` on.
abbrev pub made_from : ℕ → List (Option ℕ) → List Made
made_from from [] = []
made_from from (None ∷ rest) = made_from (suc from) rest
made_from from (Some number ∷ rest) = record { what = from; number = number } ∷ made_from (suc from) rest

abbrev pub made_in : List (Option ℕ) → List Made
made_in row = made_from 0 row

-- what a row names is one of so many objects
abbrev pub NamesBelow : ℕ → List (Option ℕ) → Type 0
NamesBelow objects [] = Unit {0}
NamesBelow objects (None ∷ rest) = NamesBelow objects rest
NamesBelow objects (Some number ∷ rest) = (number < objects) × NamesBelow objects rest
