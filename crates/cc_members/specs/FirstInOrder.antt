-- The first thing of each name.
use Rattle.std.specs.Prelude.{◌≡◌, ℕ, List, Contains}
use Rattle.cc_meaning_program.specs.Searches.{First}

-- each of these is the first of its name among the given things
abbrev pub AreFirst : {A : Type 0} → (A → List ℕ) → List A → List A → Type 0
AreFirst {A} name given items = (item : A) → Contains items item → First (λ (other : A). name other ≡ name item) given item
