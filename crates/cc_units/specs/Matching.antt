-- What is left of a text behind units with which it begins.
use Rattle.std.specs.Prelude.{ℕ, ◌==◌, List, [], ◌∷◌, Option, Some, None, if◌then◌else◌}

unfoldable pub without : List ℕ → List ℕ → Option (List ℕ)
without text [] = Some text
without [] (u ∷ units) = None
without (t ∷ text) (u ∷ units) = if t == u then without text units else None
