-- What a type's spelling is.
use Rattle.std.specs.Prelude.{ℕ, List}

abbrev pub Spelling : Type 0 → Type 0
Spelling A = A → List ℕ
