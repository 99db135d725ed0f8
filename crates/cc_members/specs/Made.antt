-- What is made from plans, one by one.
use Rattle.std.specs.Prelude.{◌≡◌, ℕ, List, length, slice_get, Some}

-- from each of the first so many plans something is made, and nothing else
pub record EachMade {P A : Type 0} (holds : P → A → Type 0) (plans : List P) (made : List A) (count : ℕ) : Type 0 where
  pub all : length made ≡ count
  pub each : (number : ℕ) (plan : P) (item : A) → slice_get plans number ≡ Some plan → slice_get made number ≡ Some item → holds plan item
