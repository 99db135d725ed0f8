-- The successors of an instruction, by what it goes on to.
use Rattle.std.specs.Prelude.{ℕ, ℤ, List, [], ◌∷◌, ◌++◌, map, Option, Some, None}
use Rattle.cc_meaning_typing.specs.Code.{address}

unfoldable pub next_in : Option ℕ → List (Option ℕ)
next_in None = []
next_in (Some next) = Some next ∷ []

unfoldable pub jump_in : ℕ → Option ℤ → List (Option ℕ)
jump_in at None = []
jump_in at (Some target) = address at target ∷ []

-- the next address, then the target of a jump, then those of the cases of a switch
unfoldable pub successors_in : ℕ → Option ℕ → Option ℤ → List ℤ → List (Option ℕ)
successors_in at next jump cases = next_in next ++ (jump_in at jump ++ map (address at) cases)
