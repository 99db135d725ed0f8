-- What a world is after a call. All that isn't named is as before.
use Rattle.std.specs.Prelude.{◌≡◌, ℕ, ◌+◌, ◌<◌, Bool, true, false, Option, Some, None, slice_set}
use Rattle.cc_meaning.specs.declared.value.Value.{Value}
use Rattle.cc_meaning.specs.declared.value.Object.{Object}
use Rattle.cc_meaning_run.specs.World.{World}
use Rattle.cc_heap.specs.Made.{noted}

-- A world as it is held: beside it the number of its program's texts, for each of which a literal can be noted.
pub record Held : Type 0 where
  pub world : World
  pub texts : ℕ

-- ---- one entry differs

abbrev pub with_object_at : ℕ → Object → World → World
with_object_at id object world = record world { objects = slice_set world.objects id object }

abbrev pub with_static : ℕ → Value → World → World
with_static field value world = record world { statics = slice_set world.statics field value }

abbrev pub with_status : ℕ → ℕ → World → World
with_status class status world = record world { counters = record world.counters { statuses = slice_set world.counters.statuses class status } }

abbrev pub with_literal : ℕ → ℕ → World → World
with_literal text object world = record world { literals = noted text object world.literals }

abbrev pub with_constant : ℕ → ℕ → World → World
with_constant class object world = record world { constants = noted class object world.constants }

abbrev pub with_cursor : ℕ → ℕ → World → World
with_cursor class cursor world = record world { cursors = slice_set world.cursors class cursor }

-- ---- spending

-- So many are taken of what is left, or none where there are too few. `left` is what is left after them.
abbrev pub Spends : (taken before : ℕ) → (answer : Bool) → (left : ℕ) → Type 0
Spends taken before true left = before ≡ left + taken
Spends taken before false left = (before < taken) × (left ≡ before)

-- the same, in the words of the evaluator: what it goes on with, or nothing
abbrev pub AsPaid : Option ℕ → (before : ℕ) → (answer : Bool) → (left : ℕ) → Type 0
AsPaid (Some rest) before answer left = (answer ≡ true) × (left ≡ rest)
AsPaid None before answer left = (answer ≡ false) × (left ≡ before)
