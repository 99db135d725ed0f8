-- A world as it is held, and what it is after a call.
use Rattle.std.specs.Prelude.{◌≡◌, ℕ, ◌+◌, ◌<◌, ◌≤◌, ◌^◌, ◌⊎◌, Bool, true, false, length, Option, Some, None, slice_set}
use Rattle.cc_meaning.specs.declared.value.Object.{Object}
use Rattle.cc_meaning_world.specs.World.{World}
use Rattle.cc_meaning_world.specs.Changes.{with_object_at}
use Rattle.cc_world.specs.Noted.{noted}
use Rattle.cc_world.specs.Shapes.{size_of, values_of}

-- How many objects, values of objects and events can still be put in without memory.
pub record Spare : Type 0 where
  pub objects : ℕ
  pub slots : ℕ
  pub events : ℕ

-- A world, the number of its program's texts, for each of which a literal can be noted, and the room that is spare.
pub record Held : Type 0 where
  pub world : World
  pub texts : ℕ
  pub spare : Spare

-- ---- one entry differs

-- that object is written at a number, and nothing else
abbrev pub IsWritten : Option Object → ℕ → (old new : Held) → Type 0
IsWritten None id old new = ⊥
IsWritten (Some o) id old new = new ≡ record old { world = with_object_at old.world id o }

abbrev pub with_noted_literal : ℕ → ℕ → World → World
with_noted_literal text object world = record world { literals = noted text object world.literals }

abbrev pub with_noted_constant : ℕ → ℕ → World → World
with_noted_constant class object world = record world { constants = noted class object world.constants }

abbrev pub with_cursor : ℕ → ℕ → World → World
with_cursor class cursor world = record world { cursors = slice_set world.cursors class cursor }

-- ---- room

-- a world is as before but for the room that is spare, of which there is no less
pub record SameWorld (old new : Held) : Type 0 where
  pub world : new.world ≡ old.world
  pub texts : new.texts ≡ old.texts
  pub objects : old.spare.objects ≤ new.spare.objects
  pub slots : old.spare.slots ≤ new.spare.slots
  pub events : old.spare.events ≤ new.spare.events

-- after an object was put in, which takes room for one object and for its values
pub record TakesObject (o : Object) (old new : Spare) : Type 0 where
  pub objects : old.objects ≤ new.objects + 1
  pub slots : old.slots ≤ new.slots + length (values_of o)
  pub events : new.events ≡ old.events

-- after an event was put in
pub record TakesEvent (old new : Spare) : Type 0 where
  pub objects : new.objects ≡ old.objects
  pub slots : new.slots ≡ old.slots
  pub events : old.events ≤ new.events + 1

-- An object is refused only where there is no room for it or for its values, or where it holds more of them than 32 bits count.
abbrev pub LacksRoom : Object → Spare → Type 0
LacksRoom o spare = (spare.objects ≡ 0) ⊎ ((spare.slots < length (values_of o)) ⊎ (2 ^ 32 ≤ size_of o))

-- there is room for so many
pub record HasRoom (makes values records : ℕ) (spare : Spare) : Type 0 where
  pub objects : makes ≤ spare.objects
  pub slots : values ≤ spare.slots
  pub events : records ≤ spare.events

-- ---- spending

-- So many are taken of what is left, or none where there are too few. `left` is what is left after them.
abbrev pub Spends : (taken before : ℕ) → (answer : Bool) → (left : ℕ) → Type 0
Spends taken before true left = before ≡ left + taken
Spends taken before false left = (before < taken) × (left ≡ before)

-- the same, in the words of the evaluator: what it goes on with, or nothing
abbrev pub AsPaid : Option ℕ → (before : ℕ) → (answer : Bool) → (left : ℕ) → Type 0
AsPaid (Some rest) before answer left = (answer ≡ true) × (left ≡ rest)
AsPaid None before answer left = (answer ≡ false) × (left ≡ before)
