-- Things in the order of their names.
use Rattle.std.specs.Prelude.{ℕ, ◌-◌, ◌<◌, ◌≤◌, List, length, map, slice_index_or, Contains}
use Rattle.cc_meaning.specs.Order.{IsBefore, IsRising}

-- These are of the given things, in rising order of their names, and each thing that is given has the name of one of them. So there are no more of them.
pub record AreInOrder {A : Type 0} (name : A → List ℕ) (given items : List A) : Type 0 where
  pub rise : IsRising (map name items)
  pub among : (item : A) → Contains items item → Contains given item
  pub named : (item : A) → Contains given item → Contains (map name items) (name item)
  pub few : length items ≤ length given

-- a thing's name comes behind that of the last of these, if there is any
abbrev pub IsBehindLast : {A : Type 0} → (A → List ℕ) → List A → A → Type 0
IsBehindLast {A} name items item = (last : A) → 0 < length items → IsBefore (name (slice_index_or items (length items - 1) last)) (name item)
