-- The world of a run: one heap, the statics, and all that counts and records.
use Rattle.std.specs.Prelude.{ℕ, List, Option}
use Rattle.cc_meaning.specs.declared.report.Event.{Event}
use Rattle.cc_meaning.specs.declared.value.Cell.{Cell}
use Rattle.cc_meaning.specs.declared.value.Made.{Made}
use Rattle.cc_meaning.specs.declared.value.Object.{Object}
use Rattle.cc_meaning.specs.declared.value.Value.{Value}

-- The instructions and the words that are left, and the status of each class, at its number: 0 not started, 1 in progress, 2 ready, 3 failed.
-- Classes of the file alone are started, so that of any other class stays 0.
pub record Counters : Type 0 where
  pub instructions : ℕ
  pub words : ℕ
  pub statuses : List ℕ

-- An object's number is its place in the list, so a new object gets the number of objects so far.
pub record World : Type 0 where
  pub objects : List Object
  -- the value of each field, at its number
  pub statics : List Value
  -- what was made for literals and for class constants, by rising number of the text or class
  pub literals : List Made
  pub constants : List Made
  pub counters : Counters
  -- how many answers of each class were taken, at its number
  pub cursors : List ℕ
  pub events : List Event

-- the frames that stand, and how many registers they have together
pub record Stack : Type 0 where
  pub depth : ℕ
  pub registers : ℕ

-- what a frame holds: its registers, and what the instruction before left for the next one, a result or an exception
pub record Locals : Type 0 where
  pub cells : List Cell
  pub pending : Option Value
