-- The state of a run that is paused: frames that wait, and what is done next.
use Rattle.std.specs.Prelude.{ℕ, List, [], ◌∷◌, Option, Some, None}
use Rattle.cc_meaning.specs.declared.value.Value.{Value}
use Rattle.cc_meaning_world.specs.World.{World, Stack}
use Rattle.cc_meaning_exec.specs.Frames.{Frame}
use Rattle.cc_meaning_exec.specs.Exceptions.{End}

-- What a frame waits for: the end of a call, to go on at an address with its result; or the end of the initialiser of a class, behind which other classes are
-- to be started before its instruction acts.
pub data Wait : Type 0 where
  Result : (next : ℕ) → Wait
  Start : (class : ℕ) → List ℕ → Wait

pub record Waiting : Type 0 where
  pub frame : Frame
  pub wait : Wait

-- What stands below the frames: nothing; or the call of a method that waits for the end of the initialiser of a class, behind which other classes are to be
-- started.
pub data Base : Type 0 where
  Bare : Base
  Opening : (class : ℕ) → List ℕ → (method : ℕ) → List Value → Base

-- the frames that wait, the uppermost first, and what stands below them
pub record Frames : Type 0 where
  pub waiting : List Waiting
  pub base : Base

abbrev pub standing : List Waiting → Base → Frames
standing waiting base = record { waiting = waiting; base = base }

abbrev pub bottom : Base → Frames
bottom base = standing [] base

abbrev pub waits_for : Frame → Wait → Waiting
waits_for f wait = record { frame = f; wait = wait }

abbrev pub over : Waiting → Frames → Frames
over x frames = standing (x ∷ frames.waiting) frames.base

-- A frame runs; or classes are to be started, the first one next, and then its instruction acts, which is spent already; or a call stands at its entry; or an
-- end is to be given to the frame that waits for it, or is the run's where none does; or classes are to be started before a method is called.
pub data State : Type 0 where
  Running : Frame → Frames → World → State
  Starting : List ℕ → Frame → Frames → World → State
  Calling : (method : ℕ) → List Value → Stack → Frames → World → State
  Ending : End → Frames → World → State
  Launching : List ℕ → (method : ℕ) → List Value → World → State

abbrev pub world_of : State → World
world_of (Running f frames w) = w
world_of (Starting cs f frames w) = w
world_of (Calling m args stack frames w) = w
world_of (Ending e frames w) = w
world_of (Launching cs m args w) = w

-- ---- the end of a run

abbrev pub GoesOnOver : List Waiting → Base → Type 0
GoesOnOver [] Bare = ⊥
GoesOnOver [] (Opening c cs m args) = Unit {0}
GoesOnOver (x ∷ xs) below = Unit {0}

-- a run that isn't at its end, which is an end that nothing waits for
abbrev pub GoesOn : State → Type 0
GoesOn (Running f frames w) = Unit {0}
GoesOn (Starting cs f frames w) = Unit {0}
GoesOn (Calling m args stack frames w) = Unit {0}
GoesOn (Ending e frames w) = GoesOnOver frames.waiting frames.base
GoesOn (Launching cs m args w) = Unit {0}

-- ---- marks

-- what a hook is asked and told on the way
pub data Mark : Type 0 where
  Entered : (method : ℕ) → List Value → Stack → World → Mark
  Spent : (method : ℕ) → Mark
  Called : (method : ℕ) → Mark
  Ended : (method : ℕ) → End → World → Mark
