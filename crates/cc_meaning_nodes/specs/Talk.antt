-- What a node that answers the frames of a stream says, and where it stands then.
use Rattle.std.specs.Prelude.{◌≡◌, ℕ, List, [], ◌∷◌, ◌++◌, Result, Ok, Err}
use Rattle.cc_meaning.specs.declared.frame.Frame.{Frame}
use Rattle.cc_meaning.specs.declared.fault.FrameFault.{FrameFault}
use Rattle.cc_meaning_nodes.specs.Frames.{Ending, Rest, Fails, Frames, ends, with_frame, frames_of, frames_from, IsPartial}

-- what is said to a frame, and the next place, or why the node closes
pub record Reply (Place Cause : Type 0) : Type 0 where
  pub said : List ℕ
  pub next : Result Place Cause

-- what a node goes by: what it says to a frame at a place, and why it closes at a fault of a frame
pub record Manner (Place Cause : Type 0) : Type 0 where
  pub answer : Place → Frame → Reply Place Cause
  pub broken : FrameFault → Cause

module _ {Place Cause : Type 0} where
  -- the replies to frames, one after another; a closed node says nothing
  abbrev pub replies_to : Manner Place Cause → Result Place Cause → List Frame → List ℕ
  replies_to manner place [] = []
  replies_to manner (Err cause) (f ∷ fs) = []
  replies_to manner (Ok place) (f ∷ fs) = (manner.answer place f).said ++ replies_to manner (manner.answer place f).next fs

  -- the place after them
  abbrev pub place_after : Manner Place Cause → Result Place Cause → List Frame → Result Place Cause
  place_after manner place [] = place
  place_after manner (Err cause) (f ∷ fs) = Err cause
  place_after manner (Ok place) (f ∷ fs) = place_after manner (manner.answer place f).next fs

-- where a node stands: at a place, with the bytes of its present frame, or closed
pub data Standing (Place Cause : Type 0) : Type 0 where
  Open : (place : Place) → (held : List ℕ) → Standing Place Cause
  Closed : (cause : Cause) → Standing Place Cause

-- what a node said, and where it stands then
pub record Talk (Place Cause : Type 0) : Type 0 where
  pub said : List ℕ
  pub standing : Standing Place Cause

module _ {Place Cause : Type 0} where
  -- a place and what came of its next frame; a fault of it closes the node
  abbrev pub stands_at : Manner Place Cause → Result Place Cause → Ending → Standing Place Cause
  stands_at manner (Err cause) e = Closed cause
  stands_at manner (Ok place) (Rest held) = Open place held
  stands_at manner (Ok place) (Fails fault) = Closed (manner.broken fault)

  abbrev pub talk_by : Manner Place Cause → Place → Frames → Talk Place Cause
  talk_by manner place fs = record { said = replies_to manner (Ok place) fs.frames; standing = stands_at manner (place_after manner (Ok place) fs.frames) fs.ending }

  -- what a node says to a stream, and where it stands then; a closed node says nothing
  abbrev pub talk : Manner Place Cause → Standing Place Cause → List ℕ → Talk Place Cause
  talk manner (Open place held) bytes = talk_by manner place (frames_of (held ++ bytes))
  talk manner (Closed cause) bytes = record { said = []; standing = Closed cause }

  -- what was said before, and a talk
  abbrev pub with_said : List ℕ → Talk Place Cause → Talk Place Cause
  with_said said t = record { said = said ++ t.said; standing = t.standing }

  -- the replies from where a node stands, and where it stands after them
  abbrev pub says : Manner Place Cause → Standing Place Cause → List ℕ → List ℕ
  says manner s bytes = (talk manner s bytes).said

  abbrev pub stands_after : Manner Place Cause → Standing Place Cause → List ℕ → Standing Place Cause
  stands_after manner s bytes = (talk manner s bytes).standing

-- the front of a list
abbrev pub IsPrefixOf : List ℕ → List ℕ → Type 0
IsPrefixOf xs ys = (rest : List ℕ) × (xs ++ rest ≡ ys)

-- what stood before stands, and behind it a front of all
abbrev pub AddsFront : List ℕ → List ℕ → List ℕ → Type 0
AddsFront old new all = IsPrefixOf old new × IsPrefixOf new (old ++ all)

-- ---- laws

module _ {Place Cause : Type 0} where
  -- the replies to a stream that goes on are those to its beginning, and those from where the node stands then
  abbrev pub SaidGoesOn : Manner Place Cause → Type 0
  SaidGoesOn manner = (s : Standing Place Cause) (x y : List ℕ) → says manner s (x ++ y) ≡ says manner s x ++ says manner (stands_after manner s x) y

  abbrev pub StandingGoesOn : Manner Place Cause → Type 0
  StandingGoesOn manner = (s : Standing Place Cause) (x y : List ℕ) → stands_after manner s (x ++ y) ≡ stands_after manner (stands_after manner s x) y

  -- so the replies to a beginning are a front of the replies to the whole
  abbrev pub SaidIsFront : Manner Place Cause → Type 0
  SaidIsFront manner = (s : Standing Place Cause) (x y : List ℕ) → IsPrefixOf (says manner s x) (says manner s (x ++ y))

  -- ---- what each step of a node comes to

  -- where nothing more comes, nothing is said
  abbrev pub NothingIsSaid : Manner Place Cause → Type 0
  NothingIsSaid manner = (place : Place) (e : Ending) → IsPartial e →
      talk manner (stands_at manner (Ok place) e) [] ≡ record { said = []; standing = stands_at manner (Ok place) e }

  -- the frame that stands first is answered, and then the rest goes on from where that leads
  abbrev pub FirstIsAnswered : Manner Place Cause → Type 0
  FirstIsAnswered manner = (place : Place) (e after : Ending) (bytes rest : List ℕ) (frame : Frame) →
      frames_from e bytes ≡ with_frame frame (frames_from after rest) →
      talk manner (stands_at manner (Ok place) e) bytes
      ≡ with_said (manner.answer place frame).said (talk manner (stands_at manner (manner.answer place frame).next after) rest)

  -- where no frame comes whole, the node waits for the rest of it
  abbrev pub WaitsForRest : Manner Place Cause → Type 0
  WaitsForRest manner = (place : Place) (e after : Ending) (bytes rest : List ℕ) → frames_from e bytes ≡ frames_from after rest →
      talk manner (stands_at manner (Ok place) e) bytes ≡ talk manner (stands_at manner (Ok place) after) rest

  -- a fault closes the node, and nothing is said to it
  abbrev pub FaultCloses : Manner Place Cause → Type 0
  FaultCloses manner = (place : Place) (e : Ending) (bytes : List ℕ) (fault : FrameFault) → frames_from e bytes ≡ ends (Fails fault) →
      talk manner (stands_at manner (Ok place) e) bytes ≡ record { said = []; standing = Closed (manner.broken fault) }

  -- a closed node says nothing, and stays closed
  abbrev pub ClosedIsSilent : Manner Place Cause → Type 0
  ClosedIsSilent manner = (cause : Cause) (bytes : List ℕ) → talk manner (Closed cause) bytes ≡ record { said = []; standing = Closed cause }
