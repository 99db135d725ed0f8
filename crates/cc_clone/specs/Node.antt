-- What the steps of a clone of plain files do with a stream.
use Rattle.std.specs.Prelude.{◌≡◌, ℕ, ◌<◌, ◌≤◌, List, [], ◌++◌, length, drop, Option, Some, None, Result, Ok, Err}
use Rattle.cc_meaning.specs.declared.frame.Frame.{Frame}
use Rattle.cc_meaning.specs.declared.travel.CloneEnd.{CloneEnd}
use Rattle.cc_meaning.specs.declared.travel.CloneEnd.TheVariants.{BadFrame}
use Rattle.cc_meaning_nodes.specs.Frames.{Partial, front_of, Ending, Rest, Fails}
use Rattle.cc_meaning_nodes.specs.Talk.{Open, Closed, talk, says, with_said, IsPrefixOf, AddsFront}
use Rattle.cc_meaning_nodes.specs.Clone.{Served, Backs, IsFalse, Calls, ClonePlace, CloneReply}
use Rattle.cc_meaning_plain.specs.declared.plain.Plain.{Plain}
use Rattle.cc_meaning_clone.specs.Plain.{PlainStanding, plain_clone, place_in, IsVerdict, IsVerdictAt, HasVerdict}
use Rattle.cc_clone.specs.declared.run.RunEnd.{RunEnd}
use Rattle.cc_clone.specs.declared.run.RunEnd.TheVariants as run
use Rattle.cc_clone.specs.declared.stream.Progress.{Progress}
use Rattle.cc_clone.specs.declared.stream.Progress.TheVariants.{Reads, Closes}

-- ---- one frame

-- what comes of a Run: the plain file stays what it is
abbrev pub served_by : Plain → RunEnd → Served Plain
served_by plain (run.Back payload) = Backs payload plain
served_by plain (run.False fault) = IsFalse fault
served_by plain (run.Pinned method) = Calls method

-- a Back fits a frame
abbrev pub IsShort : RunEnd → Type 0
IsShort (run.Back payload) = length payload ≤ 67108864
IsShort (run.False fault) = Unit {0}
IsShort (run.Pinned method) = Unit {0}

-- where a clone goes on, or why it closes
abbrev pub next_in : Option CloneEnd → Option Plain → Result (ClonePlace Plain) CloneEnd
next_in None job = Ok (place_in job)
next_in (Some cause) job = Err cause

-- the reply stands behind what stood before, and the clone goes on as it leads
abbrev pub Answers : CloneReply Plain → List ℕ → List ℕ → Option CloneEnd → Option Plain → Type 0
Answers reply old new end job = (new ≡ old ++ reply.said) × (reply.next ≡ next_in end job)

-- the frame is answered by each verdict that is right for it, and there is one
pub record IsAnswered (place : ClonePlace Plain) (frame : Frame) (old new : List ℕ) (end : Option CloneEnd) (job : Option Plain) : Type 0 where
  pub answers : (verdict : Result Plain ℕ) → IsVerdictAt place frame verdict → Answers ((plain_clone verdict).answer place frame) old new end job
  pub verdict : Result Plain ℕ
  pub is_right : IsVerdictAt place frame verdict

-- ---- a stream

-- less than a frame is held
abbrev pub IsHeld : Ending → Type 0
IsHeld (Rest bytes) = front_of bytes ≡ Partial
IsHeld (Fails fault) = ⊥

-- where a clone stands, by where it goes on and what its reader holds
abbrev pub standing_at : Result (ClonePlace Plain) CloneEnd → Ending → PlainStanding
standing_at (Err cause) e = Closed cause
standing_at (Ok place) (Rest held) = Open place held
standing_at (Ok place) (Fails fault) = Closed (BadFrame fault)

-- where a clone stands open
abbrev pub open_at : Option Plain → Ending → PlainStanding
open_at job e = standing_at (Ok (place_in job)) e

-- From a standing with a piece to one with what is left of it: a right verdict stays right, and by it what was said and will be said is the same. What was
-- said stands.
pub record Steps (old : List ℕ) (s : PlainStanding) (piece new : List ℕ) (t : PlainStanding) (rest : List ℕ) : Type 0 where
  pub right : (verdict : Result Plain ℕ) → IsVerdict s piece verdict → IsVerdict t rest verdict
  pub told : (verdict : Result Plain ℕ) → IsVerdict s piece verdict →
      with_said new (talk (plain_clone verdict) t rest) ≡ with_said old (talk (plain_clone verdict) s piece)
  pub judged : HasVerdict t rest → HasVerdict s piece
  pub grown : IsPrefixOf old new

-- so many bytes are done, and the clone stands open, or it is closed
abbrev pub StepsBy : List ℕ → PlainStanding → List ℕ → Progress → List ℕ → Option Plain → Ending → Type 0
StepsBy old s piece (Reads n) new job e =
    Steps old s piece new (open_at job e) (drop n piece) × (n ≤ length piece) × (0 < length piece → 0 < n) × IsHeld e
StepsBy old s piece (Closes cause) new job e = Steps old s piece new (Closed cause) []

-- by each right verdict, of which there is one, this was said to the piece, and the clone stands there
pub record Comes (old : List ℕ) (s : PlainStanding) (piece new : List ℕ) (t : PlainStanding) : Type 0 where
  pub told : (verdict : Result Plain ℕ) → IsVerdict s piece verdict →
      record { said = new; standing = t } ≡ with_said old (talk (plain_clone verdict) s piece)
  pub judged : HasVerdict s piece

-- a front of what is due by each right verdict
abbrev pub IsDue : List ℕ → PlainStanding → List ℕ → List ℕ → Type 0
IsDue old s piece new = (verdict : Result Plain ℕ) → IsVerdict s piece verdict → AddsFront old new (says (plain_clone verdict) s piece)

-- why a node is closed
abbrev pub cause_of : PlainStanding → Option CloneEnd
cause_of (Open place held) = None
cause_of (Closed cause) = Some cause
