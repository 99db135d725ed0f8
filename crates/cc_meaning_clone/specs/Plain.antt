-- How a clone of plain files answers a stream.
use Rattle.std.specs.Prelude.{◌≡◌, ◌↔◌, ℕ, List, [], ◌∷◌, ◌++◌, Option, Some, None, Result, Ok}
use Rattle.cc_meaning.specs.declared.frame.Frame.{Frame}
use Rattle.cc_meaning.specs.declared.travel.CloneEnd.{CloneEnd}
use Rattle.cc_meaning_nodes.specs.Frames.{Ending, with_frame, frames_of, frames_from}
use Rattle.cc_meaning_nodes.specs.Talk.{Manner, Standing, Open, Closed, stands_at, stands_after}
use Rattle.cc_meaning_nodes.specs.Clone.{hello_kind, ClonePlace, Waiting, Serving, clone_of}
use Rattle.cc_meaning_plain.specs.declared.plain.Plain.{Plain}
use Rattle.cc_meaning_clone.specs.Served.{served}
use Rattle.cc_meaning_clone.specs.Hello.{IsJudged}

abbrev pub PlainStanding : Type 0
PlainStanding = Standing (ClonePlace Plain) CloneEnd

-- The first Hello of a stream is the only one that is judged, so how a clone answers goes by the verdict on that.
abbrev pub plain_clone : Result Plain ℕ → Manner (ClonePlace Plain) CloneEnd
plain_clone verdict = clone_of (record { hello = λ payload. verdict; run = served })

-- the frame that stands first is no Hello, or this is the verdict on it
abbrev pub IsJudgedFirst : List Frame → Result Plain ℕ → Type 0
IsJudgedFirst [] verdict = Unit {0}
IsJudgedFirst (frame ∷ rest) verdict = frame.kind ≡ hello_kind → IsJudged frame.payload verdict

-- the verdict is the right one for a stream that goes on from where a node stands
abbrev pub IsVerdict : PlainStanding → List ℕ → Result Plain ℕ → Type 0
IsVerdict (Open Waiting held) bytes verdict = IsJudgedFirst (frames_of (held ++ bytes)).frames verdict
IsVerdict (Open (Serving plain) held) bytes verdict = Unit {0}
IsVerdict (Closed cause) bytes verdict = Unit {0}

-- there is a right verdict
abbrev pub HasVerdict : PlainStanding → List ℕ → Type 0
HasVerdict s bytes = (verdict : Result Plain ℕ) × IsVerdict s bytes verdict

-- before a Hello there is no job
abbrev pub place_in : Option Plain → ClonePlace Plain
place_in None = Waiting
place_in (Some plain) = Serving plain

-- ---- laws

-- the verdict is the right one for the frame that is answered at this place
abbrev pub IsVerdictAt : ClonePlace Plain → Frame → Result Plain ℕ → Type 0
IsVerdictAt Waiting frame verdict = frame.kind ≡ hello_kind → IsJudged frame.payload verdict
IsVerdictAt (Serving plain) frame verdict = Unit {0}

-- a verdict that is right for a stream is right for its beginning, and for what goes on from where the node stands then
abbrev pub VerdictGoesOn : Type 0
VerdictGoesOn = (s : PlainStanding) (x y : List ℕ) (verdict : Result Plain ℕ) → IsVerdict s (x ++ y) verdict →
    IsVerdict s x verdict × IsVerdict (stands_after (plain_clone verdict) s x) y verdict

-- it is right for a stream where it is right for the frame that stands first; after that every one is
abbrev pub VerdictOnFirst : Type 0
VerdictOnFirst = (place : ClonePlace Plain) (e after : Ending) (bytes rest : List ℕ) (frame : Frame) (verdict : Result Plain ℕ) →
    frames_from e bytes ≡ with_frame frame (frames_from after rest) →
    (IsVerdict (stands_at (plain_clone verdict) (Ok place) e) bytes verdict ↔ IsVerdictAt place frame verdict)
    × IsVerdict (stands_at (plain_clone verdict) ((plain_clone verdict).answer place frame).next after) rest verdict

-- where no frame comes whole, it is right for what is awaited
abbrev pub VerdictWaits : Type 0
VerdictWaits = (place : ClonePlace Plain) (e after : Ending) (bytes rest : List ℕ) (verdict : Result Plain ℕ) →
    frames_from e bytes ≡ frames_from after rest →
    IsVerdict (stands_at (plain_clone verdict) (Ok place) e) bytes verdict ↔ IsVerdict (stands_at (plain_clone verdict) (Ok place) after) rest verdict
