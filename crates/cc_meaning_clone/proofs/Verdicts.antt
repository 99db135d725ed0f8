-- The verdict as a stream goes on.
use Rattle.std.proofs.Common.{◌↔◌, ℕ, ◌==◌, Bool, true, false, List, [], ◌∷◌, ◌++◌, Result, Ok, Err, sym, subst, if◌then◌else◌}
use Rattle.cc_meaning.specs.declared.frame.Frame.{Frame}
use Rattle.cc_meaning.specs.declared.travel.CloneEnd.{CloneEnd}
use Rattle.cc_meaning_nodes.specs.Frames.{Ending, Rest, Fails, Frames, frames_of, frames_from}
use Rattle.cc_meaning_nodes.specs.FrameLaws.{GoesOn}
use Rattle.cc_meaning_nodes.specs.Talk.{place_after, Open, Closed, stands_at}
use Rattle.cc_meaning_nodes.specs.Clone.{Served, Backs, IsFalse, Calls, hello_kind, run_kind, clone_answer, to_hello, to_run, closes, ClonePlace, Waiting, Serving}
use Rattle.cc_meaning_plain.specs.declared.plain.Plain.{Plain}
use Rattle.cc_meaning_clone.specs.Served.{served}
use Rattle.cc_meaning_clone.specs.Plain.{plain_clone, IsJudgedFirst, IsVerdict, IsVerdictAt, VerdictGoesOn, VerdictOnFirst, VerdictWaits}

abbrev Place : Type 0
Place = Result (ClonePlace Plain) CloneEnd

-- no Hello is awaited any more
abbrev IsPast : Place → Type 0
IsPast (Ok Waiting) = ⊥
IsPast (Ok (Serving plain)) = Unit {0}
IsPast (Err cause) = Unit {0}

past_hello : (verdict : Result Plain ℕ) → IsPast (to_hello verdict).next
past_hello (Ok plain) = tt
past_hello (Err status) = tt

past_run : (s : Served Plain) → IsPast (to_run s).next
past_run (Backs payload plain) = tt
past_run (IsFalse fault) = tt
past_run (Calls method) = tt

module _ (verdict : Result Plain ℕ) where
  past_if_hello : (b : Bool) (frame : Frame) → IsPast (if b then to_hello verdict else closes (CloneEnd.BadOrder frame.kind)).next
  past_if_hello true frame = past_hello verdict
  past_if_hello false frame = tt

  past_if_run : (b : Bool) (s : Served Plain) (frame : Frame) → IsPast (if b then to_run s else closes (CloneEnd.BadOrder frame.kind)).next
  past_if_run true s frame = past_run s
  past_if_run false s frame = tt

  past_answer : (place : ClonePlace Plain) (frame : Frame) → IsPast ((plain_clone verdict).answer place frame).next
  unfolding clone_answer
  past_answer Waiting frame = past_if_hello (frame.kind == hello_kind) frame
  past_answer (Serving plain) frame = past_if_run (frame.kind == run_kind) (served plain frame.payload) frame

  past_after : (place : Place) (fs : List Frame) → IsPast place → IsPast (place_after (plain_clone verdict) place fs)
  past_after place [] past = past
  past_after (Err cause) (f ∷ fs) past = tt
  past_after (Ok place) (f ∷ fs) past = past_after ((plain_clone verdict).answer place f).next fs (past_answer place f)

  past_is_verdict : (place : Place) (e : Ending) (bytes : List ℕ) → IsPast place → IsVerdict (stands_at (plain_clone verdict) place e) bytes verdict
  past_is_verdict (Ok Waiting) e bytes past = absurd past
  past_is_verdict (Ok (Serving plain)) (Rest held) bytes past = tt
  past_is_verdict (Ok (Serving plain)) (Fails fault) bytes past = tt
  past_is_verdict (Err cause) e bytes past = tt

  waiting_goes_on : (fs : List Frame) (e : Ending) (y : List ℕ) → IsJudgedFirst (fs ++ (frames_from e y).frames) verdict →
      IsJudgedFirst fs verdict × IsVerdict (stands_at (plain_clone verdict) (place_after (plain_clone verdict) (Ok Waiting) fs) e) y verdict
  waiting_goes_on [] (Rest held) y is = (tt, is)
  waiting_goes_on [] (Fails fault) y is = (tt, tt)
  waiting_goes_on (f ∷ fs) e y is =
      let next = ((plain_clone verdict).answer Waiting f).next in
      (is, past_is_verdict (place_after (plain_clone verdict) next fs) e y (past_after next fs (past_answer Waiting f)))

  -- what is awaited at a place, of the frames that come
  abbrev IsRightFor : ClonePlace Plain → List Frame → Type 0
  IsRightFor Waiting fs = IsJudgedFirst fs verdict
  IsRightFor (Serving plain) fs = Unit {0}

  right_there : (place : ClonePlace Plain) (e : Ending) (bytes : List ℕ) → IsVerdict (stands_at (plain_clone verdict) (Ok place) e) bytes verdict ↔ IsRightFor place (frames_from e bytes).frames
  right_there Waiting (Rest held) bytes = ((λ is. is), (λ is. is))
  right_there Waiting (Fails fault) bytes = ((λ is. tt), (λ is. tt))
  right_there (Serving plain) (Rest held) bytes = ((λ is. tt), (λ is. tt))
  right_there (Serving plain) (Fails fault) bytes = ((λ is. tt), (λ is. tt))

  right_on_first : (place : ClonePlace Plain) (frame : Frame) (fs : List Frame) → IsRightFor place (frame ∷ fs) ↔ IsVerdictAt place frame verdict
  right_on_first Waiting frame fs = ((λ is. is), (λ is. is))
  right_on_first (Serving plain) frame fs = ((λ is. tt), (λ is. tt))

pub goes_on : GoesOn → VerdictGoesOn
goes_on law (Open Waiting held) x y verdict is =
    let fs = frames_of (held ++ x) in
    waiting_goes_on verdict fs.frames fs.ending y (subst (λ (all : Frames). IsJudgedFirst all.frames verdict) (law (Rest held) x y) is)
goes_on law (Open (Serving plain) held) x y verdict is =
    let fs = frames_of (held ++ x) in
    (tt, past_is_verdict verdict (place_after (plain_clone verdict) (Ok (Serving plain)) fs.frames) fs.ending y (past_after verdict (Ok (Serving plain)) fs.frames tt))
goes_on law (Closed cause) x y verdict is = (tt, tt)

pub on_first : VerdictOnFirst
on_first place e after bytes rest frame verdict h =
    let there = right_there verdict place e bytes in
    let first = right_on_first verdict place frame (frames_from after rest).frames in (
      (
        (λ is. first.0 (subst (λ (all : Frames). IsRightFor verdict place all.frames) h (there.0 is))),
        (λ is. there.1 (subst (λ (all : Frames). IsRightFor verdict place all.frames) (sym h) (first.1 is))),
      ),
      past_is_verdict verdict ((plain_clone verdict).answer place frame).next after rest (past_answer verdict place frame),
    )

pub waits : VerdictWaits
waits place e after bytes rest verdict h =
    let there = right_there verdict place e bytes in
    let later = right_there verdict place after rest in (
      (λ is. later.1 (subst (λ (all : Frames). IsRightFor verdict place all.frames) h (there.0 is))),
      (λ is. there.1 (subst (λ (all : Frames). IsRightFor verdict place all.frames) (sym h) (later.0 is))),
    )
