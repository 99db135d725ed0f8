-- What frames that were got for a call of the clone mean for the run over received frames.
use Rattle.std.proofs.Common.{◌≡◌, ℕ, ◌-◌, ◌==◌, cond, Bool, true, false, List, [], ◌∷◌, ◌++◌, length, Some, None, Result, Ok, Err, refl, sym, ap, ◌∙◌, arith}
use Rattle.std.proofs.lemmas.List.{append-nil}
use Rattle.std.proofs.Math.ListN.{drop_of_length-le}
use Rattle.cc_meaning.specs.declared.frame.Frame.{Frame}
use Rattle.cc_meaning.specs.declared.fault.FrameFault.{FrameFault}
use Rattle.cc_meaning.specs.declared.fault.ImageFault.{ImageFault}
use Rattle.cc_meaning.specs.declared.image.RunImage.{RunImage}
use Rattle.cc_meaning.specs.declared.image.BackImage.{BackImage}
use Rattle.cc_meaning.specs.declared.program.Program.{Program}
use Rattle.cc_meaning.specs.declared.travel.LinkEnd.{LinkEnd}
use Rattle.cc_meaning_images.specs.Reading.{read_back}
use Rattle.cc_meaning_nodes.specs.Frames.{Front, Partial, Whole, Faulty, front_of, head_of, Ending, Rest, Fails, ends, with_frame, with_frames, frames_by, frames_of, frames_after, frames_from}
use Rattle.cc_meaning_nodes.specs.Clone.{back_kind}
use Rattle.cc_meaning_nodes.specs.FrameLaws.{GoesOn, NothingMore, BeginsWithWhole}
use Rattle.cc_meaning_device.specs.Received.{Received, is_ready, behind_ready, read_as, back_of_frames}
use Rattle.cc_device.specs.Judging.{wrong_frame, judge_ready, judge_image, judge_back}

-- ---- frames of what was got

module _ (goes_on : GoesOn) (nothing : NothingMore) (whole : BeginsWithWhole) where
  pub frames_nil : frames_of [] ≡ ends (Rest [])
  frames_nil = nothing.1

  pub frames_partial : (x : List ℕ) → front_of x ≡ Partial → frames_of x ≡ ends (Rest x)
  frames_partial x e = ap frames_of (sym (append-nil x)) ∙ nothing.2 (Rest x) e

  pub frames_whole : (x y : List ℕ) (frame : Frame) → front_of x ≡ Whole frame (length x) → frames_of (x ++ y) ≡ with_frame frame (frames_of y)
  frames_whole x y frame e =
      (whole x y frame (length x) e).2 ∙ ap (λ (rest : List ℕ). with_frame frame (frames_of (rest ++ y))) (drop_of_length-le x (omega arith))

  pub frames_one : (x : List ℕ) (frame : Frame) → front_of x ≡ Whole frame (length x) → frames_of x ≡ record { frames = frame ∷ []; ending = Rest [] }
  frames_one x frame e = ap frames_of (sym (append-nil x)) ∙ frames_whole x [] frame e ∙ ap (with_frame frame) frames_nil

  pub frames_more : (x y : List ℕ) → (frames_of x).ending ≡ Rest [] → frames_of (x ++ y) ≡ with_frames (frames_of x).frames (frames_of y)
  frames_more x y e = goes_on (Rest []) x y ∙ ap (λ (rest : Ending). with_frames (frames_of x).frames (frames_from rest y)) e

nil_is_partial : front_of [] ≡ Partial
unfolding front_of head_of
nil_is_partial = refl

no_fault : {A : Type 0} (fault : FrameFault) → Partial ≡ Faulty fault → A
no_fault fault e = absurd cc

pub frames_faulty : (x : List ℕ) (fault : FrameFault) → front_of x ≡ Faulty fault → frames_of x ≡ ends (Fails fault)
unfolding frames_after
frames_faulty [] fault e = no_fault fault (sym nil_is_partial ∙ e)
frames_faulty (b ∷ bytes) fault e = ap (λ (front : Front). frames_by front (λ n. frames_after (n - 1) bytes) (b ∷ bytes)) e

-- ---- a Ready

pub ready_is : (frame : Frame) → judge_ready frame ≡ Ok tt → is_ready frame ≡ true
unfolding judge_ready
ready_is frame e = by (is_ready frame) refl e
  where
    by : (b : Bool) → is_ready frame ≡ b → cond b (Ok (tt {0})) (Err (wrong_frame frame)) ≡ Ok (tt {0}) → is_ready frame ≡ true
    by true p q = p
    by false p q = absurd cc

pub ready_isnt : (frame : Frame) (e : LinkEnd) → judge_ready frame ≡ Err e → is_ready frame ≡ false
unfolding judge_ready
ready_isnt frame e h = by (is_ready frame) refl h
  where
    by : (b : Bool) → is_ready frame ≡ b → cond b (Ok (tt {0})) (Err (wrong_frame frame)) ≡ Err e → is_ready frame ≡ false
    by true p q = absurd cc
    by false p q = p

-- the frames behind a Ready that came, or that comes first
pub behind_open : (t : Received) → t.opened ≡ true → behind_ready t ≡ Some t.frames
unfolding behind_ready
behind_open t e = rw e refl

pub behind_first : (t : Received) (frame : Frame) (rest : List Frame) → t.opened ≡ false → t.frames ≡ frame ∷ rest → judge_ready frame ≡ Ok tt → behind_ready t ≡ Some rest
unfolding behind_ready
behind_first t frame rest e f r = rw (e, f, ready_is frame r) refl

pub behind_nothing : (t : Received) → t.opened ≡ false → t.frames ≡ [] → behind_ready t ≡ None
unfolding behind_ready
behind_nothing t e f = rw (e, f) refl

pub behind_wrong : (t : Received) (frame : Frame) (rest : List Frame) (end : LinkEnd) → t.opened ≡ false → t.frames ≡ frame ∷ rest → judge_ready frame ≡ Err end → behind_ready t ≡ None
unfolding behind_ready
behind_wrong t frame rest end e f r = rw (e, f, ready_isnt frame end r) refl

-- ---- a Back

pub back_taken : (p : Program) (image : RunImage) (frame : Frame) (rest : List Frame) (back : BackImage) → judge_back p image frame ≡ Ok back → back_of_frames p image (Some (frame ∷ rest)) ≡ Some (record { back = back; rest = rest })
unfolding judge_back back_of_frames
back_taken p image frame rest back e = by (frame.kind == back_kind) (read_back p image frame.payload) e
  where
    by : (b : Bool) (r : Result BackImage ImageFault) → cond b (judge_image r) (Err (wrong_frame frame)) ≡ Ok back → cond b (read_as rest r) None ≡ Some (record { back = back; rest = rest })
    by true (Ok found) q = cc
    by true (Err fault) q = absurd cc
    by false r q = absurd cc

pub back_not_taken : (p : Program) (image : RunImage) (frame : Frame) (rest : List Frame) (e : LinkEnd) → judge_back p image frame ≡ Err e → back_of_frames p image (Some (frame ∷ rest)) ≡ None
unfolding judge_back back_of_frames
back_not_taken p image frame rest e h = by (frame.kind == back_kind) (read_back p image frame.payload) h
  where
    by : (b : Bool) (r : Result BackImage ImageFault) → cond b (judge_image r) (Err (wrong_frame frame)) ≡ Err e → cond b (read_as rest r) None ≡ None
    by true (Ok found) q = absurd cc
    by true (Err fault) q = refl
    by false r q = refl

pub nothing_taken : (p : Program) (image : RunImage) → back_of_frames p image (Some []) ≡ None
unfolding back_of_frames
nothing_taken p image = refl

pub none_behind : (p : Program) (image : RunImage) → back_of_frames p image None ≡ None
unfolding back_of_frames
none_behind p image = refl
