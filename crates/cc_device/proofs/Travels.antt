-- What was sent and got behind a call of the clone.
use Rattle.std.proofs.Common.{◌≡◌, ◌≢◌, ℕ, suc, cond, Bool, true, false, List, [], ◌∷◌, ◌++◌, length, Ok, Err, refl, sym, ap, ◌∙◌, arith, append_assoc}
use Rattle.std.specs.List.{flat_map}
use Rattle.std.proofs.lemmas.List.{append-nil}
use Rattle.cc_meaning.specs.declared.frame.Frame.{Frame}
use Rattle.cc_meaning.specs.declared.image.RunImage.{RunImage}
use Rattle.cc_meaning.specs.declared.image.BackImage.{BackImage}
use Rattle.cc_meaning.specs.declared.program.Program.{Program}
use Rattle.cc_meaning.specs.declared.travel.LinkEnd.{LinkEnd}
use Rattle.cc_meaning.specs.declared.travel.LinkEnd.TheVariants as ends
use Rattle.cc_meaning_nodes.specs.Frames.{Whole, front_of, Ending, Rest, Fails, Frames, ends as frames_end, with_frames, frames_of}
use Rattle.cc_meaning_nodes.specs.Talk.{IsPrefixOf}
use Rattle.cc_meaning_nodes.specs.FrameLaws.{GoesOn, NothingMore, BeginsWithWhole}
use Rattle.cc_link.specs.Links.{Counts, NeverFall}
use Rattle.cc_device.specs.Exchanging.{Span, AwaitingEnds}
use Rattle.cc_device.specs.Judging.{judge_ready, judge_back, AnswersSo, EndsSo, in_sending, in_awaiting, by_frame, run_bytes}
use Rattle.cc_device.specs.Travelling.{Took, called_alone, opened_first, Fell, not_reached, not_opened, not_called, not_called_first, begins_ready, due, JudgedSo, AwaitingEnded, EndsTravel, not_dialed as never_dialed, in_sending as ends_in_sending, in_awaiting as ends_in_awaiting, by_frame as ends_by_frame, TravelsOn, StaysHome}
use Rattle.cc_device.proofs.Exchanges.{rose_since}
use Rattle.cc_device.proofs.Judged.{ends_since}
use Rattle.cc_device.proofs.Taken.{frames_nil, frames_partial, frames_one, frames_more, frames_faulty, ready_is, ready_isnt}

-- ---- lists

pub snoc_some : {A : Type 0} (xs : List A) (x : A) → xs ++ x ∷ [] ≢ []
snoc_some [] x e = absurd cc
snoc_some (y ∷ ys) x e = absurd cc

length_snoc : {A : Type 0} (xs : List A) (x : A) → length (xs ++ x ∷ []) ≡ suc (length xs)
length_snoc [] x = refl
length_snoc (y ∷ ys) x = ap suc (length_snoc ys x)

flat_snoc : (images : List RunImage) (image : RunImage) → flat_map run_bytes (images ++ image ∷ []) ≡ flat_map run_bytes images ++ run_bytes image
flat_snoc [] image = append-nil (run_bytes image)
flat_snoc (i ∷ rest) image = ap (λ (xs : List ℕ). run_bytes i ++ xs) (flat_snoc rest image) ∙ sym (append_assoc (run_bytes i) (flat_map run_bytes rest) (run_bytes image))

ready_more : (frames more : List Frame) → begins_ready frames ≡ true → begins_ready (frames ++ more) ≡ true
ready_more [] more e = absurd cc
ready_more (f ∷ fs) more e = e

prefix_behind : (front xs ys : List ℕ) → IsPrefixOf xs ys → IsPrefixOf (front ++ xs) (front ++ ys)
prefix_behind front xs ys p = (p.0, append_assoc front xs p.0 ∙ ap (λ (zs : List ℕ). front ++ zs) p.1)

prefix_of : (xs ys zs : List ℕ) → IsPrefixOf xs ys → ys ≡ zs → IsPrefixOf xs zs
prefix_of xs ys zs p e = (p.0, p.1 ∙ e)

-- ---- what is due

due_open : (hello : List ℕ) (frames : List Frame) (images : List RunImage) → begins_ready frames ≡ true → due hello frames images ≡ hello ++ flat_map run_bytes images
due_open hello frames images e = ap (λ (b : Bool). hello ++ cond b (flat_map run_bytes images) []) e

due_closed : (hello : List ℕ) (frames : List Frame) (images : List RunImage) → begins_ready frames ≡ false → due hello frames images ≡ hello
due_closed hello frames images e = ap (λ (b : Bool). hello ++ cond b (flat_map run_bytes images) []) e ∙ append-nil hello

-- a Ready came, and all that is due was sent and answered
pub record IsOpen (hello sent got : List ℕ) (images : List RunImage) : Type 0 where
  pub ready : begins_ready (frames_of got).frames ≡ true
  pub whole : (frames_of got).ending ≡ Rest []
  pub all : sent ≡ hello ++ flat_map run_bytes images
  pub many : length (frames_of got).frames ≡ suc (length images)

module _ (goes_on : GoesOn) (nothing : NothingMore) (whole : BeginsWithWhole) (p : Program) (hello : List ℕ) (patience : ℕ) (c : Span) where
  more : (x y : List ℕ) → (frames_of x).ending ≡ Rest [] → frames_of (x ++ y) ≡ with_frames (frames_of x).frames (frames_of y)
  more x y e = frames_more goes_on nothing whole x y e

  one : (x : List ℕ) (frame : Frame) → front_of x ≡ Whole frame (length x) → frames_of x ≡ record { frames = frame ∷ []; ending = Rest [] }
  one x frame e = frames_one goes_on nothing whole x frame e

  -- ---- a frame more, or none

  -- the frames that came behind, and how the stream ends
  module _ (sent got sent1 got1 : List ℕ) (images : List RunImage) (image : RunImage) (o : IsOpen hello sent got images) where
    frames_then : (behind : Frames) → frames_of got1 ≡ behind → frames_of (got ++ got1) ≡ with_frames (frames_of got).frames behind
    frames_then behind e = more got got1 o.whole ∙ ap (with_frames (frames_of got).frames) e

    still_ready : (behind : Frames) → frames_of got1 ≡ behind → begins_ready (frames_of (got ++ got1)).frames ≡ true
    still_ready behind e = ap (λ (fs : Frames). begins_ready fs.frames) (frames_then behind e) ∙ ready_more (frames_of got).frames behind.frames o.ready

    due_then : (behind : Frames) → frames_of got1 ≡ behind → due hello (frames_of (got ++ got1)).frames (images ++ image ∷ []) ≡ sent ++ run_bytes image
    due_then behind e =
        due_open hello (frames_of (got ++ got1)).frames (images ++ image ∷ []) (still_ready behind e)
        ∙ ap (λ (xs : List ℕ). hello ++ xs) (flat_snoc images image) ∙ sym (append_assoc hello (flat_map run_bytes images) (run_bytes image))
        ∙ ap (λ (xs : List ℕ). xs ++ run_bytes image) (sym o.all)

    pub goes_behind : (back : BackImage) → AnswersSo (judge_back p image) (run_bytes image) sent1 got1 back → TravelsOn hello (sent ++ sent1) (got ++ got1) (images ++ image ∷ [])
    goes_behind back a =
        let behind = one got1 a.frame a.whole in
        record {
          some = snoc_some images image;
          all = ap (λ (xs : List ℕ). sent ++ xs) a.all ∙ sym (due_then _ behind);
          whole = ap Frames.ending (frames_then _ behind);
          ready = still_ready _ behind;
          many = ap (λ (fs : Frames). length fs.frames) (frames_then _ behind) ∙ length_snoc (frames_of got).frames a.frame ∙ ap suc o.many ∙ sym (ap suc (length_snoc images image));
        }

    awaiting_ended : (e : LinkEnd) → AwaitingEnds got1 patience e c.old c.new → AwaitingEnded (got ++ got1) patience e c.old c.new × ((behind : Ending) × (frames_of got1 ≡ frames_end behind))
    awaiting_ended ends.DialFailed a = absurd a
    awaiting_ended ends.Failed a = let f = frames_partial goes_on nothing whole got1 a.0 in (((got1, ap Frames.ending (frames_then _ f)), a.1), (Rest got1, f))
    awaiting_ended ends.Ended a = let f = frames_partial goes_on nothing whole got1 a.0 in (((got1, ap Frames.ending (frames_then _ f)), a.1), (Rest got1, f))
    awaiting_ended (ends.Waited n) a = let f = frames_partial goes_on nothing whole got1 a.0 in (((got1, ap Frames.ending (frames_then _ f)), a.1, a.2), (Rest got1, f))
    awaiting_ended (ends.BadFrame fault) a = let f = frames_faulty got1 fault a.0 in (ap Frames.ending (frames_then _ f), (Fails fault, f))
    awaiting_ended (ends.Unexpected kind) a = absurd a
    awaiting_ended (ends.Unfit fault) a = absurd a
    awaiting_ended (ends.Refused status) a = absurd a

    judged_behind : (frames : List Frame) (frame : Frame) (e : LinkEnd) → length frames ≡ suc (length images) → judge_back p image frame ≡ Err e → JudgedSo p frames (images ++ image ∷ []) frame e
    judged_behind [] frame e many j = absurd cc
    judged_behind (first ∷ rest) frame e many j = (images, image, refl, omega (arith, many), j)

    pub ends_behind : (e : LinkEnd) → EndsSo (judge_back p image) (run_bytes image) patience sent1 got1 e c → EndsTravel p hello patience (sent ++ sent1) (got ++ got1) (images ++ image ∷ []) e c
    ends_behind e (in_sending front none why taken) =
        let behind = ap frames_of none ∙ frames_nil goes_on nothing whole in
        ends_in_sending (prefix_of (sent ++ sent1) (sent ++ run_bytes image) _ (prefix_behind sent sent1 (run_bytes image) front) (sym (due_then _ behind))) (ap Frames.ending (frames_then _ behind)) why taken
    ends_behind e (in_awaiting all why given) =
        let a = awaiting_ended e why in
        let many : length (frames_of (got ++ got1)).frames ≡ length ((frames_of got).frames ++ []) = ap (λ (fs : Frames). length fs.frames) (frames_then _ a.1.1) in
        let none : length ((frames_of got).frames ++ []) ≡ length (frames_of got).frames = ap (λ (fs : List Frame). length fs) (append-nil (frames_of got).frames) in
        let longer = length_snoc images image in
        ends_in_awaiting (ap (λ (xs : List ℕ). sent ++ xs) all ∙ sym (due_then _ a.1.1)) (omega (arith, many, none, o.many, longer)) a.0 given
    ends_behind e (by_frame frame all stands judged) =
        let behind = one got1 frame stands in
        ends_by_frame (frames_of got).frames frame (ap (λ (xs : List ℕ). sent ++ xs) all ∙ sym (due_then _ behind)) (ap Frames.ending (frames_then _ behind)) (ap Frames.frames (frames_then _ behind))
        (judged_behind (frames_of got).frames frame e o.many judged)

  -- ---- the opening

  opened : (ready : Frame) (first : List ℕ) → front_of first ≡ Whole ready (length first) → judge_ready ready ≡ Ok tt → IsOpen hello hello first []
  opened ready first stands judged =
      let frames = one first ready stands in
      record {
        ready = ap (λ (fs : Frames). begins_ready fs.frames) frames ∙ ready_is ready judged;
        whole = ap Frames.ending frames;
        all = sym (append-nil hello);
        many = ap (λ (fs : Frames). length fs.frames) frames;
      }

  closed_ended : (got : List ℕ) (e : LinkEnd) → AwaitingEnds got patience e c.old c.new → AwaitingEnded got patience e c.old c.new × ((behind : Ending) × (frames_of got ≡ frames_end behind))
  closed_ended got ends.DialFailed a = absurd a
  closed_ended got ends.Failed a = let f = frames_partial goes_on nothing whole got a.0 in (((got, ap Frames.ending f), a.1), (Rest got, f))
  closed_ended got ends.Ended a = let f = frames_partial goes_on nothing whole got a.0 in (((got, ap Frames.ending f), a.1), (Rest got, f))
  closed_ended got (ends.Waited n) a = let f = frames_partial goes_on nothing whole got a.0 in (((got, ap Frames.ending f), a.1, a.2), (Rest got, f))
  closed_ended got (ends.BadFrame fault) a = let f = frames_faulty got fault a.0 in (ap Frames.ending f, (Fails fault, f))
  closed_ended got (ends.Unexpected kind) a = absurd a
  closed_ended got (ends.Unfit fault) a = absurd a
  closed_ended got (ends.Refused status) a = absurd a

  unopened_ends : (sent got : List ℕ) (images : List RunImage) (e : LinkEnd) → EndsSo judge_ready hello patience sent got e c → EndsTravel p hello patience sent got images e c
  unopened_ends sent got images e (in_sending front none why taken) =
      let frames = ap frames_of none ∙ frames_nil goes_on nothing whole in
      ends_in_sending (prefix_of sent hello _ front (sym (due_closed hello (frames_of got).frames images (ap (λ (fs : Frames). begins_ready fs.frames) frames)))) (ap Frames.ending frames) why taken
  unopened_ends sent got images e (in_awaiting all why given) =
      let a = closed_ended got e why in
      ends_in_awaiting (all ∙ sym (due_closed hello (frames_of got).frames images (ap (λ (fs : Frames). begins_ready fs.frames) a.1.1)))
      (let none : length (frames_of got).frames ≡ 0 = ap (λ (fs : Frames). length fs.frames) a.1.1 in omega (arith, none)) a.0 given
  unopened_ends sent got images e (by_frame frame all stands judged) =
      let frames = one got frame stands in
      ends_by_frame [] frame (all ∙ sym (due_closed hello (frames_of got).frames images (ap (λ (fs : Frames). begins_ready fs.frames) frames ∙ ready_isnt frame e judged))) (ap Frames.ending frames) (ap Frames.frames frames) judged

  -- ---- both

  open_of : (sent got : List ℕ) (images : List RunImage) → TravelsOn hello sent got images → IsOpen hello sent got images
  open_of sent got images t = record { ready = t.ready; whole = t.whole; all = t.all ∙ due_open hello (frames_of got).frames images t.ready; many = t.many }

  -- how the device stood before
  abbrev pub StoodSo : Bool → (sent got : List ℕ) → List RunImage → Type 0
  StoodSo false sent got images = StaysHome sent got images
  StoodSo true sent got images = TravelsOn hello sent got images

  pub travels_on : (is_open : Bool) (sent got sent1 got1 : List ℕ) (images : List RunImage) (image : RunImage) (back : BackImage) → StoodSo is_open sent got images → Took p hello image sent1 got1 back is_open →
      TravelsOn hello (sent ++ sent1) (got ++ got1) (images ++ image ∷ [])
  travels_on true sent got sent1 got1 images image back s (called_alone a) = goes_behind sent got sent1 got1 images image (open_of sent got images s) back a
  travels_on false sent got sent1 got1 images image back s (opened_first ready first sent2 got2 sent_is got_is stands judged a) =
      rw (s.silent, s.deaf, s.none, sent_is, got_is) (goes_behind hello first sent2 got2 [] image (opened ready first stands judged) back a)

  pub ends_travel : (is_open : Bool) (sent got sent1 got1 : List ℕ) (images : List RunImage) (image : RunImage) (e : LinkEnd) → StoodSo is_open sent got images → Fell p hello patience image sent1 got1 e c is_open →
      EndsTravel p hello patience (sent ++ sent1) (got ++ got1) (images ++ image ∷ []) e c
  ends_travel true sent got sent1 got1 images image e s (not_called x) = ends_behind sent got sent1 got1 images image (open_of sent got images s) e x
  ends_travel false sent got sent1 got1 images image e s (not_reached is none nothing_got rose up) = rw (s.silent, s.deaf) (never_dialed is none nothing_got rose up)
  ends_travel false sent got sent1 got1 images image e s (not_opened x) = rw (s.silent, s.deaf) (unopened_ends sent1 got1 (images ++ image ∷ []) e x)
  ends_travel false sent got sent1 got1 images image e s (not_called_first ready first sent2 got2 sent_is got_is stands judged x) =
      rw (s.silent, s.deaf, s.none, sent_is, got_is) (ends_behind hello first sent2 got2 [] image (opened ready first stands judged) e x)

-- ---- since before

pub fell_since : (p : Program) (hello : List ℕ) (patience : ℕ) (image : RunImage) (sent got : List ℕ) (e : LinkEnd) (old mid new : Counts) (first still owes : Type 0) (is_open : Bool) → NeverFall old mid → (first → still) →
    Fell p hello patience image sent got e (record { old = mid; new = new; prompt = still; owes = owes }) is_open → Fell p hello patience image sent got e (record { old = old; new = new; prompt = first; owes = owes }) is_open
fell_since p hello patience image sent got e old mid new first still owes false n stays (not_reached is none nothing rose up) = not_reached is none nothing (rose_since _ _ _ n.faults rose) (λ p. up (stays p))
fell_since p hello patience image sent got e old mid new first still owes false n stays (not_opened x) = not_opened (ends_since judge_ready hello patience sent got e old mid new first still owes n stays x)
fell_since p hello patience image sent got e old mid new first still owes true n stays (not_called x) = not_called (ends_since (judge_back p image) (run_bytes image) patience sent got e old mid new first still owes n stays x)
fell_since p hello patience image sent got e old mid new first still owes false n stays (not_called_first ready first_bytes sent2 got2 a b c d x) =
    not_called_first ready first_bytes sent2 got2 a b c d (ends_since (judge_back p image) (run_bytes image) patience sent2 got2 e old mid new first still owes n stays x)
