-- A plain file's run over frames that answer the images that were noted reports what the run on one heap reports.
use Rattle.std.proofs.Common.{◌≡◌, ℕ, zero, suc, ◌==◌, ◌&&◌, not, Bool, true, false, cond, List, [], ◌∷◌, ◌++◌, length, drop, Option, Some, None, option_map, Result, Ok, Err, refl, sym, ap, ◌∙◌, subst, arith, slice_get}
use Rattle.std.proofs.lemmas.List.{append-nil, append_assoc, length-append}
use Rattle.std.proofs.lemmas.Bool.Decides.{nat_tests}
use Rattle.cc_meaning.specs.declared.value.Value.{Value}
use Rattle.cc_meaning.specs.declared.report.Limits.{Limits}
use Rattle.cc_meaning.specs.declared.frame.Frame.{Frame}
use Rattle.cc_meaning.specs.declared.image.RunImage.{RunImage}
use Rattle.cc_meaning.specs.declared.image.BackImage.{BackImage}
use Rattle.cc_meaning.specs.declared.fault.ImageFault.{ImageFault}
use Rattle.cc_meaning.specs.declared.program.Program.{Program}
use Rattle.cc_meaning_run.specs.World.{World, Stack}
use Rattle.cc_meaning_run.specs.Eval.{Ran, ran, Here}
use Rattle.cc_meaning_run.specs.Local.{run_with, report_of}
use Rattle.cc_meaning_images.specs.Capture.{run_image}
use Rattle.cc_meaning_images.specs.Instance.{silent}
use Rattle.cc_meaning_images.specs.Reading.{read_back}
use Rattle.cc_meaning_images.specs.Forms.{BackIsRead}
use Rattle.cc_meaning_nodes.specs.Clone.{back_kind}
use Rattle.cc_meaning_plain.specs.declared.plain.Plain.{Plain}
use Rattle.cc_meaning_plain.specs.Laws.{AreBytes, FunctionRuns}
use Rattle.cc_meaning_plain.specs.Plain.{IsPlain}
use Rattle.cc_meaning_plain.specs.Program.{program_of, setting_of}
use Rattle.cc_meaning_clone.specs.Served.{out_order}
use Rattle.cc_meaning_clone.specs.Functions.{RunnableIs, RunsHaveParts, AnsweredIs}
use Rattle.cc_meaning_device.specs.Received.{Received, Taken, not_opened, is_ready, behind_ready, read_as, back_of_frames, reply_of, sent_in, entry_of, receiver, offloaded_of, offloaded}
use Rattle.cc_meaning_device.specs.Straight.{plain_device}
use Rattle.cc_meaning_device.specs.Laws.{at_end, left_by, IsRight, FaithfulWhile, LeadsTo}
use Rattle.cc_meaning_device.specs.Honest.{IsAnswer, AnswersInOrder, HonestIsLocal}
use Rattle.cc_meaning_device.proofs.Faithful.{faithful_from}
use Rattle.cc_meaning_device.proofs.Received.{receiver_spends}
use Rattle.cc_meaning_device.proofs.RightAnswers.{answer_is_right}

-- ---- the frame that was taken

-- a Back was taken: it stood first, and was read
pub record WasTaken (p : Program) (run : RunImage) (frames : Option (List Frame)) (taken : Taken) : Type 0 where
  pub frame : Frame
  pub stood : frames ≡ Some (frame ∷ taken.rest)
  pub kind : frame.kind ≡ back_kind
  pub read : read_back p run frame.payload ≡ Ok taken.back

some_taken : (a b : Taken) → Some a ≡ Some b → a ≡ b
some_taken a b e = cc

pub was_taken : (p : Program) (run : RunImage) (frames : Option (List Frame)) (taken : Taken) → back_of_frames p run frames ≡ Some taken → WasTaken p run frames taken
unfolding back_of_frames
was_taken p run None taken e = absurd cc
was_taken p run (Some []) taken e = absurd cc
was_taken p run (Some (frame ∷ rest)) taken e = by (frame.kind == back_kind) refl e
  where
    as_read : (kind : frame.kind ≡ back_kind) (r : Result BackImage ImageFault) → read_back p run frame.payload ≡ r → read_as rest r ≡ Some taken → WasTaken p run (Some (frame ∷ rest)) taken
    as_read kind (Err fault) is f = absurd cc
    as_read kind (Ok back) is f =
        let same = some_taken (record { back = back; rest = rest }) taken f in
        record { frame = frame; stood = ap (λ (k : Taken). Some (frame ∷ k.rest)) same; kind = kind; read = is ∙ ap (λ (k : Taken). Ok k.back) same }

    by : (b : Bool) → (frame.kind == back_kind) ≡ b → cond b (read_as rest (read_back p run frame.payload)) None ≡ Some taken → WasTaken p run (Some (frame ∷ rest)) taken
    by false is f = absurd cc
    by true is f = as_read (grind (arith, nat_tests, is)) (read_back p run frame.payload) refl f

-- ---- where the frames stand

-- what is left of a list behind its first elements, and behind one more
drop_more : (n : ℕ) (xs rest : List Frame) (x : Frame) → drop n xs ≡ x ∷ rest → (drop (suc n) xs ≡ rest) × (slice_get xs n ≡ Some x)
drop_more zero [] rest x e = absurd cc
drop_more zero (y ∷ xs) rest x e = (cc, cc)
drop_more (suc n) [] rest x e = absurd cc
drop_more (suc n) (y ∷ xs) rest x e = drop_more n xs rest x e

some_list : (xs ys : List Frame) → Some xs ≡ Some ys → xs ≡ ys
some_list xs ys e = cc

moved_on : (n : ℕ) (all : Option (List Frame)) (rest : List Frame) (x : Frame) → option_map (drop n) all ≡ Some (x ∷ rest) → option_map (drop (suc n)) all ≡ Some rest
moved_on n None rest x e = absurd cc
moved_on n (Some xs) rest x e = ap Some (drop_more n xs rest x (some_list (drop n xs) (x ∷ rest) e)).0

-- the frames behind those that were merged, as long as the device didn't fall back
abbrev Follows : List Frame → Received → Type 0
Follows frames t = t.fallen ≡ false → behind_ready t ≡ option_map (drop (length t.images)) (behind_ready (not_opened frames))

one_longer : (images : List RunImage) (image : RunImage) → length (images ++ image ∷ []) ≡ suc (length images)
one_longer images image = omega (arith, length-append images (image ∷ []))

follows_at_first : (frames : List Frame) → Follows frames (not_opened frames)
follows_at_first frames fallen = by (behind_ready (not_opened frames))
  where
    by : (o : Option (List Frame)) → o ≡ option_map (drop 0) o
    by None = refl
    by (Some xs) = refl

-- the frame of a place behind the Ready answers the image of the place
place_answered : (plain : Plain) (images : List RunImage) (frames : List Frame) (n : ℕ) (rest : List Frame) (frame : Frame) → AnswersInOrder plain images frames →
    option_map (drop n) (behind_ready (not_opened frames)) ≡ Some (frame ∷ rest) → frame.kind ≡ back_kind → IsAnswer plain (slice_get images n) frame.payload
unfolding behind_ready
place_answered plain images [] n rest frame answers e kind = absurd cc
place_answered plain images (first ∷ behind) n rest frame answers e kind = by (is_ready first) refl e
  where
    by : (b : Bool) → is_ready first ≡ b → option_map (drop n) (cond b (Some behind) None) ≡ Some (frame ∷ rest) → IsAnswer plain (slice_get images n) frame.payload
    by false is f = absurd cc
    by true is f = answers is n frame (drop_more n behind rest frame (some_list (drop n behind) (frame ∷ rest) f)).1 kind

-- what is noted at the end has each image where it was noted
stands_noted : (before : List RunImage) (image : RunImage) (after : List RunImage) → slice_get (before ++ image ∷ after) (length before) ≡ Some image
stands_noted [] image after = refl
stands_noted (x ∷ before) image after = stands_noted before image after

-- ---- the hook

not_both : (b c : Bool) → (not b && c) ≡ true → b ≡ false
not_both true c e = absurd cc
not_both false c e = refl

abbrev images_of : Received → List RunImage
images_of t = t.images

module _ (runnables : RunnableIs) (parts_of : RunsHaveParts) (answers : AnsweredIs) (runs : FunctionRuns silent) (reads : BackIsRead) (file : List ℕ) (plain : Plain) (bytes : AreBytes file) (is : IsPlain file plain)
    (moves : ℕ → Bool) (frames : List Frame) (noted : List RunImage) (in_order : AnswersInOrder plain noted frames) where
  -- ---- what is kept

  reply_follows : (w : World) (image : RunImage) (t : Received) → t.fallen ≡ false → Follows frames t → (o : Option Taken) → back_of_frames (program_of plain) image (behind_ready t) ≡ o →
      Follows frames (left_by (reply_of (program_of plain) w out_order image t o))
  unfolding reply_of behind_ready
  reply_follows w image t up follows None e fallen = absurd cc
  reply_follows w image t up follows (Some taken) e fallen =
      let was = was_taken (program_of plain) image (behind_ready t) taken e in
      let next = moved_on (length t.images) (behind_ready (not_opened frames)) taken.rest was.frame (sym (follows up) ∙ was.stood) in
      sym next ∙ sym (ap (λ (n : ℕ). option_map (drop n) (behind_ready (not_opened frames))) (one_longer t.images image))

  entry_follows : (m : ℕ) (args : List Value) (stack : Stack) (w : World) (t : Received) → (b : Bool) → (not t.fallen && moves m) ≡ b → Follows frames t →
      Follows frames (left_by (cond b (sent_in (plain_device plain moves) out_order m args stack w t) (Here t)))
  unfolding sent_in
  entry_follows m args stack w t false e follows = follows
  entry_follows m args stack w t true e follows =
      let image = run_image (program_of plain) w out_order m args stack in
      reply_follows w image t (not_both t.fallen (moves m) e) follows (back_of_frames (program_of plain) image (behind_ready t)) refl

  -- ---- what is answered

  reply_right : (m : ℕ) (args : List Value) (stack : Stack) (w : World) (t : Received) → t.fallen ≡ false → Follows frames t → (o : Option Taken) →
      back_of_frames (program_of plain) (run_image (program_of plain) w out_order m args stack) (behind_ready t) ≡ o →
      IsRight (setting_of plain) (LeadsTo images_of noted) m args stack w t (reply_of (program_of plain) w out_order (run_image (program_of plain) w out_order m args stack) t o)
  unfolding reply_of
  reply_right m args stack w t up follows None e = λ leads.
      let image = run_image (program_of plain) w out_order m args stack in
      (image ∷ leads.0, sym (append_assoc t.images (image ∷ []) leads.0) ∙ leads.1)
  reply_right m args stack w t up follows (Some taken) e = λ leads.
      let image = run_image (program_of plain) w out_order m args stack in
      let was = was_taken (program_of plain) image (behind_ready t) taken e in
      let all : t.images ++ (image ∷ leads.0) ≡ noted = sym (append_assoc t.images (image ∷ []) leads.0) ∙ leads.1 in
      let stands : slice_get noted (length t.images) ≡ Some image = sym (ap (λ (images : List RunImage). slice_get images (length t.images)) all) ∙ stands_noted t.images image leads.0 in
      let answer = place_answered plain noted frames (length t.images) taken.rest was.frame in_order (sym (follows up) ∙ was.stood) was.kind in
      let is_answer : IsAnswer plain (Some image) was.frame.payload = subst (λ (o : Option RunImage). IsAnswer plain o was.frame.payload) stands answer in
      ((image ∷ leads.0, all), answer_is_right runnables parts_of answers runs reads file plain bytes is m args stack w was.frame.payload taken.back is_answer.0 is_answer.1 was.read)

  entry_right : (m : ℕ) (args : List Value) (stack : Stack) (w : World) (t : Received) → (b : Bool) → (not t.fallen && moves m) ≡ b → Follows frames t →
      IsRight (setting_of plain) (LeadsTo images_of noted) m args stack w t (cond b (sent_in (plain_device plain moves) out_order m args stack w t) (Here t))
  unfolding sent_in
  entry_right m args stack w t false e follows = λ leads. leads
  entry_right m args stack w t true e follows =
      reply_right m args stack w t (not_both t.fallen (moves m) e) follows (back_of_frames (program_of plain) (run_image (program_of plain) w out_order m args stack) (behind_ready t)) refl

  follows_on : FaithfulWhile (receiver (plain_device plain moves)) (setting_of plain) (Follows frames) (LeadsTo images_of noted)
  unfolding receiver entry_of
  follows_on = record {
    kept = λ m args stack w t follows. entry_follows m args stack w t (not t.fallen && moves m) refl follows;
    entry = λ m args stack w t follows. entry_right m args stack w t (not t.fallen && moves m) refl follows;
    still = λ depth called t follows. follows;
    turned = λ depth called t follows leads. leads;
  }

parts_of_offloaded : (limits : Limits) (r : Ran Received) → ((offloaded_of limits r).report ≡ report_of limits r) × ((offloaded_of limits r).received ≡ at_end r)
parts_of_offloaded limits (ran e w t) = (refl, refl)

pub honest_is_local : RunnableIs → RunsHaveParts → AnsweredIs → FunctionRuns silent → BackIsRead → HonestIsLocal
unfolding offloaded
honest_is_local runnables parts_of answers runs reads file plain moves limits frames bytes is in_order =
    let r = run_with (receiver (plain_device plain moves)) (setting_of plain) [] limits (not_opened frames) in
    let parts = parts_of_offloaded limits r in
    let noted = (at_end r).images in
    let answered : AnswersInOrder plain noted frames = subst (λ (t : Received). AnswersInOrder plain t.images frames) parts.1 in_order in
    parts.0 ∙ faithful_from (receiver (plain_device plain moves)) (setting_of plain) (Follows frames) (LeadsTo images_of noted) (receiver_spends (plain_device plain moves))
    (follows_on runnables parts_of answers runs reads file plain bytes is moves frames noted answered) [] limits (not_opened frames) (follows_at_first frames) ([], append-nil noted)
