-- Over an exchange with a clone of the same file each frame that comes is the one that is awaited, and each Back fits.
use Rattle.std.proofs.Common.{◌≡◌, ℕ, ◌≤◌, Bool, List, [], ◌∷◌, ◌++◌, map, Result, Ok, refl, sym, ap, ◌∙◌, subst, arith}
use Rattle.std.specs.List.{flat_map, AllByRecursion}
use Rattle.std.proofs.lemmas.List.{append-nil}
use Rattle.cc_meaning.specs.declared.frame.Frame.{Frame}
use Rattle.cc_meaning.specs.declared.fault.FrameFault.{FrameFault}
use Rattle.cc_meaning.specs.declared.image.RunImage.{RunImage}
use Rattle.cc_meaning.specs.declared.image.BackImage.{BackImage}
use Rattle.cc_meaning.specs.declared.report.Limits.{Limits}
use Rattle.cc_meaning_run.specs.Acts.{less_by}
use Rattle.cc_meaning_images.specs.Spelling.{spelled_run, spelled_back}
use Rattle.cc_meaning_images.specs.Reading.{read_run, read_back}
use Rattle.cc_meaning_images.specs.Forms.{IsRunOf, RunIsRead, BackIsRead}
use Rattle.cc_meaning_nodes.specs.Frames.{IsFrame, spelling, Ending, Rest, Fails, Frames, with_frames, frames_of, frames_from}
use Rattle.cc_meaning_nodes.specs.FrameLaws.{GoesOn, IsReadAgain}
use Rattle.cc_meaning_nodes.specs.Talk.{IsPrefixOf, SaidIsFront}
use Rattle.cc_meaning_plain.specs.declared.plain.Plain.{Plain}
use Rattle.cc_meaning_plain.specs.Laws.{AreBytes, PlainOnce}
use Rattle.cc_meaning_plain.specs.Plain.{IsPlain}
use Rattle.cc_meaning_plain.specs.Program.{program_of}
use Rattle.cc_meaning_plain.specs.Text.{instructions_of}
use Rattle.cc_meaning_clone.specs.Served.{answered}
use Rattle.cc_meaning_clone.specs.Functions.{function_end, left_of, end_image, RunnableIs, AnsweredIs, RunsHaveParts, BacksAreShort}
use Rattle.cc_meaning_clone.specs.Hello.{JudgedOnce}
use Rattle.cc_meaning_clone.specs.Plain.{plain_clone}
use Rattle.cc_meaning_device.specs.Entries.{EntryIsRun}
use Rattle.cc_meaning_device.specs.Received.{Offloaded}
use Rattle.cc_meaning_device.specs.Straight.{plain_course, PlainOffloads}
use Rattle.cc_meaning_device.specs.Honest.{IsReadAsItself, run_frame, IsExchange}
use Rattle.cc_meaning_device.specs.Complete.{ready_frame, back_frame, IsSendable, IsAnswerable, ComesInOrder, StreamComesInOrder, NotedIsAnswered}
use Rattle.cc_meaning_device.proofs.Entries.{entry_is_frame}
use Rattle.cc_meaning_device.proofs.Exchanges.{IsFront, nothing_comes, read_front, answers, answer_by, answers_are_frames, verdict_is, got_front, got_nothing}
use Rattle.cc_meaning_device.proofs.Noted.{IsEntry, plain_notes}
use Rattle.cc_meaning_device.proofs.RightAnswers.{Target, target_of, end_is_back}

-- ---- a stream

-- a front of the spelling of frames has no fault
rest_front : GoesOn → IsReadAgain → (frames : List Frame) (part : List ℕ) → AllByRecursion IsFrame frames → IsPrefixOf part (flat_map spelling frames) → (rest : List ℕ) × ((frames_of part).ending ≡ Rest rest)
rest_front goes_on again frames part are front = by (frames_of part).ending refl
  where
    by : (e : Ending) → (frames_of part).ending ≡ e → (rest : List ℕ) × ((frames_of part).ending ≡ Rest rest)
    by (Rest rest) e = (rest, e)
    by (Fails fault) e =
        let all : frames_of (part ++ front.0) ≡ with_frames frames (frames_of []) = ap frames_of (front.1 ∙ sym (append-nil (flat_map spelling frames))) ∙ again frames [] are in
        let parts : frames_of (part ++ front.0) ≡ with_frames (frames_of part).frames (frames_from (frames_of part).ending front.0) = goes_on (Rest []) part front.0 in
        let fails : (frames_from (frames_of part).ending front.0).ending ≡ Fails fault = ap (λ (ending : Ending). (frames_from ending front.0).ending) e in
        let ends : (frames_from (frames_of part).ending front.0).ending ≡ Rest [] = ap (λ (fs : Frames). fs.ending) (sym parts ∙ all) ∙ ap (λ (fs : Frames). fs.ending) nothing_comes in
        let both : Fails fault ≡ Rest [] = sym fails ∙ ends in
        absurd cc

-- ---- images that may be sent

same_ok : {A B : Type 0} {x y : A} {r : Result A B} → r ≡ Ok x → r ≡ Ok y → x ≡ y
same_ok e f = let both = sym e ∙ f in cc

pub all_itself : (plain : Plain) (images : List RunImage) → AllByRecursion (IsSendable plain) images → AllByRecursion (IsReadAsItself plain) images
all_itself plain [] h = tt
all_itself plain (image ∷ images) h = ((λ other read. (same_ok read h.0.read, h.0.is_run)), all_itself plain images h.1)

pub all_fit : (plain : Plain) (images : List RunImage) → AllByRecursion (IsSendable plain) images → AllByRecursion (λ image. IsFrame (run_frame image)) images
all_fit plain [] h = tt
all_fit plain (image ∷ images) h = (h.0.fits, all_fit plain images h.1)

-- each is answered
pub all_answered : (plain : Plain) (images : List RunImage) → AllByRecursion (IsSendable plain) images → answers plain images ≡ map (back_frame plain) images
unfolding answers
all_answered plain [] h = refl
all_answered plain (image ∷ images) h = ap (answer_by plain (answers plain images)) h.0.read ∙ ap (λ (frames : List Frame). back_frame plain image ∷ frames) (all_answered plain images h.1)

pub stream_comes : GoesOn → IsReadAgain → ((verdict : Result Plain ℕ) → SaidIsFront (plain_clone verdict)) → JudgedOnce → PlainOnce → RunsHaveParts → AnsweredIs → BacksAreShort → StreamComesInOrder
stream_comes goes_on again said once plain_once parts_of answers_is short file plain images got bytes is sendable x = by (frames_of x.sent).frames refl
  where
    itself : AllByRecursion (IsReadAsItself plain) images
    itself = all_itself plain images sendable

    fit : AllByRecursion (λ image. IsFrame (run_frame image)) images
    fit = all_fit plain images sendable

    by : (fs : List Frame) → (frames_of x.sent).frames ≡ fs → ComesInOrder plain images got
    by [] e =
        let nothing : frames_of got ≡ frames_of [] = ap frames_of (got_nothing goes_on again file plain images got x fit e) in
        record {
          missing = ready_frame ∷ map (back_frame plain) images;
          frames = ap (λ (fs : Frames). fs.frames ++ ready_frame ∷ map (back_frame plain) images) (nothing ∙ nothing_comes);
          rest = [];
          whole = ap (λ (fs : Frames). fs.ending) (nothing ∙ nothing_comes);
        }
    by (first ∷ rest) e =
        let verdict = verdict_is goes_on again file plain images got x fit once plain_once first rest e in
        let are_frames : AllByRecursion IsFrame (ready_frame ∷ answers plain images) =
        (record { low = omega arith; high = omega arith; short = omega arith }, answers_are_frames parts_of answers_is short file plain bytes is images itself) in
        let front = got_front goes_on again file plain images got x fit said verdict in
        let came = read_front goes_on again (ready_frame ∷ answers plain images) got are_frames front in
        let ends = rest_front goes_on again (ready_frame ∷ answers plain images) got are_frames front in
        record {
          missing = came.0;
          frames = came.1 ∙ ap (λ (frames : List Frame). ready_frame ∷ frames) (all_answered plain images sendable);
          rest = ends.0;
          whole = ends.1;
        }

-- ---- the images that are noted

module _ (entries : EntryIsRun) (runs_read : RunIsRead) (runnables : RunnableIs) (parts_of : RunsHaveParts) (answers_is : AnsweredIs) (backs_read : BackIsRead) (file : List ℕ) (plain : Plain) (bytes : AreBytes file) (is : IsPlain file plain) (limits : Limits) (few_i : limits.instructions ≤ 4294967296) (few_w : limits.words ≤ 4194304) where
  entry_is_run : (image : RunImage) → IsEntry plain limits image → IsRunOf (program_of plain) image
  entry_is_run image e =
      subst (λ (x : RunImage). IsRunOf (program_of plain) x) (sym e.is)
      (entries file plain e.place e.function e.argument e.instructions e.words bytes is e.stands e.fits (omega (arith, few_i, e.few_instructions)) (omega (arith, few_w, e.few_words)))

  sendable : (image : RunImage) → IsEntry plain limits image → IsSendable plain image
  sendable image e =
      let is_run = entry_is_run image e in
      record {
        is_run = is_run;
        fits = subst (λ (x : RunImage). IsFrame (run_frame x)) (sym e.is) (entry_is_frame plain e.place e.instructions e.words e.argument);
        read = runs_read (program_of plain) image is_run;
      }

  answerable : (image : RunImage) → IsRunOf (program_of plain) image → IsAnswerable plain image
  answerable image is_run =
      let t = target_of runnables parts_of plain image is_run in
      let left = less_by (instructions_of t.function.code) image.instructions in
      let answer = answers_is file plain image t.function t.argument bytes is is_run t.numbered t.args in
      subst (λ (back : BackImage). read_back (program_of plain) image (spelled_back back) ≡ Ok back) (sym answer)
      (backs_read (program_of plain) image (end_image (function_end t.function.code t.argument left) (left_of left) image) (end_is_back file plain bytes is image is_run t))

  all_noted : (images : List RunImage) → AllByRecursion (IsEntry plain limits) images → AllByRecursion (IsSendable plain) images × AllByRecursion (IsAnswerable plain) images
  all_noted [] h = (tt, tt)
  all_noted (image ∷ images) h =
      let more = all_noted images h.1 in
      ((sendable image h.0, more.0), (answerable image (entry_is_run image h.0), more.1))

pub noted_is_answered : PlainOffloads → EntryIsRun → RunIsRead → RunnableIs → RunsHaveParts → AnsweredIs → BackIsRead → NotedIsAnswered
noted_is_answered offloads entries runs_read runnables parts_of answers_is backs_read file plain moves limits frames bytes is few_i few_w =
    let images = (plain_course plain moves limits frames).received.images in
    let all = all_noted entries runs_read runnables parts_of answers_is backs_read file plain bytes is limits few_i few_w images (plain_notes file plain bytes is moves limits frames) in
    subst (λ (o : Offloaded). AllByRecursion (IsSendable plain) o.received.images × AllByRecursion (IsAnswerable plain) o.received.images) (sym (offloads file plain moves limits frames bytes is)) all
