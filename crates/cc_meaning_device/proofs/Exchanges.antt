-- The frames that come of an exchange with a clone answer the images.
use Rattle.std.proofs.Common.{◌≡◌, ℕ, zero, suc, ◌≤◌, List, [], ◌∷◌, ◌++◌, length, map, Some, Result, Ok, Err, refl, sym, ap, ◌∙◌, subst, arith, slice_get}
use Rattle.std.specs.List.{flat_map, AllByRecursion}
use Rattle.std.proofs.lemmas.List.{append-nil, append_assoc}
use Rattle.cc_meaning.specs.declared.frame.Frame.{Frame}
use Rattle.cc_meaning.specs.declared.fault.ImageFault.{ImageFault}
use Rattle.cc_meaning.specs.declared.image.RunImage.{RunImage}
use Rattle.cc_meaning.specs.declared.travel.CloneEnd.{CloneEnd}
use Rattle.cc_meaning.specs.declared.travel.CloneEnd.TheVariants.{BadRun}
use Rattle.cc_meaning.specs.declared.image.BackImage.{BackImage}
use Rattle.cc_meaning_run.specs.Acts.{less_by}
use Rattle.cc_meaning_images.specs.Spelling.{spelled_run, spelled_back}
use Rattle.cc_meaning_images.specs.Reading.{read_run}
use Rattle.cc_meaning_images.specs.Forms.{IsRunOf}
use Rattle.cc_meaning_nodes.specs.Frames.{IsFrame, spelling, Rest, Frames, ends, with_frames, frames_after, frames_of, frames_from}
use Rattle.cc_meaning_nodes.specs.FrameLaws.{GoesOn, IsReadAgain}
use Rattle.cc_meaning_nodes.specs.Talk.{Open, replies_to, says, IsPrefixOf, SaidIsFront}
use Rattle.cc_meaning_nodes.specs.Clone.{hello_kind, back_kind, refuse_kind, clone_answer, Waiting, Serving}
use Rattle.cc_meaning_plain.specs.declared.plain.Plain.{Plain}
use Rattle.cc_meaning_plain.specs.Laws.{AreBytes, PlainOnce}
use Rattle.cc_meaning_plain.specs.Plain.{IsPlain}
use Rattle.cc_meaning_plain.specs.Program.{program_of}
use Rattle.cc_meaning_plain.specs.Text.{instructions_of}
use Rattle.cc_meaning_clone.specs.Served.{answered, served}
use Rattle.cc_meaning_clone.specs.Functions.{AnsweredIs, RunsHaveParts, BacksAreShort}
use Rattle.cc_meaning_clone.specs.Hello.{IsJudged, accepted, JudgedOnce}
use Rattle.cc_meaning_clone.specs.Plain.{plain_clone, IsJudgedFirst}
use Rattle.cc_meaning_device.specs.Complete.{ready_frame, back_frame}
use Rattle.cc_meaning_device.specs.Honest.{IsAnswer, AnswersInOrder, IsReadAsItself, run_frame, requests, IsExchange, StreamAnswersInOrder}

-- ---- fronts

front_of_front : (xs ys zs : List ℕ) → IsPrefixOf xs ys → IsPrefixOf ys zs → IsPrefixOf xs zs
front_of_front xs ys zs one two = (one.0 ++ two.0, sym (append_assoc xs one.0 two.0) ∙ ap (λ (front : List ℕ). front ++ two.0) one.1 ∙ two.1)

-- a front of frames
abbrev pub IsFront : List Frame → List Frame → Type 0
IsFront front frames = (rest : List Frame) × (front ++ rest ≡ frames)

pub nothing_comes : frames_of [] ≡ ends (Rest [])
unfolding frames_after
nothing_comes = refl

-- what is read of a front of the spelling of frames is a front of them
pub read_front : GoesOn → IsReadAgain → (frames : List Frame) (part : List ℕ) → AllByRecursion IsFrame frames → IsPrefixOf part (flat_map spelling frames) → IsFront (frames_of part).frames frames
read_front goes_on again frames part are front =
    let all : frames_of (part ++ front.0) ≡ with_frames frames (frames_of []) = ap frames_of (front.1 ∙ sym (append-nil (flat_map spelling frames))) ∙ again frames [] are in
    let parts : frames_of (part ++ front.0) ≡ with_frames (frames_of part).frames (frames_from (frames_of part).ending front.0) = goes_on (Rest []) part front.0 in
    let same : (frames_of part).frames ++ (frames_from (frames_of part).ending front.0).frames ≡ frames ++ (frames_of []).frames = ap (λ (fs : Frames). fs.frames) (sym parts ∙ all) in
    ((frames_from (frames_of part).ending front.0).frames, same ∙ ap (λ (fs : Frames). frames ++ fs.frames) nothing_comes ∙ append-nil frames)

same_in_front : (front rest : List Frame) (i : ℕ) (frame : Frame) → slice_get front i ≡ Some frame → slice_get (front ++ rest) i ≡ Some frame
same_in_front [] rest i frame e = absurd cc
same_in_front (x ∷ front) rest zero frame e = e
same_in_front (x ∷ front) rest (suc i) frame e = same_in_front front rest i frame e

-- ---- what a clone answers

abbrev refuse_frame : Frame
refuse_frame = record { kind = refuse_kind; payload = 77 ∷ [] }

-- a Back of each image that is read, up to the first one that isn't
abbrev pub answer_by : Plain → List Frame → Result RunImage ImageFault → List Frame
answer_by plain later (Ok image) = back_frame plain image ∷ later
answer_by plain later (Err fault) = refuse_frame ∷ []

unfoldable pub answers : Plain → List RunImage → List Frame
answers plain [] = []
answers plain (image ∷ images) = answer_by plain (answers plain images) (read_run (program_of plain) (spelled_run image))

-- a clone of this file says to Runs what answers them
says_answers : (verdict : Result Plain ℕ) (plain : Plain) (images : List RunImage) → replies_to (plain_clone verdict) (Ok (Serving plain)) (map run_frame images) ≡ flat_map spelling (answers plain images)
unfolding answers clone_answer served
says_answers verdict plain [] = refl
says_answers verdict plain (image ∷ images) = by (says_answers verdict plain images) (read_run (program_of plain) (spelled_run image)) refl
  where
    silent_behind : (frames : List Frame) (cause : CloneEnd) → replies_to (plain_clone verdict) (Err cause) frames ≡ []
    silent_behind [] cause = refl
    silent_behind (f ∷ frames) cause = refl

    by : replies_to (plain_clone verdict) (Ok (Serving plain)) (map run_frame images) ≡ flat_map spelling (answers plain images) →
        (r : Result RunImage ImageFault) → read_run (program_of plain) (spelled_run image) ≡ r →
        replies_to (plain_clone verdict) (Ok (Serving plain)) (map run_frame (image ∷ images)) ≡ flat_map spelling (answer_by plain (answers plain images) r)
    by later (Ok other) e = rw e (ap (λ (rest : List ℕ). spelling (back_frame plain other) ++ rest) later)
    by later (Err fault) e = rw e (ap (λ (rest : List ℕ). spelling refuse_frame ++ rest) (silent_behind (map run_frame images) (BadRun fault)))

-- what it says to a Hello and Runs
says_all : (plain : Plain) (hello : List ℕ) (images : List RunImage) →
    replies_to (plain_clone (Ok plain)) (Ok Waiting) (record { kind = hello_kind; payload = hello } ∷ map run_frame images) ≡ flat_map spelling (ready_frame ∷ answers plain images)
unfolding clone_answer
says_all plain hello images = ap (λ (rest : List ℕ). spelling ready_frame ++ rest) (says_answers (Ok plain) plain images)

spelled_requests : (hello : List ℕ) (images : List RunImage) → requests hello images ≡ flat_map spelling (record { kind = hello_kind; payload = hello } ∷ map run_frame images)
spelled_requests hello images = ap (λ (rest : List ℕ). spelling (record { kind = hello_kind; payload = hello }) ++ rest) (by images)
  where
    by : (images : List RunImage) → flat_map (λ image. spelling (run_frame image)) images ≡ flat_map spelling (map run_frame images)
    by [] = refl
    by (image ∷ images) = ap (λ (rest : List ℕ). spelling (run_frame image) ++ rest) (by images)

runs_are_frames : (images : List RunImage) → AllByRecursion (λ image. IsFrame (run_frame image)) images → AllByRecursion IsFrame (map run_frame images)
runs_are_frames [] h = tt
runs_are_frames (image ∷ images) h = (h.0, runs_are_frames images h.1)

-- each answer is one
answers_answer : (plain : Plain) (images : List RunImage) → AllByRecursion (IsReadAsItself plain) images → (i : ℕ) (frame : Frame) → slice_get (answers plain images) i ≡ Some frame → frame.kind ≡ back_kind →
    IsAnswer plain (slice_get images i) frame.payload
unfolding answers
answers_answer plain [] h i frame e kind = absurd cc
answers_answer plain (image ∷ images) h i frame e kind = by (answers_answer plain images h.1) (read_run (program_of plain) (spelled_run image)) refl i e
  where
    some_frame : (a b : Frame) → Some a ≡ Some b → a ≡ b
    some_frame a b f = cc

    by : ((j : ℕ) (frame : Frame) → slice_get (answers plain images) j ≡ Some frame → frame.kind ≡ back_kind → IsAnswer plain (slice_get images j) frame.payload) →
        (r : Result RunImage ImageFault) → read_run (program_of plain) (spelled_run image) ≡ r → (i : ℕ) → slice_get (answer_by plain (answers plain images) r) i ≡ Some frame →
        IsAnswer plain (slice_get (image ∷ images) i) frame.payload
    by later (Ok other) read zero f =
        let is = h.0 other read in
        (is.1, ap (λ (x : Frame). x.payload) (sym (some_frame (back_frame plain other) frame f)) ∙ ap (λ (x : RunImage). spelled_back (answered plain x)) is.0)
    by later (Ok other) read (suc i) f = later i frame f kind
    by later (Err fault) read zero f = let other : refuse_kind ≡ back_kind = ap (λ (x : Frame). x.kind) (some_frame refuse_frame frame f) ∙ kind in absurd (omega (arith, other))
    by later (Err fault) read (suc i) f = absurd cc

-- each is a frame
pub answers_are_frames : RunsHaveParts → AnsweredIs → BacksAreShort → (file : List ℕ) (plain : Plain) → AreBytes file → IsPlain file plain → (images : List RunImage) → AllByRecursion (IsReadAsItself plain) images →
    AllByRecursion IsFrame (answers plain images)
unfolding answers
answers_are_frames parts_of answers_is short file plain bytes is [] h = tt
answers_are_frames parts_of answers_is short file plain bytes is (image ∷ images) h = by (answers_are_frames parts_of answers_is short file plain bytes is images h.1) (read_run (program_of plain) (spelled_run image)) refl
  where
    back_is_short : (other : RunImage) → read_run (program_of plain) (spelled_run image) ≡ Ok other → length (spelled_back (answered plain other)) ≤ 30
    back_is_short other read =
        let is_itself = h.0 other read in
        let is_run = subst (λ (x : RunImage). IsRunOf (program_of plain) x) (sym is_itself.0) is_itself.1 in
        let parts = parts_of plain other is_run in
        let answer = answers_is file plain other parts.function parts.argument bytes is is_run parts.found parts.args in
        subst (λ (back : BackImage). length (spelled_back back) ≤ 30) (sym answer)
        (short parts.function.code parts.argument (less_by (instructions_of parts.function.code) other.instructions) other parts.status parts.statuses)

    by : AllByRecursion IsFrame (answers plain images) → (r : Result RunImage ImageFault) → read_run (program_of plain) (spelled_run image) ≡ r → AllByRecursion IsFrame (answer_by plain (answers plain images) r)
    by later (Ok other) read = let less = back_is_short other read in (record { low = omega arith; high = omega arith; short = omega (arith, less) }, later)
    by later (Err fault) read = (record { low = omega arith; high = omega arith; short = omega arith }, tt)

-- ---- an exchange

front_answers : (plain : Plain) (images : List RunImage) → AllByRecursion (IsReadAsItself plain) images → (front : List Frame) → IsFront front (ready_frame ∷ answers plain images) → AnswersInOrder plain images front
front_answers plain images h [] e = tt
front_answers plain images h (first ∷ behind) e = λ is i frame stands kind.
    let same : behind ++ e.0 ≡ answers plain images = tails first ready_frame (behind ++ e.0) (answers plain images) e.1 in
    answers_answer plain images h i frame (sym (ap (λ (frames : List Frame). slice_get frames i) same) ∙ same_in_front behind e.0 i frame stands) kind
  where
    tails : (x y : Frame) (xs ys : List Frame) → x ∷ xs ≡ y ∷ ys → xs ≡ ys
    tails x y xs ys f = cc

first_same : (x y : Frame) (xs ys : List Frame) → x ∷ xs ≡ y ∷ ys → x ≡ y
first_same x y xs ys f = cc

front_of_nothing : (xs : List ℕ) → IsPrefixOf xs [] → xs ≡ []
front_of_nothing [] e = refl
front_of_nothing (x ∷ xs) e = absurd (let bad = e.1 in cc)

-- ---- what is asked

abbrev pub hello_frame : List ℕ → Frame
hello_frame hello = record { kind = hello_kind; payload = hello }

requests_are_frames : (hello : List ℕ) (images : List RunImage) → length hello ≤ 67108864 → AllByRecursion (λ image. IsFrame (run_frame image)) images → AllByRecursion IsFrame (hello_frame hello ∷ map run_frame images)
requests_are_frames hello images short frames = (record { low = omega arith; high = omega arith; short = short }, runs_are_frames images frames)

requests_read : IsReadAgain → (hello : List ℕ) (images : List RunImage) → length hello ≤ 67108864 → AllByRecursion (λ image. IsFrame (run_frame image)) images → (frames_of (requests hello images)).frames ≡ hello_frame hello ∷ map run_frame images
requests_read again hello images short frames =
    let all = hello_frame hello ∷ map run_frame images in
    ap (λ (bytes : List ℕ). (frames_of bytes).frames) (spelled_requests hello images ∙ sym (append-nil (flat_map spelling all)))
    ∙ ap (λ (fs : Frames). fs.frames) (again all [] (requests_are_frames hello images short frames)) ∙ ap (λ (fs : Frames). all ++ fs.frames) nothing_comes ∙ append-nil all

-- what a clone of the file says to all of it
pub says_in_all : IsReadAgain → (plain : Plain) (hello : List ℕ) (images : List RunImage) → length hello ≤ 67108864 → AllByRecursion (λ image. IsFrame (run_frame image)) images →
    says (plain_clone (Ok plain)) (Open Waiting []) (requests hello images) ≡ flat_map spelling (ready_frame ∷ answers plain images)
says_in_all again plain hello images short frames =
    ap (λ (fs : List Frame). replies_to (plain_clone (Ok plain)) (Ok Waiting) fs) (requests_read again hello images short frames) ∙ says_all plain hello images

module _ (goes_on : GoesOn) (again : IsReadAgain) (file : List ℕ) (plain : Plain) (images : List RunImage) (got : List ℕ) (x : IsExchange plain images got) (frames : AllByRecursion (λ image. IsFrame (run_frame image)) images) where
  -- the first frame that was sent is the Hello, so its verdict is the right one
  pub verdict_is : JudgedOnce → PlainOnce → (first : Frame) (rest : List Frame) → (frames_of x.sent).frames ≡ first ∷ rest → x.verdict ≡ Ok plain
  verdict_is once plain_once first rest e =
      let front = read_front goes_on again (hello_frame x.hello ∷ map run_frame images) x.sent (requests_are_frames x.hello images x.hello_is_short frames) (x.is_sent.0, x.is_sent.1 ∙ spelled_requests x.hello images) in
      let same : first ≡ hello_frame x.hello = first_same first (hello_frame x.hello) (rest ++ front.0) (map run_frame images) (sym (ap (λ (fs : List Frame). fs ++ front.0) e) ∙ front.1) in
      let judged_first : IsJudgedFirst (first ∷ rest) x.verdict = subst (λ (fs : List Frame). IsJudgedFirst fs x.verdict) e x.is_verdict in
      let judged : IsJudged x.hello x.verdict = subst (λ (payload : List ℕ). IsJudged payload x.verdict) (ap (λ (f : Frame). f.payload) same) (judged_first (ap (λ (f : Frame). f.kind) same)) in
      once plain_once x.hello x.verdict (Ok plain) judged (accepted plain x.is_hello)

  -- what was got is a front of what answers the images
  pub got_front : ((verdict : Result Plain ℕ) → SaidIsFront (plain_clone verdict)) → x.verdict ≡ Ok plain → IsPrefixOf got (flat_map spelling (ready_frame ∷ answers plain images))
  got_front said verdict =
      let more = said x.verdict (Open Waiting []) x.sent x.is_sent.0 in
      let front = front_of_front got _ _ x.is_got more in
      let all : says (plain_clone x.verdict) (Open Waiting []) (x.sent ++ x.is_sent.0) ≡ flat_map spelling (ready_frame ∷ answers plain images) =
      ap (λ (bytes : List ℕ). says (plain_clone x.verdict) (Open Waiting []) bytes) x.is_sent.1
      ∙ ap (λ (v : Result Plain ℕ). says (plain_clone v) (Open Waiting []) (requests x.hello images)) verdict
      ∙ says_in_all again plain x.hello images x.hello_is_short frames in
      (front.0, front.1 ∙ all)

  -- where the Hello didn't come whole, nothing was got
  pub got_nothing : (frames_of x.sent).frames ≡ [] → got ≡ []
  got_nothing e = front_of_nothing got (x.is_got.0, x.is_got.1 ∙ ap (λ (fs : List Frame). replies_to (plain_clone x.verdict) (Ok Waiting) fs) e)

pub stream_answers : GoesOn → IsReadAgain → ((verdict : Result Plain ℕ) → SaidIsFront (plain_clone verdict)) → JudgedOnce → PlainOnce → RunsHaveParts → AnsweredIs → BacksAreShort → StreamAnswersInOrder
stream_answers goes_on again said once plain_once parts_of answers_is short file plain images got bytes is itself frames x = by (frames_of x.sent).frames refl
  where
    by : (fs : List Frame) → (frames_of x.sent).frames ≡ fs → AnswersInOrder plain images (frames_of got).frames
    by [] e =
        let nothing : (frames_of got).frames ≡ [] = ap (λ (bytes : List ℕ). (frames_of bytes).frames) (got_nothing goes_on again file plain images got x frames e) ∙ ap (λ (all : Frames). all.frames) nothing_comes in
        subst (λ (fs : List Frame). AnswersInOrder plain images fs) (sym nothing) tt
    by (first ∷ rest) e =
        let verdict = verdict_is goes_on again file plain images got x frames once plain_once first rest e in
        let are_frames : AllByRecursion IsFrame (ready_frame ∷ answers plain images) =
        (record { low = omega arith; high = omega arith; short = omega arith }, answers_are_frames parts_of answers_is short file plain bytes is images itself) in
        front_answers plain images itself (frames_of got).frames
        (read_front goes_on again (ready_frame ∷ answers plain images) got are_frames (got_front goes_on again file plain images got x frames said verdict))
