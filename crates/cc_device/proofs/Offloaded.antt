-- What an offloaded run promises, by how the device stands at its end.
use Rattle.std.proofs.Common.{◌≡◌, inl, inr, ℕ, ◌≤◌, Bool, true, false, cond, List, [], ◌∷◌, ◌++◌, length, Option, Some, None, is_some, Result, Ok, refl, sym, ap, ◌∙◌, subst, arith, append_assoc}
use Rattle.std.specs.List.{flat_map}
use Rattle.std.proofs.lemmas.List.{append-nil}
use Rattle.cc_meaning.specs.declared.file.Job.{Job}
use Rattle.cc_meaning.specs.declared.frame.Frame.{Frame}
use Rattle.cc_meaning.specs.declared.image.RunImage.{RunImage}
use Rattle.cc_meaning.specs.declared.program.Program.{Program}
use Rattle.cc_meaning.specs.declared.report.Ending.{Ending}
use Rattle.cc_meaning.specs.declared.report.Ending.TheVariants as ending
use Rattle.cc_meaning.specs.declared.report.Limits.{Limits}
use Rattle.cc_meaning.specs.declared.report.Report.{Report}
use Rattle.cc_meaning.specs.declared.travel.LinkEnd.{LinkEnd}
use Rattle.cc_meaning.specs.declared.travel.Travel.{Travel}
use Rattle.cc_meaning_run.specs.Acts.{less_by}
use Rattle.cc_meaning_nodes.specs.Frames.{IsFrame, Rest, Frames, with_frames, spelling, frames_of, frames_from}
use Rattle.cc_meaning_nodes.specs.FrameLaws.{GoesOn, IsReadAgain}
use Rattle.cc_meaning_nodes.specs.Talk.{IsPrefixOf}
use Rattle.cc_meaning_nodes.specs.Clone.{hello_kind, frame_bytes}
use Rattle.cc_meaning_plain.specs.declared.plain.Plain.{Plain}
use Rattle.cc_meaning_plain.specs.Program.{program_of}
use Rattle.cc_meaning_plain.specs.Staged.{stage_report}
use Rattle.cc_meaning_clone.specs.Hello.{IsHelloOf, IsJudged, accepted}
use Rattle.cc_meaning_clone.specs.Plain.{IsVerdict, IsJudgedFirst}
use Rattle.cc_meaning_device.specs.Received.{Received, not_opened, Offloaded}
use Rattle.cc_meaning_device.specs.Straight.{Course, course_within, plain_course, offloaded_by, PlainOffloads}
use Rattle.cc_meaning_device.specs.Honest.{run_frame, requests, IsExchange}
use Rattle.cc_meaning_device.specs.Complete.{moved_calls, MergesEach, EachCallMigrates}
use Rattle.cc_meaning_device.specs.Transparent.{FitImages, CloneIsTransparent}
use Rattle.cc_machine.specs.declared.progress.Progress.{Progress}
use Rattle.cc_machine.specs.declared.progress.Pause.{Pause}
use Rattle.cc_machine.specs.declared.progress.Pause.TheVariants as pauses
use Rattle.cc_machine.specs.Running.{opening, stage_ended}
use Rattle.cc_link.specs.Links.{Known, Counts, NeverFall, known_sent, known_got}
use Rattle.cc_link.specs.Honest.{at_start, said_to, IsHonestLink, told}
use Rattle.cc_device.specs.declared.contact.Contact.{Contact}
use Rattle.cc_device.specs.Exchanging.{Span, span}
use Rattle.cc_device.specs.Judging.{run_bytes}
use Rattle.cc_device.specs.Travelling.{IsOfFile, moves_of, hello_payload, hello_bytes, begun_with, begun_course, paused_course, received_of, GoesSo, begins_ready, due, EndsTravel, not_dialed, in_sending, in_awaiting, by_frame, TravelsSo, TravelsAs, Stood, offloaded_over, Offloads, IsLocal}
use Rattle.cc_device.proofs.Exchanges.{got-nil, sent-nil}

-- ---- the beginning

abbrev pub unreached : Contact
unreached = record { is_open = false; merged = 0; end = None }

no_fall : (c : Counts) → NeverFall c c
no_fall c = record { faults = omega arith; stalls = omega arith; waits = omega arith; ends = omega arith; carried = omega arith }

opens_so : (plain : Plain) (moves : ℕ → Bool) (limits : Limits) (o : Option ℕ) (t : Received) → course_within plain moves limits o t ≡ begun_with plain moves o (opening plain limits) t
unfolding course_within
opens_so plain moves limits None t = refl
opens_so plain moves limits (Some words) t = refl

plain_opens : (plain : Plain) (moves : ℕ → Bool) (limits : Limits) (frames : List Frame) → plain_course plain moves limits frames ≡ begun_course plain moves (opening plain limits) (not_opened frames)
unfolding plain_course
plain_opens plain moves limits frames = opens_so plain moves limits (less_by 2 limits.words) (not_opened frames)

pub stands_first : (plain : Plain) (moved : Option ℕ) (job : Job) (start machine : Progress) (pause : Pause) (k : Known) (c : Counts) (prompt : Type 0) → start ≡ opening plain job.limits →
    ((t : Received) → t.fallen ≡ false → begun_course plain (moves_of plain moved) start t ≡ paused_course plain (moves_of plain moved) pause machine t) →
    Stood plain moved job unreached (paused_course plain (moves_of plain moved) pause machine) k c prompt k c prompt
stands_first plain moved job start machine pause k c prompt is course = record {
  sent = [];
  got = [];
  images = [];
  known = sym (got-nil (known_sent [] k) ∙ sent-nil k);
  counts = no_fall c;
  stays = λ reaches p. p;
  travels = record { none = refl; silent = refl; deaf = refl };
  course = λ more. plain_opens plain (moves_of plain moved) job.limits (frames_of more).frames ∙ ap (λ (p : Progress). begun_course plain (moves_of plain moved) p (not_opened (frames_of more).frames)) (sym is) ∙ course (not_opened (frames_of more).frames) refl;
}

-- ---- the end

module _ (law : PlainOffloads) (plain : Plain) (moved : Option ℕ) (job : Job) (contact : Contact) (p : Progress) (ends : Ending) (k : Known) (c : Counts) (prompt : Type 0) (k' : Known) (c' : Counts) (still : Type 0) (f : IsOfFile plain)
    (s : Stood plain moved job contact (paused_course plain (moves_of plain moved) (pauses.Done ends) p) k c prompt k' c' still) where
  ends_so : (end : Option LinkEnd) → end ≡ contact.end → (frames : List Frame) × (plain_course plain (moves_of plain moved) job.limits (frames_of s.got).frames ≡ record { stage = stage_ended p ends; received = received_of contact s.images frames })
  ends_so end e = by end (subst (λ (x : Option LinkEnd). GoesSo x (λ frames. plain_course plain (moves_of plain moved) job.limits frames) s.got (λ frames. paused_course plain (moves_of plain moved) (pauses.Done ends) p (received_of contact s.images frames))) (sym e) s.course)
    where
      by : (x : Option LinkEnd) → GoesSo x (λ frames. plain_course plain (moves_of plain moved) job.limits frames) s.got (λ frames. paused_course plain (moves_of plain moved) (pauses.Done ends) p (received_of contact s.images frames)) →
          (frames : List Frame) × (plain_course plain (moves_of plain moved) job.limits (frames_of s.got).frames ≡ record { stage = stage_ended p ends; received = received_of contact s.images frames })
      by None g = ((frames_of []).frames, ap (λ (bytes : List ℕ). plain_course plain (moves_of plain moved) job.limits (frames_of bytes).frames) (sym (append-nil s.got)) ∙ g [])
      by (Some x) g = g

  comes_to : (frames : List Frame) × (offloaded_over plain moved job.limits (frames_of s.got).frames ≡ offloaded_by job.limits (record { stage = stage_ended p ends; received = received_of contact s.images frames }))
  comes_to =
      let e = ends_so contact.end refl in
      (e.0, law f.0 plain (moves_of plain moved) job.limits (frames_of s.got).frames f.1 f.2 ∙ ap (λ (course : Course). offloaded_by job.limits course) e.1)

  travels_as : (end : Option LinkEnd) (is_open : Bool) → TravelsSo (program_of plain) (hello_bytes job) job.patience (record { is_open = is_open; merged = contact.merged; end = end }) s.sent s.got s.images (span c c' prompt k') →
      TravelsAs (program_of plain) (hello_bytes job) job.patience end s.sent s.got s.images (span c c' prompt k')
  travels_as None false t = inl t
  travels_as None true t = inr t
  travels_as (Some e) false t = t
  travels_as (Some e) true t = t

  stays_home : (untouched : Type 0) (end : Option LinkEnd) (is_open : Bool) → TravelsSo (program_of plain) (hello_bytes job) job.patience (record { is_open = is_open; merged = contact.merged; end = end }) s.sent s.got s.images (span c c' prompt k') →
      (is_open ≡ false → end ≡ None → untouched) → s.images ≡ [] → untouched
  stays_home untouched None false t home none = home refl refl
  stays_home untouched None true t home none = absurd (t.some none)
  stays_home untouched (Some e) false t home none = absurd (t.0 none)
  stays_home untouched (Some e) true t home none = absurd (t.0 none)

  pub offloads_so : MergesEach → (untouched : Type 0) (report : Report) → (contact.is_open ≡ false → contact.end ≡ None → untouched) → report ≡ stage_report job.limits (stage_ended p ends) →
      Offloads plain moved job report (record { migrations = contact.merged; fallback = contact.end }) k c prompt k' c' untouched
  offloads_so merges untouched report home is =
      let o = comes_to in
      let images : (offloaded_over plain moved job.limits (frames_of s.got).frames).received.images ≡ s.images = ap (λ (x : Offloaded). x.received.images) o.1 in
      record {
        sent = s.sent;
        got = s.got;
        known = s.known;
        reports = ap Offloaded.report o.1 ∙ ap (λ (r : Report). Some r) (sym is);
        migrations = ap (λ (x : Offloaded). x.received.merged) o.1;
        fallback = ap (λ (x : Offloaded). x.received.fallen) o.1;
        travels = subst (λ (xs : List RunImage). TravelsAs (program_of plain) (hello_bytes job) job.patience contact.end s.sent s.got xs (span c c' prompt k')) (sym images) (travels_as contact.end contact.is_open s.travels);
        each = λ none. sym (ap (λ (x : Offloaded). x.received.merged) o.1)
            ∙ merges f.0 plain (moves_of plain moved) job.limits (frames_of s.got).frames f.1 f.2 (ap (λ (x : Offloaded). x.received.fallen) o.1 ∙ ap is_some none);
        home = λ none. stays_home untouched contact.end contact.is_open s.travels home (sym images ∙ none);
      }

-- where it didn't fall back and returned, each call migrated
pub each_migrates : EachCallMigrates → (plain : Plain) (moved : Option ℕ) (job : Job) (report : Report) (travel : Travel) (k : Known) (old : Counts) (prompt : Type 0) (k' : Known) (new : Counts) (untouched : Type 0) → IsOfFile plain →
    Offloads plain moved job report travel k old prompt k' new untouched → travel.fallback ≡ None → report.ending ≡ ending.Returned → travel.migrations ≡ moved_calls plain (moves_of plain moved) plain.main.insns
each_migrates law plain moved job report travel k old prompt k' new untouched f o none returned =
    sym o.migrations ∙ law f.0 plain (moves_of plain moved) job.limits (frames_of o.got).frames report f.1 f.2 o.reports returned (o.fallback ∙ ap is_some none)

-- ---- over an honest link

bytes_same : (image : RunImage) → run_bytes image ≡ spelling (run_frame image)
unfolding run_bytes
bytes_same image = refl

flat_same : (images : List RunImage) → flat_map run_bytes images ≡ flat_map (λ image. spelling (run_frame image)) images
flat_same [] = refl
flat_same (i ∷ rest) = ap (λ (xs : List ℕ). xs ++ flat_map run_bytes rest) (bytes_same i) ∙ ap (λ (xs : List ℕ). spelling (run_frame i) ++ xs) (flat_same rest)

hello_same : (job : Job) → hello_bytes job ≡ frame_bytes hello_kind (hello_payload job)
unfolding hello_bytes
hello_same job = refl

prefix_trans : (xs ys zs : List ℕ) → IsPrefixOf xs ys → IsPrefixOf ys zs → IsPrefixOf xs zs
prefix_trans xs ys zs p q = (p.0 ++ q.0, sym (append_assoc xs p.0 q.0) ∙ ap (λ (l : List ℕ). l ++ q.0) p.1 ∙ q.1)

prefix_is : (xs ys : List ℕ) → xs ≡ ys → IsPrefixOf xs ys
prefix_is xs ys e = ([], append-nil xs ∙ e)

-- what is due: all that is asked, or the Hello
pub due_all : (job : Job) (frames : List Frame) (images : List RunImage) → begins_ready frames ≡ true → due (hello_bytes job) frames images ≡ requests (hello_payload job) images
due_all job frames images e =
    ap (λ (b : Bool). hello_bytes job ++ cond b (flat_map run_bytes images) []) e ∙ ap (λ (xs : List ℕ). xs ++ flat_map run_bytes images) (hello_same job)
    ∙ ap (λ (xs : List ℕ). frame_bytes hello_kind (hello_payload job) ++ xs) (flat_same images)

pub due_hello : (job : Job) (frames : List Frame) (images : List RunImage) → begins_ready frames ≡ false → due (hello_bytes job) frames images ≡ requests (hello_payload job) []
due_hello job frames images e = ap (λ (b : Bool). hello_bytes job ++ cond b (flat_map run_bytes images) []) e ∙ ap (λ (xs : List ℕ). xs ++ []) (hello_same job)

-- what is due is a front of all that may be asked
due_asks : (job : Job) (frames : List Frame) (images : List RunImage) → IsPrefixOf (due (hello_bytes job) frames images) (requests (hello_payload job) images)
due_asks job frames images = by (begins_ready frames)
  where
    by : (b : Bool) → IsPrefixOf (hello_bytes job ++ cond b (flat_map run_bytes images) []) (requests (hello_payload job) images)
    by true = prefix_is (hello_bytes job ++ flat_map run_bytes images) (requests (hello_payload job) images) (ap (λ (xs : List ℕ). xs ++ flat_map run_bytes images) (hello_same job) ∙ ap (λ (xs : List ℕ). frame_bytes hello_kind (hello_payload job) ++ xs) (flat_same images))
    by false = (flat_map (λ image. spelling (run_frame image)) images, ap (λ (xs : List ℕ). xs ++ flat_map (λ image. spelling (run_frame image)) images) (append-nil (hello_bytes job) ∙ hello_same job))

asked_by : (p : Program) (job : Job) (sent got : List ℕ) (images : List RunImage) (e : LinkEnd) (c : Span) → EndsTravel p (hello_bytes job) job.patience sent got images e c → IsPrefixOf sent (requests (hello_payload job) images)
asked_by p job sent got images e c (not_dialed is none nothing rose up) = (requests (hello_payload job) images, ap (λ (xs : List ℕ). xs ++ requests (hello_payload job) images) none)
asked_by p job sent got images e c (in_sending front whole why taken) = prefix_trans sent _ _ front (due_asks job (frames_of got).frames images)
asked_by p job sent got images e c (in_awaiting all fewer why given) = prefix_trans sent _ _ (prefix_is sent _ all) (due_asks job (frames_of got).frames images)
asked_by p job sent got images e c (by_frame before frame all whole frames judged) = prefix_trans sent _ _ (prefix_is sent _ all) (due_asks job (frames_of got).frames images)

asked : (p : Program) (job : Job) (end : Option LinkEnd) (sent got : List ℕ) (images : List RunImage) (c : Span) → TravelsAs p (hello_bytes job) job.patience end sent got images c → IsPrefixOf sent (requests (hello_payload job) images)
asked p job None sent got images c (inl t) = (requests (hello_payload job) images, ap (λ (xs : List ℕ). xs ++ requests (hello_payload job) images) t.silent)
asked p job None sent got images c (inr t) = prefix_trans sent _ _ (prefix_is sent _ t.all) (due_asks job (frames_of got).frames images)
asked p job (Some e) sent got images c t = asked_by p job sent got images e c t.1

-- ---- the verdict on what was sent

first_is : (frames more others : List Frame) (f : Frame) (verdict : Result Plain ℕ) → frames ++ more ≡ f ∷ others → IsJudged f.payload verdict → IsJudgedFirst frames verdict
first_is [] more others f verdict e judged = tt
first_is (g ∷ gs) more others f verdict e judged = λ kind. subst (λ (x : Frame). IsJudged x.payload verdict) (sym (head_of g gs more f others e)) judged
  where
    head_of : (g : Frame) (gs more : List Frame) (f : Frame) (others : List Frame) → (g ∷ gs) ++ more ≡ f ∷ others → g ≡ f
    head_of g gs more f others e = cc

-- a front of what is asked begins with the Hello, once a frame of it is whole
pub judged_so : (goes_on : GoesOn) (again : IsReadAgain) (job : Job) (plain : Plain) (sent : List ℕ) (images : List RunImage) → length (hello_payload job) ≤ 67108864 → IsHelloOf (hello_payload job) plain →
    IsPrefixOf sent (requests (hello_payload job) images) → IsVerdict at_start sent (Ok plain)
judged_so goes_on again job plain sent images short hello p =
    let f : Frame = record { kind = hello_kind; payload = hello_payload job } in
    let is_frame : IsFrame f = record { low = omega arith; high = omega arith; short = short } in
    let runs = flat_map (λ image. spelling (run_frame image)) images in
    let parts : frames_of (sent ++ p.0) ≡ with_frames (frames_of sent).frames (frames_from (frames_of sent).ending p.0) = goes_on (Rest []) sent p.0 in
    let all : frames_of (requests (hello_payload job) images) ≡ with_frames (f ∷ []) (frames_of runs) =
    ap (λ (xs : List ℕ). frames_of (xs ++ runs)) (sym (append-nil (frame_bytes hello_kind (hello_payload job)))) ∙ again (f ∷ []) runs (is_frame, tt) in
    first_is (frames_of sent).frames (frames_from (frames_of sent).ending p.0).frames (frames_of runs).frames f (Ok plain) (ap Frames.frames (sym parts ∙ ap frames_of p.1 ∙ all)) (accepted plain hello)

module _ (goes_on : GoesOn) (again : IsReadAgain) (plain : Plain) (moved : Option ℕ) (job : Job) (report : Report) (travel : Travel) (k : Known) (old : Counts) (prompt : Type 0) (k' : Known) (new : Counts) (untouched : Type 0) (short : length (hello_payload job) ≤ 67108864) (honest : IsHonestLink k') (fresh : k ≡ told [] []) (hello : IsHelloOf (hello_payload job) plain) (o : Offloads plain moved job report travel k old prompt k' new untouched) where
  -- what was sent and got is told
  pub both_told : k' ≡ told o.sent o.got
  both_told = o.known ∙ ap (λ (j : Known). known_got o.got (known_sent o.sent j)) fresh

  -- what was sent is a front of what is asked, so the file is what a clone is to make of the Hello
  sent_is_asked : IsPrefixOf o.sent (requests (hello_payload job) (offloaded_over plain moved job.limits (frames_of o.got).frames).received.images)
  sent_is_asked =
      asked (program_of plain) job travel.fallback o.sent o.got (offloaded_over plain moved job.limits (frames_of o.got).frames).received.images (span old new prompt k') o.travels

  pub verdict_is_right : IsVerdict at_start o.sent (Ok plain)
  verdict_is_right = judged_so goes_on again job plain o.sent _ short hello sent_is_asked

  pub got_is_front : IsPrefixOf o.got (said_to (Ok plain) o.sent)
  got_is_front = (honest o.sent o.got both_told).front (Ok plain) verdict_is_right

  -- over an honest link what was got comes of an exchange in which the images were sent
  pub exchange : IsExchange plain (offloaded_over plain moved job.limits (frames_of o.got).frames).received.images o.got
  exchange = record {
    hello = hello_payload job;
    is_hello = hello;
    hello_is_short = short;
    sent = o.sent;
    is_sent = sent_is_asked;
    verdict = Ok plain;
    is_verdict = verdict_is_right;
    is_got = got_is_front;
  }

  pub is_local : CloneIsTransparent → IsOfFile plain → job.limits.instructions ≤ 4294967296 → job.limits.words ≤ 4194304 → IsLocal plain job.limits report
  is_local law f few small =
      let fits : FitImages job.limits = record { instructions = omega (arith, few); words = omega (arith, small) } in
      sym (law f.0 plain (moves_of plain moved) job.limits o.got f.1 f.2 fits exchange) ∙ o.reports
