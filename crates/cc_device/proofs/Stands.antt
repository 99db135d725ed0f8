-- How a device stands behind a call: of the clone, or of its own.
use Rattle.std.proofs.Common.{◌≡◌, ℕ, suc, ◌+◌, ◌==◌, ◌&&◌, not, Bool, true, false, List, [], ◌∷◌, ◌++◌, drop, Option, Some, None, Ok, Err, refl, sym, ap, ◌∙◌, arith, append_assoc, slice_get, slice_set}
use Rattle.cc_meaning.specs.declared.file.Job.{Job}
use Rattle.cc_meaning.specs.declared.frame.Frame.{Frame}
use Rattle.cc_meaning.specs.declared.image.RunImage.{RunImage}
use Rattle.cc_meaning.specs.declared.image.BackImage.{BackImage}
use Rattle.cc_meaning.specs.declared.program.Program.{Program}
use Rattle.cc_meaning.specs.declared.travel.LinkEnd.{LinkEnd}
use Rattle.cc_meaning.specs.declared.travel.LinkEnd.TheVariants as ends
use Rattle.cc_meaning_run.specs.Acts.{less_by}
use Rattle.cc_meaning_nodes.specs.Frames.{Frames, with_frame, frames_of}
use Rattle.cc_meaning_nodes.specs.FrameLaws.{GoesOn, NothingMore, BeginsWithWhole}
use Rattle.cc_meaning_plain.specs.declared.plain.Plain.{Plain}
use Rattle.cc_meaning_plain.specs.Program.{function_number, program_of}
use Rattle.cc_meaning_plain.specs.Text.{value_by, instructions_by}
use Rattle.cc_meaning_device.specs.Received.{Received, behind_ready, back_of_frames}
use Rattle.cc_meaning_device.specs.Straight.{Came as CourseCame, given_here, called_here, entry_image, value_back, came_back as course_came_back, called_there, called, Course, course_with_line, course_came, course_of, plain_course}
use Rattle.cc_machine.specs.declared.progress.Progress.{Progress}
use Rattle.cc_machine.specs.declared.progress.Entry.{Entry}
use Rattle.cc_machine.specs.declared.progress.Pause.TheVariants as pauses
use Rattle.cc_machine.specs.Going.{given, came_here}
use Rattle.cc_link.specs.Links.{Known, Counts, NeverFall, known_sent, known_got}
use Rattle.cc_link.specs.Honest.{LinkOwes}
use Rattle.cc_device.specs.declared.contact.Contact.{Contact}
use Rattle.cc_device.specs.declared.exchange.Halt.TheVariants as halts
use Rattle.cc_device.specs.Exchanging.{Span, span, AwaitingEnds}
use Rattle.cc_device.specs.Judging.{judge_ready, judge_back, EndsSo, in_sending, in_awaiting, by_frame, run_bytes}
use Rattle.cc_device.specs.Travelling.{moves_of, hello_bytes, Took, called_alone, opened_first, Fell, not_reached, not_opened, not_called, not_called_first, Reaches, paused_course, behind_call, received_of, TravelsSo, Stood}
use Rattle.cc_device.proofs.Exchanges.{got-got, sent-sent, never_fall}
use Rattle.cc_device.proofs.Taken.{frames_nil, frames_partial, frames_whole, frames_one, frames_faulty, behind_open, behind_first, behind_nothing, behind_wrong, back_taken, back_not_taken, nothing_taken, none_behind}
use Rattle.cc_device.proofs.Travels.{snoc_some, StoodSo, travels_on, ends_travel, fell_since}

-- a device that didn't fall back
abbrev pub reaching : Bool → ℕ → Contact
reaching is_open merged = record { is_open = is_open; merged = merged; end = None }

abbrev pub fallen_by : Bool → ℕ → LinkEnd → Contact
fallen_by is_open merged e = record { is_open = is_open; merged = merged; end = Some e }

module _ (goes_on : GoesOn) (nothing : NothingMore) (whole : BeginsWithWhole) where
  -- ---- what the frames mean

  module _ (p : Program) (hello : List ℕ) (patience : ℕ) (image : RunImage) (merged : ℕ) (images : List RunImage) where
    at : Bool → List Frame → Received
    at b frames = received_of (reaching b merged) images frames

    took_taken : (b : Bool) (sent got more : List ℕ) (back : BackImage) → Took p hello image sent got back b →
        back_of_frames p image (behind_ready (received_of (reaching b merged) images (frames_of (got ++ more)).frames)) ≡ Some (record { back = back; rest = (frames_of more).frames })
    took_taken true sent got more back (called_alone a) =
        let frames = ap Frames.frames (frames_whole goes_on nothing whole got more a.frame a.whole) in
        ap (back_of_frames p image) (behind_open (received_of (reaching true merged) images (frames_of (got ++ more)).frames) refl ∙ ap (λ (fs : List Frame). Some fs) frames)
        ∙ back_taken p image a.frame (frames_of more).frames back a.judged
    took_taken false sent got more back (opened_first ready first sent2 got2 sent_is got_is stands judged a) =
        let all : frames_of (got ++ more) ≡ with_frame ready (frames_of (got2 ++ more)) =
        ap (λ (xs : List ℕ). frames_of (xs ++ more)) got_is ∙ ap frames_of (append_assoc first got2 more) ∙ frames_whole goes_on nothing whole first (got2 ++ more) ready stands in
        ap (back_of_frames p image) (behind_first (received_of (reaching false merged) images (frames_of (got ++ more)).frames) ready (frames_of (got2 ++ more)).frames refl (ap Frames.frames all) judged
        ∙ ap (λ (fs : List Frame). Some fs) (ap Frames.frames (frames_whole goes_on nothing whole got2 more a.frame a.whole)))
        ∙ back_taken p image a.frame (frames_of more).frames back a.judged

    -- no frame came whole
    no_frames : (got : List ℕ) (e : LinkEnd) (old new : Counts) → AwaitingEnds got patience e old new → (frames_of got).frames ≡ []
    no_frames got ends.DialFailed old new a = absurd a
    no_frames got ends.Failed old new a = ap Frames.frames (frames_partial goes_on nothing whole got a.0)
    no_frames got ends.Ended old new a = ap Frames.frames (frames_partial goes_on nothing whole got a.0)
    no_frames got (ends.Waited n) old new a = ap Frames.frames (frames_partial goes_on nothing whole got a.0)
    no_frames got (ends.BadFrame fault) old new a = ap Frames.frames (frames_faulty got fault a.0)
    no_frames got (ends.Unexpected kind) old new a = absurd a
    no_frames got (ends.Unfit fault) old new a = absurd a
    no_frames got (ends.Refused status) old new a = absurd a

    -- behind the frames up to the Ready stands no Back
    no_back : (sent got : List ℕ) (e : LinkEnd) (c : Span) → EndsSo (judge_back p image) (run_bytes image) patience sent got e c → back_of_frames p image (Some (frames_of got).frames) ≡ None
    no_back sent got e c (in_sending front none why taken) = ap (λ (fs : List Frame). back_of_frames p image (Some fs)) (ap (λ (xs : List ℕ). (frames_of xs).frames) none ∙ ap Frames.frames (frames_nil goes_on nothing whole)) ∙ nothing_taken p image
    no_back sent got e c (in_awaiting all why given) = ap (λ (fs : List Frame). back_of_frames p image (Some fs)) (no_frames got e c.old c.new why) ∙ nothing_taken p image
    no_back sent got e c (by_frame frame all stands judged) =
        ap (λ (fs : List Frame). back_of_frames p image (Some fs)) (ap Frames.frames (frames_one goes_on nothing whole got frame stands)) ∙ back_not_taken p image frame [] e judged

    no_ready : (sent got : List ℕ) (e : LinkEnd) (c : Span) → EndsSo judge_ready hello patience sent got e c → behind_ready (received_of (reaching false merged) images (frames_of got).frames) ≡ None
    no_ready sent got e c (in_sending front none why taken) =
        behind_nothing (received_of (reaching false merged) images (frames_of got).frames) refl (ap (λ (xs : List ℕ). (frames_of xs).frames) none ∙ ap Frames.frames (frames_nil goes_on nothing whole))
    no_ready sent got e c (in_awaiting all why given) = behind_nothing (received_of (reaching false merged) images (frames_of got).frames) refl (no_frames got e c.old c.new why)
    no_ready sent got e c (by_frame frame all stands judged) =
        behind_wrong (received_of (reaching false merged) images (frames_of got).frames) frame [] e refl (ap Frames.frames (frames_one goes_on nothing whole got frame stands)) judged

    fell_not_taken : (b : Bool) (sent got : List ℕ) (e : LinkEnd) (c : Span) → Fell p hello patience image sent got e c b →
        back_of_frames p image (behind_ready (received_of (reaching b merged) images (frames_of got).frames)) ≡ None
    fell_not_taken true sent got e c (not_called x) =
        ap (back_of_frames p image) (behind_open (received_of (reaching true merged) images (frames_of got).frames) refl) ∙ no_back sent got e c x
    fell_not_taken false sent got e c (not_reached is none nothing_got rose up) =
        ap (back_of_frames p image) (behind_nothing (received_of (reaching false merged) images (frames_of got).frames) refl (ap (λ (xs : List ℕ). (frames_of xs).frames) nothing_got ∙ ap Frames.frames (frames_nil goes_on nothing whole)))
        ∙ none_behind p image
    fell_not_taken false sent got e c (not_opened x) = ap (back_of_frames p image) (no_ready sent got e c x) ∙ none_behind p image
    fell_not_taken false sent got e c (not_called_first ready first sent2 got2 sent_is got_is stands judged x) =
        let all : frames_of got ≡ with_frame ready (frames_of got2) = ap frames_of got_is ∙ frames_whole goes_on nothing whole first got2 ready stands in
        ap (back_of_frames p image) (behind_first (received_of (reaching false merged) images (frames_of got).frames) ready (frames_of got2).frames refl (ap Frames.frames all) judged)
        ∙ no_back sent2 got2 e c x

  -- ---- a call

  module _ (plain : Plain) (moved : Option ℕ) (job : Job) (entry : Entry) (q : Progress) where
    image : RunImage
    image = entry_image plain entry.function entry.argument q.instructions q.words

    -- what is left of the run behind a call that came to this
    abbrev behind_came : CourseCame → Course
    behind_came c = course_with_line q.text (course_came c (λ n left words t'. course_of plain (moves_of plain moved) (slice_set q.numbers entry.to n) (drop q.next plain.main.insns) left words t'))

    test_same : (a : ℕ) → (a == a) ≡ true
    test_same a = grind arith

    called_moved : moved ≡ Some entry.function → (t : Received) → t.fallen ≡ false →
        called plain (moves_of plain moved) entry.function entry.argument q.instructions q.words t ≡ called_there plain entry.function entry.argument (entry_image plain entry.function entry.argument q.instructions q.words) t
    unfolding called
    called_moved is t e = rw (e, is, test_same (function_number plain entry.function)) refl

    called_own : (t : Received) → (not t.fallen && moves_of plain moved (function_number plain entry.function)) ≡ false →
        called plain (moves_of plain moved) entry.function entry.argument q.instructions q.words t ≡ called_here (slice_get plain.functions entry.function) entry.argument q.instructions q.words t
    unfolding called
    called_own t e = rw e refl

    -- what is done here is what the machine does
    here_is : (t : Received) → called_here (slice_get plain.functions entry.function) entry.argument q.instructions q.words t
        ≡ record { value = (came_here plain.functions entry.function entry.argument q.instructions q.words).value; instructions = (came_here plain.functions entry.function entry.argument q.instructions q.words).instructions; words = (came_here plain.functions entry.function entry.argument q.instructions q.words).words; received = t }
    unfolding came_here
    here_is t = by (less_by (instructions_by (slice_get plain.functions entry.function)) q.instructions)
      where
        by : (o : Option ℕ) → given_here o (value_by (slice_get plain.functions entry.function) entry.argument) q.words t
            ≡ record { value = (given o (value_by (slice_get plain.functions entry.function) entry.argument) q.words).value; instructions = (given o (value_by (slice_get plain.functions entry.function) entry.argument) q.words).instructions; words = (given o (value_by (slice_get plain.functions entry.function) entry.argument) q.words).words; received = t }
        by None = refl
        by (Some left) = refl

    pub own_course : (t : Received) → (not t.fallen && moves_of plain moved (function_number plain entry.function)) ≡ false →
        paused_course plain (moves_of plain moved) (pauses.AtEntry entry) q t ≡ behind_call plain (moves_of plain moved) entry.to (came_here plain.functions entry.function entry.argument q.instructions q.words) q t
    own_course t e = ap behind_came (called_own t e ∙ here_is t)

    module _ (is : moved ≡ Some entry.function) (hello : List ℕ) (patience : ℕ) (merged : ℕ) (images : List RunImage) where
      took_course : (b : Bool) (sent got more : List ℕ) (back : BackImage) →
          Took (program_of plain) hello (entry_image plain entry.function entry.argument q.instructions q.words) sent got back b →
          paused_course plain (moves_of plain moved) (pauses.AtEntry entry) q (received_of (reaching b merged) images (frames_of (got ++ more)).frames)
          ≡ behind_call plain (moves_of plain moved) entry.to (record { value = value_back back.ending; instructions = back.instructions; words = back.words }) q
          (received_of (reaching true (merged + 1)) (images ++ entry_image plain entry.function entry.argument q.instructions q.words ∷ []) (frames_of more).frames)
      took_course b sent got more back took =
          let t = received_of (reaching b merged) images (frames_of (got ++ more)).frames in
          let x = entry_image plain entry.function entry.argument q.instructions q.words in
          let one : suc merged ≡ merged + 1 = omega arith in
          ap behind_came (called_moved is t refl
          ∙ ap (course_came_back (slice_get plain.functions entry.function) entry.argument x t) (took_taken (program_of plain) hello patience x merged images b sent got more back took)
          ∙ ap (λ (n : ℕ). record { value = value_back back.ending; instructions = back.instructions; words = back.words; received = record { opened = true; frames = (frames_of more).frames; images = images ++ x ∷ []; merged = n; fallen = false } }) one)

      fell_course : (b : Bool) (sent got : List ℕ) (e : LinkEnd) (c : Span) →
          Fell (program_of plain) hello patience (entry_image plain entry.function entry.argument q.instructions q.words) sent got e c b →
          paused_course plain (moves_of plain moved) (pauses.AtEntry entry) q (received_of (reaching b merged) images (frames_of got).frames)
          ≡ behind_call plain (moves_of plain moved) entry.to (came_here plain.functions entry.function entry.argument q.instructions q.words) q
          (received_of (fallen_by b merged e) (images ++ entry_image plain entry.function entry.argument q.instructions q.words ∷ []) (frames_of got).frames)
      fell_course b sent got e c fell =
          let t = received_of (reaching b merged) images (frames_of got).frames in
          let x = entry_image plain entry.function entry.argument q.instructions q.words in
          ap behind_came (called_moved is t refl
          ∙ ap (course_came_back (slice_get plain.functions entry.function) entry.argument x t) (fell_not_taken (program_of plain) hello patience x merged images b sent got e c fell)
          ∙ here_is (received_of (fallen_by b merged e) (images ++ x ∷ []) (frames_of got).frames))

    -- ---- how the device stands then

    both : (a b c d : List ℕ) (k : Known) → known_got d (known_sent c (known_got b (known_sent a k))) ≡ known_got (b ++ d) (known_sent (a ++ c) k)
    both a b c d k = ap (λ (j : Known). known_got d (known_got b j)) (sym (sent-sent a c k)) ∙ sym (got-got b d (known_sent (a ++ c) k))

    so_stood : (b : Bool) (merged : ℕ) (sent got : List ℕ) (images : List RunImage) (c d : Span) →
        TravelsSo (program_of plain) (hello_bytes job) job.patience (reaching b merged) sent got images c → StoodSo goes_on nothing whole (program_of plain) (hello_bytes job) job.patience d b sent got images
    so_stood false merged sent got images c d t = t
    so_stood true merged sent got images c d t = t

    pub stood_by_back : (b : Bool) (merged : ℕ) (k k1 k2 : Known) (c c1 c2 : Counts) (first still now : Type 0) (back : BackImage) → moved ≡ Some entry.function → NeverFall c1 c2 → (still → now) →
        Stood plain moved job (reaching b merged) (paused_course plain (moves_of plain moved) (pauses.AtEntry entry) q) k c first k1 c1 still →
        Reaches (program_of plain) (hello_bytes job) job.patience (entry_image plain entry.function entry.argument q.instructions q.words) b k1 c1 still (Ok back) k2 c2 →
        Stood plain moved job (reaching true (merged + 1)) (behind_call plain (moves_of plain moved) entry.to (record { value = value_back back.ending; instructions = back.instructions; words = back.words }) q) k c first k2 c2 now
    stood_by_back b merged k k1 k2 c c1 c2 first still now back is n stays s r =
        let x = entry_image plain entry.function entry.argument q.instructions q.words in
        record {
          sent = s.sent ++ r.sent;
          got = s.got ++ r.got;
          images = s.images ++ x ∷ [];
          known = r.known ∙ ap (λ (j : Known). known_got r.got (known_sent r.sent j)) s.known ∙ both s.sent s.got r.sent r.got k;
          counts = never_fall c c1 c2 s.counts n;
          stays = λ reaches p. stays (s.stays refl p);
          travels = travels_on goes_on nothing whole (program_of plain) (hello_bytes job) job.patience (span c c2 first k2) b s.sent s.got r.sent r.got s.images x back
              (so_stood b merged s.sent s.got s.images (span c c1 first k1) (span c c2 first k2) s.travels) r.came;
          course = λ more.
              ap (λ (bytes : List ℕ). plain_course plain (moves_of plain moved) job.limits (frames_of bytes).frames) (append_assoc s.got r.got more)
              ∙ s.course (r.got ++ more) ∙ took_course is (hello_bytes job) job.patience merged s.images b r.sent r.got more back r.came;
        }

    pub stood_by_fall : (b : Bool) (merged : ℕ) (k k1 k2 : Known) (c c1 c2 : Counts) (first still now : Type 0) (e : LinkEnd) → moved ≡ Some entry.function → NeverFall c1 c2 →
        Stood plain moved job (reaching b merged) (paused_course plain (moves_of plain moved) (pauses.AtEntry entry) q) k c first k1 c1 still →
        Reaches (program_of plain) (hello_bytes job) job.patience (entry_image plain entry.function entry.argument q.instructions q.words) b k1 c1 still (Err (halts.End e)) k2 c2 →
        Stood plain moved job (fallen_by b merged e) (behind_call plain (moves_of plain moved) entry.to (came_here plain.functions entry.function entry.argument q.instructions q.words) q) k c first k2 c2 now
    stood_by_fall b merged k k1 k2 c c1 c2 first still now e is n s r =
        let x = entry_image plain entry.function entry.argument q.instructions q.words in
        record {
          sent = s.sent ++ r.sent;
          got = s.got ++ r.got;
          images = s.images ++ x ∷ [];
          known = r.known ∙ ap (λ (j : Known). known_got r.got (known_sent r.sent j)) s.known ∙ both s.sent s.got r.sent r.got k;
          counts = never_fall c c1 c2 s.counts n;
          stays = λ reaches. absurd cc;
          travels = (
            snoc_some s.images x,
            ends_travel goes_on nothing whole (program_of plain) (hello_bytes job) job.patience (span c c2 first k2) b s.sent s.got r.sent r.got s.images x e
                (so_stood b merged s.sent s.got s.images (span c c1 first k1) (span c c2 first k2) s.travels)
                (fell_since (program_of plain) (hello_bytes job) job.patience x r.sent r.got e c c1 c2 first still (LinkOwes k2) b s.counts (s.stays refl) r.came),
          );
          course = ((frames_of r.got).frames, s.course r.got ∙ fell_course is (hello_bytes job) job.patience merged s.images b r.sent r.got e (span c1 c2 still k2) r.came);
        }
