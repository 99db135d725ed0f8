-- Over a prompt link a device never falls back.
use Rattle.std.proofs.Common.{◌≡◌, ℕ, ◌≤◌, ◌<◌, Bool, true, false, List, [], ◌∷◌, ◌++◌, length, map, Option, Some, None, Ok, refl, sym, ap, ◌∙◌, subst, arith}
use Rattle.std.specs.List.{AllByRecursion}
use Rattle.cc_meaning.specs.declared.file.Job.{Job}
use Rattle.cc_meaning.specs.declared.frame.Frame.{Frame}
use Rattle.cc_meaning.specs.declared.image.RunImage.{RunImage}
use Rattle.cc_meaning.specs.declared.report.Report.{Report}
use Rattle.cc_meaning.specs.declared.travel.LinkEnd.{LinkEnd}
use Rattle.cc_meaning.specs.declared.travel.LinkEnd.TheVariants as ends
use Rattle.cc_meaning.specs.declared.travel.Travel.{Travel}
use Rattle.cc_meaning_nodes.specs.Frames.{Rest, Fails, frames_of}
use Rattle.cc_meaning_nodes.specs.FrameLaws.{GoesOn, IsReadAgain}
use Rattle.cc_meaning_nodes.specs.Talk.{IsPrefixOf}
use Rattle.cc_meaning_plain.specs.declared.plain.Plain.{Plain}
use Rattle.cc_meaning_plain.specs.Program.{program_of}
use Rattle.cc_meaning_clone.specs.Hello.{IsHelloOf}
use Rattle.cc_meaning_device.specs.Honest.{requests}
use Rattle.cc_meaning_device.specs.Complete.{ready_frame, back_frame, IsSendable, IsAnswerable, ComesInOrder, StreamComesInOrder, StreamIsOwed, NotedIsAnswered}
use Rattle.cc_link.specs.Links.{Known, Counts}
use Rattle.cc_link.specs.Honest.{said_to, IsHonestLink, LinkOwes, told}
use Rattle.cc_device.specs.Exchanging.{span, IsFault}
use Rattle.cc_device.specs.Travelling.{IsOfFile, moves_of, hello_payload, hello_bytes, begins_ready, due, AwaitingEnded, EndsTravel, not_dialed, in_sending, in_awaiting, by_frame, TravelsAs, offloaded_over, Offloads}
use Rattle.cc_device.proofs.Complete.{first_is, was_awaited}
use Rattle.cc_device.proofs.Offloaded.{due_all, due_hello, both_told, verdict_is_right, got_is_front, exchange}

-- bytes that are no frame don't come
no_fault : (got : List ℕ) (patience : ℕ) (e : LinkEnd) (old new : Counts) (rest : List ℕ) → (frames_of got).ending ≡ Rest rest → IsFault e → AwaitingEnded got patience e old new → ⊥
no_fault got patience ends.DialFailed old new rest whole fault why = fault
no_fault got patience ends.Failed old new rest whole fault why = fault
no_fault got patience ends.Ended old new rest whole fault why = fault
no_fault got patience (ends.Waited n) old new rest whole fault why = fault
no_fault got patience (ends.BadFrame f) old new rest whole fault why = let both : Rest rest ≡ Fails f = sym whole ∙ why in cc
no_fault got patience (ends.Unexpected kind) old new rest whole fault why = fault
no_fault got patience (ends.Unfit f) old new rest whole fault why = fault
no_fault got patience (ends.Refused status) old new rest whole fault why = fault

-- a frame that came first is a Ready
unready : (plain : Plain) (images : List RunImage) (frames missing : List Frame) → frames ++ missing ≡ ready_frame ∷ map (back_frame plain) images → begins_ready frames ≡ false → length frames ≤ 0
unready plain images [] missing all e = omega arith
unready plain images (f ∷ frames) missing all e =
    let is : f ≡ ready_frame = first_is f ready_frame (frames ++ missing) (map (back_frame plain) images) all in
    let both : true ≡ false = sym (ap (λ (x : Frame). begins_ready (x ∷ frames)) is) ∙ e in
    absurd cc

module _ (owes : StreamIsOwed) (plain : Plain) (job : Job) (images : List RunImage) (sent got : List ℕ) (f : IsOfFile plain) (short : length (hello_payload job) ≤ 67108864)
    (sendable : AllByRecursion (IsSendable plain) images) (came : ComesInOrder plain images got) (front : IsPrefixOf got (said_to (Ok plain) sent)) where
  -- all of this was asked, and fewer frames came
  owes_more : (asked : List RunImage) → sent ≡ requests (hello_payload job) asked → AllByRecursion (IsSendable plain) asked → length (frames_of got).frames ≤ length asked → length got < length (said_to (Ok plain) sent)
  owes_more asked all are fewer =
      subst (λ (xs : List ℕ). length got < length (said_to (Ok plain) xs)) (sym all)
      (owes f.0 plain (hello_payload job) asked got f.1 f.2 short are fewer (subst (λ (xs : List ℕ). IsPrefixOf got (said_to (Ok plain) xs)) all front))

  -- all that is due was sent, and fewer frames came than were asked for
  due_is_owed : sent ≡ due (hello_bytes job) (frames_of got).frames images → length (frames_of got).frames ≤ length images → length got < length (said_to (Ok plain) sent)
  due_is_owed all fewer = by (begins_ready (frames_of got).frames) refl
    where
      by : (b : Bool) → begins_ready (frames_of got).frames ≡ b → length got < length (said_to (Ok plain) sent)
      by true e = owes_more images (all ∙ due_all job (frames_of got).frames images e) sendable fewer
      by false e = owes_more [] (all ∙ due_hello job (frames_of got).frames images e) tt (unready plain images (frames_of got).frames came.missing came.frames e)

pub never_falls : (comes : StreamComesInOrder) (owes : StreamIsOwed) (noted : NotedIsAnswered) (goes_on : GoesOn) (again : IsReadAgain) (plain : Plain) (moved : Option ℕ) (job : Job) (report : Report) (travel : Travel) (k : Known) (old : Counts) (prompt : Type 0) (k' : Known) (new : Counts) (untouched : Type 0) →
    IsOfFile plain → job.limits.instructions ≤ 4294967296 → job.limits.words ≤ 4194304 → length (hello_payload job) ≤ 67108864 →
    IsHonestLink k' → k ≡ told [] [] → IsHelloOf (hello_payload job) plain → Offloads plain moved job report travel k old prompt k' new untouched → prompt → travel.fallback ≡ None
never_falls comes owes noted goes_on again plain moved job report travel k old prompt k' new untouched f few small short honest fresh hello o is_prompt = by travel.fallback refl o.travels
  where
    are : AllByRecursion (IsSendable plain) (offloaded_over plain moved job.limits (frames_of o.got).frames).received.images
        × AllByRecursion (IsAnswerable plain) (offloaded_over plain moved job.limits (frames_of o.got).frames).received.images
    are = noted f.0 plain (moves_of plain moved) job.limits (frames_of o.got).frames f.1 f.2 few small

    came : ComesInOrder plain (offloaded_over plain moved job.limits (frames_of o.got).frames).received.images o.got
    came = comes f.0 plain (offloaded_over plain moved job.limits (frames_of o.got).frames).received.images o.got f.1 f.2 are.0 (exchange goes_on again plain moved job report travel k old prompt k' new untouched short honest fresh hello o)

    owed : length o.got < length (said_to (Ok plain) o.sent) → LinkOwes k'
    owed more = record {
      sent = o.sent;
      got = o.got;
      is_told = both_told goes_on again plain moved job report travel k old prompt k' new untouched short honest fresh hello o;
      owes = record { verdict = Ok plain; is_right = verdict_is_right goes_on again plain moved job report travel k old prompt k' new untouched short honest fresh hello o; more = more };
    }

    never : (e : LinkEnd) → EndsTravel (program_of plain) (hello_bytes job) job.patience o.sent o.got (offloaded_over plain moved job.limits (frames_of o.got).frames).received.images e (span old new prompt k') → ⊥
    never e (not_dialed is none nothing rose up) = up is_prompt
    never e (in_sending front whole why taken) = taken is_prompt
    never e (in_awaiting all fewer why given) =
        let front = got_is_front goes_on again plain moved job report travel k old prompt k' new untouched short honest fresh hello o in
        let more = due_is_owed owes plain job (offloaded_over plain moved job.limits (frames_of o.got).frames).received.images o.sent o.got f short are.0 came front all fewer in
        no_fault o.got job.patience e old new came.rest came.whole (given is_prompt (owed more)) why
    never e (by_frame before frame all whole last judged) = was_awaited plain (offloaded_over plain moved job.limits (frames_of o.got).frames).received.images o.got came are.1 before frame e last judged

    by : (end : Option LinkEnd) → travel.fallback ≡ end → TravelsAs (program_of plain) (hello_bytes job) job.patience travel.fallback o.sent o.got (offloaded_over plain moved job.limits (frames_of o.got).frames).received.images (span old new prompt k') → travel.fallback ≡ None
    by None e t = e
    by (Some end) e t =
        absurd (never end (subst (λ (x : Option LinkEnd). TravelsAs (program_of plain) (hello_bytes job) job.patience x o.sent o.got (offloaded_over plain moved job.limits (frames_of o.got).frames).received.images (span old new prompt k')) e t).1)
