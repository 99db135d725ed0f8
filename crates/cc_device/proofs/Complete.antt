-- Over an honest link a device falls back only where a count of the link rose.
use Rattle.std.proofs.Common.{◌≡◌, inl, inr, ℕ, ◌≤◌, List, [], ◌∷◌, ◌++◌, length, map, Option, Some, None, Result, Ok, Err, refl, sym, ap, ◌∙◌, subst, arith}
use Rattle.std.specs.List.{AllByRecursion}
use Rattle.cc_meaning.specs.declared.file.Job.{Job}
use Rattle.cc_meaning.specs.declared.frame.Frame.{Frame}
use Rattle.cc_meaning.specs.declared.image.RunImage.{RunImage}
use Rattle.cc_meaning.specs.declared.image.BackImage.{BackImage}
use Rattle.cc_meaning.specs.declared.report.Report.{Report}
use Rattle.cc_meaning.specs.declared.travel.LinkEnd.{LinkEnd}
use Rattle.cc_meaning.specs.declared.travel.LinkEnd.TheVariants as ends
use Rattle.cc_meaning.specs.declared.travel.Travel.{Travel}
use Rattle.cc_meaning_images.specs.Reading.{read_back}
use Rattle.cc_meaning_nodes.specs.Frames.{Rest, Fails, frames_of}
use Rattle.cc_meaning_nodes.specs.FrameLaws.{GoesOn, IsReadAgain}
use Rattle.cc_meaning_plain.specs.declared.plain.Plain.{Plain}
use Rattle.cc_meaning_plain.specs.Program.{program_of}
use Rattle.cc_meaning_clone.specs.Hello.{IsHelloOf}
use Rattle.cc_meaning_device.specs.Complete.{ready_frame, back_frame, IsAnswerable, ComesInOrder, StreamComesInOrder, NotedIsAnswered}
use Rattle.cc_outside.specs.Counting.{Rose, RoseBy}
use Rattle.cc_link.specs.Links.{Known, Counts}
use Rattle.cc_link.specs.Honest.{IsHonestLink, told}
use Rattle.cc_device.specs.Exchanging.{Span, span, SendingEnds}
use Rattle.cc_device.specs.Judging.{judge_ready, judge_image, judge_back}
use Rattle.cc_device.specs.Travelling.{IsOfFile, moves_of, hello_payload, hello_bytes, JudgedSo, AwaitingEnded, EndsTravel, not_dialed, in_sending, in_awaiting, by_frame, TravelsAs, offloaded_over, Offloads, SomeRose, FallsOnlySo}
use Rattle.cc_device.proofs.Offloaded.{exchange}

-- ---- the frame that came last is the one that was awaited

ready_judged : judge_ready ready_frame ≡ Ok tt
unfolding judge_ready
ready_judged = refl

back_judged : (plain : Plain) (image : RunImage) (back : BackImage) → read_back (program_of plain) image (back_frame plain image).payload ≡ Ok back → judge_back (program_of plain) image (back_frame plain image) ≡ Ok back
unfolding judge_back
back_judged plain image back e = ap judge_image e

last_fits : (P : RunImage → Type 0) (others : List RunImage) (image : RunImage) → AllByRecursion P (others ++ image ∷ []) → P image
last_fits P [] image h = h.0
last_fits P (other ∷ others) image h = last_fits P others image h.1

stands_there : (plain : Plain) (rest : List Frame) (others : List RunImage) (frame : Frame) (image : RunImage) (missing : List Frame) → (rest ++ frame ∷ []) ++ missing ≡ map (back_frame plain) (others ++ image ∷ []) → length rest ≡ length others → frame ≡ back_frame plain image
stands_there plain [] [] frame image missing e same = cc
stands_there plain [] (other ∷ others) frame image missing e same = absurd cc
stands_there plain (f ∷ rest) [] frame image missing e same = absurd cc
stands_there plain (f ∷ rest) (other ∷ others) frame image missing e same = stands_there plain rest others frame image missing (tails f (back_frame plain other) ((rest ++ frame ∷ []) ++ missing) (map (back_frame plain) (others ++ image ∷ [])) e) (omega (arith, same))
  where
    tails : (x y : Frame) (xs ys : List Frame) → x ∷ xs ≡ y ∷ ys → xs ≡ ys
    tails x y xs ys e = cc

pub first_is : (x y : Frame) (xs ys : List Frame) → x ∷ xs ≡ y ∷ ys → x ≡ y
first_is x y xs ys e = cc

rest_is : (x y : Frame) (xs ys : List Frame) → x ∷ xs ≡ y ∷ ys → xs ≡ ys
rest_is x y xs ys e = cc

never_both : {A B : Type 0} {x : A} {y : B} {r : Result A B} → r ≡ Ok x → r ≡ Err y → ⊥
never_both e f = let both = sym e ∙ f in cc

pub was_awaited : (plain : Plain) (images : List RunImage) (got : List ℕ) → ComesInOrder plain images got → AllByRecursion (IsAnswerable plain) images → (before : List Frame) (frame : Frame) (e : LinkEnd) →
    (frames_of got).frames ≡ before ++ frame ∷ [] → JudgedSo (program_of plain) before images frame e → ⊥
was_awaited plain images got came fit [] frame e last judged =
    let all : (frame ∷ []) ++ came.missing ≡ ready_frame ∷ map (back_frame plain) images = ap (λ (fs : List Frame). fs ++ came.missing) (sym last) ∙ came.frames in
    let is : frame ≡ ready_frame = first_is frame ready_frame came.missing (map (back_frame plain) images) all in
    never_both (ap judge_ready is ∙ ready_judged) judged
was_awaited plain images got came fit (first ∷ before) frame e last judged =
    let others = judged.0 in
    let image = judged.1 in
    let all : (first ∷ before ++ frame ∷ []) ++ came.missing ≡ ready_frame ∷ map (back_frame plain) images = ap (λ (fs : List Frame). fs ++ came.missing) (sym last) ∙ came.frames in
    let behind : (before ++ frame ∷ []) ++ came.missing ≡ map (back_frame plain) (others ++ image ∷ []) =
    rest_is first ready_frame ((before ++ frame ∷ []) ++ came.missing) (map (back_frame plain) images) all ∙ ap (map (back_frame plain)) judged.2 in
    let is = stands_there plain before others frame image came.missing behind judged.3 in
    let reads = last_fits (IsAnswerable plain) others image (subst (λ (is : List RunImage). AllByRecursion (IsAnswerable plain) is) judged.2 fit) in
    never_both (ap (judge_back (program_of plain) image) is ∙ back_judged plain image _ reads) judged.4

-- ---- what else ends a travel

rose_of : (n patience before now : ℕ) → n ≡ patience → 1 ≤ patience → RoseBy n before now → Rose before now
rose_of n patience before now same patient rose = omega (arith, same, patient, rose)

sending_rose : (patience : ℕ) (e : LinkEnd) (old new : Counts) → 1 ≤ patience → SendingEnds patience e old new → SomeRose old new
sending_rose patience ends.DialFailed old new patient why = absurd why
sending_rose patience ends.Failed old new patient why = inl why
sending_rose patience ends.Ended old new patient why = absurd why
sending_rose patience (ends.Waited n) old new patient why = inr (inl (rose_of n patience old.stalls new.stalls why.0 patient why.1))
sending_rose patience (ends.BadFrame fault) old new patient why = absurd why
sending_rose patience (ends.Unexpected kind) old new patient why = absurd why
sending_rose patience (ends.Unfit fault) old new patient why = absurd why
sending_rose patience (ends.Refused status) old new patient why = absurd why

awaiting_rose : (got : List ℕ) (patience : ℕ) (e : LinkEnd) (old new : Counts) → 1 ≤ patience → (rest : List ℕ) → (frames_of got).ending ≡ Rest rest → AwaitingEnded got patience e old new → SomeRose old new
awaiting_rose got patience ends.DialFailed old new patient rest whole why = absurd why
awaiting_rose got patience ends.Failed old new patient rest whole why = inl why.1
awaiting_rose got patience ends.Ended old new patient rest whole why = inr (inr (inr why.1))
awaiting_rose got patience (ends.Waited n) old new patient rest whole why = inr (inr (inl (rose_of n patience old.waits new.waits why.1 patient why.2)))
awaiting_rose got patience (ends.BadFrame fault) old new patient rest whole why = let both : Rest rest ≡ Fails fault = sym whole ∙ why in absurd cc
awaiting_rose got patience (ends.Unexpected kind) old new patient rest whole why = absurd why
awaiting_rose got patience (ends.Unfit fault) old new patient rest whole why = absurd why
awaiting_rose got patience (ends.Refused status) old new patient rest whole why = absurd why

module _ (plain : Plain) (hello : List ℕ) (patience : ℕ) (patient : 1 ≤ patience) (sent got : List ℕ) (images : List RunImage) (came : ComesInOrder plain images got) (fit : AllByRecursion (IsAnswerable plain) images) (c : Span) where
  ends_rose : (e : LinkEnd) → EndsTravel (program_of plain) hello patience sent got images e c → SomeRose c.old c.new
  ends_rose e (not_dialed is none nothing rose up) = inl rose
  ends_rose e (in_sending front whole why taken) = sending_rose patience e c.old c.new patient why
  ends_rose e (in_awaiting all fewer why given) = awaiting_rose got patience e c.old c.new patient came.rest came.whole why
  ends_rose e (by_frame before frame all whole last judged) = absurd (was_awaited plain images got came fit before frame e last judged)

  falls_only : (end : Option LinkEnd) → TravelsAs (program_of plain) hello patience end sent got images c → FallsOnlySo end c.old c.new
  falls_only None travels = tt
  falls_only (Some e) travels = ends_rose e travels.1

pub is_complete : (comes : StreamComesInOrder) (noted : NotedIsAnswered) (goes_on : GoesOn) (again : IsReadAgain) (plain : Plain) (moved : Option ℕ) (job : Job) (report : Report) (travel : Travel) (k : Known) (old : Counts) (prompt : Type 0) (k' : Known) (new : Counts) (untouched : Type 0) → IsOfFile plain →
    job.limits.instructions ≤ 4294967296 → job.limits.words ≤ 4194304 → 1 ≤ job.patience → length (hello_payload job) ≤ 67108864 →
    IsHonestLink k' → k ≡ told [] [] → IsHelloOf (hello_payload job) plain → Offloads plain moved job report travel k old prompt k' new untouched → FallsOnlySo travel.fallback old new
is_complete comes noted goes_on again plain moved job report travel k old prompt k' new untouched f few small patient short honest fresh hello o =
    let images = (offloaded_over plain moved job.limits (frames_of o.got).frames).received.images in
    let are = noted f.0 plain (moves_of plain moved) job.limits (frames_of o.got).frames f.1 f.2 few small in
    let came = comes f.0 plain images o.got f.1 f.2 are.0 (exchange goes_on again plain moved job report travel k old prompt k' new untouched short honest fresh hello o) in
    falls_only plain (hello_bytes job) job.patience patient o.sent o.got images came are.1 (span old new prompt k') travel.fallback o.travels
