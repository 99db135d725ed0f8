-- What an exchange of frames comes to.
use Rattle.std.proofs.Common.{◌≡◌, ◌≢◌, ℕ, ◌≤◌, ◌==◌, cond, Bool, false, List, [], length, IfOk, Result, Ok, Err, refl, sym, ap, ◌∙◌, arith}
use Rattle.cc_meaning.specs.declared.frame.Frame.{Frame}
use Rattle.cc_meaning.specs.declared.fault.ImageFault.{ImageFault}
use Rattle.cc_meaning.specs.declared.image.RunImage.{RunImage}
use Rattle.cc_meaning.specs.declared.image.BackImage.{BackImage}
use Rattle.cc_meaning.specs.declared.program.Program.{Program}
use Rattle.cc_meaning.specs.declared.travel.LinkEnd.{LinkEnd}
use Rattle.cc_meaning.specs.declared.travel.LinkEnd.TheVariants as ends
use Rattle.cc_meaning_images.specs.Reading.{read_back}
use Rattle.cc_meaning_nodes.specs.Clone.{back_kind}
use Rattle.cc_meaning_nodes.specs.FrameLaws.{BeginsWithWhole as Begins}
use Rattle.cc_outside.specs.Counting.{RoseBy}
use Rattle.cc_link.specs.Links.{Known, Counts, NeverFall, known_sent, known_got}
use Rattle.cc_link.specs.Honest.{LinkOwes}
use Rattle.cc_device.specs.declared.exchange.Halt.{Halt}
use Rattle.cc_device.specs.declared.exchange.Halt.TheVariants as halts
use Rattle.cc_device.specs.Exchanging.{Span, span, SendsAll, IsTaken, Awaits, Awaited, IsGiven, SendingEnds, AwaitingEnds}
use Rattle.cc_device.specs.Judging.{wrong_frame, judge_image, judge_back, EndsSo, in_sending, in_awaiting, by_frame, Comes, Exchanges, any_frame, JudgedBy}
use Rattle.cc_device.proofs.Exchanges.{got-nil, sent-nil, rose_since}

-- ---- one frame

test_no : (a b : ℕ) → a ≢ b → (a == b) ≡ false
test_no a b h = grind (arith, h)

pub judged_other : (p : Program) (image : RunImage) (frame : Frame) → frame.kind ≢ back_kind → judge_back p image frame ≡ Err (wrong_frame frame)
unfolding judge_back
judged_other p image frame h = ap (λ (b : Bool). cond b (judge_image (read_back p image frame.payload)) (Err (wrong_frame frame))) (test_no frame.kind back_kind h)

judged_back : (p : Program) (image : RunImage) (frame : Frame) → frame.kind ≡ back_kind → judge_back p image frame ≡ judge_image (read_back p image frame.payload)
unfolding judge_back
judged_back p image frame e = rw e refl

pub judged_ok : (p : Program) (image : RunImage) (frame : Frame) (back : BackImage) → frame.kind ≡ back_kind → read_back p image frame.payload ≡ Ok back → judge_back p image frame ≡ Ok back
judged_ok p image frame back e r = judged_back p image frame e ∙ ap judge_image r

pub judged_err : (p : Program) (image : RunImage) (frame : Frame) (fault : ImageFault) → frame.kind ≡ back_kind → read_back p image frame.payload ≡ Err fault → judge_back p image frame ≡ Err (ends.Unfit fault)
judged_err p image frame fault e r = judged_back p image frame e ∙ ap judge_image r

-- ---- since before

rose_by_since : (n a b c : ℕ) → a ≤ b → RoseBy n b c → RoseBy n a c
rose_by_since n a b c le p = omega (arith, le, p)

sending_since : (patience : ℕ) (e : LinkEnd) (old mid new : Counts) → NeverFall old mid → SendingEnds patience e mid new → SendingEnds patience e old new
sending_since patience ends.DialFailed old mid new n s = absurd s
sending_since patience ends.Failed old mid new n s = rose_since _ _ _ n.faults s
sending_since patience ends.Ended old mid new n s = absurd s
sending_since patience (ends.Waited m) old mid new n s = (s.0, rose_by_since m _ _ _ n.stalls s.1)
sending_since patience (ends.BadFrame f) old mid new n s = absurd s
sending_since patience (ends.Unexpected kind) old mid new n s = absurd s
sending_since patience (ends.Unfit f) old mid new n s = absurd s
sending_since patience (ends.Refused status) old mid new n s = absurd s

awaiting_since : (got : List ℕ) (patience : ℕ) (e : LinkEnd) (old mid new : Counts) → NeverFall old mid → AwaitingEnds got patience e mid new → AwaitingEnds got patience e old new
awaiting_since got patience ends.DialFailed old mid new n s = absurd s
awaiting_since got patience ends.Failed old mid new n s = (s.0, rose_since _ _ _ n.faults s.1)
awaiting_since got patience ends.Ended old mid new n s = (s.0, rose_since _ _ _ n.ends s.1)
awaiting_since got patience (ends.Waited m) old mid new n s = (s.0, s.1, rose_by_since m _ _ _ n.waits s.2)
awaiting_since got patience (ends.BadFrame f) old mid new n s = s
awaiting_since got patience (ends.Unexpected kind) old mid new n s = absurd s
awaiting_since got patience (ends.Unfit f) old mid new n s = absurd s
awaiting_since got patience (ends.Refused status) old mid new n s = absurd s

-- ---- an exchange

module _ (bytes : List ℕ) (patience : ℕ) (k : Known) (old : Counts) (prompt : Type 0) (k' : Known) (new : Counts) where
  pub ends_in_sending : (halt : Halt) → SendsAll k old bytes patience (Err halt) k' new → (prompt → IsTaken (Err halt)) → Exchanges any_frame bytes patience k old prompt (Err halt) k' new
  ends_in_sending halts.Memory s taken = record { sent = s.0.1.front; got = []; known = s.0.1.known ∙ sym (got-nil _); came = tt }
  ends_in_sending (halts.End e) s taken = record { sent = s.0.1.front; got = []; known = s.0.1.known ∙ sym (got-nil _); came = in_sending (s.0.0, s.0.1.parts) refl s.1 taken }

  -- all was sent, and then a frame was awaited
  pub awaited : (mid_k : Known) (mid : Counts) (still : Type 0) (r : Result Frame Halt) → mid_k ≡ known_sent bytes k → NeverFall old mid → (prompt → still) → Awaits mid_k mid patience r k' new → (still → LinkOwes k' → IsGiven r) →
      Exchanges any_frame bytes patience k old prompt r k' new
  awaited mid_k mid still r sent n stays a given = record {
    sent = bytes;
    got = a.bytes;
    known = a.known ∙ ap (known_got a.bytes) sent;
    came = by r a.awaited given;
  }
    where
      by : (r : Result Frame Halt) → Awaited a.bytes patience r mid new → (still → LinkOwes k' → IsGiven r) → Comes any_frame bytes patience bytes a.bytes r (span old new prompt k')
      by (Ok frame) w g = record { frame = frame; all = refl; whole = w; judged = refl }
      by (Err halts.Memory) w g = tt
      by (Err (halts.End e)) w g = in_awaiting refl (awaiting_since a.bytes patience e old mid new n w) (λ p. g (stays p))

  no_end : {A : Type 0} (f : Frame) (e : LinkEnd) → any_frame f ≡ Err e → A
  no_end f e h = absurd cc

  passed_by : {A : Type 0} (judge : Frame → Result A LinkEnd) (sent got : List ℕ) (e : LinkEnd) (c : Span) → EndsSo any_frame bytes patience sent got e c → EndsSo judge bytes patience sent got e c
  passed_by judge sent got e c (in_sending front none why taken) = in_sending front none why taken
  passed_by judge sent got e c (in_awaiting all why given) = in_awaiting all why given
  passed_by judge sent got e c (by_frame f all whole judged) = no_end f e judged

  pub passed_on : {A : Type 0} (judge : Frame → Result A LinkEnd) (halt : Halt) → Exchanges any_frame bytes patience k old prompt (Err halt) k' new → Exchanges judge bytes patience k old prompt (Err halt) k' new
  passed_on judge halts.Memory x = record { sent = x.sent; got = x.got; known = x.known; came = tt }
  passed_on judge (halts.End e) x = record { sent = x.sent; got = x.got; known = x.known; came = passed_by judge x.sent x.got e (span old new prompt k') x.came }

  same_frame : (f g : Frame) → any_frame f ≡ Ok g → f ≡ g
  same_frame f g e = cc

  pub judged_on : {A : Type 0} (judge : Frame → Result A LinkEnd) (frame : Frame) (r : Result A Halt) → Exchanges any_frame bytes patience k old prompt (Ok frame) k' new → JudgedBy (judge frame) r → Exchanges judge bytes patience k old prompt r k' new
  judged_on judge frame (Ok a) x j =
      let same = same_frame x.came.frame frame x.came.judged in
      record { sent = x.sent; got = x.got; known = x.known; came = record { frame = x.came.frame; all = x.came.all; whole = x.came.whole; judged = ap judge same ∙ j } }
  judged_on judge frame (Err halts.Memory) x j = record { sent = x.sent; got = x.got; known = x.known; came = tt }
  judged_on judge frame (Err (halts.End e)) x j =
      let same = same_frame x.came.frame frame x.came.judged in
      record { sent = x.sent; got = x.got; known = x.known; came = by_frame x.came.frame x.came.all x.came.whole (ap judge same ∙ j) }

-- a frame that came is one
pub came_short : (W : Begins) (k : Known) (old : Counts) (patience : ℕ) (r : Result Frame Halt) (k' : Known) (new : Counts) → Awaits k old patience r k' new → IfOk r (λ frame. length frame.payload ≤ 67108864)
came_short W k old patience (Ok frame) k' new a = (W a.bytes [] frame (length a.bytes) a.awaited).0.short
came_short W k old patience (Err halt) k' new a = tt

pub halted : {A : Type 0} (judge : Frame → Result A LinkEnd) (bytes : List ℕ) (patience : ℕ) (k : Known) (old new : Counts) (prompt : Type 0) → Exchanges judge bytes patience k old prompt (Err halts.Memory) k new
halted judge bytes patience k old new prompt = record { sent = []; got = []; known = sym (got-nil (known_sent [] k) ∙ sent-nil k); came = tt }

-- ---- since an earlier time

pub ends_since : {A : Type 0} (judge : Frame → Result A LinkEnd) (bytes : List ℕ) (patience : ℕ) (sent got : List ℕ) (e : LinkEnd) (old mid new : Counts) (first still owes : Type 0) → NeverFall old mid → (first → still) →
    EndsSo judge bytes patience sent got e (record { old = mid; new = new; prompt = still; owes = owes }) → EndsSo judge bytes patience sent got e (record { old = old; new = new; prompt = first; owes = owes })
ends_since judge bytes patience sent got e old mid new first still owes n stays (in_sending front none why taken) = in_sending front none (sending_since patience e old mid new n why) (λ p. taken (stays p))
ends_since judge bytes patience sent got e old mid new first still owes n stays (in_awaiting all why given) = in_awaiting all (awaiting_since got patience e old mid new n why) (λ p. given (stays p))
ends_since judge bytes patience sent got e old mid new first still owes n stays (by_frame f all whole judged) = by_frame f all whole judged

comes_since : {A : Type 0} (judge : Frame → Result A LinkEnd) (bytes : List ℕ) (patience : ℕ) (sent got : List ℕ) (r : Result A Halt) (old mid new : Counts) (first still : Type 0) (k' : Known) → NeverFall old mid → (first → still) →
    Comes judge bytes patience sent got r (span mid new still k') → Comes judge bytes patience sent got r (span old new first k')
comes_since judge bytes patience sent got (Ok a) old mid new first still k' n stays c = c
comes_since judge bytes patience sent got (Err halts.Memory) old mid new first still k' n stays c = c
comes_since judge bytes patience sent got (Err (halts.End e)) old mid new first still k' n stays c = ends_since judge bytes patience sent got e old mid new first still (LinkOwes k') n stays c

pub exchanges_since : {A : Type 0} (judge : Frame → Result A LinkEnd) (bytes : List ℕ) (patience : ℕ) (k mid_k : Known) (old mid : Counts) (first still : Type 0) (r : Result A Halt) (k' : Known) (new : Counts) →
    mid_k ≡ k → NeverFall old mid → (first → still) → Exchanges judge bytes patience mid_k mid still r k' new → Exchanges judge bytes patience k old first r k' new
exchanges_since judge bytes patience k mid_k old mid first still r k' new same n stays x = record {
  sent = x.sent;
  got = x.got;
  known = x.known ∙ ap (λ (j : Known). known_got x.got (known_sent x.sent j)) same;
  came = comes_since judge bytes patience x.sent x.got r old mid new first still k' n stays x.came;
}
