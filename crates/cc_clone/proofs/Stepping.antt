-- A clone's steps along its stream.
use Rattle.std.proofs.Common.{◌≡◌, ◌↔◌, ℕ, ◌≤◌, Bool, true, false, List, [], ◌++◌, length, Option, Some, None, Result, Ok, Err, refl, sym, ap, subst, ◌∙◌, append_assoc, is_some, if◌then◌else◌}
use Rattle.std.proofs.lemmas.List.{append-nil}
use Rattle.cc_meaning.specs.declared.frame.Frame.{Frame}
use Rattle.cc_meaning.specs.declared.travel.CloneEnd.{CloneEnd}
use Rattle.cc_meaning_nodes.specs.Frames.{Front, Partial, Whole, Faulty, front_of, Ending, Rest, Fails, Frames, with_frame, frames_from, IsPartial}
use Rattle.cc_meaning_nodes.specs.FrameLaws.{NothingMore, BeginsWithWhole}
use Rattle.cc_meaning_nodes.specs.Talk.{Closed, Talk, talk, says, with_said, stands_at, NothingIsSaid, FirstIsAnswered, WaitsForRest}
use Rattle.cc_meaning_nodes.specs.Clone.{ClonePlace, Waiting, Serving}
use Rattle.cc_meaning_plain.specs.declared.plain.Plain.{Plain}
use Rattle.cc_meaning_clone.specs.Plain.{PlainStanding, plain_clone, IsVerdict, IsVerdictAt, HasVerdict, VerdictOnFirst, VerdictWaits, IsJudgedFirst}
use Rattle.cc_framing.specs.Reader.{fed_by, Feeds, whole_in, standing, without_standing}
use Rattle.cc_clone.specs.Node.{next_in, Answers, IsAnswered, IsHeld, standing_at, Steps, Comes, IsDue}

-- ---- what a reader holds

pub held_partial : (e : Ending) → IsHeld e → IsPartial e
held_partial (Rest held) is = is
held_partial (Fails fault) is = absurd is

-- a reader that took a piece has no fault
abbrev IsRest : Ending → Type 0
IsRest (Rest bytes) = Unit {0}
IsRest (Fails fault) = ⊥

rest_by : (F : Front) (held piece : List ℕ) (n : ℕ) → (fed_by F held piece).took ≡ Ok n → IsRest (fed_by F held piece).ending
rest_by Partial held piece n e = tt
rest_by (Whole frame size) held piece n e = tt
rest_by (Faulty fault) held piece n e = absurd cc

rest_after : (old new : Ending) (piece : List ℕ) (n : ℕ) → Feeds old piece (Ok n) new → IsRest new
rest_after (Rest held) new piece n feeds = subst IsRest (sym feeds.1) (rest_by (front_of (held ++ piece)) held piece n feeds.0)
rest_after (Fails fault) new piece n feeds = absurd (let e = feeds.0 in cc)

rest_without : (e : Ending) → IsRest e → IsRest (without_standing e)
rest_without (Rest bytes) is = rest_if (is_some (standing (Rest bytes)))
  where
    rest_if : (b : Bool) → IsRest (if b then Rest [] else Rest bytes)
    rest_if true = tt
    rest_if false = tt
rest_without (Fails fault) is = absurd is

held_of : (e : Ending) → IsRest e → IsPartial e → IsHeld e
held_of (Rest bytes) is partial = partial
held_of (Fails fault) is partial = absurd is

-- what is left after a frame is taken is less than a frame
pub held_after : (old mid new : Ending) (piece : List ℕ) (n : ℕ) → Feeds old piece (Ok n) mid → new ≡ without_standing mid → IsPartial new → IsHeld new
held_after old mid new piece n feeds left partial = held_of new (subst IsRest (sym left) (rest_without mid (rest_after old mid piece n feeds))) partial

-- ---- steps

stands-is : (verdict : Result Plain ℕ) (next : Result (ClonePlace Plain) CloneEnd) (e : Ending) → stands_at (plain_clone verdict) next e ≡ standing_at next e
stands-is verdict (Err cause) e = refl
stands-is verdict (Ok place) (Rest held) = refl
stands-is verdict (Ok place) (Fails fault) = refl

-- no frame came whole
module _ (rests : (verdict : Result Plain ℕ) → WaitsForRest (plain_clone verdict)) (waits : VerdictWaits) (old piece rest : List ℕ) (place : ClonePlace Plain) (e after : Ending) where
  abbrev s : PlainStanding
  s = standing_at (Ok place) e

  abbrev t : PlainStanding
  t = standing_at (Ok place) after

  right_waits : (verdict : Result Plain ℕ) → frames_from e piece ≡ frames_from after rest → IsVerdict s piece verdict ↔ IsVerdict t rest verdict
  right_waits verdict h =
      let law = waits place e after piece rest verdict h in
      let here = stands-is verdict (Ok place) e in
      let there = stands-is verdict (Ok place) after in (
        (λ is. subst (λ (x : PlainStanding). IsVerdict x rest verdict) there (law.0 (subst (λ (x : PlainStanding). IsVerdict x piece verdict) (sym here) is))),
        (λ is. subst (λ (x : PlainStanding). IsVerdict x piece verdict) here (law.1 (subst (λ (x : PlainStanding). IsVerdict x rest verdict) (sym there) is))),
      )

  told_waits : (verdict : Result Plain ℕ) → frames_from e piece ≡ frames_from after rest → with_said old (talk (plain_clone verdict) t rest) ≡ with_said old (talk (plain_clone verdict) s piece)
  told_waits verdict h =
      let m = plain_clone verdict in
      ap (λ (x : PlainStanding). with_said old (talk m x rest)) (sym (stands-is verdict (Ok place) after))
      ∙ ap (with_said old) (sym (rests verdict place e after piece rest h))
      ∙ ap (λ (x : PlainStanding). with_said old (talk m x piece)) (stands-is verdict (Ok place) e)

  pub step_waits : frames_from e piece ≡ frames_from after rest → Steps old s piece old t rest
  step_waits h = record {
    right = λ verdict is. (right_waits verdict h).0 is;
    told = λ verdict is. told_waits verdict h;
    judged = λ has. (has.0, (right_waits has.0 h).1 has.1);
    grown = ([], append-nil old);
  }

-- a frame came whole and was answered
module _ (firsts : (verdict : Result Plain ℕ) → FirstIsAnswered (plain_clone verdict)) (on_first : VerdictOnFirst) (old new piece rest : List ℕ) (place : ClonePlace Plain) (e after : Ending) (frame : Frame) (end : Option CloneEnd) (job : Option Plain) where
  abbrev at_frame : PlainStanding
  at_frame = standing_at (Ok place) e

  abbrev past_frame : PlainStanding
  past_frame = standing_at (next_in end job) after

  module _ (h : frames_from e piece ≡ with_frame frame (frames_from after rest)) where
    right_here : (verdict : Result Plain ℕ) → IsVerdict at_frame piece verdict ↔ IsVerdictAt place frame verdict
    right_here verdict =
        let law = (on_first place e after piece rest frame verdict h).0 in
        let here = stands-is verdict (Ok place) e in (
          (λ is. law.0 (subst (λ (x : PlainStanding). IsVerdict x piece verdict) (sym here) is)),
          (λ is. subst (λ (x : PlainStanding). IsVerdict x piece verdict) here (law.1 is)),
        )

    next-is : (verdict : Result Plain ℕ) → Answers ((plain_clone verdict).answer place frame) old new end job → stands_at (plain_clone verdict) ((plain_clone verdict).answer place frame).next after ≡ past_frame
    next-is verdict a = stands-is verdict ((plain_clone verdict).answer place frame).next after ∙ ap (λ (next : Result (ClonePlace Plain) CloneEnd). standing_at next after) a.1

    right_there : (verdict : Result Plain ℕ) → Answers ((plain_clone verdict).answer place frame) old new end job → IsVerdict past_frame rest verdict
    right_there verdict a = subst (λ (x : PlainStanding). IsVerdict x rest verdict) (next-is verdict a) (on_first place e after piece rest frame verdict h).1

    told_there : (verdict : Result Plain ℕ) → Answers ((plain_clone verdict).answer place frame) old new end job → with_said new (talk (plain_clone verdict) past_frame rest) ≡ with_said old (talk (plain_clone verdict) at_frame piece)
    told_there verdict a =
        let m = plain_clone verdict in
        let reply = m.answer place frame in
        let after_it = talk m past_frame rest in
        let one : with_said new after_it ≡ with_said (old ++ reply.said) after_it = ap (λ (rs : List ℕ). with_said rs after_it) a.0 in
        let two : with_said (old ++ reply.said) after_it ≡ with_said old (with_said reply.said after_it) = ap (λ (rs : List ℕ). record { said = rs; standing = after_it.standing }) (append_assoc old reply.said after_it.said) in
        let three : with_said old (with_said reply.said after_it) ≡ with_said old (with_said reply.said (talk m (stands_at m reply.next after) rest)) = ap (λ (x : PlainStanding). with_said old (with_said reply.said (talk m x rest))) (sym (next-is verdict a)) in
        one ∙ two ∙ three
        ∙ ap (with_said old) (sym (firsts verdict place e after piece rest frame h))
        ∙ ap (λ (x : PlainStanding). with_said old (talk m x piece)) (stands-is verdict (Ok place) e)

    pub step_answers : IsAnswered place frame old new end job → Steps old at_frame piece new past_frame rest
    step_answers is = record {
      right = λ verdict v. right_there verdict (is.answers verdict ((right_here verdict).0 v));
      told = λ verdict v. told_there verdict (is.answers verdict ((right_here verdict).0 v));
      judged = λ has. (is.verdict, (right_here is.verdict).1 is.is_right);
      grown = (((plain_clone is.verdict).answer place frame).said, sym (is.answers is.verdict is.is_right).0);
    }

-- ---- a whole piece

pub steps-none : (old : List ℕ) (s : PlainStanding) (piece : List ℕ) → Steps old s piece old s piece
steps-none old s piece = record {
  right = λ verdict is. is;
  told = λ verdict is. refl;
  judged = λ has. has;
  grown = ([], append-nil old);
}

pub steps-more : (old mid new : List ℕ) (s t u : PlainStanding) (x y z : List ℕ) → Steps old s x mid t y → Steps mid t y new u z → Steps old s x new u z
steps-more old mid new s t u x y z one two = record {
  right = λ verdict is. two.right verdict (one.right verdict is);
  told = λ verdict is. two.told verdict (one.right verdict is) ∙ one.told verdict is;
  judged = λ has. one.judged (two.judged has);
  grown = (one.grown.0 ++ two.grown.0, sym (append_assoc old one.grown.0 two.grown.0) ∙ ap (λ (rs : List ℕ). rs ++ two.grown.0) one.grown.1 ∙ two.grown.1);
}

-- nothing of the piece is left
no_frames : NothingMore → (held : List ℕ) → front_of held ≡ Partial → (frames_from (Rest held) []).frames ≡ []
no_frames law held partial = ap (λ (fs : Frames). fs.frames) (law.2 (Rest held) partial)

has_verdict : NothingMore → (place : ClonePlace Plain) (e : Ending) → IsHeld e → HasVerdict (standing_at (Ok place) e) []
has_verdict law Waiting (Rest held) is = (Err 64, subst (λ (fs : List Frame). IsJudgedFirst fs (Err 64)) (sym (no_frames law held is)) tt)
has_verdict law (Serving plain) (Rest held) is = (Err 64, tt)
has_verdict law place (Fails fault) is = absurd is

pub steps-end : ((verdict : Result Plain ℕ) → NothingIsSaid (plain_clone verdict)) → NothingMore →
    (old new piece rest : List ℕ) (s : PlainStanding) (place : ClonePlace Plain) (e : Ending) → IsHeld e → rest ≡ [] →
    Steps old s piece new (standing_at (Ok place) e) rest → Comes old s piece new (standing_at (Ok place) e)
steps-end nothing law old new piece rest s place e is none steps =
    let t = standing_at (Ok place) e in
    record {
      told = λ verdict v.
          let m = plain_clone verdict in
          let silent : talk m t rest ≡ record { said = []; standing = t } =
          ap (talk m t) none ∙ ap (λ (x : PlainStanding). talk m x []) (sym (stands-is verdict (Ok place) e))
          ∙ nothing verdict place e (held_partial e is) ∙ ap (λ (x : PlainStanding). record { said = []; standing = x }) (stands-is verdict (Ok place) e) in
          ap (λ (rs : List ℕ). record { said = rs; standing = t }) (sym (append-nil new)) ∙ ap (with_said new) (sym silent) ∙ steps.told verdict v;
      judged = steps.judged (subst (HasVerdict t) (sym none) (has_verdict law place e is));
    }

-- a closed clone says nothing, whatever is left
pub steps-rest : (old piece new x y : List ℕ) (s : PlainStanding) (cause : CloneEnd) → Steps old s piece new (Closed cause) x → Steps old s piece new (Closed cause) y
steps-rest old piece new x y s cause steps = record {
  right = λ verdict is. tt;
  told = steps.told;
  judged = λ has. steps.judged (Err 64, tt);
  grown = steps.grown;
}

-- the clone is closed
pub steps-closed : (old new piece rest : List ℕ) (s : PlainStanding) (cause : CloneEnd) → Steps old s piece new (Closed cause) rest → Comes old s piece new (Closed cause)
steps-closed old new piece rest s cause steps = record {
  told = λ verdict v. ap (λ (rs : List ℕ). record { said = rs; standing = Closed cause }) (sym (append-nil new)) ∙ steps.told verdict v;
  judged = steps.judged (Err 64, tt);
}

-- memory was wanting
pub steps-due : (old new piece rest : List ℕ) (s t : PlainStanding) → Steps old s piece new t rest → IsDue old s piece new
steps-due old new piece rest s t steps verdict v =
    (steps.grown, (says (plain_clone verdict) t rest, ap (λ (x : Talk (ClonePlace Plain) CloneEnd). x.said) (steps.told verdict v)))

pub closed_has : (end : Option CloneEnd) (job : Option Plain) (e : Ending) (piece : List ℕ) → is_some end ≡ true → HasVerdict (standing_at (next_in end job) e) piece
closed_has None job e piece is = absurd cc
closed_has (Some cause) job e piece is = (Err 64, tt)

-- a frame that stands whole is one
whole_is_frame : BeginsWithWhole → (bytes : List ℕ) (f : Front) (frame : Frame) → front_of bytes ≡ f → whole_in f ≡ Some frame → length frame.payload ≤ 67108864
whole_is_frame begins bytes Partial frame e taken = absurd cc
whole_is_frame begins bytes (Whole g n) frame e taken =
    let same : g ≡ frame = cc in
    subst (λ (x : Frame). length x.payload ≤ 67108864) same (begins bytes [] g n e).0.short
whole_is_frame begins bytes (Faulty fault) frame e taken = absurd cc

pub taken_is_short : BeginsWithWhole → (e : Ending) (frame : Frame) → standing e ≡ Some frame → length frame.payload ≤ 67108864
taken_is_short begins (Rest bytes) frame taken = whole_is_frame begins bytes (front_of bytes) frame refl taken
taken_is_short begins (Fails fault) frame taken = absurd cc
