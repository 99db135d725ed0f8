-- A talk that goes on.
use Rattle.std.proofs.Common.{◌≡◌, ℕ, List, [], ◌∷◌, ◌++◌, Result, Ok, Err, refl, sym, ap, ◌∙◌, append_assoc}
use Rattle.cc_meaning.specs.declared.frame.Frame.{Frame}
use Rattle.cc_meaning_nodes.specs.Frames.{Ending, Rest, Fails, Frames, frames_of, frames_from}
use Rattle.cc_meaning_nodes.specs.Talk.{Manner, replies_to, place_after, Standing, Open, Closed, Talk, stands_at, talk_by, talk, with_said, SaidGoesOn, StandingGoesOn, SaidIsFront, NothingIsSaid, FirstIsAnswered, WaitsForRest, FaultCloses, ClosedIsSilent}
use Rattle.cc_meaning_nodes.proofs.Streams.{frames_from-append}
use Rattle.cc_meaning_nodes.proofs.Laws.{nothing_more}

module _ {Place Cause : Type 0} (manner : Manner Place Cause) where
  replies_to-closed : (cause : Cause) (fs : List Frame) → replies_to manner (Err cause) fs ≡ []
  replies_to-closed cause [] = refl
  replies_to-closed cause (f ∷ fs) = refl

  place_after-closed : (cause : Cause) (fs : List Frame) → place_after manner (Err cause) fs ≡ Err cause
  place_after-closed cause [] = refl
  place_after-closed cause (f ∷ fs) = refl

  replies_to-append : (place : Result Place Cause) (fs gs : List Frame) → replies_to manner place (fs ++ gs) ≡ replies_to manner place fs ++ replies_to manner (place_after manner place fs) gs
  replies_to-append place [] gs = refl
  replies_to-append (Err cause) (f ∷ fs) gs = sym (replies_to-closed cause gs)
  replies_to-append (Ok place) (f ∷ fs) gs =
      let reply = manner.answer place f in
      ap (λ (rs : List ℕ). reply.said ++ rs) (replies_to-append reply.next fs gs)
      ∙ sym (append_assoc reply.said (replies_to manner reply.next fs) (replies_to manner (place_after manner reply.next fs) gs))

  place_after-append : (place : Result Place Cause) (fs gs : List Frame) → place_after manner place (fs ++ gs) ≡ place_after manner (place_after manner place fs) gs
  place_after-append place [] gs = refl
  place_after-append (Err cause) (f ∷ fs) gs = sym (place_after-closed cause gs)
  place_after-append (Ok place) (f ∷ fs) gs = place_after-append (manner.answer place f).next fs gs

  -- what is said to frames from a place, and where the node stands at their ending
  abbrev talk_of : Result Place Cause → Frames → Talk Place Cause
  talk_of place fs = record { said = replies_to manner place fs.frames; standing = stands_at manner (place_after manner place fs.frames) fs.ending }

  talk-from : (place : Result Place Cause) (e : Ending) (bytes : List ℕ) → talk manner (stands_at manner place e) bytes ≡ talk_of place (frames_from e bytes)
  talk-from (Ok place) (Rest held) bytes = refl
  talk-from (Ok place) (Fails fault) bytes = refl
  talk-from (Err cause) e bytes =
      let fs = frames_from e bytes in
      sym (ap (λ (rs : List ℕ). record { said = rs; standing = stands_at manner (place_after manner (Err cause) fs.frames) fs.ending }) (replies_to-closed cause fs.frames)
      ∙ ap (λ (p : Result Place Cause). record { said = []; standing = stands_at manner p fs.ending }) (place_after-closed cause fs.frames))

  talk-append : (s : Standing Place Cause) (x y : List ℕ) → talk manner s (x ++ y) ≡ with_said (talk manner s x).said (talk manner (talk manner s x).standing y)
  talk-append (Closed cause) x y = refl
  talk-append (Open place held) x y =
      let fs = frames_of (held ++ x) in
      let more = frames_from fs.ending y in
      let after = place_after manner (Ok place) fs.frames in
      ap (talk_by manner place) (frames_from-append (Rest held) x y)
      ∙ ap (λ (rs : List ℕ). record { said = rs; standing = stands_at manner (place_after manner (Ok place) (fs.frames ++ more.frames)) more.ending }) (replies_to-append (Ok place) fs.frames more.frames)
      ∙ ap (λ (p : Result Place Cause). record { said = replies_to manner (Ok place) fs.frames ++ replies_to manner after more.frames; standing = stands_at manner p more.ending }) (place_after-append (Ok place) fs.frames more.frames)
      ∙ ap (with_said (replies_to manner (Ok place) fs.frames)) (sym (talk-from after fs.ending y))

  pub said_goes_on : SaidGoesOn manner
  said_goes_on s x y = ap (λ (t : Talk Place Cause). t.said) (talk-append s x y)

  pub standing_goes_on : StandingGoesOn manner
  standing_goes_on s x y = ap (λ (t : Talk Place Cause). t.standing) (talk-append s x y)

  pub said_is_front : SaidIsFront manner
  said_is_front s x y = ((talk manner (talk manner s x).standing y).said, sym (said_goes_on s x y))

  pub nothing_is_said : NothingIsSaid manner
  nothing_is_said place e partial = talk-from (Ok place) e [] ∙ ap (talk_by manner place) (nothing_more.2 e partial)

  pub first_is_answered : FirstIsAnswered manner
  first_is_answered place e after bytes rest frame h =
      let reply = manner.answer place frame in
      talk-from (Ok place) e bytes ∙ ap (talk_by manner place) h ∙ ap (with_said reply.said) (sym (talk-from reply.next after rest))

  pub waits_for_rest : WaitsForRest manner
  waits_for_rest place e after bytes rest h = talk-from (Ok place) e bytes ∙ ap (talk_by manner place) h ∙ sym (talk-from (Ok place) after rest)

  pub fault_closes : FaultCloses manner
  fault_closes place e bytes fault h = talk-from (Ok place) e bytes ∙ ap (talk_by manner place) h

  pub closed_is_silent : ClosedIsSilent manner
  closed_is_silent cause bytes = refl
