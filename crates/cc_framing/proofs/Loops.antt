-- The frames taken so far, and those to come.
use Rattle.std.proofs.Common.{◌≡◌, ℕ, List, [], ◌∷◌, ◌++◌, Option, Some, None, sym, ap, ◌∙◌, append_assoc}
use Rattle.std.proofs.lemmas.List.{append-nil}
use Rattle.cc_meaning.specs.declared.frame.Frame.{Frame}
use Rattle.cc_meaning_nodes.specs.Frames.{Ending, Frames, ends, with_frame, with_frames, frames_from}
use Rattle.cc_meaning_nodes.specs.FrameLaws.{GoesOn}
use Rattle.cc_framing.specs.Reader.{with_one}

-- no frame stood, or one
pub next-none : (ms : List Frame) (all rest : Frames) (o : Option Frame) → all ≡ with_one o rest → o ≡ None → with_frames ms rest ≡ with_frames ms all
next-none ms all rest o e n = ap (with_frames ms) (sym (e ∙ ap (λ (p : Option Frame). with_one p rest) n))

pub next-one : (ms : List Frame) (m : Frame) (all rest : Frames) (o : Option Frame) → all ≡ with_one o rest → o ≡ Some m → with_frames (ms ++ m ∷ []) rest ≡ with_frames ms all
next-one ms m all rest o e n =
    let one : with_frames (ms ++ m ∷ []) rest ≡ with_frames ms (with_frame m rest) = ap (λ (ks : List Frame). record { frames = ks; ending = rest.ending }) (append_assoc ms (m ∷ []) rest.frames) in
    one ∙ ap (with_frames ms) (sym (e ∙ ap (λ (p : Option Frame). with_one p rest) n))

pub ended : (ms : List Frame) (e : Ending) (fs total : Frames) → fs ≡ ends e → with_frames ms fs ≡ total → record { frames = ms; ending = e } ≡ total
ended ms e fs total f h = ap (λ (ks : List Frame). record { frames = ks; ending = e }) (sym (append-nil ms)) ∙ ap (with_frames ms) (sym f) ∙ h

-- what a piece made of the frames taken before it, and of what is left
pub next_piece : GoesOn → (ms new : List Frame) (e after : Ending) (x y : List ℕ) (total : Frames) → record { frames = new; ending = after } ≡ with_frames ms (frames_from e x) → with_frames ms (frames_from e (x ++ y)) ≡ total → with_frames new (frames_from after y) ≡ total
next_piece goes ms new e after x y total h t =
    let fs = frames_from e x in
    let rest = frames_from fs.ending y in
    let one : with_frames (ms ++ fs.frames) rest ≡ with_frames ms (with_frames fs.frames rest) = ap (λ (ks : List Frame). record { frames = ks; ending = rest.ending }) (append_assoc ms fs.frames rest.frames) in
    ap (λ (s : Frames). with_frames s.frames (frames_from s.ending y)) h ∙ one ∙ ap (with_frames ms) (sym (goes e x y)) ∙ t
