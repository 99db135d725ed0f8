-- The frames of a stream, one after another.
use Rattle.std.proofs.Common.{◌≡◌, ℕ, zero, suc, ◌-◌, ◌<◌, ◌≤◌, List, [], ◌∷◌, ◌++◌, length, drop, refl, sym, ap, ◌∙◌, arith, append_assoc}
use Rattle.std.proofs.lemmas.List.{length-drop, drop-append-le, append-nil}
use Rattle.cc_meaning.specs.declared.fault.FrameFault.{FrameFault}
use Rattle.cc_meaning.specs.declared.frame.Frame.{Frame}
use Rattle.cc_meaning_nodes.specs.Frames.{ends, head_of, Front, Partial, Whole, Faulty, front_of, Ending, Rest, Fails, Frames, with_frame, frames_by, frames_after, frames_of, frames_from}
use Rattle.cc_meaning_nodes.proofs.Fronts.{head-long, front-whole, front-whole_more, front-faulty_more}

frames_after-drop : (n : ℕ) (bytes : List ℕ) → frames_after n bytes ≡ frames_of (drop n bytes)
unfolding frames_after
frames_after-drop zero bytes = refl
frames_after-drop (suc n) [] = refl
frames_after-drop (suc n) (b ∷ bytes) = frames_after-drop n bytes

pub whole_size : (x : List ℕ) (m : Frame) (n : ℕ) → front_of x ≡ Whole m n → 25 ≤ n
whole_size x m n w = let l = head-long x n (front-whole x m n w).head_is in omega (arith, l.is)

frames-by : (b : ℕ) (bytes : List ℕ) (F : Front) → front_of (b ∷ bytes) ≡ F → frames_by F (λ n. frames_after (n - 1) bytes) (b ∷ bytes) ≡ frames_by F (λ n. frames_of (drop n (b ∷ bytes))) (b ∷ bytes)
frames-by b bytes Partial e = refl
frames-by b bytes (Faulty f) e = refl
frames-by b bytes (Whole m zero) e = let w = whole_size (b ∷ bytes) m zero e in absurd (omega arith)
frames-by b bytes (Whole m (suc n)) e =
    let one : suc n - 1 ≡ n = omega arith in
    ap (with_frame m) (ap (λ (k : ℕ). frames_after k bytes) one ∙ frames_after-drop n bytes)

-- one step
pub frames-step : (bytes : List ℕ) → frames_of bytes ≡ frames_by (front_of bytes) (λ n. frames_of (drop n bytes)) bytes
unfolding frames_after front_of head_of
frames-step [] = refl
frames-step (b ∷ bytes) = frames-by b bytes (front_of (b ∷ bytes)) refl

pub frames-partial : (x : List ℕ) → front_of x ≡ Partial → frames_of x ≡ ends (Rest x)
frames-partial x e = frames-step x ∙ ap (λ (F : Front). frames_by F (λ n. frames_of (drop n x)) x) e

-- a whole frame at the front is the first
pub frames-whole : (x y : List ℕ) (m : Frame) (n : ℕ) → front_of x ≡ Whole m n → frames_of (x ++ y) ≡ with_frame m (frames_of (drop n x ++ y))
frames-whole x y m n e =
    let w = front-whole x m n e in
    frames-step (x ++ y)
    ∙ ap (λ (F : Front). frames_by F (λ k. frames_of (drop k (x ++ y))) (x ++ y)) (front-whole_more x y m n e)
    ∙ ap (λ (zs : List ℕ). with_frame m (frames_of zs)) (drop-append-le n x y w.fits)

pub frames-faulty : (x y : List ℕ) (f : FrameFault) → front_of x ≡ Faulty f → frames_of (x ++ y) ≡ ends (Fails f)
frames-faulty x y f e =
    frames-step (x ++ y)
    ∙ ap (λ (F : Front). frames_by F (λ k. frames_of (drop k (x ++ y))) (x ++ y)) (front-faulty_more x y f e)

-- ---- a stream that goes on

abbrev pub then : Frames → List ℕ → Frames
then fs more = record { frames = fs.frames ++ (frames_from fs.ending more).frames; ending = (frames_from fs.ending more).ending }

mutual_bound : (k : ℕ) (x y : List ℕ) (F : Front) → length x ≤ k → front_of x ≡ F → ((z : List ℕ) → length z < k → frames_of (z ++ y) ≡ then (frames_of z) y) → frames_of (x ++ y) ≡ then (frames_of x) y
mutual_bound k x y Partial b e ih = sym (ap (λ (fs : Frames). then fs y) (frames-partial x e))
mutual_bound k x y (Faulty f) b e ih =
    let alone : frames_of x ≡ ends (Fails f) = ap frames_of (sym (append-nil x)) ∙ frames-faulty x [] f e in
    frames-faulty x y f e ∙ sym (ap (λ (fs : Frames). then fs y) alone)
mutual_bound k x y (Whole m n) b e ih =
    let w = front-whole x m n e in
    let size = whole_size x m n e in
    let alone : frames_of x ≡ with_frame m (frames_of (drop n x)) = ap frames_of (sym (append-nil x)) ∙ frames-whole x [] m n e ∙ ap (λ (zs : List ℕ). with_frame m (frames_of zs)) (append-nil (drop n x)) in
    frames-whole x y m n e
    ∙ ap (with_frame m) (ih (drop n x) (omega (arith, length-drop n x, w.fits)))
    ∙ sym (ap (λ (fs : Frames). then fs y) alone)

more_below : (k : ℕ) (x y : List ℕ) → length x < k → frames_of (x ++ y) ≡ then (frames_of x) y
more_below zero x y h = absurd (omega arith)
more_below (suc k) x y h = mutual_bound k x y (front_of x) (omega arith) refl (λ z lt. more_below k z y lt)

-- the frames of a stream that goes on are those of its beginning, and those from where that ends
pub frames_of-append : (x y : List ℕ) → frames_of (x ++ y) ≡ then (frames_of x) y
frames_of-append x y = more_below (suc (length x)) x y (omega arith)

pub frames_from-append : (e : Ending) (x y : List ℕ) → frames_from e (x ++ y) ≡ then (frames_from e x) y
frames_from-append (Rest held) x y = ap frames_of (sym (append_assoc held x y)) ∙ frames_of-append (held ++ x) y
frames_from-append (Fails f) x y = refl
