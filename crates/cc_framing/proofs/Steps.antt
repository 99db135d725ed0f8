-- A step of feeding and taking keeps the frames of the stream.
use Rattle.std.proofs.Common.{◌≡◌, ℕ, ◌+◌, ◌-◌, ◌<◌, ◌≤◌, List, [], ◌++◌, length, take, drop, Result, Ok, Err, refl, sym, ap, subst, ◌∙◌, inl, inr, arith}
use Rattle.std.proofs.lemmas.Bool.{cases_lt}
use Rattle.std.proofs.lemmas.List.{length-append, append-nil, drop_all, drop-drop, drop_at, take_at, take-append-le, take-append-drop, take_all}
use Rattle.cc_meaning.specs.declared.fault.FrameFault.{FrameFault}
use Rattle.cc_meaning.specs.declared.frame.Frame.{Frame}
use Rattle.cc_meaning_nodes.specs.Frames.{Front, Partial, Whole, Faulty, front_of, Ending, Rest, Fails, ends, with_frame, frames_of, frames_from, IsPartial}
use Rattle.cc_framing.specs.Reader.{fed, fed_by, standing, without_standing, wanted_in, IsWithin, IsWithinBy, IsReading, with_one, Feeds, Advances, Holds}
use Rattle.cc_meaning_nodes.proofs.Fronts.{front-whole, front-alone, front-whole_more}
use Rattle.cc_framing.proofs.Wanted.{wanted_fits}
use Rattle.cc_meaning_nodes.proofs.Streams.{frames-whole, frames-faulty}

drop-past : (xs ys : List ℕ) (n : ℕ) → length xs ≤ n → drop n (xs ++ ys) ≡ drop (n - length xs) ys
drop-past xs ys n h =
    let sum : length xs + (n - length xs) ≡ n = omega arith in
    ap (λ (k : ℕ). drop k (xs ++ ys)) (sym sum) ∙ sym (drop-drop (n - length xs) (length xs) (xs ++ ys)) ∙ ap (λ (zs : List ℕ). drop (n - length xs) zs) (drop_at xs ys (length xs) refl)

abbrev count : ℕ → Result ℕ FrameFault
count n = Ok n

-- what is held does not go past a frame that begins with it
held_by : (held piece : List ℕ) (m : Frame) (n : ℕ) (F : Front) → front_of held ≡ F → IsWithinBy F (length held) → front_of (held ++ piece) ≡ Whole m n → length held ≤ n
held_by held piece m n (Faulty f) e w h = absurd w
held_by held piece m n (Whole k j) e w h = let same : Whole k j ≡ Whole m n = sym (front-whole_more held piece k j e) ∙ h in let j-is : j ≡ n = cc in omega arith
held_by held piece m n Partial e w h =
    elim (cases_lt n (length held)) [
      | inr le ↦ le
      | inl lt ↦ absurd (
          let alone : front_of (take n (held ++ piece)) ≡ Whole m n = front-alone (held ++ piece) m n h in
          let front : take n (held ++ piece) ≡ take n held = take-append-le n held piece (omega arith) in
          let inner : front_of (take n held) ≡ Whole m n = ap front_of (sym front) ∙ alone in
          let outer : front_of (take n held ++ drop n held) ≡ Whole m n = front-whole_more (take n held) (drop n held) m n inner in
          let same : front_of held ≡ Whole m n = ap front_of (sym (take-append-drop n held)) ∙ outer in
          let both : Partial ≡ Whole m n = sym e ∙ same in
          cc)
    ]

step_by : (held piece : List ℕ) (n : ℕ) (F : Front) → IsWithin held → front_of (held ++ piece) ≡ F → (fed_by F held piece).took ≡ Ok n → frames_of (held ++ piece) ≡ with_one (standing (fed_by F held piece).ending) (frames_from (without_standing (fed_by F held piece).ending) (drop n piece))
step_by held piece n (Faulty f) w e t = absurd cc
step_by held piece n Partial w e t =
    let n-is : length piece ≡ n = cc in
    let none : drop n piece ≡ [] = drop_all n piece (omega arith) in
    rw (e, none, append-nil) refl
step_by held piece n (Whole m k) w e t =
    let n-is : k - length held ≡ n = cc in
    let low = held_by held piece m k (front_of held) refl w e in
    let after : drop k (held ++ piece) ≡ drop n piece = drop-past held piece k low ∙ ap (λ (j : ℕ). drop j piece) n-is in
    let alone : front_of (take k (held ++ piece)) ≡ Whole m k = front-alone (held ++ piece) m k e in
    let whole : frames_of (held ++ piece) ≡ with_frame m (frames_of (drop n piece)) = ap frames_of (sym (append-nil (held ++ piece))) ∙ frames-whole (held ++ piece) [] m k e ∙ ap (λ (zs : List ℕ). with_frame m (frames_of zs)) (append-nil (drop k (held ++ piece)) ∙ after) in
    rw alone whole

pub step : (e : Ending) (piece : List ℕ) (n : ℕ) → IsReading e → (fed e piece).took ≡ Ok n → frames_from e piece ≡ with_one (standing (fed e piece).ending) (frames_from (without_standing (fed e piece).ending) (drop n piece))
step (Rest held) piece n w t = step_by held piece n (front_of (held ++ piece)) w refl t
step (Fails f) piece n w t = absurd cc

-- at least a byte is taken where none stands whole
progress_by : (held piece : List ℕ) (n : ℕ) (F : Front) → IsWithin held → front_of held ≡ Partial → 0 < length piece → front_of (held ++ piece) ≡ F → (fed_by F held piece).took ≡ Ok n → (0 < n) × (n ≤ length piece)
progress_by held piece n (Faulty f) w p h e t = absurd cc
progress_by held piece n Partial w p h e t = let n-is : length piece ≡ n = cc in (omega arith, omega arith)
progress_by held piece n (Whole m k) w p h e t =
    let n-is : k - length held ≡ n = cc in
    let low = held_by held piece m k (front_of held) refl w e in
    let fits = (front-whole (held ++ piece) m k e).fits in (
      elim (cases_lt (length held) k) [
        | inl lt ↦ omega arith
        | inr le ↦ absurd (
            let k-is : k ≡ length held = omega arith in
            let alone : front_of (take k (held ++ piece)) ≡ Whole m k = front-alone (held ++ piece) m k e in
            let is_held : take k (held ++ piece) ≡ held = take_at held piece k (sym k-is) in
            let same : Whole m k ≡ Partial = sym alone ∙ ap front_of is_held ∙ p in
            cc)
      ],
      omega (arith, length-append held piece),
    )

fault_by : (held piece : List ℕ) (f : FrameFault) (F : Front) → front_of (held ++ piece) ≡ F → (fed_by F held piece).took ≡ Err f → frames_of (held ++ piece) ≡ record { frames = []; ending = (fed_by F held piece).ending }
fault_by held piece f Partial e t = absurd cc
fault_by held piece f (Whole m n) e t = absurd cc
fault_by held piece f (Faulty g) e t = ap frames_of (sym (append-nil (held ++ piece))) ∙ frames-faulty (held ++ piece) [] g e

-- ---- less than a frame

pub reading-partial : (e : Ending) → IsPartial e → IsReading e
reading-partial (Rest held) p = subst (λ (F : Front). IsWithinBy F (length held)) (sym p) tt
reading-partial (Fails f) p = p

pub progress : (e : Ending) (piece : List ℕ) (n : ℕ) → IsPartial e → 0 < length piece → (fed e piece).took ≡ Ok n → (0 < n) × (n ≤ length piece)
progress (Rest held) piece n p h t = progress_by held piece n (front_of (held ++ piece)) (reading-partial (Rest held) p) p h refl t
progress (Fails f) piece n p h t = absurd cc

-- a fault ends the frames
pub fault_ends : (e : Ending) (piece : List ℕ) (f : FrameFault) → (fed e piece).took ≡ Err f → frames_from e piece ≡ record { frames = []; ending = (fed e piece).ending }
fault_ends (Fails g) piece f t = refl
fault_ends (Rest held) piece f t = fault_by held piece f (front_of (held ++ piece)) refl t

-- ---- one piece

fits_by : (held piece : List ℕ) (n : ℕ) (F : Front) → IsWithin held → front_of (held ++ piece) ≡ F → (fed_by F held piece).took ≡ Ok n → n ≤ length piece
fits_by held piece n (Faulty f) w e t = absurd cc
fits_by held piece n Partial w e t = let n-is : length piece ≡ n = cc in omega arith
fits_by held piece n (Whole m k) w e t =
    let n-is : k - length held ≡ n = cc in
    let fits = (front-whole (held ++ piece) m k e).fits in
    omega (arith, length-append held piece)

fits : (e : Ending) (piece : List ℕ) (n : ℕ) → IsReading e → (fed e piece).took ≡ Ok n → n ≤ length piece
fits (Rest held) piece n w t = fits_by held piece n (front_of (held ++ piece)) w refl t
fits (Fails f) piece n w t = absurd cc

fault_is : (e : Ending) (piece : List ℕ) (f : FrameFault) → (fed e piece).took ≡ Err f → (fed e piece).ending ≡ Fails f
fault_is (Fails g) piece f t = let same : g ≡ f = cc in ap Fails same
fault_is (Rest held) piece f t = by (front_of (held ++ piece)) t
  where
    by : (F : Front) → (fed_by F held piece).took ≡ Err f → (fed_by F held piece).ending ≡ Fails f
    by Partial t = absurd cc
    by (Whole m n) t = absurd cc
    by (Faulty g) t = let same : g ≡ f = cc in ap Fails same

pub advances : (old : Ending) (piece : List ℕ) (r : Result ℕ FrameFault) (new : Ending) → IsReading old → Feeds old piece r new → Advances old piece r new
advances old piece (Ok n) new w h =
    (step old piece n w h.0 ∙ ap (λ (e : Ending). with_one (standing e) (frames_from (without_standing e) (drop n piece))) (sym h.1), fits old piece n w h.0, λ p some. (progress old piece n p some h.0).0)
advances old piece (Err f) new w h = (h.0, λ known. failed old piece f new (h.1 known))
  where
    failed : (old : Ending) (piece : List ℕ) (f : FrameFault) (new : Ending) → ((fed old piece).took ≡ Err f) × (new ≡ (fed old piece).ending) → (frames_from old piece ≡ ends (Fails f)) × (new ≡ Fails f)
    failed old piece f new k = (fault_ends old piece f k.0 ∙ ap (λ (e : Ending). ends e) (fault_is old piece f k.0), k.1 ∙ fault_is old piece f k.0)

-- ---- no more than is wanted

wanted_by : (held piece : List ℕ) (n : ℕ) (F : Front) → front_of held ≡ Partial → length piece ≤ wanted_in held → front_of (held ++ piece) ≡ F → (fed_by F held piece).took ≡ Ok n → (fed_by F held piece).ending ≡ Rest (held ++ piece)
wanted_by held piece n Partial p w e t = refl
wanted_by held piece n (Faulty f) p w e t = absurd cc
wanted_by held piece n (Whole m k) p w e t = ap Rest (take_all k (held ++ piece) (wanted_fits held piece m k p w e))

-- a piece that is wanted is held whole
pub fed-wanted : (held piece : List ℕ) (n : ℕ) → front_of held ≡ Partial → length piece ≤ wanted_in held → (fed (Rest held) piece).took ≡ Ok n → (fed (Rest held) piece).ending ≡ Rest (held ++ piece)
fed-wanted held piece n p w t = wanted_by held piece n (front_of (held ++ piece)) p w refl t

count_by : (held piece : List ℕ) (n : ℕ) (F : Front) → front_of held ≡ Partial → length piece ≤ wanted_in held → front_of (held ++ piece) ≡ F → (fed_by F held piece).took ≡ Ok n → n ≡ length piece
count_by held piece n Partial p w e t = cc
count_by held piece n (Faulty f) p w e t = absurd cc
count_by held piece n (Whole m k) p w e t =
    let n-is : k - length held ≡ n = cc in
    omega (arith, wanted_fits held piece m k p w e, (front-whole (held ++ piece) m k e).fits, length-append held piece)

count_is : (held piece : List ℕ) (n : ℕ) → front_of held ≡ Partial → length piece ≤ wanted_in held → (fed (Rest held) piece).took ≡ Ok n → n ≡ length piece
count_is held piece n p w t = count_by held piece n (front_of (held ++ piece)) p w refl t

faulty_by : (held piece : List ℕ) (f : FrameFault) (F : Front) → (fed_by F held piece).took ≡ Err f → F ≡ Faulty f
faulty_by held piece f Partial t = absurd cc
faulty_by held piece f (Whole m n) t = absurd cc
faulty_by held piece f (Faulty g) t = let same : g ≡ f = cc in ap Faulty same

pub fed-faulty : (held piece : List ℕ) (f : FrameFault) → (fed (Rest held) piece).took ≡ Err f → front_of (held ++ piece) ≡ Faulty f
fed-faulty held piece f t = faulty_by held piece f (front_of (held ++ piece)) t

-- what feeding no more than is wanted does
pub holds : (held piece : List ℕ) (r : Result ℕ FrameFault) (old new : Ending) → Feeds old piece r new → old ≡ Rest held → front_of held ≡ Partial → length piece ≤ wanted_in held → Holds held piece r new
holds held piece (Ok n) old new h is p w =
    let k : Feeds (Rest held) piece (Ok n) new = subst (λ (e : Ending). Feeds e piece (Ok n) new) is h in
    (count_is held piece n p w k.0, k.1 ∙ fed-wanted held piece n p w k.0)
holds held piece (Err f) old new h is p w =
    let k : Feeds (Rest held) piece (Err f) new = subst (λ (e : Ending). Feeds e piece (Err f) new) is h in
    (k.0, λ known. (fed-faulty held piece f (k.1 known).0, (k.1 known).1 ∙ fault_is (Rest held) piece f (k.1 known).0))
