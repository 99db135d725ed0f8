-- What feeding a piece does, by the head of what is held and the piece.
use Rattle.std.proofs.Common.{◌≡◌, ℕ, ◌+◌, ◌-◌, ◌<◌, ◌≤◌, List, [], ◌++◌, length, take, drop, Ok, Err, refl, sym, ap, subst, ◌∙◌, inl, inr, arith, append_assoc}
use Rattle.std.specs.Str.{bytes_eq}
use Rattle.std.proofs.lemmas.Bool.{cases_lt, cases_Bool, lt-ltb, le-ltb}
use Rattle.std.proofs.lemmas.List.{length-append, length-take, take-append-drop, append-nil, take_at}
use Rattle.cc_meaning.specs.declared.fault.FrameFault.{FrameFault}
use Rattle.cc_meaning.specs.declared.fault.FrameFault.TheVariants.{BadDigest}
use Rattle.cc_meaning_nodes.specs.declared.head.Head.{Head}
use Rattle.cc_meaning_nodes.specs.declared.head.Head.TheVariants.{Short, Wrong, Long}
use Rattle.cc_meaning.specs.declared.frame.Frame.{Frame}
use Rattle.cc_meaning_nodes.specs.Frames.{head_of, Front, Partial, Whole, Faulty, front_by, front_of, stated_of, found_of, frame_of, Rest, Fails}
use Rattle.cc_framing.specs.Reader.{Fed, fed, fed_by, IsWithin, IsWithinBy}
use Rattle.cc_meaning_nodes.proofs.Fronts.{size-more, head-more, head-not_short, head-long, front-whole_more, front-faulty_more}
use Rattle.cc_framing.proofs.Wanted.{within_end}

abbrev pub takes : ℕ → List ℕ → Fed
takes n bytes = record { took = Ok n; ending = Rest bytes }

abbrev pub fails : FrameFault → Fed
fails f = record { took = Err f; ending = Fails f }

front-short : (x : List ℕ) → head_of x ≡ Short → front_of x ≡ Partial
unfolding front_of
front-short x e = ap (λ (h : Head). front_by h x) e

front-wrong_head : (x : List ℕ) (f : FrameFault) → head_of x ≡ Wrong f → front_of x ≡ Faulty f
unfolding front_of
front-wrong_head x f e = ap (λ (h : Head). front_by h x) e

front-part : (x : List ℕ) (n : ℕ) → head_of x ≡ Long n → length x < n → front_of x ≡ Partial
unfolding front_of
front-part x n e lt = rw (e, lt-ltb (length x) n lt) refl

fed-partial : (held piece : List ℕ) → front_of (held ++ piece) ≡ Partial → fed (Rest held) piece ≡ takes (length piece) (held ++ piece)
fed-partial held piece e = ap (λ (F : Front). fed_by F held piece) e

within-partial : (x : List ℕ) → front_of x ≡ Partial → IsWithin x
within-partial x e = subst (λ (F : Front). IsWithinBy F (length x)) (sym e) tt

within-whole : (x : List ℕ) (m : Frame) → front_of x ≡ Whole m (length x) → IsWithin x
within-whole x m e = subst (λ (F : Front). IsWithinBy F (length x)) (sym e) refl

pub within_nil : IsWithin []
unfolding front_of head_of
within_nil = tt

pub fed-short : (held piece : List ℕ) → head_of (held ++ piece) ≡ Short → fed (Rest held) piece ≡ takes (length piece) (held ++ piece)
fed-short held piece e = fed-partial held piece (front-short (held ++ piece) e)

pub within-short : (held piece : List ℕ) → head_of (held ++ piece) ≡ Short → IsWithin (held ++ piece)
within-short held piece e = within-partial (held ++ piece) (front-short (held ++ piece) e)

pub fed-wrong : (held piece : List ℕ) (f : FrameFault) → head_of (held ++ piece) ≡ Wrong f → fed (Rest held) piece ≡ fails f
fed-wrong held piece f e = ap (λ (F : Front). fed_by F held piece) (front-wrong_head (held ++ piece) f e)

pub end-past : (held piece : List ℕ) (n : ℕ) → IsWithin held → head_of (held ++ piece) ≡ Long n → length held ≤ n
end-past held piece n w e =
    let l = head-long (held ++ piece) n e in
    elim (cases_lt (length held) 5) [
      | inl lt ↦ omega (arith, l.is)
      | inr le ↦ omega (arith, l.is, size-more held piece le, within_end held w le)
    ]

-- part of a frame
pub fed-part : (held piece : List ℕ) (n : ℕ) → head_of (held ++ piece) ≡ Long n → length held + length piece < n → fed (Rest held) piece ≡ takes (length piece) (held ++ piece)
fed-part held piece n e lt = fed-partial held piece (front-part (held ++ piece) n e (omega (arith, length-append held piece)))

pub within-part : (held piece : List ℕ) (n : ℕ) → head_of (held ++ piece) ≡ Long n → length held + length piece < n → IsWithin (held ++ piece)
within-part held piece n e lt = within-partial (held ++ piece) (front-part (held ++ piece) n e (omega (arith, length-append held piece)))

-- the end of a frame: k bytes of the piece complete it
regrouped : (held piece : List ℕ) (k : ℕ) → (held ++ take k piece) ++ drop k piece ≡ held ++ piece
regrouped held piece k = append_assoc held (take k piece) (drop k piece) ∙ ap (λ (ys : List ℕ). held ++ ys) (take-append-drop k piece)

length-grown : (held piece : List ℕ) (k : ℕ) → k ≤ length piece → length (held ++ take k piece) ≡ length held + k
length-grown held piece k h = omega (arith, length-append held (take k piece), length-take k piece)

pub head-grown : (held piece : List ℕ) (n k : ℕ) → head_of (held ++ piece) ≡ Long n → k ≤ length piece → length held + k ≡ n → head_of (held ++ take k piece) ≡ Long (length (held ++ take k piece))
head-grown held piece n k e h s =
    let x = held ++ take k piece in
    let l = head-long (held ++ piece) n e in
    let len : length (held ++ take k piece) ≡ n = length-grown held piece k h ∙ s in
    let whole : head_of ((held ++ take k piece) ++ drop k piece) ≡ Long n = ap head_of (regrouped held piece k) ∙ e in
    elim (head-more (held ++ take k piece) (drop k piece)) [
      | inl short ↦ absurd (head-not_short (held ++ take k piece) (omega (arith, l.is)) short)
      | inr same ↦ sym same ∙ whole ∙ ap Long (sym len)
    ]

pub fed-right : (held piece : List ℕ) (k : ℕ) (m : Frame) → k ≤ length piece → front_of (held ++ take k piece) ≡ Whole m (length (held ++ take k piece)) → fed (Rest held) piece ≡ takes k (held ++ take k piece)
fed-right held piece k m h e =
    let x = held ++ take k piece in
    let len = length-grown held piece k h in
    let whole : front_of (held ++ piece) ≡ Whole m (length (held ++ take k piece)) = ap front_of (sym (regrouped held piece k)) ∙ front-whole_more (held ++ take k piece) (drop k piece) m _ e in
    let count : length (held ++ take k piece) - length held ≡ k = omega arith in
    let front : take (length (held ++ take k piece)) (held ++ piece) ≡ held ++ take k piece = ap (λ (zs : List ℕ). take (length (held ++ take k piece)) zs) (sym (regrouped held piece k)) ∙ take_at (held ++ take k piece) (drop k piece) _ refl in
    ap (λ (F : Front). fed_by F held piece) whole ∙ rw (count, front) refl

pub fed-bad : (held piece : List ℕ) (k : ℕ) (f : FrameFault) → front_of (held ++ take k piece) ≡ Faulty f → fed (Rest held) piece ≡ fails f
fed-bad held piece k f e =
    let bad : front_of (held ++ piece) ≡ Faulty f = ap front_of (sym (regrouped held piece k)) ∙ front-faulty_more (held ++ take k piece) (drop k piece) f e in
    ap (λ (F : Front). fed_by F held piece) bad

pub not_partial : (x : List ℕ) (n : ℕ) → head_of x ≡ Long n → n ≤ length x → front_of x ≡ Partial → ⊥
unfolding front_of
not_partial x n e le p =
    elim (cases_Bool (bytes_eq (stated_of x) (found_of x))) [
      | inl same ↦ let k : front_by (head_of x) x ≡ Whole (frame_of x) n = rw (e, le-ltb (length x) n le, same) refl in cc
      | inr other ↦ let k : front_by (head_of x) x ≡ Faulty (BadDigest (stated_of x) (found_of x)) = rw (e, le-ltb (length x) n le, other) refl in cc
    ]

-- a whole frame stands already
stands_by : (held piece : List ℕ) (n : ℕ) (F : Front) → front_of held ≡ F → IsWithinBy F (length held) → head_of (held ++ piece) ≡ Long n → n ≤ length held → fed (Rest held) piece ≡ takes 0 held
stands_by held piece n (Faulty f) e w h le = absurd w
stands_by held piece n (Whole m k) e w h le =
    let whole : front_of (held ++ []) ≡ Whole m (length (held ++ [])) = rw append-nil (e ∙ ap (Whole m) (sym w)) in
    let none : held ++ [] ≡ held = append-nil held in
    fed-right held piece 0 m (omega arith) whole ∙ ap (takes 0) none
stands_by held piece n Partial e w h le =
    let l = head-long (held ++ piece) n h in
    let five : 5 ≤ length held = omega (arith, l.is) in
    elim (head-more held piece) [
      | inl short ↦ absurd (head-not_short held five short)
      | inr same ↦ absurd (not_partial held n (sym same ∙ h) le e)
    ]

pub fed-stands : (held piece : List ℕ) (n : ℕ) → IsWithin held → head_of (held ++ piece) ≡ Long n → n ≤ length held → fed (Rest held) piece ≡ takes 0 held
fed-stands held piece n w h le = stands_by held piece n (front_of held) refl w h le

pub front_nil : front_of [] ≡ Partial
unfolding front_of head_of
front_nil = refl
