-- What stands at the front stays, whatever follows.
use Rattle.std.proofs.Common.{◌≡◌, ◌⊎◌, ℕ, ◌+◌, ◌<◌, ◌≤◌, true, false, cond, ltb, List, ◌++◌, length, get_or, take, drop, refl, sym, ap, subst, ◌∙◌, inl, inr, arith}
use Rattle.std.specs.Str.{bytes_eq}
use Rattle.sha1.specs.Sha1.{sha1}
use Rattle.std.proofs.lemmas.Bool.{cases_lt, cases_Bool, and_parts, lt-ltb, le-ltb, ltb-true, ltb-false}
use Rattle.std.proofs.lemmas.List.{get_or_append_left, length-append, length-drop, length-take, take-append-le, drop-append-le, take-append-drop, take_all}
use Rattle.cc_meaning.specs.declared.fault.FrameFault.{FrameFault}
use Rattle.cc_meaning.specs.declared.fault.FrameFault.TheVariants.{BadKind, TooLong, BadDigest, Memory}
use Rattle.cc_meaning_nodes.specs.declared.head.Head.{Head}
use Rattle.cc_meaning_nodes.specs.declared.head.Head.TheVariants.{Short, Wrong, Long}
use Rattle.cc_meaning.specs.declared.frame.Frame.{Frame}
use Rattle.cc_meaning_nodes.specs.Frames.{IsFrame, size_of, payload_of, frame_of, stated_of, found_of, is_kind, head_of, Partial, Whole, Faulty, front_by, front_of}

pub size-more : (x y : List ℕ) → 5 ≤ length x → size_of (x ++ y) ≡ size_of x
size-more x y h = rw (get_or_append_left x y 0 1 (omega arith), get_or_append_left x y 0 2 (omega arith), get_or_append_left x y 0 3 (omega arith), get_or_append_left x y 0 4 (omega arith)) refl

-- the head from five bytes on
pub head-five : (x : List ℕ) → 5 ≤ length x → head_of x ≡ cond (is_kind (get_or x 0 0)) (cond (ltb 67108864 (size_of x)) (Wrong TooLong) (Long (25 + size_of x))) (Wrong BadKind)
unfolding head_of
head-five x h = rw (le-ltb (length x) 1 (omega arith), le-ltb (length x) 5 h) refl

-- the head is all there, or stays open, or is wrong from its first byte on
pub head-more : (x y : List ℕ) → (head_of x ≡ Short) ⊎ (head_of (x ++ y) ≡ head_of x)
unfolding head_of
head-more x y =
    elim (cases_lt (length x) 5) [
      | inr long ↦ inr (head-five (x ++ y) (omega (arith, length-append x y)) ∙ rw (size-more x y long, get_or_append_left x y 0 0 (omega arith)) (sym (head-five x long)))
      | inl short ↦ elim (cases_lt (length x) 1) [
        | inl none ↦ inl (rw (lt-ltb (length x) 1 none) refl)
        | inr some ↦ elim (cases_Bool (is_kind (get_or x 0 0))) [
          | inl good ↦ inl (rw (le-ltb (length x) 1 some, good, lt-ltb (length x) 5 short) refl)
          | inr bad ↦ inr (rw (le-ltb (length x) 1 some, le-ltb (length (x ++ y)) 1 (omega (arith, length-append x y)), get_or_append_left x y 0 0 (omega arith), bad) refl)
        ]
      ]
    ]

pub head-not_short : (x : List ℕ) → 5 ≤ length x → head_of x ≡ Short → ⊥
head-not_short x h e =
    elim (cases_Bool (is_kind (get_or x 0 0))) [
      | inl good ↦ elim (cases_Bool (ltb 67108864 (size_of x))) [
        | inl big ↦ let k : head_of x ≡ Wrong TooLong = head-five x h ∙ rw (good, big) refl in cc
        | inr fits ↦ let k : head_of x ≡ Long (25 + size_of x) = head-five x h ∙ rw (good, fits) refl in cc
      ]
      | inr bad ↦ let k : head_of x ≡ Wrong BadKind = head-five x h ∙ rw bad refl in cc
    ]

-- what a whole head says
pub record IsLong (x : List ℕ) (n : ℕ) : Type 0 where
  pub five : 5 ≤ length x
  pub is : n ≡ 25 + size_of x
  pub fits : size_of x ≤ 67108864
  pub kind : is_kind (get_or x 0 0) ≡ true

pub head-long : (x : List ℕ) (n : ℕ) → head_of x ≡ Long n → IsLong x n
unfolding head_of
head-long x n e =
    elim (cases_lt (length x) 5) [
      | inr long ↦ elim (cases_Bool (is_kind (get_or x 0 0))) [
        | inl good ↦ elim (cases_Bool (ltb 67108864 (size_of x))) [
          | inl big ↦ let k : head_of x ≡ Wrong TooLong = head-five x long ∙ rw (good, big) refl in absurd cc
          | inr fits ↦ let k : head_of x ≡ Long (25 + size_of x) = head-five x long ∙ rw (good, fits) refl in record { five = long; is = cc; fits = ltb-false _ _ fits; kind = good }
        ]
        | inr bad ↦ let k : head_of x ≡ Wrong BadKind = head-five x long ∙ rw bad refl in absurd cc
      ]
      | inl short ↦ elim (cases_lt (length x) 1) [
        | inl none ↦ let k : head_of x ≡ Short = rw (lt-ltb (length x) 1 none) refl in absurd cc
        | inr some ↦ elim (cases_Bool (is_kind (get_or x 0 0))) [
          | inl good ↦ let k : head_of x ≡ Short = rw (le-ltb (length x) 1 some, good, lt-ltb (length x) 5 short) refl in absurd cc
          | inr bad ↦ let k : head_of x ≡ Wrong BadKind = rw (le-ltb (length x) 1 some, bad) refl in absurd cc
        ]
      ]
    ]

-- ---- the front

-- the parts of a frame that is all there
payload-more : (x y : List ℕ) → 25 + size_of x ≤ length x → payload_of (x ++ y) ≡ payload_of x
payload-more x y h =
    ap (λ (n : ℕ). take n (drop 25 (x ++ y))) (size-more x y (omega arith))
    ∙ ap (λ (zs : List ℕ). take (size_of x) zs) (drop-append-le 25 x y (omega arith))
    ∙ take-append-le (size_of x) (drop 25 x) y (omega (arith, length-drop 25 x))

stated-more : (x y : List ℕ) → 25 ≤ length x → stated_of (x ++ y) ≡ stated_of x
stated-more x y h = ap (λ (zs : List ℕ). take 20 zs) (drop-append-le 5 x y (omega arith)) ∙ take-append-le 20 (drop 5 x) y (omega (arith, length-drop 5 x))

found-more : (x y : List ℕ) → 25 + size_of x ≤ length x → found_of (x ++ y) ≡ found_of x
found-more x y h = rw (payload-more x y h, take-append-le 5 x y (omega arith)) refl

message-more : (x y : List ℕ) → 25 + size_of x ≤ length x → frame_of (x ++ y) ≡ frame_of x
message-more x y h = rw (payload-more x y h, get_or_append_left x y 0 0 (omega arith)) refl

front-more_by : (x y : List ℕ) (h : Head) → head_of x ≡ h → head_of (x ++ y) ≡ h → (front_by h x ≡ Partial) ⊎ (front_by h (x ++ y) ≡ front_by h x)
front-more_by x y Short e d = inl refl
front-more_by x y (Wrong f) e d = inr refl
front-more_by x y (Long n) e d =
    let l = head-long x n e in
    elim (cases_lt (length x) n) [
      | inl lt ↦ inl (rw (lt-ltb (length x) n lt) refl)
      | inr le ↦
          let long : 25 + size_of x ≤ length x = omega (arith, l.is) in
          inr (rw (le-ltb (length x) n le, le-ltb (length (x ++ y)) n (omega (arith, length-append x y)), stated-more x y (omega arith), found-more x y long, message-more x y long) refl)
    ]

-- a frame or a fault at the front stays, whatever follows
pub front-more : (x y : List ℕ) → (front_of x ≡ Partial) ⊎ (front_of (x ++ y) ≡ front_of x)
unfolding front_of
front-more x y =
    elim (head-more x y) [
      | inl short ↦ inl (rw short refl)
      | inr same ↦ rw same (front-more_by x y (head_of x) refl same)
    ]

pub front-whole_more : (x y : List ℕ) (m : Frame) (n : ℕ) → front_of x ≡ Whole m n → front_of (x ++ y) ≡ Whole m n
front-whole_more x y m n e = elim (front-more x y) [ inl p ↦ absurd cc | inr same ↦ same ∙ e ]

pub front-faulty_more : (x y : List ℕ) (f : FrameFault) → front_of x ≡ Faulty f → front_of (x ++ y) ≡ Faulty f
front-faulty_more x y f e = elim (front-more x y) [ inl p ↦ absurd cc | inr same ↦ same ∙ e ]

-- ---- what a whole frame at the front says

pub record IsWhole (x : List ℕ) (m : Frame) (n : ℕ) : Type 0 where
  pub head_is : head_of x ≡ Long n
  pub fits : n ≤ length x
  pub frame_is : m ≡ frame_of x
  pub digest : bytes_eq (stated_of x) (found_of x) ≡ true

front-whole_by : (x : List ℕ) (m : Frame) (n : ℕ) (h : Head) → head_of x ≡ h → front_by h x ≡ Whole m n → IsWhole x m n
front-whole_by x m n Short e w = absurd cc
front-whole_by x m n (Wrong f) e w = absurd cc
front-whole_by x m n (Long k) e w =
    elim (cases_lt (length x) k) [
      | inl lt ↦ let p : front_by (Long k) x ≡ Partial = rw (lt-ltb (length x) k lt) refl in absurd cc
      | inr le ↦ elim (cases_Bool (bytes_eq (stated_of x) (found_of x))) [
        | inl same ↦
            let p : front_by (Long k) x ≡ Whole (frame_of x) k = rw (le-ltb (length x) k le, same) refl in
            let both : Whole (frame_of x) k ≡ Whole m n = sym p ∙ w in
            let size : k ≡ n = cc in
            record { head_is = e ∙ ap Long size; fits = omega arith; frame_is = cc; digest = same }
        | inr other ↦ let p : front_by (Long k) x ≡ Faulty (BadDigest (stated_of x) (found_of x)) = rw (le-ltb (length x) k le, other) refl in absurd cc
      ]
    ]

pub front-whole : (x : List ℕ) (m : Frame) (n : ℕ) → front_of x ≡ Whole m n → IsWhole x m n
unfolding front_of
front-whole x m n w = front-whole_by x m n (head_of x) refl w

-- ---- a frame that is all there

pub payload-all : (x : List ℕ) → head_of x ≡ Long (length x) → payload_of x ≡ drop 25 x
payload-all x e = let l = head-long x (length x) e in take_all (size_of x) (drop 25 x) (omega (arith, length-drop 25 x, l.is))

front-all : (x : List ℕ) → head_of x ≡ Long (length x) → front_of x ≡ cond (bytes_eq (stated_of x) (sha1 (take 5 x ++ drop 25 x))) (Whole (frame_of x) (length x)) (Faulty (BadDigest (stated_of x) (sha1 (take 5 x ++ drop 25 x))))
unfolding front_of
front-all x e = rw (e, le-ltb (length x) (length x) (omega arith), payload-all x e) refl

pub front-right : (x stated found : List ℕ) → head_of x ≡ Long (length x) → stated ≡ stated_of x → found ≡ sha1 (take 5 x ++ drop 25 x) → bytes_eq stated found ≡ true → front_of x ≡ Whole (frame_of x) (length x)
front-right x stated found e s f t = front-all x e ∙ rw (← s, ← f, t) refl

pub front-wrong : (x stated found : List ℕ) → head_of x ≡ Long (length x) → stated ≡ stated_of x → found ≡ sha1 (take 5 x ++ drop 25 x) → bytes_eq stated found ≡ false → front_of x ≡ Faulty (BadDigest stated found)
front-wrong x stated found e s f t = front-all x e ∙ rw (← s, ← f, t) refl

-- ---- bytes that do not go past the frame

pub open_end : (x : List ℕ) (h : Head) → head_of x ≡ h → 5 ≤ length x → front_of x ≡ Partial → length x < 25 + size_of x
unfolding front_of
open_end x Short e five p = absurd (head-not_short x five e)
open_end x (Wrong f) e five p = let k : front_by (head_of x) x ≡ Faulty f = ap (λ (h : Head). front_by h x) e in absurd cc
open_end x (Long n) e five p =
    elim (cases_lt (length x) n) [
      | inl lt ↦ let l = head-long x n e in omega (arith, l.is)
      | inr le ↦ elim (cases_Bool (bytes_eq (stated_of x) (found_of x))) [
        | inl same ↦ let k : front_by (head_of x) x ≡ Whole (frame_of x) n = rw (e, le-ltb (length x) n le, same) refl in absurd cc
        | inr other ↦ let k : front_by (head_of x) x ≡ Faulty (BadDigest (stated_of x) (found_of x)) = rw (e, le-ltb (length x) n le, other) refl in absurd cc
      ]
    ]

pub record IsWholeBytes (x : List ℕ) : Type 0 where
  pub long : 25 ≤ length x
  pub low : 1 ≤ get_or x 0 0
  pub high : get_or x 0 0 ≤ 5
  pub payload : payload_of x ≡ drop 25 x
  pub short : length (payload_of x) ≤ 67108864

kind_low : (k : ℕ) → is_kind k ≡ true → (1 ≤ k) × (k ≤ 5)
kind_low k e = let p = and_parts (ltb 0 k) (ltb k 6) e in (omega (arith, ltb-true 0 k p.0), omega (arith, ltb-true k 6 p.1))

pub whole_bytes : (x : List ℕ) (m : Frame) → front_of x ≡ Whole m (length x) → IsWholeBytes x
whole_bytes x m e =
    let w = front-whole x m (length x) e in
    let l = head-long x (length x) w.head_is in
    let k = kind_low (get_or x 0 0) l.kind in
    record { long = omega (arith, l.is); low = k.0; high = k.1; payload = payload-all x w.head_is; short = omega (arith, length-take (size_of x) (drop 25 x), l.fits) }

-- a whole frame alone
pub front-alone : (x : List ℕ) (m : Frame) (n : ℕ) → front_of x ≡ Whole m n → front_of (take n x) ≡ Whole m n
front-alone x m n e =
    let w = front-whole x m n e in
    let l = head-long x n w.head_is in
    let len : length (take n x) ≡ n = omega (arith, length-take n x, w.fits) in
    let whole : front_of (take n x ++ drop n x) ≡ Whole m n = ap front_of (take-append-drop n x) ∙ e in
    let long : head_of (take n x ++ drop n x) ≡ Long n = ap head_of (take-append-drop n x) ∙ w.head_is in
    elim (head-more (take n x) (drop n x)) [
      | inl short ↦ absurd (head-not_short (take n x) (omega (arith, l.is)) short)
      | inr same ↦ elim (front-more (take n x) (drop n x)) [
        | inl partial ↦ absurd (let k = open_end (take n x) (head_of (take n x)) refl (omega (arith, l.is)) partial in let i = head-long (take n x) n (sym same ∙ long) in omega (arith, i.is, k, len))
        | inr as_is ↦ sym as_is ∙ whole
      ]
    ]

-- ---- less than a frame

pub open_fits : (x : List ℕ) (h : Head) → head_of x ≡ h → 5 ≤ length x → front_of x ≡ Partial → size_of x ≤ 67108864
unfolding front_of
open_fits x Short e five p = absurd (head-not_short x five e)
open_fits x (Wrong f) e five p = let k : front_by (head_of x) x ≡ Faulty f = ap (λ (h : Head). front_by h x) e in absurd cc
open_fits x (Long n) e five p = (head-long x n e).fits

-- less than a frame is less than the longest
pub partial_below : (x : List ℕ) → front_of x ≡ Partial → length x < 67108889
partial_below x p =
    elim (cases_lt (length x) 5) [
      | inl lt ↦ omega arith
      | inr le ↦ omega (arith, open_end x (head_of x) refl le p, open_fits x (head_of x) refl le p)
    ]

-- ---- want of memory is no fault of the bytes

head-not_memory : (x : List ℕ) → head_of x ≡ Wrong Memory → ⊥
unfolding head_of
head-not_memory x e =
    elim (cases_lt (length x) 5) [
      | inr long ↦ elim (cases_Bool (is_kind (get_or x 0 0))) [
        | inl good ↦ elim (cases_Bool (ltb 67108864 (size_of x))) [
          | inl big ↦ let k : head_of x ≡ Wrong TooLong = head-five x long ∙ rw (good, big) refl in cc
          | inr fits ↦ let k : head_of x ≡ Long (25 + size_of x) = head-five x long ∙ rw (good, fits) refl in cc
        ]
        | inr bad ↦ let k : head_of x ≡ Wrong BadKind = head-five x long ∙ rw bad refl in cc
      ]
      | inl short ↦ elim (cases_lt (length x) 1) [
        | inl none ↦ let k : head_of x ≡ Short = rw (lt-ltb (length x) 1 none) refl in cc
        | inr some ↦ elim (cases_Bool (is_kind (get_or x 0 0))) [
          | inl good ↦ let k : head_of x ≡ Short = rw (le-ltb (length x) 1 some, good, lt-ltb (length x) 5 short) refl in cc
          | inr bad ↦ let k : head_of x ≡ Wrong BadKind = rw (le-ltb (length x) 1 some, bad) refl in cc
        ]
      ]
    ]

front-not_memory_by : (x : List ℕ) (h : Head) → head_of x ≡ h → front_by h x ≡ Faulty Memory → ⊥
front-not_memory_by x Short e w = cc
front-not_memory_by x (Wrong f) e w = let f-is : f ≡ Memory = cc in head-not_memory x (e ∙ ap Wrong f-is)
front-not_memory_by x (Long n) e w =
    elim (cases_lt (length x) n) [
      | inl lt ↦ let k : front_by (Long n) x ≡ Partial = rw (lt-ltb (length x) n lt) refl in cc
      | inr le ↦ elim (cases_Bool (bytes_eq (stated_of x) (found_of x))) [
        | inl same ↦ let k : front_by (Long n) x ≡ Whole (frame_of x) n = rw (le-ltb (length x) n le, same) refl in cc
        | inr other ↦ let k : front_by (Long n) x ≡ Faulty (BadDigest (stated_of x) (found_of x)) = rw (le-ltb (length x) n le, other) refl in cc
      ]
    ]

pub front-not_memory : (x : List ℕ) (f : FrameFault) → front_of x ≡ Faulty f → f ≡ Memory → ⊥
unfolding front_of
front-not_memory x f e m = front-not_memory_by x (head_of x) refl (e ∙ ap Faulty m)

-- a frame that stands whole is one
pub front-is_frame : (x : List ℕ) (m : Frame) (n : ℕ) → front_of x ≡ Whole m n → IsFrame m
front-is_frame x m n e =
    let w = front-whole x m n e in
    let l = head-long x n w.head_is in
    let k = kind_low (get_or x 0 0) l.kind in
    subst IsFrame (sym w.frame_is) (record { low = k.0; high = k.1; short = omega (arith, length-take (size_of x) (drop 25 x), l.fits) })

-- ---- what is known early

pub front-bad_kind : (x : List ℕ) → 1 ≤ length x → is_kind (get_or x 0 0) ≡ false → front_of x ≡ Faulty BadKind
unfolding front_of head_of
front-bad_kind x some bad = rw (le-ltb (length x) 1 some, bad) refl

pub front-too_long : (x : List ℕ) → 5 ≤ length x → is_kind (get_or x 0 0) ≡ true → 67108864 < size_of x → front_of x ≡ Faulty TooLong
unfolding front_of
front-too_long x five good big =
    let h : head_of x ≡ Wrong TooLong = head-five x five ∙ rw (good, lt-ltb 67108864 (size_of x) big) refl in
    ap (λ (h : Head). front_by h x) h
