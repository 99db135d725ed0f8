-- What is wanted of a frame.
use Rattle.std.proofs.Common.{◌≡◌, ◌⊎◌, ℕ, ◌+◌, ◌-◌, ◌<◌, ◌≤◌, Bool, cond, List, ◌++◌, length, refl, sym, ap, subst, ◌∙◌, inl, inr, arith}
use Rattle.std.proofs.lemmas.Bool.{cases_lt, lt-ltb, le-ltb}
use Rattle.std.proofs.lemmas.List.{length-append}
use Rattle.cc_meaning.specs.declared.frame.Frame.{Frame}
use Rattle.cc_meaning_nodes.specs.Frames.{size_of, frame_of, head_of, Front, Partial, Whole, Faulty, front_of}
use Rattle.cc_framing.specs.Reader.{IsWithinBy, IsWithin, wanted_in}
use Rattle.cc_meaning_nodes.proofs.Fronts.{size-more, head-long, front-whole, open_end, open_fits, partial_below}

within_by : (x : List ℕ) (F : Front) → front_of x ≡ F → IsWithinBy F (length x) → 5 ≤ length x → length x ≤ 25 + size_of x
within_by x (Whole m n) e w five = let l = head-long x n (front-whole x m n e).head_is in omega (arith, l.is)
within_by x (Faulty f) e w five = absurd w
within_by x Partial e w five = omega (arith, open_end x (head_of x) refl five e)

pub within_end : (x : List ℕ) → IsWithin x → 5 ≤ length x → length x ≤ 25 + size_of x
within_end x w five = within_by x (front_of x) refl w five

-- ---- whole or not, of bytes that do not go past the frame

whole_by : (x : List ℕ) (F : Front) → front_of x ≡ F → IsWithinBy F (length x) → ((front_of x ≡ Whole (frame_of x) (length x)) × (25 ≤ length x) × (25 + size_of x ≡ length x)) ⊎ ((front_of x ≡ Partial) × (5 ≤ length x → length x < 25 + size_of x))
whole_by x (Faulty f) e w = absurd w
whole_by x Partial e w = inr (e, λ five. open_end x (head_of x) refl five e)
whole_by x (Whole m n) e w =
    let p = front-whole x m n e in
    let l = head-long x n p.head_is in
    inl (e ∙ (ap (λ (k : ℕ). Whole m k) (sym w) ∙ ap (λ (k : Frame). Whole k (length x)) p.frame_is), omega (arith, l.is), omega (arith, l.is))

pub whole_or_part : (x : List ℕ) → IsWithin x → ((front_of x ≡ Whole (frame_of x) (length x)) × (25 ≤ length x) × (25 + size_of x ≡ length x)) ⊎ ((front_of x ≡ Partial) × (5 ≤ length x → length x < 25 + size_of x))
whole_or_part x w = whole_by x (front_of x) refl w

-- and wants more
pub partial_wants : (x : List ℕ) → front_of x ≡ Partial → 0 < wanted_in x
partial_wants x p =
    elim (cases_lt (length x) 5) [
      | inl lt ↦ rw (lt-ltb (length x) 5 lt) (omega arith)
      | inr le ↦ rw (le-ltb (length x) 5 le) (omega (arith, open_end x (head_of x) refl le p))
    ]

-- what is wanted does not go past the frame
pub wanted_fits : (held piece : List ℕ) (m : Frame) (n : ℕ) → front_of held ≡ Partial → length piece ≤ wanted_in held → front_of (held ++ piece) ≡ Whole m n → length (held ++ piece) ≤ n
wanted_fits held piece m n p w e =
    let l = head-long (held ++ piece) n (front-whole (held ++ piece) m n e).head_is in
    elim (cases_lt (length held) 5) [
      | inl lt ↦
          let few : length piece ≤ 25 - length held = subst (λ (k : ℕ). length piece ≤ k) (ap (λ (b : Bool). cond b (25 - length held) ((25 + size_of held) - length held)) (lt-ltb (length held) 5 lt)) w in
          omega (arith, l.is, length-append held piece)
      | inr le ↦
          let few : length piece ≤ (25 + size_of held) - length held = subst (λ (k : ℕ). length piece ≤ k) (ap (λ (b : Bool). cond b (25 - length held) ((25 + size_of held) - length held)) (le-ltb (length held) 5 le)) w in
          omega (arith, l.is, length-append held piece, size-more held piece le, open_end held (head_of held) refl le p)
    ]

-- bytes that do not go past the frame are no more than the longest has
short_by : (x : List ℕ) (F : Front) → front_of x ≡ F → IsWithinBy F (length x) → length x ≤ 67108889
short_by x (Faulty f) e w = absurd w
short_by x Partial e w = omega (arith, partial_below x e)
short_by x (Whole m n) e w = let l = head-long x n (front-whole x m n e).head_is in omega (arith, l.is, l.fits)

pub within_short : (x : List ℕ) → IsWithin x → length x ≤ 67108889
within_short x w = short_by x (front_of x) refl w

-- what is there and what is wanted are no more than the longest frame
fits_by : (x : List ℕ) (F : Front) → front_of x ≡ F → IsWithinBy F (length x) → 5 ≤ length x → 25 + size_of x ≤ 67108889
fits_by x (Faulty f) e w five = absurd w
fits_by x Partial e w five = omega (arith, open_fits x (head_of x) refl five e)
fits_by x (Whole m n) e w five = let l = head-long x n (front-whole x m n e).head_is in omega (arith, l.fits)

pub wanted_short : (x : List ℕ) → IsWithin x → length x + wanted_in x ≤ 67108889
wanted_short x w =
    elim (cases_lt (length x) 5) [
      | inl lt ↦ rw (lt-ltb (length x) 5 lt) (omega arith)
      | inr le ↦ rw (le-ltb (length x) 5 le) (omega (arith, fits_by x (front_of x) refl w le, within_end x w le))
    ]
