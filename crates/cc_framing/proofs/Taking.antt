-- What a reader that has no fault stands for, and what is taken from it.
use Rattle.std.proofs.Common.{◌≡◌, ℕ, true, false, List, length, drop, slice_index, Option, Some, None, sym, ap, subst, ◌∙◌, inl, inr, arith}
use Rattle.std.specs.Prelude.{is_some, IsSome}
use Rattle.std.proofs.lemmas.Bool.{le-ltb}
use Rattle.cc_meaning.specs.declared.frame.Frame.{Frame}
use Rattle.cc_meaning.specs.declared.fault.FrameFault.{FrameFault}
use Rattle.cc_meaning_nodes.specs.Frames.{Whole, front_of, frame_of, payload_of, Ending, Rest}
use Rattle.cc_framing.specs.Reader.{ending_in, standing, whole_in, wanted_in, IsWithin, IsReading}
use Rattle.cc_meaning_nodes.proofs.Fronts.{whole_bytes}
use Rattle.cc_framing.proofs.Wanted.{whole_or_part}

pub open_is : (fault : Option FrameFault) (x : List ℕ) (e : Ending) → is_some fault ≡ false → ending_in fault x ≡ e → e ≡ Rest x
open_is None x e n v = sym v
open_is (Some f) x e n v = absurd cc

pub open_within : (fault : Option FrameFault) (x : List ℕ) → is_some fault ≡ false → IsReading (ending_in fault x) → IsWithin x
open_within None x n w = w
open_within (Some f) x n w = absurd cc

-- two readings of one place
pub held_is : (x held : List ℕ) (e : Ending) → e ≡ Rest x → e ≡ Rest held → x ≡ held
held_is x held e a b = let same : Rest x ≡ Rest held = sym a ∙ b in cc

frame_is : (x : List ℕ) (k : ℕ) (p : List ℕ) → front_of x ≡ Whole (frame_of x) (length x) → k ≡ slice_index x 0 → p ≡ drop 25 x → frame_of x ≡ record { kind = k; payload = p }
frame_is x k p w k-is p-is =
    let payload : payload_of x ≡ p = (whole_bytes x (frame_of x) w).payload ∙ sym p-is in
    ap (λ (q : List ℕ). record { kind = slice_index x 0; payload = q }) payload ∙ ap (λ (j : ℕ). record { kind = j; payload = p }) (sym k-is)

-- the frame that is taken is the one that stood
pub taken_is : (x : List ℕ) (e : Ending) (k : ℕ) (p : List ℕ) → e ≡ Rest x → front_of x ≡ Whole (frame_of x) (length x) → k ≡ slice_index x 0 → p ≡ drop 25 x → Some (record { kind = k; payload = p }) ≡ standing e
taken_is x e k p is w k-is p-is =
    let some : standing (Rest x) ≡ Some (frame_of x) = ap whole_in w in
    sym (ap standing is ∙ some ∙ ap (λ (f : Frame). Some f) (frame_is x k p w k-is p-is))

pub stood_is : (x held : List ℕ) (k : ℕ) (p : List ℕ) → x ≡ held → front_of x ≡ Whole (frame_of x) (length x) → k ≡ slice_index x 0 → p ≡ drop 25 x → front_of held ≡ Whole (record { kind = k; payload = p }) (length held)
stood_is x held k p same w k-is p-is =
    let front : front_of x ≡ Whole (record { kind = k; payload = p }) (length x) = w ∙ ap (λ (f : Frame). Whole f (length x)) (frame_is x k p w k-is p-is) in
    subst (λ (y : List ℕ). front_of y ≡ Whole (record { kind = k; payload = p }) (length y)) same front

-- nothing more is wanted of a frame that is whole
pub wanted_whole : (x : List ℕ) (e : Ending) → e ≡ Rest x → IsWithin x → IsSome (standing e) → wanted_in x ≡ 0
wanted_whole x e is w s =
    elim (whole_or_part x w) [
      | inl whole ↦
          let long = whole.1 in
          let end = whole.2 in
          rw (le-ltb (length x) 5 (omega arith)) (omega arith)
      | inr part ↦ let none : false ≡ true = subst IsSome (ap standing is ∙ ap whole_in part.0) s in absurd cc
    ]
