-- The laws of the frames of a stream.
use Rattle.std.proofs.Common.{true, false, ◌^◌, ◌∷◌, ◌≡◌, ℕ, zero, suc, ◌<◌, ◌≤◌, List, [], ◌++◌, length, drop, refl, sym, ap, subst, ◌∙◌, arith}
use Rattle.std.specs.Int.{w32, to_be_bytes}
use Rattle.std.proofs.lemmas.List.{append-nil, length-drop}
use Rattle.std.proofs.lemmas.Nat.{from_be_bytes-to_be_bytes_4}
use Rattle.cc_meaning.specs.declared.fault.FrameFault.TheVariants.{BadKind, TooLong}
use Rattle.cc_meaning_nodes.specs.Frames.{size_of, is_kind, spelling, head_of, Front, Partial, Whole, Faulty, front_of, Ending, Rest, Fails, Frames, ends, with_frame, frames_of, frames_from, IsPartial}
use Rattle.cc_meaning_nodes.specs.FrameLaws.{IsKnownEarly, NothingMore, BeginsWithWhole, EndsPartly, IsReadAlone}
use Rattle.cc_meaning_nodes.proofs.Fronts.{front-bad_kind, front-too_long, front-whole, front-not_memory, front-is_frame}
use Rattle.cc_meaning_nodes.proofs.Streams.{frames-partial, frames-whole, frames-faulty, whole_size}
use Rattle.cc_meaning_nodes.proofs.Spelled.{frames-spelling}

front-nil : front_of [] ≡ Partial
unfolding front_of head_of
front-nil = refl

nothing_from : (e : Ending) → IsPartial e → frames_from e [] ≡ ends e
nothing_from (Rest held) p = ap frames_of (append-nil held) ∙ frames-partial held p
nothing_from (Fails f) p = refl

pub nothing_more : NothingMore
nothing_more = (front-nil, frames-partial [] front-nil, nothing_from)

pub begins_with_whole : BeginsWithWhole
begins_with_whole x y m n e = (front-is_frame x m n e, (front-whole x m n e).fits, frames-whole x y m n e)

partial_by : (k : ℕ) (x : List ℕ) (F : Front) → length x ≤ k → front_of x ≡ F → ((z : List ℕ) → length z < k → IsPartial (frames_of z).ending) → IsPartial (frames_of x).ending
partial_by k x Partial b e ih = subst (λ (fs : Frames). IsPartial fs.ending) (sym (frames-partial x e)) e
partial_by k x (Faulty f) b e ih =
    let alone : frames_of x ≡ ends (Fails f) = ap frames_of (sym (append-nil x)) ∙ frames-faulty x [] f e in
    subst (λ (fs : Frames). IsPartial fs.ending) (sym alone) (front-not_memory x f e)
partial_by k x (Whole m n) b e ih =
    let w = front-whole x m n e in
    let size = whole_size x m n e in
    let alone : frames_of x ≡ with_frame m (frames_of (drop n x)) = ap frames_of (sym (append-nil x)) ∙ frames-whole x [] m n e ∙ ap (λ (zs : List ℕ). with_frame m (frames_of zs)) (append-nil (drop n x)) in
    subst (λ (fs : Frames). IsPartial fs.ending) (sym alone) (ih (drop n x) (omega (arith, length-drop n x, w.fits)))

partial_below : (k : ℕ) (x : List ℕ) → length x < k → IsPartial (frames_of x).ending
partial_below zero x b = absurd (omega arith)
partial_below (suc k) x b = partial_by k x (front_of x) (omega arith) refl (λ z lt. partial_below k z lt)

pub ends_partly : EndsPartly
ends_partly (Rest held) x p = partial_below (suc (length (held ++ x))) (held ++ x) (omega arith)
ends_partly (Fails f) x p = p

pub is_read_alone : IsReadAlone
is_read_alone m h = ap frames_of (sym (append-nil (spelling m))) ∙ frames-spelling m [] h ∙ ap (with_frame m) (frames-partial [] front-nil)

known_kind : (kind : ℕ) (more : List ℕ) → is_kind kind ≡ false → front_of (kind ∷ more) ≡ Faulty BadKind
known_kind kind more bad = front-bad_kind (kind ∷ more) (omega arith) bad

known_length : (kind size : ℕ) (more : List ℕ) → is_kind kind ≡ true → 67108864 < size → size < 2 ^ 32 → front_of (kind ∷ to_be_bytes w32 size ++ more) ≡ Faulty TooLong
known_length kind size more good big fits =
    let size-is : size_of (kind ∷ to_be_bytes w32 size ++ more) ≡ size = from_be_bytes-to_be_bytes_4 size fits in
    front-too_long (kind ∷ to_be_bytes w32 size ++ more) (omega arith) good (omega arith)

pub is_known_early : IsKnownEarly
is_known_early = (known_kind, known_length)
