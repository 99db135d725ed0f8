-- What is spelled so is read, and what is read is spelled so.
use Rattle.std.proofs.Common.{◌≡◌, ℕ, zero, suc, ◌+◌, ◌<◌, ◌≤◌, true, ltb, List, [], ◌∷◌, ◌++◌, length, get_or, take, drop, refl, sym, ap, subst, ◌∙◌, arith, append_assoc, zero-add}
use Rattle.std.specs.Int.{w32, to_be_bytes}
use Rattle.std.specs.List.{flat_map, AllByRecursion}
use Rattle.sha1.specs.Sha1.{sha1, digest_bytes}
use Rattle.std.proofs.lemmas.Bool.{and_from, and_parts, lt-ltb, le-ltb, ltb-true}
use Rattle.std.proofs.lemmas.List.{length-append, length-take, length-drop, take_at, drop_at, append-nil, take-append-drop, drop_all, get_or-drop, drop-drop}
use Rattle.std.proofs.lemmas.Nat.{be_bytes_4, from_be_bytes-to_be_bytes_4}
use Rattle.std.proofs.lemmas.Slice.Eq.{bytes_eq-Decides}
use Rattle.cc_meaning_nodes.specs.declared.head.Head.TheVariants.{Long}
use Rattle.cc_meaning.specs.declared.frame.Frame.{Frame}
use Rattle.cc_meaning_nodes.specs.Frames.{ends, IsFrame, head, spelling, size_of, payload_of, frame_of, stated_of, found_of, is_kind, head_of, Front, Partial, Whole, Faulty, front_of, Ending, Rest, Fails, Frames, with_frame, frames_of}
use Rattle.cc_meaning_nodes.specs.FrameSpelling.{EndsSo, Spells, IsBytes}
use Rattle.cc_meaning_nodes.proofs.Fronts.{head-five, front-right, front-whole, head-long}
use Rattle.cc_meaning_nodes.proofs.Streams.{frames-whole, frames-partial, frames-faulty, whole_size}

pub length-sha1 : (m : List ℕ) → length (sha1 m) ≡ 20
unfolding sha1 digest_bytes
length-sha1 m = refl

length-spelling : (m : Frame) → length (spelling m) ≡ 25 + length m.payload
length-spelling m = omega (arith, length-append (sha1 (head m ++ m.payload)) m.payload, length-sha1 (head m ++ m.payload))

size-spelling : (m : Frame) → IsFrame m → size_of (spelling m) ≡ length m.payload
size-spelling m h = from_be_bytes-to_be_bytes_4 (length m.payload) (omega (arith, h.short))

head-spelling : (m : Frame) → IsFrame m → head_of (spelling m) ≡ Long (length (spelling m))
head-spelling m h =
    let kind : is_kind m.kind ≡ true = and_from (ltb 0 m.kind) (ltb m.kind 6) (lt-ltb 0 m.kind (omega (arith, h.low))) (lt-ltb m.kind 6 (omega (arith, h.high))) in
    head-five (spelling m) (omega (arith, length-spelling m))
    ∙ rw (kind, size-spelling m h, le-ltb 67108864 (length m.payload) h.short) (ap Long (sym (length-spelling m)))

pub front-spelling : (m : Frame) → IsFrame m → front_of (spelling m) ≡ Whole m (length (spelling m))
front-spelling m h =
    let digest = sha1 (head m ++ m.payload) in
    let rest : drop 25 (spelling m) ≡ m.payload = drop_at digest m.payload 20 (length-sha1 (head m ++ m.payload)) in
    let stated : digest ≡ stated_of (spelling m) = sym (take_at digest m.payload 20 (length-sha1 (head m ++ m.payload))) in
    let found : digest ≡ sha1 (take 5 (spelling m) ++ drop 25 (spelling m)) = ap (λ (ys : List ℕ). sha1 (head m ++ ys)) (sym rest) in
    let payload : payload_of (spelling m) ≡ m.payload = ap (λ (n : ℕ). take n (drop 25 (spelling m))) (size-spelling m h) ∙ ap (λ (ys : List ℕ). take (length m.payload) ys) (rest ∙ sym (append-nil m.payload)) ∙ take_at m.payload [] (length m.payload) refl in
    front-right (spelling m) digest digest (head-spelling m h) stated found ((bytes_eq-Decides digest digest).1 refl)
    ∙ ap (λ (ys : List ℕ). Whole (record { kind = m.kind; payload = ys }) (length (spelling m))) payload

-- a frame that is spelled is read, whatever follows
pub frames-spelling : (m : Frame) (more : List ℕ) → IsFrame m → frames_of (spelling m ++ more) ≡ with_frame m (frames_of more)
frames-spelling m more h =
    frames-whole (spelling m) more m (length (spelling m)) (front-spelling m h)
    ∙ ap (λ (zs : List ℕ). with_frame m (frames_of (zs ++ more))) (drop_all (length (spelling m)) (spelling m) (omega arith))

-- and the frames of several
pub frames-spellings : (ms : List Frame) (more : List ℕ) → AllByRecursion IsFrame ms → frames_of (flat_map spelling ms ++ more) ≡ record { frames = ms ++ (frames_of more).frames; ending = (frames_of more).ending }
frames-spellings [] more h = refl
frames-spellings (m ∷ ms) more h =
    ap frames_of (append_assoc (spelling m) (flat_map spelling ms) more)
    ∙ frames-spelling m (flat_map spelling ms ++ more) h.0
    ∙ ap (with_frame m) (frames-spellings ms more h.1)

-- ---- what is read is spelled so

IsBytes-drop : (n : ℕ) (bytes : List ℕ) → IsBytes bytes → IsBytes (drop n bytes)
IsBytes-drop n bytes h i = rw get_or-drop (h (n + i))

abbrev none : List ℕ
none = []

take_none : (b : ℕ) → take b none ≡ none
take_none zero = refl
take_none (suc b) = refl

take-more : (a b : ℕ) (xs : List ℕ) → take (a + b) xs ≡ take a xs ++ take b (drop a xs)
take-more zero b xs = ap (λ (k : ℕ). take k xs) (zero-add b)
take-more (suc a) b [] = let k : suc a + b ≡ suc (a + b) = omega arith in ap (λ (j : ℕ). take j []) k ∙ sym (take_none b)
take-more (suc a) b (x ∷ xs) = let k : suc a + b ≡ suc (a + b) = omega arith in ap (λ (j : ℕ). take j (x ∷ xs)) k ∙ ap (λ (ys : List ℕ). x ∷ ys) (take-more a b xs)

cells_fit : (x : List ℕ) → IsBytes x → IsBytes (get_or x 1 0 ∷ get_or x 2 0 ∷ get_or x 3 0 ∷ get_or x 4 0 ∷ [])
cells_fit x h zero = h 1
cells_fit x h (suc zero) = h 2
cells_fit x h (suc (suc zero)) = h 3
cells_fit x h (suc (suc (suc zero))) = h 4
cells_fit x h (suc (suc (suc (suc i)))) = omega arith

-- five cells
five-cells : (x : List ℕ) → 5 ≤ length x → take 5 x ≡ get_or x 0 0 ∷ (get_or x 1 0 ∷ get_or x 2 0 ∷ get_or x 3 0 ∷ get_or x 4 0 ∷ [])
five-cells [] h = absurd (omega arith)
five-cells (a ∷ []) h = absurd (omega arith)
five-cells (a ∷ b ∷ []) h = absurd (omega arith)
five-cells (a ∷ b ∷ c ∷ []) h = absurd (omega arith)
five-cells (a ∷ b ∷ c ∷ d ∷ []) h = absurd (omega arith)
five-cells (a ∷ b ∷ c ∷ d ∷ e ∷ x) h = refl

size-cells : (x : List ℕ) → IsBytes x → to_be_bytes w32 (size_of x) ≡ get_or x 1 0 ∷ get_or x 2 0 ∷ get_or x 3 0 ∷ get_or x 4 0 ∷ []
size-cells x h = be_bytes_4 (get_or x 1 0 ∷ get_or x 2 0 ∷ get_or x 3 0 ∷ get_or x 4 0 ∷ []) (size_of x) refl (cells_fit x h) refl

pub whole-spelled : (x : List ℕ) (m : Frame) (n : ℕ) → IsBytes x → front_of x ≡ Whole m n → (take n x ≡ spelling m) × IsFrame m
whole-spelled x m n h e =
    let w = front-whole x m n e in
    let l = head-long x n w.head_is in
    let payload-len : length (payload_of x) ≡ size_of x = omega (arith, length-take (size_of x) (drop 25 x), length-drop 25 x, w.fits, l.is) in
    let heads : take 5 x ≡ head (frame_of x) = five-cells x l.five ∙ ap (λ (ys : List ℕ). get_or x 0 0 ∷ ys) (sym (size-cells x h) ∙ ap (to_be_bytes w32) (sym payload-len)) in
    let same : stated_of x ≡ found_of x = (bytes_eq-Decides (stated_of x) (found_of x)).0 w.digest in
    let digest : stated_of x ≡ sha1 (head (frame_of x) ++ payload_of x) = same ∙ ap (λ (ys : List ℕ). sha1 (ys ++ payload_of x)) heads in
    let parts : take n x ≡ take 5 x ++ (stated_of x ++ payload_of x) =
    ap (λ (k : ℕ). take k x) l.is ∙ ap (λ (k : ℕ). take k x) (let k : 25 + size_of x ≡ 5 + (20 + size_of x) = omega arith in k)
    ∙ take-more 5 (20 + size_of x) x ∙ ap (λ (ys : List ℕ). take 5 x ++ ys) (take-more 20 (size_of x) (drop 5 x) ∙ ap (λ (ys : List ℕ). stated_of x ++ take (size_of x) ys) (drop-drop 20 5 x)) in
    let spelled : take n x ≡ spelling (frame_of x) = parts ∙ ap (λ (ys : List ℕ). ys ++ (stated_of x ++ payload_of x)) heads ∙ ap (λ (ys : List ℕ). head (frame_of x) ++ (ys ++ payload_of x)) digest in
    let kinds = and_parts (ltb 0 (get_or x 0 0)) (ltb (get_or x 0 0) 6) l.kind in (
      spelled ∙ ap spelling (sym w.frame_is),
      subst IsFrame (sym w.frame_is) (record { low = omega (arith, ltb-true 0 (get_or x 0 0) kinds.0); high = omega (arith, ltb-true (get_or x 0 0) 6 kinds.1); short = omega (arith, payload-len, l.fits) }),
    )

spells_by : (k : ℕ) (x : List ℕ) (F : Front) → length x ≤ k → IsBytes x → front_of x ≡ F → ((z : List ℕ) → length z < k → IsBytes z → Spells z (frames_of z)) → Spells x (frames_of x)
spells_by k x Partial b h e ih = subst (λ (fs : Frames). Spells x fs) (sym (frames-partial x e)) (record { more = x; whole = refl; each = tt; ends = (refl, e) })
spells_by k x (Faulty f) b h e ih =
    let alone : frames_of x ≡ ends (Fails f) = ap frames_of (sym (append-nil x)) ∙ frames-faulty x [] f e in
    subst (λ (fs : Frames). Spells x fs) (sym alone) (record { more = x; whole = refl; each = tt; ends = e })
spells_by k x (Whole m n) b h e ih =
    let w = front-whole x m n e in
    let size = whole_size x m n e in
    let alone : frames_of x ≡ with_frame m (frames_of (drop n x)) = ap frames_of (sym (append-nil x)) ∙ frames-whole x [] m n e ∙ ap (λ (zs : List ℕ). with_frame m (frames_of zs)) (append-nil (drop n x)) in
    let inner = ih (drop n x) (omega (arith, length-drop n x, w.fits)) (IsBytes-drop n x h) in
    let front = whole-spelled x m n h e in
    let whole : x ≡ flat_map spelling (m ∷ (frames_of (drop n x)).frames) ++ inner.more =
    sym (take-append-drop n x) ∙ ap (λ (ys : List ℕ). ys ++ drop n x) front.0 ∙ ap (λ (ys : List ℕ). spelling m ++ ys) inner.whole ∙ sym (append_assoc (spelling m) (flat_map spelling (frames_of (drop n x)).frames) inner.more) in
    subst (λ (fs : Frames). Spells x fs) (sym alone) (record { more = inner.more; whole = whole; each = (front.1, inner.each); ends = inner.ends })

spells_below : (k : ℕ) (x : List ℕ) → length x < k → IsBytes x → Spells x (frames_of x)
spells_below zero x b h = absurd (omega arith)
spells_below (suc k) x b h = spells_by k x (front_of x) (omega arith) h refl (λ z lt hz. spells_below k z lt hz)

-- the frames of bytes are spelled in them
pub spells : (x : List ℕ) → IsBytes x → Spells x (frames_of x)
spells x h = spells_below (suc (length x)) x (omega arith) h

only_by : (x : List ℕ) (ms : List Frame) (e : Ending) (more : List ℕ) → x ≡ flat_map spelling ms ++ more → AllByRecursion IsFrame ms → EndsSo e more → frames_of x ≡ record { frames = ms; ending = e }
only_by x ms (Rest rest) more w each ends =
    ap frames_of w ∙ frames-spellings ms more each
    ∙ ap (λ (fs : Frames). record { frames = ms ++ fs.frames; ending = fs.ending }) (frames-partial more ends.1)
    ∙ ap (λ (ks : List Frame). record { frames = ks; ending = Rest more }) (append-nil ms)
    ∙ ap (λ (r : List ℕ). record { frames = ms; ending = Rest r }) ends.0
only_by x ms (Fails f) more w each ends =
    ap frames_of w ∙ frames-spellings ms more each
    ∙ ap (λ (fs : Frames). record { frames = ms ++ fs.frames; ending = fs.ending }) (ap frames_of (sym (append-nil more)) ∙ frames-faulty more [] f ends)
    ∙ ap (λ (ks : List Frame). record { frames = ks; ending = Fails f }) (append-nil ms)

-- and no other frames are
pub only : (x : List ℕ) (fs : Frames) → Spells x fs → frames_of x ≡ fs
only x fs s = only_by x fs.frames fs.ending s.more s.whole s.each s.ends
