-- Reading a part of an image is spelling it.
use Rattle.std.proofs.Common.{◌≡◌, ℕ, zero, suc, ◌+◌, ◌^◌, ◌<◌, ◌≤◌, Bool, true, false, List, [], ◌∷◌, ◌++◌, length, get_or, take, drop, refl, sym, ap, ◌∙◌, subst, arith, nat_le}
use Rattle.std.specs.Int.{Width, w16, w32, w64, byte_len, from_be_bytes, to_be_bytes}
use Rattle.std.proofs.lemmas.List.{take-append-drop, length-take-le, length-append, get_or-drop}
use Rattle.std.proofs.Math.Seq.{take-append_seam, drop-append_seam}
use Rattle.std.proofs.lemmas.Nat.{be_bytes_2, be_bytes_4, be_bytes_8, from_be_bytes-to_be_bytes_2, from_be_bytes-to_be_bytes_4, from_be_bytes-to_be_bytes_8}
use Rattle.std.proofs.lemmas.Bool.{le-leb, leb-true}
use Rattle.cc_meaning.specs.declared.fault.ImageFault.{ImageFault}
use Rattle.cc_meaning_images.specs.Reading.{Got, got, wrong, reading, allowed, number_if, number, byte}
use Rattle.cc_meaning_images.specs.Forms.{AreBytes}

-- ---- what was read, where all was read

-- the first part, and the rest from there
pub record Through {A B : Type 0} (x : Got A) (k : A → ℕ → List ℕ → Got B) (b : B) (at : ℕ) (rest : List ℕ) : Type 0 where
  pub value : A
  pub next : ℕ
  pub more : List ℕ
  pub first : x ≡ got value next more
  pub then : k value next more ≡ got b at rest

pub through : {A B : Type 0} (x : Got A) (k : A → ℕ → List ℕ → Got B) (b : B) (at : ℕ) (rest : List ℕ) → reading x k ≡ got b at rest → Through x k b at rest
unfolding reading
through (got a n m) k b at rest e = record { value = a; next = n; more = m; first = refl; then = e }
through (wrong fault) k b at rest e = absurd cc

-- what two readings agree in
pub same_got : {A : Type 0} (a b : A) (n k : ℕ) (m l : List ℕ) → got a n m ≡ got b k l → (a ≡ b) × (m ≡ l)
same_got a b n k m l e = (cc, cc)

pub read_on : {A B : Type 0} (x : Got A) (k : A → ℕ → List ℕ → Got B) (a : A) (n : ℕ) (m : List ℕ) → x ≡ got a n m → reading x k ≡ k a n m
unfolding reading
read_on x k a n m e = rw e refl

pub was_allowed : {A : Type 0} (b : Bool) (from : ℕ) (x : Got A) (a : A) (at : ℕ) (rest : List ℕ) → allowed b from x ≡ got a at rest → (b ≡ true) × (x ≡ got a at rest)
unfolding allowed
was_allowed true from x a at rest e = (refl, e)
was_allowed false from x a at rest e = absurd cc

pub is_allowed : {A : Type 0} (b : Bool) (from : ℕ) (x : Got A) → b ≡ true → allowed b from x ≡ x
unfolding allowed
is_allowed b from x e = rw e refl

-- ---- bytes

pub bytes_take : (n : ℕ) (bytes : List ℕ) → AreBytes bytes → AreBytes (take n bytes)
bytes_take zero bytes h i = omega arith
bytes_take (suc n) [] h i = omega arith
bytes_take (suc n) (b ∷ bytes) h zero = h 0
bytes_take (suc n) (b ∷ bytes) h (suc i) = bytes_take n bytes (λ j. h (suc j)) i

pub bytes_drop : (n : ℕ) (bytes : List ℕ) → AreBytes bytes → AreBytes (drop n bytes)
bytes_drop n bytes h i = rw get_or-drop (h (n + i))

-- ---- numbers

number_found_if : (b : Bool) (w : Width) (at : ℕ) (rest : List ℕ) (n next : ℕ) (more : List ℕ) → number_if b w at rest ≡ got n next more →
    (b ≡ true) × (n ≡ from_be_bytes w (take (byte_len w) rest)) × (more ≡ drop (byte_len w) rest)
unfolding number_if
number_found_if true w at rest n next more e = (refl, cc, cc)
number_found_if false w at rest n next more e = absurd cc

-- the number is that of the bytes in front, which are there
number_found : (w : Width) (at : ℕ) (rest : List ℕ) (n next : ℕ) (more : List ℕ) → number w at rest ≡ got n next more →
    (byte_len w ≤ length rest) × (n ≡ from_be_bytes w (take (byte_len w) rest)) × (more ≡ drop (byte_len w) rest)
unfolding number
number_found w at rest n next more e =
    let f = number_found_if (nat_le (byte_len w) (length rest)) w at rest n next more e in
    (leb-true (byte_len w) (length rest) f.0, f.1, f.2)

-- what a number read says of the bytes
pub record Spelled (spelling more rest : List ℕ) : Type 0 where
  pub is : spelling ++ more ≡ rest
  pub bytes : AreBytes more

be_below_2 : (bs : List ℕ) → AreBytes bs → from_be_bytes w16 bs < 2 ^ 16
be_below_2 bs h = omega (arith, h 0, h 1)

be_below_4 : (bs : List ℕ) → AreBytes bs → from_be_bytes w32 bs < 2 ^ 32
be_below_4 bs h = omega (arith, h 0, h 1, h 2, h 3)

be_below_8 : (bs : List ℕ) → AreBytes bs → from_be_bytes w64 bs < 2 ^ 64
be_below_8 bs h = omega (arith, h 0, h 1, h 2, h 3, h 4, h 5, h 6, h 7)

spelled_of : (k : ℕ) (spelling more rest : List ℕ) → AreBytes rest → spelling ≡ take k rest → more ≡ drop k rest → Spelled spelling more rest
spelled_of k spelling more rest h s m =
    record { is = ap (λ (xs : List ℕ). xs ++ more) s ∙ ap (λ (ys : List ℕ). take k rest ++ ys) m ∙ take-append-drop k rest; bytes = subst AreBytes (sym m) (bytes_drop k rest h) }

pub spelled_2 : (at : ℕ) (rest : List ℕ) (n next : ℕ) (more : List ℕ) → AreBytes rest → number w16 at rest ≡ got n next more → (n < 2 ^ 16) × Spelled (to_be_bytes w16 n) more rest
spelled_2 at rest n next more h e =
    let f = number_found w16 at rest n next more e in (
      subst (λ k. k < 2 ^ 16) (sym f.1) (be_below_2 (take 2 rest) (bytes_take 2 rest h)),
      spelled_of 2 (to_be_bytes w16 n) more rest h (be_bytes_2 (take 2 rest) n (length-take-le 2 rest f.0) (bytes_take 2 rest h) f.1) f.2,
    )

pub spelled_4 : (at : ℕ) (rest : List ℕ) (n next : ℕ) (more : List ℕ) → AreBytes rest → number w32 at rest ≡ got n next more → (n < 2 ^ 32) × Spelled (to_be_bytes w32 n) more rest
spelled_4 at rest n next more h e =
    let f = number_found w32 at rest n next more e in (
      subst (λ k. k < 2 ^ 32) (sym f.1) (be_below_4 (take 4 rest) (bytes_take 4 rest h)),
      spelled_of 4 (to_be_bytes w32 n) more rest h (be_bytes_4 (take 4 rest) n (length-take-le 4 rest f.0) (bytes_take 4 rest h) f.1) f.2,
    )

pub spelled_8 : (at : ℕ) (rest : List ℕ) (n next : ℕ) (more : List ℕ) → AreBytes rest → number w64 at rest ≡ got n next more → (n < 2 ^ 64) × Spelled (to_be_bytes w64 n) more rest
spelled_8 at rest n next more h e =
    let f = number_found w64 at rest n next more e in (
      subst (λ k. k < 2 ^ 64) (sym f.1) (be_below_8 (take 8 rest) (bytes_take 8 rest h)),
      spelled_of 8 (to_be_bytes w64 n) more rest h (be_bytes_8 (take 8 rest) n (length-take-le 8 rest f.0) (bytes_take 8 rest h) f.1) f.2,
    )

pub spelled_1 : (at : ℕ) (rest : List ℕ) (b next : ℕ) (more : List ℕ) → AreBytes rest → byte at rest ≡ got b next more → Spelled (b ∷ []) more rest
unfolding byte
spelled_1 at [] b next more h e = absurd cc
spelled_1 at (c ∷ rest) b next more h e =
    let first : c ≡ b = cc in
    let behind : rest ≡ more = cc in
    record { is = ap (λ (x : ℕ). x ∷ more) (sym first) ∙ ap (λ (xs : List ℕ). c ∷ xs) (sym behind); bytes = subst AreBytes behind (λ i. h (suc i)) }

-- ---- a number that is spelled is read

number_front : (w : Width) (at n : ℕ) (bs more : List ℕ) → length bs ≡ byte_len w → from_be_bytes w bs ≡ n → number w at (bs ++ more) ≡ got n (at + byte_len w) more
unfolding number number_if
number_front w at n bs more len is =
    let enough : nat_le (byte_len w) (length (bs ++ more)) ≡ true = le-leb (byte_len w) (length (bs ++ more)) (omega (arith, length-append bs more)) in
    let front : take (byte_len w) (bs ++ more) ≡ bs = subst (λ k. take k (bs ++ more) ≡ bs) len (take-append_seam bs more) in
    let behind : drop (byte_len w) (bs ++ more) ≡ more = subst (λ k. drop k (bs ++ more) ≡ more) len (drop-append_seam bs more) in
    rw (enough, front, behind, is) refl

pub read_2 : (at n : ℕ) (more : List ℕ) → n < 2 ^ 16 → number w16 at (to_be_bytes w16 n ++ more) ≡ got n (at + 2) more
read_2 at n more h = number_front w16 at n (to_be_bytes w16 n) more refl (from_be_bytes-to_be_bytes_2 n h)

pub read_4 : (at n : ℕ) (more : List ℕ) → n < 2 ^ 32 → number w32 at (to_be_bytes w32 n ++ more) ≡ got n (at + 4) more
read_4 at n more h = number_front w32 at n (to_be_bytes w32 n) more refl (from_be_bytes-to_be_bytes_4 n h)

pub read_8 : (at n : ℕ) (more : List ℕ) → n < 2 ^ 64 → number w64 at (to_be_bytes w64 n ++ more) ≡ got n (at + 8) more
read_8 at n more h = number_front w64 at n (to_be_bytes w64 n) more refl (from_be_bytes-to_be_bytes_8 n h)
