-- The image of an entry of a plain file's function is the only one that its bytes spell.
use Rattle.std.proofs.Common.{◌≡◌, ℕ, zero, suc, ◌/◌, ◌^◌, ◌<◌, ◌≤◌, ℤ, List, [], ◌∷◌, ◌++◌, length, take, drop, refl, sym, ap, ◌∙◌, subst, arith, mod-lt}
use Rattle.std.specs.Int.{w16, w32, w64, byte_at, bytes_high_first, from_be_bytes, cast_signed, cast_unsigned}
use Rattle.std.specs.Int.RustNames.{FitsSigned}
use Rattle.std.specs.List.{AllByRecursion}
use Rattle.std.proofs.lemmas.Nat.{from_be_bytes-to_be_bytes_2, from_be_bytes-to_be_bytes_4, from_be_bytes-to_be_bytes_8}
use Rattle.std.proofs.lemmas.Int.{to_z-of_z, ints}
use Rattle.cc_meaning.specs.declared.value.Value.{Value}
use Rattle.cc_meaning.specs.declared.value.Value.TheVariants as value
use Rattle.cc_meaning.specs.declared.value.Made.{Made}
use Rattle.cc_meaning.specs.declared.value.Object.{Object}
use Rattle.cc_meaning.specs.declared.value.Object.TheVariants as object
use Rattle.cc_meaning.specs.declared.image.RunImage.{RunImage}
use Rattle.cc_meaning_images.specs.Spelling.{u2, u4, u8, spelled_run}
use Rattle.cc_meaning_images.specs.Forms.{AreBytes, AreValues, IsRunOf, RunIsSpelled}
use Rattle.cc_meaning_nodes.specs.Frames.{IsFrame}
use Rattle.cc_meaning_plain.specs.declared.plain.Plain.{Plain}
use Rattle.cc_meaning_plain.specs.Program.{function_number, program_of}
use Rattle.cc_meaning_clone.specs.Functions.{RunnableIs, RunsHaveParts}
use Rattle.cc_meaning_clone.proofs.Answers.{form_is}
use Rattle.cc_meaning_device.specs.Straight.{entry_image}
use Rattle.cc_meaning_device.specs.Honest.{run_frame, IsReadAsItself}
use Rattle.cc_meaning_device.proofs.RightAnswers.{target_of}

-- ---- numbers in front

abbrev pub Bytes : List ℕ → Type 0
Bytes xs = AllByRecursion (λ b. b < 256) xs

is_byte : (i n : ℕ) → byte_at i n < 256
is_byte zero n = omega arith
is_byte (suc i) n = mod-lt (n / 256 ^ suc i) (omega arith)

bytes_high : (count n : ℕ) → Bytes (bytes_high_first count n)
bytes_high zero n = tt
bytes_high (suc count) n = (is_byte count n, bytes_high count n)

bytes_joined : (xs ys : List ℕ) → Bytes xs → Bytes ys → Bytes (xs ++ ys)
bytes_joined [] ys h k = k
bytes_joined (x ∷ xs) ys h k = (h.0, bytes_joined xs ys h.1 k)

pub each_byte : (xs : List ℕ) → Bytes xs → AreBytes xs
each_byte [] h i = omega arith
each_byte (x ∷ xs) h zero = h.0
each_byte (x ∷ xs) h (suc i) = each_byte xs h.1 i

front_2 : (a b : ℕ) (x y : List ℕ) → a < 2 ^ 16 → b < 2 ^ 16 → u2 a ++ x ≡ u2 b ++ y → (a ≡ b) × (x ≡ y)
front_2 a b x y fa fb e = (sym (from_be_bytes-to_be_bytes_2 a fa) ∙ ap (λ (bytes : List ℕ). from_be_bytes w16 (take 2 bytes)) e ∙ from_be_bytes-to_be_bytes_2 b fb, ap (drop 2) e)

front_4 : (a b : ℕ) (x y : List ℕ) → a < 2 ^ 32 → b < 2 ^ 32 → u4 a ++ x ≡ u4 b ++ y → (a ≡ b) × (x ≡ y)
front_4 a b x y fa fb e = (sym (from_be_bytes-to_be_bytes_4 a fa) ∙ ap (λ (bytes : List ℕ). from_be_bytes w32 (take 4 bytes)) e ∙ from_be_bytes-to_be_bytes_4 b fb, ap (drop 4) e)

front_8 : (a b : ℕ) (x y : List ℕ) → a < 2 ^ 64 → b < 2 ^ 64 → u8 a ++ x ≡ u8 b ++ y → (a ≡ b) × (x ≡ y)
front_8 a b x y fa fb e = (sym (from_be_bytes-to_be_bytes_8 a fa) ∙ ap (λ (bytes : List ℕ). from_be_bytes w64 (take 8 bytes)) e ∙ from_be_bytes-to_be_bytes_8 b fb, ap (drop 8) e)

-- ---- an image by its parts

abbrev pub image_by : (m instructions words depth registers status : ℕ) → ℤ → RunImage
image_by m instructions words depth registers status n = record {
  method = m;
  instructions = instructions;
  words = words;
  depth = depth;
  registers = registers;
  statuses = status ∷ [];
  args = value.Int n ∷ [];
  statics = [];
  literals = [];
  constants = [];
  objects = object.Out ∷ [];
}

-- what stands behind its number
abbrev tail : List ℕ
tail = u4 0 ++ (u4 0 ++ 0 ∷ [])

spelled_parts : (m instructions words depth registers status : ℕ) (n : ℤ) →
    spelled_run (image_by m instructions words depth registers status n) ≡ u4 m ++ (u8 instructions ++ (u4 words ++ (u2 depth ++ (u4 registers ++ (status ∷ (u4 (cast_unsigned w32 n) ++ tail))))))
unfolding spelled_run
spelled_parts m instructions words depth registers status n = refl

-- its numbers fit their places
record Fit (m instructions words depth registers : ℕ) (n : ℤ) : Type 0 where
  fits_m : m < 2 ^ 32
  fits_instructions : instructions < 2 ^ 64
  fits_words : words < 2 ^ 32
  fits_depth : depth < 2 ^ 16
  fits_registers : registers < 2 ^ 32
  fits_n : FitsSigned w32 n

unsigned_below : (z : ℤ) → FitsSigned w32 z → cast_unsigned w32 z < 2 ^ 32
unsigned_below z h = omega (arith, ints)

same_number : (a b : ℤ) → FitsSigned w32 a → FitsSigned w32 b → cast_unsigned w32 a ≡ cast_unsigned w32 b → a ≡ b
same_number a b fa fb e = sym (to_z-of_z w32 a fa) ∙ ap (cast_signed w32) e ∙ to_z-of_z w32 b fb

first_same : (x y : ℕ) (xs ys : List ℕ) → x ∷ xs ≡ y ∷ ys → (x ≡ y) × (xs ≡ ys)
first_same x y xs ys e = (cc, cc)

-- two images that are spelled alike are one
same_parts : (m i w d r s : ℕ) (n : ℤ) (m' i' w' d' r' s' : ℕ) (n' : ℤ) → Fit m i w d r n → Fit m' i' w' d' r' n' →
    spelled_run (image_by m i w d r s n) ≡ spelled_run (image_by m' i' w' d' r' s' n') → image_by m i w d r s n ≡ image_by m' i' w' d' r' s' n'
same_parts m i w d r s n m' i' w' d' r' s' n' f g e =
    let all = sym (spelled_parts m i w d r s n) ∙ e ∙ spelled_parts m' i' w' d' r' s' n' in
    let one = front_4 m m' _ _ f.fits_m g.fits_m all in
    let two = front_8 i i' _ _ f.fits_instructions g.fits_instructions one.1 in
    let three = front_4 w w' _ _ f.fits_words g.fits_words two.1 in
    let four = front_2 d d' _ _ f.fits_depth g.fits_depth three.1 in
    let five = front_4 r r' _ _ f.fits_registers g.fits_registers four.1 in
    let six = first_same s s' _ _ five.1 in
    let seven = front_4 (cast_unsigned w32 n) (cast_unsigned w32 n') tail tail (unsigned_below n f.fits_n) (unsigned_below n' g.fits_n) six.1 in
    ap (λ (x : ℕ). image_by x i w d r s n) one.0
    ∙ ap (λ (x : ℕ). image_by m' x w d r s n) two.0
    ∙ ap (λ (x : ℕ). image_by m' i' x d r s n) three.0
    ∙ ap (λ (x : ℕ). image_by m' i' w' x r s n) four.0
    ∙ ap (λ (x : ℕ). image_by m' i' w' d' x s n) five.0
    ∙ ap (λ (x : ℕ). image_by m' i' w' d' r' x n) six.0
    ∙ ap (λ (x : ℤ). image_by m' i' w' d' r' s' x) (same_number n n' f.fits_n g.fits_n seven.0)

-- ---- what is read

no_values : (vs : List Value) → AreValues [] vs → vs ≡ []
no_values [] h = refl
no_values (v ∷ vs) h = absurd h

-- a Run of a plain file is an image by its parts
parts_are : (plain : Plain) (image : RunImage) (s : ℕ) (n : ℤ) → IsRunOf (program_of plain) image → image.statuses ≡ s ∷ [] → image.args ≡ value.Int n ∷ [] →
    image ≡ image_by image.method image.instructions image.words image.depth image.registers s n
parts_are plain image s n is statuses args =
    let statics = no_values image.statics (subst (λ ks. AreValues ks image.statics) (form_is plain).no_statics is.statics) in
    ap (λ (ss : List ℕ). record image { statuses = ss }) statuses
    ∙ ap (λ (vs : List Value). record image { statuses = s ∷ []; args = vs }) args
    ∙ ap (λ (vs : List Value). record image { statuses = s ∷ []; args = value.Int n ∷ []; statics = vs }) statics
    ∙ ap (λ (ms : List Made). record image { statuses = s ∷ []; args = value.Int n ∷ []; statics = []; literals = ms }) is.no_literals
    ∙ ap (λ (ms : List Made). record image { statuses = s ∷ []; args = value.Int n ∷ []; statics = []; literals = []; constants = ms }) is.no_constants
    ∙ ap (λ (os : List Object). record image { statuses = s ∷ []; args = value.Int n ∷ []; statics = []; literals = []; constants = []; objects = os }) is.out_alone

pub entry_bytes : (m i w d r : ℕ) (n : ℤ) → Bytes (spelled_run (image_by m i w d r 2 n))
entry_bytes m i w d r n =
    let z = cast_unsigned w32 n in
    let out : Bytes (0 ∷ []) = (omega arith, tt) in
    let last : Bytes tail = bytes_joined (u4 0) (u4 0 ++ 0 ∷ []) (bytes_high 4 0) (bytes_joined (u4 0) (0 ∷ []) (bytes_high 4 0) out) in
    let six : List ℕ = 2 ∷ (u4 z ++ tail) in
    let five : List ℕ = u4 r ++ six in
    let four : List ℕ = u2 d ++ five in
    let three : List ℕ = u4 w ++ four in
    let two : List ℕ = u8 i ++ three in
    let behind : Bytes six = (omega arith, bytes_joined (u4 z) tail (bytes_high 4 z) last) in
    let all : Bytes (u4 m ++ two) =
    bytes_joined (u4 m) two (bytes_high 4 m)
    (bytes_joined (u8 i) three (bytes_high 8 i) (bytes_joined (u4 w) four (bytes_high 4 w) (bytes_joined (u2 d) five (bytes_high 2 d) (bytes_joined (u4 r) six (bytes_high 4 r) behind)))) in
    subst (λ (bytes : List ℕ). Bytes bytes) (sym (spelled_parts m i w d r 2 n)) all

-- the image of an entry of a function of which `main` has few registers, where its numbers fit
pub entry_is_itself : RunIsSpelled → RunnableIs → RunsHaveParts → (plain : Plain) (place i w : ℕ) (n : ℤ) → function_number plain place < 2 ^ 32 → i < 2 ^ 64 → w < 2 ^ 32 → plain.main.registers ≤ 16 → FitsSigned w32 n →
    IsReadAsItself plain (entry_image plain place n i w)
entry_is_itself spelled runnables parts_of plain place i w n few_m few_i few_w few_registers fits other read =
    let m = function_number plain place in
    let r = plain.main.registers in
    let is = spelled (program_of plain) (spelled_run (image_by m i w 1 r 2 n)) other (each_byte (spelled_run (image_by m i w 1 r 2 n)) (entry_bytes m i w 1 r n)) read in
    let is_run = is.1 in
    let parts = parts_of plain other is_run in
    let t = target_of runnables parts_of plain other is_run in
    let by_parts = parts_are plain other parts.status t.argument is_run parts.statuses t.args in
    let other_fits : Fit other.method other.instructions other.words other.depth other.registers t.argument =
    record {
      fits_m = is_run.method_number;
      fits_instructions = omega (arith, is_run.instructions);
      fits_words = omega (arith, is_run.words);
      fits_depth = omega (arith, is_run.room_for_frame);
      fits_registers = omega (arith, t.room);
      fits_n = t.fits;
    } in
    let here_fits : Fit m i w 1 r n = record { fits_m = few_m; fits_instructions = few_i; fits_words = few_w; fits_depth = omega arith; fits_registers = omega arith; fits_n = fits } in
    let same : other ≡ image_by m i w 1 r 2 n =
    by_parts ∙ same_parts other.method other.instructions other.words other.depth other.registers parts.status t.argument m i w 1 r 2 n other_fits here_fits (ap spelled_run (sym by_parts) ∙ is.0) in
    (same, subst (λ (image : RunImage). IsRunOf (program_of plain) image) same is_run)

pub entry_is_frame : (plain : Plain) (place i w : ℕ) (n : ℤ) → IsFrame (run_frame (entry_image plain place n i w))
entry_is_frame plain place i w n =
    let long : length (spelled_run (entry_image plain place n i w)) ≡ 36 = ap length (spelled_parts (function_number plain place) i w 1 plain.main.registers 2 n) in
    record { low = omega arith; high = omega arith; short = omega (arith, long) }
