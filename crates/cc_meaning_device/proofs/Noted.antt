-- The images that a plain file's run notes are those of entries of its functions.
use Rattle.std.proofs.Common.{◌≡◌, ℕ, zero, suc, ◌+◌, ◌≤◌, ◌&&◌, not, cond, Bool, true, false, ℤ, pos, List, [], ◌∷◌, ◌++◌, length, replicate, Option, Some, None, Result, Ok, Err, refl, sym, subst, arith, nat_le, slice_get, slice_set}
use Rattle.std.specs.List.{AllByRecursion}
use Rattle.std.proofs.lemmas.Bool.{and_parts, leb-true}
use Rattle.cc_meaning.specs.declared.value.Value.TheVariants as value
use Rattle.cc_meaning.specs.declared.report.CallEnd.{CallEnd}
use Rattle.cc_meaning.specs.declared.report.CallEnd.TheVariants as end
use Rattle.cc_meaning.specs.declared.report.StopCause.{StopCause}
use Rattle.cc_meaning.specs.declared.report.Limits.{Limits}
use Rattle.cc_meaning.specs.declared.frame.Frame.{Frame}
use Rattle.cc_meaning.specs.declared.image.RunImage.{RunImage}
use Rattle.cc_meaning.specs.declared.image.BackImage.{BackImage}
use Rattle.cc_meaning_run.specs.Acts.{less_by}
use Rattle.cc_meaning_run.specs.Instructions.{line_of}
use Rattle.cc_meaning_images.specs.Reading.{reading, result_of, back_head, back_behind, back_fits, read_back}
use Rattle.cc_meaning_images.proofs.Runs.{was_whole}
use Rattle.cc_meaning_plain.specs.declared.plain.PlainInsn.{PlainInsn}
use Rattle.cc_meaning_plain.specs.declared.plain.PlainInsn.TheVariants.{SgetOut, Const4, AddInt2Addr, AddIntLit8, InvokePrintln, CallFunction}
use Rattle.cc_meaning_plain.specs.declared.plain.PlainFunction.{PlainFunction}
use Rattle.cc_meaning_plain.specs.declared.plain.Plain.{Plain}
use Rattle.cc_meaning_plain.specs.Plain.{IsPlain}
use Rattle.cc_meaning_plain.specs.Program.{function_number, program_of}
use Rattle.cc_meaning_plain.specs.Text.{number_at, value_of, instructions_of}
use Rattle.cc_meaning_plain.specs.Laws.{AreBytes}
use Rattle.cc_meaning_plain.proofs.Running.{Fits32, sum_fits}
use Rattle.cc_meaning_plain.proofs.Facts.{function_is_fine, MainDoes, main_is_fine}
use Rattle.cc_meaning_plain.proofs.Values.{AllFit, zeros_fit, fits_at, fits_set, value_fits}
use Rattle.cc_meaning_device.specs.Received.{Received, Taken, not_opened, behind_ready, back_of_frames}
use Rattle.cc_meaning_device.specs.Straight.{Came, given_here, called_here, entry_image, value_back, came_back, called_there, called, Course, course_printing, course_behind, course_of, course_within, plain_course}
use Rattle.cc_meaning_device.proofs.Backs.{IsIntEnd, gives, stops, function_back}
use Rattle.cc_meaning_device.proofs.Received.{taken_spends}
use Rattle.cc_meaning_device.proofs.Honest.{was_taken}
use Rattle.cc_meaning_device.proofs.Kept.{less_by_less}

-- the image of an entry, with so many instructions and words left at most
pub record IsEntry (plain : Plain) (limits : Limits) (image : RunImage) : Type 0 where
  pub place : ℕ
  pub function : PlainFunction
  pub argument : ℤ
  pub instructions : ℕ
  pub words : ℕ
  pub is : image ≡ entry_image plain place argument instructions words
  pub stands : slice_get plain.functions place ≡ Some function
  pub fits : Fits32 argument
  pub few_instructions : instructions ≤ limits.instructions
  pub few_words : words ≤ limits.words

abbrev AreEntries : Plain → Limits → Received → Type 0
AreEntries plain limits t = AllByRecursion (IsEntry plain limits) t.images

one_more : (plain : Plain) (limits : Limits) (images : List RunImage) (image : RunImage) → AllByRecursion (IsEntry plain limits) images → IsEntry plain limits image → AllByRecursion (IsEntry plain limits) (images ++ image ∷ [])
one_more plain limits [] image h is = (is, tt)
one_more plain limits (x ∷ images) image h is = (h.0, one_more plain limits images image h.1 is)

-- no Back gives words back
back_words : (plain : Plain) (run : RunImage) (bytes : List ℕ) (back : BackImage) → read_back (program_of plain) run bytes ≡ Ok back → back.words ≤ run.words
unfolding read_back
back_words plain run bytes back e =
    let p = program_of plain in
    let w = was_whole (back_fits run) (reading (back_head (result_of (slice_get p.methods run.method)) 0 bytes) (λ head at rest. back_behind p run.statuses head at rest)) back e in
    leb-true _ _ (and_parts (nat_le back.instructions run.instructions) (nat_le back.words run.words) w.in_range).1

-- a call that gives a number gives one of 32 bits
abbrev GivesFit : Result ℤ StopCause → Type 0
GivesFit (Ok n) = Fits32 n
GivesFit (Err stop) = Unit {0}

-- what a call came to: a number of 32 bits, no more instructions and words than there are, and images of entries
record IsFine (plain : Plain) (limits : Limits) (c : Came) : Type 0 where
  fits : GivesFit c.value
  few_instructions : c.instructions ≤ limits.instructions
  few_words : c.words ≤ limits.words
  entries : AreEntries plain limits c.received

end_fits : (ending : CallEnd) → IsIntEnd ending → GivesFit (value_back ending)
end_fits (end.Returned (Some (value.Int y))) (gives fits) = fits
end_fits (end.Returned None) none = elim none [ ]
end_fits (end.Returned (Some (value.Long y))) none = elim none [ ]
end_fits (end.Returned (Some (value.Obj a))) none = elim none [ ]
end_fits (end.Thrown number) none = elim none [ ]
end_fits (end.Stopped stop) stops = tt

module _ (file : List ℕ) (plain : Plain) (bytes : AreBytes file) (is : IsPlain file plain) (moves : ℕ → Bool) (limits : Limits) where
  -- ---- a call

  paid_is_fine : (f : PlainFunction) (x : ℤ) (place instructions words : ℕ) (t : Received) (paid : Option ℕ) → slice_get plain.functions place ≡ Some f → Fits32 x → less_by (instructions_of f.code) instructions ≡ paid →
      instructions ≤ limits.instructions → words ≤ limits.words → AreEntries plain limits t → IsFine plain limits (given_here paid (value_of f.code x) words t)
  paid_is_fine f x place instructions words t None ef fits e few_i few_w entries = record { fits = tt; few_instructions = omega arith; few_words = few_w; entries = entries }
  paid_is_fine f x place instructions words t (Some left) ef fits e few_i few_w entries =
      let less = less_by_less (instructions_of f.code) instructions left e in
      let fine = function_is_fine file plain bytes is place f ef in
      record { fits = value_fits f.code x fine.adds fits; few_instructions = omega arith; few_words = few_w; entries = entries }

  here_is_fine : (f : PlainFunction) (x : ℤ) (place instructions words : ℕ) (t : Received) → slice_get plain.functions place ≡ Some f → Fits32 x →
      instructions ≤ limits.instructions → words ≤ limits.words → AreEntries plain limits t → IsFine plain limits (called_here (slice_get plain.functions place) x instructions words t)
  here_is_fine f x place instructions words t ef fits few_i few_w entries =
      subst (λ (o : Option PlainFunction). IsFine plain limits (called_here o x instructions words t)) (sym ef)
      (paid_is_fine f x place instructions words t (less_by (instructions_of f.code) instructions) ef fits refl few_i few_w entries)

  back_is_fine : (f : PlainFunction) (x : ℤ) (place instructions words : ℕ) (t : Received) → slice_get plain.functions place ≡ Some f → Fits32 x →
      instructions ≤ limits.instructions → words ≤ limits.words → AreEntries plain limits t → (o : Option Taken) → back_of_frames (program_of plain) (entry_image plain place x instructions words) (behind_ready t) ≡ o →
      IsFine plain limits (came_back (slice_get plain.functions place) x (entry_image plain place x instructions words) t o)
  back_is_fine f x place instructions words t ef fits few_i few_w entries o e =
      let image = entry_image plain place x instructions words in
      let entry : IsEntry plain limits image = record { place = place; function = f; argument = x; instructions = instructions; words = words; is = refl; stands = ef; fits = fits; few_instructions = few_i; few_words = few_w } in
      by o e (one_more plain limits t.images image entries entry)
    where
      by : (o : Option Taken) → back_of_frames (program_of plain) (entry_image plain place x instructions words) (behind_ready t) ≡ o →
          AllByRecursion (IsEntry plain limits) (t.images ++ entry_image plain place x instructions words ∷ []) →
          IsFine plain limits (came_back (slice_get plain.functions place) x (entry_image plain place x instructions words) t o)
      by None e more = here_is_fine f x place instructions words (record t { images = t.images ++ entry_image plain place x instructions words ∷ []; fallen = true }) ef fits few_i few_w more
      by (Some taken) e more =
          let image = entry_image plain place x instructions words in
          let was = was_taken (program_of plain) image (behind_ready t) taken e in
          let spends = taken_spends (program_of plain) image (behind_ready t) taken e in
          let spends_words = back_words plain image was.frame.payload taken.back was.read in
          let is_back = function_back plain place f image was.frame.payload taken.back ef refl refl was.read in
          record {
            fits = subst (λ (b : BackImage). GivesFit (value_back b.ending)) (sym is_back.is) (end_fits is_back.head.ending is_back.ends);
            few_instructions = omega (arith, spends);
            few_words = omega (arith, spends_words);
            entries = more;
          }

  call_is_fine : (f : PlainFunction) (x : ℤ) (place instructions words : ℕ) (t : Received) → slice_get plain.functions place ≡ Some f → Fits32 x →
      instructions ≤ limits.instructions → words ≤ limits.words → AreEntries plain limits t → IsFine plain limits (called plain moves place x instructions words t)
  unfolding called
  call_is_fine f x place instructions words t ef fits few_i few_w entries = by (not t.fallen && moves (function_number plain place))
    where
      by : (sent : Bool) → IsFine plain limits (cond sent (called_there plain place x (entry_image plain place x instructions words) t) (called_here (slice_get plain.functions place) x instructions words t))
      by false = here_is_fine f x place instructions words t ef fits few_i few_w entries
      by true = back_is_fine f x place instructions words t ef fits few_i few_w entries (back_of_frames (program_of plain) (entry_image plain place x instructions words) (behind_ready t)) refl

  -- ---- down the instructions

  -- what comes then notes images of entries too
  abbrev Notes : Course → Type 0
  Notes course = AreEntries plain limits course.received

  behind_notes : (v : Result ℤ StopCause) (instructions words : ℕ) (t : Received) (go : ℤ → ℕ → Course) → GivesFit v → instructions ≤ limits.instructions → AreEntries plain limits t →
      ((n : ℤ) (left : ℕ) → Fits32 n → left ≤ limits.instructions → Notes (go n left)) → Notes (course_behind v instructions words t go)
  behind_notes (Err stop) instructions words t go fits few entries more = entries
  behind_notes (Ok n) zero words t go fits few entries more = entries
  behind_notes (Ok n) (suc left) words t go fits few entries more = more n left fits (omega arith)

  printing_notes : (n words k : ℕ) (line : List ℕ) (paid : Option ℕ) (t : Received) (go : ℕ → Course) → less_by n words ≡ paid → words ≤ limits.words → AreEntries plain limits t →
      ((left : ℕ) → left ≤ limits.words → Notes (go left)) → Notes (course_printing line k words paid t go)
  printing_notes n words k line None t go e few entries more = entries
  printing_notes n words k line (Some left) t go e few entries more = let less = less_by_less n words left e in more left (omega arith)

  course_notes : (insns : List PlainInsn) (ns : List ℤ) (instructions words : ℕ) (t : Received) → AllFit ns → MainDoes plain.functions insns → instructions ≤ limits.instructions → words ≤ limits.words → AreEntries plain limits t →
      Notes (course_of plain moves ns insns instructions words t)
  unfolding course_of
  course_notes [] ns zero words t fit does few_i few_w entries = entries
  course_notes [] ns (suc k) words t fit does few_i few_w entries = entries
  course_notes (SgetOut to ∷ rest) ns zero words t fit does few_i few_w entries = entries
  course_notes (SgetOut to ∷ rest) ns (suc k) words t fit does few_i few_w entries = course_notes rest ns k words t fit does (omega arith) few_w entries
  course_notes (Const4 to v ∷ rest) ns zero words t fit does few_i few_w entries = entries
  course_notes (Const4 to v ∷ rest) ns (suc k) words t fit does few_i few_w entries = course_notes rest (slice_set ns to v) k words t (fits_set ns to v does.0 fit) does.1 (omega arith) few_w entries
  course_notes (AddInt2Addr to other ∷ rest) ns zero words t fit does few_i few_w entries = entries
  course_notes (AddInt2Addr to other ∷ rest) ns (suc k) words t fit does few_i few_w entries =
      course_notes rest _ k words t (fits_set ns to _ (sum_fits _ _ (fits_at ns to fit) (fits_at ns other fit)) fit) does (omega arith) few_w entries
  course_notes (AddIntLit8 to from literal ∷ rest) ns instructions words t fit does few_i few_w entries = absurd does
  course_notes (InvokePrintln stream from ∷ rest) ns zero words t fit does few_i few_w entries = entries
  course_notes (InvokePrintln stream from ∷ rest) ns (suc k) words t fit does few_i few_w entries =
      let size = 2 + length (line_of (number_at ns from)) in
      printing_notes size words k (line_of (number_at ns from)) (less_by size words) t _ refl few_w entries (λ left few. course_notes rest ns k left t fit does (omega arith) few entries)
  course_notes (CallFunction function argument to ∷ rest) ns zero words t fit does few_i few_w entries = entries
  course_notes (CallFunction function argument to ∷ rest) ns (suc k) words t fit does few_i few_w entries =
      let c = called plain moves function (number_at ns argument) k words t in
      let fine = call_is_fine does.0.0 (number_at ns argument) function k words t does.0.1 (fits_at ns argument fit) (omega arith) few_w entries in
      behind_notes c.value c.instructions c.words c.received _ fine.fits fine.few_instructions fine.entries
      (λ n left fits few. course_notes rest (slice_set ns to n) left c.words c.received (fits_set ns to n fits fit) does.1 few fine.few_words fine.entries)

  pub plain_notes : (frames : List Frame) → AllByRecursion (IsEntry plain limits) (plain_course plain moves limits frames).received.images
  unfolding plain_course course_within
  plain_notes frames = by (less_by 2 limits.words) refl
    where
      by : (paid : Option ℕ) → less_by 2 limits.words ≡ paid → AllByRecursion (IsEntry plain limits) (course_within plain moves limits paid (not_opened frames)).received.images
      by None e = tt
      by (Some words) e =
          let less = less_by_less 2 limits.words words e in
          course_notes plain.main.insns (replicate plain.main.registers (pos 0)) limits.instructions words (not_opened frames) (zeros_fit plain.main.registers) (main_is_fine file plain bytes is).does (omega arith) less tt
