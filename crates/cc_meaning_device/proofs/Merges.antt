-- A plain file's run that doesn't fall back merges a Back for each image that it notes.
use Rattle.std.proofs.Common.{◌≡◌, ℕ, zero, suc, ◌+◌, ◌&&◌, not, cond, Bool, true, false, ℤ, pos, List, [], ◌∷◌, ◌++◌, length, replicate, Option, Some, None, Result, Ok, Err, refl, sym, ap, ◌∙◌, subst, slice_get, slice_set}
use Rattle.std.specs.Int.{int_wrapping_add, w32}
use Rattle.cc_meaning.specs.declared.report.Limits.{Limits}
use Rattle.cc_meaning.specs.declared.report.StopCause.{StopCause}
use Rattle.cc_meaning.specs.declared.frame.Frame.{Frame}
use Rattle.cc_meaning.specs.declared.image.RunImage.{RunImage}
use Rattle.cc_meaning_run.specs.Acts.{less_by}
use Rattle.cc_meaning_run.specs.Instructions.{line_of}
use Rattle.cc_meaning_plain.specs.declared.plain.PlainInsn.{PlainInsn}
use Rattle.cc_meaning_plain.specs.declared.plain.PlainInsn.TheVariants.{SgetOut, Const4, AddInt2Addr, AddIntLit8, InvokePrintln, CallFunction}
use Rattle.cc_meaning_plain.specs.declared.plain.PlainFunction.{PlainFunction}
use Rattle.cc_meaning_plain.specs.declared.plain.Plain.{Plain}
use Rattle.cc_meaning_plain.specs.Program.{function_number, program_of}
use Rattle.cc_meaning_plain.specs.Text.{number_at, value_by, instructions_by}
use Rattle.cc_meaning_device.specs.Received.{Received, Offloaded, Taken, not_opened, behind_ready, back_of_frames}
use Rattle.cc_meaning_device.specs.Straight.{given_here, called_here, entry_image, came_back, called_there, called, Course, course_printing, course_behind, course_of, course_within, plain_course, PlainOffloads}
use Rattle.cc_meaning_device.specs.Complete.{MergesEach}

abbrev Counted : Received → Type 0
Counted t = t.fallen ≡ false → t.merged ≡ length t.images

pub one_longer : (images : List RunImage) (image : RunImage) → length (images ++ image ∷ []) ≡ suc (length images)
one_longer [] image = refl
one_longer (other ∷ images) image = ap suc (one_longer images image)

given_counted : (paid : Option ℕ) (n : ℤ) (words : ℕ) (t : Received) → Counted t → Counted (given_here paid n words t).received
given_counted None n words t counted = counted
given_counted (Some left) n words t counted = counted

back_counted : (f : Option PlainFunction) (n : ℤ) (image : RunImage) (t : Received) (o : Option Taken) → Counted t → Counted (came_back f n image t o).received
back_counted f n image t None counted =
    given_counted (less_by (instructions_by f) image.instructions) (value_by f n) image.words (record t { images = t.images ++ image ∷ []; fallen = true }) (λ e. absurd cc)
back_counted f n image t (Some taken) counted = λ e. ap suc (counted e) ∙ sym (one_longer t.images image)

behind_counted : (v : Result ℤ StopCause) (instructions words : ℕ) (t : Received) (go : ℤ → ℕ → Course) → Counted t → ((n : ℤ) (left : ℕ) → Counted (go n left).received) → Counted (course_behind v instructions words t go).received
behind_counted (Err stop) instructions words t go counted more = counted
behind_counted (Ok n) zero words t go counted more = counted
behind_counted (Ok n) (suc left) words t go counted more = more n left

printing_counted : (line : List ℕ) (instructions words : ℕ) (paid : Option ℕ) (t : Received) (go : ℕ → Course) → Counted t → ((left : ℕ) → Counted (go left).received) → Counted (course_printing line instructions words paid t go).received
printing_counted line instructions words None t go counted more = counted
printing_counted line instructions words (Some left) t go counted more = more left

module _ (plain : Plain) (moves : ℕ → Bool) where
  called_counted : (function : ℕ) (n : ℤ) (instructions words : ℕ) (t : Received) → Counted t → Counted (called plain moves function n instructions words t).received
  unfolding called
  called_counted function n instructions words t counted = by (not t.fallen && moves (function_number plain function))
    where
      by : (sent : Bool) → Counted (cond sent (called_there plain function n (entry_image plain function n instructions words) t) (called_here (slice_get plain.functions function) n instructions words t)).received
      by true = let image = entry_image plain function n instructions words in back_counted (slice_get plain.functions function) n image t (back_of_frames (program_of plain) image (behind_ready t)) counted
      by false = given_counted (less_by (instructions_by (slice_get plain.functions function)) instructions) (value_by (slice_get plain.functions function) n) words t counted

  course_counted : (insns : List PlainInsn) (ns : List ℤ) (instructions words : ℕ) (t : Received) → Counted t → Counted (course_of plain moves ns insns instructions words t).received
  unfolding course_of
  course_counted [] ns zero words t counted = counted
  course_counted [] ns (suc left) words t counted = counted
  course_counted (SgetOut to ∷ rest) ns zero words t counted = counted
  course_counted (SgetOut to ∷ rest) ns (suc left) words t counted = course_counted rest ns left words t counted
  course_counted (Const4 to v ∷ rest) ns zero words t counted = counted
  course_counted (Const4 to v ∷ rest) ns (suc left) words t counted = course_counted rest (slice_set ns to v) left words t counted
  course_counted (AddInt2Addr to other ∷ rest) ns zero words t counted = counted
  course_counted (AddInt2Addr to other ∷ rest) ns (suc left) words t counted = course_counted rest (slice_set ns to (int_wrapping_add w32 (number_at ns to) (number_at ns other))) left words t counted
  course_counted (AddIntLit8 to from literal ∷ rest) ns zero words t counted = counted
  course_counted (AddIntLit8 to from literal ∷ rest) ns (suc left) words t counted = course_counted rest (slice_set ns to (int_wrapping_add w32 (number_at ns from) literal)) left words t counted
  course_counted (InvokePrintln stream from ∷ rest) ns zero words t counted = counted
  course_counted (InvokePrintln stream from ∷ rest) ns (suc left) words t counted =
      let line = line_of (number_at ns from) in
      printing_counted line left words (less_by (2 + length line) words) t (λ words'. course_of plain moves ns rest left words' t) counted (λ words'. course_counted rest ns left words' t counted)
  course_counted (CallFunction function argument to ∷ rest) ns zero words t counted = counted
  course_counted (CallFunction function argument to ∷ rest) ns (suc left) words t counted =
      let came = called plain moves function (number_at ns argument) left words t in
      let then = called_counted function (number_at ns argument) left words t counted in
      behind_counted came.value came.instructions came.words came.received (λ n left'. course_of plain moves (slice_set ns to n) rest left' came.words came.received) then
      (λ n left'. course_counted rest (slice_set ns to n) left' came.words came.received then)

  plain_counted : (limits : Limits) (frames : List Frame) → Counted (plain_course plain moves limits frames).received
  unfolding plain_course course_within
  plain_counted limits frames = by (less_by 2 limits.words)
    where
      by : (paid : Option ℕ) → Counted (course_within plain moves limits paid (not_opened frames)).received
      by None = λ e. refl
      by (Some words) = course_counted plain.main.insns (replicate plain.main.registers (pos 0)) limits.instructions words (not_opened frames) (λ e. refl)

pub merges_each : PlainOffloads → MergesEach
merges_each offloads file plain moves limits frames bytes is =
    subst (λ (o : Offloaded). Counted o.received) (sym (offloads file plain moves limits frames bytes is)) (plain_counted plain moves limits frames)
