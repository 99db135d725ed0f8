-- A plain file's run that returns and doesn't fall back notes an image for each call of a moved function in `main`.
use Rattle.std.proofs.Common.{◌≡◌, ℕ, zero, suc, ◌+◌, ◌&&◌, not, cond, Bool, true, false, ℤ, pos, List, [], ◌∷◌, ◌++◌, length, replicate, Option, Some, None, Result, Ok, Err, refl, sym, ap, ◌∙◌, subst, arith, slice_get, slice_set}
use Rattle.std.specs.Int.{int_wrapping_add, w32}
use Rattle.cc_meaning.specs.declared.report.Limits.{Limits}
use Rattle.cc_meaning.specs.declared.report.Report.{Report}
use Rattle.cc_meaning.specs.declared.report.Ending.{Ending}
use Rattle.cc_meaning.specs.declared.report.Ending.TheVariants as ending
use Rattle.cc_meaning.specs.declared.report.StopCause.{StopCause}
use Rattle.cc_meaning.specs.declared.frame.Frame.{Frame}
use Rattle.cc_meaning.specs.declared.image.RunImage.{RunImage}
use Rattle.cc_meaning_run.specs.Acts.{less_by}
use Rattle.cc_meaning_run.specs.Instructions.{line_of}
use Rattle.cc_meaning_plain.specs.declared.plain.PlainInsn.{PlainInsn}
use Rattle.cc_meaning_plain.specs.declared.plain.PlainInsn.TheVariants.{SgetOut, Const4, AddInt2Addr, AddIntLit8, InvokePrintln, CallFunction}
use Rattle.cc_meaning_plain.specs.declared.plain.PlainFunction.{PlainFunction}
use Rattle.cc_meaning_plain.specs.declared.plain.Plain.{Plain}
use Rattle.cc_meaning_plain.specs.Program.{function_number, program_of}
use Rattle.cc_meaning_plain.specs.Staged.{stage_report}
use Rattle.cc_meaning_plain.specs.Text.{number_at, value_by, instructions_by}
use Rattle.cc_meaning_device.specs.Received.{Received, Offloaded, Taken, not_opened, behind_ready, back_of_frames}
use Rattle.cc_meaning_device.specs.Straight.{given_here, called_here, entry_image, came_back, called_there, called, Course, course_printing, course_behind, course_of, course_within, plain_course, offloaded_by, PlainOffloads}
use Rattle.cc_meaning_device.specs.Complete.{moved_calls, MergesEach, EachCallMigrates}
use Rattle.cc_meaning_device.proofs.Merges.{one_longer}

-- what didn't fall back hadn't before, and so many images were noted since
record Noted (t : Received) (n : ℕ) (t' : Received) : Type 0 where
  up : t.fallen ≡ false
  many : length t'.images ≡ length t.images + n

-- that is so where it didn't fall back
abbrev Notes : Received → ℕ → Received → Type 0
Notes t n t' = t'.fallen ≡ false → Noted t n t'

-- and where the run returned
abbrev Returns : Received → ℕ → Course → Type 0
Returns t n c = c.stage.ending ≡ ending.Returned → Notes t n c.received

none_noted : (t : Received) → Notes t 0 t
none_noted t = λ up. record { up = up; many = omega arith }

given_notes : (paid : Option ℕ) (n : ℤ) (words : ℕ) (t : Received) → Notes t 0 (given_here paid n words t).received
given_notes None n words t = none_noted t
given_notes (Some left) n words t = none_noted t

fell_notes : (paid : Option ℕ) (n : ℤ) (words : ℕ) (t u : Received) (count : ℕ) → u.fallen ≡ true → Notes t count (given_here paid n words u).received
fell_notes None n words t u count fell = λ up. let both : true ≡ false = sym fell ∙ up in absurd cc
fell_notes (Some left) n words t u count fell = λ up. let both : true ≡ false = sym fell ∙ up in absurd cc

back_notes : (f : Option PlainFunction) (n : ℤ) (image : RunImage) (t : Received) (o : Option Taken) → Notes t 1 (came_back f n image t o).received
back_notes f n image t None = fell_notes (less_by (instructions_by f) image.instructions) (value_by f n) image.words t (record t { images = t.images ++ image ∷ []; fallen = true }) 1 refl
back_notes f n image t (Some taken) = λ up. record { up = up; many = let longer = one_longer t.images image in omega (arith, longer) }

behind_returns : (v : Result ℤ StopCause) (instructions words : ℕ) (t u : Received) (a b : ℕ) (go : ℤ → ℕ → Course) → Notes t a u → ((n : ℤ) (left : ℕ) → Returns u b (go n left)) → Returns t (a + b) (course_behind v instructions words u go)
behind_returns (Err stop) instructions words t u a b go noted more = λ ended. absurd cc
behind_returns (Ok n) zero words t u a b go noted more = λ ended. absurd cc
behind_returns (Ok n) (suc left) words t u a b go noted more = λ ended up.
    let later = more n left ended up in
    let before = noted later.up in
    let one = before.many in
    let two = later.many in
    record { up = before.up; many = omega (arith, one, two) }

printing_returns : (line : List ℕ) (instructions words : ℕ) (paid : Option ℕ) (t : Received) (n : ℕ) (go : ℕ → Course) → ((left : ℕ) → Returns t n (go left)) → Returns t n (course_printing line instructions words paid t go)
printing_returns line instructions words None t n go more = λ ended. absurd cc
printing_returns line instructions words (Some left) t n go more = more left

module _ (plain : Plain) (moves : ℕ → Bool) where
  called_notes : (function : ℕ) (n : ℤ) (instructions words : ℕ) (t : Received) → Notes t (cond (moves (function_number plain function)) 1 0) (called plain moves function n instructions words t).received
  unfolding called
  called_notes function n instructions words t = by t.fallen refl (moves (function_number plain function))
    where
      by : (fallen : Bool) → t.fallen ≡ fallen → (moved : Bool) →
          Notes t (cond moved 1 0) (cond (not fallen && moved) (called_there plain function n (entry_image plain function n instructions words) t) (called_here (slice_get plain.functions function) n instructions words t)).received
      by false e true = let image = entry_image plain function n instructions words in back_notes (slice_get plain.functions function) n image t (back_of_frames (program_of plain) image (behind_ready t))
      by false e false = given_notes (less_by (instructions_by (slice_get plain.functions function)) instructions) (value_by (slice_get plain.functions function) n) words t
      by true e moved = fell_notes (less_by (instructions_by (slice_get plain.functions function)) instructions) (value_by (slice_get plain.functions function) n) words t t (cond moved 1 0) e

  course_returns : (insns : List PlainInsn) (ns : List ℤ) (instructions words : ℕ) (t : Received) → Returns t (moved_calls plain moves insns) (course_of plain moves ns insns instructions words t)
  unfolding course_of moved_calls
  course_returns [] ns zero words t = λ ended. absurd cc
  course_returns [] ns (suc left) words t = λ ended. none_noted t
  course_returns (SgetOut to ∷ rest) ns zero words t = λ ended. absurd cc
  course_returns (SgetOut to ∷ rest) ns (suc left) words t = course_returns rest ns left words t
  course_returns (Const4 to v ∷ rest) ns zero words t = λ ended. absurd cc
  course_returns (Const4 to v ∷ rest) ns (suc left) words t = course_returns rest (slice_set ns to v) left words t
  course_returns (AddInt2Addr to other ∷ rest) ns zero words t = λ ended. absurd cc
  course_returns (AddInt2Addr to other ∷ rest) ns (suc left) words t = course_returns rest (slice_set ns to (int_wrapping_add w32 (number_at ns to) (number_at ns other))) left words t
  course_returns (AddIntLit8 to from literal ∷ rest) ns zero words t = λ ended. absurd cc
  course_returns (AddIntLit8 to from literal ∷ rest) ns (suc left) words t = course_returns rest (slice_set ns to (int_wrapping_add w32 (number_at ns from) literal)) left words t
  course_returns (InvokePrintln stream from ∷ rest) ns zero words t = λ ended. absurd cc
  course_returns (InvokePrintln stream from ∷ rest) ns (suc left) words t =
      let line = line_of (number_at ns from) in
      printing_returns line left words (less_by (2 + length line) words) t (moved_calls plain moves rest) (λ words'. course_of plain moves ns rest left words' t) (λ words'. course_returns rest ns left words' t)
  course_returns (CallFunction function argument to ∷ rest) ns zero words t = λ ended. absurd cc
  course_returns (CallFunction function argument to ∷ rest) ns (suc left) words t =
      let came = called plain moves function (number_at ns argument) left words t in
      behind_returns came.value came.instructions came.words t came.received (cond (moves (function_number plain function)) 1 0) (moved_calls plain moves rest)
      (λ n left'. course_of plain moves (slice_set ns to n) rest left' came.words came.received) (called_notes function (number_at ns argument) left words t)
      (λ n left'. course_returns rest (slice_set ns to n) left' came.words came.received)

  plain_returns : (limits : Limits) (frames : List Frame) → Returns (not_opened frames) (moved_calls plain moves plain.main.insns) (plain_course plain moves limits frames)
  unfolding plain_course course_within
  plain_returns limits frames = by (less_by 2 limits.words)
    where
      by : (paid : Option ℕ) → Returns (not_opened frames) (moved_calls plain moves plain.main.insns) (course_within plain moves limits paid (not_opened frames))
      by None = λ ended. absurd cc
      by (Some words) = course_returns plain.main.insns (replicate plain.main.registers (pos 0)) limits.instructions words (not_opened frames)

some_report : (a b : Report) → Some a ≡ Some b → a ≡ b
some_report a b e = cc

pub each_call : PlainOffloads → MergesEach → EachCallMigrates
each_call offloads merges file plain moves limits frames report bytes is reported returned up =
    let course = plain_course plain moves limits frames in
    let same = offloads file plain moves limits frames bytes is in
    let is_report : stage_report limits course.stage ≡ report = some_report (stage_report limits course.stage) report (sym (ap (λ (o : Offloaded). o.report) same) ∙ reported) in
    let noted = plain_returns plain moves limits frames (ap (λ (r : Report). r.ending) is_report ∙ returned) (sym (ap (λ (o : Offloaded). o.received.fallen) same) ∙ up) in
    merges file plain moves limits frames bytes is up ∙ ap (λ (o : Offloaded). length o.received.images) same ∙ (let many = noted.many in omega (arith, many))
