-- How instructions end over received frames.
use Rattle.std.proofs.Common.{◌≡◌, ℕ, zero, suc, ◌+◌, List, [], ◌∷◌, Option, Some, None, Result, Ok, Err, refl, sym, ap, subst, ◌∙◌, length}
use Rattle.std.specs.Prelude.{IsSome, slice_get, Bool, true, false, cond, ℤ, not, ◌&&◌, ◌==◌}
use Rattle.cc_meaning.specs.declared.report.StopCause.{StopCause}
use Rattle.cc_meaning.specs.declared.report.Limits.{Limits}
use Rattle.cc_meaning.specs.declared.report.CallEnd.{CallEnd}
use Rattle.cc_meaning.specs.declared.report.CallEnd.TheVariants as end
use Rattle.cc_meaning.specs.declared.value.Value.TheVariants as value
use Rattle.cc_meaning.specs.declared.frame.Frame.{Frame}
use Rattle.cc_meaning.specs.declared.image.RunImage.{RunImage}
use Rattle.cc_meaning.specs.declared.fault.ImageFault.{ImageFault}
use Rattle.cc_meaning.specs.declared.image.BackImage.{BackImage}
use Rattle.cc_meaning.specs.declared.program.Program.{Program}
use Rattle.cc_output.specs.Travel.{stopped_line, ended_line}
use Rattle.cc_meaning_run.specs.Acts.{less_by}
use Rattle.cc_meaning_run.specs.Instructions.{line_of}
use Rattle.cc_meaning_images.specs.Reading.{read_back}
use Rattle.cc_meaning_nodes.specs.Clone.{back_kind}
use Rattle.cc_meaning_plain.specs.declared.plain.PlainInsn.{PlainInsn}
use Rattle.cc_meaning_plain.specs.declared.plain.PlainInsn.TheVariants.{SgetOut, Const4, AddInt2Addr, AddIntLit8, InvokePrintln, CallFunction}
use Rattle.cc_meaning_plain.specs.declared.plain.PlainFunction.{PlainFunction}
use Rattle.cc_meaning_plain.specs.declared.plain.Plain.{Plain}
use Rattle.cc_meaning_plain.specs.Program.{function_number, program_of}
use Rattle.cc_meaning_plain.specs.Staged.{stage_report}
use Rattle.cc_meaning_plain.specs.Text.{number_at, value_by, instructions_by}
use Rattle.cc_meaning_device.specs.Received.{Received, not_opened, Taken, behind_ready, read_as, back_of_frames}
use Rattle.cc_meaning_device.specs.Straight.{Came, given_here, entry_image, value_back, came_back, called, Course, course_taking, course_printing, course_behind, course_of, course_within, plain_course, PlainOffloads}
use Rattle.cc_meaning_ends.specs.Ends.{EndsPlainly, PlainEnds}
use Rattle.cc_meaning_ends.proofs.Backs.{OfOk, IsPlainEnd, EndsBack, back_plain}

-- ---- a call

-- a value, or one of the two stops
abbrev IsPlainValue : Result ℤ StopCause → Type 0
IsPlainValue (Ok n) = Unit {0}
IsPlainValue (Err stop) = IsSome (stopped_line stop)

value_plain : (e : CallEnd) → IsPlainEnd e → IsPlainValue (value_back e)
value_plain (end.Returned None) h = tt
value_plain (end.Returned (Some (value.Int n))) h = tt
value_plain (end.Returned (Some (value.Long n))) h = tt
value_plain (end.Returned (Some (value.Obj o))) h = tt
value_plain (end.Thrown number) h = tt
value_plain (end.Stopped stop) h = h

here_plain : (left : Option ℕ) (n : ℤ) (words : ℕ) (t : Received) → IsPlainValue (given_here left n words t).value
here_plain None n words t = refl
here_plain (Some left) n words t = tt

abbrev EndsTaken : Option Taken → Type 0
EndsTaken None = Unit {0}
EndsTaken (Some taken) = EndsBack taken.back

read_taken : (rest : List Frame) (r : Result BackImage ImageFault) → OfOk EndsBack r → EndsTaken (read_as rest r)
read_taken rest (Ok back) h = h
read_taken rest (Err fault) h = tt

by_kind : (b : Bool) (taken : Option Taken) → EndsTaken taken → EndsTaken (cond b taken None)
by_kind true taken h = h
by_kind false taken h = tt

taken_plain : (p : Program) (image : RunImage) (frames : Option (List Frame)) → EndsTaken (back_of_frames p image frames)
unfolding back_of_frames
taken_plain p image None = tt
taken_plain p image (Some []) = tt
taken_plain p image (Some (frame ∷ rest)) = by_kind (frame.kind == back_kind) _ (read_taken rest (read_back p image frame.payload) (back_plain p image frame.payload))

back_value : (f : Option PlainFunction) (n : ℤ) (image : RunImage) (t : Received) (taken : Option Taken) → EndsTaken taken → IsPlainValue (came_back f n image t taken).value
back_value f n image t None h = here_plain (less_by (instructions_by f) image.instructions) (value_by f n) image.words _
back_value f n image t (Some taken) h = value_plain taken.back.ending h

either : (b : Bool) (there here : Came) → IsPlainValue there.value → IsPlainValue here.value → IsPlainValue (cond b there here).value
either true there here h k = h
either false there here h k = k

called_plain : (plain : Plain) (moves : ℕ → Bool) (function : ℕ) (n : ℤ) (instructions words : ℕ) (t : Received) → IsPlainValue (called plain moves function n instructions words t).value
unfolding called
called_plain plain moves function n instructions words t =
    let image = entry_image plain function n instructions words in
    let f = slice_get plain.functions function in
    either (not t.fallen && moves (function_number plain function)) _ _
    (back_value f n image t (back_of_frames (program_of plain) image (behind_ready t)) (taken_plain (program_of plain) image (behind_ready t)))
    (here_plain (less_by (instructions_by f) instructions) (value_by f n) words t)

-- ---- down the instructions

abbrev Ends : Course → Type 0
Ends course = IsSome (ended_line course.stage.ending)

taking_plain : (instructions words : ℕ) (t : Received) (go : ℕ → Course) → ((left : ℕ) → Ends (go left)) → Ends (course_taking instructions words t go)
taking_plain zero words t go h = refl
taking_plain (suc left) words t go h = h left

printing_plain : (line : List ℕ) (instructions words : ℕ) (left : Option ℕ) (t : Received) (go : ℕ → Course) → ((left : ℕ) → Ends (go left)) → Ends (course_printing line instructions words left t go)
printing_plain line instructions words None t go h = refl
printing_plain line instructions words (Some left) t go h = h left

behind_call : (value : Result ℤ StopCause) (instructions words : ℕ) (t : Received) (go : ℤ → ℕ → Course) → IsPlainValue value → ((n : ℤ) (left : ℕ) → Ends (go n left)) → Ends (course_behind value instructions words t go)
behind_call (Ok n) instructions words t go v h = taking_plain instructions words t (go n) (h n)
behind_call (Err stop) instructions words t go v h = v

module _ (plain : Plain) (moves : ℕ → Bool) where
  course_plain : (insns : List PlainInsn) (numbers : List ℤ) (instructions words : ℕ) (t : Received) → Ends (course_of plain moves numbers insns instructions words t)
  unfolding course_of
  course_plain [] numbers instructions words t = taking_plain instructions words t _ (λ left. refl)
  course_plain (SgetOut to ∷ rest) numbers instructions words t = taking_plain instructions words t _ (λ left. course_plain rest numbers left words t)
  course_plain (Const4 to value ∷ rest) numbers instructions words t = taking_plain instructions words t _ (λ left. course_plain rest _ left words t)
  course_plain (AddInt2Addr to other ∷ rest) numbers instructions words t = taking_plain instructions words t _ (λ left. course_plain rest _ left words t)
  course_plain (AddIntLit8 to from literal ∷ rest) numbers instructions words t = taking_plain instructions words t _ (λ left. course_plain rest _ left words t)
  course_plain (InvokePrintln stream number ∷ rest) numbers instructions words t =
      taking_plain instructions words t _ (λ left.
      printing_plain (line_of (number_at numbers number)) left words (less_by (2 + length (line_of (number_at numbers number))) words) t _ (λ words'.
      course_plain rest numbers left words' t))
  course_plain (CallFunction function argument to ∷ rest) numbers instructions words t =
      taking_plain instructions words t _ (λ left.
      let c = called plain moves function (number_at numbers argument) left words t in
      behind_call c.value c.instructions c.words c.received _ (called_plain plain moves function (number_at numbers argument) left words t) (λ n left'.
      course_plain rest _ left' c.words c.received))

  within_plain : (limits : Limits) (words : Option ℕ) (t : Received) → Ends (course_within plain moves limits words t)
  unfolding course_within
  within_plain limits None t = refl
  within_plain limits (Some words) t = course_plain plain.main.insns _ limits.instructions words t

  pub whole_course : (limits : Limits) (frames : List Frame) → Ends (plain_course plain moves limits frames)
  unfolding plain_course
  whole_course limits frames = within_plain limits (less_by 2 limits.words) (not_opened frames)

some_same : {A : Type 0} {a b : A} → Some a ≡ Some b → a ≡ b
some_same e = cc

pub plain_ends : PlainOffloads → PlainEnds
plain_ends offloads file plain moves limits frames report bytes is e =
    let course = plain_course plain moves limits frames in
    let same : stage_report limits course.stage ≡ report = some_same (sym (ap (λ o. o.report) (offloads file plain moves limits frames bytes is)) ∙ e) in
    subst EndsPlainly same (record { no_calls = refl; ended = whole_course plain moves limits frames })
