-- What the image of a plain function's entry says of its end.
use Rattle.std.proofs.Common.{◌≡◌, ℕ, Bool, true, false, cond, List, [], ◌∷◌, length, Option, Some, None, refl, sym, ap, ◌∙◌, subst, arith, slice_get}
use Rattle.cc_meaning.specs.declared.program.DexType.{DexType}
use Rattle.cc_meaning.specs.declared.program.Method.{Method}
use Rattle.cc_meaning.specs.declared.program.Code.{Code}
use Rattle.cc_meaning.specs.declared.program.Program.{Program}
use Rattle.cc_meaning.specs.declared.image.RunImage.{RunImage}
use Rattle.cc_meaning_run.specs.Instructions.{code_of_kind}
use Rattle.cc_meaning_images.specs.Forms.{IsRunOf}
use Rattle.cc_meaning_images.specs.Reading.{Runnable, is_movable, runnable_if, runnable_method, runnable, result_of}
use Rattle.cc_meaning_plain.specs.declared.plain.PlainFunction.{PlainFunction}
use Rattle.cc_meaning_plain.specs.declared.plain.Plain.{Plain}
use Rattle.cc_meaning_plain.specs.Program.{code_of, function_of, program_of}
use Rattle.cc_meaning_clone.specs.Functions.{is_ordinary, function_numbered, runnable_function, FormIs, RunnableIs}
use Rattle.cc_wire.specs.Backs.{int_result}

-- the method of a runnable one is the program's
was_method : (b : Bool) (method : Method) (code : Option Code) (t : Runnable) → runnable_if b method code ≡ Some t → t.method ≡ method
was_method true method (Some code) t e = cc
was_method true method None t e = absurd cc
was_method false method (Some code) t e = absurd cc
was_method false method None t e = absurd cc

was_there : (p : Program) (m : ℕ) (o : Option Method) (t : Runnable) → runnable_method p m o ≡ Some t → o ≡ Some t.method
was_there p m None t e = absurd cc
was_there p m (Some method) t e = ap Some (sym (was_method (is_movable p m method) method (code_of_kind method.kind) t e))

runs_there : (p : Program) (m : ℕ) (t : Runnable) → runnable p m ≡ Some t → slice_get p.methods m ≡ Some t.method
unfolding runnable
runs_there p m t e = was_there p m (slice_get p.methods m) t e

gives_int_by : (plain : Plain) (o : Option PlainFunction) (t : Runnable) → runnable_function plain o ≡ Some t → t.method.result ≡ Some int_result
unfolding function_of
gives_int_by plain None t e = absurd cc
gives_int_by plain (Some f) t e = by (is_ordinary f) e
  where
    by : (b : Bool) → cond b (Some (record { method = function_of plain f; code = code_of plain f.code })) None ≡ Some t → t.method.result ≡ Some int_result
    by true g = let same : record { method = function_of plain f; code = code_of plain f.code } ≡ t = cc in sym (ap (λ (x : Runnable). x.method.result) same)
    by false g = absurd cc

-- its method gives an int
pub gives_int : RunnableIs → (plain : Plain) (image : RunImage) → IsRunOf (program_of plain) image → result_of (slice_get (program_of plain).methods image.method) ≡ Some int_result
gives_int runnables plain image h =
    ap result_of (runs_there (program_of plain) image.method h.target h.runs)
    ∙ gives_int_by plain (function_numbered plain image.method) h.target (sym (runnables plain image.method) ∙ h.runs)

-- it has one status
pub some_status : (plain : Plain) → FormIs plain → (image : RunImage) → IsRunOf (program_of plain) image → length image.statuses ≡ 1
some_status plain form image h = h.all_statuses ∙ form.one_class

only_status : (ss : List ℕ) (s : ℕ) → length ss ≡ 1 → slice_get ss 0 ≡ Some s → ss ≡ s ∷ []
only_status [] s len e = absurd (omega arith)
only_status (t ∷ []) s len e = cc
only_status (t ∷ u ∷ ss) s len e = absurd (omega arith)

pub status_is : (plain : Plain) → FormIs plain → (image : RunImage) → IsRunOf (program_of plain) image → (s : ℕ) → slice_get image.statuses 0 ≡ Some s → image.statuses ≡ s ∷ []
status_is plain form image h s e = only_status image.statuses s (some_status plain form image h) e
