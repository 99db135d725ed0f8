-- What a Run of a plain file is served with.
use Rattle.std.proofs.Common.{◌≡◌, ℕ, ◌≤◌, ℤ, List, [], ◌∷◌, length, Option, Some, None, Result, Ok, Err, refl, sym, ap, ◌∙◌, subst, arith, slice_get}
use Rattle.cc_meaning.specs.declared.value.Value.{Value}
use Rattle.cc_meaning.specs.declared.value.Value.TheVariants as value
use Rattle.cc_meaning.specs.declared.report.CallEnd.TheVariants as end
use Rattle.cc_meaning.specs.declared.report.StopCause.TheVariants as cause
use Rattle.cc_meaning.specs.declared.fault.ImageFault.{ImageFault}
use Rattle.cc_meaning.specs.declared.image.RunImage.{RunImage}
use Rattle.cc_meaning.specs.declared.image.BackImage.{BackImage}
use Rattle.cc_meaning_run.specs.Acts.{less_by}
use Rattle.cc_meaning_images.specs.Spelling.{spelled_back}
use Rattle.cc_meaning_images.specs.Forms.{IsRunOf}
use Rattle.cc_meaning_images.specs.Reading.{read_run}
use Rattle.cc_meaning_nodes.specs.Clone.{Served, Backs, IsFalse}
use Rattle.cc_meaning_plain.specs.declared.plain.PlainFunction.{PlainFunction}
use Rattle.cc_meaning_plain.specs.declared.plain.Plain.{Plain}
use Rattle.cc_meaning_plain.specs.Program.{program_of}
use Rattle.cc_meaning_plain.specs.Text.{value_of, instructions_of}
use Rattle.cc_meaning_clone.specs.Served.{answered, served_by, served}
use Rattle.cc_meaning_clone.specs.Functions.{function_numbered, function_end, left_of, end_image, RunParts, RunsHaveParts, AnsweredIs, BacksAreShort}
use Rattle.cc_clone.specs.Parts.{IsOfFile}

-- ---- the image of the end

-- the argument is a number
pub argument_is : (plain : Plain) (run : RunImage) (parts : RunParts plain run) (v : Value) → slice_get run.args 0 ≡ Some v → v ≡ value.Int parts.argument
argument_is plain run parts v e = let same : Some v ≡ Some (value.Int parts.argument) = sym e ∙ ap (λ (vs : List Value). slice_get vs 0) parts.args in cc

pub some_argument : (plain : Plain) (run : RunImage) → RunParts plain run → length run.args ≡ 1
some_argument plain run parts = ap (λ (vs : List Value). length vs) parts.args

module _ (is : AnsweredIs) (plain : Plain) (of_file : IsOfFile plain) (run : RunImage) (is_run : IsRunOf (program_of plain) run) (f : PlainFunction) (n : ℤ)
    (found : function_numbered plain run.method ≡ Some f) (args : run.args ≡ value.Int n ∷ []) where
  by_left : (left : Option ℕ) → less_by (instructions_of f.code) run.instructions ≡ left → answered plain run ≡ end_image (function_end f.code n left) (left_of left) run
  by_left left e = is of_file.0 plain run f n of_file.1 of_file.2 is_run found args ∙ ap (λ (o : Option ℕ). end_image (function_end f.code n o) (left_of o) run) e

  -- it returned
  pub returned : (v : ℤ) (left : ℕ) → v ≡ value_of f.code n → less_by (instructions_of f.code) run.instructions ≡ Some left →
      end_image (end.Returned (Some (value.Int v))) left run ≡ answered plain run
  returned v left same e = ap (λ (k : ℤ). end_image (end.Returned (Some (value.Int k))) left run) same ∙ sym (by_left (Some left) e)

  -- or it stopped
  pub stopped : less_by (instructions_of f.code) run.instructions ≡ None → end_image (end.Stopped cause.Budget) 0 run ≡ answered plain run
  stopped e = sym (by_left None e)

-- ---- the payload

pub false_run : (plain : Plain) (payload : List ℕ) (fault : ImageFault) → read_run (program_of plain) payload ≡ Err fault → IsFalse fault ≡ served plain payload
unfolding served
false_run plain payload fault e = sym (ap (served_by plain) e)

pub good_run : (plain : Plain) (payload bytes : List ℕ) (run : RunImage) (back : BackImage) → read_run (program_of plain) payload ≡ Ok run → back ≡ answered plain run →
    bytes ≡ spelled_back back → Backs bytes plain ≡ served plain payload
unfolding served
good_run plain payload bytes run back e is spelled =
    ap (λ (xs : List ℕ). Backs xs plain) (spelled ∙ ap spelled_back is) ∙ sym (ap (served_by plain) e)

pub short_back : RunsHaveParts → AnsweredIs → BacksAreShort → (plain : Plain) → IsOfFile plain → (run : RunImage) → IsRunOf (program_of plain) run → (back : BackImage) (bytes : List ℕ) →
    back ≡ answered plain run → bytes ≡ spelled_back back → length bytes ≤ 67108864
short_back parts answers short plain of_file run is_run back bytes is spelled =
    let p = parts plain run is_run in
    let left = less_by (instructions_of p.function.code) run.instructions in
    let same : back ≡ end_image (function_end p.function.code p.argument left) (left_of left) run = is ∙ answers of_file.0 plain run p.function p.argument of_file.1 of_file.2 is_run p.found p.args in
    let all : length bytes ≡ length (spelled_back (end_image (function_end p.function.code p.argument left) (left_of left) run)) = ap (λ (xs : List ℕ). length xs) (spelled ∙ ap spelled_back same) in
    omega (arith, all, short p.function.code p.argument left run p.status p.statuses)
