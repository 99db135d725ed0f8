-- The functions of a plain file by the numbers of their methods, and what a Run of one comes to.
use Rattle.std.specs.Prelude.{◌≡◌, ℕ, ◌+◌, ◌-◌, ◌≤◌, ◌==◌, ◌&&◌, length, nat_lt, not, Bool, cond, ℤ, List, [], ◌∷◌, Option, Some, None, slice_get, option_and_then, codes}
use Rattle.std.specs.Str.{bytes_eq}
use Rattle.cc_meaning.specs.declared.value.Value.TheVariants as value
use Rattle.cc_meaning.specs.declared.report.CallEnd.{CallEnd}
use Rattle.cc_meaning.specs.declared.report.CallEnd.TheVariants as end
use Rattle.cc_meaning.specs.declared.report.StopCause.TheVariants as cause
use Rattle.cc_meaning.specs.declared.image.Contents.TheVariants as contents
use Rattle.cc_meaning.specs.declared.image.RunImage.{RunImage}
use Rattle.cc_meaning.specs.declared.image.BackImage.{BackImage}
use Rattle.cc_meaning_run.specs.Acts.{less_by}
use Rattle.cc_meaning_images.specs.Spelling.{spelled_back}
use Rattle.cc_meaning_images.specs.Reading.{Runnable, runnable, classes_of_file, argument_kinds, static_kinds}
use Rattle.cc_meaning_images.specs.Forms.{IsRunOf}
use Rattle.cc_meaning.specs.declared.instruction.Kind.TheVariants as access
use Rattle.cc_meaning_plain.specs.declared.plain.PlainCode.{PlainCode}
use Rattle.cc_meaning_plain.specs.declared.plain.PlainFunction.{PlainFunction}
use Rattle.cc_meaning_plain.specs.declared.plain.Plain.{Plain}
use Rattle.cc_meaning_plain.specs.Laws.{AreBytes}
use Rattle.cc_meaning_plain.specs.Plain.{IsPlain}
use Rattle.cc_meaning_plain.specs.Program.{before_main, first_method, bare_name, code_of, function_of, program_of}
use Rattle.cc_meaning_plain.specs.Text.{value_of, instructions_of}
use Rattle.cc_meaning_clone.specs.Served.{answered}

-- ---- numbers

-- the place among the functions of the method of a place among those of the file
abbrev pub place_beside : ℕ → ℕ → Option ℕ
place_beside main i = cond (i == main) None (Some (cond (nat_lt i main) i (i - 1)))

-- the place among the functions of the method of a number
unfoldable pub function_place : Plain → ℕ → Option ℕ
function_place plain m = cond (nat_lt m (first_method plain)) None (place_beside (before_main plain.functions) (m - first_method plain))

unfoldable pub function_numbered : Plain → ℕ → Option PlainFunction
function_numbered plain m = option_and_then (λ (i : ℕ). slice_get plain.functions i) (function_place plain m)

-- neither a constructor nor an initialiser
abbrev pub is_ordinary : PlainFunction → Bool
is_ordinary f = not (bytes_eq (bare_name f.name) (codes "<init>")) && not (bytes_eq (bare_name f.name) (codes "<clinit>"))

abbrev pub runnable_function : Plain → Option PlainFunction → Option Runnable
runnable_function plain None = None
runnable_function plain (Some f) = cond (is_ordinary f) (Some (record { method = function_of plain f; code = code_of plain f.code })) None

-- ---- a Run of a function

-- how a function ends, where so many instructions are left behind it, or too few stand
abbrev pub function_end : PlainCode → ℤ → Option ℕ → CallEnd
function_end code argument None = end.Stopped cause.Budget
function_end code argument (Some left) = end.Returned (Some (value.Int (value_of code argument)))

abbrev pub left_of : Option ℕ → ℕ
left_of None = 0
left_of (Some left) = left

-- the image of the end of a function, which changes nothing but the instructions left
abbrev pub end_image : CallEnd → ℕ → RunImage → BackImage
end_image ending left run = record {
  ending = ending;
  instructions = left;
  words = run.words;
  statuses = run.statuses;
  statics = [];
  literals = [];
  constants = [];
  events = [];
  old = contents.Nothing ∷ [];
  fresh = [];
}

-- ---- laws

-- the methods that a Run may be of are the functions
abbrev pub RunnableIs : Type 0
RunnableIs = (plain : Plain) (m : ℕ) → runnable (program_of plain) m ≡ runnable_function plain (function_numbered plain m)

-- what the images of a plain file go by: one class, no statics that are sent, and of a function one argument
pub record FormIs (plain : Plain) : Type 0 where
  pub one_class : classes_of_file (program_of plain) ≡ 1
  pub no_statics : static_kinds (program_of plain) ≡ []
  pub one_argument : (f : PlainFunction) → argument_kinds (function_of plain f) ≡ access.Plain ∷ []

-- a Run of a function is answered with the end that its instructions come to
abbrev pub AnsweredIs : Type 0
AnsweredIs = (file : List ℕ) (plain : Plain) (image : RunImage) (f : PlainFunction) (n : ℤ) → AreBytes file → IsPlain file plain → IsRunOf (program_of plain) image →
    function_numbered plain image.method ≡ Some f → image.args ≡ value.Int n ∷ [] →
    answered plain image ≡ end_image (function_end f.code n (less_by (instructions_of f.code) image.instructions)) (left_of (less_by (instructions_of f.code) image.instructions)) image

-- a Run of a plain file is one of a function, with a number and the status of the one class
pub record RunParts (plain : Plain) (image : RunImage) : Type 0 where
  pub function : PlainFunction
  pub argument : ℤ
  pub status : ℕ
  pub found : function_numbered plain image.method ≡ Some function
  pub args : image.args ≡ value.Int argument ∷ []
  pub statuses : image.statuses ≡ status ∷ []

abbrev pub RunsHaveParts : Type 0
RunsHaveParts = (plain : Plain) (image : RunImage) → IsRunOf (program_of plain) image → RunParts plain image

-- and its Back is short
abbrev pub BacksAreShort : Type 0
BacksAreShort = (code : PlainCode) (n : ℤ) (left : Option ℕ) (run : RunImage) (status : ℕ) → run.statuses ≡ status ∷ [] →
    length (spelled_back (end_image (function_end code n left) (left_of left) run)) ≤ 30
