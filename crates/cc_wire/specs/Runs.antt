-- The parts of a Run of a plain file, in the order in which they are read.
use Rattle.std.specs.Prelude.{◌≡◌, ◌≢◌, ℕ, ℤ, cond, List, [], ◌∷◌, Option, Some, None, option_map, Result, Ok, Err}
use Rattle.cc_meaning.specs.declared.value.Value.TheVariants as value
use Rattle.cc_meaning.specs.declared.fault.ImageFault.{ImageFault}
use Rattle.cc_meaning.specs.declared.fault.ImageFault.TheVariants.{Memory}
use Rattle.cc_meaning.specs.declared.image.RunImage.{RunImage}
use Rattle.cc_meaning_images.specs.Reading.{Got, got, wrong, Runnable, RunHead, run_by}
use Rattle.cc_meaning_plain.specs.declared.plain.PlainFunction.{PlainFunction}
use Rattle.cc_meaning_plain.specs.declared.plain.Plain.{Plain}
use Rattle.cc_meaning_plain.specs.Program.{code_of, function_of}
use Rattle.cc_wire.specs.declared.run.Head.{Head}

-- a function as what a Run may be of
abbrev pub target_of : Plain → PlainFunction → Runnable
target_of plain f = record { method = function_of plain f; code = code_of plain f.code }

-- the numbers before the statuses, with the function
abbrev pub head_of : Plain → PlainFunction → Head → RunHead
head_of plain f head = record {
  target = target_of plain f;
  method = head.method;
  instructions = head.instructions;
  words = head.words;
  depth = head.depth;
  registers = head.registers;
}

-- what is read of a function's Run before the statuses
abbrev pub ReadsHead : Plain → Got RunHead → Result Head ImageFault → ℕ → List ℕ → Type 0
ReadsHead plain x (Ok head) at rest = (f : PlainFunction) × (x ≡ got (head_of plain f head) at rest)
ReadsHead plain x (Err fault) at rest = fault ≢ Memory → x ≡ wrong fault

-- the image of a function's entry by its parts
abbrev pub image_of : Plain → PlainFunction → Head → ℕ → ℤ → RunImage
image_of plain f head status argument = run_by (head_of plain f head) (status ∷ []) (value.Int argument ∷ []) []

-- what is read of a function's Run behind these numbers: a status, and an argument
abbrev pub ReadsBehind : Plain → PlainFunction → Head → Got RunImage → Result (ℕ × ℤ) ImageFault → ℕ → List ℕ → Type 0
ReadsBehind plain f head x (Ok parts) at rest = x ≡ got (image_of plain f head parts.0 parts.1) at rest
ReadsBehind plain f head x (Err fault) at rest = fault ≢ Memory → x ≡ wrong fault
