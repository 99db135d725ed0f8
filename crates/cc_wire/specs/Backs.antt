-- The parts of the image of a function's end, in the order in which they are read.
use Rattle.std.specs.Prelude.{◌≡◌, ◌≢◌, ℕ, List, [], ◌∷◌, Result, Ok, Err}
use Rattle.cc_meaning.specs.declared.program.Base.TheVariants as base
use Rattle.cc_meaning.specs.declared.program.DexType.{DexType}
use Rattle.cc_meaning.specs.declared.fault.ImageFault.{ImageFault}
use Rattle.cc_meaning.specs.declared.fault.ImageFault.TheVariants.{Memory}
use Rattle.cc_meaning.specs.declared.image.BackImage.{BackImage}
use Rattle.cc_meaning_images.specs.Reading.{Got, got, wrong, BackHead as HeadRead, back_by_head}
use Rattle.cc_wire.specs.declared.back.BackHead.{BackHead}

-- a function gives an int
abbrev pub int_result : DexType
int_result = record { dims = 0; base = base.Int }

abbrev pub head_of : BackHead → HeadRead
head_of head = record { ending = head.ending; instructions = head.instructions; words = head.words }

abbrev pub ReadsBackHead : Got HeadRead → Result BackHead ImageFault → ℕ → List ℕ → Type 0
ReadsBackHead x (Ok head) at rest = x ≡ got (head_of head) at rest
ReadsBackHead x (Err fault) at rest = fault ≢ Memory → x ≡ wrong fault

-- the image by its parts
abbrev pub back_image_of : BackHead → ℕ → BackImage
back_image_of head status = back_by_head (head_of head) (status ∷ []) []

abbrev pub ReadsBackBehind : BackHead → Got BackImage → Result ℕ ImageFault → ℕ → List ℕ → Type 0
ReadsBackBehind head x (Ok status) at rest = x ≡ got (back_image_of head status) at rest
ReadsBackBehind head x (Err fault) at rest = fault ≢ Memory → x ≡ wrong fault
