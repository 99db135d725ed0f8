-- What an image is whose bytes are read, and the laws that reading is spelling.
use Rattle.std.specs.Prelude.{◌≡◌, ◌⊎◌, ℕ, ◌+◌, ◌<◌, ◌≤◌, ◌^◌, List, [], ◌∷◌, length, Option, Some, None, Ok, slice_get, slice_index}
use Rattle.std.specs.Int.{w32}
use Rattle.std.specs.Int.RustNames.{FitsSigned}
use Rattle.cc_meaning.specs.declared.instruction.Kind.{Kind}
use Rattle.cc_meaning.specs.declared.instruction.Kind.TheVariants as access
use Rattle.cc_meaning.specs.declared.value.Value.{Value}
use Rattle.cc_meaning.specs.declared.value.Value.TheVariants as value
use Rattle.cc_meaning.specs.declared.value.Object.TheVariants as object
use Rattle.cc_meaning.specs.declared.report.CallEnd.{CallEnd}
use Rattle.cc_meaning.specs.declared.report.CallEnd.TheVariants as end
use Rattle.cc_meaning.specs.declared.report.StopCause.TheVariants as cause
use Rattle.cc_meaning.specs.declared.program.DexType.{DexType}
use Rattle.cc_meaning.specs.declared.program.Program.{Program}
use Rattle.cc_meaning.specs.declared.image.Contents.TheVariants as contents
use Rattle.cc_meaning.specs.declared.image.RunImage.{RunImage}
use Rattle.cc_meaning.specs.declared.image.BackImage.{BackImage}
use Rattle.cc_meaning.specs.Kinds.{kind_of}
use Rattle.cc_meaning_run.specs.Eval.{most_frames, most_registers}
use Rattle.cc_meaning_images.specs.Spelling.{spelled_run, spelled_back}
use Rattle.cc_meaning_images.specs.Reading.{Runnable, runnable, argument_kinds, static_kinds, classes_of_file, result_of, read_run, read_back}

-- a number of 32 bits, and nothing else
abbrev pub IsPlainValue : Kind → Value → Type 0
IsPlainValue access.Plain (value.Int n) = FitsSigned w32 n
IsPlainValue _ _ = ⊥

-- values of these kinds, one by one
abbrev pub AreValues : List Kind → List Value → Type 0
AreValues [] [] = Unit {0}
AreValues [] (v ∷ vs) = ⊥
AreValues (k ∷ ks) [] = ⊥
AreValues (k ∷ ks) (v ∷ vs) = IsPlainValue k v × AreValues ks vs

abbrev pub AreStatuses : List ℕ → Type 0
AreStatuses [] = Unit {0}
AreStatuses (s ∷ ss) = (s ≤ 3) × AreStatuses ss

-- a class that was started, or failed, is so still
abbrev pub AreStatusesSince : List ℕ → List ℕ → Type 0
AreStatusesSince [] [] = Unit {0}
AreStatusesSince [] (b ∷ bs) = ⊥
AreStatusesSince (s ∷ ss) [] = ⊥
AreStatusesSince (s ∷ ss) (b ∷ bs) = (b ≤ 3) × ((s ≡ 0) ⊎ (b ≡ s)) × AreStatusesSince ss bs

-- the image of an entry of a method that may be sent, in this form
pub record IsRunOf (p : Program) (image : RunImage) : Type 0 where
  pub target : Runnable
  pub runs : runnable p image.method ≡ Some target
  pub method_number : image.method < 2 ^ 32
  pub instructions : image.instructions ≤ 4294967296
  pub words : image.words ≤ 4194304
  pub some_frame : 1 ≤ image.depth
  pub room_for_frame : image.depth < most_frames
  pub room_for_registers : image.registers + target.code.registers ≤ most_registers
  pub all_statuses : length image.statuses ≡ classes_of_file p
  pub statuses : AreStatuses image.statuses
  pub args : AreValues (argument_kinds target.method) image.args
  pub statics : AreValues (static_kinds p) image.statics
  pub no_literals : image.literals ≡ []
  pub no_constants : image.constants ≡ []
  pub out_alone : image.objects ≡ object.Out ∷ []

-- what a method of this result gives
abbrev pub IsResult : Option DexType → Option Value → Type 0
IsResult None None = Unit {0}
IsResult None (Some v) = ⊥
IsResult (Some type) None = ⊥
IsResult (Some type) (Some v) = IsPlainValue (kind_of type) v

-- it returned, or stopped for want of instructions or words
abbrev pub IsEnding : Option DexType → CallEnd → Type 0
IsEnding type (end.Returned v) = IsResult type v
IsEnding type (end.Thrown number) = ⊥
IsEnding type (end.Stopped cause.Budget) = Unit {0}
IsEnding type (end.Stopped cause.Heap) = Unit {0}
IsEnding type (end.Stopped (cause.ScriptEnd class)) = ⊥
IsEnding type (end.Stopped (cause.ScriptOther class wanted found)) = ⊥

-- the image of the end of a Run, in this form
pub record IsBackOf (p : Program) (run : RunImage) (image : BackImage) : Type 0 where
  pub ending : IsEnding (result_of (slice_get p.methods run.method)) image.ending
  pub instructions_fit : image.instructions < 2 ^ 64
  pub words_fit : image.words < 2 ^ 32
  pub instructions : image.instructions ≤ run.instructions
  pub words : image.words ≤ run.words
  pub statuses : AreStatusesSince run.statuses image.statuses
  pub statics : AreValues (static_kinds p) image.statics
  pub no_literals : image.literals ≡ []
  pub no_constants : image.constants ≡ []
  pub no_events : image.events ≡ []
  pub nothing_old : image.old ≡ contents.Nothing ∷ []
  pub nothing_new : image.fresh ≡ []

-- ---- reading is spelling

abbrev pub AreBytes : List ℕ → Type 0
AreBytes bytes = (i : ℕ) → slice_index bytes i < 256

-- the image that is read of bytes is the one that they spell, and is of the form
abbrev pub RunIsSpelled : Type 0
RunIsSpelled = (p : Program) (bytes : List ℕ) (image : RunImage) → AreBytes bytes → read_run p bytes ≡ Ok image → (spelled_run image ≡ bytes) × IsRunOf p image

abbrev pub BackIsSpelled : Type 0
BackIsSpelled = (p : Program) (run : RunImage) (bytes : List ℕ) (image : BackImage) → AreBytes bytes → read_back p run bytes ≡ Ok image →
    (spelled_back image ≡ bytes) × IsBackOf p run image

-- an image of the form is read of its spelling
abbrev pub RunIsRead : Type 0
RunIsRead = (p : Program) (image : RunImage) → IsRunOf p image → read_run p (spelled_run image) ≡ Ok image

abbrev pub BackIsRead : Type 0
BackIsRead = (p : Program) (run : RunImage) (image : BackImage) → IsBackOf p run image → read_back p run (spelled_back image) ≡ Ok image
