-- Worked examples of images: main hands 5 to a function that adds 1.
use Rattle.std.specs.Prelude.{◌≡◌, ℕ, List, [], ◌∷◌, ◌++◌, Some, pos, Result, Ok, Err}
use Rattle.cc_meaning.specs.declared.value.Value.TheVariants as value
use Rattle.cc_meaning.specs.declared.value.Object.TheVariants as object
use Rattle.cc_meaning.specs.declared.report.CallEnd.TheVariants as end
use Rattle.cc_meaning.specs.declared.fault.ImageFault.TheVariants.{CutOff, Trailing, BadKind, BadCounter}
use Rattle.cc_meaning.specs.declared.image.Contents.TheVariants as contents
use Rattle.cc_meaning.specs.declared.image.RunImage.{RunImage}
use Rattle.cc_meaning.specs.declared.image.BackImage.{BackImage}
use Rattle.cc_meaning_run.specs.World.{World, Stack}
use Rattle.cc_meaning_run.specs.Local.{opening_world, with_ready}
use Rattle.cc_meaning_run.specs.Eval.{with_instructions}
use Rattle.cc_meaning_run.specs.Acts.{with_words}
use Rattle.cc_meaning_images.specs.Spelling.{spelled_run, spelled_back}
use Rattle.cc_meaning_images.specs.Capture.{run_image}
use Rattle.cc_meaning_images.specs.Reading.{read_run, read_back}
use Rattle.cc_meaning_plain.specs.Program.{program_of}
use Rattle.cc_meaning_plain.specs.Worked.{one_more, limits}
use Rattle.cc_meaning_clone.specs.Served.{out_order, answered}

-- ---- the image of the entry

-- within 100 instructions and 100 words, two instructions were done and the array of no arguments was made; main's frame has three registers
unfoldable pub world_at_entry : World
world_at_entry = with_ready (with_words (with_instructions (opening_world (program_of one_more) (limits 100 100)) 98) 98) 0

unfoldable pub entry : RunImage
entry = run_image (program_of one_more) world_at_entry out_order 0 (value.Int (pos 5) ∷ []) (record { depth = 1; registers = 3 })

-- everything behind the method's number but the last byte
abbrev pub entry_middle : List ℕ
entry_middle =
    0 ∷ 0 ∷ 0 ∷ 0 ∷ 0 ∷ 0 ∷ 0 ∷ 98 ∷ 0 ∷ 0 ∷ 0 ∷ 98 ∷ 0 ∷ 1 ∷ 0 ∷ 0 ∷ 0 ∷ 3 ∷ 2
    ∷ 0 ∷ 0 ∷ 0 ∷ 5 ∷ 0 ∷ 0 ∷ 0 ∷ 0 ∷ 0 ∷ 0 ∷ 0 ∷ 0 ∷ []

abbrev pub entry_bytes : List ℕ
entry_bytes = (0 ∷ 0 ∷ 0 ∷ 0 ∷ entry_middle) ++ 0 ∷ []

-- the words left are one more than a run may have
abbrev pub entry_of_many_words : List ℕ
entry_of_many_words =
    0 ∷ 0 ∷ 0 ∷ 0 ∷ 0 ∷ 0 ∷ 0 ∷ 0 ∷ 0 ∷ 0 ∷ 0 ∷ 98 ∷ 0 ∷ 64 ∷ 0 ∷ 1 ∷ 0 ∷ 1 ∷ 0 ∷ 0 ∷ 0 ∷ 3 ∷ 2
    ∷ 0 ∷ 0 ∷ 0 ∷ 5 ∷ 0 ∷ 0 ∷ 0 ∷ 0 ∷ 0 ∷ 0 ∷ 0 ∷ 0 ∷ 0 ∷ []

pub record EntryIsSpelled : Type 0 where
  pub spelled : spelled_run entry ≡ entry_bytes
  pub read : read_run (program_of one_more) entry_bytes ≡ Ok entry
  pub cut : read_run (program_of one_more) (0 ∷ 0 ∷ 0 ∷ 0 ∷ entry_middle) ≡ Err CutOff
  pub longer : read_run (program_of one_more) (entry_bytes ++ 0 ∷ []) ≡ Err Trailing
  pub of_main : read_run (program_of one_more) ((0 ∷ 0 ∷ 0 ∷ 1 ∷ entry_middle) ++ 0 ∷ []) ≡ Err (BadKind 0)
  pub of_many_words : read_run (program_of one_more) entry_of_many_words ≡ Err BadCounter

-- ---- the image of the end

abbrev pub end_bytes : List ℕ
end_bytes =
    0 ∷ 0 ∷ 0 ∷ 0 ∷ 6 ∷ 0 ∷ 0 ∷ 0 ∷ 0 ∷ 0 ∷ 0 ∷ 0 ∷ 96 ∷ 0 ∷ 0 ∷ 0 ∷ 98 ∷ 2
    ∷ 0 ∷ 0 ∷ 0 ∷ 0 ∷ 0 ∷ 0 ∷ 0 ∷ 0 ∷ 0 ∷ 0 ∷ 0 ∷ 0 ∷ []

pub record EndIsSpelled : Type 0 where
  pub spelled : spelled_back (answered one_more entry) ≡ end_bytes
  pub read : read_back (program_of one_more) entry end_bytes ≡ Ok (answered one_more entry)
