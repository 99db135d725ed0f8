-- What bytes are as an image: the image, or the first fault. The bytes themselves are judged from left to right, then that nothing stands behind the image,
-- then whether each object fits, then the counters, then the answers of the sent calls.
use Rattle.std.specs.Prelude.{ℕ, Bool, true, false, List, [], ◌∷◌, Option, Some, None, Result, Ok, Err}
use Rattle.cc_meaning.specs.declared.fault.ImageFault.{ImageFault}
use Rattle.cc_meaning.specs.declared.fault.ImageFault.TheVariants.{Trailing, Unfit, BadCounter, Unanswered}
use Rattle.cc_meaning.specs.declared.image.RunImage.{RunImage}
use Rattle.cc_meaning.specs.declared.program.Program.{Program}
use Rattle.cc_meaning.specs.declared.script.Script.{Script}
use Rattle.cc_meaning_migration.specs.declared.image.BackImage.{BackImage}
use Rattle.cc_meaning_migration.specs.declared.image.Version.{Version}
use Rattle.cc_meaning_migration.specs.Numbers.{Got, got, wrong}
use Rattle.cc_meaning_migration.specs.Runs.{read_run}
use Rattle.cc_meaning_migration.specs.Backs.{read_back}
use Rattle.cc_meaning_migration.specs.Fits.{unfit_in_run, run_counts, unfit_in_back, back_counts}
use Rattle.cc_meaning_migration.specs.Answers.{answers_of, unanswered, words_of_sent}

unfoldable pub if_fit : {A : Type 0} → Option ℕ → Result A ImageFault → Result A ImageFault
if_fit None more = more
if_fit (Some number) more = Err (Unfit number)

unfoldable pub if_counted : {A : Type 0} → Bool → Result A ImageFault → Result A ImageFault
if_counted true more = more
if_counted false more = Err BadCounter

unfoldable pub if_answered : {A : Type 0} → Option ℕ → Result A ImageFault → Result A ImageFault
if_answered None more = more
if_answered (Some event) more = Err (Unanswered event)

unfoldable pub whole_in : {A : Type 0} → List ℕ → A → (A → Result A ImageFault) → Result A ImageFault
whole_in [] a judged = judged a
whole_in (b ∷ rest) a judged = Err Trailing

-- nothing stands behind an image, and then it is judged
unfoldable pub whole : {A : Type 0} → Got A → (A → Result A ImageFault) → Result A ImageFault
whole (wrong fault) judged = Err fault
whole (got a s) judged = whole_in s.rest a judged

unfoldable pub judged_run : Program → RunImage → Result RunImage ImageFault
judged_run p image = if_fit (unfit_in_run p image) (if_counted (run_counts image) (Ok image))

-- what bytes are as the image of an entry
unfoldable pub decoded_run : Program → List ℕ → Result RunImage ImageFault
decoded_run p bytes = whole (read_run p bytes) (judged_run p)

unfoldable pub judged_back : Script → Program → (cursors : List ℕ) → RunImage → BackImage → Result BackImage ImageFault
judged_back script p cursors run image =
    if_fit (unfit_in_back p run image)
    (if_counted (back_counts run image (words_of_sent image.events (answers_of script p cursors image.events)))
    (if_answered (unanswered script p cursors image.events) (Ok image)))

-- what bytes are as the image of the end of an entry, where so many answers of each class were taken
unfoldable pub decoded_back : Version → Script → Program → (cursors : List ℕ) → RunImage → List ℕ → Result BackImage ImageFault
decoded_back v script p cursors run bytes = whole (read_back v p run bytes) (judged_back script p cursors run)
