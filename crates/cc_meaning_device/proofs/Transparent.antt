-- A plain file's run that is offloaded to a clone of the same file reports what the run on one heap reports.
use Rattle.std.proofs.Common.{ℕ, List, [], ◌∷◌, sym, subst, arith}
use Rattle.std.specs.List.{AllByRecursion}
use Rattle.cc_meaning.specs.declared.report.Limits.{Limits}
use Rattle.cc_meaning.specs.declared.image.RunImage.{RunImage}
use Rattle.cc_meaning_images.specs.Forms.{RunIsSpelled}
use Rattle.cc_meaning_nodes.specs.Frames.{IsFrame, frames_of}
use Rattle.cc_meaning_plain.specs.declared.plain.Plain.{Plain}
use Rattle.cc_meaning_plain.specs.Laws.{AreBytes}
use Rattle.cc_meaning_plain.specs.Plain.{IsPlain}
use Rattle.cc_meaning_plain.proofs.Facts.{main_is_fine}
use Rattle.cc_meaning_clone.specs.Functions.{RunnableIs, RunsHaveParts}
use Rattle.cc_meaning_device.specs.Received.{Offloaded}
use Rattle.cc_meaning_device.specs.Straight.{plain_course, PlainOffloads}
use Rattle.cc_meaning_device.specs.Honest.{run_frame, IsReadAsItself, HonestIsLocal, StreamAnswersInOrder}
use Rattle.cc_meaning_device.specs.Transparent.{FitImages, plain_offloaded, NotedIsRead, CloneIsTransparent}
use Rattle.cc_meaning_device.proofs.Entries.{entry_is_itself, entry_is_frame}
use Rattle.cc_meaning_device.proofs.Counts.{number_fits}
use Rattle.cc_meaning_device.proofs.Noted.{IsEntry, plain_notes}

-- each image fits in a frame, and is the only one that is read of its bytes
abbrev AreRead : Plain → List RunImage → Type 0
AreRead plain images = AllByRecursion (IsReadAsItself plain) images × AllByRecursion (λ image. IsFrame (run_frame image)) images

module _ (spelled : RunIsSpelled) (runnables : RunnableIs) (parts_of : RunsHaveParts) (file : List ℕ) (plain : Plain) (bytes : AreBytes file) (is : IsPlain file plain) (limits : Limits) (fit : FitImages limits) where
  entry_is_read : (image : RunImage) → IsEntry plain limits image → IsReadAsItself plain image × IsFrame (run_frame image)
  entry_is_read image e =
      let few = (main_is_fine file plain bytes is).few_registers in
      let number = number_fits file plain e.place e.function is e.stands in
      let itself = entry_is_itself spelled runnables parts_of plain e.place e.instructions e.words e.argument number (omega (arith, e.few_instructions, fit.instructions)) (omega (arith, e.few_words, fit.words)) few e.fits in
      let frame = entry_is_frame plain e.place e.instructions e.words e.argument in
      subst (λ (x : RunImage). IsReadAsItself plain x × IsFrame (run_frame x)) (sym e.is) (itself, frame)

  entries_are_read : (images : List RunImage) → AllByRecursion (IsEntry plain limits) images → AreRead plain images
  entries_are_read [] h = (tt, tt)
  entries_are_read (image ∷ images) h =
      let one = entry_is_read image h.0 in
      let more = entries_are_read images h.1 in
      ((one.0, more.0), (one.1, more.1))

pub noted_is_read : PlainOffloads → RunIsSpelled → RunnableIs → RunsHaveParts → NotedIsRead
noted_is_read offloads spelled runnables parts_of file plain moves limits frames bytes is fit =
    let images = (plain_course plain moves limits frames).received.images in
    let read : AreRead plain images = entries_are_read spelled runnables parts_of file plain bytes is limits fit images (plain_notes file plain bytes is moves limits frames) in
    subst (λ (o : Offloaded). AreRead plain o.received.images) (sym (offloads file plain moves limits frames bytes is)) read

pub clone_is_transparent : NotedIsRead → StreamAnswersInOrder → HonestIsLocal → CloneIsTransparent
clone_is_transparent read answers honest file plain moves limits got bytes is fit exchange =
    let frames = (frames_of got).frames in
    let images = (plain_offloaded plain moves limits frames).received.images in
    let are = read file plain moves limits frames bytes is fit in
    honest file plain moves limits frames bytes is (answers file plain images got bytes is are.0 are.1 exchange)
