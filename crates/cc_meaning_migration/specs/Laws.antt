-- The laws of images: statements, which crates above prove.
use Rattle.std.specs.Prelude.{◌≡◌, ◌≤◌, ◌<◌, ◌⊎◌, ℕ, true, false, All, List, [], ◌∷◌, ◌++◌, length, drop, Some, None, Ok, slice_get, slice_index}
use Rattle.cc_meaning.specs.declared.image.RunImage.{RunImage}
use Rattle.cc_meaning.specs.declared.program.Field.{Field}
use Rattle.cc_meaning.specs.declared.program.Class.{Class}
use Rattle.cc_meaning.specs.declared.program.Program.{Program}
use Rattle.cc_meaning.specs.declared.report.CallEnd.{CallEnd}
use Rattle.cc_meaning.specs.declared.script.Script.{Script}
use Rattle.cc_meaning.specs.declared.value.Made.{Made}
use Rattle.cc_meaning.specs.declared.value.Object.{Object}
use Rattle.cc_meaning.specs.declared.value.Object.TheVariants as object
use Rattle.cc_meaning.specs.declared.value.Value.{Value}
use Rattle.cc_meaning_typing.specs.WellTyped.{is_of_file}
use Rattle.cc_meaning_world.specs.World.{World, Stack}
use Rattle.cc_meaning_world.specs.Sorts.{sort_of}
use Rattle.cc_meaning_migration.specs.declared.image.BackImage.{BackImage}
use Rattle.cc_meaning_migration.specs.declared.image.Version.{Version}
use Rattle.cc_meaning_migration.specs.declared.image.Version.TheVariants.{First, Second}
use Rattle.cc_meaning_migration.specs.Renaming.{numbers_from}
use Rattle.cc_meaning_migration.specs.Order.{StandsIn, mentioned, IsOrder, order_of}
use Rattle.cc_meaning_migration.specs.Entry.{is_sent, IsEntryOrder, run_image}
use Rattle.cc_meaning_migration.specs.Ends.{made_since, sent_calls, IsEndOrder, back_image}
use Rattle.cc_meaning_migration.specs.Backs.{object_numbered}
use Rattle.cc_meaning_migration.specs.Fits.{Place, meets, unfit}
use Rattle.cc_meaning_migration.specs.Decoding.{decoded_run, decoded_back}
use Rattle.cc_meaning_migration.specs.Placing.{table_of, Placed, placed, stack_of}
use Rattle.cc_meaning_migration.specs.Putting.{table_behind, with_made, with_calls, Put, put}
use Rattle.cc_meaning_migration.specs.Forms.{mentioned_in_run, IsRun, IsBack, RunSpells, RunFits, BackSpells, BackFits}

-- ---- reading is spelling

abbrev pub AreBytes : List ℕ → Type 0
AreBytes bytes = (i : ℕ) → slice_index bytes i < 256

-- what is read was spelled, and fits
abbrev pub RunIsSpelled : Type 0
RunIsSpelled = (p : Program) (bytes : List ℕ) (image : RunImage) → AreBytes bytes → decoded_run p bytes ≡ Ok image → RunSpells p bytes image × RunFits p image

-- what is spelled and fits is read back
abbrev pub RunIsRead : Type 0
RunIsRead = (p : Program) (bytes : List ℕ) (image : RunImage) → RunSpells p bytes image → RunFits p image → decoded_run p bytes ≡ Ok image

abbrev pub BackIsSpelled : Type 0
BackIsSpelled = (v : Version) (script : Script) (p : Program) (cursors : List ℕ) (run : RunImage) (bytes : List ℕ) (image : BackImage) → AreBytes bytes → IsRun p run →
    decoded_back v script p cursors run bytes ≡ Ok image → BackSpells v p run bytes image × BackFits script p cursors run image

abbrev pub BackIsRead : Type 0
BackIsRead = (v : Version) (script : Script) (p : Program) (cursors : List ℕ) (run : RunImage) (bytes : List ℕ) (image : BackImage) → IsRun p run →
    BackSpells v p run bytes image → BackFits script p cursors run image → decoded_back v script p cursors run bytes ≡ Ok image

-- ---- what doesn't fit

-- the object that is named is the least that doesn't fit a place which names it
abbrev pub UnfitIsLeast : Type 0
UnfitIsLeast = (p : Program) (objects : List Object) (places : List Place) (n : ℕ) → unfit p objects places ≡ Some n →
    ((i : ℕ) (place : Place) → slice_get places i ≡ Some place → meets p place.need (object_numbered objects place.number) ≡ false → n ≤ place.number)
    × ((i : ℕ) × (place : Place) × (slice_get places i ≡ Some place) × (place.number ≡ n) × (meets p place.need (object_numbered objects n) ≡ false))

-- and where none is named, each fits
abbrev pub NoneIsUnfit : Type 0
NoneIsUnfit = (p : Program) (objects : List Object) (places : List Place) → unfit p objects places ≡ None →
    (i : ℕ) (place : Place) → slice_get places i ≡ Some place → meets p place.need (object_numbered objects place.number) ≡ true

-- ---- the order

-- each object that is mentioned stands
abbrev pub MentionedStand : List Object → (front roots order : List ℕ) → Type 0
MentionedStand objects front roots order = (a : ℕ) → StandsIn (mentioned objects front roots order) a → a < length objects

-- there is an order
abbrev pub OrderIsFound : Type 0
OrderIsFound = (objects : List Object) (front roots : List ℕ) → MentionedStand objects front roots (order_of objects front roots) →
    IsOrder objects front roots (order_of objects front roots)

-- and one only
abbrev pub OrderIsOne : Type 0
OrderIsOne = (objects : List Object) (front roots order other : List ℕ) → IsOrder objects front roots order → IsOrder objects front roots other → order ≡ other

-- an image of an entry has its objects in their order, by number
abbrev pub NumbersAreOrdered : Type 0
NumbersAreOrdered = (p : Program) (image : RunImage) → IsRun p image →
    IsOrder (object.Out ∷ image.objects) (1 ∷ []) (mentioned_in_run image) (numbers_from 1 (length image.objects))

-- ---- capture, and the world of an image

-- the image of an entry is there where all that is mentioned stands
abbrev pub EntryIsCaptured : Type 0
EntryIsCaptured = (p : Program) (w : World) (order : List ℕ) (m : ℕ) (args : List Value) (stack : Stack) → IsEntryOrder p w args order →
    ((a : ℕ) → StandsIn order a → a < length w.objects) → (image : RunImage) × (run_image p w order m args stack ≡ Some image)

-- the world of an image has that image
abbrev pub PlacedIsCaptured : Type 0
PlacedIsCaptured = (p : Program) (cursors : List ℕ) (image : RunImage) → IsRun p image →
    (at : Placed) × (placed p cursors image ≡ Some at) × IsEntryOrder p at.world at.args (table_of image)
    × (run_image p at.world (table_of image) image.method at.args (stack_of image) ≡ Some image)

-- ---- putting

-- an object that isn't in the order of the entry stays as it is
abbrev pub IsKept : (front : List ℕ) → (before after : World) → Type 0
IsKept front before after = (a : ℕ) (o : Object) → slice_get before.objects a ≡ Some o →
    (o' : Object) × (slice_get after.objects a ≡ Some o') × (sort_of o' ≡ sort_of o) × (StandsIn front a ⊎ (o' ≡ o))

-- A world goes on from another, as a method that is evaluated there makes it: what the order of the entry doesn't list stays, and the new objects of the order of
-- the end are all that were made, in that order.
pub record GoesOn (script : Script) (p : Program) (front : List ℕ) (before after : World) (order : List ℕ) : Type 0 where
  pub kept : IsKept front before after
  pub grown : length before.objects ≤ length after.objects
  pub made : order ≡ front ++ drop (length before.objects) (numbers_from 0 (length after.objects))
  pub same_statics : length after.statics ≡ length before.statics
  pub unsent_statics : (i : ℕ) (f : Field) → slice_get p.fields i ≡ Some f → is_sent p f ≡ false → slice_get after.statics i ≡ slice_get before.statics i
  pub more_statics : drop (length p.fields) after.statics ≡ drop (length p.fields) before.statics
  pub same_statuses : length after.counters.statuses ≡ length before.counters.statuses
  pub other_statuses : (i : ℕ) (c : Class) → slice_get p.classes i ≡ Some c → is_of_file c.kind ≡ false →
      slice_get after.counters.statuses i ≡ slice_get before.counters.statuses i
  pub more_statuses : drop (length p.classes) after.counters.statuses ≡ drop (length p.classes) before.counters.statuses
  pub literals : after.literals ≡ with_made (made_since front after.literals) before.literals
  pub constants : after.constants ≡ with_made (made_since front after.constants) before.constants
  -- its events are answered calls, and its cursors have advanced by them
  pub answered : World
  pub calls : with_calls script p (sent_calls (drop (length before.events) after.events)) before ≡ Some answered
  pub events : after.events ≡ answered.events
  pub cursors : after.cursors ≡ answered.cursors

-- The image of an end in a world that goes on from that of the entry, put into the world of the entry, gives the end and that very world. Where the new objects
-- were made in another order, or not all of them are reached, it gives one that is alike.
abbrev pub PutGoesOn : Type 0
PutGoesOn = (v : Version) (script : Script) (p : Program) (before after : World) (m : ℕ) (args : List Value) (stack : Stack) (front order : List ℕ) (ending : CallEnd)
    (run : RunImage) (image : BackImage) → IsEntryOrder p before args front → run_image p before front m args stack ≡ Some run →
    IsEndOrder p front after ending order → GoesOn script p front before after order → back_image v p run front after order (length before.events) ending ≡ Some image →
    put script p before front image ≡ Some (record { ending = ending; world = after })

-- new literals or class constants are new objects
abbrev pub AreOfNew : RunImage → List Made → Type 0
AreOfNew run mades = All (λ (made : Made). length run.objects < made.number) mades

-- an image of an end that was put is captured again
abbrev pub PutIsCaptured : Type 0
PutIsCaptured = (v : Version) (script : Script) (p : Program) (before : World) (m : ℕ) (args : List Value) (stack : Stack) (front : List ℕ) (run : RunImage) (image : BackImage) (at : Put) →
    IsEntryOrder p before args front → run_image p before front m args stack ≡ Some run → IsRun p run → IsBack v p run image → AreOfNew run image.literals → AreOfNew run image.constants →
    put script p before front image ≡ Some at →
    IsEndOrder p front at.world at.ending (table_behind front before image)
    × (back_image v p run front at.world (table_behind front before image) (length before.events) at.ending ≡ Some image)

-- both versions put the same
abbrev pub VersionsAgree : Type 0
VersionsAgree = (script : Script) (p : Program) (before after : World) (m : ℕ) (args : List Value) (stack : Stack) (front order : List ℕ) (first_event : ℕ) (ending : CallEnd)
    (run : RunImage) (first second : BackImage) → IsEntryOrder p before args front → run_image p before front m args stack ≡ Some run →
    back_image First p run front after order first_event ending ≡ Some first → back_image Second p run front after order first_event ending ≡ Some second →
    put script p before front first ≡ put script p before front second
