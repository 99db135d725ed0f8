-- What the image of an end makes of the world in which its entry was captured.
use Rattle.std.specs.Prelude.{ℕ, ◌++◌, cond, List, [], ◌∷◌, length, Option, Some, None, slice_get, slice_set}
use Rattle.cc_meaning.specs.declared.image.Contents.{Contents}
use Rattle.cc_meaning.specs.declared.image.Contents.TheVariants as contents
use Rattle.cc_meaning.specs.declared.program.Class.{Class}
use Rattle.cc_meaning.specs.declared.program.Field.{Field}
use Rattle.cc_meaning.specs.declared.program.Program.{Program}
use Rattle.cc_meaning.specs.declared.report.Answer.{Answer}
use Rattle.cc_meaning.specs.declared.report.CallEnd.{CallEnd}
use Rattle.cc_meaning.specs.declared.report.SentCall.{SentCall}
use Rattle.cc_meaning.specs.declared.script.Script.{Script}
use Rattle.cc_meaning.specs.declared.value.Made.{Made}
use Rattle.cc_meaning.specs.declared.value.Object.{Object}
use Rattle.cc_meaning.specs.declared.value.Object.TheVariants as object
use Rattle.cc_meaning.specs.declared.value.Value.{Value}
use Rattle.cc_meaning_typing.specs.WellTyped.{is_of_file}
use Rattle.cc_meaning_world.specs.World.{World}
use Rattle.cc_meaning_world.specs.Changes.{noted_made, with_answer}
use Rattle.cc_meaning_world.specs.Scripts.{class_asked}
use Rattle.cc_meaning_migration.specs.declared.image.BackImage.{BackImage}
use Rattle.cc_meaning_migration.specs.declared.image.Change.{Change}
use Rattle.cc_meaning_migration.specs.Renaming.{if_some, each, rename_values, rename_mades, rename_object, rename_contents, rename_end, object_in, numbers_from}
use Rattle.cc_meaning_migration.specs.Entry.{is_sent}
use Rattle.cc_meaning_migration.specs.Answers.{answer_of}

-- ---- objects

-- the objects of an image of an end, by number: those of the entry, and new ones behind all that stand in the world
unfoldable pub table_behind : (order : List ℕ) → World → BackImage → List ℕ
table_behind order w image = order ++ numbers_from (length w.objects) (length image.fresh)

-- an object that takes contents of its form
unfoldable pub with_contents : Contents → Object → Option Object
with_contents (contents.Values values) (object.Instance class before) = Some (object.Instance class values)
with_contents (contents.Values values) (object.Array class before) = Some (object.Array class values)
with_contents (contents.Units units) (object.Builder before) = Some (object.Builder units)
with_contents contents.Nothing o = Some o
with_contents _ _ = None

-- the object of a listed number takes the contents that are listed
unfoldable pub with_change : (ℕ → Option ℕ) → Change → List Object → Option (List Object)
with_change f change objects =
    if_some (f change.number) (λ a.
    if_some (slice_get objects a) (λ before.
    if_some (rename_contents f change.contents) (λ now.
    if_some (with_contents now before) (λ o.
    Some (slice_set objects a o)))))

unfoldable pub with_changes : (ℕ → Option ℕ) → List Change → List Object → Option (List Object)
with_changes f [] objects = Some objects
with_changes f (change ∷ rest) objects = if_some (with_change f change objects) (with_changes f rest)

-- ---- statics, statuses, literals and class constants

-- those of the classes of the file are the image's
unfoldable pub put_statuses : List Class → (before sent : List ℕ) → List ℕ
put_statuses (c ∷ cs) (b ∷ before) (s ∷ sent) = cond (is_of_file c.kind) (s ∷ put_statuses cs before sent) (b ∷ put_statuses cs before (s ∷ sent))
put_statuses _ before _ = before

-- those that are sent are the image's
unfoldable pub put_statics : Program → List Field → (before sent : List Value) → List Value
put_statics p (f ∷ fs) (b ∷ before) (v ∷ sent) = cond (is_sent p f) (v ∷ put_statics p fs before sent) (b ∷ put_statics p fs before (v ∷ sent))
put_statics p _ before _ = before

-- what was made since joins what was made before, which stays
unfoldable pub with_made : List Made → List Made → List Made
with_made [] mades = mades
with_made (made ∷ rest) mades = with_made rest (noted_made made mades)

-- ---- events

unfoldable pub with_sent : Program → SentCall → World → Answer → World
with_sent p call w a = with_answer w (class_asked p call.method) call.method call.args a

-- each sent call is recorded with the next answer of its class, whose cursor advances
unfoldable pub with_calls : Script → Program → List SentCall → World → Option World
with_calls script p [] w = Some w
with_calls script p (call ∷ rest) w = if_some (answer_of script p w.cursors call) (λ a. with_calls script p rest (with_sent p call w a))

-- ---- the whole

-- how the method ended, and the world then
pub record Put : Type 0 where
  pub ending : CallEnd
  pub world : World

unfoldable pub put_by : Program → World → BackImage → (objects fresh : List Object) → (statics : List Value) → (literals constants : List Made) → World
put_by p w image objects fresh statics literals constants = record w {
  objects = objects ++ fresh;
  statics = put_statics p p.fields w.statics statics;
  literals = with_made literals w.literals;
  constants = with_made constants w.constants;
  counters = record { instructions = image.instructions; words = image.words; statuses = put_statuses p.classes w.counters.statuses image.statuses };
}

unfoldable pub put_in_table : (ℕ → Option ℕ) → Script → Program → World → BackImage → Option Put
put_in_table f script p w image =
    if_some (rename_end f image.ending) (λ ending.
    if_some (with_changes f image.old w.objects) (λ objects.
    if_some (each (rename_object f) image.fresh) (λ fresh.
    if_some (rename_values f image.statics) (λ statics.
    if_some (rename_mades f image.literals) (λ literals.
    if_some (rename_mades f image.constants) (λ constants.
    if_some (with_calls script p image.events (put_by p w image objects fresh statics literals constants)) (λ after.
    Some (record { ending = ending; world = after }))))))))

-- The end and the world that an image gives, where `order` is the order of the objects of the entry. Each object that the image lists takes the contents listed,
-- and all others stay; new objects stand behind all.
unfoldable pub put : Script → Program → World → (order : List ℕ) → BackImage → Option Put
put script p w order image = put_in_table (object_in (table_behind order w image)) script p w image
