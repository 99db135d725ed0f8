-- The world that an image of an entry stands for: its object of number n is the object n - 1.
use Rattle.std.specs.Prelude.{ℕ, cond, List, [], ◌∷◌, length, Option, Some}
use Rattle.cc_meaning.specs.declared.image.RunImage.{RunImage}
use Rattle.cc_meaning.specs.declared.program.Class.{Class}
use Rattle.cc_meaning.specs.declared.program.Field.{Field}
use Rattle.cc_meaning.specs.declared.program.Program.{Program}
use Rattle.cc_meaning.specs.declared.value.Made.{Made}
use Rattle.cc_meaning.specs.declared.value.Object.{Object}
use Rattle.cc_meaning.specs.declared.value.Value.{Value}
use Rattle.cc_meaning_typing.specs.WellTyped.{is_of_file}
use Rattle.cc_meaning_world.specs.World.{World, Stack}
use Rattle.cc_meaning_world.specs.Opening.{opening_static}
use Rattle.cc_meaning_migration.specs.Renaming.{if_some, each, rename_values, rename_mades, rename_object, object_in, numbers_from}
use Rattle.cc_meaning_migration.specs.Entry.{is_sent}

-- a status for each class; one that isn't of the file isn't started
unfoldable pub all_statuses : List Class → (sent : List ℕ) → List ℕ
all_statuses [] sent = []
all_statuses (c ∷ cs) [] = 0 ∷ all_statuses cs []
all_statuses (c ∷ cs) (s ∷ sent) = cond (is_of_file c.kind) (s ∷ all_statuses cs sent) (0 ∷ all_statuses cs (s ∷ sent))

-- a value for each field; one that isn't sent holds what it holds in a new world
unfoldable pub all_statics : Program → List Field → (sent : List Value) → List Value
all_statics p [] sent = []
all_statics p (f ∷ fs) [] = opening_static p f ∷ all_statics p fs []
all_statics p (f ∷ fs) (v ∷ sent) = cond (is_sent p f) (v ∷ all_statics p fs sent) (opening_static p f ∷ all_statics p fs (v ∷ sent))

-- the objects of an image, by number
unfoldable pub table_of : RunImage → List ℕ
table_of image = numbers_from 0 (length image.objects)

-- a world, and the arguments of the method that is entered there
pub record Placed : Type 0 where
  pub world : World
  pub args : List Value

unfoldable pub placed_by : Program → (cursors : List ℕ) → RunImage → (args statics : List Value) → (literals constants : List Made) → List Object → Placed
placed_by p cursors image args statics literals constants objects = record {
  world = record {
    objects = objects;
    statics = all_statics p p.fields statics;
    literals = literals;
    constants = constants;
    counters = record { instructions = image.instructions; words = image.words; statuses = all_statuses p.classes image.statuses };
    cursors = cursors;
    events = [];
  };
  args = args;
}

-- The world of an image of an entry, with these cursors and without events.
unfoldable pub placed : Program → (cursors : List ℕ) → RunImage → Option Placed
placed p cursors image =
    if_some (rename_values (object_in (table_of image)) image.args) (λ args.
    if_some (rename_values (object_in (table_of image)) image.statics) (λ statics.
    if_some (rename_mades (object_in (table_of image)) image.literals) (λ literals.
    if_some (rename_mades (object_in (table_of image)) image.constants) (λ constants.
    if_some (each (rename_object (object_in (table_of image))) image.objects) (λ objects.
    Some (placed_by p cursors image args statics literals constants objects))))))

-- the frames that stand where the method of an image is entered
unfoldable pub stack_of : RunImage → Stack
stack_of image = record { depth = image.depth; registers = image.registers }
