-- The world that an image of an entry stands for: its object of number n is the object n - 1.
use Rattle.std.specs.Prelude.{ℕ, ◌-◌, ◌&&◌, not, cond, List, [], ◌∷◌, map, Option, Some, None, option_map}
use Rattle.std.specs.Str.{bytes_eq}
use Rattle.cc_meaning.specs.declared.value.Value.{Value}
use Rattle.cc_meaning.specs.declared.value.Value.TheVariants as value
use Rattle.cc_meaning.specs.declared.value.Made.{Made}
use Rattle.cc_meaning.specs.declared.value.Object.{Object}
use Rattle.cc_meaning.specs.declared.value.Object.TheVariants as object
use Rattle.cc_meaning.specs.declared.report.CallEnd.{CallEnd}
use Rattle.cc_meaning.specs.declared.report.CallEnd.TheVariants as end
use Rattle.cc_meaning.specs.declared.report.StopCause.TheVariants as cause
use Rattle.cc_meaning.specs.declared.program.Class.{Class}
use Rattle.cc_meaning.specs.declared.program.Field.{Field}
use Rattle.cc_meaning.specs.declared.program.Program.{Program}
use Rattle.cc_meaning.specs.declared.image.RunImage.{RunImage}
use Rattle.cc_meaning.specs.declared.image.BackImage.{BackImage}
use Rattle.cc_meaning.specs.BuiltIn.{system_out_name}
use Rattle.cc_meaning.specs.Kinds.{kind_of, zero_of}
use Rattle.cc_meaning.specs.Names.{field_name}
use Rattle.cc_meaning_run.specs.World.{Setting, World, Stack}
use Rattle.cc_meaning_run.specs.Eval.{End, Returned, Thrown, Stopped, Jammed, Ran, ran, Here, Hook, body, eval_with}
use Rattle.cc_meaning_run.specs.Local.{out_object, opening_static}
use Rattle.cc_meaning_images.specs.Capture.{is_of_file, is_sent, back_image}

-- ---- the world of an image

abbrev pub object_of : Value → Value
object_of (value.Int n) = value.Int n
object_of (value.Long n) = value.Long n
object_of (value.Obj number) = value.Obj (option_map (λ (n : ℕ). n - 1) number)

abbrev pub made_of : Made → Made
made_of made = record { what = made.what; number = made.number - 1 }

abbrev pub placed_object : Object → Object
placed_object object.Out = object.Out
placed_object (object.Instance class values) = object.Instance class (map object_of values)
placed_object (object.Array class values) = object.Array class (map object_of values)
placed_object (object.Text units) = object.Text units
placed_object (object.Builder units) = object.Builder units
placed_object (object.Constant class) = object.Constant class

-- classes that aren't of the file have the status 0
unfoldable pub all_statuses : List Class → List ℕ → List ℕ
all_statuses [] statuses = []
all_statuses (c ∷ cs) [] = 0 ∷ all_statuses cs []
all_statuses (c ∷ cs) (s ∷ ss) = cond (is_of_file c.kind) (s ∷ all_statuses cs ss) (0 ∷ all_statuses cs (s ∷ ss))

-- fields that aren't sent hold what they hold in a new world
unfoldable pub all_statics : Program → List Field → List Value → List Value
all_statics p [] values = []
all_statics p (f ∷ fs) [] = opening_static p f ∷ all_statics p fs []
all_statics p (f ∷ fs) (v ∷ vs) = cond (is_sent p f) (object_of v ∷ all_statics p fs vs) (opening_static p f ∷ all_statics p fs (v ∷ vs))

-- the world of an image, with these cursors; it has no events
unfoldable pub world_of : Program → (cursors : List ℕ) → RunImage → World
world_of p cursors image = record {
  objects = map placed_object image.objects;
  statics = all_statics p p.fields image.statics;
  literals = map made_of image.literals;
  constants = map made_of image.constants;
  counters = record { instructions = image.instructions; words = image.words; statuses = all_statuses p.classes image.statuses };
  cursors = cursors;
  events = [];
}

abbrev pub stack_of : RunImage → Stack
stack_of image = record { depth = image.depth; registers = image.registers }

-- ---- the run of an image

-- evaluates every method where it is called, and keeps nothing
abbrev pub silent : Hook (Unit {0})
silent = record { entry = λ method args stack w t. Here t; turned = λ depth called t. t }

-- the method of an image is evaluated in its world, from its entry on
unfoldable pub ran_of : Setting → (cursors : List ℕ) → RunImage → Ran (Unit {0})
ran_of s cursors image =
    body (eval_with silent s image.instructions) s image.method (map object_of image.args) (stack_of image) (world_of s.program cursors image) tt

-- how a call ended; a program whose types were checked never jams, so what is named for that doesn't matter
abbrev pub end_of : End → CallEnd
end_of (Returned v) = end.Returned v
end_of (Thrown a) = end.Thrown a
end_of (Stopped cause) = end.Stopped cause
end_of Jammed = end.Stopped cause.Budget

-- the image of the end, where the objects are those of `before` and then those of the rest of the order
abbrev pub back_by : Setting → World → (before order : List ℕ) → Ran (Unit {0}) → BackImage
back_by s entry before order (ran e w t) = back_image s.program entry before w order (end_of e)

unfoldable pub back_of : Setting → (cursors before order : List ℕ) → RunImage → BackImage
back_of s cursors before order image = back_by s (world_of s.program cursors image) before order (ran_of s cursors image)
