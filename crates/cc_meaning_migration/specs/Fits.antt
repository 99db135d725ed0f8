-- Whether the objects of an image fit the places that name them, and its counters what was sent.
use Rattle.std.specs.Prelude.{ℕ, ◌+◌, ◌-◌, ◌==◌, ◌&&◌, nat_le, min, Bool, false, cond, List, [], ◌∷◌, ◌++◌, length, Option, Some, None, slice_get, sum_by}
use Rattle.std.specs.List.{flat_map, list_all}
use Rattle.cc_meaning.specs.declared.image.Contents.{Contents}
use Rattle.cc_meaning.specs.declared.image.Contents.TheVariants as contents
use Rattle.cc_meaning.specs.declared.image.RunImage.{RunImage}
use Rattle.cc_meaning.specs.declared.program.DexType.{DexType}
use Rattle.cc_meaning.specs.declared.program.Method.{Method}
use Rattle.cc_meaning.specs.declared.program.Program.{Program}
use Rattle.cc_meaning.specs.declared.report.CallEnd.{CallEnd}
use Rattle.cc_meaning.specs.declared.report.CallEnd.TheVariants as end
use Rattle.cc_meaning.specs.declared.value.Made.{Made}
use Rattle.cc_meaning.specs.declared.value.Object.{Object}
use Rattle.cc_meaning.specs.declared.value.Object.TheVariants as object
use Rattle.cc_meaning.specs.declared.value.Value.{Value}
use Rattle.cc_meaning.specs.declared.value.Value.TheVariants as value
use Rattle.cc_meaning.specs.Words.{words_of_objects}
use Rattle.cc_meaning_typing.specs.Types.{held, reach, rises_to}
use Rattle.cc_meaning_typing.specs.Code.{throwable_type}
use Rattle.cc_meaning_world.specs.Sorts.{sort_of, type_of}
use Rattle.cc_meaning_world.specs.Layouts.{shape}
use Rattle.cc_meaning_world.specs.Acts.{units_of}
use Rattle.cc_meaning_rows.specs.Calls.{is_text_of}
use Rattle.cc_meaning_exec.specs.Frames.{most_frames, most_registers}
use Rattle.cc_meaning_migration.specs.declared.image.BackImage.{BackImage}
use Rattle.cc_meaning_migration.specs.declared.image.Change.{Change}
use Rattle.cc_meaning_migration.specs.Items.{element_type}
use Rattle.cc_meaning_migration.specs.Runs.{argument_types, static_types}
use Rattle.cc_meaning_migration.specs.Backs.{result_type, object_numbered}

-- ---- places

-- what a place asks of the object that it names: to be of a declared type, a text of these units, or the constant of a class
pub data Need : Type 0 where
  Typed : DexType → Need
  Spelled : List ℕ → Need
  ConstantOf : (class : ℕ) → Need

-- a place that names the object of a number
pub record Place : Type 0 where
  pub number : ℕ
  pub need : Need

unfoldable pub place_of : DexType → Value → List Place
place_of t (value.Obj (Some n)) = record { number = n; need = Typed t } ∷ []
place_of t _ = []

-- values of these declared types
unfoldable pub places_of : List DexType → List Value → List Place
places_of (t ∷ ts) (v ∷ vs) = place_of t v ++ places_of ts vs
places_of _ _ = []

-- elements of one declared type
unfoldable pub places_in : DexType → List Value → List Place
places_in t values = flat_map (place_of t) values

unfoldable pub literal_places : Program → List Made → List Place
literal_places p [] = []
literal_places p (made ∷ rest) = record { number = made.number; need = Spelled (units_of (slice_get p.texts made.what)) } ∷ literal_places p rest

unfoldable pub constant_places : List Made → List Place
constant_places [] = []
constant_places (made ∷ rest) = record { number = made.number; need = ConstantOf made.what } ∷ constant_places rest

-- the members that an object has, or gets
unfoldable pub member_places : Program → Option Object → Contents → List Place
member_places p (Some (object.Instance class values)) (contents.Values now) = places_of (shape p class) now
member_places p (Some (object.Array class values)) (contents.Values now) = places_in (element_type p class) now
member_places p _ _ = []

unfoldable pub object_places : Program → Object → List Place
object_places p (object.Instance class values) = places_of (shape p class) values
object_places p (object.Array class values) = places_in (element_type p class) values
object_places p _ = []

unfoldable pub argument_types_of : Option Method → List DexType
argument_types_of None = []
argument_types_of (Some method) = argument_types method

-- the places of an image of an entry
unfoldable pub run_places : Program → RunImage → List Place
run_places p image =
    places_of (argument_types_of (slice_get p.methods image.method)) image.args
    ++ (places_of (static_types p) image.statics
    ++ (literal_places p image.literals
    ++ (constant_places image.constants
    ++ flat_map (object_places p) image.objects)))

unfoldable pub result_place : Option DexType → Value → List Place
result_place None v = []
result_place (Some t) v = place_of t v

-- what is thrown is a Throwable
unfoldable pub end_places : Program → Option DexType → CallEnd → List Place
end_places p t (end.Returned None) = []
end_places p t (end.Returned (Some v)) = result_place t v
end_places p t (end.Thrown n) = record { number = n; need = Typed (throwable_type p) } ∷ []
end_places p t (end.Stopped cause) = []

unfoldable pub change_places : Program → List Object → Change → List Place
change_places p before change = member_places p (object_numbered before change.number) change.contents

-- the places of an image of an end, beside that of its entry
unfoldable pub back_places : Program → RunImage → BackImage → List Place
back_places p run image =
    end_places p (result_type p run) image.ending
    ++ (places_of (static_types p) image.statics
    ++ (literal_places p image.literals
    ++ (constant_places image.constants
    ++ (flat_map (change_places p run.objects) image.old
    ++ flat_map (object_places p) image.fresh))))

-- ---- fitting

-- an object fits a declared type where its own is below that one, both as they are held
unfoldable pub fits_type : Program → Object → DexType → Bool
fits_type p o declared = rises_to p (reach p (held p (type_of p (sort_of o)))) (held p (type_of p (sort_of o))) (held p declared)

unfoldable pub is_constant : ℕ → Object → Bool
is_constant class (object.Constant other) = class == other
is_constant class _ = false

unfoldable pub meets : Program → Need → Option Object → Bool
meets p need None = false
meets p (Typed t) (Some o) = fits_type p o t
meets p (Spelled units) (Some o) = is_text_of units o
meets p (ConstantOf class) (Some o) = is_constant class o

unfoldable pub lesser : ℕ → Option ℕ → Option ℕ
lesser n None = Some n
lesser n (Some m) = Some (min n m)

-- the least number of an object that doesn't fit one of these places
unfoldable pub unfit : Program → List Object → List Place → Option ℕ
unfit p objects [] = None
unfit p objects (place ∷ rest) = cond (meets p place.need (object_numbered objects place.number)) (unfit p objects rest) (lesser place.number (unfit p objects rest))

unfoldable pub unfit_in_run : Program → RunImage → Option ℕ
unfit_in_run p image = unfit p image.objects (run_places p image)

-- an object of the entry keeps its class
unfoldable pub unfit_in_back : Program → RunImage → BackImage → Option ℕ
unfit_in_back p run image = unfit p (run.objects ++ image.fresh) (back_places p run image)

-- ---- counters

-- the most instructions and words that a run has
abbrev pub most_instructions : ℕ
most_instructions = 4294967296

abbrev pub most_words : ℕ
most_words = 4194304

-- the counters of an entry are such as a run can have
unfoldable pub run_counts : RunImage → Bool
run_counts image =
    nat_le image.instructions most_instructions && (nat_le image.words most_words && (nat_le 1 image.depth && (nat_le image.depth most_frames
    && (nat_le image.registers most_registers && nat_le (words_of_objects image.objects + image.words) most_words))))

unfoldable pub units_in : Option Object → ℕ
units_in (Some (object.Builder units)) = length units
units_in _ = 0

unfoldable pub units_now : Contents → ℕ
units_now (contents.Units units) = length units
units_now _ = 0

-- no builder is shorter than it was
unfoldable pub has_grown : List Object → Change → Bool
has_grown before change = nat_le (units_in (object_numbered before change.number)) (units_now change.contents)

-- the units by which builders have grown
unfoldable pub growth : List Object → List Change → ℕ
growth before changes = sum_by (λ (change : Change). units_now change.contents - units_in (object_numbered before change.number)) changes

-- No counter is above the one that was sent, and what was made and recorded since takes no more words than were spent.
unfoldable pub back_counts : RunImage → BackImage → (recorded : ℕ) → Bool
back_counts run image recorded =
    nat_le image.instructions run.instructions && (nat_le image.words run.words && (list_all (has_grown run.objects) image.old
    && nat_le (words_of_objects image.fresh + (growth run.objects image.old + recorded)) (run.words - image.words)))
