-- The image of a state at a method's end: what the objects of the entry hold now, and the new ones behind them.
use Rattle.std.specs.Prelude.{ℕ, suc, ◌&&◌, not, Bool, true, false, cond, List, [], ◌∷◌, ◌++◌, length, drop, filter, Option, Some, None, slice_get}
use Rattle.std.specs.Str.{bytes_eq}
use Rattle.cc_meaning.specs.declared.image.Contents.{Contents}
use Rattle.cc_meaning.specs.declared.image.Contents.TheVariants as contents
use Rattle.cc_meaning.specs.declared.image.RunImage.{RunImage}
use Rattle.cc_meaning.specs.declared.program.Program.{Program}
use Rattle.cc_meaning.specs.declared.report.CallEnd.{CallEnd}
use Rattle.cc_meaning.specs.declared.report.CallEnd.TheVariants as end
use Rattle.cc_meaning.specs.declared.report.Event.{Event}
use Rattle.cc_meaning.specs.declared.report.Event.TheVariants as event
use Rattle.cc_meaning.specs.declared.report.SentCall.{SentCall}
use Rattle.cc_meaning.specs.declared.value.Made.{Made}
use Rattle.cc_meaning.specs.declared.value.Object.{Object}
use Rattle.cc_meaning.specs.declared.value.Object.TheVariants as object
use Rattle.cc_meaning.specs.declared.value.Value.{Value}
use Rattle.cc_meaning.specs.declared.value.Value.TheVariants as value
use Rattle.cc_meaning_world.specs.World.{World}
use Rattle.cc_meaning_rows.specs.Calls.{is_same_object}
use Rattle.cc_meaning_exec.specs.Exceptions.{End, Returned, Thrown, Stopped, Jammed}
use Rattle.cc_meaning_exec.specs.Numbers.{is_same_int}
use Rattle.cc_meaning_migration.specs.declared.image.BackImage.{BackImage}
use Rattle.cc_meaning_migration.specs.declared.image.Change.{Change}
use Rattle.cc_meaning_migration.specs.declared.image.Version.{Version}
use Rattle.cc_meaning_migration.specs.declared.image.Version.TheVariants.{First, Second}
use Rattle.cc_meaning_migration.specs.Renaming.{if_some, each, rename_values, rename_mades, rename_contents, rename_end, copies, number_in}
use Rattle.cc_meaning_migration.specs.Order.{mention, mentions, made_objects, stands_in, IsOrder, order_of}
use Rattle.cc_meaning_migration.specs.Entry.{file_statuses, sent_statics}

-- ---- what was made since

-- The literals and class constants made since the entry. Those that were made before it are roots of the entry, so their objects stand in its order.
unfoldable pub made_since : (front : List ℕ) → List Made → List Made
made_since front mades = filter (λ (made : Made). not (stands_in made.number front)) mades

-- the recorded calls among events, without their answers; prints aren't sent
unfoldable pub sent_calls : List Event → List SentCall
sent_calls [] = []
sent_calls (event.Print units ∷ rest) = sent_calls rest
sent_calls (event.Call method args answer ∷ rest) = record { method = method; args = args } ∷ sent_calls rest

-- ---- the order

unfoldable pub mentioned_in_end : CallEnd → List ℕ
mentioned_in_end (end.Returned (Some v)) = mention v
mentioned_in_end (end.Thrown a) = a ∷ []
mentioned_in_end _ = []

-- what an end mentions: what was returned or thrown, the statics, and the literals and class constants made since
unfoldable pub end_roots : Program → (front : List ℕ) → World → CallEnd → List ℕ
end_roots p front w ending =
    mentioned_in_end ending ++ (mentions (sent_statics p p.fields w.statics) ++ (made_objects (made_since front w.literals) ++ made_objects (made_since front w.constants)))

-- the order of the objects of an end: those of the entry, and the new ones behind them
abbrev pub IsEndOrder : Program → (front : List ℕ) → World → CallEnd → List ℕ → Type 0
IsEndOrder p front w ending order = IsOrder w.objects front (end_roots p front w ending) order

unfoldable pub end_order : Program → (front : List ℕ) → World → CallEnd → List ℕ
end_order p front w ending = order_of w.objects front (end_roots p front w ending)

-- ---- what old objects hold

-- what of an object can change
unfoldable pub contents_of : Object → Contents
contents_of (object.Instance class values) = contents.Values values
contents_of (object.Array class values) = contents.Values values
contents_of (object.Builder units) = contents.Units units
contents_of _ = contents.Nothing

unfoldable pub is_same_value : Value → Value → Bool
is_same_value (value.Int a) (value.Int b) = is_same_int a b
is_same_value (value.Long a) (value.Long b) = is_same_int a b
is_same_value (value.Obj a) (value.Obj b) = is_same_object a b
is_same_value _ _ = false

unfoldable pub are_same_values : List Value → List Value → Bool
are_same_values [] [] = true
are_same_values (a ∷ as') (b ∷ bs) = is_same_value a b && are_same_values as' bs
are_same_values _ _ = false

-- whether contents are the same, with each object by its number
unfoldable pub are_same_contents : Contents → Contents → Bool
are_same_contents contents.Nothing contents.Nothing = true
are_same_contents (contents.Values a) (contents.Values b) = are_same_values a b
are_same_contents (contents.Units a) (contents.Units b) = bytes_eq a b
are_same_contents _ _ = false

unfoldable pub holds_same : Option Object → Contents → Bool
holds_same None now = false
holds_same (Some before) now = are_same_contents (contents_of before) now

-- the first version lists each object of the entry, the second those alone that hold something else
unfoldable pub is_listed : Version → (before : Option Object) → Contents → Bool
is_listed First before now = true
is_listed Second before now = not (holds_same before now)

-- what is listed of the objects from a place on
unfoldable pub changes_from : Version → (before : List Object) → (place : ℕ) → List Contents → List Change
changes_from v before i [] = []
changes_from v before i (now ∷ rest) =
    cond (is_listed v (slice_get before i) now) (record { number = suc i; contents = now } ∷ changes_from v before (suc i) rest) (changes_from v before (suc i) rest)

-- what objects hold, with each object by its number
unfoldable pub contents_now : (ℕ → Option ℕ) → List Object → List ℕ → Option (List Contents)
contents_now f objects numbers = each (λ a. if_some (slice_get objects a) (λ o. rename_contents f (contents_of o))) numbers

-- ---- ends

-- how a method ended, as it is sent; well-typed code never jams
unfoldable pub sent_end : End → Option CallEnd
sent_end (Returned v) = Some (end.Returned v)
sent_end (Thrown a) = Some (end.Thrown a)
sent_end (Stopped cause) = Some (end.Stopped cause)
sent_end Jammed = None

-- an end that was sent
unfoldable pub end_of_sent : CallEnd → End
end_of_sent (end.Returned v) = Returned v
end_of_sent (end.Thrown a) = Thrown a
end_of_sent (end.Stopped cause) = Stopped cause

-- ---- the image

unfoldable pub back_by : Program → World → (first_event : ℕ) → CallEnd → List Value → (literals constants : List Made) → List Change → List Object → BackImage
back_by p w first_event ending statics literals constants old fresh = record {
  ending = ending;
  instructions = w.counters.instructions;
  words = w.counters.words;
  statuses = file_statuses p.classes w.counters.statuses;
  statics = statics;
  literals = literals;
  constants = constants;
  events = sent_calls (drop first_event w.events);
  old = old;
  fresh = fresh;
}

-- The image of an end in a world, where `front` is the order of the entry and `order` that of the end. So many events stood at the entry, of which `run` is the image.
unfoldable pub back_image : Version → Program → (run : RunImage) → (front : List ℕ) → World → (order : List ℕ) → (first_event : ℕ) → CallEnd → Option BackImage
back_image v p run front w order first_event ending =
    if_some (rename_end (number_in order) ending) (λ ending'.
    if_some (rename_values (number_in order) (sent_statics p p.fields w.statics)) (λ statics.
    if_some (rename_mades (number_in order) (made_since front w.literals)) (λ literals.
    if_some (rename_mades (number_in order) (made_since front w.constants)) (λ constants.
    if_some (contents_now (number_in order) w.objects front) (λ now.
    if_some (copies (number_in order) w.objects (drop (length front) order)) (λ fresh.
    Some (back_by p w first_event ending' statics literals constants (changes_from v run.objects 0 now) fresh)))))))

-- the image of an end, by the order that is found behind that of the entry
unfoldable pub captured_end : Version → Program → (run : RunImage) → (front : List ℕ) → World → (first_event : ℕ) → CallEnd → Option BackImage
captured_end v p run front w first_event ending = back_image v p run front w (end_order p front w ending) first_event ending
