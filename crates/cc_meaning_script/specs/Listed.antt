-- What the value of a script's text lists: `{"classes":[..]}`, and each class an object with `name` and, where they stand, `unpinned`, `free` and `answers`.
use Rattle.std.specs.Prelude.{ℕ, suc, ℤ, ◌-◌, ◌^◌, min, ◌+◌, ◌==◌, ◌||◌, Bool, false, List, [], ◌∷◌, ◌++◌, Option, Some, None, option_map, option_and_then, Result, Ok, Err, codes, if◌then◌else◌}
use Rattle.std.specs.List.{list_any}
use Rattle.std.specs.Str.{bytes_eq}
use Rattle.serde_json.specs.Data.{Data, null, boolean, number, string, array, object, Items, no_items, item, Members, no_members, member}
use Rattle.serde_json.specs.Find.{get, as_array, as_i64, as_str}
use Rattle.cc_meaning.specs.declared.fault.ScriptFault.{ScriptFault}
use Rattle.cc_meaning.specs.declared.fault.ScriptFault.TheVariants as faults
use Rattle.cc_meaning_script.specs.declared.listed.Listed.{Listed}
use Rattle.cc_meaning_script.specs.declared.listed.Listed.TheVariants as listed
use Rattle.cc_meaning_script.specs.declared.listed.ListedAnswer.{ListedAnswer}
use Rattle.cc_meaning_script.specs.declared.listed.ListedClass.{ListedClass}

-- how many members an object has
abbrev pub size : Members → ℕ
size no_members = 0
size (member key value rest) = suc (size rest)

abbrev pub size_of : Data → ℕ
size_of (object members) = size members
size_of _ = 0

-- one for a key that stands in a value, and else none
abbrev pub count_of : Option Data → ℕ
count_of None = 0
count_of (Some value) = 1

-- ---- an answer

abbrev pub whole_or_other : Option ℤ → Listed
whole_or_other (Some n) = listed.Whole n
whole_or_other None = listed.Other

abbrev pub thrown_or_other : Option (List ℕ) → Listed
thrown_or_other (Some name) = listed.Throw name
thrown_or_other None = listed.Other

abbrev pub object_or : Option (List ℕ) → Listed → Listed
object_or (Some name) said = listed.Object name
object_or None said = said

-- what the one member of an object says
abbrev pub marked : Data → Listed
marked value = if size_of value == 1
    then object_or (option_and_then as_str (get (codes "object") value)) (thrown_or_other (option_and_then as_str (get (codes "throw") value)))
    else listed.Other

-- an answer as it is listed
abbrev pub listed_of : Data → Listed
listed_of null = listed.Null
listed_of (boolean truth) = listed.Truth truth
listed_of (number n) = whole_or_other (as_i64 n)
listed_of (string text) = listed.Text text
listed_of (array items) = listed.Other
listed_of (object members) = marked (object members)

-- ---- members and pairs

-- what each of some values is, where each is one
abbrev pub all_of : {A : Type 0} → (Data → Option A) → Items → Option (List A)
all_of f no_items = Some []
all_of f (item value rest) = option_and_then (λ x. option_map (λ xs. x ∷ xs) (all_of f rest)) (f value)

abbrev pub texts_of : Items → Option (List (List ℕ))
texts_of items = all_of as_str items

-- an array of a member and its answer
abbrev pub pair_of_items : Items → Option ListedAnswer
pair_of_items (item first (item second no_items)) = option_map (λ text. record { member = text; answer = listed_of second }) (as_str first)
pair_of_items _ = None

abbrev pub pair_of : Data → Option ListedAnswer
pair_of value = option_and_then pair_of_items (as_array value)

abbrev pub pairs_of : Items → Option (List ListedAnswer)
pairs_of items = all_of pair_of items

-- what stands at a key that may be left out
abbrev pub listed_texts : Option Data → Option (List (List ℕ))
listed_texts None = Some []
listed_texts (Some value) = option_and_then texts_of (as_array value)

abbrev pub listed_pairs : Option Data → Option (List ListedAnswer)
listed_pairs None = Some []
listed_pairs (Some value) = option_and_then pairs_of (as_array value)

-- ---- a class

-- no key but those named
abbrev pub has_only_known : Data → Bool
has_only_known value = size_of value == 1 + count_of (get (codes "unpinned") value) + count_of (get (codes "free") value) + count_of (get (codes "answers") value)

abbrev pub class_parts : Data → Option ListedClass
class_parts value =
    option_and_then (λ name.
    option_and_then (λ unpinned.
    option_and_then (λ free.
    option_map (λ answers. record { name = name; unpinned = unpinned; free = free; answers = answers })
    (listed_pairs (get (codes "answers") value))) (listed_pairs (get (codes "free") value))) (listed_texts (get (codes "unpinned") value)))
    (option_and_then as_str (get (codes "name") value))

abbrev pub class_of : Data → Option ListedClass
class_of value = if has_only_known value then class_parts value else None

-- ---- repeats

-- a text stands among others
abbrev pub is_among : List ℕ → List (List ℕ) → Bool
is_among text texts = list_any (λ other. bytes_eq other text) texts

abbrev pub is_answered : List ℕ → List ListedAnswer → Bool
is_answered text pairs = list_any (λ (pair : ListedAnswer). bytes_eq pair.member text) pairs

-- a member stands among those before it
abbrev pub repeats_after : List (List ℕ) → List ListedAnswer → Bool
repeats_after before [] = false
repeats_after before (pair ∷ rest) = is_among pair.member before || repeats_after (before ++ pair.member ∷ []) rest

-- a member stands twice among pairs
abbrev pub repeats : List ListedAnswer → Bool
repeats pairs = repeats_after [] pairs

-- a free member stands twice, or is also unpinned or answered
abbrev pub contradicts : ListedClass → Bool
contradicts class =
    repeats class.free
    || list_any (λ text. is_answered text class.free) class.unpinned
    || list_any (λ (pair : ListedAnswer). is_answered pair.member class.free) class.answers

-- ---- the whole

-- A place counts to the end of 32 bits and stands still there; only a text of 2 ^ 32 bytes or more has so many.
abbrev pub capped : ℕ → ℕ
capped place = min place (2 ^ 32 - 1)

abbrev pub bad_shape : {A : Type 0} → (place : ℕ) → Result A ScriptFault
bad_shape place = Err (faults.BadShape (capped place))

abbrev pub on_ok : {A B : Type 0} → Result A ScriptFault → (A → Result B ScriptFault) → Result B ScriptFault
on_ok (Ok x) go = go x
on_ok (Err fault) go = Err fault

-- the rest of a list, or its fault
abbrev pub then_all : {A : Type 0} → A → Result (List A) ScriptFault → Result (List A) ScriptFault
then_all x (Ok rest) = Ok (x ∷ rest)
then_all x (Err fault) = Err fault

-- the class at a place, behind classes of these names: it has the shape of one, doesn't contradict itself, and its name is new
abbrev pub class_behind : (place : ℕ) → List (List ℕ) → Option ListedClass → Result ListedClass ScriptFault
class_behind place before None = bad_shape place
class_behind place before (Some class) = if is_among class.name before || contradicts class then bad_shape place else Ok class

-- The classes from a place on, behind classes of these names. The first one that isn't as it should be is told by its place.
abbrev pub classes_from : (place : ℕ) → List (List ℕ) → Items → Result (List ListedClass) ScriptFault
classes_from place before no_items = Ok []
classes_from place before (item value rest) =
    on_ok (class_behind place before (class_of value)) (λ class. then_all class (classes_from (place + 1) (before ++ class.name ∷ []) rest))

abbrev pub classes_or_fault : Option Items → Result (List ListedClass) ScriptFault
classes_or_fault None = bad_shape 0
classes_or_fault (Some items) = classes_from 0 [] items

-- what stands at the one key `classes`
abbrev pub class_items : Data → Option Items
class_items value = if size_of value == 1 then option_and_then as_array (get (codes "classes") value) else None

-- the classes that a value lists, or the place of the first one that is out of shape, 0 also where the whole is
abbrev pub listed_classes : Data → Result (List ListedClass) ScriptFault
listed_classes value = classes_or_fault (class_items value)
