-- What an image is that bytes spell, in words that know no reader; and when it fits.
use Rattle.std.specs.Prelude.{◌≡◌, ◌≢◌, ◌⊎◌, ℕ, suc, ◌<◌, ◌≤◌, ◌^◌, max, Bool, true, false, All, List, [], ◌∷◌, ◌++◌, length, Option, Some, None, slice_get}
use Rattle.std.specs.List.{flat_map}
use Rattle.std.specs.Int.{w32, w64}
use Rattle.std.specs.Int.RustNames.{FitsSigned}
use Rattle.cc_meaning.specs.declared.image.Contents.{Contents}
use Rattle.cc_meaning.specs.declared.image.Contents.TheVariants as contents
use Rattle.cc_meaning.specs.declared.image.RunImage.{RunImage}
use Rattle.cc_meaning.specs.declared.instruction.Kind.{Kind}
use Rattle.cc_meaning.specs.declared.instruction.Kind.TheVariants as kind
use Rattle.cc_meaning.specs.declared.program.DexType.{DexType}
use Rattle.cc_meaning.specs.declared.program.Method.{Method}
use Rattle.cc_meaning.specs.declared.program.Program.{Program}
use Rattle.cc_meaning.specs.declared.report.Arg.{Arg}
use Rattle.cc_meaning.specs.declared.report.Arg.TheVariants as arg
use Rattle.cc_meaning.specs.declared.report.CallEnd.{CallEnd}
use Rattle.cc_meaning.specs.declared.report.CallEnd.TheVariants as end
use Rattle.cc_meaning.specs.declared.report.SentCall.{SentCall}
use Rattle.cc_meaning.specs.declared.report.StopCause.{StopCause}
use Rattle.cc_meaning.specs.declared.report.StopCause.TheVariants as cause
use Rattle.cc_meaning.specs.declared.script.Script.{Script}
use Rattle.cc_meaning.specs.declared.value.Made.{Made}
use Rattle.cc_meaning.specs.declared.value.Object.{Object}
use Rattle.cc_meaning.specs.declared.value.Object.TheVariants as object
use Rattle.cc_meaning.specs.declared.value.Value.{Value}
use Rattle.cc_meaning.specs.declared.value.Value.TheVariants as value
use Rattle.cc_meaning.specs.Kinds.{kind_of}
use Rattle.cc_meaning_world.specs.Layouts.{shape}
use Rattle.cc_meaning_migration.specs.declared.image.BackImage.{BackImage}
use Rattle.cc_meaning_migration.specs.declared.image.Change.{Change}
use Rattle.cc_meaning_migration.specs.declared.image.Version.{Version}
use Rattle.cc_meaning_migration.specs.declared.image.Version.TheVariants.{First, Second}
use Rattle.cc_meaning_migration.specs.Order.{mentions, made_objects, members_of}
use Rattle.cc_meaning_migration.specs.Ends.{mentioned_in_end, holds_same}
use Rattle.cc_meaning_migration.specs.Spelling.{spelled_run, spelled_back}
use Rattle.cc_meaning_migration.specs.Items.{is_in_range, is_instance_class, is_array_class, element_type}
use Rattle.cc_meaning_migration.specs.Runs.{argument_types, static_types, classes_of_file, movable}
use Rattle.cc_meaning_migration.specs.Backs.{result_type, scripted}
use Rattle.cc_meaning_migration.specs.Fits.{unfit_in_run, run_counts, unfit_in_back, back_counts}
use Rattle.cc_meaning_migration.specs.Answers.{answers_of, unanswered, words_of_sent}

-- ---- numbers and values

-- a number of four bytes
abbrev pub IsSmall : ℕ → Type 0
IsSmall n = n < 2 ^ 32

abbrev pub IsReference : Option ℕ → Type 0
IsReference None = Unit {0}
IsReference (Some n) = (0 < n) × IsSmall n

-- a value of a kind, in its range where it is held to that
abbrev pub IsOfKind : (is_held : Bool) → Kind → Value → Type 0
IsOfKind is_held kind.Wide (value.Long n) = FitsSigned w64 n
IsOfKind is_held kind.Wide _ = ⊥
IsOfKind is_held kind.Object (value.Obj r) = IsReference r
IsOfKind is_held kind.Object _ = ⊥
IsOfKind is_held k (value.Int n) = FitsSigned w32 n × (is_in_range is_held k n ≡ true)
IsOfKind is_held k _ = ⊥

-- a value of each of these types
abbrev pub AreOf : (is_held : Bool) → List DexType → List Value → Type 0
AreOf is_held [] [] = Unit {0}
AreOf is_held [] (v ∷ vs) = ⊥
AreOf is_held (t ∷ ts) [] = ⊥
AreOf is_held (t ∷ ts) (v ∷ vs) = IsOfKind is_held (kind_of t) v × AreOf is_held ts vs

abbrev pub AreUnits : List ℕ → Type 0
AreUnits units = IsSmall (length units) × All (λ (unit : ℕ). unit < 2 ^ 16) units

-- literals or class constants by rising number, from the least that is still allowed on, of which none was listed before
abbrev pub AreMade : (limit : ℕ) → (listed : List Made) → (least : ℕ) → List Made → Type 0
AreMade limit listed least [] = Unit {0}
AreMade limit listed least (made ∷ rest) =
    (least ≤ made.what) × (made.what < limit) × IsSmall made.what × All (λ (other : Made). other.what ≢ made.what) listed × (0 < made.number) × IsSmall made.number
    × AreMade limit listed (suc made.what) rest

abbrev pub AreMades : (limit : ℕ) → (listed : List Made) → List Made → Type 0
AreMades limit listed mades = IsSmall (length mades) × AreMade limit listed 0 mades

-- ---- objects

-- the number of a class of the program
abbrev pub IsClass : Program → ℕ → Type 0
IsClass p class = (class < length p.classes) × IsSmall class

-- an object other than `System.out`, of an allowed class and with values of its types
abbrev pub IsObject : Program → Object → Type 0
IsObject p object.Out = ⊥
IsObject p (object.Instance class values) = (is_instance_class p class ≡ true) × IsSmall class × AreOf true (shape p class) values
IsObject p (object.Array class values) = (is_array_class p class ≡ true) × IsSmall class × IsSmall (length values) × All (IsOfKind true (kind_of (element_type p class))) values
IsObject p (object.Text units) = AreUnits units
IsObject p (object.Builder units) = AreUnits units
IsObject p (object.Constant class) = IsClass p class

-- `System.out`, and behind it other objects
abbrev pub AreObjects : Program → List Object → Type 0
AreObjects p (object.Out ∷ rest) = All (IsObject p) rest
AreObjects p _ = ⊥

-- what an object of the entry can hold
abbrev pub IsHeldBy : Program → Object → Contents → Type 0
IsHeldBy p (object.Instance class before) (contents.Values now) = AreOf true (shape p class) now
IsHeldBy p (object.Array class before) (contents.Values now) = (length now ≡ length before) × All (IsOfKind true (kind_of (element_type p class))) now
IsHeldBy p (object.Builder before) (contents.Units now) = AreUnits now
IsHeldBy p object.Out contents.Nothing = Unit {0}
IsHeldBy p (object.Text units) contents.Nothing = Unit {0}
IsHeldBy p (object.Constant class) contents.Nothing = Unit {0}
IsHeldBy p _ _ = ⊥

-- ---- the rule of references

-- each number is at most one more than the greatest before it
abbrev pub IsRising : (greatest : ℕ) → List ℕ → Type 0
IsRising g [] = Unit {0}
IsRising g (n ∷ ns) = (n ≤ suc g) × IsRising (max n g) ns

unfoldable pub greatest_of : ℕ → List ℕ → ℕ
greatest_of g [] = g
greatest_of g (n ∷ ns) = greatest_of (max n g) ns

-- each object was mentioned before it is given, and in the end all that were mentioned have been given
abbrev pub AreGiven : (greatest given : ℕ) → List Object → Type 0
AreGiven g given [] = g ≤ given
AreGiven g given (o ∷ os) = (given < g) × IsRising g (mentions (members_of (Some o))) × AreGiven (greatest_of g (mentions (members_of (Some o)))) (suc given) os

unfoldable pub behind_first : List Object → List Object
behind_first [] = []
behind_first (o ∷ os) = os

-- the numbers that an image of an entry mentions before its objects
unfoldable pub mentioned_in_run : RunImage → List ℕ
mentioned_in_run image = mentions image.args ++ (mentions image.statics ++ (made_objects image.literals ++ made_objects image.constants))

unfoldable pub mentioned_in_contents : Contents → List ℕ
mentioned_in_contents (contents.Values values) = mentions values
mentioned_in_contents _ = []

-- the numbers that an image of an end mentions before its new objects
unfoldable pub mentioned_in_back : BackImage → List ℕ
mentioned_in_back image =
    mentioned_in_end image.ending ++ (mentions image.statics ++ (made_objects image.literals ++ (made_objects image.constants
    ++ flat_map (λ (change : Change). mentioned_in_contents change.contents) image.old)))

-- ---- the image of an entry

-- an image of an entry that has a spelling
pub record IsRun (p : Program) (image : RunImage) : Type 0 where
  pub target : Method
  pub moves : movable p image.method ≡ Some target
  pub method_number : IsSmall image.method
  pub instructions : image.instructions < 2 ^ 64
  pub words : IsSmall image.words
  pub depth : image.depth < 2 ^ 16
  pub registers : IsSmall image.registers
  pub all_statuses : length image.statuses ≡ classes_of_file p
  pub statuses : All (λ (status : ℕ). status ≤ 3) image.statuses
  pub args : AreOf false (argument_types target) image.args
  pub statics : AreOf true (static_types p) image.statics
  pub literals : AreMades (length p.texts) [] image.literals
  pub constants : AreMades (length p.classes) [] image.constants
  pub objects : AreObjects p image.objects
  pub first_mentions : IsRising 1 (mentioned_in_run image)
  pub given : AreGiven (greatest_of 1 (mentioned_in_run image)) 1 (behind_first image.objects)

-- bytes spell an image of an entry
pub record RunSpells (p : Program) (bytes : List ℕ) (image : RunImage) : Type 0 where
  pub form : IsRun p image
  pub spelling : bytes ≡ spelled_run image

-- its objects fit, and its counters are such as a run can have
pub record RunFits (p : Program) (image : RunImage) : Type 0 where
  pub objects : unfit_in_run p image ≡ None
  pub counters : run_counts image ≡ true

-- ---- the image of an end

abbrev pub IsResult : Option DexType → Option Value → Type 0
IsResult None None = Unit {0}
IsResult (Some t) (Some v) = IsOfKind false (kind_of t) v
IsResult _ _ = ⊥

-- the number of a method of the program
abbrev pub IsMethod : Program → ℕ → Type 0
IsMethod p m = (m < length p.methods) × IsSmall m

abbrev pub IsStop : Program → StopCause → Type 0
IsStop p cause.Budget = Unit {0}
IsStop p cause.Heap = Unit {0}
IsStop p (cause.ScriptEnd class) = IsClass p class
IsStop p (cause.ScriptOther class wanted found) = IsClass p class × IsMethod p wanted × IsMethod p found

abbrev pub IsEnding : Program → Option DexType → CallEnd → Type 0
IsEnding p t (end.Returned v) = IsResult t v
IsEnding p t (end.Thrown n) = (0 < n) × IsSmall n
IsEnding p t (end.Stopped stop) = IsStop p stop

-- a class that was started before the entry, or failed, is so still
abbrev pub AreStatusesSince : (before now : List ℕ) → Type 0
AreStatusesSince [] [] = Unit {0}
AreStatusesSince (b ∷ before) (s ∷ now) = (s ≤ 3) × ((b ≡ 0) ⊎ (s ≡ b)) × AreStatusesSince before now
AreStatusesSince _ _ = ⊥

abbrev pub IsArgument : Program → Kind → Arg → Type 0
IsArgument p kind.Wide (arg.Long n) = FitsSigned w64 n
IsArgument p kind.Wide _ = ⊥
IsArgument p kind.Object arg.Null = Unit {0}
IsArgument p kind.Object (arg.Instance class) = IsClass p class
IsArgument p kind.Object (arg.Text units) = AreUnits units
IsArgument p kind.Object _ = ⊥
IsArgument p k (arg.Int n) = FitsSigned w32 n
IsArgument p k _ = ⊥

abbrev pub AreArguments : Program → List DexType → List Arg → Type 0
AreArguments p [] [] = Unit {0}
AreArguments p (t ∷ ts) (a ∷ as') = IsArgument p (kind_of t) a × AreArguments p ts as'
AreArguments p _ _ = ⊥

-- a call of a method that a script answers
abbrev pub IsSentCall : Program → SentCall → Type 0
IsSentCall p call = IsSmall call.method × ((method : Method) × (scripted p call.method ≡ Some method) × AreArguments p (argument_types method) call.args)

-- the first version lists each object of the entry, from a number on
abbrev pub AreAllListed : Program → List Object → (number : ℕ) → List Change → Type 0
AreAllListed p [] n [] = Unit {0}
AreAllListed p (o ∷ before) n (change ∷ rest) = (change.number ≡ n) × IsHeldBy p o change.contents × AreAllListed p before (suc n) rest
AreAllListed p _ n _ = ⊥

-- the second lists objects that hold something else than they did, by rising number
abbrev pub AreChanged : Program → (before : List Object) → (least : ℕ) → List Change → Type 0
AreChanged p before least [] = Unit {0}
AreChanged p before least (change ∷ rest) =
    (least ≤ change.number) × IsSmall change.number
    × ((i : ℕ) × (o : Object) × (change.number ≡ suc i) × (slice_get before i ≡ Some o) × IsHeldBy p o change.contents × (holds_same (Some o) change.contents ≢ true))
    × AreChanged p before (suc change.number) rest

abbrev pub AreListed : Version → Program → (before : List Object) → List Change → Type 0
AreListed First p before changes = AreAllListed p before 1 changes
AreListed Second p before changes = IsSmall (length changes) × AreChanged p before 1 changes

-- an image of the end of an entry that has a spelling in a version
pub record IsBack (v : Version) (p : Program) (run : RunImage) (image : BackImage) : Type 0 where
  pub ending : IsEnding p (result_type p run) image.ending
  pub instructions : image.instructions < 2 ^ 64
  pub words : IsSmall image.words
  pub statuses : AreStatusesSince run.statuses image.statuses
  pub statics : AreOf true (static_types p) image.statics
  pub literals : AreMades (length p.texts) run.literals image.literals
  pub constants : AreMades (length p.classes) run.constants image.constants
  pub event_count : IsSmall (length image.events)
  pub events : All (IsSentCall p) image.events
  pub old : AreListed v p run.objects image.old
  pub fresh : All (IsObject p) image.fresh
  pub first_mentions : IsRising (length run.objects) (mentioned_in_back image)
  pub given : AreGiven (greatest_of (length run.objects) (mentioned_in_back image)) (length run.objects) image.fresh

-- bytes spell an image of an end in a version
pub record BackSpells (v : Version) (p : Program) (run : RunImage) (bytes : List ℕ) (image : BackImage) : Type 0 where
  pub form : IsBack v p run image
  pub spelling : bytes ≡ spelled_back v image

-- Its objects fit, its counters say no less than what was made and recorded, and the script has an answer for each of its calls.
pub record BackFits (script : Script) (p : Program) (cursors : List ℕ) (run : RunImage) (image : BackImage) : Type 0 where
  pub objects : unfit_in_back p run image ≡ None
  pub counters : back_counts run image (words_of_sent image.events (answers_of script p cursors image.events)) ≡ true
  pub answers : unanswered script p cursors image.events ≡ None
