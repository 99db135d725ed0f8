-- Reading the image of an end, beside the image of its entry.
use Rattle.std.specs.Prelude.{ℕ, zero, suc, ◌==◌, ◌&&◌, ◌||◌, nat_le, nat_lt, not, Bool, true, false, List, [], ◌∷◌, length, Option, Some, None, slice_get}
use Rattle.std.specs.Int.{w32, w64, cast_signed}
use Rattle.cc_meaning.specs.declared.fault.ImageFault.TheVariants.{BadKind}
use Rattle.cc_meaning.specs.declared.image.Contents.{Contents}
use Rattle.cc_meaning.specs.declared.image.Contents.TheVariants as contents
use Rattle.cc_meaning.specs.declared.image.RunImage.{RunImage}
use Rattle.cc_meaning.specs.declared.instruction.Kind.{Kind}
use Rattle.cc_meaning.specs.declared.instruction.Kind.TheVariants as kind
use Rattle.cc_meaning.specs.declared.program.DexType.{DexType}
use Rattle.cc_meaning.specs.declared.program.Method.{Method}
use Rattle.cc_meaning.specs.declared.program.Program.{Program}
use Rattle.cc_meaning.specs.declared.report.Arg.{Arg}
use Rattle.cc_meaning.specs.declared.report.Arg.TheVariants as arg
use Rattle.cc_meaning.specs.declared.report.CallEnd.{CallEnd}
use Rattle.cc_meaning.specs.declared.report.CallEnd.TheVariants as end
use Rattle.cc_meaning.specs.declared.report.SentCall.{SentCall}
use Rattle.cc_meaning.specs.declared.report.StopCause.TheVariants as cause
use Rattle.cc_meaning.specs.declared.value.Made.{Made}
use Rattle.cc_meaning.specs.declared.value.Object.{Object}
use Rattle.cc_meaning.specs.declared.value.Object.TheVariants as object
use Rattle.cc_meaning.specs.declared.value.Value.{Value}
use Rattle.cc_meaning.specs.Kinds.{kind_of}
use Rattle.cc_meaning_world.specs.Layouts.{shape}
use Rattle.cc_meaning_world.specs.Scripts.{is_scripted}
use Rattle.cc_meaning_migration.specs.declared.image.BackImage.{BackImage}
use Rattle.cc_meaning_migration.specs.declared.image.Change.{Change}
use Rattle.cc_meaning_migration.specs.declared.image.Version.{Version}
use Rattle.cc_meaning_migration.specs.declared.image.Version.TheVariants.{First, Second}
use Rattle.cc_meaning_migration.specs.Ends.{holds_same}
use Rattle.cc_meaning_migration.specs.Numbers.{Spot, Got, got, wrong, reading, allowed, on_named, number, byte, object_named, counted_items}
use Rattle.cc_meaning_migration.specs.Items.{value_of_kind, values_of, units, mades, class_number, elements, objects_behind}
use Rattle.cc_meaning_migration.specs.Runs.{argument_types, static_types}

-- ---- how the method ended

unfoldable pub result_of : Option Method → Option DexType
result_of None = None
result_of (Some method) = method.result

-- the declared type of what the method of an image gives
unfoldable pub result_type : Program → RunImage → Option DexType
result_type p run = result_of (slice_get p.methods run.method)

unfoldable pub returned : Option DexType → Spot → Got CallEnd
returned None s = got (end.Returned None) s
returned (Some t) s = reading (value_of_kind false (kind_of t) s) (λ v s1. got (end.Returned (Some v)) s1)

-- a number of a method
unfoldable pub method_number : Program → Spot → Got ℕ
method_number p s = reading (number w32 s) (λ n s1. allowed (nat_lt n (length p.methods)) s.at (got n s1))

unfoldable pub script_end : Program → Spot → Got CallEnd
script_end p s = reading (class_number p s) (λ class s1. got (end.Stopped (cause.ScriptEnd class)) s1)

unfoldable pub script_other : Program → Spot → Got CallEnd
script_other p s =
    reading (class_number p s) (λ class s1. reading (method_number p s1) (λ wanted s2. reading (method_number p s2) (λ found s3.
    got (end.Stopped (cause.ScriptOther class wanted found)) s3)))

unfoldable pub ending_by : Program → Option DexType → (kind at : ℕ) → Spot → Got CallEnd
ending_by p t zero at s = returned t s
ending_by p t (suc zero) at s = reading (object_named s) (λ a s1. got (end.Thrown a) s1)
ending_by p t (suc (suc zero)) at s = got (end.Stopped cause.Budget) s
ending_by p t (suc (suc (suc zero))) at s = got (end.Stopped cause.Heap) s
ending_by p t (suc (suc (suc (suc zero)))) at s = script_end p s
ending_by p t (suc (suc (suc (suc (suc zero))))) at s = script_other p s
ending_by p t _ at s = wrong (BadKind at)

unfoldable pub ending : Program → Option DexType → Spot → Got CallEnd
ending p t s = reading (byte s) (λ kind s1. ending_by p t kind s.at s1)

-- ---- statuses

-- a class that was started before the entry, or failed, is so still
unfoldable pub statuses_since : (before : List ℕ) → Spot → Got (List ℕ)
statuses_since [] s = got [] s
statuses_since (before ∷ rest) s =
    reading (byte s) (λ b s1. allowed (nat_le b 3 && ((before == 0) || (b == before))) s.at (reading (statuses_since rest s1) (λ bs s2. got (b ∷ bs) s2)))

-- ---- recorded calls

unfoldable pub reference_argument : Program → (kind at : ℕ) → Spot → Got Arg
reference_argument p zero at s = got arg.Null s
reference_argument p (suc zero) at s = reading (class_number p s) (λ class s1. got (arg.Instance class) s1)
reference_argument p (suc (suc zero)) at s = reading (units s) (λ us s1. got (arg.Text us) s1)
reference_argument p _ at s = wrong (BadKind at)

-- an argument of a kind, as records show it; numbers aren't held to their range
unfoldable pub argument_of_kind : Program → Kind → Spot → Got Arg
argument_of_kind p kind.Wide s = reading (number w64 s) (λ n s1. got (arg.Long (cast_signed w64 n)) s1)
argument_of_kind p kind.Object s = reading (byte s) (λ k s1. reference_argument p k s.at s1)
argument_of_kind p _ s = reading (number w32 s) (λ n s1. got (arg.Int (cast_signed w32 n)) s1)

unfoldable pub arguments_of : Program → List DexType → Spot → Got (List Arg)
arguments_of p [] s = got [] s
arguments_of p (t ∷ ts) s = reading (argument_of_kind p (kind_of t) s) (λ a s1. reading (arguments_of p ts s1) (λ rest s2. got (a ∷ rest) s2))

unfoldable pub if_scripted : Bool → Option Method → Option Method
if_scripted true method = method
if_scripted false method = None

-- the method of a number, where a script answers it
unfoldable pub scripted : Program → ℕ → Option Method
scripted p m = if_scripted (is_scripted p m) (slice_get p.methods m)

unfoldable pub sent_call : Program → Spot → Got SentCall
sent_call p s =
    reading (number w32 s) (λ m s1. on_named (scripted p m) s.at (λ method. reading (arguments_of p (argument_types method) s1) (λ args s2.
    got (record { method = m; args = args }) s2)))

-- ---- what the objects of the entry hold

-- what an object of the entry holds now
unfoldable pub contents_for : Program → Object → Spot → Got Contents
contents_for p (object.Instance class values) s = reading (values_of true (shape p class) s) (λ vs s1. got (contents.Values vs) s1)
contents_for p (object.Array class values) s = reading (elements p class (length values) s) (λ vs s1. got (contents.Values vs) s1)
contents_for p (object.Builder us) s = reading (units s) (λ more s1. got (contents.Units more) s1)
contents_for p _ s = got contents.Nothing s

-- each object from a number on, in order
unfoldable pub all_contents : Program → List Object → (number : ℕ) → Spot → Got (List Change)
all_contents p [] n s = got [] s
all_contents p (o ∷ os) n s =
    reading (contents_for p o s) (λ c s1. reading (all_contents p os (suc n) s1) (λ rest s2. got (record { number = n; contents = c } ∷ rest) s2))

-- whether a number may be listed next
unfoldable pub is_next : (before : List Object) → (least n : ℕ) → Bool
is_next before least n = nat_le least n && nat_le n (length before)

unfoldable pub object_numbered : List Object → ℕ → Option Object
object_numbered before zero = None
object_numbered before (suc i) = slice_get before i

unfoldable pub if_next : Bool → Option Object → Option Object
if_next true o = o
if_next false o = None

-- so many objects that hold something else than they did, by rising number; that one holds what it did is known behind its contents
unfoldable pub changed_contents : Program → (before : List Object) → (count least : ℕ) → Spot → Got (List Change)
changed_contents p before zero least s = got [] s
changed_contents p before (suc k) least s =
    reading (number w32 s) (λ n s1. on_named (if_next (is_next before least n) (object_numbered before n)) s.at (λ o.
    reading (contents_for p o s1) (λ c s2. allowed (not (holds_same (Some o) c)) s.at (
    reading (changed_contents p before k (suc n) s2) (λ rest s3.
    got (record { number = n; contents = c } ∷ rest) s3)))))

unfoldable pub old_contents : Version → Program → (before : List Object) → Spot → Got (List Change)
old_contents First p before s = all_contents p before 1 s
old_contents Second p before s = reading (number w32 s) (λ n s1. changed_contents p before n 1 s1)

-- ---- the image

-- what stands before the statuses
pub record BackHead : Type 0 where
  pub ending : CallEnd
  pub instructions : ℕ
  pub words : ℕ

unfoldable pub back_head : Program → Option DexType → Spot → Got BackHead
back_head p t s =
    reading (ending p t s) (λ e s1. reading (number w64 s1) (λ instructions s2. reading (number w32 s2) (λ words s3.
    got (record { ending = e; instructions = instructions; words = words }) s3)))

unfoldable pub back_of : BackHead → (statuses : List ℕ) → (statics : List Value) → (literals constants : List Made) → List SentCall → List Change → List Object → BackImage
back_of head statuses statics literals constants events old fresh = record {
  ending = head.ending;
  instructions = head.instructions;
  words = head.words;
  statuses = statuses;
  statics = statics;
  literals = literals;
  constants = constants;
  events = events;
  old = old;
  fresh = fresh;
}

unfoldable pub back_behind : Version → Program → RunImage → BackHead → Spot → Got BackImage
back_behind v p run head s =
    reading (statuses_since run.statuses s) (λ statuses s1.
    reading (values_of true (static_types p) s1) (λ statics s2.
    reading (mades (length p.texts) run.literals s2) (λ literals s3.
    reading (mades (length p.classes) run.constants s3) (λ constants s4.
    reading (counted_items (sent_call p) s4) (λ events s5.
    reading (old_contents v p run.objects s5) (λ old s6.
    reading (objects_behind p (length run.objects) s6) (λ fresh s7.
    got (back_of head statuses statics literals constants events old fresh) s7)))))))

-- the image of an end, as far as it goes by its bytes and the image of the entry; the objects of the entry count as mentioned before all
unfoldable pub read_back : Version → Program → RunImage → List ℕ → Got BackImage
read_back v p run bytes =
    reading (back_head p (result_type p run) (record { at = 0; rest = bytes; greatest = length run.objects })) (λ head s. back_behind v p run head s)
