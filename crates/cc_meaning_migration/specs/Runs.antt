-- Reading the image of an entry.
use Rattle.std.specs.Prelude.{ℕ, zero, suc, ◌==◌, ◌&&◌, nat_le, not, Bool, true, false, cond, List, [], ◌∷◌, ◌++◌, length, map, filter, Option, Some, None, slice_get, codes}
use Rattle.std.specs.Str.{bytes_eq}
use Rattle.std.specs.Int.{w16, w32, w64}
use Rattle.cc_meaning.specs.declared.image.RunImage.{RunImage}
use Rattle.cc_meaning.specs.declared.program.Class.{Class}
use Rattle.cc_meaning.specs.declared.program.DexType.{DexType}
use Rattle.cc_meaning.specs.declared.program.Field.{Field}
use Rattle.cc_meaning.specs.declared.program.Method.{Method}
use Rattle.cc_meaning.specs.declared.program.MethodKind.{MethodKind}
use Rattle.cc_meaning.specs.declared.program.MethodKind.TheVariants as kinds
use Rattle.cc_meaning.specs.declared.program.Program.{Program}
use Rattle.cc_meaning.specs.declared.value.Made.{Made}
use Rattle.cc_meaning.specs.declared.value.Object.{Object}
use Rattle.cc_meaning.specs.declared.value.Value.{Value}
use Rattle.cc_meaning_typing.specs.Types.{class_type}
use Rattle.cc_meaning_typing.specs.WellTyped.{is_of_file}
use Rattle.cc_meaning_migration.specs.Entry.{is_sent}
use Rattle.cc_meaning_migration.specs.Numbers.{Spot, Got, got, reading, allowed, on_named, number, byte}
use Rattle.cc_meaning_migration.specs.Items.{values_of, mades, out_at, objects_behind}

-- ---- what an image goes by

-- the declared types of a method's arguments, the receiver's first
unfoldable pub argument_types : Method → List DexType
argument_types method = cond method.is_static [] (class_type method.class ∷ []) ++ method.params

-- the declared types of the statics that are sent
unfoldable pub static_types : Program → List DexType
static_types p = map (λ (f : Field). f.ty) (filter (is_sent p) p.fields)

-- how many classes are the file's
unfoldable pub classes_of_file : Program → ℕ
classes_of_file p = length (filter (λ (class : Class). is_of_file class.kind) p.classes)

unfoldable pub has_code : MethodKind → Bool
has_code (kinds.Code code) = true
has_code _ = false

unfoldable pub if_movable : Program → ℕ → Option Method → Option Method
if_movable p m None = None
if_movable p m (Some method) =
    cond (has_code method.kind && (not (m == p.main) && (not (bytes_eq method.name (codes "<init>")) && not (bytes_eq method.name (codes "<clinit>"))))) (Some method) None

-- the method of a number, where it may move: it has code, and is no constructor, no initialiser and not `main`
unfoldable pub movable : Program → ℕ → Option Method
movable p m = if_movable p m (slice_get p.methods m)

-- ---- the image

-- the numbers before the statuses
pub record RunHead : Type 0 where
  pub method : ℕ
  pub args : List DexType
  pub instructions : ℕ
  pub words : ℕ
  pub depth : ℕ
  pub registers : ℕ

unfoldable pub run_head : Program → Spot → Got RunHead
run_head p s =
    reading (number w32 s) (λ m s1. on_named (movable p m) s.at (λ method.
    reading (number w64 s1) (λ instructions s2.
    reading (number w32 s2) (λ words s3.
    reading (number w16 s3) (λ depth s4.
    reading (number w32 s4) (λ registers s5.
    got (record { method = m; args = argument_types method; instructions = instructions; words = words; depth = depth; registers = registers }) s5))))))

-- the status of each class of the file
unfoldable pub statuses_of : (count : ℕ) → Spot → Got (List ℕ)
statuses_of zero s = got [] s
statuses_of (suc n) s = reading (byte s) (λ b s1. allowed (nat_le b 3) s.at (reading (statuses_of n s1) (λ bs s2. got (b ∷ bs) s2)))

-- `System.out`, and the objects behind it
unfoldable pub run_objects : Program → Spot → Got (List Object)
run_objects p s = reading (out_at s) (λ o s1. reading (objects_behind p 1 s1) (λ os s2. got (o ∷ os) s2))

unfoldable pub run_of : RunHead → (statuses : List ℕ) → (args statics : List Value) → (literals constants : List Made) → List Object → RunImage
run_of head statuses args statics literals constants objects = record {
  method = head.method;
  instructions = head.instructions;
  words = head.words;
  depth = head.depth;
  registers = head.registers;
  statuses = statuses;
  args = args;
  statics = statics;
  literals = literals;
  constants = constants;
  objects = objects;
}

unfoldable pub run_behind : Program → RunHead → Spot → Got RunImage
run_behind p head s =
    reading (statuses_of (classes_of_file p) s) (λ statuses s1.
    reading (values_of false head.args s1) (λ args s2.
    reading (values_of true (static_types p) s2) (λ statics s3.
    reading (mades (length p.texts) [] s3) (λ literals s4.
    reading (mades (length p.classes) [] s4) (λ constants s5.
    reading (run_objects p s5) (λ objects s6.
    got (run_of head statuses args statics literals constants objects) s6))))))

-- the image of an entry, as far as it goes by its bytes alone; `System.out` counts as mentioned before all
unfoldable pub read_run : Program → List ℕ → Got RunImage
read_run p bytes = reading (run_head p (record { at = 0; rest = bytes; greatest = 1 })) (λ head s. run_behind p head s)
