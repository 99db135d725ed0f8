-- Reading images from left to right, to the first fault: a number that is cut off, or one that isn't allowed at its place. Images are read here of the form
-- that int methods alone need: numbers of 32 bits, no literals, class constants or events, and no object but `System.out`. Any other form isn't allowed.
use Rattle.std.specs.Prelude.{ℕ, zero, suc, ◌+◌, ◌==◌, ◌&&◌, nat_le, nat_lt, not, Bool, true, false, cond, List, [], ◌∷◌, ◌++◌, length, map, take, drop, filter, Option, Some, None, Result, Ok, Err, slice_get, codes}
use Rattle.std.specs.Str.{bytes_eq}
use Rattle.std.specs.Int.{Width, w16, w32, w64, byte_len, from_be_bytes, cast_signed}
use Rattle.cc_meaning.specs.declared.instruction.Kind.{Kind}
use Rattle.cc_meaning.specs.declared.instruction.Kind.TheVariants as access
use Rattle.cc_meaning.specs.declared.value.Value.{Value}
use Rattle.cc_meaning.specs.declared.value.Value.TheVariants as value
use Rattle.cc_meaning.specs.declared.value.Object.TheVariants as object
use Rattle.cc_meaning.specs.declared.report.CallEnd.{CallEnd}
use Rattle.cc_meaning.specs.declared.report.CallEnd.TheVariants as end
use Rattle.cc_meaning.specs.declared.report.StopCause.TheVariants as cause
use Rattle.cc_meaning.specs.declared.program.Class.{Class}
use Rattle.cc_meaning.specs.declared.program.Code.{Code}
use Rattle.cc_meaning.specs.declared.program.DexType.{DexType}
use Rattle.cc_meaning.specs.declared.program.Field.{Field}
use Rattle.cc_meaning.specs.declared.program.Method.{Method}
use Rattle.cc_meaning.specs.declared.program.Program.{Program}
use Rattle.cc_meaning.specs.declared.fault.ImageFault.{ImageFault}
use Rattle.cc_meaning.specs.declared.fault.ImageFault.TheVariants.{CutOff, Trailing, BadKind, BadCounter}
use Rattle.cc_meaning.specs.declared.image.Contents.TheVariants as contents
use Rattle.cc_meaning.specs.declared.image.RunImage.{RunImage}
use Rattle.cc_meaning.specs.declared.image.BackImage.{BackImage}
use Rattle.cc_meaning.specs.Kinds.{kind_of}
use Rattle.cc_meaning_run.specs.Instructions.{code_of_kind}
use Rattle.cc_meaning_run.specs.Eval.{most_frames, most_registers}
use Rattle.cc_meaning_images.specs.Capture.{is_of_file, is_sent}

-- what was read, the place behind it and what stands there; or the fault
pub data Got (A : Type 0) : Type 0 where
  got : A → (at : ℕ) → (rest : List ℕ) → Got A
  wrong : ImageFault → Got A

-- reads on
unfoldable pub reading : {A B : Type 0} → Got A → (A → ℕ → List ℕ → Got B) → Got B
reading (got a at rest) k = k a at rest
reading (wrong fault) k = wrong fault

-- a number at a place that isn't allowed there
unfoldable pub allowed : {A : Type 0} → Bool → ℕ → Got A → Got A
allowed true at more = more
allowed false at more = wrong (BadKind at)

-- ---- numbers

unfoldable pub number_if : Bool → Width → ℕ → List ℕ → Got ℕ
number_if true w at rest = got (from_be_bytes w (take (byte_len w) rest)) (at + byte_len w) (drop (byte_len w) rest)
number_if false w at rest = wrong CutOff

-- a number of two, four or eight bytes
unfoldable pub number : Width → ℕ → List ℕ → Got ℕ
number w at rest = number_if (nat_le (byte_len w) (length rest)) w at rest

unfoldable pub byte : ℕ → List ℕ → Got ℕ
byte at [] = wrong CutOff
byte at (b ∷ rest) = got b (at + 1) rest

-- a count of nothing
unfoldable pub none : ℕ → List ℕ → Got (Unit {0})
none at rest = reading (number w32 at rest) (λ n next more. allowed (n == 0) at (got tt next more))

-- the values of these kinds
unfoldable pub values : List Kind → ℕ → List ℕ → Got (List Value)
values [] at rest = got [] at rest
values (access.Plain ∷ kinds) at rest =
    reading (number w32 at rest) (λ n next more. reading (values kinds next more) (λ vs last left. got (value.Int (cast_signed w32 n) ∷ vs) last left))
values (_ ∷ kinds) at rest = wrong (BadKind at)

-- ---- what an image goes by

-- the kinds of a method's arguments, the receiver first
abbrev pub argument_kinds : Method → List Kind
argument_kinds method = cond method.is_static [] (access.Object ∷ []) ++ map (λ (type : DexType). kind_of type) method.params

-- the kinds of the statics that are sent
abbrev pub static_kinds : Program → List Kind
static_kinds p = map (λ (f : Field). kind_of f.ty) (filter (is_sent p) p.fields)

-- how many classes are the file's
abbrev pub classes_of_file : Program → ℕ
classes_of_file p = length (filter (λ (c : Class). is_of_file c.kind) p.classes)

-- a method that a Run may be of: it has code, and is no constructor, no initialiser and not `main`
pub record Runnable : Type 0 where
  pub method : Method
  pub code : Code

abbrev pub is_movable : Program → ℕ → Method → Bool
is_movable p m method = not (m == p.main) && (not (bytes_eq method.name (codes "<init>")) && not (bytes_eq method.name (codes "<clinit>")))

abbrev pub runnable_if : Bool → Method → Option Code → Option Runnable
runnable_if true method (Some code) = Some (record { method = method; code = code })
runnable_if _ method _ = None

abbrev pub runnable_method : Program → ℕ → Option Method → Option Runnable
runnable_method p m None = None
runnable_method p m (Some method) = runnable_if (is_movable p m method) method (code_of_kind method.kind)

unfoldable pub runnable : Program → ℕ → Option Runnable
runnable p m = runnable_method p m (slice_get p.methods m)

-- ---- the image of an entry

-- its numbers before the statuses, with the method
pub record RunHead : Type 0 where
  pub target : Runnable
  pub method : ℕ
  pub instructions : ℕ
  pub words : ℕ
  pub depth : ℕ
  pub registers : ℕ

abbrev pub on_runnable : {A : Type 0} → Option Runnable → ℕ → (Runnable → Got A) → Got A
on_runnable None at k = wrong (BadKind at)
on_runnable (Some target) at k = k target

-- A Run whose method finds no room for its frame would end with an exception, which is a form of its own. Numbers that no run has are no matter of form.
abbrev pub has_frame : ℕ → Bool
has_frame depth = not (depth == most_frames)

abbrev pub has_registers : Code → ℕ → Bool
has_registers code registers = not (nat_le registers most_registers && nat_lt most_registers (registers + code.registers))

unfoldable pub run_head : Program → ℕ → List ℕ → Got RunHead
run_head p at rest =
    reading (number w32 at rest) (λ m a1 r1. on_runnable (runnable p m) at (λ target.
    reading (number w64 a1 r1) (λ instructions a2 r2.
    reading (number w32 a2 r2) (λ words a3 r3.
    reading (number w16 a3 r3) (λ depth a4 r4. allowed (has_frame depth) a3 (
    reading (number w32 a4 r4) (λ registers a5 r5. allowed (has_registers target.code registers) a4 (
    got (record { target = target; method = m; instructions = instructions; words = words; depth = depth; registers = registers }) a5 r5))))))))

-- the status of each class of the file
unfoldable pub statuses : ℕ → ℕ → List ℕ → Got (List ℕ)
statuses zero at rest = got [] at rest
statuses (suc n) at rest =
    reading (byte at rest) (λ b next more. allowed (nat_le b 3) at (reading (statuses n next more) (λ bs last left. got (b ∷ bs) last left)))

-- the one object
unfoldable pub out_alone : ℕ → List ℕ → Got (Unit {0})
out_alone at rest = reading (byte at rest) (λ b next more. allowed (b == 0) at (got tt next more))

abbrev pub run_by : RunHead → List ℕ → List Value → List Value → RunImage
run_by head ss args statics = record {
  method = head.method;
  instructions = head.instructions;
  words = head.words;
  depth = head.depth;
  registers = head.registers;
  statuses = ss;
  args = args;
  statics = statics;
  literals = [];
  constants = [];
  objects = object.Out ∷ [];
}

unfoldable pub run_behind : Program → RunHead → ℕ → List ℕ → Got RunImage
run_behind p head at rest =
    reading (statuses (classes_of_file p) at rest) (λ ss a1 r1.
    reading (values (argument_kinds head.target.method) a1 r1) (λ args a2 r2.
    reading (values (static_kinds p) a2 r2) (λ statics a3 r3.
    reading (none a3 r3) (λ literals a4 r4.
    reading (none a4 r4) (λ constants a5 r5.
    reading (out_alone a5 r5) (λ out a6 r6.
    got (run_by head ss args statics) a6 r6))))))

-- the counters are in their ranges
abbrev pub run_fits : RunImage → Bool
run_fits image =
    nat_le image.instructions 4294967296 && (nat_le image.words 4194304 && (nat_le 1 image.depth && (nat_le image.depth most_frames && nat_le image.registers most_registers)))

abbrev pub fitting : {A : Type 0} → Bool → A → Result A ImageFault
fitting true a = Ok a
fitting false a = Err BadCounter

-- nothing stands behind an image, and then its counters are judged
unfoldable pub whole : {A : Type 0} → (A → Bool) → Got A → Result A ImageFault
whole fits (got a at []) = fitting (fits a) a
whole fits (got a at (b ∷ rest)) = Err Trailing
whole fits (wrong fault) = Err fault

-- the image of an entry that bytes spell, or the first fault
unfoldable pub read_run : Program → List ℕ → Result RunImage ImageFault
read_run p bytes = whole run_fits (reading (run_head p 0 bytes) (λ head at rest. run_behind p head at rest))

-- ---- the image of an end

-- what a method of this result gives
unfoldable pub result : Option DexType → ℕ → List ℕ → Got (Option Value)
result None at rest = got None at rest
result (Some type) at rest = reading (values (kind_of type ∷ []) at rest) (λ vs next more. got (slice_get vs 0) next more)

-- returned, or stopped for want of instructions or words
unfoldable pub ending_by : Option DexType → ℕ → (from at : ℕ) → List ℕ → Got CallEnd
ending_by type zero from at rest = reading (result type at rest) (λ v next more. got (end.Returned v) next more)
ending_by type (suc zero) from at rest = wrong (BadKind from)
ending_by type (suc (suc zero)) from at rest = got (end.Stopped cause.Budget) at rest
ending_by type (suc (suc (suc zero))) from at rest = got (end.Stopped cause.Heap) at rest
ending_by type (suc (suc (suc (suc n)))) from at rest = wrong (BadKind from)

unfoldable pub ending : Option DexType → ℕ → List ℕ → Got CallEnd
ending type at rest = reading (byte at rest) (λ b next more. ending_by type b at next more)

-- the statuses at the end: a class that was started, or failed, is so still
unfoldable pub statuses_since : List ℕ → ℕ → List ℕ → Got (List ℕ)
statuses_since [] at rest = got [] at rest
statuses_since (s ∷ ss) at rest =
    reading (byte at rest) (λ b next more. allowed (nat_le b 3 && cond (s == 0) true (b == s)) at (reading (statuses_since ss next more) (λ bs last left. got (b ∷ bs) last left)))

-- what stands before the statuses
pub record BackHead : Type 0 where
  pub ending : CallEnd
  pub instructions : ℕ
  pub words : ℕ

unfoldable pub back_head : Option DexType → ℕ → List ℕ → Got BackHead
back_head type at rest =
    reading (ending type at rest) (λ e a1 r1.
    reading (number w64 a1 r1) (λ instructions a2 r2.
    reading (number w32 a2 r2) (λ words a3 r3.
    got (record { ending = e; instructions = instructions; words = words }) a3 r3)))

abbrev pub back_by_head : BackHead → List ℕ → List Value → BackImage
back_by_head head ss statics = record {
  ending = head.ending;
  instructions = head.instructions;
  words = head.words;
  statuses = ss;
  statics = statics;
  literals = [];
  constants = [];
  events = [];
  old = contents.Nothing ∷ [];
  fresh = [];
}

unfoldable pub back_behind : Program → List ℕ → BackHead → ℕ → List ℕ → Got BackImage
back_behind p before head at rest =
    reading (statuses_since before at rest) (λ ss a1 r1.
    reading (values (static_kinds p) a1 r1) (λ statics a2 r2.
    reading (none a2 r2) (λ literals a3 r3.
    reading (none a3 r3) (λ constants a4 r4.
    reading (none a4 r4) (λ events a5 r5.
    got (back_by_head head ss statics) a5 r5)))))

-- no counter is above the one that was sent
abbrev pub back_fits : RunImage → BackImage → Bool
back_fits run image = nat_le image.instructions run.instructions && nat_le image.words run.words

abbrev pub result_of : Option Method → Option DexType
result_of None = None
result_of (Some method) = method.result

-- the image of the end of a Run that bytes spell, or the first fault
unfoldable pub read_back : Program → RunImage → List ℕ → Result BackImage ImageFault
read_back p run bytes = whole (back_fits run) (reading (back_head (result_of (slice_get p.methods run.method)) 0 bytes) (λ head at rest. back_behind p run.statuses head at rest))
