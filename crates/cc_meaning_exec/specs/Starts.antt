-- The start of a class: which classes an instruction starts, what they hold then, and what comes of a start that fails.
use Rattle.std.specs.Prelude.{ℕ, zero, suc, Bool, true, false, cond, ◌==◌, ◌&&◌, List, [], ◌∷◌, length, Option, Some, None, slice_get, slice_set}
use Rattle.cc_meaning.specs.declared.instruction.How.TheVariants as how
use Rattle.cc_meaning.specs.declared.instruction.Insn.{Insn}
use Rattle.cc_meaning.specs.declared.instruction.Insn.TheVariants as insn
use Rattle.cc_meaning.specs.declared.instruction.MethodRef.TheVariants as ref
use Rattle.cc_meaning.specs.declared.instruction.TypeRef.TheVariants as type
use Rattle.cc_meaning.specs.declared.program.Base.{Base}
use Rattle.cc_meaning.specs.declared.program.Base.TheVariants as base
use Rattle.cc_meaning.specs.declared.program.Class.{Class}
use Rattle.cc_meaning.specs.declared.program.Field.{Field}
use Rattle.cc_meaning.specs.declared.program.Method.{Method}
use Rattle.cc_meaning.specs.declared.program.Program.{Program}
use Rattle.cc_meaning.specs.declared.program.StaticValue.{StaticValue}
use Rattle.cc_meaning.specs.declared.program.StaticValue.TheVariants as static
use Rattle.cc_meaning.specs.declared.script.Script.{Script}
use Rattle.cc_meaning.specs.declared.value.Object.{Object}
use Rattle.cc_meaning.specs.declared.value.Value.TheVariants as value
use Rattle.cc_meaning.specs.BuiltIn.{error_name, exception_in_initializer_error_name, no_class_def_found_error_name}
use Rattle.cc_meaning_typing.specs.Hierarchy.{superclass_of}
use Rattle.cc_meaning_typing.specs.Types.{class_type}
use Rattle.cc_meaning_typing.specs.WellTyped.{is_of_file}
use Rattle.cc_meaning_world.specs.World.{World}
use Rattle.cc_meaning_world.specs.Sorts.{number_of, sort_of, type_of}
use Rattle.cc_meaning_world.specs.Casts.{passes}
use Rattle.cc_meaning_world.specs.Changes.{with_status, with_statuses}
use Rattle.cc_meaning_world.specs.Acts.{Act, Done, PutStatic, Literal, Returns, run_act}
use Rattle.cc_meaning_exec.specs.Instructions.{insn_of_method}
use Rattle.cc_meaning_exec.specs.Frames.{Frame}
use Rattle.cc_meaning_exec.specs.Exceptions.{End, Returned, Thrown, Stopped, Jammed, Raised, raised_by, new_exception}

-- the status of a class
abbrev pub idle : ℕ
idle = 0

abbrev pub busy : ℕ
busy = 1

abbrev pub ready : ℕ
ready = 2

abbrev pub failed : ℕ
failed = 3

-- ---- which class an instruction starts

unfoldable pub is_of_file_in : Option Class → Bool
is_of_file_in None = false
is_of_file_in (Some class) = is_of_file class.kind

-- classes of the file alone are started
unfoldable pub if_of_file : Program → Option ℕ → Option ℕ
if_of_file p None = None
if_of_file p (Some class) = cond (is_of_file_in (slice_get p.classes class)) (Some class) None

unfoldable pub class_made : Base → Option ℕ
class_made (base.Class class) = Some class
class_made _ = None

unfoldable pub class_of_field : Option Field → Option ℕ
class_of_field None = None
class_of_field (Some field) = Some field.class

unfoldable pub class_of_method : Option Method → Option ℕ
class_of_method None = None
class_of_method (Some method) = Some method.class

-- the class of a new instance, the class that declares a static field, and that which declares a static method
unfoldable pub class_named_in : Program → Option Insn → Option ℕ
class_named_in p (Some (insn.NewInstance to (type.Known named))) = class_made named.base
class_named_in p (Some (insn.StaticGet k to field)) = class_of_field (slice_get p.fields field)
class_named_in p (Some (insn.StaticPut k from field)) = class_of_field (slice_get p.fields field)
class_named_in p (Some (insn.Invoke how.Static (ref.Known class m) args)) = class_of_method (slice_get p.methods m)
class_named_in p _ = None

-- the class of the file that an instruction starts before it acts
unfoldable pub class_needed : Program → Option Insn → Option ℕ
class_needed p i = if_of_file p (class_named_in p i)

-- the class that is started before `main`
unfoldable pub class_of_main : Program → Option ℕ
class_of_main p = if_of_file p (class_of_method (slice_get p.methods p.main))

-- ---- climbing

-- What climbing from a class found: the classes to be started, the uppermost first; the statuses, in which these are in progress; and whether a failed class
-- stands above them.
pub record Climbed : Type 0 where
  pub todo : List ℕ
  pub statuses : List ℕ
  pub refused : Bool

abbrev pub climbed : List ℕ → List ℕ → Bool → Climbed
climbed todo statuses refused = record { todo = todo; statuses = statuses; refused = refused }

unfoldable pub climb_at : Option ℕ → Climbed → List ℕ → List ℕ → Climbed
climb_at None further todo statuses = climbed todo statuses false
climb_at (Some zero) further todo statuses = further
climb_at (Some (suc zero)) further todo statuses = climbed todo statuses false
climb_at (Some (suc (suc zero))) further todo statuses = climbed todo statuses false
climb_at (Some (suc (suc (suc n)))) further todo statuses = climbed todo statuses true

-- From a class up by superclasses of the file, to the first that is started, in progress or failed. Each class on the way is marked as in progress.
unfoldable pub climb_up : Program → ℕ → Option ℕ → List ℕ → List ℕ → Climbed
climb_up p zero class todo statuses = climbed todo statuses false
climb_up p (suc n) None todo statuses = climbed todo statuses false
climb_up p (suc n) (Some c) todo statuses = climb_at (slice_get statuses c) (climb_up p n (if_of_file p (superclass_of p c)) (c ∷ todo) (slice_set statuses c busy)) todo statuses

unfoldable pub climb_from : Program → Option ℕ → World → Climbed
climb_from p class w = climb_up p (length p.classes) class [] w.counters.statuses

-- what is to be started before the instruction at a frame's address acts
unfoldable pub starting : Program → Frame → World → Climbed
starting p f w = climb_from p (class_needed p (insn_of_method p f.method f.pc)) w

-- ---- the values of a class

-- the numbers of the static fields of a class, rising
unfoldable pub statics_from : ℕ → ℕ → List Field → List ℕ
statics_from class from [] = []
statics_from class from (f ∷ fs) = cond (f.is_static && (f.class == class)) (from ∷ statics_from class (suc from) fs) (statics_from class (suc from) fs)

-- Fields take values one by one, as many as are stated. A text is a literal, so it is made where it wasn't.
unfoldable pub put_values : List ℕ → List StaticValue → Act
put_values (f ∷ fs) (static.Int n ∷ vs) = PutStatic f (value.Int n) (put_values fs vs)
put_values (f ∷ fs) (static.Long n ∷ vs) = PutStatic f (value.Long n) (put_values fs vs)
put_values (f ∷ fs) (static.Null ∷ vs) = PutStatic f (value.Obj None) (put_values fs vs)
put_values (f ∷ fs) (static.Text text ∷ vs) = Literal text (λ a. PutStatic f (value.Obj (Some a)) (put_values fs vs))
put_values _ _ = Done (Returns None)

unfoldable pub stated_in : Option Class → List StaticValue
stated_in None = []
stated_in (Some class) = class.values

-- the values that the file states for the static fields of a class, put in the order of their numbers
unfoldable pub values_act : Program → ℕ → Act
values_act p class = put_values (statics_from class 0 p.fields) (stated_in (slice_get p.classes class))

-- the stated values are put; `Returned` says that they all were
unfoldable pub put_statics : Script → Program → ℕ → World → Raised
put_statics script p class w = raised_by (run_act script p (values_act p class) w)

unfoldable pub initialiser_in : Option Class → Option ℕ
initialiser_in None = None
initialiser_in (Some class) = class.initialiser

unfoldable pub initialiser_of : Program → ℕ → Option ℕ
initialiser_of p class = initialiser_in (slice_get p.classes class)

-- ---- a start that fails

unfoldable pub all_failed : List ℕ → List ℕ → List ℕ
all_failed [] statuses = statuses
all_failed (c ∷ cs) statuses = all_failed cs (slice_set statuses c failed)

-- these classes have failed
unfoldable pub with_failed : List ℕ → World → World
with_failed cs w = with_statuses w (all_failed cs w.counters.statuses)

-- the classes that wait for a start fail with it where it throws; a stop leaves them in progress
unfoldable pub failed_with : List ℕ → End → World → Raised
failed_with cs (Thrown a) w = record { end = Thrown a; world = with_failed cs w }
failed_with cs e w = record { end = e; world = w }

unfoldable pub all_fail : List ℕ → Raised → Raised
all_fail cs r = failed_with cs r.end r.world

unfoldable pub is_error_in : Program → Option Object → Bool
is_error_in p None = false
is_error_in p (Some o) = passes p false (type_of p (sort_of o)) (class_type (number_of p error_name))

unfoldable pub wrapped_if : Bool → Script → Program → ℕ → World → Raised
wrapped_if true script p a w = record { end = Thrown a; world = w }
wrapped_if false script p a w = new_exception script p exception_in_initializer_error_name w

-- what an initialiser threw: an error goes on as it is, and anything else as a new ExceptionInInitializerError
unfoldable pub wrapped : Script → Program → ℕ → World → Raised
wrapped script p a w = wrapped_if (is_error_in p (slice_get w.objects a)) script p a w

-- The initialiser of a class threw: the class has failed, then the exception is wrapped, and then the classes that wait for it have failed with it.
unfoldable pub start_failed : Script → Program → (class : ℕ) → List ℕ → (object : ℕ) → World → Raised
start_failed script p c cs a w = all_fail cs (wrapped script p a (with_status w c failed))

-- a failed class stands above these: they fail with NoClassDefFoundError
unfoldable pub start_refused : Script → Program → List ℕ → World → Raised
start_refused script p cs w = all_fail cs (new_exception script p no_class_def_found_error_name w)
