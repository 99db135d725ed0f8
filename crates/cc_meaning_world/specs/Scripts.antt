-- How a script is used: which methods it answers, how, and which answer comes next.
use Rattle.std.specs.Prelude.{ℕ, suc, Bool, true, false, cond, not, ◌==◌, ◌&&◌, ◌||◌, List, [], ◌∷◌, Option, Some, None, slice_get}
use Rattle.std.specs.List.{list_any}
use Rattle.std.specs.Str.{bytes_eq}
use Rattle.cc_meaning.specs.declared.program.Method.{Method}
use Rattle.cc_meaning.specs.declared.program.MethodKind.{MethodKind}
use Rattle.cc_meaning.specs.declared.program.MethodKind.TheVariants as kinds
use Rattle.cc_meaning.specs.declared.program.Program.{Program}
use Rattle.cc_meaning.specs.declared.report.Answer.{Answer}
use Rattle.cc_meaning.specs.declared.report.StopCause.{StopCause}
use Rattle.cc_meaning.specs.declared.report.StopCause.TheVariants as cause
use Rattle.cc_meaning.specs.declared.script.Given.{Given}
use Rattle.cc_meaning.specs.declared.script.Script.{Script}
use Rattle.cc_meaning.specs.declared.script.ScriptClass.{ScriptClass}
use Rattle.cc_meaning.specs.BuiltIn.{print_stream_name}
use Rattle.cc_meaning.specs.Names.{class_name}

-- ---- what a script lists

unfoldable pub class_in : ℕ → List ScriptClass → Option ScriptClass
class_in class [] = None
class_in class (c ∷ cs) = cond (c.class == class) (Some c) (class_in class cs)

-- what a script lists of a class
unfoldable pub script_of : Script → ℕ → Option ScriptClass
script_of script class = class_in class script.classes

unfoldable pub class_of_found : Option Method → ℕ
class_of_found None = 0
class_of_found (Some method) = method.class

-- the class of a method
unfoldable pub class_asked : Program → ℕ → ℕ
class_asked p m = class_of_found (slice_get p.methods m)

unfoldable pub given_for : ℕ → List Given → Option Answer
given_for m [] = None
given_for m (g ∷ gs) = cond (g.method == m) (Some g.answer) (given_for m gs)

unfoldable pub free_in : ℕ → Option ScriptClass → Option Answer
free_in m None = None
free_in m (Some c) = given_for m c.free

-- the fixed answer of a method
unfoldable pub free_answer : Script → Program → ℕ → Option Answer
free_answer script p m = free_in m (script_of script (class_asked p m))

unfoldable pub unpinned_in : ℕ → Option ScriptClass → Bool
unpinned_in m None = false
unpinned_in m (Some c) = list_any (λ n. n == m) c.unpinned

-- ---- what a method is to a script

unfoldable pub is_scripted_kind : MethodKind → Bool
is_scripted_kind kinds.Native = true
is_scripted_kind kinds.Outside = true
is_scripted_kind _ = false

unfoldable pub is_scripted_in : Option Method → Bool
is_scripted_in None = false
is_scripted_in (Some method) = is_scripted_kind method.kind

-- whether a method is answered by the script: it is outside or native
unfoldable pub is_scripted : Program → ℕ → Bool
is_scripted p m = is_scripted_in (slice_get p.methods m)

unfoldable pub has_answer : Option Answer → Bool
has_answer None = false
has_answer (Some a) = true

-- a free method gives its fixed answer, and its calls aren't recorded
unfoldable pub is_free : Script → Program → ℕ → Bool
is_free script p m = is_scripted p m && has_answer (free_answer script p m)

-- a stateful method takes the next answer of its class, and its calls are recorded
unfoldable pub is_stateful : Script → Program → ℕ → Bool
is_stateful script p m = is_scripted p m && not (has_answer (free_answer script p m))

-- a pinned method stays on the device: each stateful one that the script doesn't list as unpinned
unfoldable pub is_pinned : Script → Program → ℕ → Bool
is_pinned script p m = is_stateful script p m && not (unpinned_in m (script_of script (class_asked p m)))

-- whether one of these methods, numbered from a number on, is pinned and of a class
unfoldable pub pinned_among : Script → Program → (class from : ℕ) → List Method → Bool
pinned_among script p class from [] = false
pinned_among script p class from (m ∷ ms) = ((m.class == class) && is_pinned script p from) || pinned_among script p class (suc from) ms

-- whether a class has a pinned method
unfoldable pub has_pinned : Script → Program → ℕ → Bool
has_pinned script p class = pinned_among script p class 0 p.methods

unfoldable pub has_name_of_stream : Program → Option Method → Bool
has_name_of_stream p None = false
has_name_of_stream p (Some method) = bytes_eq (class_name p method.class) print_stream_name

-- whether a method is PrintStream's: a built-in one, or an outside one of that class
unfoldable pub is_of_stream : Program → ℕ → Bool
is_of_stream p m = has_name_of_stream p (slice_get p.methods m)

-- A held call is not made on a clone: it is of a pinned method, of a method of PrintStream that isn't free, or of a stateful method of a class that has a
-- pinned one.
unfoldable pub is_held : Script → Program → ℕ → Bool
is_held script p m =
    is_pinned script p m || ((is_of_stream p m && not (is_free script p m)) || (is_stateful script p m && has_pinned script p (class_asked p m)))

-- ---- the next answer

-- what the script has for a call of a stateful method: an answer, none any more, or one for another method
pub data NextAnswer : Type 0 where
  Gives : Answer → NextAnswer
  Ended : NextAnswer
  Other : (found : ℕ) → NextAnswer

unfoldable pub next_of : ℕ → Option Given → NextAnswer
next_of m None = Ended
next_of m (Some g) = cond (g.method == m) (Gives g.answer) (Other g.method)

unfoldable pub next_among : (method cursor : ℕ) → Option ScriptClass → NextAnswer
next_among m cursor None = Ended
next_among m cursor (Some c) = next_of m (slice_get c.answers cursor)

-- the next answer of a method's class, of which so many were taken
unfoldable pub next_answer : Script → Program → (method cursor : ℕ) → NextAnswer
next_answer script p m cursor = next_among m cursor (script_of script (class_asked p m))

-- how a run stops that has no answer
abbrev pub script_end : (class : ℕ) → StopCause
script_end class = cause.ScriptEnd class

abbrev pub script_other : (class wanted found : ℕ) → StopCause
script_other class wanted found = cause.ScriptOther class wanted found
