-- What the text of a script says of a program, or the first fault that it has.
use Rattle.std.specs.Prelude.{◌≡◌, ℕ, ◌+◌, Bool, true, false, List, [], ◌∷◌, ◌++◌, length, codes, Option, Some, None, option_and_then, slice_get, Result, Ok, Err, if◌then◌else◌}
use Rattle.serde_json.specs.Data.{Data}
use Rattle.cc_meaning.specs.declared.fault.ScriptFault.{ScriptFault}
use Rattle.cc_meaning.specs.declared.fault.ScriptFault.TheVariants as faults
use Rattle.cc_meaning.specs.declared.program.DexType.{DexType}
use Rattle.cc_meaning.specs.declared.program.Method.{Method}
use Rattle.cc_meaning.specs.declared.program.MethodKind.{MethodKind}
use Rattle.cc_meaning.specs.declared.program.MethodKind.TheVariants as kind
use Rattle.cc_meaning.specs.declared.program.Program.{Program}
use Rattle.cc_meaning.specs.declared.report.Answer.{Answer}
use Rattle.cc_meaning.specs.declared.script.Given.{Given}
use Rattle.cc_meaning.specs.declared.script.Script.{Script}
use Rattle.cc_meaning.specs.declared.script.ScriptClass.{ScriptClass}
use Rattle.cc_meaning.specs.Lookup.{method_named}
use Rattle.cc_units.specs.Units.{units_of}
use Rattle.cc_meaning_script.specs.declared.listed.ListedAnswer.{ListedAnswer}
use Rattle.cc_meaning_script.specs.declared.listed.ListedClass.{ListedClass}
use Rattle.cc_meaning_script.specs.Answers.{class_listed, answer_for}
use Rattle.cc_meaning_script.specs.Listed.{capped, on_ok, then_all, listed_classes}

-- ---- members

abbrev pub is_scripted_kind : MethodKind → Bool
is_scripted_kind kind.Native = true
is_scripted_kind kind.Outside = true
is_scripted_kind _ = false

abbrev pub if_scripted : ℕ → Option Method → Option ℕ
if_scripted m None = None
if_scripted m (Some method) = if is_scripted_kind method.kind then Some m else None

-- the outside or native method of a class's name and a member's
abbrev pub scripted_named : Program → (class member : List ℕ) → Option ℕ
scripted_named p class member = option_and_then (λ m. if_scripted m (slice_get p.methods m)) (method_named (units_of class ++ codes "->" ++ units_of member) p)

-- ---- one after another

-- what each of some things comes to, by its place, or the fault of the first that has one
abbrev pub each : {A B : Type 0} → (ℕ → A → Result B ScriptFault) → (place : ℕ) → List A → Result (List B) ScriptFault
each f place [] = Ok []
each f place (x ∷ rest) = on_ok (f place x) (λ y. then_all y (each f (place + 1) rest))

abbrev pub method_or_fault : (number place : ℕ) → Option ℕ → Result ℕ ScriptFault
method_or_fault number place None = Err (faults.UnknownMethod (capped number) (capped place))
method_or_fault number place (Some m) = Ok m

abbrev pub given_or_fault : (number place m : ℕ) → Option Answer → Result Given ScriptFault
given_or_fault number place m None = Err (faults.BadAnswer (capped number) (capped place))
given_or_fault number place m (Some answer) = Ok (record { method = m; answer = answer })

-- the method of the member at a place of a class
abbrev pub method_at : Program → (class : List ℕ) → (number place : ℕ) → List ℕ → Result ℕ ScriptFault
method_at p class number place member = method_or_fault number place (scripted_named p class member)

abbrev pub result_of : Program → ℕ → Option DexType
result_of p m = option_and_then (λ (method : Method). method.result) (slice_get p.methods m)

-- the method and the answer of the pair at a place of a class
abbrev pub given_at : Program → (class : List ℕ) → (number place : ℕ) → ListedAnswer → Result Given ScriptFault
given_at p class number place pair =
    on_ok (method_at p class number place pair.member) (λ m. given_or_fault number place m (answer_for p (result_of p m) pair.answer))

abbrev pub methods_from : Program → (class : List ℕ) → (number place : ℕ) → List (List ℕ) → Result (List ℕ) ScriptFault
methods_from p class number place members = each (method_at p class number) place members

abbrev pub givens_from : Program → (class : List ℕ) → (number place : ℕ) → List ListedAnswer → Result (List Given) ScriptFault
givens_from p class number place pairs = each (given_at p class number) place pairs

-- ---- classes

-- A class's places count through `unpinned`, `free` and `answers`.
abbrev pub class_members : Program → (number class : ℕ) → ListedClass → Result ScriptClass ScriptFault
class_members p number class listed =
    on_ok (methods_from p listed.name number 0 listed.unpinned) (λ unpinned.
    on_ok (givens_from p listed.name number (length listed.unpinned) listed.free) (λ free.
    on_ok (givens_from p listed.name number (length listed.unpinned + length listed.free) listed.answers) (λ answers.
    Ok (record { class = class; unpinned = unpinned; free = free; answers = answers }))))

abbrev pub class_or_fault : Program → (number : ℕ) → Option ℕ → ListedClass → Result ScriptClass ScriptFault
class_or_fault p number None listed = Err (faults.UnknownMethod (capped number) 0)
class_or_fault p number (Some class) listed = class_members p number class listed

abbrev pub class_at : Program → (number : ℕ) → ListedClass → Result ScriptClass ScriptFault
class_at p number listed = class_or_fault p number (class_listed p listed.name) listed

abbrev pub classes_at : Program → List ListedClass → Result (List ScriptClass) ScriptFault
classes_at p classes = each (class_at p) 0 classes

-- ---- the whole

abbrev pub with_classes : Result (List ScriptClass) ScriptFault → Result Script ScriptFault
with_classes (Ok classes) = Ok (record { classes = classes })
with_classes (Err fault) = Err fault

-- what a value says of a program
abbrev pub script_of_value : Program → Data → Result Script ScriptFault
script_of_value p value = on_ok (listed_classes value) (λ classes. with_classes (classes_at p classes))

abbrev pub script_of_read : Program → Option Data → Result Script ScriptFault
script_of_read p None = Err faults.NotJson
script_of_read p (Some value) = script_of_value p value

-- A value has the form of a script for a program, and says this.
abbrev pub SaysScript : Program → Data → Script → Type 0
SaysScript p value script = script_of_value p value ≡ Ok script
