-- Of the faults of bodies one is the first.
use Rattle.std.proofs.Common.{◌≡◌, ℕ, zero, suc, ◌<◌, inl, inr, List, [], ◌∷◌, ◌++◌, Some, refl, sym, ap, ◌∙◌, subst, arith}
use Rattle.std.specs.Prelude.{slice_get}
use Rattle.std.proofs.lemmas.Bool.{cases_lt}
use Rattle.cc_meaning.specs.declared.fault.ProgramFault.{ProgramFault}
use Rattle.cc_meaning.specs.declared.fault.ProgramFault.TheVariants as faults
use Rattle.cc_meaning.specs.declared.file.Ids.{Ids}
use Rattle.cc_meaning.specs.declared.file.RawCode.{RawCode}
use Rattle.cc_meaning.specs.declared.program.Placed.{Placed}
use Rattle.cc_meaning_program.specs.declared.reference.Reference.{Reference}
use Rattle.cc_meaning_program.specs.Named.{type_name, method_text}
use Rattle.cc_meaning_program.specs.References.{reference_name, IsMissing}
use Rattle.cc_meaning_program.specs.BodyFaults.{FirstHas, NoneHas, FieldFault, MethodFault, InsnFaulty, CatchFaulty, TryFaulty, CodeFaulty, MethodFaulty, ClassFaulty, SoundCode, OneBodyFault, SoundBodiesHaveNone}
use Rattle.cc_meaning_program.proofs.BodyRuns.{Run, Stops, until_run, from_run, one_goes, begins_whole, stops_at_end, stops_at_break, one_break}

-- ---- the first of some items

-- what has a fault has one
pub IsOnce : {A : Type 0} → (A → ProgramFault → Type 0) → Type 0
IsOnce {A} has = (item : A) (fault other : ProgramFault) → has item fault → has item other → fault ≡ other

-- so has the first of some
pub one_first : {A : Type 0} (has : A → ProgramFault → Type 0) (items : List A) (fault other : ProgramFault) → IsOnce has → FirstHas has items fault → FirstHas has items other → fault ≡ other
unfolding IsOnce
one_first {A} has items fault other once first second = elim (cases_lt first.place second.place) [
  | inl before ↦ absurd (second.before first.place first.item fault before first.there first.faulty)
  | inr behind ↦ elim (cases_lt second.place first.place) [
    | inl before ↦ absurd (first.before second.place second.item other before second.there second.faulty)
    | inr equal ↦
        let places : first.place ≡ second.place = omega arith in
        let there = first.there in
        let there' = second.there in
        let moved : slice_get items first.place ≡ slice_get items second.place = ap (slice_get items) places in
        let same : second.item ≡ first.item = cc in
        once first.item fault other first.faulty (subst (λ (item : A). has item other) same second.faulty)
  ]
]

pub none_is_first : {A : Type 0} (has : A → ProgramFault → Type 0) (items : List A) (fault : ProgramFault) → NoneHas has items → FirstHas has items fault → ⊥
none_is_first has items fault none first = none first.place first.item fault first.there first.faulty

get_left : {A : Type 0} (xs ys : List A) (place : ℕ) (x : A) → slice_get xs place ≡ Some x → slice_get (xs ++ ys) place ≡ Some x
get_left [] ys place x e = absurd cc
get_left (x ∷ xs) ys zero y e = e
get_left (x ∷ xs) ys (suc place) y e = get_left xs ys place y e

get_back : {A : Type 0} (xs ys : List A) (place limit : ℕ) (x y : A) → place < limit → slice_get xs limit ≡ Some y → slice_get (xs ++ ys) place ≡ Some x → slice_get xs place ≡ Some x
get_back [] ys place limit x y h e f = absurd cc
get_back (x ∷ xs) ys zero limit y z h e f = f
get_back (x ∷ xs) ys (suc place) zero y z h e f = absurd (omega arith)
get_back (x ∷ xs) ys (suc place) (suc limit) y z h e f = get_back xs ys place limit y z (omega arith) e f

-- the first of some is the first of more
first_of_more : {A : Type 0} (has : A → ProgramFault → Type 0) (items more : List A) (fault : ProgramFault) → FirstHas has items fault → FirstHas has (items ++ more) fault
first_of_more has items more fault first =
    record {
      place = first.place;
      item = first.item;
      there = get_left items more first.place first.item first.there;
      faulty = first.faulty;
      before = λ earlier other another h e. first.before earlier other another h (get_back items more earlier first.place other first.item h first.there e);
    }

-- ---- instructions

insn_once : (ids : Ids) (method : List ℕ) → IsOnce (InsnFaulty ids method)
unfolding IsOnce
insn_once ids method placed _ _ (InsnFaulty.missing r m) (InsnFaulty.missing r' m') = refl
insn_once ids method placed _ _ (InsnFaulty.missing {named = named} r m) (InsnFaulty.floating {named = named'} r' n f) = let same : named ≡ named' = cc in absurd (n (subst (IsMissing ids) same m))
insn_once ids method placed _ _ (InsnFaulty.floating {named = named} r n f) (InsnFaulty.missing {named = named'} r' m) = let same : named' ≡ named = cc in absurd (n (subst (IsMissing ids) same m))
insn_once ids method placed _ _ (InsnFaulty.floating {named = named} r n f) (InsnFaulty.floating {named = named'} r' n' f') =
    let same : named ≡ named' = cc in
    ap (λ (it : Reference). faults.FloatMember (reference_name ids it)) same

-- ---- code

-- of two places with a fault one is the first
both_insns : (ids : Ids) (method units : List ℕ) (here there : ℕ) (these those : List Placed) (fault other : ProgramFault) →
    Run units 0 these here → Run units 0 those there → FirstHas (InsnFaulty ids method) these fault → FirstHas (InsnFaulty ids method) those other → fault ≡ other
both_insns ids method units here there these those fault other run run' first second = elim (one_goes units 0 here there these those run run') [
  | inl goes ↦
      let whole = goes.whole in
      one_first (InsnFaulty ids method) those fault other (insn_once ids method)
      (subst (λ (all : List Placed). FirstHas (InsnFaulty ids method) all fault) (sym whole) (first_of_more (InsnFaulty ids method) these goes.more fault first)) second
  | inr goes ↦
      let whole = goes.whole in
      one_first (InsnFaulty ids method) these fault other (insn_once ids method) first
      (subst (λ (all : List Placed). FirstHas (InsnFaulty ids method) all other) (sym whole) (first_of_more (InsnFaulty ids method) those goes.more other second))
]

-- an instruction with a fault stands among those up to where none does
insn_among : (ids : Ids) (method units : List ℕ) (here end : ℕ) (these all : List Placed) (fault : ProgramFault) →
    Stops units end → Run units 0 these here → Run units 0 all end → FirstHas (InsnFaulty ids method) these fault → NoneHas (InsnFaulty ids method) all → ⊥
insn_among ids method units here end these all fault stops run whole first none =
    let more = begins_whole units 0 here end these all stops run whole in
    none_is_first (InsnFaulty ids method) all fault none
    (subst (λ (placed : List Placed). FirstHas (InsnFaulty ids method) placed fault) (sym more.1) (first_of_more (InsnFaulty ids method) these more.0 fault first))

catch_once : (ids : Ids) → IsOnce (CatchFaulty ids)
unfolding IsOnce
catch_once ids catch fault other first second =
    let typed = first.typed in
    let typed' = second.typed in
    let same : first.row ≡ second.row = cc in
    first.named ∙ ap (λ (row : ℕ). faults.FloatMember (type_name ids row)) same ∙ sym second.named

try_once : (ids : Ids) → IsOnce (TryFaulty ids)
unfolding IsOnce
try_once ids try fault other first second = one_first (CatchFaulty ids) try.catches fault other (catch_once ids) first second

code_once : (ids : Ids) (method : List ℕ) → IsOnce (CodeFaulty ids method)
unfolding IsOnce
code_once ids method code fault other (CodeFaulty.of_instruction {at = here} {before = these} stand first) (CodeFaulty.of_instruction {at = there} {before = those} stand' second) =
    both_insns ids method code.units here there these those fault other (until_run stand) (until_run stand') first second
code_once ids method code fault other (CodeFaulty.of_instruction {at = here} {before = these} stand first) (CodeFaulty.of_units {at = there} {before = those} {cause = cause} breaks none e) =
    absurd (insn_among ids method code.units here there these those fault (stops_at_break code.units those there cause breaks) (until_run stand) (until_run breaks.stand) first none)
code_once ids method code fault other (CodeFaulty.of_instruction {at = here} {before = these} stand first) (CodeFaulty.of_handler {all = all} whole none handler) =
    absurd (insn_among ids method code.units here _ these all fault (stops_at_end code.units) (until_run stand) (from_run whole) first none)
code_once ids method code fault other (CodeFaulty.of_units {at = there} {before = those} {cause = cause} breaks none e) (CodeFaulty.of_instruction {at = here} {before = these} stand first) =
    absurd (insn_among ids method code.units here there these those other (stops_at_break code.units those there cause breaks) (until_run stand) (until_run breaks.stand) first none)
code_once ids method code fault other (CodeFaulty.of_units {at = here} {before = these} {cause = cause} breaks none e) (CodeFaulty.of_units {at = there} {before = those} {cause = cause'} breaks' none' e') =
    let same : here ≡ there = one_break.at code.units these those here there cause cause' breaks breaks' in
    let causes : cause ≡ cause' = one_break.cause code.units these those here there cause cause' breaks breaks' in
    e ∙ (λ i. faults.Insn method (same i) (causes i)) ∙ sym e'
code_once ids method code fault other (CodeFaulty.of_units {at = here} {before = these} {cause = cause} breaks none e) (CodeFaulty.of_handler {all = all} whole none' handler) =
    absurd (one_break.no_reading code.units these all here cause breaks whole)
code_once ids method code fault other (CodeFaulty.of_handler {all = all} whole none handler) (CodeFaulty.of_instruction {at = here} {before = these} stand first) =
    absurd (insn_among ids method code.units here _ these all other (stops_at_end code.units) (until_run stand) (from_run whole) first none)
code_once ids method code fault other (CodeFaulty.of_handler {all = all} whole none handler) (CodeFaulty.of_units {at = there} {before = those} {cause = cause} breaks none' e) =
    absurd (one_break.no_reading code.units those all there cause breaks whole)
code_once ids method code fault other (CodeFaulty.of_handler whole none handler) (CodeFaulty.of_handler whole' none' handler') = one_first (TryFaulty ids) code.tries fault other (try_once ids) handler handler'

pub sound_code : SoundCode
sound_code ids method code placed fault whole none handlers (CodeFaulty.of_instruction {at = here} {before = these} stand first) =
    insn_among ids method code.units here _ these placed fault (stops_at_end code.units) (until_run stand) (from_run whole) first none
sound_code ids method code placed fault whole none handlers (CodeFaulty.of_units {at = there} {before = those} {cause = cause} breaks none' e) = one_break.no_reading code.units those placed there cause breaks whole
sound_code ids method code placed fault whole none handlers (CodeFaulty.of_handler whole' none' first) = none_is_first (TryFaulty ids) code.tries fault handlers first

-- ---- classes

body_once : (ids : Ids) → IsOnce (MethodFaulty ids)
unfolding IsOnce
body_once ids method fault other first second =
    let there = first.1 in
    let there' = second.1 in
    let same : second.0 ≡ first.0 = cc in
    code_once ids (method_text ids method.row) first.0 fault other first.2 (subst (λ (code : RawCode). CodeFaulty ids (method_text ids method.row) code other) same second.2)

field_once : (ids : Ids) → IsOnce (FieldFault ids)
unfolding IsOnce
field_once ids field fault other first second = first.named ∙ sym second.named

method_once : (ids : Ids) → IsOnce (MethodFault ids)
unfolding IsOnce
method_once ids method fault other first second = first.named ∙ sym second.named

class_once : (ids : Ids) → IsOnce (ClassFaulty ids)
unfolding IsOnce
class_once ids class fault other (ClassFaulty.of_field first) (ClassFaulty.of_field second) = one_first (FieldFault ids) class.fields fault other (field_once ids) first second
class_once ids class fault other (ClassFaulty.of_field first) (ClassFaulty.of_method none second) = absurd (none_is_first (FieldFault ids) class.fields fault none first)
class_once ids class fault other (ClassFaulty.of_field first) (ClassFaulty.of_code none none' second) = absurd (none_is_first (FieldFault ids) class.fields fault none first)
class_once ids class fault other (ClassFaulty.of_method none first) (ClassFaulty.of_field second) = absurd (none_is_first (FieldFault ids) class.fields other none second)
class_once ids class fault other (ClassFaulty.of_method none first) (ClassFaulty.of_method none' second) = one_first (MethodFault ids) class.methods fault other (method_once ids) first second
class_once ids class fault other (ClassFaulty.of_method none first) (ClassFaulty.of_code none' none_too second) = absurd (none_is_first (MethodFault ids) class.methods fault none_too first)
class_once ids class fault other (ClassFaulty.of_code none none' first) (ClassFaulty.of_field second) = absurd (none_is_first (FieldFault ids) class.fields other none second)
class_once ids class fault other (ClassFaulty.of_code none none_too first) (ClassFaulty.of_method none' second) = absurd (none_is_first (MethodFault ids) class.methods other none_too second)
class_once ids class fault other (ClassFaulty.of_code none none' first) (ClassFaulty.of_code none_too none_of_these second) = one_first (MethodFaulty ids) class.methods fault other (body_once ids) first second

pub one_body_fault : OneBodyFault
one_body_fault ids classes fault other first second = one_first (ClassFaulty ids) classes fault other (class_once ids) first second

pub sound_bodies_have_none : SoundBodiesHaveNone
sound_bodies_have_none ids classes fault sound first = none_is_first (ClassFaulty ids) classes fault sound first
