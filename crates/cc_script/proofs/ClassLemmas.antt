-- The classes of a script, one after another.
use Rattle.std.proofs.Common.{◌≡◌, ℕ, suc, ◌+◌, ◌<◌, ◌≤◌, Bool, true, false, List, [], ◌∷◌, ◌++◌, length, drop, get_or, map, Option, Some, None, refl, ap, sym, ◌∙◌, subst, add-one, drop-cons, append_assoc}
use Rattle.std.specs.Prelude.{if◌then◌else◌, ◌||◌, Result, Ok, Err}
use Rattle.std.specs.HashSet.{contains_text}
use Rattle.std.proofs.lemmas.List.{drop_all, append-nil}
use Rattle.serde_json.specs.View.{view, items_view}
use Rattle.serde_json.specs.declared.value.Value.{Value}
use Rattle.cc_meaning.specs.declared.fault.ScriptFault.{ScriptFault}
use Rattle.cc_meaning.specs.declared.fault.ScriptFault.TheVariants as faults
use Rattle.cc_meaning_script.specs.declared.listed.ListedClass.{ListedClass}
use Rattle.cc_meaning_script.specs.Listed.{capped, is_among, contradicts, bad_shape, on_ok, then_all, class_of, class_behind, classes_from}
use Rattle.cc_script.specs.Gives.{Gives}
use Rattle.cc_script.specs.Seen.{Texts, Holds}

-- ---- answers

pub gives_fault : {A : Type 0} (wanted : Result A ScriptFault) (fault : ScriptFault) → wanted ≡ Err fault → Gives wanted (Err fault)
gives_fault wanted faults.NotJson e = e
gives_fault wanted (faults.BadShape at) e = e
gives_fault wanted (faults.UnknownMethod class place) e = e
gives_fault wanted (faults.BadAnswer class place) e = e
gives_fault wanted faults.Memory e = tt

-- a fault of a part is one of the whole
pub gives_on : {A B : Type 0} (part : Result A ScriptFault) (whole : Result B ScriptFault) (fault : ScriptFault) → ((f : ScriptFault) → part ≡ Err f → whole ≡ Err f) → Gives part (Err fault) → Gives whole (Err fault)
gives_on part whole faults.NotJson f h = f faults.NotJson h
gives_on part whole (faults.BadShape at) f h = f (faults.BadShape at) h
gives_on part whole (faults.UnknownMethod class place) f h = f (faults.UnknownMethod class place) h
gives_on part whole (faults.BadAnswer class place) f h = f (faults.BadAnswer class place) h
gives_on part whole faults.Memory f h = tt

pub gives_same : {A : Type 0} (wanted other : Result A ScriptFault) (answer : Result A ScriptFault) → wanted ≡ other → Gives other answer → Gives wanted answer
gives_same {A = A} wanted other answer e h = subst (λ (r : Result A ScriptFault). Gives r answer) (sym e) h

-- ---- a class

pub no_class : (place : ℕ) (at : ℕ) (before : List (List ℕ)) (listed : Option ListedClass) → None ≡ listed → at ≡ capped place → class_behind place before listed ≡ Err (faults.BadShape at)
no_class place at before listed none e = ap (class_behind place before) (sym none) ∙ ap (λ n. Err (faults.BadShape n)) (sym e)

refused : (place at : ℕ) (class : ListedClass) (bad : Bool) → bad ≡ true → at ≡ capped place → (if bad then bad_shape place else Ok class) ≡ Err (faults.BadShape at)
refused place at class true e same = ap (λ n. Err (faults.BadShape n)) (sym same)
refused place at class false e same = absurd cc

accepted : (place : ℕ) (class : ListedClass) (bad : Bool) → bad ≡ false → (if bad then bad_shape place else Ok class) ≡ Ok class
accepted place class true e = absurd cc
accepted place class false e = refl

or_true : (a b : Bool) → b ≡ true → (a || b) ≡ true
or_true true b e = refl
or_true false b e = e

pub named_before : (place at : ℕ) (before : List (List ℕ)) (listed : Option ListedClass) (class : ListedClass) (set : Texts) → Some class ≡ listed → at ≡ capped place → Holds before set →
    contains_text set class.name ≡ true → class_behind place before listed ≡ Err (faults.BadShape at)
named_before place at before listed class set some e holds found =
    ap (class_behind place before) (sym some) ∙ refused place at class (is_among class.name before || contradicts class) (ap (λ b. b || contradicts class) (sym (holds class.name) ∙ found)) e

pub contradicting : (place at : ℕ) (before : List (List ℕ)) (listed : Option ListedClass) (class : ListedClass) → Some class ≡ listed → at ≡ capped place → contradicts class ≡ true →
    class_behind place before listed ≡ Err (faults.BadShape at)
contradicting place at before listed class some e bad =
    ap (class_behind place before) (sym some) ∙ refused place at class (is_among class.name before || contradicts class) (or_true (is_among class.name before) (contradicts class) bad) e

pub good_class : (place : ℕ) (before : List (List ℕ)) (listed : Option ListedClass) (class : ListedClass) (set : Texts) → Some class ≡ listed → Holds before set →
    contains_text set class.name ≡ false → contradicts class ≡ false → class_behind place before listed ≡ Ok class
good_class place before listed class set some holds new good =
    ap (class_behind place before) (sym some)
    ∙ accepted place class (is_among class.name before || contradicts class) (ap (λ b. b || contradicts class) (sym (holds class.name) ∙ new) ∙ good)

-- ---- the classes so far

abbrev pub names_of : List ListedClass → List (List ℕ)
names_of classes = map (λ (class : ListedClass). class.name) classes

-- what is in front of the rest of a list
abbrev pub after_all : {A : Type 0} → List A → Result (List A) ScriptFault → Result (List A) ScriptFault
after_all xs (Ok rest) = Ok (xs ++ rest)
after_all xs (Err fault) = Err fault

abbrev pub ClassesTo : ℕ → List Value → List ListedClass → Type 0
ClassesTo i items classes = classes_from 0 [] (items_view items) ≡ after_all classes (classes_from i (names_of classes) (items_view (drop i items)))

pub classes_none : (items : List Value) → ClassesTo 0 items []
classes_none items = kept (classes_from 0 [] (items_view items))
  where
    kept : (r : Result (List ListedClass) ScriptFault) → r ≡ after_all [] r
    kept (Ok rest) = refl
    kept (Err fault) = refl

here : (items : List Value) (i : ℕ) (item : Value) (before : List (List ℕ)) → i < length items → item ≡ get_or items i item →
    classes_from i before (items_view (drop i items))
    ≡ on_ok (class_behind i before (class_of (view item))) (λ class. then_all class (classes_from (i + 1) (before ++ class.name ∷ []) (items_view (drop (i + 1) items))))
here items i item before h is =
    let split : drop i items ≡ item ∷ drop (i + 1) items = rw (add-one, drop-cons items i item) (ap (λ v. v ∷ drop (suc i) items) (sym is)) in
    ap (λ vs. classes_from i before (items_view vs)) split

names_more : (classes : List ListedClass) (class : ListedClass) → names_of classes ++ class.name ∷ [] ≡ names_of (classes ++ class ∷ [])
names_more [] class = refl
names_more (c ∷ classes) class = ap (λ xs. c.name ∷ xs) (names_more classes class)

moved : (classes : List ListedClass) (class : ListedClass) (r : Result (List ListedClass) ScriptFault) → after_all classes (then_all class r) ≡ after_all (classes ++ class ∷ []) r
moved classes class (Ok rest) = ap Ok (sym (append_assoc classes (class ∷ []) rest))
moved classes class (Err fault) = refl

pub classes_more : (items : List Value) (i : ℕ) (item : Value) (classes more : List ListedClass) (class : ListedClass) → i < length items → item ≡ get_or items i item →
    class_behind i (names_of classes) (class_of (view item)) ≡ Ok class → more ≡ classes ++ class ∷ [] → ClassesTo i items classes → ClassesTo (i + 1) items more
classes_more items i item classes more class h is good grown before =
    let rest : List (List ℕ) → Result (List ListedClass) ScriptFault = λ (names : List (List ℕ)). classes_from (i + 1) names (items_view (drop (i + 1) items)) in
    let target : List ListedClass → Type 0 = λ (cs : List ListedClass). classes_from 0 [] (items_view items) ≡ after_all cs (classes_from (i + 1) (names_of cs) (items_view (drop (i + 1) items))) in
    subst target (sym grown)
    (before
    ∙ ap (after_all classes) (here items i item (names_of classes) h is ∙ ap (λ r. on_ok r (λ class. then_all class (rest (names_of classes ++ class.name ∷ [])))) good)
    ∙ moved classes class (rest (names_of classes ++ class.name ∷ []))
    ∙ ap (λ names. after_all (classes ++ class ∷ []) (rest names)) (names_more classes class))

pub names_held : (classes more : List ListedClass) (class : ListedClass) (set : Texts) → more ≡ classes ++ class ∷ [] → Holds (names_of classes ++ class.name ∷ []) set → Holds (names_of more) set
names_held classes more class set grown holds =
    subst (λ (names : List (List ℕ)). Holds names set) (names_more classes class ∙ ap names_of (sym grown)) holds

pub class_fault : (items : List Value) (i : ℕ) (item : Value) (classes : List ListedClass) (fault : ScriptFault) → i < length items → item ≡ get_or items i item → ClassesTo i items classes →
    class_behind i (names_of classes) (class_of (view item)) ≡ Err fault → classes_from 0 [] (items_view items) ≡ Err fault
class_fault items i item classes fault h is before bad =
    before
    ∙ ap (after_all classes) (here items i item (names_of classes) h is
    ∙ ap (λ r. on_ok r (λ class. then_all class (classes_from (i + 1) (names_of classes ++ class.name ∷ []) (items_view (drop (i + 1) items))))) bad)

pub classes_all : (items : List Value) (i : ℕ) (classes : List ListedClass) → length items ≤ i → ClassesTo i items classes → classes_from 0 [] (items_view items) ≡ Ok classes
classes_all items i classes h before =
    before ∙ ap (λ vs. after_all classes (classes_from i (names_of classes) (items_view vs))) (drop_all i items h) ∙ ap Ok (append-nil classes)
