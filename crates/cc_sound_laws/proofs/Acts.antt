-- Safe steps, done in a world that fits, leave one that fits and lead where they are to.
use Rattle.std.proofs.Common.{◌≡◌, ◌⊎◌, inl, inr, ℕ, zero, suc, ◌<◌, ◌==◌, Bool, true, false, cond, List, [], ◌∷◌, ◌++◌, length, Option, Some, None, refl, sym, ap, ◌∙◌, subst, arith, slice_get, slice_set}
use Rattle.std.specs.Prelude.{option_map, nat_lt}
use Rattle.std.proofs.lemmas.Grind.{common_steps}
use Rattle.std.proofs.lemmas.Option.{slice_get_within}
use Rattle.cc_meaning.specs.declared.program.DexType.{DexType}
use Rattle.cc_meaning.specs.declared.program.Program.{Program}
use Rattle.cc_meaning.specs.declared.program.Field.{Field}
use Rattle.cc_meaning.specs.declared.report.Event.TheVariants as event
use Rattle.cc_meaning.specs.declared.program.Method.{Method}
use Rattle.cc_meaning.specs.declared.report.Answer.{Answer}
use Rattle.cc_meaning.specs.declared.report.Answer.TheVariants as answer
use Rattle.cc_meaning.specs.declared.script.Given.{Given}
use Rattle.cc_meaning.specs.declared.script.Script.{Script}
use Rattle.cc_meaning.specs.declared.script.ScriptClass.{ScriptClass}
use Rattle.cc_meaning.specs.declared.report.StopCause.{StopCause}
use Rattle.cc_meaning.specs.declared.report.StopCause.TheVariants as cause
use Rattle.cc_meaning.specs.declared.value.Made.{Made}
use Rattle.cc_meaning.specs.declared.value.Object.{Object}
use Rattle.cc_meaning.specs.declared.value.Object.TheVariants as object
use Rattle.cc_meaning.specs.declared.value.Value.{Value}
use Rattle.cc_meaning.specs.declared.value.Value.TheVariants as value
use Rattle.cc_meaning.specs.Words.{words_of, words_of_event}
use Rattle.cc_meaning_typing.specs.Types.{held, IsBelow}
use Rattle.cc_meaning_typing.specs.Code.{throwable_type}
use Rattle.cc_meaning_typing.proofs.Monotone.{array_parts}
use Rattle.cc_meaning.specs.declared.program.RegType.TheVariants.{Reference}
use Rattle.cc_meaning.specs.declared.report.Arg.{Arg}
use Rattle.cc_meaning.specs.declared.report.Arg.TheVariants as arg
use Rattle.cc_meaning_typing.specs.Registers.{register_of}
use Rattle.cc_meaning_world.specs.World.{World}
use Rattle.cc_meaning_world.specs.Sorts.{Sort, Constant, Builder, Text, sort_of, type_of}
use Rattle.cc_meaning_world.specs.Layouts.{new_object, shape}
use Rattle.cc_meaning_world.specs.Changes.{less_by, with_words, with_object, with_object_at, values_set, rebuilt, with_value, put_in, more_units, with_static, number_for, noted_made, with_literal, with_constant, with_event, cursor_at, with_answer}
use Rattle.cc_meaning_world.specs.Scripts.{class_in, script_of, class_asked, given_for, free_in, free_answer, NextAnswer, Gives, Ended, Other, next_of, next_among, next_answer, script_end, script_other}
use Rattle.cc_meaning_world.specs.Recorded.{shown, arg_of, before, args_of, words_made, words_recorded}
use Rattle.cc_meaning_world.specs.Acts.{Outcome, Throws, Stops, Reached, arrived, pay, paying, found, noted, units_of, or_make, given, freely, answered, asked, Act, Literal, ClassConstant, Done, Make, Look, ClassOf, Put, Append, GetStatic, PutStatic, Tell, Ask, run_act}
use Rattle.cc_meaning_fits.specs.Fits.{Heap, heap_of, Grows, literal_sort, IsThere, AreThere, ValueFits, int, long, reference, ResultFits, void, gives, ThrownFits, FitsType, ValuesFit, ElementsFit, SortFits, ObjectFits, WorldFits}
use Rattle.cc_meaning_fits.specs.Premises.{IsLinked, AnswerFits, AllGivenFit, AllClassesFit, ScriptFits}
use Rattle.cc_meaning_fits.specs.Soundness.{Takes, Safe}
use Rattle.cc_sound_laws.proofs.Lists.{at_cases, at_old, at_new, set_cases, set_at, set_length}
use Rattle.cc_sound_laws.proofs.Tests.{same_true}
use Rattle.cc_sound_laws.proofs.Made.{new_fits, new_type}
use Rattle.cc_sound_laws.proofs.Growing.{value_grows, object_grows, grows_trans}

-- ---- the heap of a world

some_of : (x : Option Object) (sort : Sort) → option_map sort_of x ≡ Some sort → (o : Object) × (x ≡ Some o) × (sort_of o ≡ sort)
some_of None sort e = absurd (cc)
some_of (Some o) sort e = (o, refl, cc)

pub at_heap : (w : World) (a : ℕ) (sort : Sort) → heap_of w a ≡ Some sort → (o : Object) × (slice_get w.objects a ≡ Some o) × (sort_of o ≡ sort)
at_heap w a sort e = some_of (slice_get w.objects a) sort e

pub sort_fits : (p : Program) (h : Heap) (o : Object) → ObjectFits p h o → SortFits p (sort_of o)
unfolding sort_of
sort_fits p h object.Out f = tt
sort_fits p h (object.Instance class values) f = f.0
sort_fits p h (object.Array class values) f = (f.0, f.1)
sort_fits p h (object.Text units) f = tt
sort_fits p h (object.Builder units) f = tt
sort_fits p h (object.Constant class) f = tt

-- ---- a value that is put

record IsPut (p : Program) (h : Heap) (i : ℕ) (v : Value) (o : Object) : Type 0 where
  pub new : Object
  pub is : with_value i v o ≡ Some new
  pub sort : sort_of new ≡ sort_of o
  pub fits : ObjectFits p h new

set_true : (values : List Value) (i : ℕ) (v : Value) → i < length values → values_set values i v ≡ Some (slice_set values i v)
unfolding values_set
set_true values i v l = let e : nat_lt i (length values) ≡ true = grind (arith, common_steps) in rw e refl

values_put : (p : Program) (h : Heap) (types : List DexType) (values : List Value) (i : ℕ) (type : DexType) (v : Value) → slice_get types i ≡ Some type → FitsType p h type v → ValuesFit p h types values → ValuesFit p h types (slice_set values i v)
values_put p h types values i type v e f fits k other d =
    let x = fits k other d in
    elim (set_at values i k v x.0 x.1) [
      | inl s ↦ (v, s.1, let same : other ≡ type = let d2 : slice_get types i ≡ Some other = subst (λ z. slice_get types z ≡ Some other) s.0 d in cc in subst (λ t. FitsType p h t v) (sym same) f)
      | inr s ↦ (x.0, s, x.2)
    ]

elements_put : (p : Program) (h : Heap) (element : DexType) (values : List Value) (i : ℕ) (v : Value) → FitsType p h element v → ElementsFit p h element values → ElementsFit p h element (slice_set values i v)
elements_put p h element values i v f fits k x e = elim (set_cases values i k v x e) [
  | inl s ↦ subst (λ z. FitsType p h element z) s.1 f
  | inr s ↦ fits k x s
]

put_fits : (p : Program) (h : Heap) (i : ℕ) (v : Value) (o : Object) → ObjectFits p h o → Takes p h (sort_of o) i v → IsPut p h i v o
unfolding sort_of with_value rebuilt
put_fits p h i v (object.Instance class values) f t =
    let old = f.1 i t.0 t.1 in
    let l = slice_get_within values i old.0 old.1 in
    let n = set_length values i v in
    record {
      new = object.Instance class (slice_set values i v);
      is = rw (set_true values i v l) refl;
      sort = rw n refl;
      fits = (f.0, values_put p h (shape p class) values i t.0 v t.1 t.2 f.1);
    }
put_fits p h i v (object.Array class values) f t =
    let n = set_length values i v in
    let same : t.0 ≡ f.0 = array_parts p t.0 f.0 (sym t.1 ∙ f.1) in
    record {
      new = object.Array class (slice_set values i v);
      is = rw (set_true values i v t.2) refl;
      sort = rw n refl;
      fits = (f.0, f.1, elements_put p h f.0 values i v (subst (λ z. FitsType p h z v) same t.3) f.2);
    }
put_fits p h i v object.Out f t = absurd t
put_fits p h i v (object.Text units) f t = absurd t
put_fits p h i v (object.Builder units) f t = absurd t
put_fits p h i v (object.Constant class) f t = absurd t

record IsMore (p : Program) (h : Heap) (units : List ℕ) (o : Object) : Type 0 where
  pub new : Object
  pub is : more_units units (Some o) ≡ Some new
  pub sort : sort_of new ≡ sort_of o
  pub fits : ObjectFits p h new

more_fits : (p : Program) (h : Heap) (more : List ℕ) (o : Object) → sort_of o ≡ Builder → IsMore p h more o
unfolding sort_of more_units
more_fits p h more (object.Builder units) e = record { new = object.Builder (units ++ more); is = refl; sort = refl; fits = tt }
more_fits p h more object.Out e = absurd (cc)
more_fits p h more (object.Instance class values) e = absurd (cc)
more_fits p h more (object.Array class values) e = absurd (cc)
more_fits p h more (object.Text units) e = absurd (cc)
more_fits p h more (object.Constant class) e = absurd (cc)

fits_static : (p : Program) (w : World) (f : ℕ) (v : Value) → WorldFits p w → ((field : Field) → slice_get p.fields f ≡ Some field → FitsType p (heap_of w) field.ty v) → WorldFits p (with_static w f v)
unfolding with_static
fits_static p w f v fits g = record {
  objects = fits.objects;
  statics = λ i field e s.
      let x = fits.statics i field e s in
      elim (set_at w.statics f i v x.0 x.1) [
        | inl q ↦ (v, q.1, g field (subst (λ z. slice_get p.fields z ≡ Some field) q.0 e))
        | inr q ↦ (x.0, q, x.2)
      ];
  literals = fits.literals;
  constants = fits.constants;
}

-- ---- worlds that are written

pub grows_object : (w : World) (o : Object) → Grows (heap_of w) (heap_of (with_object w o))
unfolding with_object
grows_object w o a sort e = let x = at_heap w a sort e in ap (option_map sort_of) (at_old w.objects o x.0 a x.1) ∙ ap Some x.2

pub fits_object : (p : Program) (w : World) (o : Object) → WorldFits p w → ObjectFits p (heap_of w) o → WorldFits p (with_object w o)
unfolding with_object
fits_object p w o fits f =
    let g = grows_object w o in
    record {
      objects = λ a x e. elim (at_cases w.objects o x a e) [
        | inl old ↦ object_grows p (heap_of w) (heap_of (with_object w o)) g x (fits.objects a x old)
        | inr new ↦ subst (λ z. ObjectFits p (heap_of (with_object w o)) z) new (object_grows p (heap_of w) (heap_of (with_object w o)) g o f)
      ];
      statics = λ i field e s. let x = fits.statics i field e s in (x.0, x.1, value_grows p (heap_of w) (heap_of (with_object w o)) g x.2);
      literals = λ i m e. g m.number (literal_sort p m.what) (fits.literals i m e);
      constants = λ i m e. g m.number (Constant m.what) (fits.constants i m e);
    }

pub new_object_at : (w : World) (o : Object) → heap_of (with_object w o) (length w.objects) ≡ Some (sort_of o)
unfolding with_object
new_object_at w o = ap (option_map sort_of) (at_new w.objects o)

grows_put : (w : World) (a : ℕ) (o new : Object) → slice_get w.objects a ≡ Some o → sort_of new ≡ sort_of o → Grows (heap_of w) (heap_of (with_object_at w a new))
unfolding with_object_at
grows_put w a o new e same b sort d =
    let x = at_heap w b sort d in
    elim (set_at w.objects a b new x.0 x.1) [
      | inl s ↦
          let e2 : slice_get w.objects b ≡ Some o = subst (λ z. slice_get w.objects z ≡ Some o) (sym s.0) e in
          let q = x.1 in
          let q2 : x.0 ≡ o = cc in
          ap (option_map sort_of) s.1 ∙ ap Some (same ∙ sym (ap sort_of q2) ∙ x.2)
      | inr s ↦ ap (option_map sort_of) s ∙ ap Some x.2
    ]

fits_put : (p : Program) (w : World) (a : ℕ) (o new : Object) → slice_get w.objects a ≡ Some o → sort_of new ≡ sort_of o → WorldFits p w → ObjectFits p (heap_of w) new → WorldFits p (with_object_at w a new)
unfolding with_object_at
fits_put p w a o new e same fits f =
    let g = grows_put w a o new e same in
    record {
      objects = λ b x d. elim (set_cases w.objects a b new x d) [
        | inl s ↦ subst (λ z. ObjectFits p (heap_of (with_object_at w a new)) z) s.1 (object_grows p (heap_of w) (heap_of (with_object_at w a new)) g new f)
        | inr s ↦ object_grows p (heap_of w) (heap_of (with_object_at w a new)) g x (fits.objects b x s)
      ];
      statics = λ i field d s. let x = fits.statics i field d s in (x.0, x.1, value_grows p (heap_of w) (heap_of (with_object_at w a new)) g x.2);
      literals = λ i m d. g m.number (literal_sort p m.what) (fits.literals i m d);
      constants = λ i m d. g m.number (Constant m.what) (fits.constants i m d);
    }

pub fits_words : (p : Program) (w : World) (n : ℕ) → WorldFits p w → WorldFits p (with_words w n)
unfolding with_words
fits_words p w n fits = record { objects = fits.objects; statics = fits.statics; literals = fits.literals; constants = fits.constants }

-- ---- scripts

given_fits : (p : Program) (m : ℕ) (callee : Method) → slice_get p.methods m ≡ Some callee → (gs : List Given) (x : Answer) → AllGivenFit p gs → given_for m gs ≡ Some x → AnswerFits p callee.result x
unfolding given_for
given_fits p m callee e [] x f d = absurd (cc)
given_fits p m callee e (g ∷ gs) x f d = by (g.method == m) refl d (given_fits p m callee e gs x f.1)
  where
    by : (b : Bool) → (g.method == m) ≡ b → cond b (Some g.answer) (given_for m gs) ≡ Some x → (given_for m gs ≡ Some x → AnswerFits p callee.result x) → AnswerFits p callee.result x
    by true t d ih = let q : g.answer ≡ x = cc in subst (AnswerFits p callee.result) q (f.0 callee (subst (λ z. slice_get p.methods z ≡ Some callee) (sym (same_true g.method m t)) e))
    by false t d ih = ih d

next_gives : (p : Program) (m : ℕ) (callee : Method) → slice_get p.methods m ≡ Some callee → (gs : List Given) (i : ℕ) (x : Answer) → AllGivenFit p gs → next_of m (slice_get gs i) ≡ Gives x → AnswerFits p callee.result x
unfolding next_of
next_gives p m callee e [] i x f d = absurd (cc)
next_gives p m callee e (g ∷ gs) zero x f d = by (g.method == m) refl d
  where
    by : (b : Bool) → (g.method == m) ≡ b → cond b (Gives g.answer) (Other g.method) ≡ Gives x → AnswerFits p callee.result x
    by true t d = let q : g.answer ≡ x = cc in subst (AnswerFits p callee.result) q (f.0 callee (subst (λ z. slice_get p.methods z ≡ Some callee) (sym (same_true g.method m t)) e))
    by false t d = absurd (cc)
next_gives p m callee e (g ∷ gs) (suc i) x f d = next_gives p m callee e gs i x f.1 d

class_fits : (p : Program) (class : ℕ) (cs : List ScriptClass) (c : ScriptClass) → AllClassesFit p cs → class_in class cs ≡ Some c → AllGivenFit p c.free × AllGivenFit p c.answers
unfolding class_in
class_fits p class [] c f d = absurd (cc)
class_fits p class (x ∷ cs) c f d = by (x.class == class) d (class_fits p class cs c f.2)
  where
    by : (b : Bool) → cond b (Some x) (class_in class cs) ≡ Some c → (class_in class cs ≡ Some c → AllGivenFit p c.free × AllGivenFit p c.answers) → AllGivenFit p c.free × AllGivenFit p c.answers
    by true d ih = let q : x ≡ c = cc in subst (λ (z : ScriptClass). AllGivenFit p z.free × AllGivenFit p z.answers) q (f.0, f.1)
    by false d ih = ih d

-- the fixed answer of a method fits its result
free_fits : (p : Program) (script : Script) (scripted : ScriptFits p script) (m : ℕ) (callee : Method) → slice_get p.methods m ≡ Some callee → (x : Answer) → free_answer script p m ≡ Some x → AnswerFits p callee.result x
unfolding free_answer script_of free_in
free_fits p script scripted m callee e x d = by (class_in (class_asked p m) script.classes) refl d
  where
    by : (c : Option ScriptClass) → class_in (class_asked p m) script.classes ≡ c → free_in m c ≡ Some x → AnswerFits p callee.result x
    by None q d = absurd (cc)
    by (Some c) q d = given_fits p m callee e c.free x (class_fits p (class_asked p m) script.classes c scripted q).0 d

-- and so does the next answer of its class
next_fits : (p : Program) (script : Script) (scripted : ScriptFits p script) (m cursor : ℕ) (callee : Method) → slice_get p.methods m ≡ Some callee → (x : Answer) → next_answer script p m cursor ≡ Gives x → AnswerFits p callee.result x
unfolding next_answer script_of next_among
next_fits p script scripted m cursor callee e x d = by (class_in (class_asked p m) script.classes) refl d
  where
    by : (c : Option ScriptClass) → class_in (class_asked p m) script.classes ≡ c → next_among m cursor c ≡ Gives x → AnswerFits p callee.result x
    by None q d = absurd (cc)
    by (Some c) q d = next_gives p m callee e c.answers cursor x (class_fits p (class_asked p m) script.classes c scripted q).1 d

-- ---- recorded calls

-- an argument that is there is shown
arg_shown : (p : Program) (w : World) (v : Value) → IsThere (heap_of w) v → (arg : Arg) × (arg_of p w.objects v ≡ Some arg)
unfolding arg_of
arg_shown p w (value.Int n) f = (arg.Int n, refl)
arg_shown p w (value.Long n) f = (arg.Long n, refl)
arg_shown p w (value.Obj None) f = (arg.Null, refl)
arg_shown p w (value.Obj (Some a)) f = let x = at_heap w a f.0 f.1 in (shown p x.0, ap (option_map (shown p)) x.1)

args_shown : (p : Program) (w : World) (vs : List Value) → AreThere (heap_of w) vs → (args : List Arg) × (args_of p w.objects vs ≡ Some args)
unfolding args_of before
args_shown p w [] f = ([], refl)
args_shown p w (v ∷ vs) f = let x = arg_shown p w v f.0 in let y = args_shown p w vs f.1 in (x.0 ∷ y.0, rw (x.1, y.1) refl)

-- ---- literals and class constants

number_found : (what n : ℕ) (made : List Made) → number_for what made ≡ Some n → (i : ℕ) × (m : Made) × (slice_get made i ≡ Some m) × (m.what ≡ what) × (m.number ≡ n)
unfolding number_for
number_found what n [] e = absurd (cc)
number_found what n (m ∷ rest) e = by (m.what == what) refl e (number_found what n rest)
  where
    by : (b : Bool) → (m.what == what) ≡ b → cond b (Some m.number) (number_for what rest) ≡ Some n → (number_for what rest ≡ Some n → (i : ℕ) × (x : Made) × (slice_get rest i ≡ Some x) × (x.what ≡ what) × (x.number ≡ n)) →
        (i : ℕ) × (x : Made) × (slice_get (m ∷ rest) i ≡ Some x) × (x.what ≡ what) × (x.number ≡ n)
    by true t e ih = (0, m, refl, same_true m.what what t, cc)
    by false t e ih = let y = ih e in (suc y.0, y.1, y.2, y.3, y.4)

-- what is noted stands in the list beside the others
noted_cases : (new : Made) (made : List Made) (i : ℕ) (m : Made) → slice_get (noted_made new made) i ≡ Some m → (new ≡ m) ⊎ ((k : ℕ) × (slice_get made k ≡ Some m))
unfolding noted_made
noted_cases new [] zero m d = inl (cc)
noted_cases new [] (suc i) m d = absurd (cc)
noted_cases new (x ∷ rest) i m d = by (nat_lt new.what x.what) i d (λ k e. noted_cases new rest k m e)
  where
    by : (b : Bool) (i : ℕ) → slice_get (cond b (new ∷ x ∷ rest) (x ∷ noted_made new rest)) i ≡ Some m → ((k : ℕ) → slice_get (noted_made new rest) k ≡ Some m → (new ≡ m) ⊎ ((n : ℕ) × (slice_get rest n ≡ Some m))) →
        (new ≡ m) ⊎ ((n : ℕ) × (slice_get (x ∷ rest) n ≡ Some m))
    by true zero d ih = inl (cc)
    by true (suc i) d ih = inr (i, d)
    by false zero d ih = inr (0, d)
    by false (suc i) d ih = elim (ih i d) [ inl q ↦ inl q | inr y ↦ inr (suc y.0, y.1) ]

noted_in : (h : Heap) (sort : ℕ → Sort) (new : Made) (made : List Made) → h new.number ≡ Some (sort new.what) → ((i : ℕ) (m : Made) → slice_get made i ≡ Some m → h m.number ≡ Some (sort m.what)) →
    (i : ℕ) (m : Made) → slice_get (noted_made new made) i ≡ Some m → h m.number ≡ Some (sort m.what)
noted_in h sort new made e f i m d = elim (noted_cases new made i m d) [ inl q ↦ subst (λ (z : Made). h z.number ≡ Some (sort z.what)) q e | inr y ↦ f y.0 m y.1 ]

fits_literal : (p : Program) (w : World) (text n : ℕ) → WorldFits p w → heap_of w n ≡ Some (literal_sort p text) → WorldFits p (with_literal text w n)
unfolding with_literal
fits_literal p w text n fits e = record { objects = fits.objects; statics = fits.statics; literals = noted_in (heap_of w) (literal_sort p) (record { what = text; number = n }) w.literals e fits.literals; constants = fits.constants }

fits_constant : (p : Program) (w : World) (class n : ℕ) → WorldFits p w → heap_of w n ≡ Some (Constant class) → WorldFits p (with_constant class w n)
unfolding with_constant
fits_constant p w class n fits e = record { objects = fits.objects; statics = fits.statics; literals = fits.literals; constants = noted_in (heap_of w) (λ c. Constant c) (record { what = class; number = n }) w.constants e fits.constants }

fits_answer : (p : Program) (w : World) (class m : ℕ) (args : List Arg) (a : Answer) → WorldFits p w → WorldFits p (with_answer w class m args a)
unfolding with_answer
fits_answer p w class m args a fits = record { objects = fits.objects; statics = fits.statics; literals = fits.literals; constants = fits.constants }

-- ---- the steps

module _ (p : Program) (linked : IsLinked p) (script : Script) (scripted : ScriptFits p script) (Q : Heap → Outcome → Type 0) (stops : (h : Heap) (c : StopCause) → Q h (Stops c)) where
  pub record Ends (h : Heap) (r : Reached) : Type 0 where
    pub world : WorldFits p r.world
    pub grows : Grows h (heap_of r.world)
    pub leads : Q (heap_of r.world) r.outcome

  later : (h h' : Heap) (r : Reached) → Grows h h' → Ends h' r → Ends h r
  later h h' r g e = record { world = e.world; grows = grows_trans h h' (heap_of r.world) g e.grows; leads = e.leads }

  stop : (w : World) (c : StopCause) → WorldFits p w → Ends (heap_of w) (arrived (Stops c) w)
  unfolding arrived
  stop w c fits = record { world = fits; grows = λ a sort e. e; leads = stops (heap_of w) c }

  paid : (n : ℕ) (w : World) (go : World → Reached) → WorldFits p w → ((n : ℕ) → Ends (heap_of w) (go (with_words w n))) → Ends (heap_of w) (paying n w go)
  unfolding paying pay
  paid n w go fits rest = by (less_by n w.counters.words)
    where
      by : (x : Option ℕ) → Ends (heap_of w) (pay x w go)
      by None = stop w cause.Heap fits
      by (Some k) = rest k

  taken : {A : Type 0} (h : Heap) (x : Option A) (y : A) (w : World) (go : A → Reached) → x ≡ Some y → Ends h (go y) → Ends h (found x w go)
  unfolding found
  taken h x y w go e f = subst (λ z. Ends h (found z w go)) (sym e) f

  -- ---- a scripted call

  module _ (m : ℕ) (callee : Method) (there : slice_get p.methods m ≡ Some callee) (k : Option Value → Act) (h : Heap)
      (back : (w' : World) (v : Option Value) → WorldFits p w' → Grows h (heap_of w') → ResultFits p (heap_of w') callee.result v → Ends (heap_of w') (run_act script p (k v) w'))
      (throws : (h' : Heap) (a : ℕ) → Grows h h' → ThrownFits p h' a → Q h' (Throws a)) where
    -- a result that is no new object
    simple : (w : World) (v : Option Value) → WorldFits p w → Grows h (heap_of w) → ResultFits p (heap_of w) callee.result v → Ends (heap_of w) (run_act script p (k v) w)
    simple w v fits g f = back w v fits g f

    -- a result that is a new object
    made_back : (w : World) (o : Object) (type : DexType) → WorldFits p w → Grows h (heap_of w) → ObjectFits p (heap_of w) o → callee.result ≡ Some type → register_of p type ≡ Reference (held p type) → IsBelow p (held p (type_of p (sort_of o))) (held p type) →
        Ends (heap_of w) (run_act script p (k (Some (value.Obj (Some (length w.objects))))) (with_object w o))
    made_back w o type fits g f q r b =
        let w1 = with_object w o in
        let g1 = grows_object w o in
        let value_fits : ValueFits p (heap_of w1) (Reference (held p type)) (value.Obj (Some (length w.objects))) = reference {o = Some (length w.objects)} (sort_of o, new_object_at w o, b, sort_fits p (heap_of w) o f) in
        later (heap_of w) (heap_of w1) _ g1
        (back w1 (Some (value.Obj (Some (length w.objects)))) (fits_object p w o fits f) (grows_trans h (heap_of w) (heap_of w1) g g1)
        (subst (λ z. ResultFits p (heap_of w1) z (Some (value.Obj (Some (length w.objects))))) (sym q) (gives (subst (λ z. ValueFits p (heap_of w1) z (value.Obj (Some (length w.objects)))) (sym r) value_fits))))

    given_ends : (x : Answer) (w : World) → WorldFits p w → Grows h (heap_of w) → AnswerFits p callee.result x → Ends (heap_of w) (given p (λ v w'. run_act script p (k v) w') x w)
    unfolding given arrived sort_of type_of
    given_ends answer.Nothing w fits g y = simple w None fits g (subst (λ z. ResultFits p (heap_of w) z None) (sym y) void)
    given_ends (answer.Int n) w fits g y = simple w (Some (value.Int n)) fits g (subst (λ z. ResultFits p (heap_of w) z (Some (value.Int n))) (sym y.1) (gives (subst (λ z. ValueFits p (heap_of w) z (value.Int n)) (sym y.2) int)))
    given_ends (answer.Long n) w fits g y = simple w (Some (value.Long n)) fits g (subst (λ z. ResultFits p (heap_of w) z (Some (value.Long n))) (sym y.1) (gives (subst (λ z. ValueFits p (heap_of w) z (value.Long n)) (sym y.2) long)))
    given_ends answer.Null w fits g y = simple w (Some (value.Obj None)) fits g (subst (λ z. ResultFits p (heap_of w) z (Some (value.Obj None))) (sym y.1) (gives (subst (λ z. ValueFits p (heap_of w) z (value.Obj None)) (sym y.2) (reference tt))))
    given_ends (answer.Text units) w fits g y = made_back w (object.Text units) y.0 fits g tt y.1 y.2 y.3
    given_ends (answer.Instance class) w fits g y =
        made_back w (new_object p class) y.2.0 fits g (new_fits p linked (heap_of w) class y.0 y.1) y.2.1 y.2.2 (subst (λ z. IsBelow p (held p z) (held p y.2.0)) (sym (new_type p class)) y.2.3)
    given_ends (answer.Throws class) w fits g y =
        let o = new_fits p linked (heap_of w) class y.0 y.1 in
        let w1 = with_object w (new_object p class) in
        let g1 = grows_object w (new_object p class) in
        record {
          world = fits_object p w (new_object p class) fits o;
          grows = g1;
          leads = throws (heap_of w1) (length w.objects) (grows_trans h (heap_of w) (heap_of w1) g g1)
              (sort_of (new_object p class), new_object_at w (new_object p class), subst (λ z. IsBelow p (held p z) (throwable_type p)) (sym (new_type p class)) y.2, sort_fits p (heap_of w) (new_object p class) o);
        }

    freely_ends : (x : Answer) (w : World) → WorldFits p w → Grows h (heap_of w) → AnswerFits p callee.result x → Ends (heap_of w) (freely p (λ v w'. run_act script p (k v) w') x w)
    unfolding freely with_words
    freely_ends x w fits g y = paid (words_made p x) w _ fits (λ n. given_ends x (with_words w n) (fits_words p w n fits) g y)

    answered_ends : (class : ℕ) (args : List Arg) (w : World) (x : NextAnswer) → WorldFits p w → Grows h (heap_of w) → ((y : Answer) → x ≡ Gives y → AnswerFits p callee.result y) →
        Ends (heap_of w) (answered p (λ v w'. run_act script p (k v) w') class m args w x)
    unfolding answered with_words with_answer
    answered_ends class args w (Gives x) fits g y = paid (words_recorded p m args x) w _ fits (λ n. given_ends x (with_answer (with_words w n) class m args x) (fits_answer p (with_words w n) class m args x (fits_words p w n fits)) g (y x refl))
    answered_ends class args w Ended fits g y = stop w (script_end class) fits
    answered_ends class args w (Other other) fits g y = stop w (script_other class m other) fits

    asked_ends : (args : List Value) (w : World) (x : Option Answer) → free_answer script p m ≡ x → WorldFits p w → Grows h (heap_of w) → AreThere (heap_of w) args → Ends (heap_of w) (asked script p (λ v w'. run_act script p (k v) w') m args w x)
    unfolding asked noted
    asked_ends args w (Some x) e fits g f = freely_ends x w fits g (free_fits p script scripted m callee there x e)
    asked_ends args w None e fits g f =
        let x = args_shown p w args f in
        let r = taken (heap_of w) (args_of p w.objects args) x.0 w _ x.1
        (answered_ends (class_asked p m) x.0 w (next_answer script p m (cursor_at w (class_asked p m))) fits g (λ y d. next_fits p script scripted m _ callee there y d)) in
        record { world = r.world; grows = r.grows; leads = r.leads }

  -- what was made before, or a new object that is noted
  or_made : (o : Object) (note : World → ℕ → World) (w : World) (go : ℕ → World → Reached) → WorldFits p w → ObjectFits p (heap_of w) o → (x : Option ℕ) → ((n : ℕ) → x ≡ Some n → Ends (heap_of w) (go n w)) →
      ((w' : World) (n : ℕ) → WorldFits p w' → heap_of w' n ≡ Some (sort_of o) → WorldFits p (note w' n)) → ((w' : World) (n : ℕ) → heap_of (note w' n) ≡ heap_of w') →
      ((w' : World) (n : ℕ) → WorldFits p w' → Grows (heap_of w) (heap_of w') → heap_of w' n ≡ Some (sort_of o) → Ends (heap_of w') (go n w')) → Ends (heap_of w) (or_make x o note w go)
  unfolding or_make with_words
  or_made o note w go fits f (Some n) there noted_fits same_heap rest = there n refl
  or_made o note w go fits f None there noted_fits same_heap rest = paid (words_of o) w _ fits (λ n.
      let w1 = with_object (with_words w n) o in
      let g = grows_object (with_words w n) o in
      let e = new_object_at (with_words w n) o in
      let hs = same_heap w1 (length w.objects) in
      later (heap_of w) (heap_of w1) _ g
      (later (heap_of w1) (heap_of (note w1 (length w.objects))) _ (subst (λ z. Grows (heap_of w1) z) (sym hs) (λ a sort d. d))
      (rest (note w1 (length w.objects)) (length w.objects) (noted_fits w1 (length w.objects) (fits_object p (with_words w n) o (fits_words p w n fits) f) e)
      (subst (λ z. Grows (heap_of w) z) (sym hs) g) (subst (λ z. z (length w.objects) ≡ Some (sort_of o)) (sym hs) e))))

  pub run_safe : (a : Act) (w : World) → WorldFits p w → Safe p Q (heap_of w) a → Ends (heap_of w) (run_act script p a w)
  unfolding run_act with_words put_in with_object_at with_static with_event noted arrived sort_of with_literal with_constant
  run_safe (Done o) w fits s = record { world = fits; grows = λ a sort e. e; leads = s }
  run_safe (Make o k) w fits s =
      paid (words_of o) w _ fits (λ n.
      later (heap_of w) (heap_of (with_object (with_words w n) o)) _ (grows_object (with_words w n) o)
      (run_safe (k (length w.objects)) (with_object (with_words w n) o) (fits_object p (with_words w n) o (fits_words p w n fits) s.0)
      (s.1 (heap_of (with_object (with_words w n) o)) (length w.objects) (grows_object (with_words w n) o) (new_object_at (with_words w n) o))))
  run_safe (Look a k) w fits s =
      let x = at_heap w a s.0 s.1 in
      taken (heap_of w) (slice_get w.objects a) x.0 w _ x.1 (run_safe (k x.0) w fits (s.2 x.0 x.2 (fits.objects a x.0 x.1)))
  run_safe (ClassOf a k) w fits s =
      let x = at_heap w a s.0 s.1 in
      taken (heap_of w) (slice_get w.objects a) x.0 w _ x.1 (run_safe (k (type_of p (sort_of x.0))) w fits (subst (λ z. Safe p Q (heap_of w) (k (type_of p z))) (sym x.2) s.2))
  run_safe (Put a i v k) w fits s =
      let x = at_heap w a s.0 s.1 in
      let q = put_fits p (heap_of w) i v x.0 (fits.objects a x.0 x.1) (subst (λ z. Takes p (heap_of w) z i v) (sym x.2) s.2) in
      let g = grows_put w a x.0 q.new x.1 q.sort in
      taken (heap_of w) (put_in i v (slice_get w.objects a)) q.new w _ (ap (put_in i v) x.1 ∙ q.is)
      (later (heap_of w) (heap_of (with_object_at w a q.new)) _ g
      (run_safe k (with_object_at w a q.new) (fits_put p w a x.0 q.new x.1 q.sort fits q.fits) (s.3 (heap_of (with_object_at w a q.new)) g)))
  run_safe (GetStatic f k) w fits s =
      let x = fits.statics f s.0 s.1 s.2 in
      taken (heap_of w) (slice_get w.statics f) x.0 w _ x.1 (run_safe (k x.0) w fits (s.3 x.0 x.2))
  run_safe (Append a units k) w fits s =
      let x = at_heap w a Builder s.0 in
      let q = more_fits p (heap_of w) units x.0 x.2 in
      let g = grows_put w a x.0 q.new x.1 q.sort in
      taken (heap_of w) (more_units units (slice_get w.objects a)) q.new w _ (ap (more_units units) x.1 ∙ q.is)
      (paid (length units) w _ fits (λ n.
      later (heap_of w) (heap_of (with_object_at w a q.new)) _ g
      (run_safe k (with_object_at (with_words w n) a q.new) (fits_put p (with_words w n) a x.0 q.new x.1 q.sort (fits_words p w n fits) q.fits) (s.1 (heap_of (with_object_at w a q.new)) g))))
  run_safe (PutStatic f v k) w fits s = run_safe k (with_static w f v) (fits_static p w f v fits s.0) s.1
  run_safe (Tell m units k) w fits s =
      let e = paid (words_of_event (event.Print units)) w (λ w'. run_act script p k (with_event w' (event.Print units))) fits (λ n.
      run_safe k (with_event (with_words w n) (event.Print units)) (record { objects = fits.objects; statics = fits.statics; literals = fits.literals; constants = fits.constants }) s) in
      record { world = e.world; grows = e.grows; leads = e.leads }
  run_safe (Ask m args k) w fits s =
      asked_ends m s.1 s.2 k (heap_of w) (λ w' v fits' g r. run_safe (k v) w' fits' (s.3 (heap_of w') v g r)) s.4 args w (free_answer script p m) refl fits (λ a sort d. d) s.0
  run_safe (Literal text k) w fits s =
      or_made (object.Text (units_of (slice_get p.texts text))) (with_literal text) w (λ n w'. run_act script p (k n) w') fits tt (number_for text w.literals)
      (λ n e. let y = number_found text n w.literals e in run_safe (k n) w fits (s (heap_of w) n (λ a sort d. d) (subst (λ z. heap_of w n ≡ Some (literal_sort p z)) y.3 (subst (λ z. heap_of w z ≡ Some (literal_sort p y.1.what)) y.4 (fits.literals y.0 y.1 y.2)))))
      (λ w' n fits' e. fits_literal p w' text n fits' e) (λ w' n. refl)
      (λ w' n fits' g e. run_safe (k n) w' fits' (s (heap_of w') n g e))
  run_safe (ClassConstant class k) w fits s =
      or_made (object.Constant class) (with_constant class) w (λ n w'. run_act script p (k n) w') fits tt (number_for class w.constants)
      (λ n e. let y = number_found class n w.constants e in run_safe (k n) w fits (s (heap_of w) n (λ a sort d. d) (subst (λ z. heap_of w n ≡ Some (Constant z)) y.3 (subst (λ z. heap_of w z ≡ Some (Constant y.1.what)) y.4 (fits.constants y.0 y.1 y.2)))))
      (λ w' n fits' e. fits_constant p w' class n fits' e) (λ w' n. refl)
      (λ w' n fits' g e. run_safe (k n) w' fits' (s (heap_of w') n g e))
