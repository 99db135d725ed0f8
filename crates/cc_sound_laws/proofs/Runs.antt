-- A whole run has a report: its arguments are made, the class of its main method is started, and the method is called.
use Rattle.std.proofs.Common.{◌≡◌, ℕ, zero, suc, ◌+◌, Bool, true, false, cond, List, [], ◌∷◌, ◌++◌, length, Option, Some, None, refl, sym, ap, ◌∙◌, subst, slice_get, arith}
use Rattle.std.specs.Prelude.{map, option_map, sum_by}
use Rattle.cc_meaning.specs.declared.program.DexType.{DexType}
use Rattle.cc_meaning.specs.declared.program.Program.{Program}
use Rattle.cc_meaning.specs.declared.report.Ending.{Ending}
use Rattle.cc_meaning.specs.declared.report.Ending.TheVariants as ending
use Rattle.cc_meaning.specs.declared.report.Limits.{Limits}
use Rattle.cc_meaning.specs.declared.report.Report.{Report}
use Rattle.cc_meaning.specs.declared.report.StopCause.TheVariants as cause
use Rattle.cc_meaning.specs.declared.script.Script.{Script}
use Rattle.cc_meaning.specs.declared.value.Object.{Object}
use Rattle.cc_meaning.specs.declared.value.Object.TheVariants as object
use Rattle.cc_meaning.specs.declared.value.Value.{Value}
use Rattle.cc_meaning.specs.declared.value.Value.TheVariants as value
use Rattle.cc_meaning.specs.BuiltIn.{throwable_name}
use Rattle.cc_meaning.specs.Words.{words_of}
use Rattle.cc_meaning_typing.specs.Registers.{register_of, register_of_kind}
use Rattle.cc_meaning_typing.specs.Types.{array_of, class_type, held, IsBelow, same}
use Rattle.cc_meaning_typing.specs.Code.{string_type, throwable_type}
use Rattle.cc_meaning_typing.specs.WellTyped.{WellTyped}
use Rattle.cc_meaning_world.specs.World.{World}
use Rattle.cc_meaning_world.specs.Sorts.{Sort, Text, Array, Instance, number_of, sort_of, type_of}
use Rattle.cc_meaning_world.specs.Changes.{less_by, with_words, with_object, with_objects, with_statuses}
use Rattle.cc_meaning_world.specs.Acts.{Returns, Stops, Reached, arrived, pay, paying}
use Rattle.cc_meaning_world.specs.Opening.{opening_world, texts_class, numbered, argument_objects, with_arguments}
use Rattle.cc_meaning_exec.specs.Frames.{no_frames}
use Rattle.cc_meaning_exec.specs.Exceptions.{End, Returned, Thrown, Stopped, Jammed, Raised, end_of, raised_by}
use Rattle.cc_meaning_exec.specs.Starts.{Climbed, class_of_main, climb_from}
use Rattle.cc_meaning_exec.specs.Eval.{Ran, ran, Here, Hook, Go, call, starts, opened, eval_with}
use Rattle.cc_meaning_exec.specs.Runs.{launched, run_main, begun, begun_in, with_made_arguments, run_with, onlooker, opening_invocations, Invocations, text_at, thrown_ending, ending_of, report_in, report_of, onlooked, local}
use Rattle.cc_meaning_fits.specs.Fits.{ElementsFit, one, reference, FitsType, ArgumentsFit, no_more, argument_types, Heap, heap_of, Grows, SortFits, CallFits, ThrownFits, ObjectFits, WorldFits}
use Rattle.cc_meaning_fits.specs.Premises.{MainFits, ScriptFits, IsLinked, ConstructorsStand}
use Rattle.cc_meaning_fits.specs.Soundness.{EndFits, RanFits, HookFits, StepIsSound, OpeningFits, RunHasReport, LocalHasReport}
use Rattle.cc_sound_laws.proofs.Growing.{value_grows, grows_trans}
use Rattle.cc_sound_laws.proofs.Acts.{at_heap, grows_object, fits_object, new_object_at, fits_words}
use Rattle.cc_sound_laws.proofs.Known.{IsInstance, throwable_sort}
use Rattle.cc_sound_laws.proofs.Evals.{FailsFit, ran_later, fails_end, call_fits, starts_fit, opened_fits, evals_fit}

-- ---- the arguments

append_one : {A : Type 0} (xs ys : List A) (x : A) → (xs ++ x ∷ []) ++ ys ≡ xs ++ x ∷ ys
append_one [] ys x = refl
append_one (z ∷ xs) ys x = ap (λ l. z ∷ l) (append_one xs ys x)

append_all : {A : Type 0} (xs ys zs : List A) → (xs ++ ys) ++ zs ≡ xs ++ (ys ++ zs)
append_all [] ys zs = refl
append_all (x ∷ xs) ys zs = ap (λ l. x ∷ l) (append_all xs ys zs)

append_none : {A : Type 0} (xs : List A) → xs ++ [] ≡ xs
append_none [] = refl
append_none (x ∷ xs) = ap (λ l. x ∷ l) (append_none xs)

length_one : {A : Type 0} (xs : List A) (x : A) → length (xs ++ x ∷ []) ≡ suc (length xs)
length_one [] x = refl
length_one (z ∷ xs) x = ap suc (length_one xs x)

-- values that are texts
data Texts (h : Heap) : List Value → Type 0 where
  no_texts : Texts h []
  text_more : {a : ℕ} {units : List ℕ} {vs : List Value} → h a ≡ Some (Text units) → Texts h vs → Texts h (value.Obj (Some a) ∷ vs)

text_here : (p : Program) (h : Heap) (a : ℕ) (units : List ℕ) → h a ≡ Some (Text units) → FitsType p h (string_type p) (value.Obj (Some a))
unfolding register_of register_of_kind string_type type_of
text_here p h a units e = reference {o = Some a} (Text units, e, same, tt)

texts_fit : (p : Program) (h : Heap) {vs : List Value} → Texts h vs → ElementsFit p h (string_type p) vs
texts_fit p h no_texts i v e = absurd (cc)
texts_fit p h (text_more {a = a} {units = units} t f) zero v e = subst (λ z. FitsType p h (string_type p) z) (let q : value.Obj (Some a) ≡ v = cc in q) (text_here p h a units t)
texts_fit p h (text_more t f) (suc i) v e = texts_fit p h f i v e

-- what stands after texts were made
record TextsMade (p : Program) (w : World) (texts : List (List ℕ)) : Type 0 where
  pub world : WorldFits p (with_objects w (map object.Text texts))
  pub grows : Grows (heap_of w) (heap_of (with_objects w (map object.Text texts)))
  pub made : Texts (heap_of (with_objects w (map object.Text texts))) (numbered (length w.objects) texts)
  pub place : length (with_objects w (map object.Text texts)).objects ≡ length w.objects + length texts

same_world : (w : World) (o : Object) (os : List Object) → with_objects (with_object w o) os ≡ with_objects w (o ∷ os)
unfolding with_objects with_object
same_world w o os = ap (λ z. record w { objects = z }) (append_one w.objects os o)

-- one text more, before the others
one_more : (p : Program) (units : List ℕ) (rest : List (List ℕ)) (w : World) → TextsMade p (with_object w (object.Text units)) rest → WorldFits p w → TextsMade p w (units ∷ rest)
unfolding with_object numbered sort_of
one_more p units rest w x fits =
    let o = object.Text units in
    let w1 = with_object w o in
    let e = same_world w o (map object.Text rest) in
    let n : length w1.objects ≡ suc (length w.objects) = length_one w.objects o in
    let there = x.grows (length w.objects) (Text units) (new_object_at w o) in
    record {
      world = subst (λ z. WorldFits p z) e x.world;
      grows = subst (λ z. Grows (heap_of w) (heap_of z)) e (grows_trans (heap_of w) (heap_of w1) (heap_of (with_objects w1 (map object.Text rest))) (grows_object w o) x.grows);
      made = subst (λ z. Texts (heap_of z) (numbered (length w.objects) (units ∷ rest))) e (text_more there (subst (λ z. Texts (heap_of (with_objects w1 (map object.Text rest))) (numbered z rest)) n x.made));
      place = ap (λ (z : World). length z.objects) (sym e) ∙ x.place ∙ (omega (arith, n));
    }

texts_made : (p : Program) (texts : List (List ℕ)) (w : World) → WorldFits p w → TextsMade p w texts
unfolding with_objects numbered
texts_made p [] w fits = record {
  world = subst (λ z. WorldFits p (record w { objects = z })) (sym (append_none w.objects)) fits;
  grows = subst (λ z. Grows (heap_of w) (heap_of (record w { objects = z }))) (sym (append_none w.objects)) (λ a s e. e);
  made = no_texts;
  place = ap length (append_none w.objects) ∙ (omega arith);
}
texts_made p (units ∷ rest) w fits = one_more p units rest w (texts_made p rest (with_object w (object.Text units)) (fits_object p w (object.Text units) fits tt)) fits

-- ---- the array of arguments

-- the world of a run whose arguments were made, and where their array is
record ArgumentsMade (p : Program) (before : World) (a : ℕ) (w : World) : Type 0 where
  pub world : WorldFits p w
  pub grows : Grows (heap_of before) (heap_of w)
  pub array : FitsType p (heap_of w) (array_of (string_type p)) (value.Obj (Some a))

array_here : (p : Program) (main : MainFits p) (h : Heap) (a n : ℕ) → h a ≡ Some (Array (texts_class p) n) → FitsType p h (array_of (string_type p)) (value.Obj (Some a))
unfolding register_of register_of_kind string_type type_of
array_here p main h a n e = reference {o = Some a} (Array (texts_class p) n, e, subst (λ z. IsBelow p (held p z) (held p (array_of (string_type p)))) (sym main.texts) same, (string_type p, main.texts))

last_world : (w : World) (os : List Object) (o : Object) → with_object (with_objects w os) o ≡ with_objects w (os ++ o ∷ [])
unfolding with_objects with_object
last_world w os o = ap (λ z. record w { objects = z }) (append_all w.objects os (o ∷ []))

arguments_made : (p : Program) (main : MainFits p) (texts : List (List ℕ)) (w : World) → WorldFits p w → ArgumentsMade p w (length w.objects + length texts) (with_objects w (argument_objects p (length w.objects) texts))
unfolding argument_objects sort_of
arguments_made p main texts w fits =
    let x = texts_made p texts w fits in
    let w1 = with_objects w (map object.Text texts) in
    let vs = numbered (length w.objects) texts in
    let o = object.Array (texts_class p) vs in
    let e = last_world w (map object.Text texts) o in
    let f : ObjectFits p (heap_of w1) o = (string_type p, main.texts, texts_fit p (heap_of w1) x.made) in
    let at : heap_of (with_object w1 o) (length w.objects + length texts) ≡ Some (Array (texts_class p) (length vs)) = subst (λ z. heap_of (with_object w1 o) z ≡ Some (Array (texts_class p) (length vs))) x.place (new_object_at w1 o) in
    record {
      world = subst (λ z. WorldFits p z) e (fits_object p w1 o x.world f);
      grows = subst (λ z. Grows (heap_of w) (heap_of z)) e (grows_trans (heap_of w) (heap_of w1) (heap_of (with_object w1 o)) x.grows (grows_object w1 o));
      array = subst (λ z. FitsType p (heap_of z) (array_of (string_type p)) (value.Obj (Some (length w.objects + length texts)))) e (array_here p main (heap_of (with_object w1 o)) (length w.objects + length texts) (length vs) at);
    }

-- ---- endings

throwable_known : (p : Program) (linked : IsLinked p) (sort : Sort) → SortFits p sort → IsBelow p (held p (type_of p sort)) (throwable_type p) → IsInstance p linked sort (number_of p throwable_name)
unfolding throwable_type number_of
throwable_known p linked sort f b = throwable_sort p linked sort f b

thrown_form : (w : World) (o : Object) (class fields : ℕ) → sort_of o ≡ Instance class fields → (ending : Ending) × (thrown_ending w (Some o) ≡ Some ending)
unfolding thrown_ending sort_of
thrown_form w (object.Instance c (first ∷ rest)) class fields e = (ending.Thrown c (text_at w first), refl)
thrown_form w (object.Instance c []) class fields e = (ending.Thrown c None, refl)
thrown_form w object.Out class fields e = absurd (cc)
thrown_form w (object.Array c values) class fields e = absurd (cc)
thrown_form w (object.Text units) class fields e = absurd (cc)
thrown_form w (object.Builder units) class fields e = absurd (cc)
thrown_form w (object.Constant c) class fields e = absurd (cc)

thrown_end : (p : Program) (linked : IsLinked p) (w : World) (a : ℕ) → ThrownFits p (heap_of w) a → (ending : Ending) × (thrown_ending w (slice_get w.objects a) ≡ Some ending)
thrown_end p linked w a f =
    let x = at_heap w a f.0 f.1 in
    let i = throwable_known p linked f.0 f.3 f.2 in
    let y = thrown_form w x.0 i.class i.fields (x.2 ∙ i.is) in
    (y.0, ap (thrown_ending w) x.1 ∙ y.1)

-- ---- a run

module _ {T : Type 0} (hook : Hook T) (p : Program) (linked : IsLinked p) (constructs : ConstructorsStand p) (script : Script) (scripted : ScriptFits p script) (typed : WellTyped p) (steps : StepIsSound) (answers : HookFits hook p) (main : MainFits p) where
  main_called : (h : Heap) (v : Value) → FitsType p h (array_of (string_type p)) v → CallFits p h p.main (v ∷ [])
  unfolding argument_types
  main_called h v f = record {
    callee = main.method;
    code = main.code;
    named = main.there;
    kind = main.kind;
    arguments = subst (λ b. ArgumentsFit p h (cond b main.method.params (class_type main.method.class ∷ main.method.params)) (v ∷ [])) (sym main.static_one) (subst (λ z. ArgumentsFit p h z (v ∷ [])) (sym main.params) (one f no_more));
  }

  module _ (n : ℕ) (h : Heap) (v : Value) (there : FitsType p h (array_of (string_type p)) v) where
    main_fits : (w : World) (t : T) → WorldFits p w → Grows h (heap_of w) → RanFits p h main.method.result (call hook (eval_with hook script p n) script p p.main (v ∷ []) no_frames w t)
    unfolding main_called
    main_fits w t fits g =
        ran_later hook p linked constructs script scripted typed steps answers h (heap_of w) main.method.result _ g
        (call_fits hook p linked constructs script scripted typed steps answers (eval_with hook script p n) (evals_fit hook p linked constructs script scripted typed steps answers n) p.main (v ∷ []) no_frames w t fits (main_called (heap_of w) v (value_grows p h (heap_of w) g there)))

    -- what fails in a start is the run's end
    ends : (e : End) (w : World) (t : T) → WorldFits p w → Grows h (heap_of w) → FailsFit p (heap_of w) e → RanFits p h main.method.result (ran e w t)
    ends e w t fits g f = (fits, g, fails_end hook p linked constructs script scripted typed steps answers (heap_of w) main.method.result e f)

    launched_fits : (cs : List ℕ) (w : World) (t : T) → WorldFits p w → Grows h (heap_of w) → RanFits p h main.method.result (launched hook (eval_with hook script p n) script p p.main (v ∷ []) cs w t)
    unfolding launched
    launched_fits cs w t fits g =
        starts_fit hook p linked constructs script scripted typed steps answers (eval_with hook script p n) (evals_fit hook p linked constructs script scripted typed steps answers n) h main.method.result no_frames ran ends _ cs main_fits w t fits g

    run_main_fits : (w : World) (t : T) → WorldFits p w → Grows h (heap_of w) → RanFits p h main.method.result (run_main hook script p n (v ∷ []) w t)
    unfolding run_main opened
    run_main_fits w t fits g =
        let k : Climbed = climb_from p (class_of_main p) w in
        opened_fits hook p linked constructs script scripted typed steps answers (eval_with hook script p n) (evals_fit hook p linked constructs script scripted typed steps answers n) h main.method.result no_frames ran ends k.refused k _ w t launched_fits fits g

  run_fits : (limits : Limits) (texts : List (List ℕ)) (t : T) → WorldFits p (opening_world p limits) → RanFits p (heap_of (opening_world p limits)) main.method.result (run_with hook script p texts limits t)
  unfolding run_with begun_in begun end_of pay arrived with_made_arguments with_arguments paying raised_by with_words
  run_fits limits texts t fits = by (less_by (sum_by words_of (argument_objects p (length (opening_world p limits).objects) texts)) (opening_world p limits).counters.words)
    where
      w0 : World
      w0 = opening_world p limits

      made : World → Reached
      made w = arrived (Returns (Some (value.Obj (Some (length w.objects + length texts))))) (with_objects w (argument_objects p (length w.objects) texts))

      by : (x : Option ℕ) → RanFits p (heap_of w0) main.method.result (begun_in hook script p limits.instructions (raised_by (pay x w0 made)) t)
      by None = (fits, λ a s e. e, tt)
      by (Some k) =
          let x = arguments_made p main texts (with_words w0 k) (fits_words p w0 k fits) in
          ran_later hook p linked constructs script scripted typed steps answers (heap_of w0) _ main.method.result _ x.grows
          (run_main_fits limits.instructions _ (value.Obj (Some (length w0.objects + length texts))) x.array _ t x.world (λ a s e. e))

  has_ending : (h : Heap) (type : Option DexType) (e : End) (w : World) (t : T) → RanFits p h type (ran e w t) → (ending : Ending) × (ending_of w e ≡ Some ending)
  unfolding ending_of
  has_ending h type (Returned v) w t f = (ending.Returned, refl)
  has_ending h type (Thrown a) w t f = thrown_end p linked w a f.2
  has_ending h type (Stopped c) w t f = (ending.Stopped c, refl)
  has_ending h type Jammed w t f = absurd f.2

  -- what fits has a report
  has_report : (h : Heap) (type : Option DexType) (limits : Limits) (r : Ran T) → RanFits p h type r → (report : Report) × (report_of limits r ≡ Some report)
  unfolding report_of
  has_report h type limits (ran e w t) f = let x = has_ending h type e w t f in (report_in limits w x.0, ap (option_map (report_in limits w)) x.1)

pub run_sound : StepIsSound → OpeningFits → {T : Type 0} (hook : Hook T) (script : Script) (p : Program) → RunHasReport hook script p
run_sound steps opens hook script p linked constructs out main scripted typed answers texts limits t =
    has_report hook p linked constructs script scripted typed steps answers main _ _ limits _ (run_fits hook p linked constructs script scripted typed steps answers main limits texts t (opens p limits linked out))

pub local_sound : StepIsSound → OpeningFits → LocalHasReport
unfolding local onlooked onlooker
local_sound steps opens script p linked constructs out main scripted typed texts limits =
    run_sound steps opens (onlooker p.main) script p linked constructs out main scripted typed (λ m args stack w t fits call. tt) texts limits (opening_invocations p.main)
