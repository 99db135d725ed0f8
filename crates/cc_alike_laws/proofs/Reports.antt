-- Whole runs: they begin in one world on both sides, and what ends alike there has one report.
use Rattle.std.proofs.Common.{◌≡◌, ℕ, zero, suc, ◌+◌, ◌<◌, ◌≤◌, Bool, true, List, [], ◌∷◌, length, Option, Some, None, refl, sym, ap, ◌∙◌, subst, ⊎_elim, arith, slice_get, length-append}
use Rattle.std.specs.Prelude.{IsTrue, map, option_map}
use native.Mathlib.Decide.{ℕ_discrete}
use Rattle.cc_meaning.specs.declared.program.Program.{Program}
use Rattle.cc_meaning.specs.declared.report.Ending.{Ending}
use Rattle.cc_meaning.specs.declared.report.Ending.TheVariants as ending
use Rattle.cc_meaning.specs.declared.report.Limits.{Limits}
use Rattle.cc_meaning.specs.declared.script.Script.{Script}
use Rattle.cc_meaning.specs.declared.value.Object.{Object}
use Rattle.cc_meaning.specs.declared.value.Object.TheVariants as object
use Rattle.cc_meaning.specs.declared.value.Value.{Value}
use Rattle.cc_meaning.specs.declared.value.Value.TheVariants as value
use Rattle.cc_meaning_world.specs.World.{World}
use Rattle.cc_meaning_world.specs.Changes.{with_words, with_objects}
use Rattle.cc_meaning_world.specs.Opening.{out_object, opening_world, texts_class, numbered, argument_objects, with_arguments}
use Rattle.cc_meaning_world.specs.Acts.{Reached, Returns, arrived, pay, paying}
use Rattle.cc_meaning_exec.specs.Exceptions.{End, end_of, raised_by}
use Rattle.cc_meaning_exec.specs.Eval.{Ran, ran, Reply, Here, Answer, Hook}
use Rattle.cc_meaning_exec.specs.Runs.{begun, begun_in, with_made_arguments, run_with, entered, onlooker, opening_invocations, text_in, text_at, thrown_ending, ending_of, report_in, report_of, onlooked, local, kept_of, Invocations}
use Rattle.cc_meaning_exec.specs.WorkedPrograms.{nowhere}
use Rattle.cc_meaning_alike.specs.Maps.{Map, empty, link, In, here, there, Extends}
use Rattle.cc_meaning_alike.specs.Worlds.{Each, nil, each, AlikeHeaps, nulls, linked, AlikeValue, ints, longs, refs, AlikeObject, outs, instances, arrays, texts, builders, constants, BothObjects, two, Alike, start_at}
use Rattle.cc_meaning_alike.specs.Ends.{AlikeEnd, both_return, both_throw, both_stop, both_jam, AlikeRan, WasRight, Keeps, LooksOn, HookFits}
use Rattle.cc_meaning_alike.specs.Laws.{ReportIsLocal, no_notes, no_hold, everything}
use Rattle.cc_alike_laws.proofs.Maps.{in_link, each_append, grow_values}
use Rattle.cc_alike_laws.proofs.Laws.{nowhere_looks, looking_keeps, looking_fits, opening_alike}
use Rattle.cc_alike_laws.proofs.Glue.{moved}
use Rattle.cc_alike_laws.proofs.Evals.{main_faithful}

-- ---- each object is linked with itself

unfoldable pub diagonal : ℕ → Map
diagonal zero = empty
diagonal (suc n) = link n n (diagonal n)

on_diagonal : (n a : ℕ) → a < n → In (diagonal n) a a
unfolding diagonal
on_diagonal zero a h = absurd (omega arith)
on_diagonal (suc n) a h = cases (ℕ_discrete a n) (λ below. on_diagonal n a below)
  where
    cases : Dec (a ≡ n) → (a < n → In (diagonal n) a a) → In (link n n (diagonal n)) a a
    cases (yes e) k = moved e e here
    cases (no ne) k = there (k (omega arith))

off_diagonal : (n a b : ℕ) → In (diagonal n) a b → (a ≡ b) × (a < n)
unfolding diagonal
off_diagonal zero a b i = elim i [ ]
off_diagonal (suc n) a b i = ⊎_elim (λ e. let e0 = e.0 in (e.0 ∙ sym e.1, omega arith)) (λ j. let r = off_diagonal n a b j in let h = r.1 in (r.0, omega arith)) (in_link i)

above_opening : (n : ℕ) → 0 < n → Extends (link out_object out_object empty) (diagonal n)
above_opening n h a b i = ⊎_elim (λ e. moved e.0 e.1 (on_diagonal n 0 h)) (λ j. elim j [ ]) (in_link i)

found_both : {f : Map} (xs ys : List Object) (a : ℕ) → a < length xs → Each (AlikeObject f) xs ys → BothObjects f (slice_get xs a) (slice_get ys a)
found_both [] ys a h r = absurd (omega arith)
found_both (x ∷ xs) [] a h r = elim r [ ]
found_both (x ∷ xs) (y ∷ ys) zero h (each r rs) = two r
found_both (x ∷ xs) (y ∷ ys) (suc a) h (each r rs) = found_both xs ys a (omega arith) rs

module _ (os : List Object) (some : 0 < length os) (same : Each (AlikeObject (diagonal (length os))) os os) where
  self_objects : (a b : ℕ) → (a ≡ b) × (a < length os) → BothObjects (diagonal (length os)) (slice_get os a) (slice_get os b)
  self_objects a b e = subst (λ c. BothObjects (diagonal (length os)) (slice_get os a) (slice_get os c)) e.0 (found_both os os a e.1 same)

  self_heap : AlikeHeaps (diagonal (length os)) os os
  self_heap = record {
    objects = λ a b i. self_objects a b (off_diagonal (length os) a b i);
    one = record {
      one_right = λ a b c i j. sym (off_diagonal (length os) a b i).0 ∙ (off_diagonal (length os) a c j).0;
      one_left = λ a b c i j. (off_diagonal (length os) a c i).0 ∙ sym (off_diagonal (length os) b c j).0;
    };
    out = on_diagonal (length os) 0 some;
  }

-- ---- the world after the arguments of a program were made

numbered_alike : (n from : ℕ) (ts : List (List ℕ)) → from + length ts ≤ n → Each (AlikeValue (diagonal n)) (numbered from ts) (numbered from ts)
unfolding numbered
numbered_alike n from [] h = nil
numbered_alike n from (t ∷ ts) h = each (refs (linked (on_diagonal n from (omega arith)))) (numbered_alike n (suc from) ts (omega arith))

texts_alike : {f : Map} (ts : List (List ℕ)) → Each (AlikeObject f) (map object.Text ts) (map object.Text ts)
texts_alike [] = nil
texts_alike (t ∷ ts) = each texts (texts_alike ts)

texts_counted : (ts : List (List ℕ)) → length (map object.Text ts) ≡ length ts
texts_counted [] = refl
texts_counted (t ∷ ts) = ap suc (texts_counted ts)

-- `System.out`, the texts, and the array of them
objects_then : Program → List (List ℕ) → List Object
objects_then p ts = object.Out ∷ argument_objects p 1 ts

counted_then : (p : Program) (ts : List (List ℕ)) → length (objects_then p ts) ≡ suc (length ts + 1)
unfolding objects_then argument_objects
counted_then p ts = ap suc (length-append (map object.Text ts) (object.Array (texts_class p) (numbered 1 ts) ∷ []) ∙ ap (λ n. n + 1) (texts_counted ts))

objects_alike : (p : Program) (ts : List (List ℕ)) → Each (AlikeObject (diagonal (length (objects_then p ts)))) (objects_then p ts) (objects_then p ts)
unfolding objects_then argument_objects
objects_alike p ts = each outs (each_append (texts_alike ts) (each (arrays (numbered_alike _ 1 ts (let e = counted_then p ts in omega arith))) nil))

unfoldable pub world_then : Program → List (List ℕ) → Limits → ℕ → World
world_then p ts limits words = with_objects (with_words (opening_world p limits) words) (argument_objects p 1 ts)

then_alike : (K : ℕ → Bool) (p : Program) (ts : List (List ℕ)) (limits : Limits) (words : ℕ) → Alike K (diagonal (length (objects_then p ts))) (world_then p ts limits words) (world_then p ts limits words)
unfolding world_then with_objects with_words opening_world objects_then
then_alike K p ts limits words = record {
  heap = self_heap (objects_then p ts) (let e = counted_then p ts in omega arith) (objects_alike p ts);
  statics = grow_values (above_opening _ (let e = counted_then p ts in omega arith)) (opening_alike K p limits).statics;
  literals = nil;
  constants = nil;
  counters = refl;
  cursors = λ c k. refl;
}

then_left : (p : Program) (ts : List (List ℕ)) (limits : Limits) (words : ℕ) → (world_then p ts limits words).counters.instructions ≤ limits.instructions
unfolding world_then with_objects with_words opening_world
then_left p ts limits words = omega arith

-- what is made where the words are there
unfoldable pub made_in : Program → List (List ℕ) → World → Reached
made_in p ts w = arrived (Returns (Some (value.Obj (Some (length w.objects + length ts))))) (with_objects w (argument_objects p (length w.objects) ts))

-- ---- reports

both_text : {f : Map} {x1 x2 : Option Object} → BothObjects f x1 x2 → text_in x1 ≡ text_in x2
unfolding text_in
both_text (two outs) = refl
both_text (two (instances vs)) = refl
both_text (two (arrays vs)) = refl
both_text (two texts) = refl
both_text (two builders) = refl
both_text (two constants) = refl

text_same : {f : Map} {v1 v2 : Value} (w1 w2 : World) → AlikeHeaps f w1.objects w2.objects → AlikeValue f v1 v2 → text_at w1 v1 ≡ text_at w2 v2
unfolding text_at
text_same w1 w2 h ints = refl
text_same w1 w2 h longs = refl
text_same w1 w2 h (refs nulls) = refl
text_same w1 w2 h (refs (linked i)) = both_text (h.objects _ _ i)

thrown_same : {f : Map} {x1 x2 : Option Object} (w1 w2 : World) → AlikeHeaps f w1.objects w2.objects → BothObjects f x1 x2 → thrown_ending w1 x1 ≡ thrown_ending w2 x2
unfolding thrown_ending
thrown_same w1 w2 h (two outs) = refl
thrown_same w1 w2 h (two (instances nil)) = refl
thrown_same w1 w2 h (two (instances {class = class} (each v vs))) = ap (λ message. Some (ending.Thrown class message)) (text_same w1 w2 h v)
thrown_same w1 w2 h (two (arrays vs)) = refl
thrown_same w1 w2 h (two texts) = refl
thrown_same w1 w2 h (two builders) = refl
thrown_same w1 w2 h (two constants) = refl

ending_same : {f : Map} {e1 e2 : End} (w1 w2 : World) → AlikeHeaps f w1.objects w2.objects → AlikeEnd f e1 e2 → ending_of w1 e1 ≡ ending_of w2 e2
unfolding ending_of
ending_same w1 w2 h (both_return v) = refl
ending_same w1 w2 h (both_throw i) = thrown_same w1 w2 h (h.objects _ _ i)
ending_same w1 w2 h both_stop = refl
ending_same w1 w2 h both_jam = refl

report_same : (limits : Limits) (w1 w2 : World) (x : Option Ending) → w1.events ≡ w2.events → w1.counters ≡ w2.counters → option_map (report_in limits w1) x ≡ option_map (report_in limits w2) x
unfolding report_in
report_same limits w1 w2 None e c = refl
report_same limits w1 w2 (Some x) e c = rw (e, c) refl

-- where both began in one world, alike ends have one report
ran_same : {T U : Type 0} (ok : T → Bool) (fine : U → Bool) (Holds : T → U → List ℕ → Type 0) (K : ℕ → Bool) (limits : Limits) (f : Map) (w : World) (n : ℕ) (r1 : Ran T) (r2 : Ran U) → AlikeRan ok fine Holds K (start_at f w w) f n r1 r2 →
    IsTrue (ok (kept_of r1)) → IsTrue (fine (kept_of r2)) → report_of limits r1 ≡ report_of limits r2
unfolding report_of kept_of
ran_same ok fine Holds K limits f w n (ran e1 w1 t1) (ran e2 w2 u2) h o o' =
    let r = (h o o').0 in
    ap (option_map (report_in limits w1)) (ending_same w1 w2 r.pair.alike.heap r.ends) ∙ report_same limits w1 w2 (ending_of w2 e2) (r.pair.since.events_first ∙ sym r.pair.since.events_second) r.pair.alike.counters

-- what follows on the arguments, or on too few words for them
then_run : {T : Type 0} → Hook T → Script → Program → List (List ℕ) → Limits → Option ℕ → T → Ran T
then_run hook script p ts limits x t = begun_in hook script p limits.instructions (raised_by (pay x (opening_world p limits) (made_in p ts))) t

module _ {T U : Type 0} (ok : T → Bool) (fine : U → Bool) (Holds : T → U → List ℕ → Type 0) (K : ℕ → Bool) (hook : Hook T) (look : Hook U) (script : Script) (p : Program)
    (keeps : Keeps ok fine Holds K hook look script p) (looks : LooksOn fine look) (fits : HookFits ok fine Holds K hook look script p) (ts : List (List ℕ)) (limits : Limits) (t : T) (u : U) (hd : Holds t u (opening_world p limits).cursors) where
  begun_same : (x : Option ℕ) → IsTrue (ok (kept_of (then_run hook script p ts limits x t))) → IsTrue (fine (kept_of (then_run look script p ts limits x u))) →
      report_of limits (then_run hook script p ts limits x t) ≡ report_of limits (then_run look script p ts limits x u)
  unfolding then_run begun_in begun raised_by end_of pay arrived made_in report_of world_then opening_world with_objects with_words
  begun_same None o o' = refl
  begun_same (Some words) o o' =
      ran_same ok fine Holds K limits _ _ limits.instructions _ _
      (main_faithful ok fine Holds K hook look script p keeps looks fits (diagonal (length (objects_then p ts))) limits.instructions _ _ (world_then p ts limits words) (world_then p ts limits words) t u (then_alike K p ts limits words)
      (each (refs (linked (on_diagonal _ _ (let e = counted_then p ts in omega arith)))) nil) (then_left p ts limits words) hd) o o'

  pub run_same : IsTrue (ok (kept_of (run_with hook script p ts limits t))) → IsTrue (fine (kept_of (run_with look script p ts limits u))) →
      report_of limits (run_with hook script p ts limits t) ≡ report_of limits (run_with look script p ts limits u)
  unfolding run_with with_made_arguments with_arguments paying made_in then_run
  run_same o o' = begun_same _ o o'

-- ---- the run on one heap

-- a hook that looks on changes no report
looked_on_same : {T : Type 0} (look : Hook T) (script : Script) (p : Program) (ts : List (List ℕ)) (limits : Limits) (t : T) → LooksOn (λ (t : T). true) look →
    report_of limits (run_with look script p ts limits t) ≡ report_of limits (run_with nowhere script p ts limits tt)
looked_on_same {T} look script p ts limits t looks =
    run_same (λ (t : T). true) no_notes no_hold everything look nowhere script p (looking_keeps (λ (t : T). true) no_notes look nowhere script p looks) nowhere_looks (looking_fits (λ (t : T). true) no_notes look nowhere script p looks) ts limits t tt tt refl refl

onlooker_looks : (p : Program) → LooksOn (λ (t : Invocations). true) (onlooker p.main)
unfolding onlooker
onlooker_looks p = record {
  right = record { entry = λ m args stack w t o. o; spent = λ m t o. o; called = λ m t o. o; ended = λ m e w t o. o };
  here = λ m args stack w u. (entered p.main m stack u, refl);
}

-- whatever a hook notes that looks on
always_looks : {U : Type 0} (fine : U → Bool) (look : Hook U) → LooksOn fine look → LooksOn (λ (u : U). true) look
always_looks {U} fine look looks = record {
  right = record { entry = λ m args stack w t. any_reply t (look.entry m args stack w t); spent = λ m t o. refl; called = λ m t o. refl; ended = λ m e w t o. refl };
  here = looks.here;
}
  where
    any_reply : (t : U) (x : Reply U) → WasRight (λ (u : U). true) t x
    any_reply t (Here t') = λ o. refl
    any_reply t (Answer e w t') = λ o. refl

local_same : (script : Script) (p : Program) (ts : List (List ℕ)) (limits : Limits) → local script p ts limits ≡ report_of limits (run_with nowhere script p ts limits tt)
unfolding local onlooked
local_same script p ts limits = looked_on_same (onlooker p.main) script p ts limits (opening_invocations p.main) (onlooker_looks p)

pub report_is_local : {T U : Type 0} (ok : T → Bool) (fine : U → Bool) (Holds : T → U → List ℕ → Type 0) (K : ℕ → Bool) (hook : Hook T) (look : Hook U) (script : Script) (p : Program) → Keeps ok fine Holds K hook look script p → LooksOn fine look →
    HookFits ok fine Holds K hook look script p → ReportIsLocal ok fine Holds hook look script p
report_is_local ok fine Holds K hook look script p keeps looks fits ts limits t u hd o o' =
    run_same ok fine Holds K hook look script p keeps looks fits ts limits t u hd o o' ∙ looked_on_same look script p ts limits u (always_looks fine look looks) ∙ sym (local_same script p ts limits)
