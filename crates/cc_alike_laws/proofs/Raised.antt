-- New exceptions, the static values of a class and starts that fail, from worlds that are alike.
use Rattle.std.proofs.Common.{◌≡◌, ℕ, ◌≤◌, Bool, true, false, List, [], ◌∷◌, length, Option, refl, sym, ap, subst, arith, slice_get}
use Rattle.cc_meaning.specs.declared.program.Catch.{Catch}
use Rattle.cc_meaning.specs.declared.program.Program.{Program}
use Rattle.cc_meaning.specs.declared.program.StaticValue.{StaticValue}
use Rattle.cc_meaning.specs.declared.program.StaticValue.TheVariants as static
use Rattle.cc_meaning.specs.declared.script.Script.{Script}
use Rattle.cc_meaning.specs.declared.value.Object.{Object}
use Rattle.cc_meaning.specs.BuiltIn.{stack_overflow_error_name, exception_in_initializer_error_name, no_class_def_found_error_name}
use Rattle.cc_meaning_world.specs.World.{World, Counters}
use Rattle.cc_meaning_world.specs.Changes.{with_status, with_statuses}
use Rattle.cc_meaning_world.specs.Acts.{Outcome, Act, run_act}
use Rattle.cc_meaning_exec.specs.Exceptions.{End, Raised, end_of, raised_by, new_exception, overflow, handler_of}
use Rattle.cc_meaning_exec.specs.Starts.{failed, climb_up, climb_from, put_values, values_act, put_statics, with_failed, failed_with, all_fail, is_error_in, wrapped_if, wrapped, start_failed, start_refused}
use Rattle.cc_meaning_alike.specs.Maps.{Map, In, Extends}
use Rattle.cc_meaning_alike.specs.Worlds.{nulls, linked, ints, longs, refs, neither, BothObjects, two, Start, Pair}
use Rattle.cc_meaning_alike.specs.Acts.{AlikeOutcome, nexts, enters, returns, throws, stops, stuck, AlikeAct, done, put_static, literal}
use Rattle.cc_meaning_alike.specs.Ends.{AlikeEnd, both_return, both_throw, both_stop, both_jam}
use Rattle.cc_alike_laws.proofs.Maps.{same_sort}
use Rattle.cc_alike_laws.proofs.Worlds.{status_kept, failed_kept}
use Rattle.cc_alike_laws.proofs.Runs.{run_alike}
use Rattle.cc_alike_laws.proofs.Pieces.{throw_alike}
use Rattle.cc_alike_laws.proofs.Quiet.{run_left, Quiet, quiet_within, throw_quiet, values_quiet}

-- ---- what is read of an exception

pub handler_same : {f : Map} {x1 x2 : Option Object} (p : Program) (catches : List Catch) → BothObjects f x1 x2 → handler_of p catches x1 ≡ handler_of p catches x2
unfolding handler_of
handler_same p catches (two r) = rw (same_sort r) refl

error_same : {f : Map} {x1 x2 : Option Object} (p : Program) → BothObjects f x1 x2 → is_error_in p x1 ≡ is_error_in p x2
unfolding is_error_in
error_same p (two r) = rw (same_sort r) refl

-- the same classes are to be started
pub climbed_same : (p : Program) (class : Option ℕ) (w1 w2 : World) → w1.counters ≡ w2.counters → climb_from p class w1 ≡ climb_from p class w2
unfolding climb_from
climbed_same p class w1 w2 e = ap (λ (c : Counters). climb_up p (length p.classes) class [] c.statuses) e

-- ---- ends

end_alike : {f : Map} {o1 o2 : Outcome} → AlikeOutcome f o1 o2 → AlikeEnd f (end_of o1) (end_of o2)
unfolding end_of
end_alike (returns v) = both_return v
end_alike (throws i) = both_throw i
end_alike stops = both_stop
end_alike (nexts l) = both_jam
end_alike (enters vs) = both_jam
end_alike stuck = both_jam

put_values_alike : {f : Map} (p : Program) (fs : List ℕ) (vs : List StaticValue) → AlikeAct p f (put_values fs vs) (put_values fs vs)
unfolding put_values
put_values_alike p (i ∷ fs) (static.Int n ∷ vs) = put_static ints (put_values_alike p fs vs)
put_values_alike p (i ∷ fs) (static.Long n ∷ vs) = put_static longs (put_values_alike p fs vs)
put_values_alike p (i ∷ fs) (static.Null ∷ vs) = put_static (refs nulls) (put_values_alike p fs vs)
put_values_alike p (i ∷ fs) (static.Text text ∷ vs) = literal (λ g a b e j. put_static (refs (linked j)) (put_values_alike p fs vs))
put_values_alike p [] vs = done (returns neither)
put_values_alike p (i ∷ fs) [] = done (returns neither)

values_alike : {f : Map} (p : Program) (class : ℕ) → AlikeAct p f (values_act p class) (values_act p class)
unfolding values_act
values_alike p class = put_values_alike p _ _

-- alike ends in worlds that are alike; no more than n instructions are left, and the cursors are these
pub record RaisedAlike (K : ℕ → Bool) (s : Start) (f : Map) (n : ℕ) (cs : List ℕ) (r1 r2 : Raised) : Type 0 where
  pub map : Map
  pub extends : Extends f map
  pub ends : AlikeEnd map r1.end r2.end
  pub pair : Pair K s map r1.world r2.world
  pub within : r2.world.counters.instructions ≤ n
  pub stays : r1.world.cursors ≡ cs

module _ (K : ℕ → Bool) (script : Script) (p : Program) (s : Start) (f : Map) (n : ℕ) where
  act_raised : (a : Act) (w1 w2 : World) → AlikeAct p f a a → Quiet w1.cursors (run_act script p a w1) → Pair K s f w1 w2 → w2.counters.instructions ≤ n →
      RaisedAlike K s f n w1.cursors (raised_by (run_act script p a w1)) (raised_by (run_act script p a w2))
  unfolding raised_by
  act_raised a w1 w2 h quiet q le =
      let r = run_alike K script p s h w1 w2 q (quiet_within K script p quiet) in
      let left = run_left w2.counters.instructions script p a w2 refl in
      record { map = r.map; extends = r.extends; ends = end_alike r.outcomes; pair = r.pair; within = omega arith; stays = quiet.stays }

  exception_raised : (name : List ℕ) (w1 w2 : World) → Pair K s f w1 w2 → w2.counters.instructions ≤ n → RaisedAlike K s f n w1.cursors (new_exception script p name w1) (new_exception script p name w2)
  unfolding new_exception
  exception_raised name w1 w2 q le = act_raised _ w1 w2 (throw_alike p name) (throw_quiet script p w1.cursors name w1 refl) q le

  pub overflow_raised : (w1 w2 : World) → Pair K s f w1 w2 → w2.counters.instructions ≤ n → RaisedAlike K s f n w1.cursors (overflow script p w1) (overflow script p w2)
  unfolding overflow
  overflow_raised w1 w2 q le = exception_raised stack_overflow_error_name w1 w2 q le

  pub statics_raised : (class : ℕ) (w1 w2 : World) → Pair K s f w1 w2 → w2.counters.instructions ≤ n → RaisedAlike K s f n w1.cursors (put_statics script p class w1) (put_statics script p class w2)
  unfolding put_statics
  statics_raised class w1 w2 q le = act_raised _ w1 w2 (values_alike p class) (values_quiet script p w1.cursors class w1 refl) q le

  -- ---- starts that fail

  failed_raised : (cs : List ℕ) (cursors : List ℕ) (g : Map) (w1 w2 : World) {e1 e2 : End} → Extends f g → AlikeEnd g e1 e2 → Pair K s g w1 w2 → w2.counters.instructions ≤ n → w1.cursors ≡ cursors →
      RaisedAlike K s f n cursors (failed_with cs e1 w1) (failed_with cs e2 w2)
  unfolding failed_with with_failed with_statuses
  failed_raised cs cursors g w1 w2 e (both_throw i) q le c = record { map = g; extends = e; ends = both_throw i; pair = failed_kept q cs; within = le; stays = c }
  failed_raised cs cursors g w1 w2 e (both_return v) q le c = record { map = g; extends = e; ends = both_return v; pair = q; within = le; stays = c }
  failed_raised cs cursors g w1 w2 e both_stop q le c = record { map = g; extends = e; ends = both_stop; pair = q; within = le; stays = c }
  failed_raised cs cursors g w1 w2 e both_jam q le c = record { map = g; extends = e; ends = both_jam; pair = q; within = le; stays = c }

  all_raised : (cs : List ℕ) (cursors : List ℕ) (r1 r2 : Raised) → RaisedAlike K s f n cursors r1 r2 → RaisedAlike K s f n cursors (all_fail cs r1) (all_fail cs r2)
  unfolding all_fail
  all_raised cs cursors r1 r2 r = failed_raised cs cursors r.map r1.world r2.world r.extends r.ends r.pair r.within r.stays

  wrapped_raised_if : (is : Bool) (a b : ℕ) (w1 w2 : World) → In f a b → Pair K s f w1 w2 → w2.counters.instructions ≤ n → RaisedAlike K s f n w1.cursors (wrapped_if is script p a w1) (wrapped_if is script p b w2)
  unfolding wrapped_if
  wrapped_raised_if true a b w1 w2 i q le = record { map = f; extends = λ x y j. j; ends = both_throw i; pair = q; within = le; stays = refl }
  wrapped_raised_if false a b w1 w2 i q le = exception_raised exception_in_initializer_error_name w1 w2 q le

  wrapped_raised : (a b : ℕ) (w1 w2 : World) → In f a b → Pair K s f w1 w2 → w2.counters.instructions ≤ n → RaisedAlike K s f n w1.cursors (wrapped script p a w1) (wrapped script p b w2)
  unfolding wrapped
  wrapped_raised a b w1 w2 i q le = subst (λ is. RaisedAlike K s f n w1.cursors (wrapped_if is script p a w1) (wrapped_if (is_error_in p (slice_get w2.objects b)) script p b w2))
      (sym (error_same p (q.alike.heap.objects a b i))) (wrapped_raised_if (is_error_in p (slice_get w2.objects b)) a b w1 w2 i q le)

  pub start_failed_raised : (class : ℕ) (cs : List ℕ) (a b : ℕ) (w1 w2 : World) → In f a b → Pair K s f w1 w2 → w2.counters.instructions ≤ n →
      RaisedAlike K s f n w1.cursors (start_failed script p class cs a w1) (start_failed script p class cs b w2)
  unfolding start_failed with_status with_statuses
  start_failed_raised class cs a b w1 w2 i q le = all_raised cs w1.cursors _ _ (wrapped_raised a b _ _ i (status_kept q class failed) le)

  pub refused_raised : (cs : List ℕ) (w1 w2 : World) → Pair K s f w1 w2 → w2.counters.instructions ≤ n → RaisedAlike K s f n w1.cursors (start_refused script p cs w1) (start_refused script p cs w2)
  unfolding start_refused
  refused_raised cs w1 w2 q le = all_raised cs w1.cursors _ _ (exception_raised no_class_def_found_error_name w1 w2 q le)
