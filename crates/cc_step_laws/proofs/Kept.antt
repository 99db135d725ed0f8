-- The steps of an act change neither the instructions left nor the statuses of classes.
use Rattle.std.proofs.Common.{ℕ, List, Option, Some, None, length, slice_get}
use Rattle.cc_meaning.specs.declared.program.Program.{Program}
use Rattle.cc_meaning.specs.declared.report.Answer.{Answer}
use Rattle.cc_meaning.specs.declared.report.Answer.TheVariants as answer
use Rattle.cc_meaning.specs.declared.report.Arg.{Arg}
use Rattle.cc_meaning.specs.declared.report.Event.TheVariants as event
use Rattle.cc_meaning.specs.declared.script.Script.{Script}
use Rattle.cc_meaning.specs.declared.value.Object.{Object}
use Rattle.cc_meaning.specs.declared.value.Object.TheVariants as object
use Rattle.cc_meaning.specs.declared.value.Value.{Value}
use Rattle.cc_meaning.specs.Words.{words_of, words_of_event}
use Rattle.cc_meaning_world.specs.World.{World}
use Rattle.cc_meaning_world.specs.Changes.{less_by, with_words, with_object, with_object_at, put_in, more_units, with_static, number_for, with_literal, with_constant, with_event, cursor_at, with_answer}
use Rattle.cc_meaning_world.specs.Scripts.{class_asked, free_answer, NextAnswer, Gives, Ended, Other, next_answer}
use Rattle.cc_meaning_world.specs.Recorded.{args_of, words_made, words_recorded}
use Rattle.cc_meaning_world.specs.Acts.{Act, Done, Make, Look, ClassOf, Put, Append, GetStatic, PutStatic, Literal, ClassConstant, Ask, Tell, Reached, arrived, pay, paying, found, noted, units_of, or_make, given, freely, answered, asked, run_act}

-- what holds of the instructions left and the statuses of a world
abbrev pub Holds : (ℕ → List ℕ → Type 0) → World → Type 0
Holds P w = P w.counters.instructions w.counters.statuses

module _ (P : ℕ → List ℕ → Type 0) (script : Script) (p : Program) where
  pay_kept : (o : Option ℕ) (w : World) (go : World → Reached) → Holds P w → ((w' : World) → Holds P w' → Holds P (go w').world) → Holds P (pay o w go).world
  unfolding pay arrived with_words
  pay_kept None w go h k = h
  pay_kept (Some n) w go h k = k _ h

  paying_kept : (n : ℕ) (w : World) (go : World → Reached) → Holds P w → ((w' : World) → Holds P w' → Holds P (go w').world) → Holds P (paying n w go).world
  unfolding paying
  paying_kept n w go h k = pay_kept (less_by n w.counters.words) w go h k

  found_kept : {A : Type 0} (o : Option A) (w : World) (go : A → Reached) → Holds P w → ((x : A) → Holds P (go x).world) → Holds P (found o w go).world
  unfolding found arrived
  found_kept None w go h k = h
  found_kept (Some x) w go h k = k x

  made_kept : (known : Option ℕ) (o : Object) (note : World → ℕ → World) (w : World) (go : ℕ → World → Reached) → ((w' : World) (n : ℕ) → Holds P w' → Holds P (note w' n)) → Holds P w →
      ((n : ℕ) (w' : World) → Holds P w' → Holds P (go n w').world) → Holds P (or_make known o note w go).world
  unfolding or_make with_object
  made_kept (Some n) o note w go notes h k = k n w h
  made_kept None o note w go notes h k = paying_kept (words_of o) w _ h (λ w' h'. k _ _ (notes _ _ h'))

  given_kept : (go : Option Value → World → Reached) (a : Answer) (w : World) → Holds P w → ((v : Option Value) (w' : World) → Holds P w' → Holds P (go v w').world) → Holds P (given p go a w).world
  unfolding given arrived with_object
  given_kept go answer.Nothing w h k = k _ _ h
  given_kept go (answer.Int n) w h k = k _ _ h
  given_kept go (answer.Long n) w h k = k _ _ h
  given_kept go answer.Null w h k = k _ _ h
  given_kept go (answer.Text units) w h k = k _ _ h
  given_kept go (answer.Instance class) w h k = k _ _ h
  given_kept go (answer.Throws class) w h k = h

  answered_kept : (go : Option Value → World → Reached) (class m : ℕ) (args : List Arg) (w : World) (next : NextAnswer) → Holds P w → ((v : Option Value) (w' : World) → Holds P w' → Holds P (go v w').world) →
      Holds P (answered p go class m args w next).world
  unfolding answered arrived with_answer with_event
  answered_kept go class m args w (Gives a) h k = paying_kept (words_recorded p m args a) w _ h (λ w' h'. given_kept go a _ h' k)
  answered_kept go class m args w Ended h k = h
  answered_kept go class m args w (Other other) h k = h

  asked_kept : (go : Option Value → World → Reached) (m : ℕ) (args : List Value) (w : World) (free : Option Answer) → Holds P w → ((v : Option Value) (w' : World) → Holds P w' → Holds P (go v w').world) →
      Holds P (asked script p go m args w free).world
  unfolding asked freely noted
  asked_kept go m args w (Some a) h k = paying_kept (words_made p a) w _ h (λ w' h'. given_kept go a w' h' k)
  asked_kept go m args w None h k =
      found_kept (args_of p w.objects args) w _ h (λ shown. answered_kept go (class_asked p m) m shown w (next_answer script p m (cursor_at w (class_asked p m))) h k)

  pub run_kept : (a : Act) (w : World) → Holds P w → Holds P (run_act script p a w).world
  unfolding run_act arrived noted with_object with_object_at with_static with_literal with_constant with_event
  run_kept (Done o) w h = h
  run_kept (Make o k) w h = paying_kept (words_of o) w _ h (λ w' h'. run_kept (k _) _ h')
  run_kept (Look a k) w h = found_kept (slice_get w.objects a) w _ h (λ o. run_kept (k o) w h)
  run_kept (ClassOf a k) w h = found_kept (slice_get w.objects a) w _ h (λ o. run_kept (k _) w h)
  run_kept (Put a i v k) w h = found_kept (put_in i v (slice_get w.objects a)) w _ h (λ o. run_kept k _ h)
  run_kept (Append a units k) w h = found_kept (more_units units (slice_get w.objects a)) w _ h (λ o. paying_kept (length units) w _ h (λ w' h'. run_kept k _ h'))
  run_kept (GetStatic f k) w h = found_kept (slice_get w.statics f) w _ h (λ v. run_kept (k v) w h)
  run_kept (PutStatic f v k) w h = run_kept k _ h
  run_kept (Literal text k) w h = made_kept (number_for text w.literals) (object.Text (units_of (slice_get p.texts text))) (with_literal text) w _ (λ w' n h'. h') h (λ n w' h'. run_kept (k n) w' h')
  run_kept (ClassConstant class k) w h = made_kept (number_for class w.constants) (object.Constant class) (with_constant class) w _ (λ w' n h'. h') h (λ n w' h'. run_kept (k n) w' h')
  run_kept (Ask m args k) w h = asked_kept _ m args w (free_answer script p m) h (λ v w' h'. run_kept (k v) w' h')
  run_kept (Tell m units k) w h = paying_kept (words_of_event (event.Print units)) w _ h (λ w' h'. run_kept k _ h')
