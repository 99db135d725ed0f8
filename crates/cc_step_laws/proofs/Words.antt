-- What a world has left of words, and what its objects and events take, have one sum throughout.
use Rattle.std.proofs.Common.{◌≡◌, ℕ, zero, suc, ◌+◌, List, [], ◌∷◌, ◌++◌, Bool, true, false, Option, Some, None, refl, sym, ap, ◌∙◌, arith, cond, nat_lt, slice_get, slice_set, length, sum_by}
use Rattle.std.proofs.lemmas.List.{length-append}
use Rattle.std.proofs.lemmas.List.Sums.{sum_by-cons, sum_by_push}
use Rattle.cc_meaning.specs.declared.program.Program.{Program}
use Rattle.cc_meaning.specs.declared.report.Answer.{Answer}
use Rattle.cc_meaning.specs.declared.report.Answer.TheVariants as answer
use Rattle.cc_meaning.specs.declared.report.Arg.{Arg}
use Rattle.cc_meaning.specs.declared.report.Event.{Event}
use Rattle.cc_meaning.specs.declared.report.Event.TheVariants as event
use Rattle.cc_meaning.specs.declared.script.Script.{Script}
use Rattle.cc_meaning.specs.declared.value.Object.{Object}
use Rattle.cc_meaning.specs.declared.value.Object.TheVariants as object
use Rattle.cc_meaning.specs.declared.value.Value.{Value}
use Rattle.cc_meaning.specs.Words.{words_of, words_of_event}
use Rattle.cc_meaning_world.specs.World.{World}
use Rattle.cc_meaning_world.specs.Layouts.{new_object}
use Rattle.cc_meaning_world.specs.Changes.{less_by, with_instructions, with_words, with_statuses, with_object, with_object_at, values_set, rebuilt, with_value, put_in, more_units, with_static, number_for, with_literal, with_constant, with_event, cursor_at, with_answer}
use Rattle.cc_meaning_world.specs.Scripts.{class_asked, free_answer, NextAnswer, Gives, Ended, Other, next_answer}
use Rattle.cc_meaning_world.specs.Recorded.{args_of, made_by, words_made, words_recorded}
use Rattle.cc_meaning_world.specs.Acts.{Act, Done, Make, Look, ClassOf, Put, Append, GetStatic, PutStatic, Literal, ClassConstant, Ask, Tell, Reached, arrived, pay, paying, found, noted, units_of, or_make, given, freely, answered, asked, run_act}
use Rattle.cc_meaning_exec.specs.Eval.{Ran, ran, Reply, Here, Answer as Taken, Hook}
use Rattle.cc_meaning_exec.specs.Laws.{words_held, KeepsWords, HookConserves, ActConserves, Conserves, ran_world}
use Rattle.cc_step_laws.proofs.Carried.{Carries, ReplyCarries, Comes, eval_comes}

-- ---- sums

what_is : {A : Type 0} → A → Option A → A
what_is x None = x
what_is x (Some y) = y

same_some : {A : Type 0} (x y : A) → Some x ≡ Some y → x ≡ y
unfolding what_is
same_some x y e = ap (what_is x) e

regroup : (a b c : ℕ) → a + (b + c) ≡ (a + b) + c
regroup a b c = omega arith

first_more : (a b c d more : ℕ) → c ≡ a → d ≡ a + more → d + b ≡ (c + b) + more
first_more a b c d more h k = omega arith

-- one element differs, by so much more
sum_set : {A : Type 0} (f : A → ℕ) (xs : List A) (i : ℕ) (x y : A) (more : ℕ) → slice_get xs i ≡ Some x → f y ≡ f x + more → sum_by f (slice_set xs i y) ≡ sum_by f xs + more
sum_set f [] i x y more e h = cc
sum_set f (z ∷ xs) zero x y more e h =
    sum_by-cons f y xs ∙ (first_more (f x) (sum_by f xs) (f z) (f y) more (ap f (same_some z x e)) h ∙ ap (λ k. k + more) (sym (sum_by-cons f z xs)))
sum_set f (z ∷ xs) (suc i) x y more e h =
    sum_by-cons f z (slice_set xs i y) ∙ (ap (λ k. f z + k) (sum_set f xs i x y more e h) ∙ (regroup (f z) (sum_by f xs) more ∙ ap (λ k. k + more) (sym (sum_by-cons f z xs))))

-- ---- what is paid

-- the sum, and that with so many words taken that nothing stands for yet
abbrev Holds : ℕ → World → Type 0
Holds n w = words_held w ≡ n

abbrev Owes : (n k : ℕ) → World → Type 0
Owes n k w = words_held w + k ≡ n

less_is : (k n m : ℕ) → less_by k n ≡ Some m → n ≡ m + k
unfolding less_by
less_is zero n m e = let h = same_some n m e in omega arith
less_is (suc k) zero m e = cc
less_is (suc k) (suc n) m e = let h = less_is k n m e in omega arith

module _ (script : Script) (p : Program) (n : ℕ) where
  pay_holds : (k : ℕ) (w : World) (o : Option ℕ) → less_by k w.counters.words ≡ o → (go : World → Reached) → Holds n w → ((m : ℕ) → Owes n k (with_words w m) → Holds n (go (with_words w m)).world) →
      Holds n (pay o w go).world
  unfolding pay arrived with_words
  pay_holds k w None e go h f = h
  pay_holds k w (Some m) e go h f = f m (let a = less_is k w.counters.words m e in omega arith)

  paying_holds : (k : ℕ) (w : World) (go : World → Reached) → Holds n w → ((m : ℕ) → Owes n k (with_words w m) → Holds n (go (with_words w m)).world) → Holds n (paying k w go).world
  unfolding paying
  paying_holds k w go h f = pay_holds k w (less_by k w.counters.words) refl go h f

  found_holds : {A : Type 0} (o : Option A) (w : World) (go : A → Reached) → Holds n w → ((x : A) → o ≡ Some x → Holds n (go x).world) → Holds n (found o w go).world
  unfolding found arrived
  found_holds None w go h f = h
  found_holds (Some x) w go h f = f x refl

  -- an object that was paid comes behind the others
  object_holds : (w : World) (o : Object) → Owes n (words_of o) w → Holds n (with_object w o)
  unfolding with_object
  object_holds w o h = let a = sum_by_push words_of w.objects o in omega arith

  event_holds : (w : World) (k : ℕ) (e : Event) → Owes n (words_of_event e + k) w → Owes n k (with_event w e)
  unfolding with_event
  event_holds w k e h = let a = sum_by_push words_of_event w.events e in omega arith

  made_holds : (known : Option ℕ) (o : Object) (note : World → ℕ → World) (w : World) (go : ℕ → World → Reached) → ((w' : World) (x : ℕ) → Holds n w' → Holds n (note w' x)) → Holds n w →
      ((x : ℕ) (w' : World) → Holds n w' → Holds n (go x w').world) → Holds n (or_make known o note w go).world
  unfolding or_make
  made_holds (Some x) o note w go notes h f = f x w h
  made_holds None o note w go notes h f = paying_holds (words_of o) w _ h (λ m owes. f _ _ (notes _ _ (object_holds (with_words w m) o owes)))

  -- ---- scripted calls

  given_holds : (go : Option Value → World → Reached) (a : Answer) (w : World) → Owes n (words_made p a) w → ((v : Option Value) (w' : World) → Holds n w' → Holds n (go v w').world) →
      Holds n (given p go a w).world
  unfolding given arrived words_made made_by
  given_holds go answer.Nothing w h f = f _ _ (omega arith)
  given_holds go (answer.Int x) w h f = f _ _ (omega arith)
  given_holds go (answer.Long x) w h f = f _ _ (omega arith)
  given_holds go answer.Null w h f = f _ _ (omega arith)
  given_holds go (answer.Text units) w h f = f _ _ (object_holds w (object.Text units) (omega arith))
  given_holds go (answer.Instance class) w h f = f _ _ (object_holds w (new_object p class) (omega arith))
  given_holds go (answer.Throws class) w h f = object_holds w (new_object p class) (omega arith)

  with_answer_holds : (w : World) (class m : ℕ) (args : List Arg) (a : Answer) → Owes n (words_recorded p m args a) w → Owes n (words_made p a) (with_answer w class m args a)
  unfolding with_answer words_recorded
  with_answer_holds w class m args a h = let s = sum_by_push words_of_event w.events (event.Call m args a) in omega arith

  answered_holds : (go : Option Value → World → Reached) (class m : ℕ) (args : List Arg) (w : World) (next : NextAnswer) → Holds n w → ((v : Option Value) (w' : World) → Holds n w' → Holds n (go v w').world) →
      Holds n (answered p go class m args w next).world
  unfolding answered arrived
  answered_holds go class m args w (Gives a) h f =
      paying_holds (words_recorded p m args a) w _ h (λ x owes. given_holds go a _ (with_answer_holds (with_words w x) class m args a owes) f)
  answered_holds go class m args w Ended h f = h
  answered_holds go class m args w (Other other) h f = h

  asked_holds : (go : Option Value → World → Reached) (m : ℕ) (args : List Value) (w : World) (free : Option Answer) → Holds n w → ((v : Option Value) (w' : World) → Holds n w' → Holds n (go v w').world) →
      Holds n (asked script p go m args w free).world
  unfolding asked freely noted
  asked_holds go m args w (Some a) h f = paying_holds (words_made p a) w _ h (λ x owes. given_holds go a (with_words w x) owes f)
  asked_holds go m args w None h f =
      found_holds (args_of p w.objects args) w _ h (λ shown e. answered_holds go (class_asked p m) m shown w (next_answer script p m (cursor_at w (class_asked p m))) h f)

  -- ---- objects that change

  set_len : (vs : List Value) (i : ℕ) (v : Value) → length (slice_set vs i v) ≡ length vs
  set_len [] i v = refl
  set_len (x ∷ vs) zero v = refl
  set_len (x ∷ vs) (suc i) v = ap suc (set_len vs i v)

  set_length : (values : List Value) (i : ℕ) (v : Value) (b : Bool) (now : List Value) → cond b (Some (slice_set values i v)) None ≡ Some now → length now ≡ length values
  set_length values i v true now e = ap length (sym (same_some (slice_set values i v) now e)) ∙ set_len values i v
  set_length values i v false now e = cc

  rebuilt_words : (form : List Value → Object) → ((vs : List Value) → words_of (form vs) ≡ 2 + length vs) → (values : List Value) (o : Option (List Value)) → ((now : List Value) → o ≡ Some now → length now ≡ length values) →
      (x : Object) → rebuilt form o ≡ Some x → words_of x ≡ 2 + length values
  unfolding rebuilt
  rebuilt_words form words values None same x e = cc
  rebuilt_words form words values (Some now) same x e = ap words_of (sym (same_some (form now) x e)) ∙ (words now ∙ ap (λ k. 2 + k) (same now refl))

  put_words : (i : ℕ) (v : Value) (o x : Object) → with_value i v o ≡ Some x → words_of x ≡ words_of o + 0
  unfolding with_value values_set
  put_words i v (object.Instance class values) x e =
      let a = rebuilt_words (object.Instance class) (λ vs. refl) values _ (λ now h. set_length values i v (nat_lt i (length values)) now h) x e in omega arith
  put_words i v (object.Array class values) x e =
      let a = rebuilt_words (object.Array class) (λ vs. refl) values _ (λ now h. set_length values i v (nat_lt i (length values)) now h) x e in omega arith
  put_words i v object.Out x e = cc
  put_words i v (object.Text units) x e = cc
  put_words i v (object.Builder units) x e = cc
  put_words i v (object.Constant class) x e = cc

  put_holds : (w : World) (a i : ℕ) (v : Value) (before : Option Object) → slice_get w.objects a ≡ before → (x : Object) → put_in i v before ≡ Some x → Holds n w → Holds n (with_object_at w a x)
  unfolding put_in with_object_at
  put_holds w a i v None e x h k = cc
  put_holds w a i v (Some o) e x h k = let s = sum_set words_of w.objects a o x 0 e (put_words i v o x h) in omega arith

  more_words : (units : List ℕ) (o : Option Object) (x : Object) → more_units units o ≡ Some x → (before : Object) × (o ≡ Some before) × (words_of x ≡ words_of before + length units)
  unfolding more_units
  more_words units None x e = cc
  more_words units (Some (object.Builder us)) x e =
      (object.Builder us, refl, ap words_of (sym (same_some (object.Builder (us ++ units)) x e)) ∙ (ap (λ k. 2 + k) (length-append us units) ∙ regroup 2 (length us) (length units)))
  more_words units (Some object.Out) x e = cc
  more_words units (Some (object.Instance class values)) x e = cc
  more_words units (Some (object.Array class values)) x e = cc
  more_words units (Some (object.Text us)) x e = cc
  more_words units (Some (object.Constant class)) x e = cc

  append_holds : (w : World) (a : ℕ) (units : List ℕ) (x : Object) → more_units units (slice_get w.objects a) ≡ Some x → Owes n (length units) w → Holds n (with_object_at w a x)
  unfolding with_object_at
  append_holds w a units x e h =
      let m = more_words units (slice_get w.objects a) x e in
      let s = sum_set words_of w.objects a m.0 x (length units) m.1 m.2 in omega arith

  more_same : (w : World) (m a : ℕ) (units : List ℕ) (x : Object) → more_units units (slice_get w.objects a) ≡ Some x → more_units units (slice_get (with_words w m).objects a) ≡ Some x
  unfolding with_words
  more_same w m a units x e = e

  -- ---- the steps of an act

  act_holds : (a : Act) (w : World) → Holds n w → Holds n (run_act script p a w).world
  unfolding run_act arrived noted with_static with_literal with_constant
  act_holds (Done o) w h = h
  act_holds (Make o k) w h = paying_holds (words_of o) w _ h (λ m owes. act_holds (k _) _ (object_holds (with_words w m) o owes))
  act_holds (Look a k) w h = found_holds (slice_get w.objects a) w _ h (λ o e. act_holds (k o) w h)
  act_holds (ClassOf a k) w h = found_holds (slice_get w.objects a) w _ h (λ o e. act_holds (k _) w h)
  act_holds (Put a i v k) w h = found_holds (put_in i v (slice_get w.objects a)) w _ h (λ x e. act_holds k _ (put_holds w a i v (slice_get w.objects a) refl x e h))
  act_holds (Append a units k) w h =
      found_holds (more_units units (slice_get w.objects a)) w _ h (λ x e. paying_holds (length units) w _ h (λ m owes. act_holds k _ (append_holds (with_words w m) a units x (more_same w m a units x e) owes)))
  act_holds (GetStatic f k) w h = found_holds (slice_get w.statics f) w _ h (λ v e. act_holds (k v) w h)
  act_holds (PutStatic f v k) w h = act_holds k _ h
  act_holds (Literal text k) w h = made_holds (number_for text w.literals) (object.Text (units_of (slice_get p.texts text))) (with_literal text) w _ (λ w' x h'. h') h (λ x w' h'. act_holds (k x) w' h')
  act_holds (ClassConstant class k) w h = made_holds (number_for class w.constants) (object.Constant class) (with_constant class) w _ (λ w' x h'. h') h (λ x w' h'. act_holds (k x) w' h')
  act_holds (Ask m args k) w h = asked_holds _ m args w (free_answer script p m) h (λ v w' h'. act_holds (k v) w' h')
  act_holds (Tell m units k) w h =
      paying_holds (words_of_event (event.Print units)) w _ h (λ x owes. act_holds k _ (let b = event_holds (with_words w x) 0 (event.Print units) (omega arith) in omega arith))

pub act_conserves : (script : Script) (p : Program) → ActConserves script p
act_conserves script p a w = act_holds script p (words_held w) a w refl

-- ---- methods

abbrev SameWords : World → World → Type 0
SameWords a b = words_held b ≡ words_held a

words_carry : (script : Script) (p : Program) → Carries script p SameWords
unfolding with_instructions with_statuses
words_carry script p = record {
  still = λ w. refl;
  joined = λ a b c h k. k ∙ h;
  acts = λ act w. act_conserves script p act w;
  spends = λ w k. refl;
  statuses = λ w ss. refl;
}

reply_carries : {T : Type 0} (w : World) (x : Reply T) → KeepsWords (words_held w) x → ReplyCarries SameWords w x
reply_carries w (Here t) h = tt
reply_carries w (Taken e w' t) h = h

ran_same : {T : Type 0} (w : World) (r : Ran T) → Comes SameWords w r → words_held (ran_world r) ≡ words_held w
ran_same w (ran e w' t) h = h

pub conserves : {T : Type 0} (hook : Hook T) (script : Script) (p : Program) → HookConserves hook → Conserves hook script p
conserves hook script p keeps n f w t =
    ran_same w _ (eval_comes script p SameWords (words_carry script p) hook (λ m args stack w' t'. reply_carries w' _ (keeps m args stack w' t')) n f w t)
