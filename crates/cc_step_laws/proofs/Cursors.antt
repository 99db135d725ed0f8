-- The cursors of a run advance by its recorded calls alone.
use Rattle.std.proofs.Common.{◌≡◌, ℕ, zero, suc, ◌+◌, ◌==◌, List, [], ◌∷◌, ◌++◌, Bool, true, false, Option, Some, None, refl, sym, ap, ◌∙◌, arith, cond, slice_get, slice_set, length, unwrap_or, append_assoc, eq-eqb, eqb-true, true≢false}
use Rattle.std.proofs.lemmas.List.{append-nil}
use Rattle.cc_meaning.specs.declared.program.Program.{Program}
use Rattle.cc_meaning.specs.declared.report.Answer.{Answer}
use Rattle.cc_meaning.specs.declared.report.Answer.TheVariants as answer
use Rattle.cc_meaning.specs.declared.report.Arg.{Arg}
use Rattle.cc_meaning.specs.declared.report.Event.{Event}
use Rattle.cc_meaning.specs.declared.report.Event.TheVariants as event
use Rattle.cc_meaning.specs.declared.script.Script.{Script}
use Rattle.cc_meaning.specs.declared.value.Object.{Object}
use Rattle.cc_meaning.specs.declared.value.Object.TheVariants as object
use Rattle.cc_meaning.specs.declared.value.Value.{Value}
use Rattle.cc_meaning.specs.Words.{words_of, words_of_event}
use Rattle.cc_meaning_world.specs.World.{World}
use Rattle.cc_meaning_world.specs.Changes.{less_by, with_instructions, with_words, with_statuses, with_object, with_object_at, put_in, more_units, with_static, number_for, with_literal, with_constant, with_event, cursor_at, with_answer}
use Rattle.cc_meaning_world.specs.Scripts.{class_asked, free_answer, NextAnswer, Gives, Ended, Other, next_answer}
use Rattle.cc_meaning_world.specs.Recorded.{args_of, words_made, words_recorded}
use Rattle.cc_meaning_world.specs.Acts.{Act, Done, Make, Look, ClassOf, Put, Append, GetStatic, PutStatic, Literal, ClassConstant, Ask, Tell, Reached, arrived, pay, paying, found, noted, units_of, or_make, given, freely, answered, asked, run_act}
use Rattle.cc_meaning_exec.specs.Eval.{Ran, ran, Reply, Here, Answer as Taken, Hook}
use Rattle.cc_meaning_exec.specs.Laws.{ran_world, answers_in, FollowsEvents, KeepsCursors, HookFollows, CursorsFollow}
use Rattle.cc_step_laws.proofs.Carried.{Carries, ReplyCarries, Comes, eval_comes}

-- ---- cursors that are set

got : ℕ → Option ℕ → ℕ
got x None = x
got x (Some y) = y

same_some : (x y : ℕ) → Some x ≡ Some y → x ≡ y
unfolding got
same_some x y e = ap (got x) e

set_same : (cs : List ℕ) (i c x : ℕ) → slice_get cs i ≡ Some c → slice_get (slice_set cs i x) i ≡ Some x
set_same [] i c x e = cc
set_same (y ∷ cs) zero c x e = refl
set_same (y ∷ cs) (suc i) c x e = set_same cs i c x e

set_other : (cs : List ℕ) (i j x : ℕ) → (i ≡ j → ⊥) → slice_get (slice_set cs i x) j ≡ slice_get cs j
set_other [] i j x h = refl
set_other (y ∷ cs) zero zero x h = absurd (h refl)
set_other (y ∷ cs) zero (suc j) x h = refl
set_other (y ∷ cs) (suc i) zero x h = refl
set_other (y ∷ cs) (suc i) (suc j) x h = set_other cs i j x (λ e. h (ap suc e))

not_same : (i j : ℕ) → (i == j) ≡ false → i ≡ j → ⊥
not_same i j e q = true≢false (sym (eq-eqb i j q) ∙ e)

-- ---- events

answers_behind : (p : Program) (class : ℕ) (xs ys : List Event) → answers_in p class (xs ++ ys) ≡ answers_in p class xs + answers_in p class ys
answers_behind p class [] ys = omega arith
answers_behind p class (event.Print units ∷ xs) ys = answers_behind p class xs ys
answers_behind p class (event.Call m args a ∷ xs) ys =
    ap (λ k. cond (class_asked p m == class) 1 0 + k) (answers_behind p class xs ys) ∙ regroup (cond (class_asked p m == class) 1 0) (answers_in p class xs) (answers_in p class ys)
  where
    regroup : (a b c : ℕ) → a + (b + c) ≡ (a + b) + c
    regroup a b c = omega arith

-- ---- from a world on

-- what events and cursors are behind those of a world
record Follows (p : Program) (before : World) (events : List Event) (cursors : List ℕ) : Type 0 where
  added : List Event
  are : events ≡ before.events ++ added
  advanced : (class cursor : ℕ) → slice_get before.cursors class ≡ Some cursor → slice_get cursors class ≡ Some (cursor + answers_in p class added)

abbrev F : Program → World → World → Type 0
F p s w = Follows p s w.events w.cursors

begins : (p : Program) (s : World) → F p s s
begins p s = record { added = []; are = sym (append-nil s.events); advanced = λ class cursor e. e ∙ ap Some (omega arith) }

print_follows : (p : Program) (s : World) (events : List Event) (cursors units : List ℕ) → Follows p s events cursors → Follows p s (events ++ event.Print units ∷ []) cursors
print_follows p s events cursors units h = record {
  added = h.added ++ event.Print units ∷ [];
  are = ap (λ l. l ++ event.Print units ∷ []) h.are ∙ append_assoc s.events h.added (event.Print units ∷ []);
  advanced = λ class cursor e. h.advanced class cursor e ∙ ap (λ k. Some (cursor + k)) (more class);
}
  where
    more : (class : ℕ) → answers_in p class h.added ≡ answers_in p class (h.added ++ event.Print units ∷ [])
    more class = sym (answers_behind p class h.added (event.Print units ∷ []) ∙ omega arith)

-- the cursor of the class of a recorded call, or that of another class
stepped : (cursors : List ℕ) (asked class c : ℕ) (b : Bool) → (asked == class) ≡ b → slice_get cursors class ≡ Some c →
    slice_get (slice_set cursors asked (suc (unwrap_or (slice_get cursors asked) 0))) class ≡ Some (c + cond b 1 0)
stepped cursors asked class c false e h = set_other cursors asked class (suc (unwrap_or (slice_get cursors asked) 0)) (not_same asked class e) ∙ (h ∙ ap Some (omega arith))
stepped cursors asked class c true e h = here (eqb-true asked class e) h
  where
    here : asked ≡ class → slice_get cursors class ≡ Some c → slice_get (slice_set cursors asked (suc (unwrap_or (slice_get cursors asked) 0))) class ≡ Some (c + 1)
    here q g =
        ap (λ k. slice_get (slice_set cursors k (suc (unwrap_or (slice_get cursors k) 0))) class) q
        ∙ (set_same cursors class c (suc (unwrap_or (slice_get cursors class) 0)) g ∙ (ap (λ o. Some (suc (unwrap_or o 0))) g ∙ ap Some (omega arith)))

call_follows : (p : Program) (s : World) (events : List Event) (cursors : List ℕ) (m : ℕ) (args : List Arg) (a : Answer) → Follows p s events cursors →
    Follows p s (events ++ event.Call m args a ∷ []) (slice_set cursors (class_asked p m) (suc (unwrap_or (slice_get cursors (class_asked p m)) 0)))
call_follows p s events cursors m args a h = record {
  added = h.added ++ event.Call m args a ∷ [];
  are = ap (λ l. l ++ event.Call m args a ∷ []) h.are ∙ append_assoc s.events h.added (event.Call m args a ∷ []);
  advanced = λ class cursor e. stepped cursors (class_asked p m) class (cursor + answers_in p class h.added) (class_asked p m == class) refl (h.advanced class cursor e) ∙ ap Some (more class cursor);
}
  where
    regroup : (a b c : ℕ) → a + b + c ≡ a + (b + (c + 0))
    regroup a b c = omega arith

    more : (class cursor : ℕ) → cursor + answers_in p class h.added + cond (class_asked p m == class) 1 0 ≡ cursor + answers_in p class (h.added ++ event.Call m args a ∷ [])
    more class cursor =
        regroup cursor (answers_in p class h.added) (cond (class_asked p m == class) 1 0)
        ∙ ap (λ k. cursor + k) (sym (answers_behind p class h.added (event.Call m args a ∷ [])))

module _ (script : Script) (p : Program) (s : World) where
  pay_follows : (o : Option ℕ) (w : World) (go : World → Reached) → F p s w → ((w' : World) → F p s w' → F p s (go w').world) → F p s (pay o w go).world
  unfolding pay arrived with_words
  pay_follows None w go h k = h
  pay_follows (Some n) w go h k = k _ h

  paying_follows : (n : ℕ) (w : World) (go : World → Reached) → F p s w → ((w' : World) → F p s w' → F p s (go w').world) → F p s (paying n w go).world
  unfolding paying
  paying_follows n w go h k = pay_follows (less_by n w.counters.words) w go h k

  found_follows : {A : Type 0} (o : Option A) (w : World) (go : A → Reached) → F p s w → ((x : A) → F p s (go x).world) → F p s (found o w go).world
  unfolding found arrived
  found_follows None w go h k = h
  found_follows (Some x) w go h k = k x

  made_follows : (known : Option ℕ) (o : Object) (note : World → ℕ → World) (w : World) (go : ℕ → World → Reached) → ((w' : World) (n : ℕ) → F p s w' → F p s (note w' n)) → F p s w →
      ((n : ℕ) (w' : World) → F p s w' → F p s (go n w').world) → F p s (or_make known o note w go).world
  unfolding or_make with_object
  made_follows (Some n) o note w go notes h k = k n w h
  made_follows None o note w go notes h k = paying_follows (words_of o) w _ h (λ w' h'. k _ _ (notes _ _ h'))

  given_follows : (go : Option Value → World → Reached) (a : Answer) (w : World) → F p s w → ((v : Option Value) (w' : World) → F p s w' → F p s (go v w').world) → F p s (given p go a w).world
  unfolding given arrived with_object
  given_follows go answer.Nothing w h k = k _ _ h
  given_follows go (answer.Int n) w h k = k _ _ h
  given_follows go (answer.Long n) w h k = k _ _ h
  given_follows go answer.Null w h k = k _ _ h
  given_follows go (answer.Text units) w h k = k _ _ h
  given_follows go (answer.Instance class) w h k = k _ _ h
  given_follows go (answer.Throws class) w h k = h

  recorded_follows : (w : World) (m : ℕ) (args : List Arg) (a : Answer) → F p s w → F p s (with_answer w (class_asked p m) m args a)
  unfolding with_answer cursor_at
  recorded_follows w m args a h = call_follows p s w.events w.cursors m args a h

  answered_follows : (go : Option Value → World → Reached) (m : ℕ) (args : List Arg) (w : World) (next : NextAnswer) → F p s w → ((v : Option Value) (w' : World) → F p s w' → F p s (go v w').world) →
      F p s (answered p go (class_asked p m) m args w next).world
  unfolding answered arrived
  answered_follows go m args w (Gives a) h k = paying_follows (words_recorded p m args a) w _ h (λ w' h'. given_follows go a _ (recorded_follows w' m args a h') k)
  answered_follows go m args w Ended h k = h
  answered_follows go m args w (Other other) h k = h

  asked_follows : (go : Option Value → World → Reached) (m : ℕ) (args : List Value) (w : World) (free : Option Answer) → F p s w → ((v : Option Value) (w' : World) → F p s w' → F p s (go v w').world) →
      F p s (asked script p go m args w free).world
  unfolding asked freely noted
  asked_follows go m args w (Some a) h k = paying_follows (words_made p a) w _ h (λ w' h'. given_follows go a w' h' k)
  asked_follows go m args w None h k =
      found_follows (args_of p w.objects args) w _ h (λ shown. answered_follows go m shown w (next_answer script p m (cursor_at w (class_asked p m))) h k)

  act_follows : (a : Act) (w : World) → F p s w → F p s (run_act script p a w).world
  unfolding run_act arrived noted with_object with_object_at with_static with_literal with_constant with_event
  act_follows (Done o) w h = h
  act_follows (Make o k) w h = paying_follows (words_of o) w _ h (λ w' h'. act_follows (k _) _ h')
  act_follows (Look a k) w h = found_follows (slice_get w.objects a) w _ h (λ o. act_follows (k o) w h)
  act_follows (ClassOf a k) w h = found_follows (slice_get w.objects a) w _ h (λ o. act_follows (k _) w h)
  act_follows (Put a i v k) w h = found_follows (put_in i v (slice_get w.objects a)) w _ h (λ o. act_follows k _ h)
  act_follows (Append a units k) w h = found_follows (more_units units (slice_get w.objects a)) w _ h (λ o. paying_follows (length units) w _ h (λ w' h'. act_follows k _ h'))
  act_follows (GetStatic f k) w h = found_follows (slice_get w.statics f) w _ h (λ v. act_follows (k v) w h)
  act_follows (PutStatic f v k) w h = act_follows k _ h
  act_follows (Literal text k) w h = made_follows (number_for text w.literals) (object.Text (units_of (slice_get p.texts text))) (with_literal text) w _ (λ w' n h'. h') h (λ n w' h'. act_follows (k n) w' h')
  act_follows (ClassConstant class k) w h = made_follows (number_for class w.constants) (object.Constant class) (with_constant class) w _ (λ w' n h'. h') h (λ n w' h'. act_follows (k n) w' h')
  act_follows (Ask m args k) w h = asked_follows _ m args w (free_answer script p m) h (λ v w' h'. act_follows (k v) w' h')
  act_follows (Tell m units k) w h = paying_follows (words_of_event (event.Print units)) w _ h (λ w' h'. act_follows k _ (print_follows p s w'.events w'.cursors units h'))

-- ---- methods

follows_is : (p : Program) (a b : World) → F p a b → FollowsEvents p a b
follows_is p a b h = record { added = h.added; events = h.are; cursors = h.advanced }

joined_follows : (p : Program) (a b c : World) → FollowsEvents p a b → FollowsEvents p b c → FollowsEvents p a c
joined_follows p a b c h k = record {
  added = h.added ++ k.added;
  events = k.events ∙ (ap (λ l. l ++ k.added) h.events ∙ append_assoc a.events h.added k.added);
  cursors = λ class cursor e. k.cursors class _ (h.cursors class cursor e) ∙ ap Some (more class cursor);
}
  where
    regroup : (x y z : ℕ) → x + y + z ≡ x + (y + z)
    regroup x y z = omega arith

    more : (class cursor : ℕ) → cursor + answers_in p class h.added + answers_in p class k.added ≡ cursor + answers_in p class (h.added ++ k.added)
    more class cursor = regroup cursor (answers_in p class h.added) (answers_in p class k.added) ∙ ap (λ n. cursor + n) (sym (answers_behind p class h.added k.added))

cursors_carry : (script : Script) (p : Program) → Carries script p (FollowsEvents p)
unfolding with_instructions with_statuses
cursors_carry script p = record {
  still = λ w. follows_is p w w (begins p w);
  joined = joined_follows p;
  acts = λ act w. follows_is p w _ (act_follows script p w act w (begins p w));
  spends = λ w k. follows_is p w (with_instructions w k) (begins p w);
  statuses = λ w ss. follows_is p w (with_statuses w ss) (begins p w);
}

reply_carries : {T : Type 0} (p : Program) (w : World) (x : Reply T) → KeepsCursors p w x → ReplyCarries (FollowsEvents p) w x
reply_carries p w (Here t) h = tt
reply_carries p w (Taken e w' t) h = h

ran_follows : {T : Type 0} (p : Program) (w : World) (r : Ran T) → Comes (FollowsEvents p) w r → FollowsEvents p w (ran_world r)
ran_follows p w (ran e w' t) h = h

pub cursors_follow : {T : Type 0} (hook : Hook T) (script : Script) (p : Program) → HookFollows hook p → CursorsFollow hook script p
cursors_follow hook script p keeps n f w t =
    ran_follows p w _ (eval_comes script p (FollowsEvents p) (cursors_carry script p) hook (λ m args stack w' t'. reply_carries p w' _ (keeps m args stack w' t')) n f w t)
