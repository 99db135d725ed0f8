-- What acts leave as it was: the instructions left; and acts that attempt no call and leave the cursors.
use Rattle.std.proofs.Common.{◌≡◌, ℕ, Bool, List, [], ◌∷◌, length, Option, Some, None, refl, sym, subst}
use Rattle.cc_meaning.specs.declared.program.Program.{Program}
use Rattle.cc_meaning.specs.declared.program.StaticValue.{StaticValue}
use Rattle.cc_meaning.specs.declared.program.StaticValue.TheVariants as static
use Rattle.cc_meaning.specs.declared.report.Answer.{Answer}
use Rattle.cc_meaning.specs.declared.report.Answer.TheVariants as answer
use Rattle.cc_meaning.specs.declared.report.Arg.{Arg}
use Rattle.cc_meaning.specs.declared.script.Script.{Script}
use Rattle.cc_meaning.specs.declared.value.Object.{Object}
use Rattle.cc_meaning.specs.declared.value.Value.{Value}
use Rattle.cc_meaning.specs.Lookup.{class_named}
use Rattle.cc_meaning_world.specs.World.{World}
use Rattle.cc_meaning_world.specs.Changes.{with_words, with_object, with_object_at, with_static, with_literal, with_constant, with_event, with_answer}
use Rattle.cc_meaning_world.specs.Scripts.{NextAnswer, Gives, Ended, Other, class_asked, free_answer}
use Rattle.cc_meaning_world.specs.Acts.{Act, Done, Make, Look, ClassOf, Put, Append, GetStatic, PutStatic, Literal, ClassConstant, Ask, Tell, Reached, arrived, pay, paying, found, noted, or_make, given, freely, answered, asked, run_act}
use Rattle.cc_meaning_world.specs.Throwing.{on_some, throw_of, throw_new}
use Rattle.cc_meaning_exec.specs.Starts.{put_values, values_act}
use Rattle.cc_meaning_alike.specs.Acts.{AsksWithin}

-- ---- the instructions left

abbrev Left : ℕ → Reached → Type 0
Left n r = r.world.counters.instructions ≡ n

found_left : {A : Type 0} (n : ℕ) (x : Option A) (w : World) (go : A → Reached) → w.counters.instructions ≡ n → ((a : A) → Left n (go a)) → Left n (found x w go)
unfolding found arrived
found_left n None w go e k = e
found_left n (Some x) w go e k = k x

pay_left : (n : ℕ) (x : Option ℕ) (w : World) (go : World → Reached) → w.counters.instructions ≡ n → ((w' : World) → w'.counters.instructions ≡ n → Left n (go w')) → Left n (pay x w go)
unfolding pay with_words arrived
pay_left n None w go e k = e
pay_left n (Some x) w go e k = k _ e

or_make_left : (n : ℕ) (x : Option ℕ) (o : Object) (note : World → ℕ → World) (w : World) (go : ℕ → World → Reached) → w.counters.instructions ≡ n →
    ((w' : World) (a : ℕ) → w'.counters.instructions ≡ n → (note w' a).counters.instructions ≡ n) → ((a : ℕ) (w' : World) → w'.counters.instructions ≡ n → Left n (go a w')) → Left n (or_make x o note w go)
unfolding or_make with_object paying
or_make_left n (Some a) o note w go e kept k = k a w e
or_make_left n None o note w go e kept k = pay_left n _ w _ e (λ w' e'. k _ _ (kept _ _ e'))

noted_left : (n m : ℕ) (r : Reached) → Left n r → Left n (noted m r)
unfolding noted
noted_left n m r e = e

module _ (n : ℕ) (script : Script) (p : Program) (go : Option Value → World → Reached) (k : (v : Option Value) (w : World) → w.counters.instructions ≡ n → Left n (go v w)) where
  given_left : (x : Answer) (w : World) → w.counters.instructions ≡ n → Left n (given p go x w)
  unfolding given with_object arrived
  given_left answer.Nothing w e = k _ w e
  given_left (answer.Int i) w e = k _ w e
  given_left (answer.Long i) w e = k _ w e
  given_left answer.Null w e = k _ w e
  given_left (answer.Text units) w e = k _ _ e
  given_left (answer.Instance class) w e = k _ _ e
  given_left (answer.Throws class) w e = e

  answered_left : (class m : ℕ) (args : List Arg) (w : World) (x : NextAnswer) → w.counters.instructions ≡ n → Left n (answered p go class m args w x)
  unfolding answered paying with_answer arrived
  answered_left class m args w (Gives x) e = pay_left n _ w _ e (λ w' e'. given_left x _ e')
  answered_left class m args w Ended e = e
  answered_left class m args w (Other other) e = e

  asked_left : (m : ℕ) (vs : List Value) (w : World) (x : Option Answer) → w.counters.instructions ≡ n → Left n (asked script p go m vs w x)
  unfolding asked freely paying
  asked_left m vs w (Some x) e = pay_left n _ w _ e (λ w' e'. given_left x _ e')
  asked_left m vs w None e = noted_left n m _ (found_left n _ w _ e (λ args. answered_left (class_asked p m) m args w _ e))

pub run_left : (n : ℕ) (script : Script) (p : Program) (a : Act) (w : World) → w.counters.instructions ≡ n → (run_act script p a w).world.counters.instructions ≡ n
unfolding run_act paying arrived with_object with_object_at with_static with_event with_literal with_constant
run_left n script p (Done o) w e = e
run_left n script p (Make o k) w e = pay_left n _ w _ e (λ w' e'. run_left n script p (k (length w'.objects)) _ e')
run_left n script p (Look a k) w e = found_left n _ w _ e (λ o. run_left n script p (k o) w e)
run_left n script p (ClassOf a k) w e = found_left n _ w _ e (λ o. run_left n script p (k _) w e)
run_left n script p (Put a i v k) w e = found_left n _ w _ e (λ o. run_left n script p k _ e)
run_left n script p (Append a units k) w e = found_left n _ w _ e (λ o. pay_left n _ w _ e (λ w' e'. run_left n script p k _ e'))
run_left n script p (GetStatic f k) w e = found_left n _ w _ e (λ v. run_left n script p (k v) w e)
run_left n script p (PutStatic f v k) w e = run_left n script p k _ e
run_left n script p (Tell m units k) w e = noted_left n m _ (pay_left n _ w _ e (λ w' e'. run_left n script p k _ e'))
run_left n script p (Literal text k) w e = or_make_left n _ _ (with_literal text) w _ e (λ w' a e'. e') (λ a w' e'. run_left n script p (k a) w' e')
run_left n script p (ClassConstant class k) w e = or_make_left n _ _ (with_constant class) w _ e (λ w' a e'. e') (λ a w' e'. run_left n script p (k a) w' e')
run_left n script p (Ask m vs k) w e = asked_left n script p _ (λ v w' e'. run_left n script p (k v) w' e') m vs w (free_answer script p m) e

-- ---- acts that attempt no call

-- no call was attempted, and the cursors are these
pub record Quiet (cs : List ℕ) (r : Reached) : Type 0 where
  pub silent : r.called ≡ []
  pub stays : r.world.cursors ≡ cs

pub quiet_within : (K : ℕ → Bool) (script : Script) (p : Program) {cs : List ℕ} {r : Reached} → Quiet cs r → AsksWithin K script p r.called
quiet_within K script p q = subst (λ called. AsksWithin K script p called) (sym q.silent) tt

module _ (script : Script) (p : Program) (cs : List ℕ) where
  pay_quiet : (x : Option ℕ) (w : World) (go : World → Reached) → w.cursors ≡ cs → ((w' : World) → w'.cursors ≡ cs → Quiet cs (go w')) → Quiet cs (pay x w go)
  unfolding pay with_words arrived
  pay_quiet None w go e k = record { silent = refl; stays = e }
  pay_quiet (Some n) w go e k = k _ e

  or_make_quiet : (x : Option ℕ) (o : Object) (note : World → ℕ → World) (w : World) (go : ℕ → World → Reached) → w.cursors ≡ cs → ((w' : World) (a : ℕ) → (note w' a).cursors ≡ w'.cursors) →
      ((a : ℕ) (w' : World) → w'.cursors ≡ cs → Quiet cs (go a w')) → Quiet cs (or_make x o note w go)
  unfolding or_make with_object paying
  or_make_quiet (Some a) o note w go e kept k = k a w e
  or_make_quiet None o note w go e kept k = pay_quiet _ w _ e (λ w' e'. k _ _ (subst (λ c. c ≡ cs) (sym (kept _ _)) e'))

  thrown_quiet : (x : Option ℕ) (w : World) → w.cursors ≡ cs → Quiet cs (run_act script p (on_some x throw_of) w)
  unfolding on_some throw_of run_act paying arrived with_object
  thrown_quiet None w e = record { silent = refl; stays = e }
  thrown_quiet (Some class) w e = pay_quiet _ w _ e (λ w' e'. record { silent = refl; stays = e' })

  pub throw_quiet : (name : List ℕ) (w : World) → w.cursors ≡ cs → Quiet cs (run_act script p (throw_new p name) w)
  unfolding throw_new
  throw_quiet name w e = thrown_quiet (class_named name p) w e

  put_values_quiet : (fs : List ℕ) (vs : List StaticValue) (w : World) → w.cursors ≡ cs → Quiet cs (run_act script p (put_values fs vs) w)
  unfolding put_values run_act arrived with_static with_literal
  put_values_quiet (f ∷ fs) (static.Int n ∷ vs) w e = put_values_quiet fs vs _ e
  put_values_quiet (f ∷ fs) (static.Long n ∷ vs) w e = put_values_quiet fs vs _ e
  put_values_quiet (f ∷ fs) (static.Null ∷ vs) w e = put_values_quiet fs vs _ e
  put_values_quiet (f ∷ fs) (static.Text text ∷ vs) w e = or_make_quiet _ _ (with_literal text) w _ e (λ w' a. refl) (λ a w' e'. put_values_quiet fs vs _ e')
  put_values_quiet [] vs w e = record { silent = refl; stays = e }
  put_values_quiet (f ∷ fs) [] w e = record { silent = refl; stays = e }

  pub values_quiet : (class : ℕ) (w : World) → w.cursors ≡ cs → Quiet cs (run_act script p (values_act p class) w)
  unfolding values_act
  values_quiet class w e = put_values_quiet _ _ w e
