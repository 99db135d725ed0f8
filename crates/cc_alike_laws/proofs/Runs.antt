-- Alike steps keep two worlds alike.
use Rattle.std.proofs.Common.{◌≡◌, ℕ, ◌==◌, Bool, true, false, cond, List, [], ◌∷◌, length, Option, Some, None, refl, ap, subst, slice_get}
use Rattle.std.specs.Prelude.{option_map, IsTrue, not, ◌&&◌, ◌||◌}
use Rattle.cc_meaning.specs.declared.instruction.Kind.{Kind}
use Rattle.cc_meaning.specs.declared.instruction.Kind.TheVariants as kind
use Rattle.cc_meaning.specs.declared.program.DexType.{DexType}
use Rattle.cc_meaning.specs.declared.program.Program.{Program}
use Rattle.cc_meaning.specs.declared.report.Answer.{Answer}
use Rattle.cc_meaning.specs.declared.report.Answer.TheVariants as answer
use Rattle.cc_meaning.specs.declared.report.Arg.{Arg}
use Rattle.cc_meaning.specs.declared.report.Event.TheVariants as event
use Rattle.cc_meaning.specs.declared.script.Script.{Script}
use Rattle.cc_meaning.specs.declared.value.Made.{Made}
use Rattle.cc_meaning.specs.declared.value.Object.{Object}
use Rattle.cc_meaning.specs.declared.value.Object.TheVariants as object
use Rattle.cc_meaning.specs.declared.value.Value.{Value}
use Rattle.cc_meaning.specs.declared.value.Value.TheVariants as value
use Rattle.cc_meaning.specs.Kinds.{kind_of, zero_of}
use Rattle.cc_meaning.specs.Lookup.{class_of_object}
use Rattle.cc_meaning.specs.Words.{words_of, words_of_event}
use Rattle.cc_meaning_world.specs.World.{World}
use Rattle.cc_meaning_world.specs.Sorts.{sort_of, type_of}
use Rattle.cc_meaning_world.specs.Layouts.{new_object, zeros, shape}
use Rattle.cc_meaning_world.specs.Changes.{less_by, with_words, with_object, number_for, with_literal, with_constant, cursor_at}
use Rattle.cc_meaning_world.specs.Scripts.{class_asked, free_answer, has_answer, is_scripted, is_stateful, NextAnswer, Gives, Ended, Other, next_answer}
use Rattle.cc_meaning_world.specs.Recorded.{shown, arg_of, args_of, words_made, words_recorded}
use Rattle.cc_meaning_world.specs.Acts.{Outcome, Throws, Act, Reached, arrived, pay, paying, found, noted, units_of, or_make, given, freely, answered, asked, run_act}
use Rattle.cc_meaning_alike.specs.Maps.{Map, link, In, here, there, Extends}
use Rattle.cc_meaning_alike.specs.Worlds.{Each, nil, each, Both, neither, both, nulls, linked, AlikeValue, ints, longs, refs, AlikeObject, outs, instances, arrays, texts, builders, constants, BothObjects, two, AlikeHeaps, AlikeMade, Start, Pair}
use Rattle.cc_meaning_alike.specs.Acts.{AlikeOutcome, throws, stops, stuck, AlikeAct, done, make, look, class_of, puts, append, get_static, put_static, tell, literal, class_constant, ask, asks_within, Reaches}
use Rattle.cc_alike_laws.proofs.Maps.{each_get, same_words, same_sort, put_both, more_both}
use Rattle.cc_alike_laws.proofs.Worlds.{words_kept, event_kept, static_kept, literal_kept, constant_kept, same_cursor, answer_kept, object_made, object_set}

-- ---- new objects

pub zero_alike : {f : Map} (k : Kind) → AlikeValue f (zero_of k) (zero_of k)
zero_alike kind.Plain = ints
zero_alike kind.Wide = longs
zero_alike kind.Object = refs nulls
zero_alike kind.Boolean = ints
zero_alike kind.Byte = ints
zero_alike kind.Char = ints
zero_alike kind.Short = ints

pub zeros_alike : {f : Map} (ts : List DexType) → Each (AlikeValue f) (zeros ts) (zeros ts)
unfolding zeros
zeros_alike [] = nil
zeros_alike (t ∷ ts) = each (zero_alike (kind_of t)) (zeros_alike ts)

pub new_alike : {f : Map} (p : Program) (class : ℕ) → AlikeObject f (new_object p class) (new_object p class)
unfolding new_object
new_alike {f} p class = by (class == _)
  where
    by : (b : Bool) → AlikeObject f (cond b (object.Builder []) (object.Instance class (zeros (shape p class)))) (cond b (object.Builder []) (object.Instance class (zeros (shape p class))))
    by true = builders
    by false = instances (zeros_alike (shape p class))

-- ---- the record of a call shows no object's number

class_same : {f : Map} (p : Program) {o1 o2 : Object} → AlikeObject f o1 o2 → class_of_object p o1 ≡ class_of_object p o2
class_same p outs = refl
class_same p (instances vs) = refl
class_same p (arrays vs) = refl
class_same p texts = refl
class_same p builders = refl
class_same p constants = refl

shown_same : {f : Map} (p : Program) {o1 o2 : Object} → AlikeObject f o1 o2 → shown p o1 ≡ shown p o2
unfolding shown
shown_same p outs = refl
shown_same p (instances vs) = refl
shown_same p (arrays vs) = refl
shown_same p texts = refl
shown_same p builders = refl
shown_same p constants = refl

both_shown : {f : Map} (p : Program) {x1 x2 : Option Object} → BothObjects f x1 x2 → option_map (shown p) x1 ≡ option_map (shown p) x2
both_shown p (two r) = ap Some (shown_same p r)

arg_same : {f : Map} (p : Program) {os1 os2 : List Object} {v1 v2 : Value} → AlikeHeaps f os1 os2 → AlikeValue f v1 v2 → arg_of p os1 v1 ≡ arg_of p os2 v2
unfolding arg_of
arg_same p h ints = refl
arg_same p h longs = refl
arg_same p h (refs nulls) = refl
arg_same p h (refs (linked i)) = both_shown p (h.objects _ _ i)

args_same : {f : Map} (p : Program) {os1 os2 : List Object} {vs1 vs2 : List Value} → AlikeHeaps f os1 os2 → Each (AlikeValue f) vs1 vs2 → args_of p os1 vs1 ≡ args_of p os2 vs2
unfolding args_of
args_same p h nil = refl
args_same p h (each v vs) = rw (arg_same p h v, args_same p h vs)

module _ (K : ℕ → Bool) (script : Script) (p : Program) (s : Start) where
  -- a step after which the map has grown
  grown_by : {f g : Map} {r1 r2 : Reached} → Extends f g → Reaches K script p s g r1 r2 → Reaches K script p s f r1 r2
  grown_by e h a = let r = h a in record { map = r.map; extends = λ a b i. r.extends a b (e a b i); outcomes = r.outcomes; pair = r.pair; called = r.called }

  ended : {f : Map} {w1 w2 : World} {o1 o2 : Outcome} → AlikeOutcome f o1 o2 → Pair K s f w1 w2 → Reaches K script p s f (arrived o1 w1) (arrived o2 w2)
  unfolding arrived
  ended {f = f} o q a = record { map = f; extends = λ a b i. i; outcomes = o; pair = q; called = refl }

  pay_alike : {f : Map} {w1 w2 : World} (go1 go2 : World → Reached) (n : ℕ) → Pair K s f w1 w2 → ((words : ℕ) → Reaches K script p s f (go1 (with_words w1 words)) (go2 (with_words w2 words))) →
      Reaches K script p s f (paying n w1 go1) (paying n w2 go2)
  unfolding paying pay
  pay_alike {f} {w1} {w2} go1 go2 n q k = subst (λ c. Reaches K script p s f (pay (less_by n w1.counters.words) w1 go1) (pay (less_by n c) w2 go2)) (ap (λ c. c.words) q.alike.counters) (cases (less_by n w1.counters.words))
    where
      cases : (x : Option ℕ) → Reaches K script p s f (pay x w1 go1) (pay x w2 go2)
      cases None = ended stops q
      cases (Some words) = k words

  found_alike : {A : Type 0} {f : Map} {w1 w2 : World} (R : A → A → Type 0) (go1 go2 : A → Reached) {x1 x2 : Option A} → Pair K s f w1 w2 → Both R x1 x2 → ((o1 o2 : A) → R o1 o2 → Reaches K script p s f (go1 o1) (go2 o2)) → Reaches K script p s f (found x1 w1 go1) (found x2 w2 go2)
  unfolding found
  found_alike R go1 go2 q neither k = ended stuck q
  found_alike R go1 go2 q (both r) k = k _ _ r

  object_alike : {f : Map} (w1 w2 : World) (go1 go2 : Object → Reached) {x1 x2 : Option Object} → BothObjects f x1 x2 → ((o1 o2 : Object) → AlikeObject f o1 o2 → Reaches K script p s f (go1 o1) (go2 o2)) → Reaches K script p s f (found x1 w1 go1) (found x2 w2 go2)
  unfolding found
  object_alike w1 w2 go1 go2 (two r) k = k _ _ r

  same_alike : {A : Type 0} {f : Map} {w1 w2 : World} (go1 go2 : A → Reached) {x1 x2 : Option A} → Pair K s f w1 w2 → x1 ≡ x2 → ((o : A) → Reaches K script p s f (go1 o) (go2 o)) → Reaches K script p s f (found x1 w1 go1) (found x2 w2 go2)
  unfolding found
  same_alike {A} {f} {w1} {w2} go1 go2 {x1} q e k = subst (λ x. Reaches K script p s f (found x1 w1 go1) (found x w2 go2)) e (cases x1)
    where
      cases : (x : Option A) → Reaches K script p s f (found x w1 go1) (found x w2 go2)
      cases None = ended stuck q
      cases (Some x) = k x

  -- ---- making

  -- what goes on with a new object
  made_alike : {f : Map} {w1 w2 : World} (o1 o2 : Object) (go1 go2 : ℕ → World → Reached) → AlikeObject f o1 o2 → Pair K s f w1 w2 →
      ((g : Map) (a b : ℕ) (u1 u2 : World) → Extends f g → In g a b → Pair K s g u1 u2 → Reaches K script p s g (go1 a u1) (go2 b u2)) →
      Reaches K script p s f (go1 (length w1.objects) (with_object w1 o1)) (go2 (length w2.objects) (with_object w2 o2))
  made_alike {f} {w1} {w2} o1 o2 go1 go2 r q k = grown_by (λ a b i. there i) (k (link (length w1.objects) (length w2.objects) f) (length w1.objects) (length w2.objects) _ _ (λ a b i. there i) here (object_made K s f w1 w2 o1 o2 q r))

  number_alike : {f : Map} (what : ℕ) {ms1 ms2 : List Made} → Each (AlikeMade f) ms1 ms2 → Both (In f) (number_for what ms1) (number_for what ms2)
  unfolding number_for
  number_alike what nil = neither
  number_alike {f} what (each {x = m1} {y = m2} {xs = ms1} {ys = ms2} m ms) = subst (λ z. Both (In f) (cond (m1.what == what) (Some m1.number) (number_for what ms1)) (cond (z == what) (Some m2.number) (number_for what ms2))) m.what (cases (m1.what == what) (number_alike what ms))
    where
      cases : (b : Bool) → Both (In f) (number_for what ms1) (number_for what ms2) → Both (In f) (cond b (Some m1.number) (number_for what ms1)) (cond b (Some m2.number) (number_for what ms2))
      cases true r = both m.number
      cases false r = r

  or_make_alike : {f : Map} {w1 w2 : World} (o : Object) (note : World → ℕ → World) (go1 go2 : ℕ → World → Reached) {x1 x2 : Option ℕ} → AlikeObject f o o → ((g : Map) (u1 u2 : World) (a b : ℕ) → Pair K s g u1 u2 → In g a b → Pair K s g (note u1 a) (note u2 b)) →
      Pair K s f w1 w2 → Both (In f) x1 x2 → ((g : Map) (a b : ℕ) (u1 u2 : World) → Extends f g → In g a b → Pair K s g u1 u2 → Reaches K script p s g (go1 a u1) (go2 b u2)) →
      Reaches K script p s f (or_make x1 o note w1 go1) (or_make x2 o note w2 go2)
  unfolding or_make
  or_make_alike {f} {w1} {w2} o note go1 go2 r kept q neither k = pay_alike _ _ (words_of o) q (λ words. made_alike o o (λ a u. go1 a (note u a)) (λ b u. go2 b (note u b)) r (words_kept q words) (λ g a b u1 u2 e i q'. k g a b _ _ e i (kept g u1 u2 a b q' i)))
  or_make_alike {f} {w1} {w2} o note go1 go2 r kept q (both i) k = k f _ _ w1 w2 (λ a b i. i) i q

  -- ---- scripted calls

  -- what is attempted is noted, and asks for no answer of a class outside K
  within_alike : {f : Map} (m : ℕ) {r1 r2 : Reached} → (IsTrue (asks_within K script p m) → Reaches K script p s f r1 r2) → Reaches K script p s f (noted m r1) (noted m r2)
  unfolding noted
  within_alike m h a = let r = h a.0 a.1 in record { map = r.map; extends = r.extends; outcomes = r.outcomes; pair = r.pair; called = ap (λ ms. m ∷ ms) r.called }

  module _ {f : Map} (go1 go2 : Option Value → World → Reached) (k : (g : Map) (v1 v2 : Option Value) (u1 u2 : World) → Extends f g → Both (AlikeValue g) v1 v2 → Pair K s g u1 u2 → Reaches K script p s g (go1 v1 u1) (go2 v2 u2)) where
    given_alike : (x : Answer) (w1 w2 : World) → Pair K s f w1 w2 → Reaches K script p s f (given p go1 x w1) (given p go2 x w2)
    unfolding given
    given_alike answer.Nothing w1 w2 q = k f _ _ w1 w2 (λ a b i. i) neither q
    given_alike (answer.Int n) w1 w2 q = k f _ _ w1 w2 (λ a b i. i) (both ints) q
    given_alike (answer.Long n) w1 w2 q = k f _ _ w1 w2 (λ a b i. i) (both longs) q
    given_alike answer.Null w1 w2 q = k f _ _ w1 w2 (λ a b i. i) (both (refs nulls)) q
    given_alike (answer.Text units) w1 w2 q = made_alike (object.Text units) (object.Text units) (λ a u. go1 (Some (value.Obj (Some a))) u) (λ a u. go2 (Some (value.Obj (Some a))) u) texts q (λ g a b u1 u2 e i q'. k g _ _ u1 u2 e (both (refs (linked i))) q')
    given_alike (answer.Instance class) w1 w2 q = made_alike (new_object p class) (new_object p class) (λ a u. go1 (Some (value.Obj (Some a))) u) (λ a u. go2 (Some (value.Obj (Some a))) u) (new_alike p class) q (λ g a b u1 u2 e i q'. k g _ _ u1 u2 e (both (refs (linked i))) q')
    given_alike (answer.Throws class) w1 w2 q = made_alike (new_object p class) (new_object p class) (λ a u. arrived (Throws a) u) (λ a u. arrived (Throws a) u) (new_alike p class) q (λ g a b u1 u2 e i q'. ended (throws i) q')

    freely_alike : (x : Answer) (w1 w2 : World) → Pair K s f w1 w2 → Reaches K script p s f (freely p go1 x w1) (freely p go2 x w2)
    unfolding freely
    freely_alike x w1 w2 q = pay_alike _ _ (words_made p x) q (λ words. given_alike x _ _ (words_kept q words))

    answered_alike : (class m : ℕ) (args : List Arg) (w1 w2 : World) (x : NextAnswer) → K class ≡ true → Pair K s f w1 w2 → Reaches K script p s f (answered p go1 class m args w1 x) (answered p go2 class m args w2 x)
    unfolding answered
    answered_alike class m args w1 w2 (Gives x) k' q = pay_alike _ _ (words_recorded p m args x) q (λ words. given_alike x _ _ (answer_kept (words_kept q words) class m args x k'))
    answered_alike class m args w1 w2 Ended k' q = ended stops q
    answered_alike class m args w1 w2 (Other other) k' q = ended stops q

    next_alike : (m : ℕ) (args : List Arg) (w1 w2 : World) → K (class_asked p m) ≡ true → Pair K s f w1 w2 →
        Reaches K script p s f (answered p go1 (class_asked p m) m args w1 (next_answer script p m (cursor_at w1 (class_asked p m)))) (answered p go2 (class_asked p m) m args w2 (next_answer script p m (cursor_at w2 (class_asked p m))))
    next_alike m args w1 w2 k' q = subst (λ c. Reaches K script p s f (answered p go1 (class_asked p m) m args w1 (next_answer script p m (cursor_at w1 (class_asked p m)))) (answered p go2 (class_asked p m) m args w2 (next_answer script p m c)))
        (same_cursor q (class_asked p m) k') (answered_alike (class_asked p m) m args w1 w2 (next_answer script p m (cursor_at w1 (class_asked p m))) k' q)

    -- a scripted method without a fixed answer asks for the next answer of its class
    asks_for : (m : ℕ) → is_scripted p m ≡ true → free_answer script p m ≡ None → IsTrue (asks_within K script p m) → K (class_asked p m) ≡ true
    unfolding asks_within is_stateful has_answer
    asks_for m e e' h = by (K (class_asked p m)) (subst (λ x. IsTrue (not (true && not (has_answer x)) || K (class_asked p m))) e' (subst (λ b. IsTrue (not (b && not (has_answer (free_answer script p m))) || K (class_asked p m))) e h))
      where
        by : (b : Bool) → IsTrue b → b ≡ true
        by b i = i

    asked_alike : {vs1 vs2 : List Value} (m : ℕ) (w1 w2 : World) (x : Option Answer) → is_scripted p m ≡ true → free_answer script p m ≡ x → Each (AlikeValue f) vs1 vs2 → Pair K s f w1 w2 →
        Reaches K script p s f (asked script p go1 m vs1 w1 x) (asked script p go2 m vs2 w2 x)
    unfolding asked
    asked_alike m w1 w2 (Some x) e e' vs q = freely_alike x w1 w2 q
    asked_alike m w1 w2 None e e' vs q = within_alike m (λ h. same_alike _ _ q (args_same p q.alike.heap vs) (λ args. next_alike m args w1 w2 (asks_for m e e' h) q))

  pub run_alike : {f : Map} {a1 a2 : Act} → AlikeAct p f a1 a2 → (w1 w2 : World) → Pair K s f w1 w2 → Reaches K script p s f (run_act script p a1 w1) (run_act script p a2 w2)
  unfolding run_act
  run_alike (done r) w1 w2 q = ended r q
  run_alike (make {f = f} {o1 = o1} {o2 = o2} {k1 = k1} {k2 = k2} r k) w1 w2 q = rw (same_words r) (pay_alike _ _ (words_of o2) q (λ words. made_alike o1 o2 (λ a u. run_act script p (k1 a) u) (λ a u. run_act script p (k2 a) u) r (words_kept q words) (λ g a b u1 u2 e i q'. run_alike (k g a b e i) u1 u2 q')))
  run_alike (look {a = a} {b = b} i k) w1 w2 q = object_alike w1 w2 _ _ (q.alike.heap.objects a b i) (λ o1 o2 r. run_alike (k o1 o2 r) w1 w2 q)
  run_alike (class_of {f = f} {a = a} {b = b} {k1 = k1} {k2 = k2} i k) w1 w2 q = object_alike w1 w2 _ _ (q.alike.heap.objects a b i) (λ o1 o2 r. rw (same_sort r) (run_alike (k (type_of p (sort_of o2))) w1 w2 q))
  run_alike (puts {f = f} {a = a} {b = b} {i = n} i v k) w1 w2 q = found_alike (AlikeObject f) _ _ q (put_both n (q.alike.heap.objects a b i) v) (λ o1 o2 r. run_alike k _ _ (object_set K s f w1 w2 a b o1 o2 q i r))
  run_alike (append {f = f} {a = a} {b = b} {units = units} i k) w1 w2 q = found_alike (AlikeObject f) _ _ q (more_both units (q.alike.heap.objects a b i)) (λ o1 o2 r. pay_alike _ _ (length units) q (λ words. run_alike k _ _ (object_set K s f _ _ a b o1 o2 (words_kept q words) i r)))
  run_alike (get_static {f = f} {i = i} k) w1 w2 q = found_alike (AlikeValue f) _ _ q (each_get i q.alike.statics) (λ v1 v2 v. run_alike (k v1 v2 v) w1 w2 q)
  run_alike (put_static {i = i} v k) w1 w2 q = run_alike k _ _ (static_kept q i v)
  run_alike (tell {m = m} {units = units} k) w1 w2 q = within_alike m (λ h. pay_alike _ _ (words_of_event (event.Print units)) q (λ words. run_alike k _ _ (event_kept (words_kept q words) (event.Print units))))
  run_alike (literal {text = text} k) w1 w2 q = or_make_alike (object.Text (units_of (slice_get p.texts text))) (with_literal text) _ _ texts (λ g u1 u2 a b q' i. literal_kept q' text i) q (number_alike text q.alike.literals) (λ g a b u1 u2 e i q'. run_alike (k g a b e i) u1 u2 q')
  run_alike (class_constant {class = class} k) w1 w2 q = or_make_alike (object.Constant class) (with_constant class) _ _ constants (λ g u1 u2 a b q' i. constant_kept q' class i) q (number_alike class q.alike.constants) (λ g a b u1 u2 e i q'. run_alike (k g a b e i) u1 u2 q')
  run_alike (ask {f = f} {m = m} {k1 = k1} {k2 = k2} e vs k) w1 w2 q = asked_alike _ _ (λ g v1 v2 u1 u2 e' v q'. run_alike (k g v1 v2 e' v) u1 u2 q') m w1 w2 (free_answer script p m) e refl vs q
