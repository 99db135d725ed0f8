-- Each step of a world keeps two worlds alike.
use Rattle.std.proofs.Common.{true≢false, ◌≡◌, ◌≢◌, ◌⊎◌, ℕ, suc, ◌<◌, ◌≤◌, Bool, true, false, cond, List, [], ◌∷◌, ◌++◌, length, refl, sym, ap, ◌∙◌, subst, inl, inr, ⊎_elim, arith, slice_get, slice_set, append_assoc, append-nil, length-append, length-set}
use Rattle.std.specs.Prelude.{nat_lt, unwrap_or}
use native.Mathlib.Decide.{ℕ_discrete}
use Rattle.cc_meaning.specs.declared.report.Answer.{Answer}
use Rattle.cc_meaning.specs.declared.report.Arg.{Arg}
use Rattle.cc_meaning.specs.declared.report.Event.{Event}
use Rattle.cc_meaning.specs.declared.report.Event.TheVariants as event
use Rattle.cc_meaning.specs.declared.value.Made.{Made}
use Rattle.cc_meaning.specs.declared.value.Object.{Object}
use Rattle.cc_meaning.specs.declared.value.Value.{Value}
use Rattle.cc_meaning_world.specs.World.{World, Counters}
use Rattle.cc_meaning_world.specs.Changes.{with_instructions, with_words, with_statuses, with_status, with_object, with_object_at, with_static, noted_made, with_literal, with_constant, with_event, cursor_at, with_answer}
use Rattle.cc_meaning_exec.specs.Starts.{all_failed, with_failed}
use Rattle.cc_meaning_alike.specs.Maps.{Map, link, In, there, Extends}
use Rattle.cc_meaning_alike.specs.Worlds.{Each, nil, each, AlikeMade, AlikeValue, AlikeObject, BothObjects, two, AlikeHeaps, Start, Since, Idle, Pair, start_at}
use Rattle.cc_alike_laws.proofs.Lists.{get_before, get_end, get_set_same, get_set_other, get_set_both}
use Rattle.cc_alike_laws.proofs.Maps.{in_link, grow_values, grow_both, grow_object, grow_made, both_within, each_set}

-- both ends of a link stand in the worlds
pub stands : {f : Map} {os1 os2 : List Object} {a b : ℕ} → AlikeHeaps f os1 os2 → In f a b → (a < length os1) × (b < length os2)
stands {os1 = os1} {os2 = os2} {a = a} {b = b} h i = both_within os1 os2 a b (h.objects a b i)

less_same : (a b c d : ℕ) → a ≡ c → b ≡ d → nat_lt a b ≡ nat_lt c d
less_same a b c d e e' = rw (e, e') refl

-- what was made is noted at the same place of both lists
noted_if : {f : Map} {m1 m2 n1 n2 : Made} {ms1 ms2 rest1 rest2 : List Made} (b : Bool) → AlikeMade f n1 n2 → AlikeMade f m1 m2 → Each (AlikeMade f) ms1 ms2 → Each (AlikeMade f) rest1 rest2 → Each (AlikeMade f) (cond b (n1 ∷ m1 ∷ ms1) (m1 ∷ rest1)) (cond b (n2 ∷ m2 ∷ ms2) (m2 ∷ rest2))
noted_if true n m ms rest = each n (each m ms)
noted_if false n m ms rest = each m rest

noted_alike : {f : Map} {n1 n2 : Made} {ms1 ms2 : List Made} → AlikeMade f n1 n2 → Each (AlikeMade f) ms1 ms2 → Each (AlikeMade f) (noted_made n1 ms1) (noted_made n2 ms2)
unfolding noted_made
noted_alike n nil = each n nil
noted_alike {f} {n1} {n2} n (each {x = m1} {y = m2} {xs = ms1} {ys = ms2} m ms) =
    subst (λ b. Each (AlikeMade f) (cond (nat_lt n1.what m1.what) (n1 ∷ m1 ∷ ms1) (m1 ∷ noted_made n1 ms1)) (cond b (n2 ∷ m2 ∷ ms2) (m2 ∷ noted_made n2 ms2))) (less_same _ _ _ _ n.what m.what) (noted_if (nat_lt n1.what m1.what) n m ms (noted_alike n ms))

module _ {K : ℕ → Bool} {s : Start} {f : Map} {w1 w2 : World} (p : Pair K s f w1 w2) where
  -- other counters, the same on both sides
  pub counters_kept : (c1 c2 : Counters) → c1 ≡ c2 → Pair K s f (record w1 { counters = c1 }) (record w2 { counters = c2 })
  counters_kept c1 c2 e = record {
    alike = record { heap = p.alike.heap; statics = p.alike.statics; literals = p.alike.literals; constants = p.alike.constants; counters = e; cursors = p.alike.cursors };
    idle = p.idle;
    since = p.since;
  }

  pub words_kept : (n : ℕ) → Pair K s f (with_words w1 n) (with_words w2 n)
  unfolding with_words
  words_kept n = counters_kept _ _ (ap (λ (c : Counters). record c { words = n }) p.alike.counters)

  pub instructions_kept : (n : ℕ) → Pair K s f (with_instructions w1 n) (with_instructions w2 n)
  unfolding with_instructions
  instructions_kept n = counters_kept _ _ (ap (λ (c : Counters). record c { instructions = n }) p.alike.counters)

  pub statuses_kept : (statuses : List ℕ) → Pair K s f (with_statuses w1 statuses) (with_statuses w2 statuses)
  unfolding with_statuses
  statuses_kept statuses = counters_kept _ _ (ap (λ (c : Counters). record c { statuses = statuses }) p.alike.counters)

  pub status_kept : (class status : ℕ) → Pair K s f (with_status w1 class status) (with_status w2 class status)
  unfolding with_status with_statuses
  status_kept class status = counters_kept _ _ (ap (λ (c : Counters). record c { statuses = slice_set c.statuses class status }) p.alike.counters)

  pub failed_kept : (cs : List ℕ) → Pair K s f (with_failed cs w1) (with_failed cs w2)
  unfolding with_failed with_statuses
  failed_kept cs = counters_kept _ _ (ap (λ (c : Counters). record c { statuses = all_failed cs c.statuses }) p.alike.counters)

  -- the same event on both sides
  since_with : (e : Event) → Since s f w1.objects w2.objects (w1.events ++ e ∷ []) (w2.events ++ e ∷ [])
  since_with e = record {
    extends = p.since.extends;
    fresh = p.since.fresh;
    kept_first = p.since.kept_first;
    kept_second = p.since.kept_second;
    grown_first = p.since.grown_first;
    grown_second = p.since.grown_second;
    added = p.since.added ++ e ∷ [];
    events_first = rw (p.since.events_first, append_assoc) refl;
    events_second = rw (p.since.events_second, append_assoc) refl;
  }

  pub event_kept : (e : Event) → Pair K s f (with_event w1 e) (with_event w2 e)
  unfolding with_event
  event_kept e = record {
    alike = record { heap = p.alike.heap; statics = p.alike.statics; literals = p.alike.literals; constants = p.alike.constants; counters = p.alike.counters; cursors = p.alike.cursors };
    idle = p.idle;
    since = since_with e;
  }

  pub static_kept : {v1 v2 : Value} (i : ℕ) → AlikeValue f v1 v2 → Pair K s f (with_static w1 i v1) (with_static w2 i v2)
  unfolding with_static
  static_kept i v = record {
    alike = record { heap = p.alike.heap; statics = each_set i p.alike.statics v; literals = p.alike.literals; constants = p.alike.constants; counters = p.alike.counters; cursors = p.alike.cursors };
    idle = p.idle;
    since = p.since;
  }

  pub literal_kept : {a b : ℕ} (text : ℕ) → In f a b → Pair K s f (with_literal text w1 a) (with_literal text w2 b)
  unfolding with_literal
  literal_kept text i = record {
    alike = record { heap = p.alike.heap; statics = p.alike.statics; literals = noted_alike (record { what = refl; number = i }) p.alike.literals; constants = p.alike.constants; counters = p.alike.counters; cursors = p.alike.cursors };
    idle = p.idle;
    since = p.since;
  }

  pub constant_kept : {a b : ℕ} (class : ℕ) → In f a b → Pair K s f (with_constant class w1 a) (with_constant class w2 b)
  unfolding with_constant
  constant_kept class i = record {
    alike = record { heap = p.alike.heap; statics = p.alike.statics; literals = p.alike.literals; constants = noted_alike (record { what = refl; number = i }) p.alike.constants; counters = p.alike.counters; cursors = p.alike.cursors };
    idle = p.idle;
    since = p.since;
  }

  apart : (class c : ℕ) → K class ≡ true → K c ≡ false → c ≢ class
  apart class c k k' e = true≢false (sym k ∙ ap K (sym e) ∙ k')

  same_after : (class n c : ℕ) → Dec (c ≡ class) → K class ≡ true → K c ≡ true → slice_get (slice_set w1.cursors class n) c ≡ slice_get (slice_set w2.cursors class n) c
  same_after class n c (yes e) k k' = rw e (get_set_both w1.cursors w2.cursors class n (p.alike.cursors class k))
  same_after class n c (no ne) k k' = get_set_other w1.cursors c class n ne ∙ p.alike.cursors c k' ∙ sym (get_set_other w2.cursors c class n ne)

  pub same_cursor : (class : ℕ) → K class ≡ true → cursor_at w1 class ≡ cursor_at w2 class
  unfolding cursor_at
  same_cursor class k = ap (λ x. unwrap_or x 0) (p.alike.cursors class k)

  -- the same answer is taken on both sides
  answer_kept_at : (class m : ℕ) (args : List Arg) (x : Answer) (n1 n2 : ℕ) → n1 ≡ n2 → K class ≡ true →
      Pair K s f (record w1 { cursors = slice_set w1.cursors class n1; events = w1.events ++ event.Call m args x ∷ [] }) (record w2 { cursors = slice_set w2.cursors class n2; events = w2.events ++ event.Call m args x ∷ [] })
  answer_kept_at class m args x n1 n2 e k = record {
    alike = record { heap = p.alike.heap; statics = p.alike.statics; literals = p.alike.literals; constants = p.alike.constants; counters = p.alike.counters; cursors = λ c k'. rw (sym e) (same_after class n1 c (ℕ_discrete c class) k k') };
    idle = record { idle_first = λ c k'. get_set_other w1.cursors c class n1 (apart class c k k') ∙ p.idle.idle_first c k'; idle_second = λ c k'. get_set_other w2.cursors c class n2 (apart class c k k') ∙ p.idle.idle_second c k' };
    since = since_with (event.Call m args x);
  }

  pub answer_kept : (class m : ℕ) (args : List Arg) (x : Answer) → K class ≡ true → Pair K s f (with_answer w1 class m args x) (with_answer w2 class m args x)
  unfolding with_answer
  answer_kept class m args x k = answer_kept_at class m args x _ _ (ap suc (same_cursor class k)) k

-- a new object on each side
module _ (K : ℕ → Bool) (s : Start) (f : Map) (w1 w2 : World) (o1 o2 : Object) (p : Pair K s f w1 w2) (r : AlikeObject f o1 o2) where
  grown : Map
  grown = link (length w1.objects) (length w2.objects) f

  grown_extends : Extends f grown
  unfolding grown
  grown_extends a b i = there i

  new_objects : (a b : ℕ) → ((a ≡ length w1.objects) × (b ≡ length w2.objects)) ⊎ In f a b → BothObjects grown (slice_get (w1.objects ++ o1 ∷ []) a) (slice_get (w2.objects ++ o2 ∷ []) b)
  unfolding grown
  new_objects a b (inl e) = rw (e.0, e.1, get_end w1.objects o1, get_end w2.objects o2) (two (grow_object grown_extends r))
  new_objects a b (inr i) =
      let h = stands p.alike.heap i in
      rw (get_before w1.objects (o1 ∷ []) a h.0, get_before w2.objects (o2 ∷ []) b h.1) (grow_both grown_extends (p.alike.heap.objects a b i))

  new_right : (a b c : ℕ) → ((a ≡ length w1.objects) × (b ≡ length w2.objects)) ⊎ In f a b → ((a ≡ length w1.objects) × (c ≡ length w2.objects)) ⊎ In f a c → b ≡ c
  new_right a b c (inl e) (inl e') = e.1 ∙ sym e'.1
  new_right a b c (inl e) (inr j) = let h = (stands p.alike.heap j).0 in absurd (omega arith)
  new_right a b c (inr i) (inl e') = let h = (stands p.alike.heap i).0 in absurd (omega arith)
  new_right a b c (inr i) (inr j) = p.alike.heap.one.one_right a b c i j

  new_left : (a b c : ℕ) → ((a ≡ length w1.objects) × (c ≡ length w2.objects)) ⊎ In f a c → ((b ≡ length w1.objects) × (c ≡ length w2.objects)) ⊎ In f b c → a ≡ b
  new_left a b c (inl e) (inl e') = e.0 ∙ sym e'.0
  new_left a b c (inl e) (inr j) = let h = (stands p.alike.heap j).1 in absurd (omega arith)
  new_left a b c (inr i) (inl e') = let h = (stands p.alike.heap i).1 in absurd (omega arith)
  new_left a b c (inr i) (inr j) = p.alike.heap.one.one_left a b c i j

  new_fresh : (a b : ℕ) → ((a ≡ length w1.objects) × (b ≡ length w2.objects)) ⊎ In f a b → In s.map a b ⊎ ((length s.first.objects ≤ a) × (length s.second.objects ≤ b))
  new_fresh a b (inl e) = let g1 = p.since.grown_first in let g2 = p.since.grown_second in inr (omega arith, omega arith)
  new_fresh a b (inr i) = p.since.fresh a b i

  pub object_made : Pair K s (link (length w1.objects) (length w2.objects) f) (with_object w1 o1) (with_object w2 o2)
  unfolding with_object grown
  object_made = record {
    alike = record {
      heap = record {
        objects = λ a b i. new_objects a b (in_link i);
        one = record { one_right = λ a b c i j. new_right a b c (in_link i) (in_link j); one_left = λ a b c i j. new_left a b c (in_link i) (in_link j) };
        out = there p.alike.heap.out;
      };
      statics = grow_values grown_extends p.alike.statics;
      literals = grow_made grown_extends p.alike.literals;
      constants = grow_made grown_extends p.alike.constants;
      counters = p.alike.counters;
      cursors = p.alike.cursors;
    };
    idle = p.idle;
    since = record {
      extends = λ a b i. there (p.since.extends a b i);
      fresh = λ a b i. new_fresh a b (in_link i);
      kept_first = λ a h n. let g = p.since.grown_first in get_before w1.objects (o1 ∷ []) a (omega arith) ∙ p.since.kept_first a h n;
      kept_second = λ b h n. let g = p.since.grown_second in get_before w2.objects (o2 ∷ []) b (omega arith) ∙ p.since.kept_second b h n;
      grown_first = let g = p.since.grown_first in omega (arith, length-append w1.objects (o1 ∷ []));
      grown_second = let g = p.since.grown_second in omega (arith, length-append w2.objects (o2 ∷ []));
      added = p.since.added;
      events_first = p.since.events_first;
      events_second = p.since.events_second;
    };
  }

-- a corresponding change of corresponding objects
module _ (K : ℕ → Bool) (s : Start) (f : Map) (w1 w2 : World) (a b : ℕ) (o1 o2 : Object) (p : Pair K s f w1 w2) (i : In f a b) (r : AlikeObject f o1 o2) where
  set_objects : (c d : ℕ) → In f c d → Dec (c ≡ a) → Dec (d ≡ b) → BothObjects f (slice_get (slice_set w1.objects a o1) c) (slice_get (slice_set w2.objects b o2) d)
  set_objects c d j (yes e) (yes e') = let h = stands p.alike.heap i in rw (e, e', get_set_same w1.objects a o1 h.0, get_set_same w2.objects b o2 h.1) (two r)
  set_objects c d j (yes e) (no n') = absurd (n' (p.alike.heap.one.one_right c d b j (subst (λ x. In f x b) (sym e) i)))
  set_objects c d j (no n) (yes e') = absurd (n (p.alike.heap.one.one_left c a d j (subst (λ x. In f a x) (sym e') i)))
  set_objects c d j (no n) (no n') = rw (get_set_other w1.objects c a o1 n, get_set_other w2.objects d b o2 n') (p.alike.heap.objects c d j)

  -- a is no object that has to stay
  not_kept1 : (c : ℕ) → c < length s.first.objects → ((d : ℕ) → In s.map c d → ⊥) → c ≢ a
  not_kept1 c h n e = ⊎_elim (λ m. n b (subst (λ x. In s.map x b) (sym e) m)) (λ q. let l = q.0 in omega arith) (p.since.fresh a b i)

  not_kept2 : (d : ℕ) → d < length s.second.objects → ((c : ℕ) → In s.map c d → ⊥) → d ≢ b
  not_kept2 d h n e = ⊎_elim (λ m. n a (subst (λ x. In s.map a x) (sym e) m)) (λ q. let l = q.1 in omega arith) (p.since.fresh a b i)

  pub object_set : Pair K s f (with_object_at w1 a o1) (with_object_at w2 b o2)
  unfolding with_object_at
  object_set = record {
    alike = record {
      heap = record { objects = λ c d j. set_objects c d j (ℕ_discrete c a) (ℕ_discrete d b); one = p.alike.heap.one; out = p.alike.heap.out };
      statics = p.alike.statics;
      literals = p.alike.literals;
      constants = p.alike.constants;
      counters = p.alike.counters;
      cursors = p.alike.cursors;
    };
    idle = p.idle;
    since = record {
      extends = p.since.extends;
      fresh = p.since.fresh;
      kept_first = λ c h n. get_set_other w1.objects c a o1 (not_kept1 c h n) ∙ p.since.kept_first c h n;
      kept_second = λ d h n. get_set_other w2.objects d b o2 (not_kept2 d h n) ∙ p.since.kept_second d h n;
      grown_first = rw (length-set w1.objects a o1) p.since.grown_first;
      grown_second = rw (length-set w2.objects b o2) p.since.grown_second;
      added = p.since.added;
      events_first = p.since.events_first;
      events_second = p.since.events_second;
    };
  }

-- ---- from one start to another

pub since_join : {s : Start} {f g : Map} {w1 w2 : World} {os1 os2 : List Object} {es1 es2 : List Event} → Since s f w1.objects w2.objects w1.events w2.events → Since (start_at f w1 w2) g os1 os2 es1 es2 → Since s g os1 os2 es1 es2
since_join {s} {f} {g} {w1} {w2} a b = record {
  extends = λ x y i. b.extends x y (a.extends x y i);
  fresh = λ x y i. ⊎_elim (λ j. a.fresh x y j) (λ q. let q0 = q.0 in let q1 = q.1 in let g1 = a.grown_first in let g2 = a.grown_second in inr (omega arith, omega arith)) (b.fresh x y i);
  kept_first = λ x h n. let g1 = a.grown_first in b.kept_first x (omega arith) (λ y i. ⊎_elim (λ j. n y j) (λ q. let q0 = q.0 in omega arith) (a.fresh x y i)) ∙ a.kept_first x h n;
  kept_second = λ y h n. let g2 = a.grown_second in b.kept_second y (omega arith) (λ x i. ⊎_elim (λ j. n x j) (λ q. let q1 = q.1 in omega arith) (a.fresh x y i)) ∙ a.kept_second y h n;
  grown_first = let g1 = a.grown_first in let h1 = b.grown_first in omega arith;
  grown_second = let g2 = a.grown_second in let h2 = b.grown_second in omega arith;
  added = a.added ++ b.added;
  events_first = b.events_first ∙ ap (λ es. es ++ b.added) a.events_first ∙ append_assoc s.first.events a.added b.added;
  events_second = b.events_second ∙ ap (λ es. es ++ b.added) a.events_second ∙ append_assoc s.second.events a.added b.added;
}

pub since_none : (f : Map) (w1 w2 : World) → Since (start_at f w1 w2) f w1.objects w2.objects w1.events w2.events
since_none f w1 w2 = record {
  extends = λ a b i. i;
  fresh = λ a b i. inl i;
  kept_first = λ a h n. refl;
  kept_second = λ a h n. refl;
  grown_first = omega arith;
  grown_second = omega arith;
  added = [];
  events_first = sym (append-nil w1.events);
  events_second = sym (append-nil w2.events);
}

pub idle_join : {K : ℕ → Bool} {s : Start} (f : Map) (w1 w2 : World) {cs1 cs2 : List ℕ} → Idle K s w1.cursors w2.cursors → Idle K (start_at f w1 w2) cs1 cs2 → Idle K s cs1 cs2
idle_join f w1 w2 a b = record { idle_first = λ c k. b.idle_first c k ∙ a.idle_first c k; idle_second = λ c k. b.idle_second c k ∙ a.idle_second c k }
