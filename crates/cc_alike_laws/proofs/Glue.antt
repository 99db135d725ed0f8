-- Worlds by way of a third, and what a smaller map says of a larger one.
use Rattle.std.proofs.Common.{◌≡◌, ◌⊎◌, ℕ, ◌==◌, ◌<◌, ◌≤◌, List, [], ◌∷◌, ◌++◌, length, Option, Some, Bool, true, false, refl, sym, ap, ◌∙◌, subst, inl, inr, ⊎_elim, arith, slice_get, eq-eqb, eqb-true, true≢false}
use Rattle.std.specs.Prelude.{IsTrue}
use native.Mathlib.Decide.{ℕ_discrete}
use Rattle.cc_meaning.specs.declared.program.Program.{Program}
use Rattle.cc_meaning.specs.declared.script.Script.{Script}
use Rattle.cc_meaning.specs.declared.value.Made.{Made}
use Rattle.cc_meaning.specs.declared.value.Object.{Object}
use Rattle.cc_meaning.specs.declared.value.Value.{Value}
use Rattle.cc_meaning.specs.declared.value.Value.TheVariants as value
use Rattle.cc_meaning_world.specs.World.{World, Stack, Counters}
use Rattle.cc_meaning_exec.specs.Exceptions.{End}
use Rattle.cc_meaning_exec.specs.Eval.{Ran, ran, Reply, Here, Answer, Hook, call, eval_with}
use Rattle.cc_meaning_alike.specs.Maps.{Map, empty, link, In, here, there, Extends, inverse, joined, link_if, through, composed}
use Rattle.cc_meaning_alike.specs.Worlds.{Each, nil, each, neither, both, nulls, linked, AlikeValue, ints, longs, refs, AlikeObject, outs, instances, arrays, texts, builders, constants, BothObjects, two, AlikeMade, Alike, start_at}
use Rattle.cc_meaning_alike.specs.Ends.{AlikeEnd, both_return, both_throw, both_stop, both_jam, EndedAlike, AlikeRan, FitsReply, LooksOn, HookFits}
use Rattle.cc_meaning_alike.specs.Laws.{no_hold, everything, as_noted, watch}
use Rattle.cc_meaning_alike.specs.Migration.{Migrated, IsMigrated, HookMigrates}
use Rattle.cc_alike_laws.proofs.Maps.{in_link, grow_both, grow_values, grow_made, grow_pending}
use Rattle.cc_alike_laws.proofs.Worlds.{stands}
use Rattle.cc_alike_laws.proofs.Evals.{call_faithful}
use Rattle.cc_alike_laws.proofs.Laws.{watch_keeps, watch_fits}

-- the other way round
pub flip_in : {f : Map} {a b : ℕ} → In f a b → In (inverse f) b a
unfolding inverse
flip_in here = here
flip_in (there i) = there (flip_in i)

pub back_in : (f : Map) (a b : ℕ) → In (inverse f) b a → In f a b
unfolding inverse
back_in empty a b i = elim i [ ]
back_in (link x y f) a b i = ⊎_elim (λ e. subst (λ z. In (link x y f) z b) (sym e.1) (subst (λ z. In (link x y f) x z) (sym e.0) here)) (λ j. there (back_in f a b j)) (in_link i)

flip_value : {f : Map} {v1 v2 : Value} → AlikeValue f v1 v2 → AlikeValue (inverse f) v2 v1
flip_value ints = ints
flip_value longs = longs
flip_value (refs nulls) = refs nulls
flip_value (refs (linked i)) = refs (linked (flip_in i))

flip_values : {f : Map} {vs1 vs2 : List Value} → Each (AlikeValue f) vs1 vs2 → Each (AlikeValue (inverse f)) vs2 vs1
flip_values nil = nil
flip_values (each v vs) = each (flip_value v) (flip_values vs)

flip_made : {f : Map} {ms1 ms2 : List Made} → Each (AlikeMade f) ms1 ms2 → Each (AlikeMade (inverse f)) ms2 ms1
flip_made nil = nil
flip_made (each m ms) = each (record { what = sym m.what; number = flip_in m.number }) (flip_made ms)

flip_object : {f : Map} {o1 o2 : Object} → AlikeObject f o1 o2 → AlikeObject (inverse f) o2 o1
flip_object (instances vs) = instances (flip_values vs)
flip_object (arrays vs) = arrays (flip_values vs)
flip_object texts = texts
flip_object outs = outs
flip_object builders = builders
flip_object constants = constants

flip_both : {f : Map} {x1 x2 : Option Object} → BothObjects f x1 x2 → BothObjects (inverse f) x2 x1
flip_both (two r) = two (flip_object r)

pub alike_inverse : {K : ℕ → Bool} {f : Map} {w1 w2 : World} → Alike K f w1 w2 → Alike K (inverse f) w2 w1
alike_inverse {f = f} p = record {
  heap = record {
    objects = λ a b i. flip_both (p.heap.objects b a (back_in f b a i));
    one = record { one_right = λ a b c i j. p.heap.one.one_left b c a (back_in f b a i) (back_in f c a j); one_left = λ a b c i j. p.heap.one.one_right c a b (back_in f c a i) (back_in f c b j) };
    out = flip_in p.heap.out;
  };
  statics = flip_values p.statics;
  literals = flip_made p.literals;
  constants = flip_made p.constants;
  counters = sym p.counters;
  cursors = λ c k. sym (p.cursors c k);
}

-- fewer classes agree
pub alike_less : {K : ℕ → Bool} {f : Map} {w1 w2 : World} → Alike everything f w1 w2 → Alike K f w1 w2
alike_less p = record { heap = p.heap; statics = p.statics; literals = p.literals; constants = p.constants; counters = p.counters; cursors = λ c k. p.cursors c refl }

-- of both
pub join_left : {f : Map} {a b : ℕ} (g : Map) → In f a b → In (joined f g) a b
unfolding joined
join_left g here = here
join_left g (there i) = there (join_left g i)

pub join_right : (f : Map) {g : Map} {a b : ℕ} → In g a b → In (joined f g) a b
unfolding joined
join_right empty i = i
join_right (link x y f) i = there (join_right f i)

pub join_cases : (f : Map) {g : Map} {a b : ℕ} → In (joined f g) a b → In f a b ⊎ In g a b
unfolding joined
join_cases empty i = inr i
join_cases (link x y f) {g} {a} {b} i = ⊎_elim (λ e. inl (subst (λ z. In (link x y f) z b) (sym e.0) (subst (λ z. In (link x y f) x z) (sym e.1) here))) (λ j. ⊎_elim (λ k. inl (there k)) (λ k. inr k) (join_cases f j)) (in_link i)

-- a pair under other names
pub moved : {f : Map} {a b c d : ℕ} → c ≡ a → d ≡ b → In f a b → In f c d
moved {f} {a} {b} {c} {d} e e' i = subst (λ z. In f z d) (sym e) (subst (λ z. In f a z) (sym e') i)

keep_in : {f : Map} {a b : ℕ} (t : Bool) (c d : ℕ) → In f a b → In (link_if t c d f) a b
unfolding link_if
keep_in true c d i = there i
keep_in false c d i = i

link_there : (f : Map) (a b : ℕ) (t : Bool) → t ≡ true → In (link_if t a b f) a b
unfolding link_if
link_there f a b true e = here
link_there f a b false e = absurd (true≢false (sym e))

-- by way of a third
through_in : {g : Map} {b c : ℕ} (a : ℕ) → In g b c → In (through a b g) a c
unfolding through
through_in a (here {a = b}) = link_there _ _ _ (b == b) (eq-eqb b b refl)
through_in a (there {b = c} {c = x} {d = y} i) = keep_in (_ == x) _ _ (through_in a i)

through_case : {g h : Map} {a b u v x c : ℕ} (t : Bool) → (b == u) ≡ t → In (link_if t a v h) x c → (In h x c → (x ≡ a) × In g b c) → (x ≡ a) × In (link u v g) b c
unfolding link_if
through_case {g} {h} {a} {b} {u} {v} true e i rec = ⊎_elim (λ q. (q.0, moved (eqb-true b u e) q.1 here)) (λ j. let r = rec j in (r.0, there r.1)) (in_link i)
through_case false e i rec = let r = rec i in (r.0, there r.1)

through_out : (g : Map) (a b x c : ℕ) → In (through a b g) x c → (x ≡ a) × In g b c
unfolding through
through_out empty a b x c i = elim i [ ]
through_out (link u v g) a b x c i = through_case (b == u) refl i (λ j. through_out g a b x c j)

compose_in : {f g : Map} {a b c : ℕ} → In f a b → In g b c → In (composed f g) a c
unfolding composed
compose_in {g = g} (here {a = a} {b = b}) j = join_left _ (through_in a j)
compose_in (there {c = x} {d = y} i) j = join_right (through x y _) (compose_in i j)

compose_out : (f g : Map) (a c : ℕ) → In (composed f g) a c → (b : ℕ) × In f a b × In g b c
unfolding composed
compose_out empty g a c i = elim i [ ]
compose_out (link x y f) g a c i = ⊎_elim (λ k. let h = through_out g x y a c k in (y, subst (λ z. In (link x y f) z y) (sym h.0) here, h.1)) (λ k. let h = compose_out f g a c k in (h.0, there h.1, h.2)) (join_cases (through x y g) i)

value_composed : {f g : Map} {v1 v2 v3 : Value} → AlikeValue f v1 v2 → AlikeValue g v2 v3 → AlikeValue (composed f g) v1 v3
value_composed ints ints = ints
value_composed longs longs = longs
value_composed (refs nulls) (refs nulls) = refs nulls
value_composed (refs (linked i)) (refs (linked j)) = refs (linked (compose_in i j))

values_composed : {f g : Map} {vs1 vs2 vs3 : List Value} → Each (AlikeValue f) vs1 vs2 → Each (AlikeValue g) vs2 vs3 → Each (AlikeValue (composed f g)) vs1 vs3
values_composed nil nil = nil
values_composed (each v vs) (each u us) = each (value_composed v u) (values_composed vs us)

made_composed : {f g : Map} {ms1 ms2 ms3 : List Made} → Each (AlikeMade f) ms1 ms2 → Each (AlikeMade g) ms2 ms3 → Each (AlikeMade (composed f g)) ms1 ms3
made_composed nil nil = nil
made_composed (each m ms) (each k ks) = each (record { what = m.what ∙ k.what; number = compose_in m.number k.number }) (made_composed ms ks)

object_composed : {f g : Map} {o1 o2 o3 : Object} → AlikeObject f o1 o2 → AlikeObject g o2 o3 → AlikeObject (composed f g) o1 o3
object_composed (instances vs) (instances us) = instances (values_composed vs us)
object_composed (arrays vs) (arrays us) = arrays (values_composed vs us)
object_composed texts texts = texts
object_composed outs outs = outs
object_composed builders builders = builders
object_composed constants constants = constants

both_composed : {f g : Map} {x1 x2 x3 : Option Object} → BothObjects f x1 x2 → BothObjects g x2 x3 → BothObjects (composed f g) x1 x3
both_composed (two r) (two q) = two (object_composed r q)

end_composed : {f g : Map} {e1 e2 e3 : End} → AlikeEnd f e1 e2 → AlikeEnd g e2 e3 → AlikeEnd (composed f g) e1 e3
end_composed (both_return neither) (both_return neither) = both_return neither
end_composed (both_return (both v)) (both_return (both u)) = both_return (both (value_composed v u))
end_composed (both_throw i) (both_throw j) = both_throw (compose_in i j)
end_composed both_stop both_stop = both_stop
end_composed both_jam both_jam = both_jam

pub alike_composed : {K : ℕ → Bool} {f g : Map} {w1 w2 w3 : World} → Alike K f w1 w2 → Alike K g w2 w3 → Alike K (composed f g) w1 w3
alike_composed {f = f} {g = g} p q = record {
  heap = record {
    objects = λ a c i. let h = compose_out f g a c i in both_composed (p.heap.objects a h.0 h.1) (q.heap.objects h.0 c h.2);
    one = record {
      one_right = λ a b c i j. let h = compose_out f g a b i in let k = compose_out f g a c j in
          q.heap.one.one_right h.0 b c h.2 (subst (λ z. In g z c) (p.heap.one.one_right a k.0 h.0 k.1 h.1) k.2);
      one_left = λ a b c i j. let h = compose_out f g a c i in let k = compose_out f g b c j in
          p.heap.one.one_left a b h.0 h.1 (subst (λ z. In f b z) (q.heap.one.one_left k.0 h.0 c k.2 h.2) k.1);
    };
    out = compose_in p.heap.out q.heap.out;
  };
  statics = values_composed p.statics q.statics;
  literals = made_composed p.literals q.literals;
  constants = made_composed p.constants q.constants;
  counters = p.counters ∙ q.counters;
  cursors = λ c k. p.cursors c k ∙ q.cursors c k;
}

-- whether an object has a counterpart
has_right : (f : Map) (a : ℕ) → ((b : ℕ) × In f a b) ⊎ ((b : ℕ) → In f a b → ⊥)
has_right empty a = inr (λ b i. elim i [ ])
has_right (link x y f) a = cases (ℕ_discrete a x) (has_right f a)
  where
    cases : Dec (a ≡ x) → ((b : ℕ) × In f a b) ⊎ ((b : ℕ) → In f a b → ⊥) → ((b : ℕ) × In (link x y f) a b) ⊎ ((b : ℕ) → In (link x y f) a b → ⊥)
    cases (yes e) r = inl (y, moved e refl here)
    cases (no n) (inl h) = inl (h.0, there h.1)
    cases (no n) (inr h) = inr (λ b i. ⊎_elim (λ q. n q.0) (λ j. h b j) (in_link i))

has_left : (f : Map) (b : ℕ) → ((a : ℕ) × In f a b) ⊎ ((a : ℕ) → In f a b → ⊥)
has_left f b = ⊎_elim (λ h. inl (h.0, back_in f h.0 b h.1)) (λ h. inr (λ a i. h a (flip_in i))) (has_right (inverse f) b)

-- two objects that stand for one are the same
module _ (f : Map) (one_left : (a b c : ℕ) → In f a c → In f b c → a ≡ b) where
  same_by_value : {v1 v2 u : Value} → AlikeValue f v1 u → AlikeValue f v2 u → v1 ≡ v2
  same_by_value ints ints = refl
  same_by_value longs longs = refl
  same_by_value (refs nulls) (refs nulls) = refl
  same_by_value (refs (linked i)) (refs (linked j)) = ap (λ a. value.Obj (Some a)) (one_left _ _ _ i j)

  same_by_values : {vs1 vs2 us : List Value} → Each (AlikeValue f) vs1 us → Each (AlikeValue f) vs2 us → vs1 ≡ vs2
  same_by_values nil nil = refl
  same_by_values (each v vs) (each u us) = rw (same_by_value v u, same_by_values vs us)

  same_by_object : {o1 o2 u : Object} → AlikeObject f o1 u → AlikeObject f o2 u → o1 ≡ o2
  same_by_object (instances vs) (instances us) = rw (same_by_values vs us)
  same_by_object (arrays vs) (arrays us) = rw (same_by_values vs us)
  same_by_object texts texts = refl
  same_by_object outs outs = refl
  same_by_object builders builders = refl
  same_by_object constants constants = refl

  same_by_both : {x1 x2 u : Option Object} → BothObjects f x1 u → BothObjects f x2 u → x1 ≡ x2
  same_by_both (two r) (two q) = rw (same_by_object r q)

append_cancel : {A : Type 0} (xs ys zs : List A) → xs ++ ys ≡ xs ++ zs → ys ≡ zs
append_cancel [] ys zs e = e
append_cancel (x ∷ xs) ys zs e = append_cancel xs ys zs (cc)

grow_end : {f g : Map} {e1 e2 : End} → Extends f g → AlikeEnd f e1 e2 → AlikeEnd g e1 e2
grow_end e (both_return v) = both_return (grow_pending e v)
grow_end e (both_throw i) = both_throw (e _ _ i)
grow_end e both_stop = both_stop
grow_end e both_jam = both_jam

-- two runs, by way of a third world
module _ {g k : Map} {w c v w' c' v' : World} {n : ℕ} {e ec ev : End} {K : ℕ → Bool} (p : Alike K g w c) (q : Alike K k c v) (r1 : EndedAlike K (start_at g w c) g n e ec w' c') (r2 : EndedAlike K (start_at k c v) k n ec ev c' v') where
  composed_fresh : (a b x : ℕ) → In g a x ⊎ ((length w.objects ≤ a) × (length c.objects ≤ x)) → In k x b ⊎ ((length c.objects ≤ x) × (length v.objects ≤ b)) → In (composed g k) a b ⊎ ((length w.objects ≤ a) × (length v.objects ≤ b))
  composed_fresh a b x (inl i) (inl j) = inl (compose_in i j)
  composed_fresh a b x (inl i) (inr h) = let s = (stands p.heap i).1 in let l = h.0 in absurd (omega arith)
  composed_fresh a b x (inr h) (inl j) = let s = (stands q.heap j).0 in let l = h.1 in absurd (omega arith)
  composed_fresh a b x (inr h) (inr h') = inr (h.0, h'.1)

  composed_kept1 : (a : ℕ) → a < length w.objects → ((b : ℕ) → In (composed g k) a b → ⊥) → slice_get w'.objects a ≡ slice_get w.objects a
  composed_kept1 a h n = cases (has_right g a)
    where
      cases : ((x : ℕ) × In g a x) ⊎ ((x : ℕ) → In g a x → ⊥) → slice_get w'.objects a ≡ slice_get w.objects a
      cases (inl i) =
          let s = r2.pair.since.kept_first i.0 (stands p.heap i.1).1 (λ b j. n b (compose_in i.1 j)) in
          same_by_both r1.map r1.pair.alike.heap.one.one_left (subst (λ z. BothObjects r1.map (slice_get w'.objects a) z) s (r1.pair.alike.heap.objects a i.0 (r1.extends a i.0 i.1))) (grow_both r1.extends (p.heap.objects a i.0 i.1))
      cases (inr m) = r1.pair.since.kept_first a h m

  composed_kept2 : (b : ℕ) → b < length v.objects → ((a : ℕ) → In (composed g k) a b → ⊥) → slice_get v'.objects b ≡ slice_get v.objects b
  composed_kept2 b h n = cases (has_left k b)
    where
      cases : ((x : ℕ) × In k x b) ⊎ ((x : ℕ) → In k x b → ⊥) → slice_get v'.objects b ≡ slice_get v.objects b
      cases (inl i) =
          let s = r1.pair.since.kept_second i.0 (stands q.heap i.1).0 (λ a j. n a (compose_in j i.1)) in
          same_by_both (inverse r2.map) (alike_inverse r2.pair.alike).heap.one.one_left (flip_both (subst (λ z. BothObjects r2.map z (slice_get v'.objects b)) s (r2.pair.alike.heap.objects i.0 b (r2.extends i.0 b i.1)))) (flip_both (grow_both r2.extends (q.heap.objects i.0 b i.1)))
      cases (inr m) = r2.pair.since.kept_second b h m

  composed_extends : Extends (composed g k) (composed r1.map r2.map)
  composed_extends a b i = let h = compose_out g k a b i in compose_in (r1.extends a h.0 h.1) (r2.extends h.0 b h.2)

  same_events : r1.pair.since.added ≡ r2.pair.since.added
  same_events = append_cancel c.events _ _ (sym r1.pair.since.events_second ∙ r2.pair.since.events_first)

  pub ended_composed : EndedAlike K (start_at (composed g k) w v) (composed g k) n e ev w' v'
  ended_composed = record {
    map = composed r1.map r2.map;
    extends = composed_extends;
    ends = end_composed r1.ends r2.ends;
    pair = record {
      alike = alike_composed r1.pair.alike r2.pair.alike;
      idle = record { idle_first = r1.pair.idle.idle_first; idle_second = r2.pair.idle.idle_second };
      since = record {
        extends = composed_extends;
        fresh = λ a b i. let h = compose_out r1.map r2.map a b i in composed_fresh a b h.0 (r1.pair.since.fresh a h.0 h.1) (r2.pair.since.fresh h.0 b h.2);
        kept_first = composed_kept1;
        kept_second = composed_kept2;
        grown_first = r1.pair.since.grown_first;
        grown_second = r2.pair.since.grown_second;
        added = r1.pair.since.added;
        events_first = r1.pair.since.events_first;
        events_second = r2.pair.since.events_second ∙ ap (λ es. v.events ++ es) (sym same_events);
      };
    };
    within = r2.within;
  }

-- what holds under a smaller map holds under a larger one: the rest is as it was
module _ {f f0 : Map} {w1 w2 u1 u2 : World} {n : ℕ} {e1 e2 : End} {K : ℕ → Bool} (p : Alike everything f w1 w2) (ext : Extends f0 f) (r : EndedAlike K (start_at f0 w1 w2) f0 n e1 e2 u1 u2) where
  framed : Map
  framed = joined f r.map

  old_in : Extends f framed
  unfolding framed
  old_in a b i = join_left r.map i

  new_in : Extends r.map framed
  unfolding framed
  new_in a b i = join_right f i

  framed_cases : (a b : ℕ) → In framed a b → In f a b ⊎ In r.map a b
  unfolding framed
  framed_cases a b i = join_cases f i

  framed_objects : (a b : ℕ) → In f a b ⊎ In r.map a b → BothObjects framed (slice_get u1.objects a) (slice_get u2.objects b)
  framed_objects a b (inr i) = grow_both new_in (r.pair.alike.heap.objects a b i)
  framed_objects a b (inl i) = cases (has_right f0 a)
    where
      cases : ((x : ℕ) × In f0 a x) ⊎ ((x : ℕ) → In f0 a x → ⊥) → BothObjects framed (slice_get u1.objects a) (slice_get u2.objects b)
      cases (inl h) = grow_both new_in (r.pair.alike.heap.objects a b (moved refl (p.heap.one.one_right a b h.0 i (ext a h.0 h.1)) (r.extends a h.0 h.1)))
      cases (inr m) =
          let s1 = r.pair.since.kept_first a (stands p.heap i).0 m in
          let s2 = r.pair.since.kept_second b (stands p.heap i).1 (λ x j. m b (moved (p.heap.one.one_left a x b i (ext x b j)) refl j)) in
          subst (λ z. BothObjects framed z (slice_get u2.objects b)) (sym s1) (subst (λ z. BothObjects framed (slice_get w1.objects a) z) (sym s2) (grow_both old_in (p.heap.objects a b i)))

  mixed_right : (a b c : ℕ) → In f a b → In r.map a c → b ≡ c
  mixed_right a b c i j = ⊎_elim (λ k. p.heap.one.one_right a b c i (ext a c k)) (λ h. let s = (stands p.heap i).0 in let l = h.0 in absurd (omega arith)) (r.pair.since.fresh a c j)

  mixed_left : (a b c : ℕ) → In f a c → In r.map b c → a ≡ b
  mixed_left a b c i j = ⊎_elim (λ k. p.heap.one.one_left a b c i (ext b c k)) (λ h. let s = (stands p.heap i).1 in let l = h.1 in absurd (omega arith)) (r.pair.since.fresh b c j)

  framed_right : (a b c : ℕ) → In f a b ⊎ In r.map a b → In f a c ⊎ In r.map a c → b ≡ c
  framed_right a b c (inl i) (inl j) = p.heap.one.one_right a b c i j
  framed_right a b c (inl i) (inr j) = mixed_right a b c i j
  framed_right a b c (inr i) (inl j) = sym (mixed_right a c b j i)
  framed_right a b c (inr i) (inr j) = r.pair.alike.heap.one.one_right a b c i j

  framed_left : (a b c : ℕ) → In f a c ⊎ In r.map a c → In f b c ⊎ In r.map b c → a ≡ b
  framed_left a b c (inl i) (inl j) = p.heap.one.one_left a b c i j
  framed_left a b c (inl i) (inr j) = mixed_left a b c i j
  framed_left a b c (inr i) (inl j) = sym (mixed_left b a c j i)
  framed_left a b c (inr i) (inr j) = r.pair.alike.heap.one.one_left a b c i j

  framed_fresh : (a b : ℕ) → In f a b ⊎ In r.map a b → In f a b ⊎ ((length w1.objects ≤ a) × (length w2.objects ≤ b))
  framed_fresh a b (inl i) = inl i
  framed_fresh a b (inr i) = ⊎_elim (λ j. inl (ext a b j)) (λ h. inr h) (r.pair.since.fresh a b i)

  -- cursors of classes in K agree behind the runs, and the others still do
  framed_cursors : (c : ℕ) (b : Bool) → K c ≡ b → slice_get u1.cursors c ≡ slice_get u2.cursors c
  framed_cursors c true k = r.pair.alike.cursors c k
  framed_cursors c false k = r.pair.idle.idle_first c k ∙ p.cursors c refl ∙ sym (r.pair.idle.idle_second c k)

  pub ended_framed : EndedAlike everything (start_at f w1 w2) f n e1 e2 u1 u2
  ended_framed = record {
    map = framed;
    extends = old_in;
    ends = grow_end new_in r.ends;
    pair = record {
      alike = record {
        heap = record {
          objects = λ a b i. framed_objects a b (framed_cases a b i);
          one = record { one_right = λ a b c i j. framed_right a b c (framed_cases a b i) (framed_cases a c j); one_left = λ a b c i j. framed_left a b c (framed_cases a c i) (framed_cases b c j) };
          out = old_in _ _ p.heap.out;
        };
        statics = grow_values new_in r.pair.alike.statics;
        literals = grow_made new_in r.pair.alike.literals;
        constants = grow_made new_in r.pair.alike.constants;
        counters = r.pair.alike.counters;
        cursors = λ c k. framed_cursors c (K c) refl;
      };
      idle = record { idle_first = λ c k. absurd (true≢false k); idle_second = λ c k. absurd (true≢false k) };
      since = record {
        extends = old_in;
        fresh = λ a b i. framed_fresh a b (framed_cases a b i);
        kept_first = λ a h m. r.pair.since.kept_first a h (λ b i. m b (ext a b i));
        kept_second = λ b h m. r.pair.since.kept_second b h (λ a i. m a (ext a b i));
        grown_first = r.pair.since.grown_first;
        grown_second = r.pair.since.grown_second;
        added = r.pair.since.added;
        events_first = r.pair.since.events_first;
        events_second = r.pair.since.events_second;
      };
    };
    within = r.within;
  }

-- a migrated call ends as it does on the other side
migrated_fits : {U : Type 0} (fine : U → Bool) (look : Hook U) → LooksOn fine look → (K : ℕ → Bool) (script : Script) (p : Program) (f : Map) (w1 w2 : World) (m : ℕ) (args1 args2 : List Value) (stack : Stack) (n : ℕ) (e : End) (w1' : World) (u : U) →
    Alike everything f w1 w2 → Each (AlikeValue f) args1 args2 → w2.counters.instructions ≤ n → Migrated K script p n m args1 stack w1 e w1' → (e2 : End) (w2' : World) (u2 : U) →
    call look (eval_with look script p n) script p m args2 stack w2 u ≡ ran e2 w2' u2 → IsTrue (fine u2) → EndedAlike everything (start_at f w1 w2) f n e e2 w1' w2'
migrated_fits {U} fine look looks K script p f w1 w2 m args1 args2 stack n e w1' u a args le g e2 w2' u2 er o' =
    let k = composed (inverse g.map) f in
    let q : Alike K k g.clone w2 = alike_composed (alike_inverse g.captured) (alike_less a) in
    let us : Each (AlikeValue k) g.clone_args args2 = values_composed (flip_values g.captured_args) args in
    let run = call_faithful as_noted fine no_hold K (watch K script p) look script p (watch_keeps fine K look script p) looks (watch_fits fine K look script p) k n m g.clone_args args2 stack g.clone w2 true u q us le tt in
    let run' = subst (λ r. AlikeRan as_noted fine (no_hold {T = Bool} {U = U}) K (start_at k g.clone w2) k n (ran g.clone_end g.clone_after true) r) er
    (subst (λ r. AlikeRan as_noted fine (no_hold {T = Bool} {U = U}) K (start_at k g.clone w2) k n r (call look (eval_with look script p n) script p m args2 stack w2 u)) g.evaluated run) in
    let both_runs = ended_composed g.captured q g.merged (run' refl o').0 in
    ended_framed a (λ x y i. let h = compose_out g.map k x y i in let h' = compose_out (inverse g.map) f h.0 y h.2 in moved (g.captured.heap.one.one_left x h'.0 h.0 h.1 (back_in g.map h'.0 h.0 h'.1)) refl h'.2) both_runs

pub migrating_fits : {T U : Type 0} (ok : T → Bool) (fine : U → Bool) (Holds : T → U → List ℕ → Type 0) (K : ℕ → Bool) (hook : Hook T) (look : Hook U) (script : Script) (p : Program) → LooksOn fine look →
    HookMigrates ok fine Holds K hook look script p → HookFits ok fine Holds everything hook look script p
migrating_fits {T} {U} ok fine Holds K hook look script p looks h f w1 w2 m args1 args2 stack n t u u' a args le hd e o' =
    cases (hook.entry m args1 stack w1 t) _ (h f w1 w2 m args1 args2 stack n t u u' a args (subst (λ (c : Counters). c.instructions ≤ n) (sym a.counters) le) hd e o') refl
  where
    cases : (x : Reply T) (r2 : Ran U) → IsMigrated ok fine Holds K script p n m args1 stack w1 u' x r2 → call look (eval_with look script p n) script p m args2 stack w2 u ≡ r2 → FitsReply ok fine Holds everything (start_at f w1 w2) f n u' w1.cursors x r2
    cases (Here t') r2 i er = i
    cases (Answer e1 w1' t') (ran e2 w2' u2) i er = λ o o''. let g = i o o'' in (migrated_fits fine look looks K script p f w1 w2 m args1 args2 stack n e1 w1' u a args le g.0 e2 w2' u2 er o'', g.1)
