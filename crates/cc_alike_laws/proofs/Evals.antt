-- Evaluation from alike frames in worlds that are alike.
use Rattle.std.proofs.Common.{◌≡◌, ℕ, zero, suc, ◌≤◌, ◌-◌, Bool, true, false, List, [], ◌∷◌, length, Option, Some, None, refl, sym, subst, arith, slice_get}
use Rattle.std.specs.Prelude.{IsTrue}
use Rattle.cc_meaning.specs.declared.program.Program.{Program}
use Rattle.cc_meaning.specs.declared.script.Script.{Script}
use Rattle.cc_meaning.specs.declared.value.Cell.TheVariants as cell
use Rattle.cc_meaning.specs.declared.value.Value.{Value}
use Rattle.cc_meaning_world.specs.World.{World, Stack, Locals}
use Rattle.cc_meaning_world.specs.Changes.{with_instructions, with_status, with_statuses}
use Rattle.cc_meaning_world.specs.Acts.{Outcome, run_act}
use Rattle.cc_meaning_exec.specs.Instructions.{insn_of_method, act_at}
use Rattle.cc_meaning_exec.specs.Frames.{cells_of, registers_of, locals_for, frame_for, room_for, no_frames}
use Rattle.cc_meaning_exec.specs.Exceptions.{End, Raised, catches_in, handler_of, handler_for}
use Rattle.cc_meaning_exec.specs.Instructions.{code_of}
use Rattle.cc_meaning_exec.specs.Starts.{ready, class_needed, class_of_main, Climbed, climb_from, starting, initialiser_of}
use Rattle.cc_meaning_exec.specs.Eval.{Ran, ran, Reply, Here, Answer, Hook, Go, caught, thrown, failing, resume, told, as_ran, body_if, body, replied, call, after, told_calls, after_acts, acts_at, Fails, initialised, initialise, valued, valued_in, starts, started, opened_if, opened, turn, eval_with}
use Rattle.cc_meaning_exec.specs.Runs.{launched, run_main}
use Rattle.cc_meaning_alike.specs.Maps.{Map, In, Extends}
use Rattle.cc_meaning_alike.specs.Worlds.{Each, nil, each, neither, both, linked, AlikeValue, ints, longs, refs, AlikeCell, unsets, highs, values, AlikeLocals, Alike, Start, Pair, start_at}
use Rattle.cc_meaning_alike.specs.Acts.{AlikeOutcome, nexts, enters, returns, throws, stops, stuck}
use Rattle.cc_meaning_alike.specs.Ends.{AlikeEnd, both_return, both_throw, both_stop, both_jam, Onward, EndedAlike, frame_at, AlikeRan, FitsReply, Keeps, LooksOn, HookFits}
use Rattle.cc_meaning_alike.specs.Laws.{HookIsFaithful, CallIsFaithful, MainIsFaithful}
use Rattle.cc_alike_laws.proofs.Maps.{each_append, each_same, same_length, grow_locals, grow_values}
use Rattle.cc_alike_laws.proofs.Worlds.{instructions_kept, status_kept, statuses_kept, idle_join, since_join, since_none}
use Rattle.cc_alike_laws.proofs.Runs.{run_alike}
use Rattle.cc_alike_laws.proofs.Insns.{act_at_alike}
use Rattle.cc_alike_laws.proofs.Quiet.{run_left}
use Rattle.cc_alike_laws.proofs.Raised.{handler_same, climbed_same, RaisedAlike, overflow_raised, statics_raised, start_failed_raised, refused_raised}
use Rattle.cc_alike_laws.proofs.Kept.{Was, GoWas, FailWas, FurtherWas, told_was, calls_within, failing_was, resume_was, body_was, call_was, after_was, after_acts_was, initialised_was, starts_was, started_was, opened_was, eval_was}

-- ---- frames

cells_alike : {f : Map} {vs1 vs2 : List Value} → Each (AlikeValue f) vs1 vs2 → Each (AlikeCell f) (cells_of vs1) (cells_of vs2)
unfolding cells_of
cells_alike nil = nil
cells_alike (each ints vs) = each (values ints) (cells_alike vs)
cells_alike (each longs vs) = each (values longs) (each highs (cells_alike vs))
cells_alike (each (refs r) vs) = each (values (refs r)) (cells_alike vs)

locals_alike : {f : Map} {vs1 vs2 : List Value} (registers : ℕ) → Each (AlikeValue f) vs1 vs2 → AlikeLocals f (locals_for registers vs1) (locals_for registers vs2)
unfolding locals_for
locals_alike {f} {vs1} {vs2} registers vs =
    let cs = cells_alike vs in
    record { cells = rw (same_length cs) (each_append (each_same (registers - length (cells_of vs2)) cell.Unset unsets) cs); pending = neither }

-- ---- from one start to another

ended_join : {K : ℕ → Bool} {s : Start} {f : Map} {n : ℕ} {e1 e2 : End} {w1 w2 u1 u2 : World} → Pair K s f w1 w2 → EndedAlike K (start_at f w1 w2) f n e1 e2 u1 u2 → EndedAlike K s f n e1 e2 u1 u2
ended_join p r = record {
  map = r.map;
  extends = r.extends;
  ends = r.ends;
  pair = record { alike = r.pair.alike; idle = idle_join _ _ _ p.idle r.pair.idle; since = since_join p.since r.pair.since };
  within = r.within;
}

fits_join : {T U : Type 0} (ok : T → Bool) (fine : U → Bool) (Holds : T → U → List ℕ → Type 0) (K : ℕ → Bool) (s : Start) (f : Map) (n : ℕ) (w1 w2 : World) (u : U) (cursors : List ℕ) (x : Reply T) (r : Ran U) → Pair K s f w1 w2 →
    FitsReply ok fine Holds K (start_at f w1 w2) f n u cursors x r → FitsReply ok fine Holds K s f n u cursors x r
fits_join ok fine Holds K s f n w1 w2 u cursors (Here t) r p h = h
fits_join ok fine Holds K s f n w1 w2 u cursors (Answer e w t) (ran e2 v u2) p h = λ o o'. let r = h o o' in (ended_join p r.0, r.1)

module _ {T U : Type 0} (ok : T → Bool) (fine : U → Bool) (Holds : T → U → List ℕ → Type 0) (K : ℕ → Bool) (script : Script) (p : Program) (hook : Hook T) (look : Hook U) (keeps : Keeps ok fine Holds K hook look script p) (looks : LooksOn fine look) (s : Start) where
  -- worlds that are alike, and what is kept holds of the first one's cursors
  abbrev pub Good : Map → T → U → World → World → Type 0
  Good f t u w1 w2 = Pair K s f w1 w2 × Holds t u w1.cursors

  abbrev pub Rel : Map → ℕ → Ran T → Ran U → Type 0
  Rel f n r1 r2 = AlikeRan ok fine Holds K s f n r1 r2

  -- an end under a larger map goes on alike
  abbrev pub FailsAlike : Map → ℕ → Fails T → Fails U → Type 0
  FailsAlike f n fail1 fail2 = (g : Map) (w1 w2 : World) (t : T) (u : U) (e1 e2 : End) → Extends f g → AlikeEnd g e1 e2 → Good g t u w1 w2 → w2.counters.instructions ≤ n → Rel g n (fail1 e1 w1 t) (fail2 e2 w2 u)

  -- what follows goes on alike under each larger map
  abbrev pub FurtherAlike : Map → ℕ → (World → T → Ran T) → (World → U → Ran U) → Type 0
  FurtherAlike f n further1 further2 = (g : Map) (w1 w2 : World) (t : T) (u : U) → Extends f g → Good g t u w1 w2 → w2.counters.instructions ≤ n → Rel g n (further1 w1 t) (further2 w2 u)

  -- from a larger map on, with fewer instructions
  later : (f g : Map) (n k : ℕ) (r1 : Ran T) (r2 : Ran U) → Extends f g → n ≤ k → Rel g n r1 r2 → Rel f k r1 r2
  later f g n k (ran e1 w1 t1) (ran e2 w2 t2) e le h = λ o o'. let x = h o o' in let r = x.0 in let within = r.within in
      (record { map = r.map; extends = λ a b i. r.extends a b (e a b i); ends = r.ends; pair = r.pair; within = omega arith }, x.1)

  -- what is noted is right at the end only if it was right before
  given_right : (f : Map) (n : ℕ) (t : T) (u : U) (r1 : Ran T) (r2 : Ran U) → Was ok t r1 → Was fine u r2 → (IsTrue (ok t) → IsTrue (fine u) → Rel f n r1 r2) → Rel f n r1 r2
  given_right f n t u (ran e1 w1 t1) (ran e2 w2 u2) was1 was2 h = λ o o'. h (was1 o) (was2 o') o o'

  onward : {f : Map} {e1 e2 : End} {H : Type 0} → AlikeEnd f e1 e2 → H → Onward e1 H
  onward (both_return v) h = h
  onward (both_throw i) h = h
  onward both_stop h = tt
  onward both_jam h = tt

  ends_with : (f : Map) (n : ℕ) (e1 e2 : End) (w1 w2 : World) (t : T) (u : U) → AlikeEnd f e1 e2 → Pair K s f w1 w2 → w2.counters.instructions ≤ n → Onward e1 (Holds t u w1.cursors) → Rel f n (ran e1 w1 t) (ran e2 w2 u)
  ends_with f n e1 e2 w1 w2 t u e q le h = λ o o'. (record { map = f; extends = λ a b i. i; ends = e; pair = q; within = le }, h)

  ends_now : (f : Map) (n : ℕ) (e1 e2 : End) (w1 w2 : World) (t : T) (u : U) → AlikeEnd f e1 e2 → Good f t u w1 w2 → w2.counters.instructions ≤ n → Rel f n (ran e1 w1 t) (ran e2 w2 u)
  ends_now f n e1 e2 w1 w2 t u e q le = ends_with f n e1 e2 w1 w2 t u e q.0 le (onward e q.1)

  -- what is kept holds where the cursors stayed
  stayed : (f : Map) (n : ℕ) (t : T) (u : U) (cs : List ℕ) (r1 r2 : Raised) → (h : RaisedAlike K s f n cs r1 r2) → Holds t u cs → Good h.map t u r1.world r2.world
  stayed f n t u cs r1 r2 h hd = (h.pair, subst (Holds t u) (sym h.stays) hd)

  raised_alike : (f : Map) (n : ℕ) (t : T) (u : U) (cs : List ℕ) (r1 r2 : Raised) → RaisedAlike K s f n cs r1 r2 → Holds t u cs → Rel f n (as_ran r1 t) (as_ran r2 u)
  unfolding as_ran
  raised_alike f n t u cs r1 r2 h hd = later f h.map n n (ran r1.end r1.world t) (ran r2.end r2.world u) h.extends (omega arith) (ends_now h.map n _ _ _ _ t u h.ends (stayed f n t u cs r1 r2 h hd) h.within)

  fails_by : (f : Map) (n : ℕ) (t : T) (u : U) (cs : List ℕ) (r1 r2 : Raised) (fail1 : Fails T) (fail2 : Fails U) → FailsAlike f n fail1 fail2 → RaisedAlike K s f n cs r1 r2 → Holds t u cs →
      Rel f n (fail1 r1.end r1.world t) (fail2 r2.end r2.world u)
  fails_by f n t u cs r1 r2 fail1 fail2 fails h hd = later f h.map n n _ _ h.extends (omega arith) (fails h.map _ _ t u _ _ h.extends h.ends (stayed f n t u cs r1 r2 h hd) h.within)

  -- a method's end is told
  told_alike : (f : Map) (n m : ℕ) (r1 : Ran T) (r2 : Ran U) → Rel f n r1 r2 → Rel f n (told hook m r1) (told look m r2)
  unfolding told
  told_alike f n m (ran e1 w1 t1) (ran e2 w2 u2) h =
      given_right f n t1 u2 _ _ (told_was ok script p hook keeps.right t1 m (ran e1 w1 t1) (λ o. o)) (told_was fine script p look looks.right u2 m (ran e2 w2 u2) (λ o. o))
      (λ o o'. let x = h o o' in let r = x.0 in later f r.map n n _ _ r.extends (omega arith) (cases r.map r.pair r.within r.ends x.1))
    where
      cases : (g : Map) → Pair K s g w1 w2 → w2.counters.instructions ≤ n → {e1 e2 : End} → AlikeEnd g e1 e2 → Onward e1 (Holds t1 u2 w1.cursors) → Rel g n (told hook m (ran e1 w1 t1)) (told look m (ran e2 w2 u2))
      cases g q le (both_return v) h = λ o o'. (record { map = g; extends = λ a b i. i; ends = both_return v; pair = q; within = le }, keeps.holds_ended m _ _ w1 w2 t1 u2 o o' h)
      cases g q le (both_throw i) h = λ o o'. (record { map = g; extends = λ a b i. i; ends = both_throw i; pair = q; within = le }, keeps.holds_ended m _ _ w1 w2 t1 u2 o o' h)
      cases g q le both_stop h = ends_with g n _ _ w1 w2 t1 u2 both_stop q le h
      cases g q le both_jam h = ends_with g n _ _ w1 w2 t1 u2 both_jam q le h

  module _ (n : ℕ) (go1 : Go T) (go2 : Go U) (was1 : GoWas ok go1) (was2 : GoWas fine go2)
      (ih : (f : Map) (w1 w2 : World) (m pc : ℕ) (stack : Stack) (l1 l2 : Locals) (t : T) (u : U) → Good f t u w1 w2 → AlikeLocals f l1 l2 → w2.counters.instructions ≤ n → Rel f n (go1 (frame_at m pc stack l1) w1 t) (go2 (frame_at m pc stack l2) w2 u))
      (fits : (f : Map) (w1 w2 : World) (m : ℕ) (args1 args2 : List Value) (stack : Stack) (t : T) (u u' : U) → Good f t u w1 w2 → Each (AlikeValue f) args1 args2 → w2.counters.instructions ≤ n → look.entry m args2 stack w2 u ≡ Here u' → IsTrue (fine u') →
      FitsReply ok fine Holds K s f n u' w1.cursors (hook.entry m args1 stack w1 t) (call look go2 script p m args2 stack w2 u)) where
    -- ---- handlers

    caught_alike : (f : Map) (w1 w2 : World) (m pc : ℕ) (stack : Stack) (l1 l2 : Locals) (a b : ℕ) (x : Option ℕ) (t : T) (u : U) → Good f t u w1 w2 → AlikeLocals f l1 l2 → In f a b → w2.counters.instructions ≤ n →
        Rel f n (caught go1 (frame_at m pc stack l1) a x w1 t) (caught go2 (frame_at m pc stack l2) b x w2 u)
    unfolding caught
    caught_alike f w1 w2 m pc stack l1 l2 a b None t u q l i le = ends_now f n _ _ w1 w2 t u (both_throw i) q le
    caught_alike f w1 w2 m pc stack l1 l2 a b (Some target) t u q l i le = ih f w1 w2 m target stack _ _ t u q (record { cells = l.cells; pending = both (refs (linked i)) }) le

    thrown_alike : (f : Map) (w1 w2 : World) (m pc : ℕ) (stack : Stack) (l1 l2 : Locals) (a b : ℕ) (t : T) (u : U) → Good f t u w1 w2 → AlikeLocals f l1 l2 → In f a b → w2.counters.instructions ≤ n →
        Rel f n (thrown go1 p (frame_at m pc stack l1) a w1 t) (thrown go2 p (frame_at m pc stack l2) b w2 u)
    unfolding thrown handler_for
    thrown_alike f w1 w2 m pc stack l1 l2 a b t u q l i le =
        subst (λ x. Rel f n (caught go1 (frame_at m pc stack l1) a (handler_of p (catches_in (code_of p m) pc) (slice_get w1.objects a)) w1 t) (caught go2 (frame_at m pc stack l2) b x w2 u))
        (handler_same p (catches_in (code_of p m) pc) (q.0.alike.heap.objects a b i))
        (caught_alike f w1 w2 m pc stack l1 l2 a b (handler_of p (catches_in (code_of p m) pc) (slice_get w1.objects a)) t u q l i le)

    failing_by : (f : Map) (m pc : ℕ) (stack : Stack) (l1 l2 : Locals) → AlikeLocals f l1 l2 → (g : Map) (w1 w2 : World) (t : T) (u : U) {e1 e2 : End} → Extends f g → AlikeEnd g e1 e2 → Good g t u w1 w2 → w2.counters.instructions ≤ n →
        Rel g n (failing go1 p (frame_at m pc stack l1) e1 w1 t) (failing go2 p (frame_at m pc stack l2) e2 w2 u)
    unfolding failing
    failing_by f m pc stack l1 l2 l g w1 w2 t u e (both_return v) q le = ends_now g n _ _ w1 w2 t u both_jam q le
    failing_by f m pc stack l1 l2 l g w1 w2 t u e (both_throw i) q le = thrown_alike g w1 w2 m pc stack l1 l2 _ _ t u q (grow_locals e l) i le
    failing_by f m pc stack l1 l2 l g w1 w2 t u e both_stop q le = ends_now g n _ _ w1 w2 t u both_stop q le
    failing_by f m pc stack l1 l2 l g w1 w2 t u e both_jam q le = ends_now g n _ _ w1 w2 t u both_jam q le

    failing_alike : (f : Map) (m pc : ℕ) (stack : Stack) (l1 l2 : Locals) → AlikeLocals f l1 l2 → FailsAlike f n (failing go1 p (frame_at m pc stack l1)) (failing go2 p (frame_at m pc stack l2))
    failing_alike f m pc stack l1 l2 l g w1 w2 t u e1 e2 e d q le = failing_by f m pc stack l1 l2 l g w1 w2 t u e d q le

    -- ---- calls

    resume_alike : (f : Map) (m pc next : ℕ) (stack : Stack) (l1 l2 : Locals) (r1 : Ran T) (r2 : Ran U) → AlikeLocals f l1 l2 → Rel f n r1 r2 →
        Rel f n (resume go1 p (frame_at m pc stack l1) next r1) (resume go2 p (frame_at m pc stack l2) next r2)
    unfolding resume
    resume_alike f m pc next stack l1 l2 (ran e1 w1 t1) (ran e2 w2 u2) l h =
        given_right f n t1 u2 _ _ (resume_was ok script p hook keeps.right go1 was1 t1 (frame_at m pc stack l1) next (ran e1 w1 t1) (λ o. o)) (resume_was fine script p look looks.right go2 was2 u2 (frame_at m pc stack l2) next (ran e2 w2 u2) (λ o. o))
        (λ o o'. let x = h o o' in let r = x.0 in later f r.map n n _ _ r.extends (omega arith) (cases r.map r.pair (grow_locals r.extends l) r.within r.ends x.1))
      where
        cases : (g : Map) → Pair K s g w1 w2 → AlikeLocals g l1 l2 → w2.counters.instructions ≤ n → {e1 e2 : End} → AlikeEnd g e1 e2 → Onward e1 (Holds t1 u2 w1.cursors) →
            Rel g n (resume go1 p (frame_at m pc stack l1) next (ran e1 w1 t1)) (resume go2 p (frame_at m pc stack l2) next (ran e2 w2 u2))
        cases g q k le (both_return v) h = ih g w1 w2 m next stack _ _ t1 u2 (q, h) (record { cells = k.cells; pending = v }) le
        cases g q k le (both_throw i) h = thrown_alike g w1 w2 m pc stack l1 l2 _ _ t1 u2 (q, h) k i le
        cases g q k le both_stop h = ends_with g n _ _ w1 w2 t1 u2 both_stop q le h
        cases g q k le both_jam h = ends_with g n _ _ w1 w2 t1 u2 both_jam q le h

    body_if_alike : (f : Map) (w1 w2 : World) (room : Bool) (m : ℕ) (args1 args2 : List Value) (stack : Stack) (t : T) (u : U) → Good f t u w1 w2 → Each (AlikeValue f) args1 args2 → w2.counters.instructions ≤ n →
        Rel f n (body_if room go1 script p m args1 stack w1 t) (body_if room go2 script p m args2 stack w2 u)
    unfolding body_if frame_for
    body_if_alike f w1 w2 true m args1 args2 stack t u q vs le = ih f w1 w2 m 0 _ _ _ t u q (locals_alike (registers_of p m) vs) le
    body_if_alike f w1 w2 false m args1 args2 stack t u q vs le = raised_alike f n t u w1.cursors _ _ (overflow_raised K script p s f n w1 w2 q.0 le) q.1

    body_alike : (f : Map) (w1 w2 : World) (m : ℕ) (args1 args2 : List Value) (stack : Stack) (t : T) (u : U) → Good f t u w1 w2 → Each (AlikeValue f) args1 args2 → w2.counters.instructions ≤ n →
        Rel f n (body go1 script p m args1 stack w1 t) (body go2 script p m args2 stack w2 u)
    unfolding body
    body_alike f w1 w2 m args1 args2 stack t u q vs le = body_if_alike f w1 w2 (room_for p m stack) m args1 args2 stack t u q vs le

    -- the other side evaluates the call, and has noted u at its entry
    replied_alike : (f : Map) (w1 w2 : World) (m : ℕ) (args1 args2 : List Value) (stack : Stack) (x : Reply T) (u : U) → Pair K s f w1 w2 → Each (AlikeValue f) args1 args2 → w2.counters.instructions ≤ n →
        (IsTrue (fine u) → FitsReply ok fine Holds K s f n u w1.cursors x (told look m (body go2 script p m args2 stack w2 u))) → Rel f n (replied hook go1 script p m args1 stack w1 x) (told look m (body go2 script p m args2 stack w2 u))
    unfolding replied
    replied_alike f w1 w2 m args1 args2 stack (Here t) u q vs le h =
        given_right f n t u _ _ (told_was ok script p hook keeps.right t m _ (body_was ok script p hook keeps.right go1 was1 m args1 stack w1 t)) (told_was fine script p look looks.right u m _ (body_was fine script p look looks.right go2 was2 m args2 stack w2 u))
        (λ o o'. told_alike f n m _ _ (body_alike f w1 w2 m args1 args2 stack t u (q, h o' o) vs le))
    replied_alike f w1 w2 m args1 args2 stack (Answer e w t) u q vs le h =
        given_right f n t u (ran e w t) _ (λ o. o) (told_was fine script p look looks.right u m _ (body_was fine script p look looks.right go2 was2 m args2 stack w2 u)) (λ o o'. h o')

    pub call_alike : (f : Map) (w1 w2 : World) (m : ℕ) (args1 args2 : List Value) (stack : Stack) (t : T) (u : U) → Good f t u w1 w2 → Each (AlikeValue f) args1 args2 → w2.counters.instructions ≤ n →
        Rel f n (call hook go1 script p m args1 stack w1 t) (call look go2 script p m args2 stack w2 u)
    unfolding call replied
    call_alike f w1 w2 m args1 args2 stack t u q vs le =
        let x = hook.entry m args1 stack w1 t in
        let h = looks.here m args2 stack w2 u in
        subst (λ y. Rel f n (replied hook go1 script p m args1 stack w1 x) (replied look go2 script p m args2 stack w2 y)) (sym h.1)
        (replied_alike f w1 w2 m args1 args2 stack x h.0 q.0 vs le
        (λ o'. subst (λ y. FitsReply ok fine Holds K s f n h.0 w1.cursors x (replied look go2 script p m args2 stack w2 y)) h.1 (fits f w1 w2 m args1 args2 stack t u h.0 q vs le h.1 o')))

    -- ---- an instruction

    after_alike : (f : Map) (w1 w2 : World) (m pc : ℕ) (stack : Stack) (l1 l2 : Locals) {o1 o2 : Outcome} (t : T) (u : U) → Good f t u w1 w2 → AlikeLocals f l1 l2 → AlikeOutcome f o1 o2 → w2.counters.instructions ≤ n →
        Rel f n (after hook go1 script p (frame_at m pc stack l1) o1 w1 t) (after look go2 script p (frame_at m pc stack l2) o2 w2 u)
    unfolding after
    after_alike f w1 w2 m pc stack l1 l2 t u q l (nexts {pc = pc'} l') le = ih f w1 w2 m pc' stack _ _ t u q l' le
    after_alike f w1 w2 m pc stack l1 l2 t u q l (enters {m = callee} {next = next} vs) le = resume_alike f m pc next stack l1 l2 _ _ l (call_alike f w1 w2 callee _ _ stack t u q vs le)
    after_alike f w1 w2 m pc stack l1 l2 t u q l (returns v) le = ends_now f n _ _ w1 w2 t u (both_return v) q le
    after_alike f w1 w2 m pc stack l1 l2 t u q l (throws i) le = thrown_alike f w1 w2 m pc stack l1 l2 _ _ t u q l i le
    after_alike f w1 w2 m pc stack l1 l2 t u q l stops le = ends_now f n _ _ w1 w2 t u both_stop q le
    after_alike f w1 w2 m pc stack l1 l2 t u q l stuck le = ends_now f n _ _ w1 w2 t u both_jam q le

    -- one instruction's act, and what follows it
    acts_alike : (f : Map) (m pc : ℕ) (stack : Stack) (l1 l2 : Locals) → AlikeLocals f l1 l2 →
        FurtherAlike f n (λ w t. after_acts hook go1 script p (frame_at m pc stack l1) (acts_at script p (frame_at m pc stack l1) w) t) (λ w u. after_acts look go2 script p (frame_at m pc stack l2) (acts_at script p (frame_at m pc stack l2) w) u)
    unfolding after_acts acts_at
    acts_alike f m pc stack l1 l2 l g w1 w2 t u e q le =
        let k = grow_locals e l in
        let r1 = run_act script p (act_at p m pc l1) w1 in
        let r2 = run_act script p (act_at p m pc l2) w2 in
        let t' = told_calls hook r1.called t in
        let u' = told_calls look r2.called u in
        given_right g n t' u' _ _ (after_was ok script p hook keeps.right go1 was1 (frame_at m pc stack l1) r1.outcome r1.world t') (after_was fine script p look looks.right go2 was2 (frame_at m pc stack l2) r2.outcome r2.world u')
        (λ o o'. let r = run_alike K script p s (act_at_alike p q.0.alike.heap.one k m pc) w1 w2 q.0 (calls_within ok K script p hook keeps.right keeps.asks r1.called t o) in
        let left = run_left w2.counters.instructions script p (act_at p m pc l2) w2 refl in
        let fine_before = subst (λ called. IsTrue (fine (told_calls look called u))) (sym r.called) o' in
        let held_after = subst (λ called. Holds t' (told_calls look called u) r1.world.cursors) r.called (keeps.holds_acted (frame_at m pc stack l1) w1 t u o fine_before q.1) in
        later g r.map n n _ _ r.extends (omega arith) (after_alike r.map _ _ m pc stack l1 l2 t' u' (r.pair, held_after) (grow_locals r.extends k) r.outcomes (omega arith)))

    -- ---- the start of classes

    module _ (stack : Stack) (fail1 : Fails T) (fail2 : Fails U) (fail_was1 : FailWas ok fail1) (fail_was2 : FailWas fine fail2) where
      initialised_alike : (f : Map) (c : ℕ) (cs : List ℕ) (further1 : World → T → Ran T) (further2 : World → U → Ran U) (r1 : Ran T) (r2 : Ran U) → FailsAlike f n fail1 fail2 →
          FurtherWas ok further1 → FurtherWas fine further2 → FurtherAlike f n further1 further2 → Rel f n r1 r2 → Rel f n (initialised script p fail1 c cs further1 r1) (initialised script p fail2 c cs further2 r2)
      unfolding initialised with_status with_statuses
      initialised_alike f c cs further1 further2 (ran e1 w1 t1) (ran e2 w2 u2) fails fw1 fw2 k h =
          given_right f n t1 u2 _ _ (initialised_was ok script p hook keeps.right go1 was1 stack fail1 fail_was1 t1 c cs further1 fw1 (ran e1 w1 t1) (λ o. o)) (initialised_was fine script p look looks.right go2 was2 stack fail2 fail_was2 u2 c cs further2 fw2 (ran e2 w2 u2) (λ o. o))
          (λ o o'. let x = h o o' in let r = x.0 in later f r.map n n _ _ r.extends (omega arith) (cases r.map r.extends r.pair r.within r.ends x.1))
        where
          cases : (g : Map) → Extends f g → Pair K s g w1 w2 → w2.counters.instructions ≤ n → {e1 e2 : End} → AlikeEnd g e1 e2 → Onward e1 (Holds t1 u2 w1.cursors) →
              Rel g n (initialised script p fail1 c cs further1 (ran e1 w1 t1)) (initialised script p fail2 c cs further2 (ran e2 w2 u2))
          cases g e q le (both_return v) h = k g _ _ t1 u2 e (status_kept q c ready, h) le
          cases g e q le (both_throw {a = a} {b = b} i) h = fails_by g n t1 u2 w1.cursors _ _ fail1 fail2 (λ h v1 v2 t u c1 c2 e'. fails h v1 v2 t u c1 c2 (λ a b i. e' a b (e a b i))) (start_failed_raised K script p s g n c cs a b w1 w2 i q le) h
          cases g e q le both_stop h = ends_with g n _ _ w1 w2 t1 u2 both_stop q le h
          cases g e q le both_jam h = ends_with g n _ _ w1 w2 t1 u2 both_jam q le h

      initialise_alike : (f : Map) (w1 w2 : World) (c : ℕ) (cs : List ℕ) (further1 : World → T → Ran T) (further2 : World → U → Ran U) (x : Option ℕ) (t : T) (u : U) → FailsAlike f n fail1 fail2 →
          FurtherWas ok further1 → FurtherWas fine further2 → FurtherAlike f n further1 further2 → Good f t u w1 w2 → w2.counters.instructions ≤ n →
          Rel f n (initialise hook go1 script p stack fail1 c cs further1 x w1 t) (initialise look go2 script p stack fail2 c cs further2 x w2 u)
      unfolding initialise with_status with_statuses
      initialise_alike f w1 w2 c cs further1 further2 None t u fails fw1 fw2 k q le = k f _ _ t u (λ a b i. i) (status_kept q.0 c ready, q.1) le
      initialise_alike f w1 w2 c cs further1 further2 (Some m) t u fails fw1 fw2 k q le = initialised_alike f c cs further1 further2 _ _ fails fw1 fw2 k (call_alike f w1 w2 m [] [] stack t u q nil le)

      valued_alike : (f : Map) (w1 w2 : World) (c : ℕ) (cs : List ℕ) (further1 : World → T → Ran T) (further2 : World → U → Ran U) {e1 e2 : End} (t : T) (u : U) → FailsAlike f n fail1 fail2 →
          FurtherWas ok further1 → FurtherWas fine further2 → FurtherAlike f n further1 further2 → AlikeEnd f e1 e2 → Good f t u w1 w2 → w2.counters.instructions ≤ n →
          Rel f n (valued hook go1 script p stack fail1 c cs further1 e1 w1 t) (valued look go2 script p stack fail2 c cs further2 e2 w2 u)
      unfolding valued
      valued_alike f w1 w2 c cs further1 further2 t u fails fw1 fw2 k (both_return v) q le = initialise_alike f w1 w2 c cs further1 further2 (initialiser_of p c) t u fails fw1 fw2 k q le
      valued_alike f w1 w2 c cs further1 further2 t u fails fw1 fw2 k (both_throw i) q le = ends_now f n _ _ w1 w2 t u both_jam q le
      valued_alike f w1 w2 c cs further1 further2 t u fails fw1 fw2 k both_stop q le = ends_now f n _ _ w1 w2 t u both_stop q le
      valued_alike f w1 w2 c cs further1 further2 t u fails fw1 fw2 k both_jam q le = ends_now f n _ _ w1 w2 t u both_jam q le

      pub starts_alike : (f : Map) (w1 w2 : World) (further1 : World → T → Ran T) (further2 : World → U → Ran U) (cs : List ℕ) (t : T) (u : U) → FailsAlike f n fail1 fail2 →
          FurtherWas ok further1 → FurtherWas fine further2 → FurtherAlike f n further1 further2 → Good f t u w1 w2 → w2.counters.instructions ≤ n →
          Rel f n (starts hook go1 script p stack fail1 further1 cs w1 t) (starts look go2 script p stack fail2 further2 cs w2 u)
      unfolding starts valued_in
      starts_alike f w1 w2 further1 further2 [] t u fails fw1 fw2 k q le = k f w1 w2 t u (λ a b i. i) q le
      starts_alike f w1 w2 further1 further2 (c ∷ cs) t u fails fw1 fw2 k q le =
          let r = statics_raised K script p s f n c w1 w2 q.0 le in
          later f r.map n n _ _ r.extends (omega arith)
          (valued_alike r.map _ _ c cs _ _ t u (λ h v1 v2 t' u' c1 c2 e. fails h v1 v2 t' u' c1 c2 (λ a b i. e a b (r.extends a b i)))
          (λ w' t'. starts_was ok script p hook keeps.right go1 was1 stack fail1 fail_was1 further1 fw1 cs w' t')
          (λ w' u'. starts_was fine script p look looks.right go2 was2 stack fail2 fail_was2 further2 fw2 cs w' u')
          (λ h v1 v2 t' u' e q' le'. starts_alike h v1 v2 further1 further2 cs t' u' (λ h' x1 x2 t'' u'' c1 c2 e'. fails h' x1 x2 t'' u'' c1 c2 (λ a b i. e' a b (e a b (r.extends a b i)))) fw1 fw2
          (λ h' x1 x2 t'' u'' e'. k h' x1 x2 t'' u'' (λ a b i. e' a b (e a b (r.extends a b i)))) q' le')
          r.ends (stayed f n t u w1.cursors _ _ r q.1) r.within)

    started_alike : (f : Map) (m pc : ℕ) (stack : Stack) (l1 l2 : Locals) (cs : List ℕ) → AlikeLocals f l1 l2 →
        FurtherAlike f n (started hook go1 script p (frame_at m pc stack l1) cs) (started look go2 script p (frame_at m pc stack l2) cs)
    unfolding started
    started_alike f m pc stack l1 l2 cs l g w1 w2 t u e q le =
        let f1 = frame_at m pc stack l1 in
        let f2 = frame_at m pc stack l2 in
        starts_alike stack _ _ (failing_was ok script p hook keeps.right go1 was1 f1) (failing_was fine script p look looks.right go2 was2 f2) g w1 w2 _ _ cs t u (failing_alike g m pc stack l1 l2 (grow_locals e l))
        (λ w' t'. after_acts_was ok script p hook keeps.right go1 was1 f1 (acts_at script p f1 w') t') (λ w' u'. after_acts_was fine script p look looks.right go2 was2 f2 (acts_at script p f2 w') u')
        (acts_alike g m pc stack l1 l2 (grow_locals e l)) q le

    opened_if_alike : (f : Map) (w1 w2 : World) (fail1 : Fails T) (fail2 : Fails U) (further1 : List ℕ → World → T → Ran T) (further2 : List ℕ → World → U → Ran U) (b : Bool) (k : Climbed) (t : T) (u : U) →
        FailsAlike f n fail1 fail2 → ((cs : List ℕ) → FurtherAlike f n (further1 cs) (further2 cs)) → Good f t u w1 w2 → w2.counters.instructions ≤ n →
        Rel f n (opened_if b script p fail1 further1 k w1 t) (opened_if b script p fail2 further2 k w2 u)
    unfolding opened_if with_statuses
    opened_if_alike f w1 w2 fail1 fail2 further1 further2 true k t u fails further q le = fails_by f n t u w1.cursors _ _ fail1 fail2 fails (refused_raised K script p s f n k.todo _ _ (statuses_kept q.0 k.statuses) le) q.1
    opened_if_alike f w1 w2 fail1 fail2 further1 further2 false k t u fails further q le = further k.todo f _ _ t u (λ a b i. i) (statuses_kept q.0 k.statuses, q.1) le

    pub opened_alike : (f : Map) (w1 w2 : World) (fail1 : Fails T) (fail2 : Fails U) (further1 : List ℕ → World → T → Ran T) (further2 : List ℕ → World → U → Ran U) (k1 k2 : Climbed) (t : T) (u : U) → k1 ≡ k2 →
        FailsAlike f n fail1 fail2 → ((cs : List ℕ) → FurtherAlike f n (further1 cs) (further2 cs)) → Good f t u w1 w2 → w2.counters.instructions ≤ n →
        Rel f n (opened script p fail1 further1 k1 w1 t) (opened script p fail2 further2 k2 w2 u)
    unfolding opened
    opened_alike f w1 w2 fail1 fail2 further1 further2 k1 k2 t u e fails further q le =
        subst (λ k. Rel f n (opened_if k1.refused script p fail1 further1 k1 w1 t) (opened_if k.refused script p fail2 further2 k w2 u)) e (opened_if_alike f w1 w2 fail1 fail2 further1 further2 k1.refused k1 t u fails further q le)

    -- ---- a turn

    turn_alike : (f : Map) (w1 w2 : World) (m pc : ℕ) (stack : Stack) (l1 l2 : Locals) (left : ℕ) (t : T) (u : U) → Good f t u w1 w2 → AlikeLocals f l1 l2 → w2.counters.instructions ≡ left → left ≤ suc n →
        Rel f (suc n) (turn hook go1 script p (frame_at m pc stack l1) left w1 t) (turn look go2 script p (frame_at m pc stack l2) left w2 u)
    unfolding turn with_instructions starting
    turn_alike f w1 w2 m pc stack l1 l2 zero t u q l e le = ends_now f (suc n) _ _ w1 w2 t u both_stop q (omega arith)
    turn_alike f w1 w2 m pc stack l1 l2 (suc k) t u q l e le =
        let f1 = frame_at m pc stack l1 in
        let f2 = frame_at m pc stack l2 in
        let t' = hook.spent m t in
        let u' = look.spent m u in
        given_right f (suc n) t' u' _ _
        (opened_was ok script p hook keeps.right go1 was1 (failing go1 p f1) (failing_was ok script p hook keeps.right go1 was1 f1) (started hook go1 script p f1) (started_was ok script p hook keeps.right go1 was1 f1) (starting p f1 w1) (with_instructions w1 k) t')
        (opened_was fine script p look looks.right go2 was2 (failing go2 p f2) (failing_was fine script p look looks.right go2 was2 f2) (started look go2 script p f2) (started_was fine script p look looks.right go2 was2 f2) (starting p f2 w2) (with_instructions w2 k) u')
        (λ o o'. later f f n (suc n) _ _ (λ a b i. i) (omega arith)
        (opened_alike f (with_instructions w1 k) (with_instructions w2 k) (failing go1 p f1) (failing go2 p f2) (started hook go1 script p f1) (started look go2 script p f2) (starting p f1 w1) (starting p f2 w2) t' u'
        (climbed_same p (class_needed p (insn_of_method p m pc)) w1 w2 q.0.alike.counters) (failing_alike f m pc stack l1 l2 l) (λ cs. started_alike f m pc stack l1 l2 cs l)
        (instructions_kept q.0 k, keeps.holds_spent m w1.cursors t u o o' q.1) (omega arith)))

  -- answers that are right from each pair of worlds are so from each later one
  answers_fit : HookFits ok fine Holds K hook look script p → (n : ℕ) (f : Map) (w1 w2 : World) (m : ℕ) (args1 args2 : List Value) (stack : Stack) (t : T) (u u' : U) → Good f t u w1 w2 → Each (AlikeValue f) args1 args2 →
      w2.counters.instructions ≤ n → look.entry m args2 stack w2 u ≡ Here u' → IsTrue (fine u') →
      FitsReply ok fine Holds K s f n u' w1.cursors (hook.entry m args1 stack w1 t) (call look (eval_with look script p n) script p m args2 stack w2 u)
  answers_fit fits n f w1 w2 m args1 args2 stack t u u' q vs le e o' = fits_join ok fine Holds K s f n w1 w2 u' w1.cursors _ _ q.0 (fits f w1 w2 m args1 args2 stack n t u u' q.0.alike vs le q.1 e o')

  abbrev eval1 : ℕ → Go T
  eval1 n = eval_with hook script p n

  abbrev eval2 : ℕ → Go U
  eval2 n = eval_with look script p n

  evals_were1 : (n : ℕ) → GoWas ok (eval1 n)
  evals_were1 n = eval_was ok script p hook keeps.right n

  evals_were2 : (n : ℕ) → GoWas fine (eval2 n)
  evals_were2 n = eval_was fine script p look looks.right n

  eval_alike : HookFits ok fine Holds K hook look script p → (n : ℕ) (f : Map) (w1 w2 : World) (m pc : ℕ) (stack : Stack) (l1 l2 : Locals) (t : T) (u : U) → Good f t u w1 w2 → AlikeLocals f l1 l2 → w2.counters.instructions ≤ n →
      Rel f n (eval_with hook script p n (frame_at m pc stack l1) w1 t) (eval_with look script p n (frame_at m pc stack l2) w2 u)
  unfolding eval_with
  eval_alike fits zero f w1 w2 m pc stack l1 l2 t u q l le = ends_now f zero _ _ w1 w2 t u both_stop q le
  eval_alike fits (suc n) f w1 w2 m pc stack l1 l2 t u q l le =
      subst (λ c. Rel f (suc n) (turn hook (eval1 n) script p (frame_at m pc stack l1) c.instructions w1 t) (turn look (eval2 n) script p (frame_at m pc stack l2) w2.counters.instructions w2 u)) (sym q.0.alike.counters)
      (turn_alike n (eval1 n) (eval2 n) (evals_were1 n) (evals_were2 n) (eval_alike fits n) (answers_fit fits n) f w1 w2 m pc stack l1 l2 w2.counters.instructions t u q l refl le)

  -- ---- calls and whole runs

  module _ (fits : HookFits ok fine Holds K hook look script p) (n : ℕ) where
    pub calls_alike : (f : Map) (w1 w2 : World) (m : ℕ) (args1 args2 : List Value) (stack : Stack) (t : T) (u : U) → Good f t u w1 w2 → Each (AlikeValue f) args1 args2 → w2.counters.instructions ≤ n →
        Rel f n (call hook (eval1 n) script p m args1 stack w1 t) (call look (eval2 n) script p m args2 stack w2 u)
    calls_alike f w1 w2 m args1 args2 stack t u q vs le = call_alike n (eval1 n) (eval2 n) (evals_were1 n) (evals_were2 n) (eval_alike fits n) (answers_fit fits n) f w1 w2 m args1 args2 stack t u q vs le

    -- an exception or a stop before `main` is the run's end
    run_ends : (f : Map) → FailsAlike f n ran ran
    run_ends f g w1 w2 t u e1 e2 e d q le = ends_now g n e1 e2 w1 w2 t u d q le

    launched_alike : (f : Map) (m : ℕ) (args1 args2 : List Value) (cs : List ℕ) → Each (AlikeValue f) args1 args2 →
        FurtherAlike f n (launched hook (eval1 n) script p m args1 cs) (launched look (eval2 n) script p m args2 cs)
    unfolding launched
    launched_alike f m args1 args2 cs vs g w1 w2 t u e q le =
        starts_alike n (eval1 n) (eval2 n) (evals_were1 n) (evals_were2 n) (eval_alike fits n) (answers_fit fits n) no_frames ran ran (λ e w t o. o) (λ e w u o. o) g w1 w2 _ _ cs t u (run_ends g)
        (λ w' t'. call_was ok script p hook keeps.right (eval1 n) (evals_were1 n) m args1 no_frames w' t') (λ w' u'. call_was fine script p look looks.right (eval2 n) (evals_were2 n) m args2 no_frames w' u')
        (λ h v1 v2 t' u' e' q' le'. calls_alike h v1 v2 m args1 args2 no_frames t' u' q' (grow_values (λ a b i. e' a b (e a b i)) vs) le') q le

    pub main_alike : (f : Map) (w1 w2 : World) (args1 args2 : List Value) (t : T) (u : U) → Good f t u w1 w2 → Each (AlikeValue f) args1 args2 → w2.counters.instructions ≤ n →
        Rel f n (run_main hook script p n args1 w1 t) (run_main look script p n args2 w2 u)
    unfolding run_main
    main_alike f w1 w2 args1 args2 t u q vs le =
        opened_alike n (eval1 n) (eval2 n) (evals_were1 n) (evals_were2 n) (eval_alike fits n) (answers_fit fits n) f w1 w2 ran ran
        (launched hook (eval1 n) script p p.main args1) (launched look (eval2 n) script p p.main args2) (climb_from p (class_of_main p) w1) (climb_from p (class_of_main p) w2) t u
        (climbed_same p (class_of_main p) w1 w2 q.0.alike.counters) (run_ends f) (λ cs. launched_alike f p.main args1 args2 cs vs) q le

-- two worlds that are alike are a pair where a run begins
pub begun_pair : {K : ℕ → Bool} {f : Map} {w1 w2 : World} → Alike K f w1 w2 → Pair K (start_at f w1 w2) f w1 w2
begun_pair {f = f} {w1 = w1} {w2 = w2} a = record { alike = a; idle = record { idle_first = λ c k. refl; idle_second = λ c k. refl }; since = since_none f w1 w2 }

module _ {T U : Type 0} (ok : T → Bool) (fine : U → Bool) (Holds : T → U → List ℕ → Type 0) (K : ℕ → Bool) (hook : Hook T) (look : Hook U) (script : Script) (p : Program)
    (keeps : Keeps ok fine Holds K hook look script p) (looks : LooksOn fine look) (fits : HookFits ok fine Holds K hook look script p) where
  pub faithful : HookIsFaithful ok fine Holds K hook look script p
  faithful f n m pc stack l1 l2 w1 w2 t u a l le hd = eval_alike ok fine Holds K script p hook look keeps looks (start_at f w1 w2) fits n f w1 w2 m pc stack l1 l2 t u (begun_pair a, hd) l le

  -- the same from the call of a method on
  pub call_faithful : CallIsFaithful ok fine Holds K hook look script p
  call_faithful f n m args1 args2 stack w1 w2 t u a vs le hd = calls_alike ok fine Holds K script p hook look keeps looks (start_at f w1 w2) fits n f w1 w2 m args1 args2 stack t u (begun_pair a, hd) vs le

  -- and from the start of the class of `main` on
  pub main_faithful : MainIsFaithful ok fine Holds K hook look script p
  main_faithful f n args1 args2 w1 w2 t u a vs le hd = main_alike ok fine Holds K script p hook look keeps looks (start_at f w1 w2) fits n f w1 w2 args1 args2 t u (begun_pair a, hd) vs le
