-- A run under a hook whose answers fit, by induction on the bound, from the soundness of each step.
use Rattle.std.proofs.Common.{◌≡◌, ℕ, zero, suc, Bool, true, false, cond, List, [], ◌∷◌, length, Option, Some, None, refl, sym, ap, ◌∙◌, subst, slice_get}
use Rattle.std.specs.Prelude.{All, Contains}
use Rattle.cc_meaning.specs.declared.program.Catch.{Catch}
use Rattle.cc_meaning.specs.declared.program.Field.{Field}
use Rattle.cc_meaning.specs.declared.program.StaticValue.{StaticValue}
use Rattle.cc_meaning.specs.declared.program.StaticValue.TheVariants as static
use Rattle.cc_meaning.specs.declared.program.DexType.{DexType}
use Rattle.cc_meaning.specs.declared.program.Placed.{Placed}
use Rattle.cc_meaning.specs.declared.program.Program.{Program}
use Rattle.cc_meaning.specs.declared.report.StopCause.{StopCause}
use Rattle.cc_meaning.specs.declared.report.StopCause.TheVariants as cause
use Rattle.cc_meaning.specs.declared.script.Script.{Script}
use Rattle.cc_meaning.specs.declared.value.Value.{Value}
use Rattle.cc_meaning.specs.declared.value.Value.TheVariants as value
use Rattle.cc_meaning.specs.BuiltIn.{stack_overflow_error_name, no_class_def_found_error_name, exception_in_initializer_error_name}
use Rattle.cc_meaning_typing.specs.declared.state.State.{State}
use Rattle.cc_meaning_typing.specs.Registers.{register_of, register_of_kind}
use Rattle.cc_meaning_typing.specs.Types.{class_type, held, IsBelow, same}
use Rattle.cc_meaning_typing.specs.Code.{Body, string_type, throwable_type, type_made_at, placed_at, catches_at, handlers, can_throw, successors}
use Rattle.cc_meaning_typing.specs.Rules.{after as state_after, caught_type, handler_state}
use Rattle.cc_meaning_typing.specs.Typing.{Leads, IsFine}
use Rattle.cc_meaning_typing.specs.WellTyped.{WellTyped}
use Rattle.cc_meaning_world.specs.World.{World, Stack, Locals}
use Rattle.cc_meaning_world.specs.Sorts.{Sort, sort_of, type_of}
use Rattle.cc_meaning_world.specs.Changes.{with_instructions, with_status, with_statuses}
use Rattle.cc_meaning_world.specs.Acts.{Outcome, Next, Enter, Returns, Throws, Stops, Stuck, Reached, run_act}
use Rattle.cc_meaning_world.specs.Throwing.{throw_new}
use Rattle.cc_meaning_exec.specs.Instructions.{code_of, placed_in, insn_in, insn_of_method, act_at}
use Rattle.cc_meaning_exec.specs.Frames.{Frame, moved, resumed, handling, frame_for, room_for}
use Rattle.cc_meaning_exec.specs.Exceptions.{End, Returned, Thrown, Stopped, Jammed, Raised, end_of, raised_by, new_exception, overflow, handler_in, catches_in, handler_of, handler_for}
use Rattle.cc_meaning_exec.specs.Starts.{ready, failed, Climbed, climbed, class_needed, climb_from, starting, statics_from, stated_in, put_values, values_act, put_statics, initialiser_in, initialiser_of, with_failed, failed_with, all_fail, is_error_in, wrapped_if, wrapped, start_failed, start_refused}
use Rattle.cc_meaning_exec.specs.Eval.{Ran, ran, Reply, Here, Answer, Hook, Go, caught, thrown, failing, resume, told, as_ran, body_if, body, replied, call, after, told_calls, after_acts, acts_at, Fails, initialised, initialise, valued, valued_in, starts, started, opened_if, opened, turn, eval_with}
use Rattle.cc_meaning_fits.specs.Fits.{literal_sort, ValueFits, int, long, reference, FitsType, ArgumentsFit, no_more, argument_types, Heap, heap_of, Grows, RefFits, SortFits, FrameFits, exception, CallFits, ResultFits, ThrownFits, OutcomeFits, WorldFits}
use Rattle.cc_meaning_fits.specs.Premises.{IsRaised, stack_overflow, no_class, in_initializer, StatedFits, StatedIn, AllStated, ScriptFits, IsLinked, ConstructorsStand}
use Rattle.cc_meaning_fits.specs.Soundness.{Safe, EndFits, RanFits, ReplyFits, HookFits, Stands, StepIsSound, EvalIsSound}
use Rattle.cc_sound_laws.proofs.Lists.{all_contains}
use Rattle.cc_sound_laws.proofs.Growing.{frame_grows, all_grow, frame_covered, grows_trans}
use Rattle.cc_sound_laws.proofs.Acts.{at_heap, run_safe}
use Rattle.cc_sound_laws.proofs.Raising.{raise_safe}
use Rattle.cc_sound_laws.proofs.Places.{placed_here, code_is}
use Rattle.cc_sound_laws.proofs.Handlers.{handler_found, taken_below, needed_throw, climbs_none}
use Rattle.cc_sound_laws.proofs.Opening.{entry_stands}

-- an end that is an exception or a stop
pub FailsFit : Program → Heap → End → Type 0
FailsFit p h (Thrown a) = ThrownFits p h a
FailsFit p h (Stopped c) = Unit {0}
FailsFit p h (Returned v) = ⊥
FailsFit p h Jammed = ⊥

module _ {T : Type 0} (hook : Hook T) (p : Program) (linked : IsLinked p) (constructs : ConstructorsStand p) (script : Script) (scripted : ScriptFits p script) (typed : WellTyped p) (steps : StepIsSound) (answers : HookFits hook p) where
  abbrev Body_of : {h : Heap} {f : Frame} → Stands p h f → Body
  Body_of at = record { program = p; method = at.method; code = at.code }

  pub ran_later : (h h' : Heap) (type : Option DexType) (r : Ran T) → Grows h h' → RanFits p h' type r → RanFits p h type r
  ran_later h h' type (ran e w t) g f = (f.0, grows_trans h h' (heap_of w) g f.1, f.2)

  pub GoFits : Go T → Type 0
  GoFits go = (f : Frame) (w : World) (t : T) → WorldFits p w → (at : Stands p (heap_of w) f) → RanFits p (heap_of w) at.method.result (go f w t)

  later_stands : (h h' : Heap) (f : Frame) (at : Stands p h f) → Grows h h' → Stands p h' f
  later_stands h h' f at g = record {
    method = at.method;
    code = at.code;
    named = at.named;
    kind = at.kind;
    typing = at.typing;
    typed = at.typed;
    state = at.state;
    here = at.here;
    fits = frame_grows p h h' g at.code at.state f.locals at.fits;
  }

  -- a frame that fits a state that is led to stands at the address
  stand : (h h' : Heap) (f : Frame) (at : Stands p h f) (to : ℕ) (s : State) (locals : Locals) → Leads p at.typing (Some to) s → FrameFits p at.code h' s locals → Stands p h' (moved f to locals)
  stand h h' f at to s locals l fits = record {
    method = at.method;
    code = at.code;
    named = at.named;
    kind = at.kind;
    typing = at.typing;
    typed = at.typed;
    state = l.0;
    here = l.1;
    fits = frame_covered p linked.hierarchy h' at.code l.0 s locals l.2 fits;
  }

  -- ---- ends that fail

  -- an exception or a stop, in a world that fits
  abbrev pub RaisedFits : Heap → Raised → Type 0
  RaisedFits h r = WorldFits p r.world × Grows h (heap_of r.world) × FailsFit p (heap_of r.world) r.end

  pub fails_end : (h : Heap) (type : Option DexType) (e : End) → FailsFit p h e → EndFits p h type e
  unfolding FailsFit
  fails_end h type (Thrown a) f = f
  fails_end h type (Stopped c) f = tt
  fails_end h type (Returned v) f = absurd f
  fails_end h type Jammed f = absurd f

  raised_ran : (h : Heap) (type : Option DexType) (r : Raised) (t : T) → RaisedFits h r → RanFits p h type (as_ran r t)
  unfolding as_ran
  raised_ran h type r t f = (f.0, f.1, fails_end (heap_of r.world) type r.end f.2)

  -- where steps lead that throw or stop
  Failing : Heap → Outcome → Type 0
  Failing h o = FailsFit p h (end_of o)

  failing_stops : (h : Heap) (c : StopCause) → Failing h (Stops c)
  unfolding Failing FailsFit end_of
  failing_stops h c = tt

  failing_throws : (h : Heap) (a : ℕ) → ThrownFits p h a → Failing h (Throws a)
  unfolding Failing FailsFit end_of
  failing_throws h a f = f

  raised_fits : (name : List ℕ) → IsRaised name → (w : World) → WorldFits p w → RaisedFits (heap_of w) (new_exception script p name w)
  unfolding new_exception raised_by Failing
  raised_fits name r w fits =
      let e = run_safe p linked script scripted Failing failing_stops (throw_new p name) w fits (raise_safe p Failing (heap_of w) name (linked.raised name r) failing_throws) in
      (e.world, e.grows, e.leads)

  statuses_fit : (w : World) (statuses : List ℕ) → WorldFits p w → WorldFits p (with_statuses w statuses)
  unfolding with_statuses
  statuses_fit w statuses fits = record { objects = fits.objects; statics = fits.statics; literals = fits.literals; constants = fits.constants }

  status_fits : (w : World) (class status : ℕ) → WorldFits p w → WorldFits p (with_status w class status)
  unfolding with_status with_statuses
  status_fits w class status fits = record { objects = fits.objects; statics = fits.statics; literals = fits.literals; constants = fits.constants }

  -- classes that wait for a start fail with it
  failed_fits : (h : Heap) (cs : List ℕ) (e : End) (w : World) → WorldFits p w → Grows h (heap_of w) → FailsFit p (heap_of w) e → RaisedFits h (failed_with cs e w)
  unfolding failed_with with_failed with_statuses FailsFit
  failed_fits h cs (Thrown a) w fits g f = (statuses_fit w _ fits, g, f)
  failed_fits h cs (Stopped c) w fits g f = (fits, g, f)
  failed_fits h cs (Returned v) w fits g f = absurd f
  failed_fits h cs Jammed w fits g f = absurd f

  all_failed_fit : (h : Heap) (cs : List ℕ) (r : Raised) → RaisedFits h r → RaisedFits h (all_fail cs r)
  unfolding all_fail
  all_failed_fit h cs r f = failed_fits h cs r.end r.world f.0 f.1 f.2

  wrapped_fits : (b : Bool) (a : ℕ) (w : World) → WorldFits p w → ThrownFits p (heap_of w) a → RaisedFits (heap_of w) (wrapped_if b script p a w)
  unfolding wrapped_if FailsFit
  wrapped_fits true a w fits f = (fits, λ x s e. e, f)
  wrapped_fits false a w fits f = raised_fits exception_in_initializer_error_name in_initializer w fits

  start_failed_fits : (class : ℕ) (cs : List ℕ) (a : ℕ) (w : World) → WorldFits p w → ThrownFits p (heap_of w) a → RaisedFits (heap_of w) (start_failed script p class cs a w)
  unfolding start_failed wrapped with_status with_statuses
  start_failed_fits class cs a w fits f = all_failed_fit (heap_of w) cs _ (wrapped_fits (is_error_in p (slice_get w.objects a)) a (with_status w class failed) (status_fits w class failed fits) f)

  start_refused_fits : (cs : List ℕ) (w : World) → WorldFits p w → RaisedFits (heap_of w) (start_refused script p cs w)
  unfolding start_refused
  start_refused_fits cs w fits = all_failed_fit (heap_of w) cs _ (raised_fits no_class_def_found_error_name no_class w fits)

  module _ (go : Go T) (ih : GoFits go) where
    -- ---- where an instruction leads

    module _ (h : Heap) (f : Frame) (at : Stands p h f) (placed : Placed) (here : placed_at at.code f.pc ≡ Some placed) where
      fine : IsFine (Body_of at) at.typing f.pc at.state
      fine = at.typed.fine f.pc at.state at.here

      fine_placed : fine.placed ≡ placed
      fine_placed = let e = fine.stands in cc

      -- on to a successor
      go_next : (w : World) (to : ℕ) (locals : Locals) (t : T) → WorldFits p w → Contains (successors at.code placed) (Some to) → FrameFits p at.code (heap_of w) (state_after p placed.at at.state placed.insn) locals →
          RanFits p (heap_of w) at.method.result (go (moved f to locals) w t)
      unfolding GoFits stand
      go_next w to locals t fits c g =
          let e = placed_here at.code f.pc placed here in
          let g2 : FrameFits p at.code (heap_of w) (state_after p f.pc at.state placed.insn) locals = subst (λ z. FrameFits p at.code (heap_of w) (state_after p z at.state placed.insn) locals) e g in
          let all : All (λ to2. Leads p at.typing to2 (state_after p f.pc at.state placed.insn)) (successors at.code placed) = subst (λ (z : Placed). All (λ to2. Leads p at.typing to2 (state_after p f.pc at.state z.insn)) (successors at.code z)) fine_placed fine.leads in
          let l = all_contains (λ to2. Leads p at.typing to2 (state_after p f.pc at.state placed.insn)) (successors at.code placed) (Some to) all c in
          ih (moved f to locals) w t fits (stand h (heap_of w) f at to (state_after p f.pc at.state placed.insn) locals l g2)

      go_caught : (w : World) (a : ℕ) (t : T) (found : Option ℕ) (type : DexType) (sort : Sort) → heap_of w a ≡ Some sort → type ≡ type_of p sort → handler_in p (catches_at at.code f.pc) type ≡ found → WorldFits p w → Grows h (heap_of w) → ThrownFits p (heap_of w) a → can_throw placed.insn ≡ true →
          RanFits p (heap_of w) at.method.result (caught go f a found w t)
      unfolding GoFits caught handlers handler_state stand
      go_caught w a t None type sort q tq e fits g b c = (fits, λ x s d. d, b)
      go_caught w a t (Some to) type sort q tq e fits g b c =
          let x = handler_found p (catches_at at.code f.pc) type to e in
          let pe = placed_here at.code f.pc placed here in
          let all : All (λ (k : Catch). Leads p at.typing (Some k.at) (handler_state p at.state k)) (handlers at.code placed) = subst (λ (z : Placed). All (λ (k : Catch). Leads p at.typing (Some k.at) (handler_state p at.state k)) (handlers at.code z)) fine_placed fine.handled in
          let hs : handlers at.code placed ≡ catches_at at.code f.pc = rw (c, pe) refl in
          let l = all_contains (λ (k : Catch). Leads p at.typing (Some k.at) (handler_state p at.state k)) (handlers at.code placed) x.catch all (subst (λ z. Contains z x.catch) (sym hs) x.among) in
          let l2 = subst (λ z. Leads p at.typing (Some z) (handler_state p at.state x.catch)) x.is l in
          let se : b.0 ≡ sort = let q1 = b.1 in cc in
          let below : IsBelow p (held p type) (throwable_type p) = subst (λ z. IsBelow p (held p z) (throwable_type p)) (ap (type_of p) se ∙ sym tq) b.2 in
          let taken = taken_below p linked x.catch.kind type x.takes_it below in
          let ref : RefFits p (heap_of w) (caught_type p x.catch.kind) (Some a) = (sort, q, subst (λ z. IsBelow p (held p z) (caught_type p x.catch.kind)) tq taken, subst (SortFits p) se b.3) in
          ih (handling f to a) w t fits (stand h (heap_of w) f at to (handler_state p at.state x.catch) (record f.locals { pending = Some (value.Obj (Some a)) }) l2
          (record { registers = all_grow p h (heap_of w) g (type_made_at at.code) at.fits.registers; pending = exception ref }))

      go_thrown : (w : World) (a : ℕ) (t : T) → WorldFits p w → Grows h (heap_of w) → ThrownFits p (heap_of w) a → can_throw placed.insn ≡ true → RanFits p (heap_of w) at.method.result (thrown go p f a w t)
      unfolding thrown handler_for handler_of catches_in
      go_thrown w a t fits g b c =
          let x = at_heap w a b.0 b.1 in
          rw (code_is p f.method at.method at.code at.named at.kind, x.1) (go_caught w a t _ (type_of p (sort_of x.0)) b.0 b.1 (ap (type_of p) x.2) refl fits g b c)

      go_failing : (e : End) (w : World) (t : T) → WorldFits p w → Grows h (heap_of w) → FailsFit p (heap_of w) e → can_throw placed.insn ≡ true → RanFits p (heap_of w) at.method.result (failing go p f e w t)
      unfolding failing FailsFit
      go_failing (Thrown a) w t fits g b c = go_thrown w a t fits g b c
      go_failing (Stopped s) w t fits g b c = (fits, λ x q d. d, tt)
      go_failing (Returned v) w t fits g b c = absurd b
      go_failing Jammed w t fits g b c = absurd b

      go_resumed : (next : ℕ) (result : Option DexType) (h2 : Heap) (r : Ran T) → Grows h h2 → Contains (successors at.code placed) (Some next) → can_throw placed.insn ≡ true →
          ((h' : Heap) (v : Option Value) → Grows h2 h' → ResultFits p h' result v → FrameFits p at.code h' (state_after p placed.at at.state placed.insn) (record f.locals { pending = v })) →
          RanFits p h2 result r → RanFits p h2 at.method.result (resume go p f next r)
      unfolding resume
      go_resumed next result h2 (ran (Returned v) w t) g c ct back b = ran_later h2 (heap_of w) at.method.result _ b.1 (go_next w next (record f.locals { pending = v }) t b.0 c (back (heap_of w) v b.1 b.2))
      go_resumed next result h2 (ran (Thrown a) w t) g c ct back b = ran_later h2 (heap_of w) at.method.result _ b.1 (go_thrown w a t b.0 (grows_trans h h2 (heap_of w) g b.1) b.2 ct)
      go_resumed next result h2 (ran (Stopped s) w t) g c ct back b = b
      go_resumed next result h2 (ran Jammed w t) g c ct back b = absurd b.2

    -- ---- a call

    told_fits : (h : Heap) (type : Option DexType) (m : ℕ) (r : Ran T) → RanFits p h type r → RanFits p h type (told hook m r)
    unfolding told
    told_fits h type m (ran (Returned v) w t) f = f
    told_fits h type m (ran (Thrown a) w t) f = f
    told_fits h type m (ran (Stopped c) w t) f = f
    told_fits h type m (ran Jammed w t) f = f

    body_fits : (room : Bool) (m : ℕ) (args : List Value) (stack : Stack) (w : World) (t : T) → WorldFits p w → (call : CallFits p (heap_of w) m args) → RanFits p (heap_of w) call.callee.result (body_if room go script p m args stack w t)
    unfolding body_if GoFits entry_stands overflow
    body_fits true m args stack w t fits call = ih (frame_for p m args stack) w t fits (entry_stands p (heap_of w) m args stack linked typed call)
    body_fits false m args stack w t fits call = raised_ran (heap_of w) call.callee.result _ t (raised_fits stack_overflow_error_name stack_overflow w fits)

    replied_fits : (m : ℕ) (args : List Value) (stack : Stack) (w : World) (x : Reply T) → WorldFits p w → (call : CallFits p (heap_of w) m args) → ReplyFits p (heap_of w) call.callee.result x → RanFits p (heap_of w) call.callee.result (replied hook go script p m args stack w x)
    unfolding replied body
    replied_fits m args stack w (Here t) fits call f = told_fits (heap_of w) call.callee.result m _ (body_fits (room_for p m stack) m args stack w t fits call)
    replied_fits m args stack w (Answer e w' t) fits call f = f

    pub call_fits : (m : ℕ) (args : List Value) (stack : Stack) (w : World) (t : T) → WorldFits p w → (c : CallFits p (heap_of w) m args) → RanFits p (heap_of w) c.callee.result (call hook go script p m args stack w t)
    unfolding call
    call_fits m args stack w t fits c = replied_fits m args stack w (hook.entry m args stack w t) fits c (answers m args stack w t fits c)

    after_fits : (h : Heap) (f : Frame) (at : Stands p h f) (placed : Placed) → placed_at at.code f.pc ≡ Some placed → (o : Outcome) (w : World) (t : T) → WorldFits p w → Grows h (heap_of w) →
        OutcomeFits (Body_of at) placed at.state f.locals (heap_of w) o → RanFits p (heap_of w) at.method.result (after hook go script p f o w t)
    unfolding after
    after_fits h f at placed here (Next to locals) w t fits g b = go_next h f at placed here w to locals t fits b.0 b.1
    after_fits h f at placed here (Enter callee args next) w t fits g b =
        go_resumed h f at placed here next b.0.callee.result (heap_of w) _ g b.1 b.2 b.3 (call_fits callee args f.stack w t fits b.0)
    after_fits h f at placed here (Returns v) w t fits g b = (fits, λ a s e. e, b)
    after_fits h f at placed here (Throws a) w t fits g b = go_thrown h f at placed here w a t fits g b.0 b.1
    after_fits h f at placed here (Stops c) w t fits g b = (fits, λ a s e. e, b)
    after_fits h f at placed here Stuck w t fits g b = absurd b

    -- the instruction at the frame's address acts
    acts_fit : (f : Frame) (w : World) (t : T) → WorldFits p w → (at : Stands p (heap_of w) f) → RanFits p (heap_of w) at.method.result (after_acts hook go script p f (acts_at script p f w) t)
    unfolding after_acts acts_at
    acts_fit f w t fits at =
        let step = steps p linked constructs typed (heap_of w) f at in
        let e = run_safe p linked script scripted (OutcomeFits (Body_of at) step.0 at.state f.locals) (λ h c. tt) (act_at p f.method f.pc f.locals) w fits step.2 in
        ran_later (heap_of w) _ at.method.result _ e.grows (after_fits (heap_of w) f at step.0 step.1 _ _ (told_calls hook _ t) e.world e.grows e.leads)

    -- ---- the values of a class

    -- where steps lead that put values: to their end, or to a stop
    Puts : End → Type 0
    Puts (Returned v) = Unit {0}
    Puts (Stopped c) = Unit {0}
    Puts (Thrown a) = ⊥
    Puts Jammed = ⊥

    Putting : Heap → Outcome → Type 0
    Putting h o = Puts (end_of o)

    putting_stops : (h : Heap) (c : StopCause) → Putting h (Stops c)
    unfolding Putting Puts end_of
    putting_stops h c = tt

    stated_value : (x : Option Field) (field : Field) (v : StaticValue) → StatedIn p x v → x ≡ Some field → StatedFits p field.ty v
    stated_value None field v f e = absurd (cc)
    stated_value (Some g) field v f e = subst (λ (z : Field). StatedFits p z.ty v) (let q : g ≡ field = cc in q) f

    text_stated : (h : Heap) (text a : ℕ) → h a ≡ Some (literal_sort p text) → FitsType p h (string_type p) (value.Obj (Some a))
    unfolding register_of register_of_kind string_type type_of
    text_stated h text a e = reference {o = Some a} (literal_sort p text, e, same, tt)

    values_safe : (fs : List ℕ) (vs : List StaticValue) (h : Heap) → AllStated p fs vs → Safe p Putting h (put_values fs vs)
    unfolding put_values Putting Puts end_of
    values_safe (f ∷ fs) (static.Int n ∷ vs) h s = (λ field e. subst (λ z. ValueFits p h z (value.Int n)) (sym (stated_value (slice_get p.fields f) field (static.Int n) s.0 e)) int, values_safe fs vs h s.1)
    values_safe (f ∷ fs) (static.Long n ∷ vs) h s = (λ field e. subst (λ z. ValueFits p h z (value.Long n)) (sym (stated_value (slice_get p.fields f) field (static.Long n) s.0 e)) long, values_safe fs vs h s.1)
    values_safe (f ∷ fs) (static.Null ∷ vs) h s = (λ field e. subst (λ z. ValueFits p h z (value.Obj None)) (sym (stated_value (slice_get p.fields f) field static.Null s.0 e)) (reference tt), values_safe fs vs h s.1)
    values_safe (f ∷ fs) (static.Text text ∷ vs) h s = λ h' a g e.
        (λ field d. subst (λ z. FitsType p h' z (value.Obj (Some a))) (sym (stated_value (slice_get p.fields f) field (static.Text text) s.0 d)) (text_stated h' text a e), values_safe fs vs h' s.1)
    values_safe (f ∷ fs) [] h s = tt
    values_safe [] vs h s = tt

    put_fits : (class : ℕ) (w : World) → WorldFits p w → let r : Raised = put_statics script p class w in WorldFits p r.world × Grows (heap_of w) (heap_of r.world) × Puts r.end
    unfolding put_statics raised_by values_act Putting
    put_fits class w fits =
        let e = run_safe p linked script scripted Putting putting_stops (values_act p class) w fits (values_safe (statics_from class 0 p.fields) (stated_in (slice_get p.classes class)) (heap_of w) (linked.stated class)) in
        (e.world, e.grows, e.leads)

    -- ---- the start of classes

    module _ (h : Heap) (type : Option DexType) (stack : Stack) (fail : Fails T) (fails : (e : End) (w : World) (t : T) → WorldFits p w → Grows h (heap_of w) → FailsFit p (heap_of w) e → RanFits p h type (fail e w t)) where
      -- it goes on in each world that fits and has the objects of the start
      abbrev pub GoesOn : (World → T → Ran T) → Type 0
      GoesOn further = (w : World) (t : T) → WorldFits p w → Grows h (heap_of w) → RanFits p h type (further w t)

      initialised_fits : (class : ℕ) (cs : List ℕ) (further : World → T → Ran T) (result : Option DexType) (h2 : Heap) (r : Ran T) → GoesOn further → Grows h h2 → RanFits p h2 result r → RanFits p h type (initialised script p fail class cs further r)
      unfolding initialised with_status with_statuses
      initialised_fits class cs further result h2 (ran (Returned v) w t) goes g f = goes (with_status w class ready) t (status_fits w class ready f.0) (grows_trans h h2 (heap_of w) g f.1)
      initialised_fits class cs further result h2 (ran (Thrown a) w t) goes g f =
          let r = start_failed_fits class cs a w f.0 f.2 in
          fails _ _ t r.0 (grows_trans h h2 _ g (grows_trans h2 (heap_of w) _ f.1 r.1)) r.2
      initialised_fits class cs further result h2 (ran (Stopped c) w t) goes g f = (f.0, grows_trans h h2 (heap_of w) g f.1, tt)
      initialised_fits class cs further result h2 (ran Jammed w t) goes g f = absurd f.2

      initialise_fits : (class : ℕ) (cs : List ℕ) (further : World → T → Ran T) (x : Option ℕ) (w : World) (t : T) → initialiser_in (slice_get p.classes class) ≡ x → GoesOn further → WorldFits p w → Grows h (heap_of w) → RanFits p h type (initialise hook go script p stack fail class cs further x w t)
      unfolding initialise with_status with_statuses argument_types
      initialise_fits class cs further None w t e goes fits g = goes (with_status w class ready) t (status_fits w class ready fits) g
      initialise_fits class cs further (Some m) w t e goes fits g =
          let i = linked.initialisers class m e in
          let none_taken : ArgumentsFit p (heap_of w) (argument_types i.method) [] = subst (λ b. ArgumentsFit p (heap_of w) (cond b i.method.params (class_type i.method.class ∷ i.method.params)) []) (sym i.static_one) (subst (λ z. ArgumentsFit p (heap_of w) z []) (sym i.params) no_more) in
          let c : CallFits p (heap_of w) m [] = record { callee = i.method; code = i.code; named = i.there; kind = i.kind; arguments = none_taken } in
          initialised_fits class cs further i.method.result (heap_of w) _ goes g (call_fits m [] stack w t fits c)

      valued_fits : (class : ℕ) (cs : List ℕ) (further : World → T → Ran T) (e : End) (w : World) (t : T) → GoesOn further → WorldFits p w → Grows h (heap_of w) → Puts e → RanFits p h type (valued hook go script p stack fail class cs further e w t)
      unfolding Puts valued initialiser_of
      valued_fits class cs further (Returned v) w t goes fits g f = initialise_fits class cs further (initialiser_in (slice_get p.classes class)) w t refl goes fits g
      valued_fits class cs further (Stopped s) w t goes fits g f = (fits, g, tt)
      valued_fits class cs further (Thrown a) w t goes fits g f = absurd f
      valued_fits class cs further Jammed w t goes fits g f = absurd f

      pub starts_fit : (further : World → T → Ran T) (cs : List ℕ) → GoesOn further → GoesOn (starts hook go script p stack fail further cs)
      unfolding starts valued_in
      starts_fit further [] goes w t fits g = goes w t fits g
      starts_fit further (c ∷ cs) goes w t fits g =
          let r = put_fits c w fits in
          valued_fits c cs (starts hook go script p stack fail further cs) _ _ t (starts_fit further cs goes) r.0 (grows_trans h (heap_of w) _ g r.1) r.2

      -- classes that are to be started are, or a failed one stands above them
      pub opened_fits : (refused : Bool) (k : Climbed) (further : List ℕ → World → T → Ran T) (w : World) (t : T) → ((cs : List ℕ) → GoesOn (further cs)) → WorldFits p w → Grows h (heap_of w) → RanFits p h type (opened_if refused script p fail further k w t)
      unfolding opened_if with_statuses
      opened_fits true k further w t goes fits g =
          let r = start_refused_fits k.todo (with_statuses w k.statuses) (statuses_fit w k.statuses fits) in
          fails _ _ t r.0 (grows_trans h (heap_of w) _ g r.1) r.2
      opened_fits false k further w t goes fits g = goes k.todo (with_statuses w k.statuses) t (statuses_fit w k.statuses fits) g

    -- ---- a turn

    acts_later : (h : Heap) (f : Frame) (at : Stands p h f) (w : World) (t : T) → WorldFits p w → Grows h (heap_of w) → RanFits p h at.method.result (after_acts hook go script p f (acts_at script p f w) t)
    unfolding later_stands
    acts_later h f at w t fits g = ran_later h (heap_of w) at.method.result _ g (acts_fit f w t fits (later_stands h (heap_of w) f at g))

    -- the class that an instruction starts
    turn_if : (f : Frame) (w w1 : World) (t : T) → WorldFits p w1 → (at : Stands p (heap_of w1) f) (placed : Placed) → placed_at at.code f.pc ≡ Some placed → (x : Option ℕ) → class_needed p (Some placed.insn) ≡ x →
        RanFits p (heap_of w1) at.method.result (opened script p (failing go p f) (started hook go script p f) (climb_from p x w) w1 t)
    unfolding opened opened_if started starts climb_from with_statuses
    turn_if f w w1 t fits at placed here None e =
        subst (λ (z : Climbed). RanFits p (heap_of w1) at.method.result (opened_if z.refused script p (failing go p f) (started hook go script p f) z w1 t)) (sym (climbs_none p (length p.classes) w.counters.statuses))
        (acts_later (heap_of w1) f at (with_statuses w1 w.counters.statuses) t (statuses_fit w1 w.counters.statuses fits) (λ a s d. d))
    turn_if f w w1 t fits at placed here (Some class) e =
        let c = needed_throw p placed.insn class e in
        let fails : (e : End) (w' : World) (t' : T) → WorldFits p w' → Grows (heap_of w1) (heap_of w') → FailsFit p (heap_of w') e → RanFits p (heap_of w1) at.method.result (failing go p f e w' t') = λ e w' t' fits' g b. ran_later (heap_of w1) (heap_of w') at.method.result _ g (go_failing (heap_of w1) f at placed here e w' t' fits' g b c) in
        let k = climb_from p (Some class) w in
        opened_fits (heap_of w1) at.method.result f.stack (failing go p f) fails k.refused k (started hook go script p f) w1 t
        (λ cs. starts_fit (heap_of w1) at.method.result f.stack (failing go p f) fails _ cs (λ w' t' fits' g. acts_later (heap_of w1) f at w' t' fits' g)) fits (λ a s d. d)

    turn_fits : (f : Frame) (left : ℕ) (w : World) (t : T) → WorldFits p w → (at : Stands p (heap_of w) f) → RanFits p (heap_of w) at.method.result (turn hook go script p f left w t)
    unfolding turn with_instructions starting insn_of_method insn_in placed_in
    turn_fits f zero w t fits at = (fits, λ a s e. e, tt)
    turn_fits f (suc k) w t fits at =
        let step = steps p linked constructs typed (heap_of w) f at in
        rw (code_is p f.method at.method at.code at.named at.kind, step.1)
        (turn_if f w (with_instructions w k) (hook.spent f.method t) (record { objects = fits.objects; statics = fits.statics; literals = fits.literals; constants = fits.constants }) at step.0 step.1 (class_needed p (Some step.0.insn)) refl)

  pub evals_fit : (n : ℕ) → GoFits (eval_with hook script p n)
  unfolding GoFits eval_with
  evals_fit zero f w t fits at = (fits, λ a s e. e, tt)
  evals_fit (suc n) f w t fits at = turn_fits (eval_with hook script p n) (evals_fit n) f w.counters.instructions w t fits at

pub eval_sound : StepIsSound → {T : Type 0} (hook : Hook T) (script : Script) (p : Program) → EvalIsSound hook script p
unfolding GoFits
eval_sound steps hook script p linked constructs scripted typed answers n = evals_fit hook p linked constructs script scripted typed steps answers n
