-- The laws from their lemmas.
use Rattle.std.proofs.Common.{◌≡◌, ℕ, Bool, true, false, List, [], ◌∷◌, Some, refl, sym, ◌∙◌, subst}
use Rattle.std.specs.Prelude.{IsTrue, ◌&&◌, ◌||◌, not, map, cond}
use Rattle.cc_meaning.specs.declared.program.Field.{Field}
use Rattle.cc_meaning.specs.declared.program.Program.{Program}
use Rattle.cc_meaning.specs.declared.script.Script.{Script}
use Rattle.cc_meaning.specs.declared.value.Value.{Value}
use Rattle.cc_meaning.specs.declared.value.Value.TheVariants as value
use Rattle.cc_meaning.specs.Kinds.{kind_of}
use Rattle.cc_meaning_world.specs.Opening.{out_object, opening_static, opening_world}
use Rattle.cc_meaning_world.specs.Scripts.{is_stateful}
use Rattle.cc_meaning_exec.specs.Eval.{Hook, call, eval_with}
use Rattle.cc_meaning_exec.specs.WorkedPrograms.{nowhere}
use Rattle.cc_meaning_alike.specs.Maps.{empty, link, In, here, there}
use Rattle.cc_meaning_alike.specs.Worlds.{Each, nil, each, linked, AlikeValue, refs, two, outs, start_at}
use Rattle.cc_meaning_alike.specs.Acts.{asks_within}
use Rattle.cc_meaning_alike.specs.Ends.{FitsReply, Keeps, LooksOn, HookFits}
use Rattle.cc_meaning_alike.specs.Laws.{RunsAreAlike, InstructionsAreAlike, BuiltInCallsAreAlike, OpeningIsAlike, no_notes, no_hold, everything, as_noted, watch, RenamingAndLocality, WholeRenaming}
use Rattle.cc_alike_laws.proofs.Runs.{run_alike, zero_alike}
use Rattle.cc_alike_laws.proofs.Insns.{act_at_alike}
use Rattle.cc_alike_laws.proofs.Rows.{call_by_itself_alike}
use Rattle.cc_alike_laws.proofs.Evals.{faithful}

pub runs_are_alike : RunsAreAlike
runs_are_alike K script p s f a1 a2 w1 w2 r q = run_alike K script p s r w1 w2 q

pub instructions_are_alike : InstructionsAreAlike
instructions_are_alike p f m pc l1 l2 u l = act_at_alike p u l m pc

pub built_in_calls_are_alike : BuiltInCallsAreAlike
built_in_calls_are_alike p f m args1 args2 u vs = call_by_itself_alike p m u vs

-- ---- no answers of a hook

pub and_first : (a b : Bool) → IsTrue (a && b) → IsTrue a
and_first true b h = refl
and_first false b h = h

pub and_second : (a b : Bool) → IsTrue (a && b) → IsTrue b
and_second true b h = h
and_second false b h = absurd (cc)

-- where nothing is wrong, nothing was
pub nowhere_looks : LooksOn no_notes nowhere
unfolding nowhere
nowhere_looks = record {
  right = record { entry = λ m args stack w t o. o; spent = λ m t o. o; called = λ m t o. o; ended = λ m e w t o. o };
  here = λ m args stack w u. (u, refl);
}

pub watch_keeps : {U : Type 0} (fine : U → Bool) (K : ℕ → Bool) (look : Hook U) (script : Script) (p : Program) → Keeps as_noted fine no_hold K (watch K script p) look script p
unfolding watch
watch_keeps fine K look script p = record {
  right = record { entry = λ m args stack w t o. o; spent = λ m t o. o; called = λ m t o. and_second (asks_within K script p m) t o; ended = λ m e w t o. o };
  asks = λ m t o. and_first (asks_within K script p m) t o;
  holds_spent = λ m cursors t u o o' h. tt;
  holds_acted = λ f w t u o o' h. tt;
  holds_ended = λ m e1 e2 w1 w2 t u o o' h. tt;
}

pub watch_fits : {U : Type 0} (fine : U → Bool) (K : ℕ → Bool) (look : Hook U) (script : Script) (p : Program) → HookFits as_noted fine no_hold K (watch K script p) look script p
unfolding watch
watch_fits fine K look script p f w1 w2 m args1 args2 stack n t u u' a vs le h e o' = λ o. tt

pub renaming_and_locality : (K : ℕ → Bool) (script : Script) (p : Program) → RenamingAndLocality K script p
renaming_and_locality K script p = faithful as_noted no_notes no_hold K (watch K script p) nowhere script p (watch_keeps no_notes K nowhere script p) nowhere_looks (watch_fits no_notes K nowhere script p)

-- ---- where all cursors agree, any answer may be taken

any_within : (script : Script) (p : Program) (m : ℕ) → IsTrue (asks_within everything script p m)
unfolding asks_within
any_within script p m = by (is_stateful script p m)
  where
    by : (b : Bool) → IsTrue (not b || true)
    by true = refl
    by false = refl

-- a hook that looks on keeps all that it has to
pub looking_keeps : {T U : Type 0} (ok : T → Bool) (fine : U → Bool) (look : Hook T) (other : Hook U) (script : Script) (p : Program) → LooksOn ok look → Keeps ok fine no_hold everything look other script p
looking_keeps ok fine look other script p looks = record {
  right = looks.right;
  asks = λ m t o. any_within script p m;
  holds_spent = λ m cursors t u o o' h. tt;
  holds_acted = λ f w t u o o' h. tt;
  holds_ended = λ m e1 e2 w1 w2 t u o o' h. tt;
}

pub looking_fits : {T U : Type 0} (ok : T → Bool) (fine : U → Bool) (look : Hook T) (other : Hook U) (script : Script) (p : Program) → LooksOn ok look → HookFits ok fine no_hold everything look other script p
looking_fits ok fine look other script p looks f w1 w2 m args1 args2 stack n t u u' a vs le h e o' =
    let here = looks.here m args1 stack w1 t in
    subst (λ x. FitsReply ok fine no_hold everything (start_at f w1 w2) f n u' w1.cursors x (call other (eval_with other script p n) script p m args2 stack w2 u)) (sym here.1) (λ o. tt)

pub whole_renaming : (script : Script) (p : Program) → WholeRenaming script p
whole_renaming script p = faithful no_notes no_notes no_hold everything nowhere nowhere script p (looking_keeps no_notes no_notes nowhere nowhere script p nowhere_looks) nowhere_looks (looking_fits no_notes no_notes nowhere nowhere script p nowhere_looks)

-- ---- the opening world

one_link : {a b : ℕ} → In (link out_object out_object empty) a b → (a ≡ out_object) × (b ≡ out_object)
one_link here = (refl, refl)
one_link (there i) = elim i [ ]

static_by : (b : Bool) (z : Value) → AlikeValue (link out_object out_object empty) z z →
    AlikeValue (link out_object out_object empty) (cond b (value.Obj (Some out_object)) z) (cond b (value.Obj (Some out_object)) z)
static_by true z r = refs (linked here)
static_by false z r = r

statics_alike : (p : Program) (fs : List Field) → Each (AlikeValue (link out_object out_object empty)) (map (opening_static p) fs) (map (opening_static p) fs)
unfolding opening_static
statics_alike p [] = nil
statics_alike p (x ∷ fs) = each (static_by _ _ (zero_alike (kind_of x.ty))) (statics_alike p fs)

pub opening_alike : OpeningIsAlike
unfolding opening_world
opening_alike K p limits = record {
  heap = record {
    objects = λ a b i. let e = one_link i in rw (e.0, e.1) (two outs);
    one = record { one_right = λ a b c i j. (one_link i).1 ∙ sym (one_link j).1; one_left = λ a b c i j. (one_link i).0 ∙ sym (one_link j).0 };
    out = here;
  };
  statics = statics_alike p p.fields;
  literals = nil;
  constants = nil;
  counters = refl;
  cursors = λ c k. refl;
}
