-- The steps that change a world.
use Rattle.std.proofs.Common.{◌≡◌, ℕ, zero, suc, ◌-◌, ◌<◌, ◌≤◌, Bool, List, [], ◌∷◌, ◌++◌, length, Option, Some, None, slice_get, refl, ap, sym, ◌∙◌, subst, arith}
use Rattle.std.specs.Prelude.{option_and_then}
use Rattle.cc_meaning.specs.declared.value.Value.{Value}
use Rattle.cc_meaning.specs.declared.value.Value.TheVariants as value
use Rattle.cc_meaning.specs.declared.value.Object.{Object}
use Rattle.cc_meaning.specs.declared.value.Object.TheVariants as object
use Rattle.cc_meaning.specs.declared.report.CallEnd.{CallEnd}
use Rattle.cc_meaning.specs.declared.report.CallEnd.TheVariants as end
use Rattle.cc_meaning.specs.declared.report.StopCause.TheVariants as cause
use Rattle.cc_meaning.specs.declared.report.Event.TheVariants as event
use Rattle.cc_meaning.specs.Words.{words_of, words_of_event}
use Rattle.cc_meaning_run.specs.World.{World}
use Rattle.cc_meaning_run.specs.Acts.{Returns, Throws, Reached, less_by, with_words, with_object, with_event, pay, found, noted}
use Rattle.cc_heap.specs.Effects.{Held, AsPaid}
use Rattle.cc_heap.specs.Effects.{with_object_at as replaced}
use Rattle.cc_meaning_builtin.specs.Acts.{Make, Append, Tell, Done, run_act, with_object_at, with_units}
use Rattle.cc_meaning_builtin.specs.Calls.{returns_nothing, returns, returns_object, throw_of, builder_of}
use Rattle.cc_builtin.specs.Ends.{Ends}
use Rattle.cc_builtin.specs.Parts.{MakesFor, Makes, given_end, thrown_end, builder_at}
use Rattle.cc_builtin.proofs.Spending.{enough, too_few}

-- ---- making

-- what is left of the words, where they were paid
left_is : (n before left : ℕ) (paid : Bool) → n ≤ before → AsPaid (less_by n before) before paid left → left ≡ before - n
left_is n before left paid h p = (subst (λ (x : Option ℕ). AsPaid x before paid left) (enough n before h) p).1

pub made : (o : Object) (n : ℕ) (old mid new : Held) (paid : Bool) → words_of o ≡ n → n ≤ old.world.counters.words →
    mid ≡ record old { world = with_object old.world o } →
    AsPaid (less_by n mid.world.counters.words) mid.world.counters.words paid new.world.counters.words →
    new ≡ record mid { world = with_words mid.world new.world.counters.words } →
    Makes o old (Some (length old.world.objects)) new
unfolding with_object with_words
made o n old mid new paid size h m p r =
    let same : mid.world.counters.words ≡ old.world.counters.words = ap (λ (x : Held). x.world.counters.words) m in
    let left : new.world.counters.words ≡ old.world.counters.words - n = left_is n old.world.counters.words new.world.counters.words paid h (subst (λ (x : ℕ). AsPaid (less_by n x) x paid new.world.counters.words) same p) in
    let after : Held → ℕ → Held = λ (x : Held) (k : ℕ). record x { world = with_words x.world k } in
    let target : Held = record old { world = with_object (with_words old.world (old.world.counters.words - n)) o } in
    let is : new ≡ target = r ∙ ap (λ (x : Held). after x new.world.counters.words) m ∙ ap (after (record old { world = with_object old.world o })) left in
    let q : less_by (words_of o) old.world.counters.words ≡ Some (old.world.counters.words - n) = ap (λ (x : ℕ). less_by x old.world.counters.words) size ∙ enough n old.world.counters.words h in
    subst (λ (x : Option ℕ). MakesFor x o old (Some (length old.world.objects)) new) (sym q) (refl, is)

pub unmade : (o : Object) (n : ℕ) (old : Held) → words_of o ≡ n → old.world.counters.words < n → Makes o old None old
unmade o n old size h =
    let q : less_by (words_of o) old.world.counters.words ≡ None = ap (λ (x : ℕ). less_by x old.world.counters.words) size ∙ too_few n old.world.counters.words h in
    subst (λ (x : Option ℕ). MakesFor x o old None old) (sym q) (refl, refl)

given_for : (l : Option ℕ) (o : Object) (old new : Held) (id : Option ℕ) → MakesFor l o old id new →
    Ends (pay l old.world (λ w'. run_act (returns_object (length w'.objects)) (with_object w' o))) old (given_end id) new
unfolding pay run_act returns_object returns with_object with_words
given_for None o old new id h = (ap given_end h.0, h.1)
given_for (Some left) o old new id h = (ap given_end h.0, h.1)

pub given_ends : (o : Object) (old new : Held) (id : Option ℕ) → Makes o old id new → Ends (run_act (Make o returns_object) old.world) old (given_end id) new
unfolding run_act
given_ends o old new id h = given_for (less_by (words_of o) old.world.counters.words) o old new id h

thrown_for : (l : Option ℕ) (o : Object) (old new : Held) (id : Option ℕ) → MakesFor l o old id new →
    Ends (pay l old.world (λ w'. run_act (Done (Throws (length w'.objects))) (with_object w' o))) old (thrown_end id) new
unfolding pay run_act with_object with_words
thrown_for None o old new id h = (ap thrown_end h.0, h.1)
thrown_for (Some left) o old new id h = (ap thrown_end h.0, h.1)

pub thrown_ends : (class : ℕ) (old new : Held) (id : Option ℕ) → Makes (object.Instance class (value.Obj None ∷ [])) old id new → Ends (run_act (throw_of class) old.world) old (thrown_end id) new
unfolding run_act throw_of
thrown_ends class old new id h = thrown_for (less_by (words_of (object.Instance class (value.Obj None ∷ []))) old.world.counters.words) (object.Instance class (value.Obj None ∷ [])) old new id h

-- ---- telling

told_for : (l : Option ℕ) (m : ℕ) (units : List ℕ) (old new : Held) (left : ℕ) → l ≡ Some left → new ≡ record old { world = with_event (with_words old.world left) (event.Print units) } →
    Ends (pay l old.world (λ w'. noted m (run_act returns_nothing (with_event w' (event.Print units))))) old (end.Returned None) new
unfolding pay run_act returns_nothing with_event with_words noted
told_for None m units old new left e h = absurd cc
told_for (Some k) m units old new left e h =
    let same : left ≡ k = cc in
    (refl, h ∙ ap (λ (x : ℕ). record old { world = with_event (with_words old.world x) (event.Print units) }) same)

pub told : (m : ℕ) (units : List ℕ) (n : ℕ) (old mid new : Held) (paid : Bool) → words_of_event (event.Print units) ≡ n → n ≤ old.world.counters.words →
    mid ≡ record old { world = with_event old.world (event.Print units) } →
    AsPaid (less_by n mid.world.counters.words) mid.world.counters.words paid new.world.counters.words →
    new ≡ record mid { world = with_words mid.world new.world.counters.words } →
    Ends (run_act (Tell m units returns_nothing) old.world) old (end.Returned None) new
unfolding with_event with_words run_act
told m units n old mid new paid size h e p r =
    let same : mid.world.counters.words ≡ old.world.counters.words = ap (λ (x : Held). x.world.counters.words) e in
    let left : new.world.counters.words ≡ old.world.counters.words - n = left_is n old.world.counters.words new.world.counters.words paid h (subst (λ (x : ℕ). AsPaid (less_by n x) x paid new.world.counters.words) same p) in
    let after : Held → ℕ → Held = λ (x : Held) (k : ℕ). record x { world = with_words x.world k } in
    let target : Held = record old { world = with_event (with_words old.world (old.world.counters.words - n)) (event.Print units) } in
    let is : new ≡ target = r ∙ ap (λ (x : Held). after x new.world.counters.words) e ∙ ap (after (record old { world = with_event old.world (event.Print units) })) left in
    let q : less_by (words_of_event (event.Print units)) old.world.counters.words ≡ Some (old.world.counters.words - n) = ap (λ (x : ℕ). less_by x old.world.counters.words) size ∙ enough n old.world.counters.words h in
    told_for (less_by (words_of_event (event.Print units)) old.world.counters.words) m units old new (old.world.counters.words - n) q is

pub untold : (m : ℕ) (units : List ℕ) (n : ℕ) (old : Held) → words_of_event (event.Print units) ≡ n → old.world.counters.words < n →
    Ends (run_act (Tell m units returns_nothing) old.world) old (end.Stopped cause.Heap) old
unfolding run_act pay
untold m units n old size h =
    let q : less_by (words_of_event (event.Print units)) old.world.counters.words ≡ None = ap (λ (x : ℕ). less_by x old.world.counters.words) size ∙ too_few n old.world.counters.words h in
    let Then : Option ℕ → Type 0 = λ (x : Option ℕ). Ends (pay x old.world (λ w'. noted m (run_act returns_nothing (with_event w' (event.Print units))))) old (end.Stopped cause.Heap) old in
    subst Then (sym q) (refl, refl)

-- ---- appending

grown : List ℕ → Option (List ℕ) → Option Object
grown more None = None
grown more (Some units) = Some (object.Builder (units ++ more))

with_units_is : (o : Object) (more : List ℕ) → with_units more o ≡ grown more (builder_of o)
unfolding with_units grown builder_of
with_units_is object.Out more = refl
with_units_is (object.Instance class values) more = refl
with_units_is (object.Array class values) more = refl
with_units_is (object.Text units) more = refl
with_units_is (object.Builder units) more = refl
with_units_is (object.Constant class) more = refl

grown_at : (so : Option Object) (more : List ℕ) → option_and_then (with_units more) so ≡ grown more (option_and_then builder_of so)
unfolding grown
grown_at None more = refl
grown_at (Some o) more = with_units_is o more

-- the steps of an append, by what the builder holds
append_act : Option (List ℕ) → (a : ℕ) → List ℕ → Option Value → World → Reached
append_act units a more answer w = found (grown more units) w (λ o. pay (less_by (length more) w.counters.words) w (λ w'. run_act (Done (Returns answer)) (with_object_at w' a o)))

append_is : (a : ℕ) (more : List ℕ) (answer : Option Value) (w : World) → run_act (Append a more (Done (Returns answer))) w ≡ append_act (builder_at w.objects a) a more answer w
unfolding append_act run_act
append_is a more answer w =
    ap (λ (x : Option Object). found x w (λ o. pay (less_by (length more) w.counters.words) w (λ w'. run_act (Done (Returns answer)) (with_object_at w' a o)))) (grown_at (slice_get w.objects a) more)

ends_at : (r s : Reached) (old : Held) (e : CallEnd) (new : Held) → r ≡ s → Ends s old e new → Ends r old e new
ends_at r s old e new is h = subst (λ (x : Reached). Ends x old e new) (sym is) h

pub no_builder : (a : ℕ) (more : List ℕ) (answer : Option Value) (old : Held) (e : CallEnd) (new : Held) → None ≡ builder_at old.world.objects a →
    Ends (run_act (Append a more (Done (Returns answer))) old.world) old e new
unfolding append_act grown found
no_builder a more answer old e new none =
    ends_at _ _ old e new (append_is a more answer old.world) (subst (λ (x : Option (List ℕ)). Ends (append_act x a more answer old.world) old e new) none tt)

pub unappended : (a : ℕ) (more units : List ℕ) (answer : Option Value) (old : Held) → Some units ≡ builder_at old.world.objects a → old.world.counters.words < length more →
    Ends (run_act (Append a more (Done (Returns answer))) old.world) old (end.Stopped cause.Heap) old
unfolding append_act grown found pay
unappended a more units answer old some h =
    let Then : Option ℕ → Type 0 = λ (x : Option ℕ). Ends (pay x old.world (λ w'. run_act (Done (Returns answer)) (with_object_at w' a (object.Builder (units ++ more))))) old (end.Stopped cause.Heap) old in
    ends_at _ _ old (end.Stopped cause.Heap) old (append_is a more answer old.world)
    (subst (λ (x : Option (List ℕ)). Ends (append_act x a more answer old.world) old (end.Stopped cause.Heap) old) some
    (subst Then (sym (too_few (length more) old.world.counters.words h)) (refl, refl)))

pub appended : (a : ℕ) (more units all : List ℕ) (answer : Option Value) (old mid new : Held) (paid : Bool) → Some units ≡ builder_at old.world.objects a → length more ≤ old.world.counters.words →
    all ≡ units ++ more →
    AsPaid (less_by (length more) old.world.counters.words) old.world.counters.words paid mid.world.counters.words →
    mid ≡ record old { world = with_words old.world mid.world.counters.words } →
    new ≡ record mid { world = replaced a (object.Builder all) mid.world } →
    Ends (run_act (Append a more (Done (Returns answer))) old.world) old (end.Returned answer) new
unfolding append_act grown found pay run_act with_words with_object_at
appended a more units all answer old mid new paid some h e p r n =
    let left : mid.world.counters.words ≡ old.world.counters.words - length more = left_is (length more) old.world.counters.words mid.world.counters.words paid h p in
    let after : Held → List ℕ → Held = λ (x : Held) (us : List ℕ). record x { world = replaced a (object.Builder us) x.world } in
    let before : ℕ → Held = λ (k : ℕ). record old { world = with_words old.world k } in
    let target : Held = after (before (old.world.counters.words - length more)) (units ++ more) in
    let is : new ≡ target = n ∙ ap (after mid) e ∙ ap (λ (x : Held). after x (units ++ more)) (r ∙ ap before left) in
    let Then : Option ℕ → Type 0 = λ (x : Option ℕ). Ends (pay x old.world (λ w'. run_act (Done (Returns answer)) (with_object_at w' a (object.Builder (units ++ more))))) old (end.Returned answer) new in
    ends_at _ _ old (end.Returned answer) new (append_is a more answer old.world)
    (subst (λ (x : Option (List ℕ)). Ends (append_act x a more answer old.world) old (end.Returned answer) new) some
    (subst Then (sym (enough (length more) old.world.counters.words h)) (refl, is)))

pub builder_stands : (objects : List Object) (a : ℕ) (units : List ℕ) → Some units ≡ builder_at objects a → a < length objects
builder_stands [] a units e = absurd cc
builder_stands (o ∷ objects) zero units e = omega arith
builder_stands (o ∷ objects) (suc a) units e = omega (arith, builder_stands objects a units e)
