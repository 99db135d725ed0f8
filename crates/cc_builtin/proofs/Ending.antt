-- How steps end that begin with a look at an object.
use Rattle.std.proofs.Common.{◌≡◌, Bool, true, false, ℕ, zero, suc, ◌<◌, ◌≤◌, List, [], ◌∷◌, length, Option, Some, None, slice_get, refl, ap, sym, ◌∙◌, subst, arith}
use Rattle.std.specs.Prelude.{option_and_then, ◌^◌, ℤ, pos, nat_lt, if◌then◌else◌}
use Rattle.std.proofs.lemmas.Grind.{common_steps}
use Rattle.std.specs.Prelude.{Result, IfOk, Ok, Err}
use Rattle.cc_meaning.specs.declared.value.Value.{Value}
use Rattle.cc_meaning.specs.declared.value.Value.TheVariants as value
use Rattle.cc_meaning.specs.declared.value.Object.{Object}
use Rattle.cc_meaning.specs.declared.value.Object.TheVariants as object
use Rattle.cc_meaning.specs.declared.report.CallEnd.{CallEnd}
use Rattle.cc_meaning.specs.declared.report.CallEnd.TheVariants as end
use Rattle.cc_meaning.specs.declared.fault.Memory.{Memory}
use Rattle.cc_meaning.specs.declared.program.Program.{Program}
use Rattle.cc_meaning.specs.BuiltIn.{string_index_out_of_bounds_exception_name}
use Rattle.cc_meaning.specs.Lookup.{class_named}
use Rattle.cc_meaning_builtin.specs.declared.builtin.BuiltIn.{BuiltIn}
use Rattle.cc_meaning_builtin.specs.Rows.{built_in_numbered}
use Rattle.cc_meaning_builtin.specs.declared.builtin.Printed.{Printed}
use Rattle.cc_meaning_builtin.specs.declared.builtin.Printed.TheVariants as form
use Rattle.cc_meaning_run.specs.World.{World}
use Rattle.cc_meaning_run.specs.Acts.{Reached, found}
use Rattle.cc_heap.specs.Effects.{Held}
use Rattle.cc_heap.specs.Effects.{with_object_at as replaced}
use Rattle.cc_meaning_builtin.specs.Acts.{Act, Look, Make, Put, Append, Tell, run_act, with_field, with_object_at}
use Rattle.cc_meaning_builtin.specs.Calls.{called, act_of_call, act_of, on_some, on_text, on_printed, on_text_or_null, int_of, reference_of, text_of, is_text_of, equals_text, unit_at, unit_or_throw, throw_of, throw_new, truth, builder_of, copy_of, message_of, length_of, returns, returns_nothing, returns_object}
use Rattle.cc_builtin.specs.Ends.{Ends}
use Rattle.cc_builtin.specs.Parts.{is_equal, is_text_at, printed_in, text_at, builder_at, copy_at, message_at}

-- ---- a look at a part of an object

kept : {A : Type 0} (x : Option A) (k : A → Act) (w : World) → run_act (on_some x k) w ≡ found x w (λ x. run_act (k x) w)
unfolding on_some run_act found
kept None k w = refl
kept (Some x) k w = refl

part : {A : Type 0} (f : Object → Option A) (so : Option Object) (k : A → Act) (w : World) →
    found so w (λ o. run_act (on_some (f o) k) w) ≡ found (option_and_then f so) w (λ x. run_act (k x) w)
unfolding found
part f None k w = refl
part f (Some o) k w = kept (f o) k w

part_ends : {A : Type 0} (f : Object → Option A) (a : ℕ) (k : A → Act) (old : Held) (e : CallEnd) (new : Held) (x : A) → Some x ≡ option_and_then f (slice_get old.world.objects a) →
    Ends (run_act (k x) old.world) old e new → Ends (run_act (Look a (λ o. on_some (f o) k)) old.world) old e new
unfolding run_act found
part_ends {A = A} f a k old e new x some h =
    subst (λ (r : Reached). Ends r old e new) (sym (part f (slice_get old.world.objects a) k old.world))
    (subst (λ (y : Option A). Ends (found y old.world (λ x. run_act (k x) old.world)) old e new) some h)

no_part_ends : {A : Type 0} (f : Object → Option A) (a : ℕ) (k : A → Act) (old : Held) (e : CallEnd) (new : Held) → None ≡ option_and_then f (slice_get old.world.objects a) →
    Ends (run_act (Look a (λ o. on_some (f o) k)) old.world) old e new
unfolding run_act found
no_part_ends {A = A} f a k old e new none =
    subst (λ (r : Reached). Ends r old e new) (sym (part f (slice_get old.world.objects a) k old.world))
    (subst (λ (y : Option A). Ends (found y old.world (λ x. run_act (k x) old.world)) old e new) none tt)

pub text_ends : (a : ℕ) (k : List ℕ → Act) (old : Held) (e : CallEnd) (new : Held) (units : List ℕ) → Some units ≡ text_at old.world.objects a → Ends (run_act (k units) old.world) old e new →
    Ends (run_act (on_text a k) old.world) old e new
unfolding on_text
text_ends a k old e new units = part_ends text_of a k old e new units

pub no_text_ends : (a : ℕ) (k : List ℕ → Act) (old : Held) (e : CallEnd) (new : Held) → None ≡ text_at old.world.objects a → Ends (run_act (on_text a k) old.world) old e new
unfolding on_text
no_text_ends a k old e new = no_part_ends text_of a k old e new

pub builder_ends : (a : ℕ) (k : List ℕ → Act) (old : Held) (e : CallEnd) (new : Held) (units copy : List ℕ) → Some units ≡ builder_at old.world.objects a → copy ≡ units → Ends (run_act (k copy) old.world) old e new →
    Ends (run_act (Look a (λ o. on_some (builder_of o) k)) old.world) old e new
builder_ends a k old e new units copy some same h = part_ends builder_of a k old e new copy (ap Some same ∙ some) h

pub no_builder_ends : (a : ℕ) (k : List ℕ → Act) (old : Held) (e : CallEnd) (new : Held) → None ≡ builder_at old.world.objects a → Ends (run_act (Look a (λ o. on_some (builder_of o) k)) old.world) old e new
no_builder_ends a k old e new = no_part_ends builder_of a k old e new

pub copy_ends : (a : ℕ) (k : Object → Act) (old : Held) (e : CallEnd) (new : Held) (copy : Object) → Some copy ≡ copy_at old.world.objects a → Ends (run_act (k copy) old.world) old e new →
    Ends (run_act (Look a (λ o. on_some (copy_of o) k)) old.world) old e new
copy_ends a k old e new copy = part_ends copy_of a k old e new copy

pub no_copy_ends : (a : ℕ) (k : Object → Act) (old : Held) (e : CallEnd) (new : Held) → None ≡ copy_at old.world.objects a → Ends (run_act (Look a (λ o. on_some (copy_of o) k)) old.world) old e new
no_copy_ends a k old e new = no_part_ends copy_of a k old e new

pub message_ends : (a : ℕ) (k : Value → Act) (old : Held) (e : CallEnd) (new : Held) (v : Value) → Some v ≡ message_at old.world.objects a → Ends (run_act (k v) old.world) old e new →
    Ends (run_act (Look a (λ o. on_some (message_of o) k)) old.world) old e new
message_ends a k old e new v = part_ends message_of a k old e new v

pub no_message_ends : (a : ℕ) (k : Value → Act) (old : Held) (e : CallEnd) (new : Held) → None ≡ message_at old.world.objects a → Ends (run_act (Look a (λ o. on_some (message_of o) k)) old.world) old e new
no_message_ends a k old e new = no_part_ends message_of a k old e new

-- ---- the length of a text

counted : (b : Bool) (n : ℕ) (old : Held) → b ≡ true → Ends (run_act (on_some (if b then Some (pos n) else None) (λ n. returns (value.Int n))) old.world) old (end.Returned (Some (value.Int (pos n)))) old
unfolding on_some returns run_act
counted true n old e = (refl, refl)
counted false n old e = absurd cc

uncounted : (b : Bool) (n : ℕ) (old : Held) (e : CallEnd) (new : Held) → b ≡ false → Ends (run_act (on_some (if b then Some (pos n) else None) (λ n. returns (value.Int n))) old.world) old e new
unfolding on_some returns run_act
uncounted true n old e new h = absurd cc
uncounted false n old e new h = tt

pub length_ends : (a : ℕ) (old : Held) (units : List ℕ) (n : ℤ) → Some units ≡ text_at old.world.objects a → length units < 2 ^ 31 → n ≡ pos (length units) →
    Ends (run_act (on_text a (λ units. on_some (length_of units) (λ n. returns (value.Int n)))) old.world) old (end.Returned (Some (value.Int n))) old
unfolding length_of
length_ends a old units n some h e =
    text_ends a (λ units. on_some (length_of units) (λ n. returns (value.Int n))) old _ old units some
    (subst (λ (x : ℤ). Ends (run_act (on_some (if nat_lt (length units) (2 ^ 31) then Some (pos (length units)) else None) (λ n. returns (value.Int n))) old.world) old (end.Returned (Some (value.Int x))) old)
    (sym e) (counted (nat_lt (length units) (2 ^ 31)) (length units) old (grind (arith, common_steps, h))))

pub long_ends : (a : ℕ) (old : Held) (e : CallEnd) (new : Held) (units : List ℕ) → Some units ≡ text_at old.world.objects a → 2 ^ 31 ≤ length units →
    Ends (run_act (on_text a (λ units. on_some (length_of units) (λ n. returns (value.Int n)))) old.world) old e new
unfolding length_of
long_ends a old e new units some h =
    text_ends a (λ units. on_some (length_of units) (λ n. returns (value.Int n))) old e new units some
    (uncounted (nat_lt (length units) (2 ^ 31)) (length units) old e new (grind (arith, common_steps, h)))

-- ---- a write of a field

pub put_ends : (a : ℕ) (v : Value) (old new : Held) (o : Object) → Some o ≡ option_and_then (with_field 0 v) (slice_get old.world.objects a) → new ≡ record old { world = replaced a o old.world } →
    Ends (run_act (Put a 0 v returns_nothing) old.world) old (end.Returned None) new
unfolding run_act found returns_nothing with_object_at
put_ends a v old new o some h =
    subst (λ (x : Option Object). Ends (found x old.world (λ o. run_act returns_nothing (with_object_at old.world a o))) old (end.Returned None) new) some (refl, h)

pub no_put_ends : (a : ℕ) (v : Value) (old : Held) (e : CallEnd) (new : Held) → None ≡ option_and_then (with_field 0 v) (slice_get old.world.objects a) →
    Ends (run_act (Put a 0 v returns_nothing) old.world) old e new
unfolding run_act found
no_put_ends a v old e new none =
    subst (λ (x : Option Object). Ends (found x old.world (λ o. run_act returns_nothing (with_object_at old.world a o))) old e new) none tt

pub object_stands : (f : Object → Option Object) (objects : List Object) (a : ℕ) (o : Object) → Some o ≡ option_and_then f (slice_get objects a) → a < length objects
object_stands f [] a o e = absurd cc
object_stands f (x ∷ objects) zero o e = omega arith
object_stands f (x ∷ objects) (suc a) o e = omega (arith, object_stands f objects a o e)

-- ---- ends of what may lack memory

pub built_ends : (r : Result CallEnd Memory) (a : ℕ) (old new : Held) (units copy : List ℕ) → Some units ≡ builder_at old.world.objects a → copy ≡ units →
    IfOk r (λ e. Ends (run_act (Make (object.Text copy) returns_object) old.world) old e new) →
    IfOk r (λ e. Ends (run_act (Look a (λ o. on_some (builder_of o) (λ units. Make (object.Text units) returns_object))) old.world) old e new)
built_ends (Ok e) a old new units copy some same h = builder_ends a (λ units. Make (object.Text units) returns_object) old e new units copy some same h
built_ends (Err x) a old new units copy some same h = h

pub cloned_ends : (r : Result CallEnd Memory) (a : ℕ) (old new : Held) (copy : Object) → Some copy ≡ copy_at old.world.objects a →
    IfOk r (λ e. Ends (run_act (Make copy returns_object) old.world) old e new) →
    IfOk r (λ e. Ends (run_act (Look a (λ o. on_some (copy_of o) (λ copy. Make copy returns_object))) old.world) old e new)
cloned_ends (Ok e) a old new copy some h = copy_ends a (λ copy. Make copy returns_object) old e new copy some h
cloned_ends (Err x) a old new copy some h = h

pub any_method : (r : Result CallEnd Memory) (f : Reached) (old new : Held) → IfOk r (λ e. Ends f old e new) → IfOk r (λ e. (m : ℕ) → Ends f old e new)
any_method (Ok e) f old new h = λ m. h
any_method (Err x) f old new h = h

-- ---- exceptions

pub class_ends : (r : Result CallEnd Memory) (p : Program) (name : List ℕ) (class : ℕ) (old new : Held) → Some class ≡ class_named name p →
    IfOk r (λ e. Ends (run_act (throw_of class) old.world) old e new) → IfOk r (λ e. Ends (run_act (throw_new p name) old.world) old e new)
unfolding throw_new on_some
class_ends r p name class old new some h = subst (λ (x : Option ℕ). IfOk r (λ e. Ends (run_act (on_some x throw_of) old.world) old e new)) some h

pub no_class_ends : (p : Program) (name : List ℕ) (old : Held) (e : CallEnd) (new : Held) → None ≡ class_named name p → Ends (run_act (throw_new p name) old.world) old e new
unfolding throw_new on_some run_act
no_class_ends p name old e new none = subst (λ (x : Option ℕ). Ends (run_act (on_some x throw_of) old.world) old e new) none tt

-- ---- the rows of texts

equal_at : (so : Option Object) (units : List ℕ) (old : Held) →
    Ends (found so old.world (λ o. run_act (returns (truth (is_text_of units o))) old.world)) old (end.Returned (Some (truth (is_equal units (option_and_then text_of so))))) old
unfolding found run_act returns is_text_of text_of
equal_at None units old = tt
equal_at (Some object.Out) units old = (refl, refl)
equal_at (Some (object.Instance class values)) units old = (refl, refl)
equal_at (Some (object.Array class values)) units old = (refl, refl)
equal_at (Some (object.Text others)) units old = (refl, refl)
equal_at (Some (object.Builder others)) units old = (refl, refl)
equal_at (Some (object.Constant class)) units old = (refl, refl)

equals : (units : List ℕ) (other : Option ℕ) (old : Held) → Ends (run_act (equals_text units other) old.world) old (end.Returned (Some (truth (is_text_at old.world.objects units other)))) old
unfolding equals_text run_act returns
equals units None old = (refl, refl)
equals units (Some b) old = equal_at (slice_get old.world.objects b) units old

pub equal_ends : (a : ℕ) (other : Option ℕ) (old : Held) (units : List ℕ) (answer : Value) → Some units ≡ text_at old.world.objects a → answer ≡ truth (is_text_at old.world.objects units other) →
    Ends (run_act (on_text a (λ units. equals_text units other)) old.world) old (end.Returned (Some answer)) old
equal_ends a other old units answer some e =
    text_ends a (λ units. equals_text units other) old _ old units some
    (subst (λ (v : Value). Ends (run_act (equals_text units other) old.world) old (end.Returned (Some v)) old) (sym e) (equals units other old))

pub unit_ends : (p : Program) (a : ℕ) (i : ℤ) (old : Held) (units : List ℕ) (unit : ℕ) (v : ℤ) → Some units ≡ text_at old.world.objects a → Some unit ≡ unit_at units i → v ≡ pos unit →
    Ends (run_act (on_text a (λ units. unit_or_throw p (unit_at units i))) old.world) old (end.Returned (Some (value.Int v))) old
unfolding unit_or_throw returns run_act
unit_ends p a i old units unit v some at e =
    text_ends a (λ units. unit_or_throw p (unit_at units i)) old _ old units some
    (subst (λ (x : Option ℕ). Ends (run_act (unit_or_throw p x) old.world) old (end.Returned (Some (value.Int v))) old) at (ap (λ (z : ℤ). end.Returned (Some (value.Int z))) e, refl))

pub index_ends : (r : Result CallEnd Memory) (p : Program) (a : ℕ) (i : ℤ) (old new : Held) (units : List ℕ) → Some units ≡ text_at old.world.objects a → None ≡ unit_at units i →
    IfOk r (λ e. Ends (run_act (throw_new p string_index_out_of_bounds_exception_name) old.world) old e new) →
    IfOk r (λ e. Ends (run_act (on_text a (λ units. unit_or_throw p (unit_at units i))) old.world) old e new)
unfolding unit_or_throw
index_ends (Ok e) p a i old new units some at h =
    text_ends a (λ units. unit_or_throw p (unit_at units i)) old e new units some
    (subst (λ (x : Option ℕ). Ends (run_act (unit_or_throw p x) old.world) old e new) at h)
index_ends (Err x) p a i old new units some at h = h

pub appended_ends : (r : Result CallEnd Memory) (a from : ℕ) (old new : Held) (units copy : List ℕ) → Some units ≡ text_at old.world.objects from → copy ≡ units →
    IfOk r (λ e. Ends (run_act (Append a copy returns_nothing) old.world) old e new) →
    IfOk r (λ e. Ends (run_act (on_text from (λ units. Append a units returns_nothing)) old.world) old e new)
appended_ends (Ok e) a from old new units copy some same h = text_ends from (λ units. Append a units returns_nothing) old e new copy (ap Some same ∙ some) h
appended_ends (Err x) a from old new units copy some same h = h

-- ---- printed forms

printed_is : (form : Printed) (v : Value) (k : List ℕ → Act) (w : World) → run_act (on_printed form v k) w ≡ found (printed_in w.objects form v) w (λ units. run_act (k units) w)
unfolding on_printed on_some int_of reference_of run_act found
printed_is form.Boolean (value.Int n) k w = refl
printed_is form.Boolean (value.Long n) k w = refl
printed_is form.Boolean (value.Obj o) k w = refl
printed_is form.Char (value.Int n) k w = refl
printed_is form.Char (value.Long n) k w = refl
printed_is form.Char (value.Obj o) k w = refl
printed_is form.Int (value.Int n) k w = refl
printed_is form.Int (value.Long n) k w = refl
printed_is form.Int (value.Obj o) k w = refl
printed_is form.Long (value.Int n) k w = refl
printed_is form.Long (value.Long n) k w = refl
printed_is form.Long (value.Obj o) k w = refl
printed_is form.Text (value.Int n) k w = refl
printed_is form.Text (value.Long n) k w = refl
printed_is form.Text (value.Obj None) k w = unfold on_text_or_null in refl
printed_is form.Text (value.Obj (Some a)) k w = unfold on_text_or_null on_text in part text_of (slice_get w.objects a) k w

printed_ends : (form : Printed) (v : Value) (k : List ℕ → Act) (old : Held) (e : CallEnd) (new : Held) (units : List ℕ) → Some units ≡ printed_in old.world.objects form v →
    Ends (run_act (k units) old.world) old e new → Ends (run_act (on_printed form v k) old.world) old e new
unfolding found
printed_ends form v k old e new units some h =
    subst (λ (r : Reached). Ends r old e new) (sym (printed_is form v k old.world))
    (subst (λ (x : Option (List ℕ)). Ends (found x old.world (λ units. run_act (k units) old.world)) old e new) some h)

pub no_printed_ends : (form : Printed) (v : Value) (k : List ℕ → Act) (old : Held) (e : CallEnd) (new : Held) → None ≡ printed_in old.world.objects form v →
    Ends (run_act (on_printed form v k) old.world) old e new
unfolding found
no_printed_ends form v k old e new none =
    subst (λ (r : Reached). Ends r old e new) (sym (printed_is form v k old.world))
    (subst (λ (x : Option (List ℕ)). Ends (found x old.world (λ units. run_act (k units) old.world)) old e new) none tt)

pub printed_appends : (r : Result CallEnd Memory) (form : Printed) (v : Value) (a : ℕ) (old new : Held) (units : List ℕ) → Some units ≡ printed_in old.world.objects form v →
    IfOk r (λ e. Ends (run_act (Append a units (returns_object a)) old.world) old e new) →
    IfOk r (λ e. Ends (run_act (on_printed form v (λ units. Append a units (returns_object a))) old.world) old e new)
printed_appends (Ok e) form v a old new units some h = printed_ends form v (λ units. Append a units (returns_object a)) old e new units some h
printed_appends (Err x) form v a old new units some h = h

pub printed_tells : (r : Result CallEnd Memory) (form : Printed) (v : Value) (f : List ℕ → List ℕ) (old new : Held) (units : List ℕ) → Some units ≡ printed_in old.world.objects form v →
    IfOk r (λ e. (m : ℕ) → Ends (run_act (Tell m (f units) returns_nothing) old.world) old e new) →
    IfOk r (λ e. (m : ℕ) → Ends (run_act (on_printed form v (λ units. Tell m (f units) returns_nothing)) old.world) old e new)
printed_tells (Ok e) form v f old new units some h = λ m. printed_ends form v (λ units. Tell m (f units) returns_nothing) old e new units some (h m)
printed_tells (Err x) form v f old new units some h = h

pub tells_same : (r : Result CallEnd Memory) (units others : List ℕ) (old new : Held) → units ≡ others →
    IfOk r (λ e. (m : ℕ) → Ends (run_act (Tell m units returns_nothing) old.world) old e new) →
    IfOk r (λ e. (m : ℕ) → Ends (run_act (Tell m others returns_nothing) old.world) old e new)
tells_same r units others old new same h = subst (λ (x : List ℕ). IfOk r (λ e. (m : ℕ) → Ends (run_act (Tell m x returns_nothing) old.world) old e new)) same h

-- ---- a call

pub uncalled : (p : Program) (m : ℕ) (args : List Value) (old : Held) (e : CallEnd) (new : Held) → None ≡ built_in_numbered p m → Ends (called p m args old.world) old e new
unfolding called act_of_call on_some run_act
uncalled p m args old e new none = subst (λ (x : Option BuiltIn). Ends (run_act (on_some x (λ does. act_of p does m args)) old.world) old e new) none tt

pub no_receiver : (p : Program) (m : ℕ) (does : BuiltIn) (args : List Value) (old : Held) (e : CallEnd) (new : Held) → Some does ≡ built_in_numbered p m → length args ≡ 0 →
    Ends (called p m args old.world) old e new
unfolding called act_of_call on_some act_of run_act
no_receiver p m does [] old e new some empty = subst (λ (x : Option BuiltIn). Ends (run_act (on_some x (λ does. act_of p does m [])) old.world) old e new) some tt
no_receiver p m does (v ∷ args) old e new some empty = absurd (omega (arith, empty))

pub calls : (r : Result CallEnd Memory) (p : Program) (m : ℕ) (does : BuiltIn) (args : List Value) (receiver : Value) (rest : List Value) (old new : Held) → Some does ≡ built_in_numbered p m → args ≡ receiver ∷ rest →
    IfOk r (λ e. (m : ℕ) → Ends (run_act (act_of p does m (receiver ∷ rest)) old.world) old e new) →
    IfOk r (λ e. Ends (called p m args old.world) old e new)
unfolding called act_of_call on_some
calls (Ok e) p m does args receiver rest old new some split h =
    subst (λ (x : Option BuiltIn). Ends (run_act (on_some x (λ does. act_of p does m args)) old.world) old e new) some
    (subst (λ (xs : List Value). Ends (run_act (act_of p does m xs) old.world) old e new) (sym split) (h m))
calls (Err x) p m does args receiver rest old new some split h = h
