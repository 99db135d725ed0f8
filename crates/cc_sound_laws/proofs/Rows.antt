-- Each built-in method is safe with a receiver and arguments that fit: one lemma for each.
use Rattle.std.proofs.Common.{◌≡◌, ℕ, ℤ, pos, Bool, true, false, List, [], ◌∷◌, Option, Some, None, refl, sym, ap, ◌∙◌, subst, slice_get}
use Rattle.cc_meaning.specs.declared.program.DexType.{DexType}
use Rattle.cc_meaning.specs.declared.program.Base.TheVariants as base
use Rattle.cc_meaning.specs.declared.program.Method.{Method}
use Rattle.cc_meaning.specs.declared.program.Program.{Program}
use Rattle.cc_meaning.specs.declared.program.RegType.TheVariants.{Int, LongLow, Reference}
use Rattle.cc_meaning.specs.declared.report.StopCause.{StopCause}
use Rattle.cc_meaning.specs.declared.value.Object.{Object}
use Rattle.cc_meaning.specs.declared.value.Object.TheVariants as object
use Rattle.cc_meaning.specs.declared.value.Value.{Value}
use Rattle.cc_meaning.specs.declared.value.Value.TheVariants as value
use Rattle.cc_meaning.specs.BuiltIn.{string_name, string_builder_name, throwable_name, null_pointer_exception_name, string_index_out_of_bounds_exception_name}
use Rattle.cc_meaning_rows.specs.declared.builtin.BuiltIn.{BuiltIn}
use Rattle.cc_meaning_rows.specs.declared.builtin.BuiltIn.TheVariants as row
use Rattle.cc_meaning_rows.specs.declared.builtin.Printed.{Printed}
use Rattle.cc_meaning_rows.specs.declared.builtin.Printed.TheVariants as form
use Rattle.cc_meaning_typing.specs.Types.{object_type, array_of, typed, class_type, held, IsBelow, same}
use Rattle.cc_meaning_typing.specs.Registers.{register_of, register_of_kind}
use Rattle.cc_meaning_typing.specs.Code.{type_of_class, string_type, throwable_type}
use Rattle.cc_meaning_typing.proofs.Lattice.{below_trans}
use Rattle.cc_sound_laws.proofs.Acts.{sort_fits}
use Rattle.cc_sound_laws.proofs.Raising.{raise_safe}
use Rattle.cc_sound_laws.proofs.Known.{array_known, object_held, made_of, held_plain, text_sort, builder_sort, throwable_sort, IsInstance}
use Rattle.cc_meaning_fits.specs.Fits.{Heap, Grows, RefFits, ValueFits, int as an_int, long as a_long, reference as a_reference, FitsType, SortFits, ResultFits, void, gives, ArgumentsFit, no_more, one, ThrownFits}
use Rattle.cc_meaning_fits.specs.Premises.{string, string_builder, IsRaised, null_pointer, text_bounds, IsLinked, printed_type, Signature}
use Rattle.cc_meaning_fits.specs.Soundness.{Takes, Safe}
use Rattle.cc_meaning_rows.specs.Calls.{copy_of, message_of, text_of, builder_of, truth, equals_text, unit_at, on_text, on_text_or_null, on_printed, row_act}
use Rattle.cc_meaning_world.specs.Acts.{Outcome, Throws, Stops, Act}
use Rattle.cc_meaning_world.specs.Sorts.{Sort, Text, Builder, sort_of, number_of, type_of}
use Rattle.cc_meaning_world.specs.Throwing.{on_some, on_object, throw_new, or_throw}

-- ---- arguments by their types

no_argument : (p : Program) (h : Heap) {types : List DexType} {vs : List Value} → ArgumentsFit p h types vs → types ≡ [] → vs ≡ []
no_argument p h no_more e = refl
no_argument p h (one f fs) e = absurd (cc)

record IsOne (p : Program) (h : Heap) (type : DexType) (vs : List Value) : Type 0 where
  pub value : Value
  pub is : vs ≡ value ∷ []
  pub fits : FitsType p h type value

one_argument : (p : Program) (h : Heap) {types : List DexType} {vs : List Value} (type : DexType) → ArgumentsFit p h types vs → types ≡ type ∷ [] → IsOne p h type vs
one_argument p h type no_more e = absurd (cc)
one_argument p h type (one {type = t} {types = ts} {v = v} {vs = vs} f fs) e =
    let q : t ≡ type = cc in
    let r : ts ≡ [] = cc in
    record { value = v; is = ap (λ z. v ∷ z) (no_argument p h fs r); fits = subst (λ z. FitsType p h z v) q f }

record IsRef (p : Program) (h : Heap) (type : DexType) (v : Value) : Type 0 where
  pub object : Option ℕ
  pub is : v ≡ value.Obj object
  pub fits : RefFits p h (held p type) object

class_value : (p : Program) (h : Heap) (class : ℕ) (v : Value) → FitsType p h (class_type class) v → IsRef p h (class_type class) v
unfolding register_of register_of_kind
class_value p h class v f = go f
  where
    go : {v : Value} → ValueFits p h (Reference (held p (class_type class))) v → IsRef p h (class_type class) v
    go (a_reference {o = o} g) = record { object = o; is = refl; fits = g }

int_value : (p : Program) (h : Heap) {v : Value} → ValueFits p h Int v → (n : ℤ) × (v ≡ value.Int n)
int_value p h (an_int {n = n}) = (n, refl)

long_value : (p : Program) (h : Heap) {v : Value} → ValueFits p h LongLow v → (n : ℤ) × (v ≡ value.Long n)
long_value p h (a_long {n = n}) = (n, refl)

truth_fits : (p : Program) (h : Heap) (b : Bool) → ValueFits p h Int (truth b)
unfolding truth
truth_fits p h true = an_int
truth_fits p h false = an_int

text_object : (o : Object) → (other : List ℕ) → sort_of o ≡ Text other → (units : List ℕ) × (text_of o ≡ Some units)
unfolding sort_of text_of
text_object (object.Text units) other e = (units, refl)
text_object object.Out other e = absurd (cc)
text_object (object.Instance class values) other e = absurd (cc)
text_object (object.Array class values) other e = absurd (cc)
text_object (object.Builder units) other e = absurd (cc)
text_object (object.Constant class) other e = absurd (cc)

builder_object : (o : Object) → sort_of o ≡ Builder → (units : List ℕ) × (builder_of o ≡ Some units)
unfolding sort_of builder_of
builder_object (object.Builder units) e = (units, refl)
builder_object object.Out e = absurd (cc)
builder_object (object.Instance class values) e = absurd (cc)
builder_object (object.Array class values) e = absurd (cc)
builder_object (object.Text units) e = absurd (cc)
builder_object (object.Constant class) e = absurd (cc)

message_at : (class : ℕ) (values : List Value) (v : Value) → slice_get values 0 ≡ Some v → message_of (object.Instance class values) ≡ Some v
unfolding message_of
message_at class values v d = d

copy_is : (o : Object) (class : ℕ) (values : List Value) → o ≡ object.Array class values → copy_of o ≡ Some o
unfolding copy_of
copy_is o class values e = subst (λ z. copy_of z ≡ Some z) (sym e) refl

object_above : (p : Program) (linked : IsLinked p) (t : DexType) → IsBelow p t (held p (object_type p))
object_above p linked t = object_held p linked t

module _ (p : Program) (linked : IsLinked p) (Q : Heap → Outcome → Type 0) (throws : (h : Heap) (a : ℕ) → ThrownFits p h a → Q h (Throws a)) (stops : (h : Heap) (c : StopCause) → Q h (Stops c)) where
  some_safe : {A : Type 0} (h : Heap) (x : Option A) (y : A) (k : A → Act) → x ≡ Some y → Safe p Q h (k y) → Safe p Q h (on_some x k)
  unfolding on_some
  some_safe h x y k e g = subst (λ z. Safe p Q h (on_some z k)) (sym e) g

  raise : (h : Heap) (name : List ℕ) → IsRaised name → Safe p Q h (throw_new p name)
  raise h name r = raise_safe p Q h name (linked.raised name r) throws

  text_held : held p (string_type p) ≡ class_type (number_of p string_name)
  unfolding string_type number_of
  text_held = held_plain p linked (number_of p string_name) linked.text_held

  -- the result of a method is followed by what is safe
  abbrev Follow : Heap → Option DexType → (Option Value → Act) → Type 0
  Follow h type k = (h' : Heap) (v : Option Value) → Grows h h' → ResultFits p h' type v → Safe p Q h' (k v)

  stays : (h : Heap) → Grows h h
  stays h a sort e = e

  -- ---- texts and what is printed

  -- a reference to a text is looked at
  look_text : (h : Heap) (a : ℕ) (k : List ℕ → Act) → RefFits p h (held p (string_type p)) (Some a) → ((units : List ℕ) → Safe p Q h (k units)) → Safe p Q h (on_text a k)
  unfolding on_text
  look_text h a k g rest = (
    g.0,
    g.1,
    λ o so fo.
        let b = subst (λ z. IsBelow p (held p (type_of p z)) (class_type (number_of p string_name))) (sym so) (subst (λ z. IsBelow p (held p (type_of p g.0)) z) text_held g.2) in
        let s = text_sort p linked (sort_of o) (sort_fits p h o fo) b in
        let x = text_object o s.0 s.1 in
        some_safe h _ x.0 k x.1 (rest x.0),
  )

  text_or_null : (h : Heap) (o : Option ℕ) (k : List ℕ → Act) → RefFits p h (held p (string_type p)) o → ((units : List ℕ) → Safe p Q h (k units)) → Safe p Q h (on_text_or_null o k)
  unfolding on_text_or_null
  text_or_null h None k g rest = rest _
  text_or_null h (Some a) k g rest = look_text h a k g rest

  printed_safe : (h : Heap) (f : Printed) (v : Value) (k : List ℕ → Act) → FitsType p h (printed_type p f) v → ((units : List ℕ) → Safe p Q h (k units)) → Safe p Q h (on_printed f v k)
  unfolding on_printed printed_type register_of register_of_kind string_type
  printed_safe h form.Boolean v k g rest = let x = int_value p h g in subst (λ z. Safe p Q h (on_printed form.Boolean z k)) (sym x.1) (rest _)
  printed_safe h form.Char v k g rest = let x = int_value p h g in subst (λ z. Safe p Q h (on_printed form.Char z k)) (sym x.1) (rest _)
  printed_safe h form.Int v k g rest = let x = int_value p h g in subst (λ z. Safe p Q h (on_printed form.Int z k)) (sym x.1) (rest _)
  printed_safe h form.Long v k g rest = let x = long_value p h g in subst (λ z. Safe p Q h (on_printed form.Long z k)) (sym x.1) (rest _)
  printed_safe h form.Text v k g rest = let x = class_value p h _ v g in subst (λ z. Safe p Q h (on_printed form.Text z k)) (sym x.is) (text_or_null h x.object k x.fits rest)

  text_or_throw : (h : Heap) (o : Option ℕ) (k : List ℕ → Act) → RefFits p h (held p (string_type p)) o → ((units : List ℕ) → Safe p Q h (k units)) → Safe p Q h (on_object p o (λ a. on_text a k))
  unfolding on_object
  text_or_throw h None k g rest = raise h null_pointer_exception_name null_pointer
  text_or_throw h (Some a) k g rest = look_text h a k g rest

  unit_safe : (h : Heap) (x : Option ℕ) (k : ℕ → Act) → ((unit : ℕ) → Safe p Q h (k unit)) → Safe p Q h (or_throw p string_index_out_of_bounds_exception_name x k)
  unfolding or_throw
  unit_safe h None k rest = raise h string_index_out_of_bounds_exception_name text_bounds
  unit_safe h (Some unit) k rest = rest unit

  equals_safe : (h : Heap) (units : List ℕ) (k : Option Value → Act) (type : DexType) (o : Option ℕ) → RefFits p h type o → ((b : Bool) → Safe p Q h (k (Some (truth b)))) → Safe p Q h (equals_text units o k)
  unfolding equals_text
  equals_safe h units k type None g rest = rest false
  equals_safe h units k type (Some b) g rest = (g.0, g.1, λ o so fo. rest _)

  -- ---- the rows

  module _ (m a : ℕ) (callee : Method) (vs : List Value) (h : Heap) (k : Option Value → Act) (sort : Sort) (there : h a ≡ Some sort) (fits : SortFits p sort) (below : IsBelow p (held p (type_of p sort)) (held p (type_of_class p callee.class)))
      (arguments : ArgumentsFit p h callee.params vs) (follow : Follow h callee.result k) where
    ends : (h' : Heap) (type : Option DexType) (v : Option Value) → Grows h h' → callee.result ≡ type → ResultFits p h' type v → Safe p Q h' (k v)
    ends h' type v g e f = follow h' v g (subst (λ z. ResultFits p h' z v) (sym e) f)

    abbrev RowSafe : BuiltIn → Type 0
    RowSafe does = Signature p does callee → Safe p Q h (row_act p does m a vs k)

    receiver_text : callee.class ≡ number_of p string_name → RefFits p h (held p (string_type p)) (Some a)
    unfolding string_type number_of
    receiver_text e = (sort, there, subst (λ z. IsBelow p (held p (type_of p sort)) (held p z)) (ap (type_of_class p) e ∙ linked.plain_type string_name string) below, fits)

    receiver_builder : callee.class ≡ number_of p string_builder_name → h a ≡ Some Builder
    receiver_builder e =
        let b1 = subst (λ z. IsBelow p (held p (type_of p sort)) (held p z)) (ap (type_of_class p) e ∙ linked.plain_type string_builder_name string_builder) below in
        let b = subst (λ z. IsBelow p (held p (type_of p sort)) z) (held_plain p linked (number_of p string_builder_name) linked.builder_held) b1 in
        there ∙ ap Some (builder_sort p linked sort fits b)

    receiver_throwable : IsBelow p (held p (type_of_class p callee.class)) (throwable_type p) → IsInstance p linked sort (number_of p throwable_name)
    unfolding throwable_type number_of
    receiver_throwable b = throwable_sort p linked sort fits (below_trans p linked.hierarchy below b)

    text_result : (h' : Heap) (units : List ℕ) (b : ℕ) → h' b ≡ Some (Text units) → ResultFits p h' (Some (string_type p)) (Some (value.Obj (Some b)))
    unfolding register_of register_of_kind string_type type_of
    text_result h' units b e = gives (a_reference {o = Some b} (Text units, e, same, tt))

    builder_result : (h' : Heap) → h' a ≡ Some Builder → ResultFits p h' (Some (class_type (number_of p string_builder_name))) (Some (value.Obj (Some a)))
    unfolding register_of register_of_kind type_of
    builder_result h' e = gives (a_reference {o = Some a} (Builder, e, same, tt))

    int_result : (h' : Heap) (n : ℤ) → ResultFits p h' (Some (typed 0 base.Int)) (Some (value.Int n))
    unfolding register_of register_of_kind
    int_result h' n = gives an_int

    char_result : (h' : Heap) (n : ℤ) → ResultFits p h' (Some (typed 0 base.Char)) (Some (value.Int n))
    unfolding register_of register_of_kind
    char_result h' n = gives an_int

    truth_result : (h' : Heap) (b : Bool) → ResultFits p h' (Some (typed 0 base.Boolean)) (Some (truth b))
    unfolding register_of register_of_kind
    truth_result h' b = gives (truth_fits p h' b)

    object_result : (h' : Heap) (x : ℕ) (sort2 : Sort) → h' x ≡ Some sort2 → SortFits p sort2 → ResultFits p h' (Some (object_type p)) (Some (value.Obj (Some x)))
    unfolding register_of register_of_kind
    object_result h' x sort2 e f2 = gives (a_reference {o = Some x} (sort2, e, object_above p linked (held p (type_of p sort2)), f2))

    construct : RowSafe row.Construct
    unfolding row_act
    construct s = subst (λ z. Safe p Q h (row_act p row.Construct m a z k)) (sym (no_argument p h arguments s.0)) (ends h None None (stays h) s.1 void)

    message_takes : (o : Option ℕ) → RefFits p h (held p (string_type p)) o → IsBelow p (held p (type_of_class p callee.class)) (throwable_type p) → Takes p h sort 0 (value.Obj o)
    unfolding register_of register_of_kind string_type
    message_takes o g b = let q = receiver_throwable b in subst (λ z. Takes p h z 0 (value.Obj o)) (sym q.is) (string_type p, linked.messages q.class q.made q.inherits, a_reference {o = o} g)

    construct_throwable : RowSafe row.ConstructThrowable
    unfolding row_act
    construct_throwable s = subst (λ z. Safe p Q h (row_act p row.ConstructThrowable m a z k)) (sym (no_argument p h arguments s.0)) (sort, there, message_takes None tt s.2, λ h' g. ends h' None None g s.1 void)

    construct_throwable_with : RowSafe row.ConstructThrowableWith
    unfolding row_act string_type
    construct_throwable_with s =
        let x = one_argument p h _ arguments s.0 in
        let y = class_value p h _ x.value x.fits in
        subst (λ z. Safe p Q h (row_act p row.ConstructThrowableWith m a z k)) (sym (x.is ∙ ap (λ z. z ∷ []) y.is)) (sort, there, message_takes y.object y.fits s.2, λ h' g. ends h' None None g s.1 void)

    message : RowSafe row.Message
    unfolding row_act
    message s = subst (λ z. Safe p Q h (row_act p row.Message m a z k)) (sym (no_argument p h arguments s.0)) (
      sort,
      there,
      λ o so fo.
          let q = receiver_throwable s.2 in
          let n = made_of p h o q.class q.fields (so ∙ q.is) fo in
          let v = n.fit 0 (string_type p) (linked.messages q.class q.made q.inherits) in
          some_safe h _ v.0 _ (message_is o q.class n.values v.0 n.is v.1) (ends h (Some (string_type p)) (Some v.0) (stays h) s.1 (gives v.2)),
    )
      where
        message_is : (o : Object) (class : ℕ) (values : List Value) (v : Value) → o ≡ object.Instance class values → slice_get values 0 ≡ Some v → message_of o ≡ Some v
        message_is o class values v e d = ap message_of e ∙ message_at class values v d

    same_object : RowSafe row.IsSameObject
    unfolding row_act
    same_object s =
        let x = one_argument p h _ arguments s.0 in
        let y = class_value p h _ x.value x.fits in
        subst (λ z. Safe p Q h (row_act p row.IsSameObject m a z k)) (sym (x.is ∙ ap (λ z. z ∷ []) y.is)) (ends h _ _ (stays h) s.1 (truth_result h _))

    text_length : RowSafe row.TextLength
    unfolding row_act
    text_length s = subst (λ z. Safe p Q h (row_act p row.TextLength m a z k)) (sym (no_argument p h arguments s.0))
        (look_text h a _ (receiver_text s.2) (λ units. ends h _ _ (stays h) s.1 (int_result h _)))

    char_at : RowSafe row.CharAt
    unfolding row_act register_of register_of_kind
    char_at s =
        let x = one_argument p h _ arguments s.0 in
        let y = int_value p h x.fits in
        subst (λ z. Safe p Q h (row_act p row.CharAt m a z k)) (sym (x.is ∙ ap (λ z. z ∷ []) y.1))
        (look_text h a _ (receiver_text s.2) (λ units. unit_safe h (unit_at units y.0) _ (λ unit. ends h _ _ (stays h) s.1 (char_result h _))))

    equal_text : RowSafe row.IsEqualText
    unfolding row_act
    equal_text s =
        let x = one_argument p h _ arguments s.0 in
        let y = class_value p h _ x.value x.fits in
        subst (λ z. Safe p Q h (row_act p row.IsEqualText m a z k)) (sym (x.is ∙ ap (λ z. z ∷ []) y.is))
        (look_text h a _ (receiver_text s.2) (λ units. equals_safe h units _ _ y.object y.fits (λ b. ends h _ _ (stays h) s.1 (truth_result h b))))

    construct_builder : RowSafe row.ConstructBuilder
    unfolding row_act string_type
    construct_builder s =
        let x = one_argument p h _ arguments s.0 in
        let y = class_value p h _ x.value x.fits in
        subst (λ z. Safe p Q h (row_act p row.ConstructBuilder m a z k)) (sym (x.is ∙ ap (λ z. z ∷ []) y.is))
        (text_or_throw h y.object _ y.fits (λ units. (receiver_builder s.2, λ h' g. ends h' None None g s.1 void)))

    append : (f : Printed) → RowSafe (row.Append f)
    unfolding row_act
    append f s =
        let x = one_argument p h _ arguments s.0 in
        subst (λ z. Safe p Q h (row_act p (row.Append f) m a z k)) (sym x.is)
        (printed_safe h f x.value _ x.fits (λ units. (receiver_builder s.2, λ h' g. ends h' _ _ g s.1 (builder_result h' (g a Builder (receiver_builder s.2))))))

    built_text : RowSafe row.BuiltText
    unfolding row_act sort_of
    built_text s = subst (λ z. Safe p Q h (row_act p row.BuiltText m a z k)) (sym (no_argument p h arguments s.0)) (
      Builder,
      receiver_builder s.2,
      λ o so fo.
          let x = builder_object o so in
          some_safe h _ x.0 _ x.1 (tt, λ h' b g e. ends h' _ _ g s.1 (text_result h' x.0 b e)),
    )

    print : (f : Printed) → RowSafe (row.Print f)
    unfolding row_act
    print f s = let x = one_argument p h _ arguments s.0 in subst (λ z. Safe p Q h (row_act p (row.Print f) m a z k)) (sym x.is) (printed_safe h f x.value _ x.fits (λ units. ends h None None (stays h) s.1 void))

    print_line : (f : Printed) → RowSafe (row.PrintLine f)
    unfolding row_act
    print_line f s = let x = one_argument p h _ arguments s.0 in subst (λ z. Safe p Q h (row_act p (row.PrintLine f) m a z k)) (sym x.is) (printed_safe h f x.value _ x.fits (λ units. ends h None None (stays h) s.1 void))

    end_line : RowSafe row.EndLine
    unfolding row_act
    end_line s = subst (λ z. Safe p Q h (row_act p row.EndLine m a z k)) (sym (no_argument p h arguments s.0)) (ends h None None (stays h) s.1 void)

    clone_array : RowSafe row.CloneArray
    unfolding row_act held
    clone_array s = subst (λ z. Safe p Q h (row_act p row.CloneArray m a z k)) (sym (no_argument p h arguments s.0)) (
      sort,
      there,
      λ o so fo.
          let b : IsBelow p (held p (type_of p (sort_of o))) (held p (array_of s.2.0)) = subst (λ z. IsBelow p (held p (type_of p z)) (held p (array_of s.2.0))) (sym so) (subst (λ z. IsBelow p (held p (type_of p sort)) (held p z)) s.2.1 below) in
          let q = array_known p linked h o (held p s.2.0) fo b in
          some_safe h _ o _ (copy_is o q.class q.values q.is) (fo, λ h' x g e. ends h' (Some (object_type p)) (Some (value.Obj (Some x))) g s.1 (object_result h' x (sort_of o) e (sort_fits p h o fo))),
    )

    pub row_safe : (does : BuiltIn) → RowSafe does
    unfolding row_act
    row_safe row.Construct s = construct s
    row_safe row.IsSameObject s = same_object s
    row_safe row.ConstructThrowable s = construct_throwable s
    row_safe row.ConstructThrowableWith s = construct_throwable_with s
    row_safe row.Message s = message s
    row_safe row.TextLength s = text_length s
    row_safe row.CharAt s = char_at s
    row_safe row.IsEqualText s = equal_text s
    row_safe row.ConstructBuilder s = construct_builder s
    row_safe (row.Append f) s = append f s
    row_safe row.BuiltText s = built_text s
    row_safe (row.Print f) s = print f s
    row_safe (row.PrintLine f) s = print_line f s
    row_safe row.EndLine s = end_line s
    row_safe row.CloneArray s = clone_array s
