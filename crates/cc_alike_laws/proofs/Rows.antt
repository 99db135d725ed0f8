-- Each built-in method's act is alike itself, from alike arguments.
use Rattle.std.proofs.Common.{◌≡◌, ℕ, Bool, true, false, List, Option, refl, subst}
use Rattle.cc_meaning.specs.declared.program.Program.{Program}
use Rattle.cc_meaning.specs.declared.value.Object.{Object}
use Rattle.cc_meaning.specs.declared.value.Value.{Value}
use Rattle.cc_meaning.specs.BuiltIn.{string_index_out_of_bounds_exception_name}
use Rattle.cc_meaning_world.specs.Acts.{Act}
use Rattle.cc_meaning_rows.specs.declared.builtin.BuiltIn.{BuiltIn}
use Rattle.cc_meaning_rows.specs.declared.builtin.BuiltIn.TheVariants as row
use Rattle.cc_meaning_rows.specs.declared.builtin.Printed.{Printed}
use Rattle.cc_meaning_rows.specs.declared.builtin.Printed.TheVariants as form
use Rattle.cc_meaning_rows.specs.Printing.{truth_units, null_units}
use Rattle.cc_meaning_rows.specs.Rows.{built_in_numbered}
use Rattle.cc_meaning_rows.specs.Calls.{truth, text_of, builder_of, message_of, copy_of, is_text_of, equals_text, on_text, on_text_or_null, on_printed, row_act, on_receiver, row_of_call, act_of_call}
use Rattle.cc_meaning_alike.specs.Maps.{Map, In, Extends, OneToOne}
use Rattle.cc_meaning_alike.specs.Worlds.{Each, nil, each, Both, neither, both, AlikeReference, nulls, linked, AlikeValue, ints, longs, refs, AlikeObject, outs, instances, arrays, texts, builders, constants}
use Rattle.cc_meaning_alike.specs.Acts.{returns, stuck, AlikeAct, done, make, look, puts, append, tell}
use Rattle.cc_alike_laws.proofs.Maps.{each_get}
use Rattle.cc_alike_laws.proofs.Pieces.{some_alike, some_same, object_alike, or_throw_same, object_same}

-- ---- objects

text_same : {f : Map} {o1 o2 : Object} → AlikeObject f o1 o2 → text_of o1 ≡ text_of o2
unfolding text_of
text_same outs = refl
text_same (instances vs) = refl
text_same (arrays vs) = refl
text_same texts = refl
text_same builders = refl
text_same constants = refl

builder_same : {f : Map} {o1 o2 : Object} → AlikeObject f o1 o2 → builder_of o1 ≡ builder_of o2
unfolding builder_of
builder_same outs = refl
builder_same (instances vs) = refl
builder_same (arrays vs) = refl
builder_same texts = refl
builder_same builders = refl
builder_same constants = refl

is_text_same : {f : Map} {o1 o2 : Object} (units : List ℕ) → AlikeObject f o1 o2 → is_text_of units o1 ≡ is_text_of units o2
unfolding is_text_of
is_text_same units outs = refl
is_text_same units (instances vs) = refl
is_text_same units (arrays vs) = refl
is_text_same units texts = refl
is_text_same units builders = refl
is_text_same units constants = refl

message_alike : {f : Map} {o1 o2 : Object} → AlikeObject f o1 o2 → Both (AlikeValue f) (message_of o1) (message_of o2)
unfolding message_of
message_alike outs = neither
message_alike (instances vs) = each_get 0 vs
message_alike (arrays vs) = neither
message_alike texts = neither
message_alike builders = neither
message_alike constants = neither

copy_alike : {f : Map} {o1 o2 : Object} → AlikeObject f o1 o2 → Both (AlikeObject f) (copy_of o1) (copy_of o2)
unfolding copy_of
copy_alike outs = neither
copy_alike (instances vs) = neither
copy_alike (arrays vs) = both (arrays vs)
copy_alike texts = neither
copy_alike builders = neither
copy_alike constants = neither

pub truth_alike : {f : Map} {a b : Bool} → a ≡ b → AlikeValue f (truth a) (truth b)
unfolding truth
truth_alike {f} {a} e = subst (λ c. AlikeValue f (truth a) (truth c)) e (cases a)
  where
    cases : (c : Bool) → AlikeValue f (truth c) (truth c)
    cases true = ints
    cases false = ints

-- what follows on a method's result
abbrev pub AlikeBack : Program → Map → (Option Value → Act) → (Option Value → Act) → Type 0
AlikeBack p f k1 k2 = (g : Map) (v1 v2 : Option Value) → Extends f g → Both (AlikeValue g) v1 v2 → AlikeAct p g (k1 v1) (k2 v2)

module _ {f : Map} (p : Program) (u : OneToOne f) (k1 k2 : Option Value → Act) (k : AlikeBack p f k1 k2) where
  now : {v1 v2 : Option Value} → Both (AlikeValue f) v1 v2 → AlikeAct p f (k1 v1) (k2 v2)
  now v = k f _ _ (λ a b i. i) v

  equals_alike : {o1 o2 : Option ℕ} (units : List ℕ) → AlikeReference f o1 o2 → AlikeAct p f (equals_text units o1 k1) (equals_text units o2 k2)
  unfolding equals_text
  equals_alike units nulls = now (both (truth_alike refl))
  equals_alike units (linked i) = look i (λ o1 o2 r. now (both (truth_alike (is_text_same units r))))

  text_alike : {a b : ℕ} (g1 g2 : List ℕ → Act) → In f a b → ((units : List ℕ) → AlikeAct p f (g1 units) (g2 units)) → AlikeAct p f (on_text a g1) (on_text b g2)
  unfolding on_text
  text_alike g1 g2 i h = look i (λ o1 o2 r. some_same _ _ (text_same r) h)

  null_text_alike : {o1 o2 : Option ℕ} (g1 g2 : List ℕ → Act) → AlikeReference f o1 o2 → ((units : List ℕ) → AlikeAct p f (g1 units) (g2 units)) → AlikeAct p f (on_text_or_null o1 g1) (on_text_or_null o2 g2)
  unfolding on_text_or_null
  null_text_alike g1 g2 nulls h = h null_units
  null_text_alike g1 g2 (linked i) h = text_alike g1 g2 i h

  -- no object's number is printed
  printed_alike : {v1 v2 : Value} (form : Printed) (g1 g2 : List ℕ → Act) → AlikeValue f v1 v2 → ((units : List ℕ) → AlikeAct p f (g1 units) (g2 units)) → AlikeAct p f (on_printed form v1 g1) (on_printed form v2 g2)
  unfolding on_printed
  printed_alike form.Boolean g1 g2 (ints {n = n}) h = h (truth_units n)
  printed_alike form.Char g1 g2 (ints {n = n}) h = h _
  printed_alike form.Int g1 g2 (ints {n = n}) h = h _
  printed_alike form.Long g1 g2 (ints {n = n}) h = done stuck
  printed_alike form.Text g1 g2 (ints {n = n}) h = done stuck
  printed_alike form.Boolean g1 g2 longs h = done stuck
  printed_alike form.Char g1 g2 longs h = done stuck
  printed_alike form.Int g1 g2 longs h = done stuck
  printed_alike form.Long g1 g2 longs h = h _
  printed_alike form.Text g1 g2 longs h = done stuck
  printed_alike form.Boolean g1 g2 (refs r) h = done stuck
  printed_alike form.Char g1 g2 (refs r) h = done stuck
  printed_alike form.Int g1 g2 (refs r) h = done stuck
  printed_alike form.Long g1 g2 (refs r) h = done stuck
  printed_alike form.Text g1 g2 (refs r) h = null_text_alike g1 g2 r h

  -- a row, by its form: without arguments, with one reference, with an int, with a value that is printed
  pub row_alike : {a b : ℕ} {vs1 vs2 : List Value} (does : BuiltIn) (m : ℕ) → In f a b → Each (AlikeValue f) vs1 vs2 → AlikeAct p f (row_act p does m a vs1 k1) (row_act p does m b vs2 k2)
  unfolding row_act
  row_alike row.Construct m i nil = now neither
  row_alike row.Construct m i (each v vs) = done stuck
  row_alike row.ConstructThrowable m i nil = puts i (refs nulls) (now neither)
  row_alike row.ConstructThrowable m i (each v vs) = done stuck
  row_alike row.ConstructThrowableWith m i (each (refs r) nil) = puts i (refs r) (now neither)
  row_alike row.ConstructThrowableWith m i nil = done stuck
  row_alike row.ConstructThrowableWith m i (each ints vs) = done stuck
  row_alike row.ConstructThrowableWith m i (each longs vs) = done stuck
  row_alike row.ConstructThrowableWith m i (each (refs r) (each v vs)) = done stuck
  row_alike row.Message m i nil = look i (λ o1 o2 r. some_alike _ _ (message_alike r) (λ v1 v2 v. now (both v)))
  row_alike row.Message m i (each v vs) = done stuck
  row_alike row.IsSameObject m i (each (refs r) nil) = now (both (truth_alike (object_same u (linked i) r)))
  row_alike row.IsSameObject m i nil = done stuck
  row_alike row.IsSameObject m i (each ints vs) = done stuck
  row_alike row.IsSameObject m i (each longs vs) = done stuck
  row_alike row.IsSameObject m i (each (refs r) (each v vs)) = done stuck
  row_alike row.TextLength m i nil = text_alike _ _ i (λ units. now (both ints))
  row_alike row.TextLength m i (each v vs) = done stuck
  row_alike row.CharAt m i (each (ints {n = n}) nil) = text_alike _ _ i (λ units. or_throw_same p string_index_out_of_bounds_exception_name _ _ refl (λ unit. now (both ints)))
  row_alike row.CharAt m i nil = done stuck
  row_alike row.CharAt m i (each (refs r) vs) = done stuck
  row_alike row.CharAt m i (each longs vs) = done stuck
  row_alike row.CharAt m i (each ints (each v vs)) = done stuck
  row_alike row.IsEqualText m i (each (refs r) nil) = text_alike _ _ i (λ units. equals_alike units r)
  row_alike row.IsEqualText m i nil = done stuck
  row_alike row.IsEqualText m i (each ints vs) = done stuck
  row_alike row.IsEqualText m i (each longs vs) = done stuck
  row_alike row.IsEqualText m i (each (refs r) (each v vs)) = done stuck
  row_alike row.ConstructBuilder m i (each (refs r) nil) = object_alike p _ _ r (λ c d j. text_alike _ _ j (λ units. append i (now neither)))
  row_alike row.ConstructBuilder m i nil = done stuck
  row_alike row.ConstructBuilder m i (each ints vs) = done stuck
  row_alike row.ConstructBuilder m i (each longs vs) = done stuck
  row_alike row.ConstructBuilder m i (each (refs r) (each v vs)) = done stuck
  row_alike (row.Append form) m i (each v nil) = printed_alike form _ _ v (λ units. append i (now (both (refs (linked i)))))
  row_alike (row.Append form) m i nil = done stuck
  row_alike (row.Append form) m i (each v (each v' vs)) = done stuck
  row_alike row.BuiltText m i nil = look i (λ o1 o2 r. some_same _ _ (builder_same r) (λ units. make texts (λ g a b e j. k g _ _ e (both (refs (linked j))))))
  row_alike row.BuiltText m i (each v vs) = done stuck
  row_alike (row.Print form) m i (each v nil) = printed_alike form _ _ v (λ units. tell (now neither))
  row_alike (row.Print form) m i nil = done stuck
  row_alike (row.Print form) m i (each v (each v' vs)) = done stuck
  row_alike (row.PrintLine form) m i (each v nil) = printed_alike form _ _ v (λ units. tell (now neither))
  row_alike (row.PrintLine form) m i nil = done stuck
  row_alike (row.PrintLine form) m i (each v (each v' vs)) = done stuck
  row_alike row.EndLine m i nil = tell (now neither)
  row_alike row.EndLine m i (each v vs) = done stuck
  row_alike row.CloneArray m i nil = look i (λ o1 o2 r. some_alike _ _ (copy_alike r) (λ c1 c2 c. make c (λ g a b e j. k g _ _ e (both (refs (linked j))))))
  row_alike row.CloneArray m i (each v vs) = done stuck

  -- the receiver stands first, and null throws
  receiver_alike : {vs1 vs2 : List Value} (does : BuiltIn) (m : ℕ) → Each (AlikeValue f) vs1 vs2 → AlikeAct p f (on_receiver p does m vs1 k1) (on_receiver p does m vs2 k2)
  unfolding on_receiver
  receiver_alike does m nil = done stuck
  receiver_alike does m (each ints vs) = done stuck
  receiver_alike does m (each longs vs) = done stuck
  receiver_alike does m (each (refs r) vs) = object_alike p _ _ r (λ a b i. row_alike does m i vs)

  pub row_call_alike : {vs1 vs2 : List Value} (x : Option BuiltIn) (m : ℕ) → Each (AlikeValue f) vs1 vs2 → AlikeAct p f (row_of_call p x m vs1 k1) (row_of_call p x m vs2 k2)
  unfolding row_of_call
  row_call_alike x m vs = some_same _ _ refl (λ does. receiver_alike does m vs)

-- a call by itself
pub call_by_itself_alike : {f : Map} (p : Program) (m : ℕ) {vs1 vs2 : List Value} → OneToOne f → Each (AlikeValue f) vs1 vs2 → AlikeAct p f (act_of_call p m vs1) (act_of_call p m vs2)
unfolding act_of_call
call_by_itself_alike p m u vs = row_call_alike p u _ _ (λ g v1 v2 e v. done (returns v)) (built_in_numbered p m) m vs
