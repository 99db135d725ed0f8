-- Reading and writing alike registers, and the pieces of acts.
use Rattle.std.proofs.Common.{◌≡◌, ◌≢◌, ◌⊎◌, inl, inr, ℕ, zero, suc, ◌==◌, ℤ, pos, negsuc, Bool, true, false, cond, List, [], ◌∷◌, Option, Some, None, refl, sym, ap, ◌∙◌, subst, slice_get, arith}
use Rattle.std.specs.Prelude.{not, option_map, option_and_then}
use Rattle.std.proofs.lemmas.Bool.Decides.{nat_tests}
use Rattle.cc_meaning.specs.declared.instruction.Conversion.{Conversion}
use Rattle.cc_meaning.specs.declared.instruction.Conversion.TheVariants as conversion
use Rattle.cc_meaning.specs.declared.instruction.IntOp.{IntOp}
use Rattle.cc_meaning.specs.declared.instruction.IntOp.TheVariants as op
use Rattle.cc_meaning.specs.declared.instruction.Kind.{Kind}
use Rattle.cc_meaning.specs.declared.instruction.Kind.TheVariants as kind
use Rattle.cc_meaning.specs.declared.instruction.Test.{Test}
use Rattle.cc_meaning.specs.declared.instruction.Test.TheVariants as test
use Rattle.cc_meaning.specs.declared.program.DexType.{DexType}
use Rattle.cc_meaning.specs.declared.program.Program.{Program}
use Rattle.cc_meaning.specs.declared.value.Cell.{Cell}
use Rattle.cc_meaning.specs.declared.value.Object.{Object}
use Rattle.cc_meaning.specs.declared.value.Value.{Value}
use Rattle.cc_meaning.specs.declared.value.Value.TheVariants as value
use Rattle.cc_meaning.specs.BuiltIn.{null_pointer_exception_name, array_store_exception_name}
use Rattle.cc_meaning.specs.Kinds.{kind_of}
use Rattle.cc_meaning_world.specs.World.{Locals}
use Rattle.cc_meaning_world.specs.Layouts.{slot}
use Rattle.cc_meaning_world.specs.Casts.{passes}
use Rattle.cc_meaning_world.specs.Acts.{Act}
use Rattle.cc_meaning_world.specs.Throwing.{on_some, throw_of, throw_new, on_object, or_throw}
use Rattle.cc_meaning_rows.specs.Calls.{is_same_object}
use Rattle.cc_meaning_exec.specs.Registers.{int_in, long_in, null_of, reference_in, value_in, cell_at, on_int, on_long, on_value_of, on_reference_or_null, on_reference, onto, skipping, values_in, cells_with, go_on, set_next, go_back, move_cell}
use Rattle.cc_meaning_exec.specs.Numbers.{second_in, converted_in, kept, both as both_of, are_same, compares, compares_zero, branch}
use Rattle.cc_meaning_exec.specs.Arrays.{elements_in, element_type_of, element_at, place_in, stored, on_array, elements_from}
use Rattle.cc_meaning_exec.specs.Instructions.{value_at}
use Rattle.cc_meaning_alike.specs.Maps.{Map, In, OneToOne}
use Rattle.cc_meaning_alike.specs.Worlds.{Each, nil, each, Both, neither, both, AlikeReference, nulls, linked, AlikeValue, ints, longs, refs, AlikeCell, unsets, highs, values, AlikeObject, outs, instances, arrays, texts, builders, constants, AlikeLocals}
use Rattle.cc_meaning_alike.specs.Acts.{nexts, throws, stuck, AlikeAct, done, make, look, class_of}
use Rattle.cc_alike_laws.proofs.Maps.{each_get, each_set, same_length}

test_eq : (a b : ℕ) → (((a == b) ≡ true) × (a ≡ b)) ⊎ (((a == b) ≡ false) × (a ≢ b))
test_eq a b = grind (arith, nat_tests)

-- ---- readers

pub int_same : {f : Map} {c1 c2 : Option Cell} → Both (AlikeCell f) c1 c2 → int_in c1 ≡ int_in c2
unfolding int_in
int_same neither = refl
int_same (both unsets) = refl
int_same (both highs) = refl
int_same (both (values ints)) = refl
int_same (both (values longs)) = refl
int_same (both (values (refs r))) = refl

pub long_same : {f : Map} {c1 c2 : Option Cell} → Both (AlikeCell f) c1 c2 → long_in c1 ≡ long_in c2
unfolding long_in
long_same neither = refl
long_same (both unsets) = refl
long_same (both highs) = refl
long_same (both (values ints)) = refl
long_same (both (values longs)) = refl
long_same (both (values (refs r))) = refl

null_alike : {f : Map} (n : ℤ) → Both (AlikeReference f) (null_of n) (null_of n)
unfolding null_of
null_alike (pos zero) = both nulls
null_alike (pos (suc n)) = neither
null_alike (negsuc n) = neither

pub ref_alike : {f : Map} {c1 c2 : Option Cell} → Both (AlikeCell f) c1 c2 → Both (AlikeReference f) (reference_in c1) (reference_in c2)
unfolding reference_in
ref_alike neither = neither
ref_alike (both unsets) = neither
ref_alike (both highs) = neither
ref_alike (both (values (ints {n = n}))) = null_alike n
ref_alike (both (values longs)) = neither
ref_alike (both (values (refs r))) = both r

-- a number that is read on both sides, as a value
pub numbers_alike : {f : Map} {x1 x2 : Option ℤ} (form : ℤ → Value) → ((n : ℤ) → AlikeValue f (form n) (form n)) → x1 ≡ x2 → Both (AlikeValue f) (option_map form x1) (option_map form x2)
numbers_alike {f} {x1} {x2} form same e = subst (λ x. Both (AlikeValue f) (option_map form x1) (option_map form x)) e (cases x1)
  where
    cases : (x : Option ℤ) → Both (AlikeValue f) (option_map form x) (option_map form x)
    cases None = neither
    cases (Some n) = both (same n)

ints_alike : {f : Map} {x1 x2 : Option ℤ} → x1 ≡ x2 → Both (AlikeValue f) (option_map value.Int x1) (option_map value.Int x2)
ints_alike e = numbers_alike value.Int (λ n. ints) e

refs_alike : {f : Map} {x1 x2 : Option (Option ℕ)} → Both (AlikeReference f) x1 x2 → Both (AlikeValue f) (option_map value.Obj x1) (option_map value.Obj x2)
refs_alike neither = neither
refs_alike (both r) = both (refs r)

pub value_alike : {f : Map} {c1 c2 : Option Cell} (k : Kind) → Both (AlikeCell f) c1 c2 → Both (AlikeValue f) (value_in k c1) (value_in k c2)
unfolding value_in
value_alike kind.Wide c = numbers_alike value.Long (λ n. longs) (long_same c)
value_alike kind.Object c = refs_alike (ref_alike c)
value_alike kind.Plain c = ints_alike (int_same c)
value_alike kind.Boolean c = ints_alike (int_same c)
value_alike kind.Byte c = ints_alike (int_same c)
value_alike kind.Char c = ints_alike (int_same c)
value_alike kind.Short c = ints_alike (int_same c)

pub converted_alike : {f : Map} {c1 c2 : Option Cell} (o : Conversion) → Both (AlikeCell f) c1 c2 → Both (AlikeValue f) (converted_in o c1) (converted_in o c2)
unfolding converted_in
converted_alike conversion.IntToLong c = numbers_alike _ (λ n. longs) (int_same c)
converted_alike conversion.LongToInt c = numbers_alike _ (λ n. ints) (long_same c)
converted_alike conversion.IntToByte c = numbers_alike _ (λ n. ints) (int_same c)
converted_alike conversion.IntToChar c = numbers_alike _ (λ n. ints) (int_same c)
converted_alike conversion.IntToShort c = numbers_alike _ (λ n. ints) (int_same c)

pub kept_alike : {f : Map} {v1 v2 : Value} (k : Kind) → AlikeValue f v1 v2 → AlikeValue f (kept k v1) (kept k v2)
unfolding kept
kept_alike k ints = ints
kept_alike k longs = longs
kept_alike k (refs r) = refs r

kept_both : {f : Map} {x1 x2 : Option Value} (k : Kind) → Both (AlikeValue f) x1 x2 → Both (AlikeValue f) (option_map (kept k) x1) (option_map (kept k) x2)
kept_both k neither = neither
kept_both k (both v) = both (kept_alike k v)

pub second_same : {f : Map} {c1 c2 : Option Cell} (o : IntOp) → Both (AlikeCell f) c1 c2 → second_in o c1 ≡ second_in o c2
unfolding second_in
second_same op.Shl c = int_same c
second_same op.Shr c = int_same c
second_same op.Ushr c = int_same c
second_same op.Add c = long_same c
second_same op.Sub c = long_same c
second_same op.Mul c = long_same c
second_same op.Div c = long_same c
second_same op.Rem c = long_same c
second_same op.And c = long_same c
second_same op.Or c = long_same c
second_same op.Xor c = long_same c

onto_alike : {f : Map} {v1 v2 : Option Value} {vs1 vs2 : Option (List Value)} → Both (AlikeValue f) v1 v2 → Both (Each (AlikeValue f)) vs1 vs2 → Both (Each (AlikeValue f)) (onto v1 vs1) (onto v2 vs2)
unfolding onto
onto_alike neither neither = neither
onto_alike neither (both vs) = neither
onto_alike (both v) neither = neither
onto_alike (both v) (both vs) = both (each v vs)

pub values_alike : {f : Map} {cs1 cs2 : List Cell} (ts : List DexType) (rs : List ℕ) → Each (AlikeCell f) cs1 cs2 → Both (Each (AlikeValue f)) (values_in cs1 ts rs) (values_in cs2 ts rs)
unfolding values_in
values_alike [] rs cs = both nil
values_alike (t ∷ ts) [] cs = neither
values_alike (t ∷ ts) (r ∷ rs) cs = onto_alike (value_alike (kind_of t) (each_get r cs)) (values_alike ts (skipping (kind_of t) rs) cs)

pub elements_from_alike : {f : Map} {cs1 cs2 : List Cell} (k : Kind) (rs : List ℕ) → Each (AlikeCell f) cs1 cs2 → Both (Each (AlikeValue f)) (elements_from cs1 k rs) (elements_from cs2 k rs)
unfolding elements_from
elements_from_alike k [] cs = both nil
elements_from_alike k (r ∷ rs) cs = onto_alike (kept_both k (value_alike k (each_get r cs))) (elements_from_alike k rs cs)

-- ---- what goes on

pub some_alike : {f : Map} {p : Program} {A : Type 0} {R : A → A → Type 0} {x1 x2 : Option A} (k1 k2 : A → Act) → Both R x1 x2 → ((a b : A) → R a b → AlikeAct p f (k1 a) (k2 b)) → AlikeAct p f (on_some x1 k1) (on_some x2 k2)
unfolding on_some
some_alike k1 k2 neither k = done stuck
some_alike k1 k2 (both r) k = k _ _ r

pub some_same : {f : Map} {p : Program} {A : Type 0} {x1 x2 : Option A} (k1 k2 : A → Act) → x1 ≡ x2 → ((a : A) → AlikeAct p f (k1 a) (k2 a)) → AlikeAct p f (on_some x1 k1) (on_some x2 k2)
unfolding on_some
some_same {f} {p} {A} {x1} {x2} k1 k2 e k = subst (λ x. AlikeAct p f (on_some x1 k1) (on_some x k2)) e (cases x1)
  where
    cases : (x : Option A) → AlikeAct p f (on_some x k1) (on_some x k2)
    cases None = done stuck
    cases (Some a) = k a

-- the same thing is found on both sides, and where it stands is known
pub some_found : {f : Map} {p : Program} {A : Type 0} {x : Option A} (k1 k2 : A → Act) → ((a : A) → x ≡ Some a → AlikeAct p f (k1 a) (k2 a)) → AlikeAct p f (on_some x k1) (on_some x k2)
unfolding on_some
some_found {f} {p} {A} {x} k1 k2 k = cases x refl
  where
    cases : (y : Option A) → x ≡ y → AlikeAct p f (on_some y k1) (on_some y k2)
    cases None e = done stuck
    cases (Some a) e = k a e

pub cond_alike : {f : Map} {p : Program} {a1 a2 b1 b2 : Act} (c : Bool) → AlikeAct p f a1 a2 → AlikeAct p f b1 b2 → AlikeAct p f (cond c a1 b1) (cond c a2 b2)
cond_alike true a b = a
cond_alike false a b = b

-- ---- writing registers

pub write_alike : {f : Map} {cs1 cs2 : List Cell} {v1 v2 : Value} (to : ℕ) → Each (AlikeCell f) cs1 cs2 → AlikeValue f v1 v2 → Each (AlikeCell f) (cells_with cs1 to v1) (cells_with cs2 to v2)
unfolding cells_with
write_alike to cs ints = each_set to cs (values ints)
write_alike to cs longs = each_set (suc to) (each_set to cs (values longs)) highs
write_alike to cs (refs r) = each_set to cs (values (refs r))

pub go_alike : {f : Map} {p : Program} {cs1 cs2 : List Cell} (next : ℕ) → Each (AlikeCell f) cs1 cs2 → AlikeAct p f (go_on next cs1) (go_on next cs2)
unfolding go_on
go_alike next cs = done (nexts (record { cells = cs; pending = neither }))

pub set_alike : {f : Map} {p : Program} {l1 l2 : Locals} {v1 v2 : Value} (next to : ℕ) → AlikeLocals f l1 l2 → AlikeValue f v1 v2 → AlikeAct p f (set_next next l1 to v1) (set_next next l2 to v2)
unfolding set_next
set_alike next to l v = go_alike next (write_alike to l.cells v)

pub back_alike : {f : Map} {p : Program} {l1 l2 : Locals} {v1 v2 : Option Value} (next : ℕ) → AlikeLocals f l1 l2 → Both (AlikeValue f) v1 v2 → AlikeAct p f (go_back next l1 v1) (go_back next l2 v2)
unfolding go_back
back_alike next l v = done (nexts (record { cells = l.cells; pending = v }))

-- ---- exceptions

pub throw_alike : {f : Map} (p : Program) (name : List ℕ) → AlikeAct p f (throw_new p name) (throw_new p name)
unfolding throw_new throw_of
throw_alike p name = some_same _ _ refl (λ class. make (instances (each (refs nulls) nil)) (λ g a b e i. done (throws i)))

pub object_alike : {f : Map} {o1 o2 : Option ℕ} (p : Program) (k1 k2 : ℕ → Act) → AlikeReference f o1 o2 → ((a b : ℕ) → In f a b → AlikeAct p f (k1 a) (k2 b)) → AlikeAct p f (on_object p o1 k1) (on_object p o2 k2)
unfolding on_object
object_alike p k1 k2 nulls k = throw_alike p null_pointer_exception_name
object_alike p k1 k2 (linked i) k = k _ _ i

pub or_throw_alike : {f : Map} {A : Type 0} {R : A → A → Type 0} {x1 x2 : Option A} (p : Program) (name : List ℕ) (k1 k2 : A → Act) → Both R x1 x2 → ((a b : A) → R a b → AlikeAct p f (k1 a) (k2 b)) → AlikeAct p f (or_throw p name x1 k1) (or_throw p name x2 k2)
unfolding or_throw
or_throw_alike p name k1 k2 neither k = throw_alike p name
or_throw_alike p name k1 k2 (both r) k = k _ _ r

pub or_throw_same : {f : Map} {A : Type 0} {x1 x2 : Option A} (p : Program) (name : List ℕ) (k1 k2 : A → Act) → x1 ≡ x2 → ((a : A) → AlikeAct p f (k1 a) (k2 a)) → AlikeAct p f (or_throw p name x1 k1) (or_throw p name x2 k2)
unfolding or_throw
or_throw_same {f} {A} {x1} {x2} p name k1 k2 e k = subst (λ x. AlikeAct p f (or_throw p name x1 k1) (or_throw p name x k2)) e (cases x1)
  where
    cases : (x : Option A) → AlikeAct p f (or_throw p name x k1) (or_throw p name x k2)
    cases None = throw_alike p name
    cases (Some a) = k a

-- ---- registers that are read

pub int_alike : {f : Map} {p : Program} {l1 l2 : Locals} (r : ℕ) (k1 k2 : ℤ → Act) → AlikeLocals f l1 l2 → ((n : ℤ) → AlikeAct p f (k1 n) (k2 n)) → AlikeAct p f (on_int l1 r k1) (on_int l2 r k2)
unfolding on_int cell_at
int_alike r k1 k2 l k = some_same _ _ (int_same (each_get r l.cells)) k

pub long_alike : {f : Map} {p : Program} {l1 l2 : Locals} (r : ℕ) (k1 k2 : ℤ → Act) → AlikeLocals f l1 l2 → ((n : ℤ) → AlikeAct p f (k1 n) (k2 n)) → AlikeAct p f (on_long l1 r k1) (on_long l2 r k2)
unfolding on_long cell_at
long_alike r k1 k2 l k = some_same _ _ (long_same (each_get r l.cells)) k

pub value_of_alike : {f : Map} {p : Program} {l1 l2 : Locals} (kind : Kind) (r : ℕ) (k1 k2 : Value → Act) → AlikeLocals f l1 l2 → ((v1 v2 : Value) → AlikeValue f v1 v2 → AlikeAct p f (k1 v1) (k2 v2)) → AlikeAct p f (on_value_of kind l1 r k1) (on_value_of kind l2 r k2)
unfolding on_value_of cell_at
value_of_alike kind r k1 k2 l k = some_alike _ _ (value_alike kind (each_get r l.cells)) k

pub null_or_alike : {f : Map} {p : Program} {l1 l2 : Locals} (r : ℕ) (k1 k2 : Option ℕ → Act) → AlikeLocals f l1 l2 → ((o1 o2 : Option ℕ) → AlikeReference f o1 o2 → AlikeAct p f (k1 o1) (k2 o2)) → AlikeAct p f (on_reference_or_null l1 r k1) (on_reference_or_null l2 r k2)
unfolding on_reference_or_null cell_at
null_or_alike r k1 k2 l k = some_alike _ _ (ref_alike (each_get r l.cells)) k

pub reference_alike : {f : Map} {l1 l2 : Locals} (p : Program) (r : ℕ) (k1 k2 : ℕ → Act) → AlikeLocals f l1 l2 → ((a b : ℕ) → In f a b → AlikeAct p f (k1 a) (k2 b)) → AlikeAct p f (on_reference p l1 r k1) (on_reference p l2 r k2)
unfolding on_reference
reference_alike p r k1 k2 l k = null_or_alike r _ _ l (λ o1 o2 o. object_alike p _ _ o k)

pub move_alike : {f : Map} {p : Program} {l1 l2 : Locals} (next to from : ℕ) → AlikeLocals f l1 l2 → AlikeAct p f (move_cell next l1 to (cell_at l1 from)) (move_cell next l2 to (cell_at l2 from))
unfolding move_cell cell_at
move_alike next to from l = some_alike _ _ (each_get from l.cells) (λ c1 c2 c. go_alike next (each_set to l.cells c))

-- ---- comparisons: equal on one side as on the other

same_numbers : {f : Map} {a b c d : ℕ} → OneToOne f → In f a b → In f c d → (a == c) ≡ (b == d)
same_numbers {f} {a} {b} {c} {d} u i j = cases (test_eq a c) (test_eq b d)
  where
    cases : (((a == c) ≡ true) × (a ≡ c)) ⊎ (((a == c) ≡ false) × (a ≢ c)) → (((b == d) ≡ true) × (b ≡ d)) ⊎ (((b == d) ≡ false) × (b ≢ d)) → (a == c) ≡ (b == d)
    cases (inl e) (inl e') = e.0 ∙ sym e'.0
    cases (inl e) (inr n') = absurd (n'.1 (u.one_right a b d i (subst (λ x. In f x d) (sym e.1) j)))
    cases (inr n) (inl e') = absurd (n.1 (u.one_left a c b i (subst (λ x. In f c x) (sym e'.1) j)))
    cases (inr n) (inr n') = n.0 ∙ sym n'.0

pub object_same : {f : Map} {a b c d : Option ℕ} → OneToOne f → AlikeReference f a b → AlikeReference f c d → is_same_object a c ≡ is_same_object b d
unfolding is_same_object
object_same u nulls nulls = refl
object_same u nulls (linked j) = refl
object_same u (linked i) nulls = refl
object_same u (linked i) (linked j) = same_numbers u i j

objects_same : {f : Map} {a b c d : Option (Option ℕ)} → OneToOne f → Both (AlikeReference f) a b → Both (AlikeReference f) c d → both_of is_same_object a c ≡ both_of is_same_object b d
unfolding both_of
objects_same u neither neither = refl
objects_same u neither (both s) = refl
objects_same u (both r) neither = refl
objects_same u (both r) (both s) = ap Some (object_same u r s)

same_alike : {f : Map} {a b c d : Option Cell} → OneToOne f → Both (AlikeCell f) a b → Both (AlikeCell f) c d → are_same a c ≡ are_same b d
unfolding are_same
same_alike u r s = rw (int_same r, int_same s, objects_same u (ref_alike r) (ref_alike s)) refl

pub compares_same : {f : Map} {a b c d : Option Cell} (t : Test) → OneToOne f → Both (AlikeCell f) a b → Both (AlikeCell f) c d → compares t a c ≡ compares t b d
unfolding compares
compares_same test.Eq u r s = same_alike u r s
compares_same test.Ne u r s = ap (option_map not) (same_alike u r s)
compares_same test.Lt u r s = rw (int_same r, int_same s) refl
compares_same test.Ge u r s = rw (int_same r, int_same s) refl
compares_same test.Gt u r s = rw (int_same r, int_same s) refl
compares_same test.Le u r s = rw (int_same r, int_same s) refl

pub zero_same : {f : Map} {a b : Option Cell} (t : Test) → OneToOne f → Both (AlikeCell f) a b → compares_zero t a ≡ compares_zero t b
unfolding compares_zero
zero_same t u r = compares_same t u r (both (values ints))

pub branch_alike : {f : Map} {p : Program} {l1 l2 : Locals} (yes : Bool) (next : ℕ) (target : Option ℕ) → AlikeLocals f l1 l2 → AlikeAct p f (branch yes next target l1) (branch yes next target l2)
unfolding branch
branch_alike true next target l = some_same _ _ refl (λ to. go_alike to l.cells)
branch_alike false next target l = go_alike next l.cells

-- ---- objects

pub elements_alike : {f : Map} {o1 o2 : Object} → AlikeObject f o1 o2 → Both (Each (AlikeValue f)) (elements_in o1) (elements_in o2)
unfolding elements_in
elements_alike outs = neither
elements_alike (instances vs) = neither
elements_alike (arrays vs) = both vs
elements_alike texts = neither
elements_alike builders = neither
elements_alike constants = neither

pub element_alike : {f : Map} {vs1 vs2 : List Value} (i : ℤ) → Each (AlikeValue f) vs1 vs2 → Both (AlikeValue f) (element_at vs1 i) (element_at vs2 i)
unfolding element_at
element_alike (pos i) vs = each_get i vs
element_alike (negsuc i) vs = neither

pub place_same : {f : Map} {vs1 vs2 : List Value} (i : ℤ) → Each (AlikeValue f) vs1 vs2 → place_in vs1 i ≡ place_in vs2 i
unfolding place_in
place_same (pos i) vs = rw (same_length vs) refl
place_same (negsuc i) vs = refl

pub stored_alike : {f : Map} {v1 v2 : Value} {a1 a2 : Act} (p : Program) (element : DexType) → AlikeValue f v1 v2 → AlikeAct p f a1 a2 → AlikeAct p f (stored p element v1 a1) (stored p element v2 a2)
unfolding stored
stored_alike p element ints a = a
stored_alike p element longs a = a
stored_alike p element (refs nulls) a = a
stored_alike p element (refs (linked i)) a = class_of i (λ t. cond_alike (passes p true t element) a (throw_alike p array_store_exception_name))

pub element_type_same : {f : Map} {o1 o2 : Object} (p : Program) → AlikeObject f o1 o2 → element_type_of p o1 ≡ element_type_of p o2
unfolding element_type_of
element_type_same p outs = refl
element_type_same p (instances vs) = refl
element_type_same p (arrays vs) = refl
element_type_same p texts = refl
element_type_same p builders = refl
element_type_same p constants = refl

-- the array of a register, and its elements
pub array_alike : {f : Map} {l1 l2 : Locals} (p : Program) (r : ℕ) (k1 k2 : ℕ → Object → List Value → Act) → AlikeLocals f l1 l2 →
    ((a b : ℕ) (o1 o2 : Object) (vs1 vs2 : List Value) → In f a b → AlikeObject f o1 o2 → Each (AlikeValue f) vs1 vs2 → AlikeAct p f (k1 a o1 vs1) (k2 b o2 vs2)) → AlikeAct p f (on_array p l1 r k1) (on_array p l2 r k2)
unfolding on_array
array_alike p r k1 k2 l k = reference_alike p r _ _ l (λ a b i. look i (λ o1 o2 o. some_alike _ _ (elements_alike o) (λ vs1 vs2 vs. k a b o1 o2 vs1 vs2 i o vs)))

field_alike : {f : Map} {vs1 vs2 : List Value} (x : Option ℕ) → Each (AlikeValue f) vs1 vs2 → Both (AlikeValue f) (option_and_then (slice_get vs1) x) (option_and_then (slice_get vs2) x)
field_alike None vs = neither
field_alike (Some i) vs = each_get i vs

pub value_at_alike : {f : Map} {o1 o2 : Object} (p : Program) (field : ℕ) → AlikeObject f o1 o2 → Both (AlikeValue f) (value_at p field o1) (value_at p field o2)
unfolding value_at
value_at_alike p field outs = neither
value_at_alike p field (instances {class = class} vs) = field_alike (slot p class field) vs
value_at_alike p field (arrays vs) = neither
value_at_alike p field texts = neither
value_at_alike p field builders = neither
value_at_alike p field constants = neither
