-- What is read and written, apart from any frame.
use Rattle.std.proofs.Common.{◌≡◌, inl, inr, ℕ, zero, suc, ◌+◌, ◌<◌, ◌≤◌, ℤ, pos, negsuc, Bool, true, false, cond, List, [], ◌∷◌, length, Option, Some, None, refl, sym, ap, ◌∙◌, subst, slice_get, slice_set, arith}
use Rattle.std.specs.Prelude.{nat_le, replicate, ◌-ℤ◌, All, map, slice_index_or, nat_lt, not, option_map, Contains, int_lt, int_le}
use Rattle.std.specs.Int.{int_wrapping_add, w32}
use Rattle.std.proofs.lemmas.Grind.{common_steps}
use Rattle.cc_meaning.specs.declared.instruction.How.TheVariants as how
use Rattle.cc_meaning.specs.declared.instruction.Insn.{Insn}
use Rattle.cc_meaning.specs.declared.instruction.Insn.TheVariants as insn
use Rattle.cc_meaning.specs.declared.instruction.Conversion.{Conversion}
use Rattle.cc_meaning.specs.declared.instruction.Conversion.TheVariants as conversion
use Rattle.cc_meaning.specs.declared.instruction.UnaryOp.{UnaryOp}
use Rattle.cc_meaning.specs.declared.instruction.IntOp.{IntOp}
use Rattle.cc_meaning.specs.declared.instruction.IntOp.TheVariants as op
use Rattle.cc_meaning.specs.declared.instruction.Kind.{Kind}
use Rattle.cc_meaning.specs.declared.instruction.Kind.TheVariants as kind
use Rattle.cc_meaning.specs.declared.instruction.MethodRef.TheVariants as ref
use Rattle.cc_meaning.specs.declared.instruction.Test.{Test}
use Rattle.cc_meaning.specs.declared.instruction.Test.TheVariants as test
use Rattle.cc_meaning.specs.declared.instruction.TypeRef.{TypeRef}
use Rattle.cc_meaning.specs.declared.instruction.TypeRef.TheVariants as type
use Rattle.cc_meaning.specs.declared.program.Base.{Base}
use Rattle.cc_meaning.specs.declared.program.Base.TheVariants as base
use Rattle.cc_meaning.specs.declared.program.DexType.{DexType}
use Rattle.cc_meaning.specs.declared.program.Field.{Field}
use Rattle.cc_meaning.specs.declared.program.Method.{Method}
use Rattle.cc_meaning.specs.declared.program.MethodKind.{MethodKind}
use Rattle.cc_meaning.specs.declared.program.MethodKind.TheVariants as kinds
use Rattle.cc_meaning.specs.declared.program.Placed.{Placed}
use Rattle.cc_meaning.specs.declared.program.Program.{Program}
use Rattle.cc_meaning.specs.declared.program.RegType.{RegType}
use Rattle.cc_meaning.specs.declared.program.RegType.TheVariants.{Unset, Int, Zero, LongLow, Reference, Fresh}
use Rattle.cc_meaning.specs.declared.value.Cell.{Cell}
use Rattle.cc_meaning.specs.declared.value.Cell.TheVariants as cell
use Rattle.cc_meaning.specs.declared.value.Object.TheVariants as object
use Rattle.cc_meaning.specs.declared.value.Value.{Value}
use Rattle.cc_meaning.specs.declared.value.Value.TheVariants as value
use Rattle.cc_meaning.specs.BuiltIn.{string_name, null_pointer_exception_name, array_index_out_of_bounds_exception_name, array_store_exception_name, class_cast_exception_name, abstract_method_error_name, incompatible_class_change_error_name, arithmetic_exception_name, negative_array_size_exception_name}
use Rattle.cc_meaning.specs.Kinds.{kind_of, zero_of}
use Rattle.cc_meaning_typing.specs.declared.state.Pending.{Pending}
use Rattle.cc_meaning_typing.specs.declared.state.Pending.TheVariants.{Nothing, Result, Exception}
use Rattle.cc_meaning_typing.specs.declared.state.State.{State}
use Rattle.cc_meaning_typing.specs.Hierarchy.{on_value, superclass_of, IsHierarchy}
use Rattle.cc_meaning_typing.specs.Types.{is_class, is_reference_in, fewer, typed, class_type, object_type, array_of, is_reference, held, IsBelow, same as below_same, object as below_object}
use Rattle.cc_meaning_typing.specs.Registers.{Covers, same as covers_same, unset as covers_unset, zero_int as covers_zero_int, references as covers_references, zero_reference as covers_zero_reference, register_of, register_of_kind}
use Rattle.cc_meaning_typing.specs.States.{construct, register_at, write, write_long}
use Rattle.cc_meaning_typing.specs.Code.{Body, is_array_of, is_array, divides, targets_in, case_targets, placed_at, insn_of, insn_at, type_made_by, element_of, string_type, throwable_type, type_of_class, type_made_at, address, can_throw, successors, successors_of}
use Rattle.cc_meaning_typing.specs.Rules.{AllHold, FillsFrom, number_width, pending_array, ComparesZero, HoldsCount, registers_converted, pending_result as pends, result_of, pending_call, construct_known, registers_called, HoldsClass, Accepts, Compares, write_named, write_field, element_known, element_for, Holds, HoldsPair, HoldsReference, HoldsArray, HoldsKind, form_of, int_constant, write_kind, write_pending, registers_after, pending_after, after}
use Rattle.cc_meaning_typing.specs.WellTyped.{KnowsMember, IsTarget, HasTargets, KnowsInstance, is_file_class, is_file_interface}
use Rattle.cc_meaning_typing.proofs.Tree.{test_eq}
use Rattle.cc_sound_laws.proofs.Lists.{all_contains, contains_head, contains_tail}
use Rattle.cc_sound_laws.proofs.Growing.{ref_below, all_grow, value_grows}
use Rattle.cc_sound_laws.proofs.Casts.{passes_below}
use Rattle.cc_sound_laws.proofs.Raising.{raise_safe}
use Rattle.cc_sound_laws.proofs.Acts.{sort_fits}
use Rattle.cc_sound_laws.proofs.Cells.{kind_fit, read, int_read, long_read, ref_read, declared_read, write_fit, write_keep, write_long_fit, declared_fit, forget_fit, construct_fit}
use Rattle.cc_sound_laws.proofs.Known.{class_up_type, held_plain, sort_no_interface, made_of, file_class_held, file_sort, array_known, sort_up}
use Rattle.cc_sound_laws.proofs.Rows.{row_safe}
use Rattle.cc_sound_laws.proofs.Made.{zero_fits, new_fits, new_type}
use Rattle.cc_sound_laws.proofs.Calls.{arguments_read, IsFound, further_found, search_found}
use Rattle.cc_meaning_exec.specs.Arrays.{size_of, elements_from, numbers_in, fill, switch_to, chosen, pick, nth_from, elements_in, element_at, place_in, or_out_of_bounds, stored, element_type_of, element_value}
use Rattle.cc_meaning_exec.specs.Dispatch.{class_of_type, dispatch, enter_kind, enter, enter_found, answers_to, search_from, invoke_how, invoke}
use Rattle.cc_meaning_exec.specs.Eval.{call}
use Rattle.cc_meaning_exec.specs.Instructions.{value_at, make_of, cast_to, act_of}
use Rattle.cc_meaning_exec.specs.Numbers.{operated, or_divided_by_zero, compares_zero, are_same, both, or_else, is_same_int, compares, branch, kept}
use Rattle.cc_meaning_exec.specs.Registers.{onto, go_back, null_of, int_in, long_in, reference_in, value_in, cells_with, go_on, set_next, on_reference}
use Rattle.cc_meaning_fits.specs.Fits.{no_more, ArgumentsFit, one, argument_types, Heap, Grows, RefFits, ValueFits, int as an_int, long as a_long, reference as a_reference, FitsType, ElementsFit, SortFits, CellFits, int, zero_int, zero_null, reference, fresh, AllFit, PendingFits, nothing, result, exception, FrameFits, ResultFits, void, gives, OutcomeFits, IsThere, AreThere}
use Rattle.cc_meaning_fits.specs.Premises.{IsRaised, null_pointer, out_of_bounds, array_store, class_cast, abstract_method, incompatible, arithmetic, negative_size, IsLinked}
use Rattle.cc_meaning_fits.specs.Soundness.{Takes, Safe}
use Rattle.cc_meaning_rows.specs.Calls.{truth, row_of_call, is_same_object}
use Rattle.cc_meaning_rows.specs.Rows.{built_in}
use Rattle.cc_meaning_world.specs.Acts.{Outcome, Act, ClassOf, Put}
use Rattle.cc_meaning_world.specs.Casts.{passes}
use Rattle.cc_meaning_world.specs.Layouts.{new_object, slot, slot_in}
use Rattle.cc_meaning_world.specs.Sorts.{Sort, Instance, Array, Text, Constant, sort_of, number_of, type_of}
use Rattle.cc_meaning_world.specs.Throwing.{on_some, throw_new, on_object}
use Rattle.cc_meaning_world.specs.World.{Locals}

-- ---- what a pending value is

pub pending_result : (p : Program) (h : Heap) {a : Pending} {v : Option Value} (type : DexType) → PendingFits p h a v → a ≡ Result type → (x : Value) × (v ≡ Some x) × FitsType p h type x
pending_result p h type nothing e = absurd (cc)
pending_result p h type (result {type = t} {v = x} f) e = (x, refl, let q : t ≡ type = cc in subst (λ z. FitsType p h z x) q f)
pending_result p h type (exception f) e = absurd (cc)

pub pending_exception : (p : Program) (h : Heap) {a : Pending} {v : Option Value} (type : DexType) → PendingFits p h a v → a ≡ Exception type → (x : ℕ) × (v ≡ Some (value.Obj (Some x))) × RefFits p h type (Some x)
pending_exception p h type nothing e = absurd (cc)
pending_exception p h type (result f) e = absurd (cc)
pending_exception p h type (exception {type = t} {a = a} f) e = (a, refl, let q : t ≡ type = cc in subst (λ z. RefFits p h z (Some a)) q f)

pub constant_fits : (p : Program) (made : ℕ → Option TypeRef) (h : Heap) (n : ℤ) → CellFits p made h (int_constant n) (cell.Value (value.Int n))
unfolding int_constant
constant_fits p made h (pos zero) = zero_int
constant_fits p made h (pos (suc n)) = int
constant_fits p made h (negsuc n) = int

pub value_form : (k : Kind) (c : Option Cell) → value_in (form_of k) c ≡ value_in k c
unfolding value_in form_of
value_form kind.Wide c = refl
value_form kind.Object c = refl
value_form kind.Plain c = refl
value_form kind.Boolean c = refl
value_form kind.Byte c = refl
value_form kind.Char c = refl
value_form kind.Short c = refl

pub no_reference_unset : (p : Program) {type : DexType} → Covers p (Reference type) Unset → ⊥
no_reference_unset p c = go c refl refl
  where
    go : {type : DexType} {a b : RegType} → Covers p b a → b ≡ Reference type → a ≡ Unset → ⊥
    go covers_unset e d = cc
    go covers_same e d = cc
    go covers_zero_int e d = cc
    go covers_zero_reference e d = cc
    go (covers_references b) e d = cc

pub no_unset_int : (p : Program) {a : RegType} → Covers p Int a → a ≡ Unset → ⊥
no_unset_int p c e = go c refl e
  where
    go : {a b : RegType} → Covers p b a → b ≡ Int → a ≡ Unset → ⊥
    go covers_unset e d = cc
    go covers_same e d = cc
    go covers_zero_int e d = cc
    go covers_zero_reference e d = cc
    go (covers_references b) e d = cc

pub zero_reference : reference_in (Some (cell.Value (value.Int (pos 0)))) ≡ Some None
unfolding reference_in null_of
zero_reference = refl

pub held_text : (p : Program) (linked : IsLinked p) → held p (string_type p) ≡ string_type p
unfolding string_type number_of
held_text p linked = held_plain p linked (number_of p string_name) linked.text_held

pub map_contains : {X Y : Type 0} (g : X → Y) (xs : List X) (x : X) → Contains xs x → Contains (map g xs) (g x)
map_contains g [] x c = absurd (omega (arith, c.1))
map_contains g (y ∷ xs) x c = by c.0 c.1 c.2 (λ k l e. map_contains g xs x (k, l, e))
  where
    by : (k : ℕ) → k < length (y ∷ xs) → slice_index_or (y ∷ xs) k x ≡ x → ((k : ℕ) → k < length xs → slice_index_or xs k x ≡ x → Contains (map g xs) (g x)) → Contains (map g (y ∷ xs)) (g x)
    by zero l e ih = subst (λ z. Contains (map g (y ∷ xs)) (g z)) e (contains_head (g y) (map g xs))
    by (suc k) l e ih = contains_tail (g x) (g y) (map g xs) (ih k (omega (arith, l)) e)

pub got_contains : {X : Type 0} (xs : List X) (k : ℕ) (x : X) → slice_get xs k ≡ Some x → Contains xs x
got_contains [] k x e = absurd (cc)
got_contains (y ∷ xs) zero x e = subst (λ z. Contains (y ∷ xs) z) (let q : y ≡ x = cc in q) (contains_head y xs)
got_contains (y ∷ xs) (suc k) x e = contains_tail x y xs (got_contains xs k x e)

pub nth_among : (targets : List ℤ) (i t : ℤ) → nth_from targets i ≡ Some t → Contains targets t
unfolding nth_from
nth_among targets (pos i) t e = got_contains targets i t e
nth_among targets (negsuc i) t e = absurd (cc)

pub pick_among : (n : ℤ) (keys targets : List ℤ) (t : ℤ) → pick n keys targets ≡ Some t → Contains targets t
unfolding pick
pick_among n (key ∷ keys) (target ∷ targets) t e = by (is_same_int n key) e (pick_among n keys targets t)
  where
    by : (b : Bool) → cond b (Some target) (pick n keys targets) ≡ Some t → (pick n keys targets ≡ Some t → Contains targets t) → Contains (target ∷ targets) t
    by true e ih = subst (λ z. Contains (target ∷ targets) z) (let q : target ≡ t = cc in q) (contains_head target targets)
    by false e ih = contains_tail t target targets (ih e)
pick_among n [] targets t e = absurd (cc)
pick_among n (key ∷ keys) [] t e = absurd (cc)

pub chosen_among : (packed : Bool) (payload : Option Insn) (n t : ℤ) → chosen packed payload n ≡ Some t → Contains (targets_in packed payload) t
unfolding chosen targets_in
chosen_among true (Some (insn.PackedPayload first targets)) n t e = nth_among targets (n -ℤ first) t e
chosen_among false (Some (insn.SparsePayload keys targets)) n t e = pick_among n keys targets t e
chosen_among packed payload n t e = absurd (cc)

-- a fresh object's cell
pub record IsFresh (p : Program) (made : ℕ → Option TypeRef) (h : Heap) (at : ℕ) (c : Cell) : Type 0 where
  pub object : ℕ
  pub sort : Sort
  pub is : reference_in (Some c) ≡ Some (Some object)
  pub there : h object ≡ Some sort
  pub sort_so : SortFits p sort
  pub made_so : made at ≡ Some (type.Known (type_of p sort))

pub fresh_cell : (p : Program) (made : ℕ → Option TypeRef) (h : Heap) (at : ℕ) {c : Cell} → CellFits p made h (Fresh at) c → IsFresh p made h at c
unfolding reference_in
fresh_cell p made h at (fresh {a = a} sort e sf m) = record { object = a; sort = sort; is = refl; there = e; sort_so = sf; made_so = m }

pub zero_cell : (p : Program) (made : ℕ → Option TypeRef) (h : Heap) {c : Cell} → CellFits p made h Zero c → reference_in (Some c) ≡ Some None
unfolding reference_in null_of
zero_cell p made h zero_int = refl

-- what an array gives is known as its element is
pub element_kind : (p : Program) (hierarchy : IsHierarchy p) (made : ℕ → Option TypeRef) (h : Heap) (rs : List RegType) (cs : List Cell) (type element : DexType) (to : ℕ) (k : Kind) {v : Value} → AllFit p made h rs cs → IsBelow p (held p element) type → ValueFits p h (register_of_kind p element k) v →
    AllFit p made h (write_kind rs to (element_for k (Reference (array_of type))) k) (cells_with cs to v)
unfolding register_of_kind write_kind element_for element_known element_of fewer cells_with
element_kind p hierarchy made h rs cs type element to kind.Object fs b g = object_case g
  where
    object_case : {v : Value} → ValueFits p h (Reference (held p element)) v → AllFit p made h (write rs to (Reference type)) (cells_with cs to v)
    object_case (a_reference {o = o} r) = write_fit p hierarchy made h to fs (reference {o = o} (ref_below p hierarchy h (held p element) type o b r))
element_kind p hierarchy made h rs cs type element to k fs b g = kind_fit p hierarchy made h element k to fs g

-- the cell of a register that is known
pub cell_read : (p : Program) (hierarchy : IsHierarchy p) (made : ℕ → Option TypeRef) (h : Heap) {rs : List RegType} {cs : List Cell} (r : ℕ) (a : RegType) → (a ≡ Unset → ⊥) → register_at rs r ≡ a → AllFit p made h rs cs → (c : Cell) × (slice_get cs r ≡ Some c) × CellFits p made h a c
cell_read p hierarchy made h r a u e fs = read p hierarchy made h a r u fs (subst (λ z. Covers p a z) (sym e) covers_same)

pub compares_ints : (t : Test) (a b : Option Cell) (x y : ℤ) → int_in a ≡ Some x → int_in b ≡ Some y → (yes : Bool) × (compares t a b ≡ Some yes)
unfolding compares are_same or_else both
compares_ints test.Eq a b x y e d = (is_same_int x y, rw (e, d) refl)
compares_ints test.Ne a b x y e d = (not (is_same_int x y), rw (e, d) refl)
compares_ints test.Lt a b x y e d = (int_lt x y, rw (e, d) refl)
compares_ints test.Ge a b x y e d = (int_le y x, rw (e, d) refl)
compares_ints test.Gt a b x y e d = (int_lt y x, rw (e, d) refl)
compares_ints test.Le a b x y e d = (int_le x y, rw (e, d) refl)

pub some_either : {A : Type 0} (x y : Option A) (b : A) → y ≡ Some b → (z : A) × (or_else x y ≡ Some z)
unfolding or_else
some_either None y b e = (b, e)
some_either (Some a) y b e = (a, refl)

pub same_references : (a b : Option Cell) (x y : Option ℕ) → reference_in a ≡ Some x → reference_in b ≡ Some y → (yes : Bool) × (are_same a b ≡ Some yes)
unfolding are_same both
same_references a b x y e d = some_either _ _ (is_same_object x y) (rw (e, d) refl)

pub place_below : (values : List Value) (i : ℤ) (j : ℕ) → place_in values i ≡ Some j → j < length values
unfolding place_in
place_below values (pos i) j e = by (nat_lt i (length values)) refl e
  where
    by : (b : Bool) → nat_lt i (length values) ≡ b → cond b (Some i) None ≡ Some j → j < length values
    by true t e = let q : i ≡ j = cc in subst (λ z. z < length values) q (grind (arith, common_steps, t))
    by false t e = absurd (cc)
place_below values (negsuc i) j e = absurd (cc)

pub element_fits : (p : Program) (h : Heap) (element : DexType) (values : List Value) (i : ℤ) (v : Value) → ElementsFit p h element values → element_at values i ≡ Some v → FitsType p h element v
unfolding element_at
element_fits p h element values (pos i) v f e = f i v e
element_fits p h element values (negsuc i) v f e = absurd (cc)

-- ---- new objects

-- ---- new arrays

pub repeated : {X : Type 0} (n : ℕ) (x y : X) (i : ℕ) → slice_get (replicate n x) i ≡ Some y → x ≡ y
repeated zero x y i e = absurd (cc)
repeated (suc n) x y zero e = cc
repeated (suc n) x y (suc i) e = repeated n x y i e

pub array_eta_in : (dims : ℕ) (b : Base) → is_array_of dims ≡ true → typed dims b ≡ array_of (typed (fewer dims) b)
unfolding is_array_of fewer
array_eta_in zero b e = absurd (cc)
array_eta_in (suc dims) b e = refl

pub array_eta : (t : DexType) → is_array t ≡ true → t ≡ array_of (element_of t)
unfolding is_array element_of
array_eta t e = array_eta_in t.dims t.base e

pub array_kind_in : (dims : ℕ) (b : Base) → is_array_of dims ≡ true → kind_of (typed dims b) ≡ kind.Object
unfolding is_array_of
array_kind_in zero b e = absurd (cc)
array_kind_in (suc dims) b e = elim (test_eq (suc dims) 0) [ inl t ↦ absurd (let f = t.1 in cc) | inr t ↦ rw t.0 refl ]

pub array_kind : (t : DexType) → is_array t ≡ true → kind_of t ≡ kind.Object
unfolding is_array
array_kind t e = array_kind_in t.dims t.base e

pub zeros_elements : (p : Program) (h : Heap) (element : DexType) (n : ℕ) → ElementsFit p h element (replicate n (zero_of (kind_of element)))
unfolding register_of
zeros_elements p h element n i v e = subst (λ z. FitsType p h element z) (repeated n (zero_of (kind_of element)) v i e) (zero_fits p h element (kind_of element))

pub elements_more : (p : Program) (h : Heap) (element : DexType) (v : Value) (vs : List Value) → FitsType p h element v → ElementsFit p h element vs → ElementsFit p h element (v ∷ vs)
elements_more p h element v vs f fs zero x e = subst (λ z. FitsType p h element z) (let q : v ≡ x = cc in q) f
elements_more p h element v vs f fs (suc i) x e = fs i x e

-- ---- payloads

pub at_most : (a b : ℕ) → nat_le a b ≡ true → 0 + a ≤ b
at_most a b e = let f : a ≤ b = grind (arith, common_steps, e) in omega arith

-- a value that a store keeps is of the same type
pub kept_fits : (p : Program) (h : Heap) (k : Kind) {a : RegType} {v : Value} → ValueFits p h a v → ValueFits p h a (kept k v)
unfolding kept
kept_fits p h k an_int = an_int
kept_fits p h k a_long = a_long
kept_fits p h k (a_reference {o = o} f) = a_reference {o = o} f

pub number_fits : (p : Program) (h : Heap) (u : DexType) (k : Kind) (width n : ℕ) → number_width k ≡ Some width → ValueFits p h (register_of_kind p u k) (element_value k n)
unfolding number_width register_of_kind element_value
number_fits p h u kind.Wide width n e = a_long
number_fits p h u kind.Boolean width n e = an_int
number_fits p h u kind.Byte width n e = an_int
number_fits p h u kind.Short width n e = an_int
number_fits p h u kind.Char width n e = an_int
number_fits p h u kind.Plain width n e = an_int
number_fits p h u kind.Object width n e = absurd (cc)

-- each of these values fits a type
pub AllFitType : (p : Program) (h : Heap) (u : DexType) → List Value → Type 0
AllFitType p h u [] = Unit {0}
AllFitType p h u (v ∷ vs) = FitsType p h u v × AllFitType p h u vs

pub numbers_fit : (p : Program) (h : Heap) (u : DexType) (width : ℕ) (ns : List ℕ) → number_width (kind_of u) ≡ Some width → AllFitType p h u (map (element_value (kind_of u)) ns)
unfolding AllFitType register_of
numbers_fit p h u width [] e = tt
numbers_fit p h u width (n ∷ ns) e = (number_fits p h u (kind_of u) width n e, numbers_fit p h u width ns e)

pub all_fit_grows : (p : Program) (h h' : Heap) (g : Grows h h') (u : DexType) (vs : List Value) → AllFitType p h u vs → AllFitType p h' u vs
unfolding AllFitType
all_fit_grows p h h' g u [] f = tt
all_fit_grows p h h' g u (v ∷ vs) f = (value_grows p h h' g f.0, all_fit_grows p h h' g u vs f.1)

pub fill_safe : (p : Program) (Q : Heap → Outcome → Type 0) (a class n : ℕ) (u : DexType) (k : Act) → type_of_class p class ≡ array_of u → (vs : List Value) (i : ℕ) (h : Heap) → i + length vs ≤ n → h a ≡ Some (Array class n) → AllFitType p h u vs → ((h' : Heap) → Grows h h' → Safe p Q h' k) → Safe p Q h (fill a i vs k)
unfolding fill AllFitType
fill_safe p Q a class n u k c [] i h l e f rest = rest h (λ x sort d. d)
fill_safe p Q a class n u k c (v ∷ vs) i h l e f rest =
    (Array class n, e, (u, c, omega (arith, l), f.0), λ h' g. fill_safe p Q a class n u k c vs (suc i) h' (omega (arith, l)) (g a (Array class n) e) (all_fit_grows p h h' g u vs f.1) (λ h2 g2. rest h2 (λ x sort d. g2 x sort (g x sort d))))

-- ---- objects with fields

pub value_there : (p : Program) (field class i : ℕ) (values : List Value) (v : Value) → slot p class field ≡ Some i → slice_get values i ≡ Some v → value_at p field (object.Instance class values) ≡ Some v
unfolding value_at
value_there p field class i values v e d = rw e d

pub slot_there : (p : Program) (sort : Sort) (field class fields i : ℕ) → sort ≡ Instance class fields → slot p class field ≡ Some i → slot_in p (type_of p sort).base field ≡ Some i
unfolding slot_in type_of
slot_there p sort field class fields i e d = subst (λ z. slot_in p (type_of p z).base field ≡ Some i) (sym e) d

-- ---- calls

-- what a call gives is pending
pub result_pends : (p : Program) (h : Heap) {type : Option DexType} {v : Option Value} → ResultFits p h type v → PendingFits p h (pends type) v
unfolding pends
result_pends p h void = nothing
result_pends p h (gives f) = result f

-- a register that is known as a reference is no fresh object
pub no_construct_in : (p : Program) (rs : List RegType) (class : ℕ) (type : DexType) {b a : RegType} → Covers p b a → b ≡ Reference type → construct_known p rs class a ≡ rs
unfolding construct_known
no_construct_in p rs class type covers_unset e = absurd (cc)
no_construct_in p rs class type covers_same e = rw e refl
no_construct_in p rs class type covers_zero_int e = absurd (cc)
no_construct_in p rs class type covers_zero_reference e = refl
no_construct_in p rs class type (covers_references b) e = refl

pub no_construct : (p : Program) (rs : List RegType) (class : ℕ) (type : DexType) (a : RegType) → Covers p (Reference type) a → construct_known p rs class a ≡ rs
no_construct p rs class type a c = no_construct_in p rs class type c refl

pub fresh_constructs : (p : Program) (rs : List RegType) (class at : ℕ) (a : RegType) → a ≡ Fresh at → construct_known p rs class a ≡ construct rs at (held p (class_type class))
unfolding construct_known
fresh_constructs p rs class at a e = rw e refl

pub receiver_fits : (p : Program) (h : Heap) (class : ℕ) (a : ℕ) → RefFits p h (held p (class_type class)) (Some a) → FitsType p h (class_type class) (value.Obj (Some a))
unfolding register_of register_of_kind
receiver_fits p h class a g = a_reference {o = Some a} g

pub with_receiver : (p : Program) (h : Heap) (callee : Method) (a : ℕ) (vs : List Value) → callee.is_static ≡ false → RefFits p h (held p (class_type callee.class)) (Some a) → ArgumentsFit p h callee.params vs → ArgumentsFit p h (argument_types callee) (value.Obj (Some a) ∷ vs)
unfolding argument_types
with_receiver p h callee a vs e g f = subst (λ b. ArgumentsFit p h (cond b callee.params (class_type callee.class ∷ callee.params)) (value.Obj (Some a) ∷ vs)) (sym e) (one (receiver_fits p h callee.class a g) f)

pub value_there_is : (p : Program) (h : Heap) {a : RegType} {v : Value} → ValueFits p h a v → IsThere h v
value_there_is p h an_int = tt
value_there_is p h a_long = tt
value_there_is p h (a_reference {o = None} f) = tt
value_there_is p h (a_reference {o = Some a} f) = (f.0, f.1)

-- the objects of arguments that fit are there
pub arguments_there : (p : Program) (h : Heap) {types : List DexType} {vs : List Value} → ArgumentsFit p h types vs → AreThere h vs
arguments_there p h no_more = tt
arguments_there p h (one f fs) = (value_there_is p h f, arguments_there p h fs)
