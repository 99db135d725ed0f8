-- The frame before an instruction, and the steps that many instructions share.
use Rattle.std.proofs.Common.{◌≡◌, inl, inr, ℕ, zero, suc, ◌+◌, ◌<◌, ◌≤◌, ℤ, pos, negsuc, Bool, true, false, cond, List, [], ◌∷◌, length, Option, Some, None, refl, sym, ap, ◌∙◌, subst, slice_get, slice_set, arith}
use Rattle.std.specs.Prelude.{nat_le, replicate, ◌-ℤ◌, All, map, slice_index_or, nat_lt, not, option_map, Contains, int_lt, int_le}
use Rattle.std.specs.Int.{int_wrapping_add, w32}
use Rattle.std.proofs.lemmas.Grind.{common_steps}
use Rattle.cc_meaning.specs.declared.instruction.How.TheVariants as how
use Rattle.cc_meaning.specs.declared.instruction.Insn.{Insn}
use Rattle.cc_meaning.specs.declared.instruction.Insn.TheVariants as insn
use Rattle.cc_meaning.specs.declared.instruction.Conversion.{Conversion}
use Rattle.cc_meaning.specs.declared.instruction.Conversion.TheVariants as conversion
use Rattle.cc_meaning.specs.declared.instruction.UnaryOp.{UnaryOp}
use Rattle.cc_meaning.specs.declared.instruction.IntOp.{IntOp}
use Rattle.cc_meaning.specs.declared.instruction.IntOp.TheVariants as op
use Rattle.cc_meaning.specs.declared.instruction.Kind.{Kind}
use Rattle.cc_meaning.specs.declared.instruction.Kind.TheVariants as kind
use Rattle.cc_meaning.specs.declared.instruction.MethodRef.TheVariants as ref
use Rattle.cc_meaning.specs.declared.instruction.Test.{Test}
use Rattle.cc_meaning.specs.declared.instruction.Test.TheVariants as test
use Rattle.cc_meaning.specs.declared.instruction.TypeRef.{TypeRef}
use Rattle.cc_meaning.specs.declared.instruction.TypeRef.TheVariants as type
use Rattle.cc_meaning.specs.declared.program.Base.{Base}
use Rattle.cc_meaning.specs.declared.program.Base.TheVariants as base
use Rattle.cc_meaning.specs.declared.program.DexType.{DexType}
use Rattle.cc_meaning.specs.declared.program.Field.{Field}
use Rattle.cc_meaning.specs.declared.program.Method.{Method}
use Rattle.cc_meaning.specs.declared.program.MethodKind.{MethodKind}
use Rattle.cc_meaning.specs.declared.program.MethodKind.TheVariants as kinds
use Rattle.cc_meaning.specs.declared.program.Placed.{Placed}
use Rattle.cc_meaning.specs.declared.program.Program.{Program}
use Rattle.cc_meaning.specs.declared.program.RegType.{RegType}
use Rattle.cc_meaning.specs.declared.program.RegType.TheVariants.{Unset, Int, Zero, LongLow, Reference, Fresh}
use Rattle.cc_meaning.specs.declared.value.Cell.{Cell}
use Rattle.cc_meaning.specs.declared.value.Cell.TheVariants as cell
use Rattle.cc_meaning.specs.declared.value.Object.TheVariants as object
use Rattle.cc_meaning.specs.declared.value.Value.{Value}
use Rattle.cc_meaning.specs.declared.value.Value.TheVariants as value
use Rattle.cc_meaning.specs.BuiltIn.{string_name, null_pointer_exception_name, array_index_out_of_bounds_exception_name, array_store_exception_name, class_cast_exception_name, abstract_method_error_name, incompatible_class_change_error_name, arithmetic_exception_name, negative_array_size_exception_name}
use Rattle.cc_meaning.specs.Kinds.{kind_of, zero_of}
use Rattle.cc_meaning_typing.specs.declared.state.Pending.{Pending}
use Rattle.cc_meaning_typing.specs.declared.state.Pending.TheVariants.{Nothing, Result, Exception}
use Rattle.cc_meaning_typing.specs.declared.state.State.{State}
use Rattle.cc_meaning_typing.specs.Hierarchy.{on_value, superclass_of, IsHierarchy}
use Rattle.cc_meaning_typing.specs.Types.{is_class, is_reference_in, fewer, typed, class_type, object_type, array_of, is_reference, held, IsBelow, same as below_same, object as below_object}
use Rattle.cc_meaning_typing.specs.Registers.{Covers, same as covers_same, unset as covers_unset, zero_int as covers_zero_int, references as covers_references, zero_reference as covers_zero_reference, register_of, register_of_kind}
use Rattle.cc_meaning_typing.specs.States.{construct, register_at, write, write_long}
use Rattle.cc_meaning_typing.specs.Code.{Body, is_array_of, is_array, divides, targets_in, case_targets, placed_at, insn_of, insn_at, type_made_by, element_of, string_type, throwable_type, type_of_class, type_made_at, address, can_throw, successors, successors_of}
use Rattle.cc_meaning_typing.specs.Rules.{AllHold, FillsFrom, number_width, pending_array, ComparesZero, HoldsCount, registers_converted, pending_result as pends, result_of, pending_call, construct_known, registers_called, HoldsClass, Accepts, Compares, write_named, write_field, element_known, element_for, Holds, HoldsPair, HoldsReference, HoldsArray, HoldsKind, form_of, int_constant, write_kind, write_pending, registers_after, pending_after, after}
use Rattle.cc_meaning_typing.specs.WellTyped.{KnowsMember, IsTarget, HasTargets, KnowsInstance, is_file_class, is_file_interface}
use Rattle.cc_meaning_typing.proofs.Tree.{test_eq}
use Rattle.cc_sound_laws.proofs.Lists.{all_contains, contains_head, contains_tail}
use Rattle.cc_sound_laws.proofs.Growing.{ref_below, all_grow, value_grows}
use Rattle.cc_sound_laws.proofs.Casts.{passes_below}
use Rattle.cc_sound_laws.proofs.Raising.{raise_safe}
use Rattle.cc_sound_laws.proofs.Acts.{sort_fits}
use Rattle.cc_sound_laws.proofs.Cells.{kind_fit, read, int_read, long_read, ref_read, declared_read, write_fit, write_keep, write_long_fit, declared_fit, forget_fit, construct_fit}
use Rattle.cc_sound_laws.proofs.Known.{class_up_type, held_plain, sort_no_interface, made_of, file_class_held, file_sort, array_known, sort_up, IsArray}
use Rattle.cc_sound_laws.proofs.Rows.{row_safe}
use Rattle.cc_sound_laws.proofs.Made.{zero_fits, new_fits, new_type}
use Rattle.cc_sound_laws.proofs.Calls.{arguments_read, IsFound, further_found, search_found}
use Rattle.cc_meaning_exec.specs.Arrays.{size_of, elements_from, numbers_in, fill, switch_to, chosen, pick, nth_from, elements_in, element_at, place_in, or_out_of_bounds, stored, element_type_of, on_array}
use Rattle.cc_meaning_exec.specs.Dispatch.{class_of_type, dispatch, enter_kind, enter, enter_found, answers_to, search_from, invoke_how, invoke}
use Rattle.cc_meaning_exec.specs.Eval.{call}
use Rattle.cc_meaning_exec.specs.Instructions.{value_at, make_of, cast_to, act_of}
use Rattle.cc_meaning_exec.specs.Numbers.{operated, or_divided_by_zero, compares_zero, are_same, both, or_else, is_same_int, compares, branch}
use Rattle.cc_meaning_exec.specs.Registers.{onto, go_back, null_of, int_in, long_in, reference_in, value_in, cells_with, go_on, set_next, on_reference, on_reference_or_null, on_int, on_long, cell_at}
use Rattle.cc_meaning_fits.specs.Fits.{ArgumentsFit, one, argument_types, Heap, Grows, RefFits, ValueFits, int as an_int, long as a_long, reference as a_reference, FitsType, ElementsFit, SortFits, CellFits, int, zero_int, zero_null, reference, fresh, AllFit, PendingFits, nothing, result, exception, FrameFits, ResultFits, void, gives, OutcomeFits}
use Rattle.cc_meaning_fits.specs.Premises.{IsRaised, null_pointer, out_of_bounds, array_store, class_cast, abstract_method, incompatible, arithmetic, negative_size, IsLinked}
use Rattle.cc_meaning_fits.specs.Soundness.{Takes, Safe}
use Rattle.cc_meaning_rows.specs.Calls.{truth, row_of_call, is_same_object}
use Rattle.cc_meaning_rows.specs.Rows.{built_in}
use Rattle.cc_meaning_world.specs.Acts.{Outcome, Act, ClassOf, Put, Look}
use Rattle.cc_meaning_world.specs.Casts.{passes}
use Rattle.cc_meaning_world.specs.Layouts.{new_object, slot, slot_in}
use Rattle.cc_meaning_world.specs.Sorts.{Sort, Instance, Array, Text, Constant, sort_of, number_of, type_of}
use Rattle.cc_meaning_world.specs.Throwing.{on_some, throw_new, on_object, or_throw}
use Rattle.cc_meaning_world.specs.World.{Locals}
use Rattle.cc_sound_laws.proofs.Pieces.{zero_cell, cell_read}
use Rattle.cc_meaning.specs.declared.value.Object.{Object}

-- the frame before an instruction at an address, which takes so many units: it fits a state
pub record Here : Type 0 where
  pub body : Body
  pub linked : IsLinked body.program
  pub at : ℕ
  pub units : ℕ
  pub state : State
  pub heap : Heap
  pub locals : Locals
  pub fits : FrameFits body.program body.code heap state locals

module _ (here : Here) where
  abbrev p : Program
  p = here.body.program

  abbrev body : Body
  body = here.body

  abbrev linked : IsLinked here.body.program
  linked = here.linked

  abbrev at : ℕ
  at = here.at

  abbrev units : ℕ
  units = here.units

  abbrev s : State
  s = here.state

  abbrev h : Heap
  h = here.heap

  abbrev locals : Locals
  locals = here.locals

  abbrev f : FrameFits here.body.program here.body.code here.heap here.state here.locals
  f = here.fits

  abbrev pub placed : Insn → Placed
  placed i = record { at = at; units = units; insn = i }

  -- where the instruction leads
  abbrev pub Goal : Insn → Heap → Outcome → Type 0
  Goal i = OutcomeFits body (placed i) s locals

  -- what has to be shown of it
  abbrev pub Sound : Insn → Type 0
  Sound i = Safe p (Goal i) h (act_of p body.method.class body.code at (at + units) locals i)

  abbrev pub made : ℕ → Option TypeRef
  made = type_made_at body.code

  pub some_safe : {A : Type 0} (Q : Heap → Outcome → Type 0) (h' : Heap) (x : Option A) (y : A) (k : A → Act) → x ≡ Some y → Safe p Q h' (k y) → Safe p Q h' (on_some x k)
  unfolding on_some
  some_safe Q h' x y k e g = subst (λ z. Safe p Q h' (on_some z k)) (sym e) g

  pub raise : (i : Insn) (h' : Heap) (name : List ℕ) → IsRaised name → can_throw i ≡ true → Safe p (Goal i) h' (throw_new p name)
  raise i h' name r c = raise_safe p (Goal i) h' name (linked.raised name r) (λ h2 a g. (g, c))

  pub object_safe : (i : Insn) (type : DexType) (o : Option ℕ) (k : ℕ → Act) → can_throw i ≡ true → RefFits p h type o → ((a : ℕ) → RefFits p h type (Some a) → Safe p (Goal i) h (k a)) → Safe p (Goal i) h (on_object p o k)
  unfolding on_object
  object_safe i type None k c g rest = raise i h null_pointer_exception_name null_pointer c
  object_safe i type (Some a) k c g rest = rest a g

  pub reference_safe : (i : Insn) (type : DexType) (r : ℕ) (k : ℕ → Act) → can_throw i ≡ true → Holds p s r (Reference type) → ((a : ℕ) → RefFits p h type (Some a) → Safe p (Goal i) h (k a)) → Safe p (Goal i) h (on_reference p locals r k)
  unfolding on_reference on_reference_or_null cell_at
  reference_safe i type r k c holds rest =
      let x = ref_read p linked.hierarchy made h type r f.registers holds in
      some_safe (Goal i) h _ x.0 (λ o. on_object p o k) x.1 (object_safe i type x.0 k c x.2 rest)

  -- an instruction that writes a register and goes on
  pub wrote : (i : Insn) (h' : Heap) (cells : List Cell) → Contains (successors body.code (placed i)) (Some (at + units)) → pending_after p i ≡ Nothing → AllFit p made h' (registers_after p at s.registers s.pending i) cells → Safe p (Goal i) h' (go_on (at + units) cells)
  unfolding go_on after
  wrote i h' cells c n f2 = (c, record { registers = f2; pending = subst (λ z. PendingFits p h' z None) (sym n) nothing })

  pub int_wrote : (i : Insn) (to : ℕ) (n : ℤ) → Contains (successors body.code (placed i)) (Some (at + units)) → pending_after p i ≡ Nothing → registers_after p at s.registers s.pending i ≡ write s.registers to Int → Safe p (Goal i) h (set_next (at + units) locals to (value.Int n))
  unfolding set_next cells_with
  int_wrote i to n c e r = wrote i h _ c e (subst (λ z. AllFit p made h z (slice_set locals.cells to (cell.Value (value.Int n)))) (sym r) (write_fit p linked.hierarchy made h to f.registers int))

  pub long_wrote : (i : Insn) (to : ℕ) (n : ℤ) → Contains (successors body.code (placed i)) (Some (at + units)) → pending_after p i ≡ Nothing → registers_after p at s.registers s.pending i ≡ write_long s.registers to → Safe p (Goal i) h (set_next (at + units) locals to (value.Long n))
  unfolding set_next
  long_wrote i to n c e r = wrote i h _ c e (subst (λ z. AllFit p made h z (cells_with locals.cells to (value.Long n))) (sym r) (write_long_fit p linked.hierarchy made h to n f.registers))

  pub object_wrote : (i : Insn) (h' : Heap) (to x : ℕ) (type : DexType) → Grows h h' → RefFits p h' type (Some x) → Contains (successors body.code (placed i)) (Some (at + units)) → pending_after p i ≡ Nothing → registers_after p at s.registers s.pending i ≡ write s.registers to (Reference type) →
      Safe p (Goal i) h' (set_next (at + units) locals to (value.Obj (Some x)))
  unfolding set_next cells_with
  object_wrote i h' to x type g r c e q = wrote i h' _ c e (subst (λ z. AllFit p made h' z (slice_set locals.cells to (cell.Value (value.Obj (Some x))))) (sym q) (write_fit p linked.hierarchy made h' to (all_grow p h h' g made f.registers) (reference {o = Some x} r)))

  pub truth_wrote : (i : Insn) (to : ℕ) (b : Bool) → Contains (successors body.code (placed i)) (Some (at + units)) → pending_after p i ≡ Nothing → registers_after p at s.registers s.pending i ≡ write s.registers to Int → Safe p (Goal i) h (set_next (at + units) locals to (truth b))
  unfolding truth
  truth_wrote i to true c e r = int_wrote i to (pos 1) c e r
  truth_wrote i to false c e r = int_wrote i to (pos 0) c e r

  pub at_int : (i : Insn) (r : ℕ) (k : ℤ → Act) → Holds p s r Int → ((n : ℤ) → Safe p (Goal i) h (k n)) → Safe p (Goal i) h (on_int locals r k)
  unfolding on_int cell_at
  at_int i r k holds rest = let x = int_read p linked.hierarchy made h r f.registers holds in some_safe (Goal i) h _ x.0 k x.1 (rest x.0)

  pub at_long : (i : Insn) (r : ℕ) (k : ℤ → Act) → HoldsPair p s r → ((n : ℤ) → Safe p (Goal i) h (k n)) → Safe p (Goal i) h (on_long locals r k)
  unfolding on_long cell_at
  at_long i r k holds rest = let x = long_read p linked.hierarchy made h r f.registers holds.0 in some_safe (Goal i) h _ x.0 k x.1 (rest x.0)

  pub cond_safe : (Q : Heap → Outcome → Type 0) (h' : Heap) (b : Bool) (x y : Act) → (b ≡ true → Safe p Q h' x) → (b ≡ false → Safe p Q h' y) → Safe p Q h' (cond b x y)
  cond_safe Q h' true x y then_safe else_safe = then_safe refl
  cond_safe Q h' false x y then_safe else_safe = else_safe refl

  pub bounds_safe : {A : Type 0} (i : Insn) (x : Option A) (k : A → Act) → can_throw i ≡ true → ((y : A) → x ≡ Some y → Safe p (Goal i) h (k y)) → Safe p (Goal i) h (or_out_of_bounds p x k)
  unfolding or_out_of_bounds or_throw
  bounds_safe i None k c rest = raise i h array_index_out_of_bounds_exception_name out_of_bounds c
  bounds_safe i (Some y) k c rest = rest y refl

  pub null_safe : (i : Insn) (k : ℕ → Act) → can_throw i ≡ true → Safe p (Goal i) h (on_object p None k)
  unfolding on_object
  null_safe i k c = raise i h null_pointer_exception_name null_pointer c

  -- goes on with an array and its elements
  pub look_array : (i : Insn) (type : DexType) (a : ℕ) (k : ℕ → Object → List Value → Act) → RefFits p h (array_of type) (Some a) →
      ((o : Object) → (x : IsArray p linked h o type) → h a ≡ Some (Array x.class (length x.values)) → Safe p (Goal i) h (k a o x.values)) → Safe p (Goal i) h (Look a (λ o. on_some (elements_in o) (k a o)))
  unfolding elements_in sort_of
  look_array i type a k g rest = (
    g.0,
    g.1,
    λ o so fo.
        let q = array_known p linked h o type fo (subst (λ z. IsBelow p (held p (type_of p z)) (array_of type)) (sym so) g.2) in
        let sorts : Array q.class (length q.values) ≡ g.0 = ap sort_of (sym q.is) ∙ so in
        some_safe (Goal i) h _ q.values _ (ap elements_in q.is) (rest o q (g.1 ∙ ap Some (sym sorts))),
  )

  -- an array's register is null, or known by its elements
  pub array_safe : (i : Insn) (r : ℕ) (Elements : DexType → Type 0) (k : ℕ → Object → List Value → Act) → can_throw i ≡ true → HoldsArray s r Elements →
      ((type : DexType) → Elements type → register_at s.registers r ≡ Reference (array_of type) → (a : ℕ) (o : Object) → (x : IsArray p linked h o type) → h a ≡ Some (Array x.class (length x.values)) → Safe p (Goal i) h (k a o x.values)) →
      Safe p (Goal i) h (on_array p locals r k)
  unfolding on_array on_reference on_reference_or_null cell_at
  array_safe i r Elements k c (inl z) rest =
      let x = cell_read p linked.hierarchy made h r Zero (λ e. cc) z f.registers in
      some_safe (Goal i) h _ None (λ o. on_object p o (λ a. Look a (λ o. on_some (elements_in o) (k a o)))) (ap reference_in x.1 ∙ zero_cell p made h x.2) (null_safe i _ c)
  array_safe i r Elements k c (inr x) rest =
      reference_safe i (array_of x.0) r _ c (subst (λ z. Covers p (Reference (array_of x.0)) z) (sym x.1) covers_same) (λ a g. look_array i x.0 a k g (λ o q there. rest x.0 x.2 x.1 a o q there))

  pub jumps_later : (h' : Heap) → Grows h h' → (i : Insn) (to : ℕ) → Contains (successors body.code (placed i)) (Some to) → registers_after p at s.registers s.pending i ≡ s.registers → pending_after p i ≡ Nothing → Safe p (Goal i) h' (go_on to locals.cells)
  unfolding go_on after
  jumps_later h' g i to c r n = (
    c,
    record {
      registers = subst (λ z. AllFit p made h' z locals.cells) (sym r) (all_grow p h h' g made f.registers);
      pending = subst (λ z. PendingFits p h' z None) (sym n) nothing;
    },
  )

  pub jumps : (i : Insn) (to : ℕ) → Contains (successors body.code (placed i)) (Some to) → registers_after p at s.registers s.pending i ≡ s.registers → pending_after p i ≡ Nothing → Safe p (Goal i) h (go_on to locals.cells)
  jumps i to c r n = jumps_later h (λ a sort e. e) i to c r n

  pub is_address : (x : Option ℕ) → IsTarget body.code x → (to : ℕ) × (x ≡ Some to)
  unfolding insn_at
  is_address None t = absurd t
  is_address (Some to) t = (to, refl)
