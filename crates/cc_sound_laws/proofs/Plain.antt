-- The acts of instructions that touch registers alone are safe: constants, moves, arithmetic, ends and branches.
use Rattle.std.proofs.Common.{◌≡◌, inl, inr, ℕ, zero, suc, ◌+◌, ◌<◌, ◌≤◌, ℤ, pos, negsuc, Bool, true, false, cond, List, [], ◌∷◌, length, Option, Some, None, refl, sym, ap, ◌∙◌, subst, slice_get, slice_set, arith, w64}
use Rattle.std.specs.Prelude.{◌&&◌, nat_le, replicate, ◌-ℤ◌, All, map, slice_index_or, nat_lt, not, option_map, Contains, int_lt, int_le}
use Rattle.std.specs.Int.{Width, w32, w64}
use Rattle.cc_meaning_insn.specs.Arithmetic.{converted, op_value}
use Rattle.std.proofs.lemmas.Grind.{common_steps}
use Rattle.cc_meaning.specs.declared.instruction.How.TheVariants as how
use Rattle.cc_meaning.specs.declared.instruction.Insn.{Insn}
use Rattle.cc_meaning.specs.declared.instruction.Insn.TheVariants as insn
use Rattle.cc_meaning.specs.declared.instruction.Conversion.{Conversion}
use Rattle.cc_meaning.specs.declared.instruction.Conversion.TheVariants as conversion
use Rattle.cc_meaning.specs.declared.instruction.UnaryOp.{UnaryOp}
use Rattle.cc_meaning.specs.declared.instruction.IntOp.{IntOp}
use Rattle.cc_meaning.specs.declared.instruction.IntOp.TheVariants as op
use Rattle.cc_meaning.specs.declared.instruction.Kind.{Kind}
use Rattle.cc_meaning.specs.declared.instruction.Kind.TheVariants as kind
use Rattle.cc_meaning.specs.declared.instruction.MethodRef.TheVariants as ref
use Rattle.cc_meaning.specs.declared.instruction.Test.{Test}
use Rattle.cc_meaning.specs.declared.instruction.Test.TheVariants as test
use Rattle.cc_meaning.specs.declared.instruction.TypeRef.{TypeRef}
use Rattle.cc_meaning.specs.declared.instruction.TypeRef.TheVariants as type
use Rattle.cc_meaning.specs.declared.program.Base.{Base}
use Rattle.cc_meaning.specs.declared.program.Base.TheVariants as base
use Rattle.cc_meaning.specs.declared.program.DexType.{DexType}
use Rattle.cc_meaning.specs.declared.program.Field.{Field}
use Rattle.cc_meaning.specs.declared.program.Method.{Method}
use Rattle.cc_meaning.specs.declared.program.MethodKind.{MethodKind}
use Rattle.cc_meaning.specs.declared.program.MethodKind.TheVariants as kinds
use Rattle.cc_meaning.specs.declared.program.Placed.{Placed}
use Rattle.cc_meaning.specs.declared.program.Program.{Program}
use Rattle.cc_meaning.specs.declared.program.RegType.{RegType}
use Rattle.cc_meaning.specs.declared.program.RegType.TheVariants.{Unset, Int, Zero, LongLow, Reference, Fresh}
use Rattle.cc_meaning.specs.declared.value.Cell.{Cell}
use Rattle.cc_meaning.specs.declared.value.Cell.TheVariants as cell
use Rattle.cc_meaning.specs.declared.value.Object.TheVariants as object
use Rattle.cc_meaning.specs.declared.value.Value.{Value}
use Rattle.cc_meaning.specs.declared.value.Value.TheVariants as value
use Rattle.cc_meaning.specs.BuiltIn.{string_name, null_pointer_exception_name, array_index_out_of_bounds_exception_name, array_store_exception_name, class_cast_exception_name, abstract_method_error_name, incompatible_class_change_error_name, arithmetic_exception_name, negative_array_size_exception_name}
use Rattle.cc_meaning.specs.Kinds.{kind_of, zero_of}
use Rattle.cc_meaning_typing.specs.declared.state.Pending.{Pending}
use Rattle.cc_meaning_typing.specs.declared.state.Pending.TheVariants.{Nothing, Result, Exception}
use Rattle.cc_meaning_typing.specs.declared.state.State.{State}
use Rattle.cc_meaning_typing.specs.Hierarchy.{on_value, superclass_of, IsHierarchy}
use Rattle.cc_meaning_typing.specs.Types.{is_class, is_reference_in, fewer, typed, class_type, object_type, array_of, is_reference, held, IsBelow, same as below_same, object as below_object}
use Rattle.cc_meaning_typing.specs.Registers.{Covers, same as covers_same, unset as covers_unset, zero_int as covers_zero_int, references as covers_references, zero_reference as covers_zero_reference, register_of, register_of_kind}
use Rattle.cc_meaning_typing.specs.States.{construct, register_at, write, write_long}
use Rattle.cc_meaning_typing.specs.Code.{Body, is_array_of, is_array, divides, targets_in, case_targets, placed_at, insn_of, insn_at, type_made_by, element_of, string_type, throwable_type, type_of_class, type_made_at, address, can_throw, successors, successors_of}
use Rattle.cc_meaning_typing.specs.Rules.{AllHold, FillsFrom, number_width, pending_array, ComparesZero, HoldsCount, registers_converted, pending_result as pends, result_of, pending_call, construct_known, registers_called, HoldsClass, Accepts, Compares, write_named, write_field, element_known, element_for, Holds, HoldsPair, HoldsReference, HoldsArray, HoldsKind, form_of, int_constant, write_kind, write_pending, registers_after, pending_after, after}
use Rattle.cc_meaning_typing.specs.WellTyped.{KnowsMember, IsTarget, HasTargets, KnowsInstance, is_file_class, is_file_interface}
use Rattle.cc_meaning_typing.proofs.Tree.{test_eq}
use Rattle.cc_sound_laws.proofs.Lists.{all_contains, contains_head, contains_tail}
use Rattle.cc_sound_laws.proofs.Growing.{ref_below, all_grow, value_grows}
use Rattle.cc_sound_laws.proofs.Casts.{passes_below}
use Rattle.cc_sound_laws.proofs.Raising.{raise_safe}
use Rattle.cc_sound_laws.proofs.Acts.{sort_fits}
use Rattle.cc_sound_laws.proofs.Cells.{kind_fit, read, int_read, long_read, ref_read, declared_read, write_fit, write_keep, write_long_fit, declared_fit, forget_fit, construct_fit}
use Rattle.cc_sound_laws.proofs.Known.{class_up_type, held_plain, sort_no_interface, made_of, file_class_held, file_sort, array_known, sort_up}
use Rattle.cc_sound_laws.proofs.Rows.{row_safe}
use Rattle.cc_sound_laws.proofs.Made.{zero_fits, new_fits, new_type}
use Rattle.cc_sound_laws.proofs.Calls.{arguments_read, IsFound, further_found, search_found}
use Rattle.cc_meaning_exec.specs.Arrays.{size_of, elements_from, numbers_in, fill, switch_to, chosen, pick, nth_from, elements_in, element_at, place_in, or_out_of_bounds, stored, element_type_of}
use Rattle.cc_meaning_exec.specs.Dispatch.{class_of_type, dispatch, enter_kind, enter, enter_found, answers_to, search_from, invoke_how, invoke}
use Rattle.cc_meaning_exec.specs.Eval.{call}
use Rattle.cc_meaning_exec.specs.Instructions.{value_at, make_of, cast_to, act_of, class_of_named, move_reference, move_int}
use Rattle.cc_meaning_exec.specs.Numbers.{operated, or_divided_by_zero, compares_zero, are_same, both, or_else, is_same_int, compares, branch, second_in, operated_as, converted_in}
use Rattle.cc_meaning_exec.specs.Registers.{onto, go_back, null_of, int_in, long_in, reference_in, value_in, cells_with, go_on, set_next, on_reference, cell_at, on_value_of, on_reference_or_null, on_int, move_cell}
use Rattle.cc_meaning_fits.specs.Fits.{ArgumentsFit, one, argument_types, Heap, Grows, RefFits, ValueFits, int as an_int, long as a_long, reference as a_reference, FitsType, ElementsFit, SortFits, CellFits, int, zero_int, zero_null, reference, fresh, AllFit, PendingFits, nothing, result, exception, FrameFits, ResultFits, void, gives, OutcomeFits, literal_sort}
use Rattle.cc_meaning_fits.specs.Premises.{IsRaised, null_pointer, out_of_bounds, array_store, class_cast, abstract_method, incompatible, arithmetic, negative_size, IsLinked}
use Rattle.cc_meaning_fits.specs.Soundness.{Takes, Safe}
use Rattle.cc_meaning_rows.specs.Calls.{truth, row_of_call, is_same_object}
use Rattle.cc_meaning_rows.specs.Rows.{built_in}
use Rattle.cc_meaning_world.specs.Acts.{Outcome, Act, ClassOf, Put}
use Rattle.cc_meaning_world.specs.Casts.{passes}
use Rattle.cc_meaning_world.specs.Layouts.{new_object, slot, slot_in}
use Rattle.cc_meaning_world.specs.Sorts.{Sort, Instance, Array, Text, Constant, sort_of, number_of, type_of}
use Rattle.cc_meaning_world.specs.Throwing.{on_some, throw_new, on_object, or_throw}
use Rattle.cc_meaning_world.specs.World.{Locals}
use Rattle.cc_sound_laws.proofs.Here.{Here, Goal, Sound, made, some_safe, raise, reference_safe, int_wrote, long_wrote, object_wrote, at_int, at_long, jumps, is_address}
use Rattle.cc_sound_laws.proofs.Pieces.{pending_result, pending_exception, constant_fits, value_form, no_reference_unset, no_unset_int, zero_reference, held_text, map_contains, chosen_among, fresh_cell, cell_read, compares_ints, same_references}

module _ (here : Here) where
  abbrev p : Program
  p = here.body.program

  abbrev body : Body
  body = here.body

  abbrev linked : IsLinked here.body.program
  linked = here.linked

  abbrev at : ℕ
  at = here.at

  abbrev units : ℕ
  units = here.units

  abbrev s : State
  s = here.state

  abbrev h : Heap
  h = here.heap

  abbrev locals : Locals
  locals = here.locals

  abbrev f : FrameFits here.body.program here.body.code here.heap here.state here.locals
  f = here.fits

  pub const_int : (to : ℕ) (n : ℤ) → Sound here (insn.ConstInt to n)
  unfolding act_of set_next go_on cells_with after registers_after pending_after successors successors_of
  const_int to n = (contains_head _ [], record { registers = write_fit p linked.hierarchy (made here) h to f.registers (constant_fits p (made here) h n); pending = nothing })

  -- the divisor is told from zero
  pub divided : (i : Insn) (w : Width) (o : IntOp) (x y : ℤ) (k : ℤ → Act) → (divides o ≡ true → can_throw i ≡ true) → ((n : ℤ) → Safe p (Goal here i) h (k n)) → Safe p (Goal here i) h (or_divided_by_zero p (operated w o x y) k)
  unfolding or_divided_by_zero or_throw operated
  divided i w o x y k c rest = by (divides o) (is_same_int y (pos 0)) c
    where
      by : (d b : Bool) → (d ≡ true → can_throw i ≡ true) → Safe p (Goal here i) h (or_divided_by_zero p (cond (d && b) None (Some (op_value w o x y))) k)
      by true true c = raise here i h arithmetic_exception_name arithmetic (c refl)
      by true false c = rest _
      by false b c = rest _

  pub int_op : (o : IntOp) (to left right : ℕ) → Accepts body at s (insn.IntOp o to left right) → Sound here (insn.IntOp o to left right)
  unfolding act_of registers_after pending_after successors successors_of can_throw
  int_op o to left right a = let i = insn.IntOp o to left right in
      at_int here i left _ a.1 (λ x. at_int here i right _ a.2 (λ y. divided i w32 o x y _ (λ e. e) (λ n. int_wrote here i to n (contains_head _ []) refl refl)))

  pub count_read : (o : IntOp) (right : ℕ) → HoldsCount p s o right → (n : ℤ) × (second_in o (cell_at locals right) ≡ Some n)
  unfolding second_in cell_at
  count_read op.Shl right c = int_read p linked.hierarchy (made here) h right f.registers c
  count_read op.Shr right c = int_read p linked.hierarchy (made here) h right f.registers c
  count_read op.Ushr right c = int_read p linked.hierarchy (made here) h right f.registers c
  count_read op.Add right c = long_read p linked.hierarchy (made here) h right f.registers c.0
  count_read op.Sub right c = long_read p linked.hierarchy (made here) h right f.registers c.0
  count_read op.Mul right c = long_read p linked.hierarchy (made here) h right f.registers c.0
  count_read op.Div right c = long_read p linked.hierarchy (made here) h right f.registers c.0
  count_read op.Rem right c = long_read p linked.hierarchy (made here) h right f.registers c.0
  count_read op.And right c = long_read p linked.hierarchy (made here) h right f.registers c.0
  count_read op.Or right c = long_read p linked.hierarchy (made here) h right f.registers c.0
  count_read op.Xor right c = long_read p linked.hierarchy (made here) h right f.registers c.0

  pub long_op : (o : IntOp) (to left right : ℕ) → Accepts body at s (insn.LongOp o to left right) → Sound here (insn.LongOp o to left right)
  unfolding act_of registers_after pending_after successors successors_of can_throw
  long_op o to left right a = let i = insn.LongOp o to left right in
      let y = count_read o right a.2 in
      at_long here i left _ a.1 (λ x. some_safe here (Goal here i) h _ y.0 _ y.1 (divided i w64 o x y.0 _ (λ e. e) (λ n. long_wrote here i to n (contains_head _ []) refl refl)))

  pub int_lit : (o : IntOp) (reversed : Bool) (to left : ℕ) (literal : ℤ) → Accepts body at s (insn.IntLit o reversed to left literal) → Sound here (insn.IntLit o reversed to left literal)
  unfolding act_of operated_as registers_after pending_after successors successors_of can_throw
  int_lit o reversed to left literal a = at_int here i left _ a.1 (λ x. by reversed x)
    where
      i : Insn
      i = insn.IntLit o reversed to left literal

      by : (b : Bool) (x : ℤ) → Safe p (Goal here i) h (or_divided_by_zero p (operated_as b w32 o x literal) (λ n. set_next (at + units) locals to (value.Int n)))
      by false x = divided i w32 o x literal _ (λ e. e) (λ n. int_wrote here i to n (contains_head _ []) refl refl)
      by true x = divided i w32 o literal x _ (λ e. e) (λ n. int_wrote here i to n (contains_head _ []) refl refl)

  pub int_unary : (o : UnaryOp) (to from : ℕ) → Accepts body at s (insn.IntUnary o to from) → Sound here (insn.IntUnary o to from)
  unfolding act_of registers_after pending_after successors successors_of
  int_unary o to from a = let i = insn.IntUnary o to from in at_int here i from _ a.1 (λ n. int_wrote here i to _ (contains_head _ []) refl refl)

  pub long_unary : (o : UnaryOp) (to from : ℕ) → Accepts body at s (insn.LongUnary o to from) → Sound here (insn.LongUnary o to from)
  unfolding act_of registers_after pending_after successors successors_of
  long_unary o to from a = let i = insn.LongUnary o to from in at_long here i from _ a.1 (λ n. long_wrote here i to _ (contains_head _ []) refl refl)

  pub convert_long : (to from : ℕ) → Accepts body at s (insn.Convert conversion.IntToLong to from) → Sound here (insn.Convert conversion.IntToLong to from)
  unfolding act_of converted_in cell_at registers_after registers_converted pending_after successors successors_of
  convert_long to from a =
      let i = insn.Convert conversion.IntToLong to from in
      let x = int_read p linked.hierarchy (made here) h from f.registers a.1 in
      some_safe here (Goal here i) h _ (value.Long x.0) _ (ap (option_map value.Long) x.1) (long_wrote here i to x.0 (contains_head _ []) refl refl)

  pub convert_int : (to from : ℕ) → Accepts body at s (insn.Convert conversion.LongToInt to from) → Sound here (insn.Convert conversion.LongToInt to from)
  unfolding act_of converted_in cell_at registers_after registers_converted pending_after successors successors_of
  convert_int to from a =
      let i = insn.Convert conversion.LongToInt to from in
      let x = long_read p linked.hierarchy (made here) h from f.registers a.1.0 in
      some_safe here (Goal here i) h _ _ _ (ap (option_map (λ n. value.Int (converted conversion.LongToInt n))) x.1) (int_wrote here i to _ (contains_head _ []) refl refl)

  pub convert_small : (o : Conversion) (to from : ℕ) → Holds p s from Int → converted_in o (cell_at locals from) ≡ option_map (λ n. value.Int (converted o n)) (int_in (cell_at locals from)) → registers_converted s.registers o to ≡ write s.registers to Int → Sound here (insn.Convert o to from)
  unfolding act_of cell_at registers_after pending_after successors successors_of
  convert_small o to from holds e r =
      let i = insn.Convert o to from in
      let x = int_read p linked.hierarchy (made here) h from f.registers holds in
      some_safe here (Goal here i) h _ (value.Int (converted o x.0)) _ (e ∙ ap (option_map (λ n. value.Int (converted o n))) x.1) (int_wrote here i to _ (contains_head _ []) refl r)

  pub convert : (o : Conversion) (to from : ℕ) → Accepts body at s (insn.Convert o to from) → Sound here (insn.Convert o to from)
  unfolding converted_in registers_converted
  convert conversion.IntToLong to from a = convert_long to from a
  convert conversion.LongToInt to from a = convert_int to from a
  convert conversion.IntToByte to from a = convert_small conversion.IntToByte to from a.1 refl refl
  convert conversion.IntToChar to from a = convert_small conversion.IntToChar to from a.1 refl refl
  convert conversion.IntToShort to from a = convert_small conversion.IntToShort to from a.1 refl refl

  pub compare_long : (to left right : ℕ) → Accepts body at s (insn.CompareLong to left right) → Sound here (insn.CompareLong to left right)
  unfolding act_of registers_after pending_after successors successors_of
  compare_long to left right a = let i = insn.CompareLong to left right in at_long here i left _ a.1 (λ x. at_long here i right _ a.2 (λ y. int_wrote here i to _ (contains_head _ []) refl refl))

  pub const_long : (to : ℕ) (n : ℤ) → Sound here (insn.ConstLong to n)
  unfolding act_of registers_after pending_after successors successors_of
  const_long to n = long_wrote here (insn.ConstLong to n) to n (contains_head _ []) refl refl

  pub const_text : (to text : ℕ) → Sound here (insn.ConstText to text)
  unfolding act_of type_of registers_after pending_after successors successors_of
  const_text to text = λ h' x g e. object_wrote here (insn.ConstText to text) h' to x (string_type p) g (literal_sort p text, e, subst (λ z. IsBelow p (held p (string_type p)) z) (held_text p linked) below_same, tt) (contains_head _ []) refl refl

  pub const_class : (to : ℕ) (named : DexType) → Sound here (insn.ConstClass to (type.Known named))
  unfolding act_of type_of registers_after pending_after successors successors_of
  const_class to named = λ h' x g e. object_wrote here (insn.ConstClass to (type.Known named)) h' to x (object_type p) g (Constant (class_of_named p named), e, below_object refl, tt) (contains_head _ []) refl refl

  pub move_result : (k : Kind) (to : ℕ) → Accepts body at s (insn.MoveResult k to) → Sound here (insn.MoveResult k to)
  unfolding act_of set_next go_on after registers_after pending_after write_pending successors successors_of
  move_result k to a =
      let x = pending_result p h a.1.0 f.pending a.1.1 in
      some_safe here _ h _ x.0 _ x.1 (
        contains_head _ [],
        record {
          registers = subst (λ z. AllFit p (made here) h (write_pending p s.registers to z) (cells_with locals.cells to x.0)) (sym a.1.1) (declared_fit p linked.hierarchy (made here) h a.1.0 to f.registers x.2);
          pending = nothing;
        },
      )

  pub move_exception : (to : ℕ) → Accepts body at s (insn.MoveException to) → Sound here (insn.MoveException to)
  unfolding act_of set_next go_on cells_with after registers_after pending_after write_pending successors successors_of
  move_exception to a =
      let x = pending_exception p h a.1.0 f.pending a.1.1 in
      some_safe here _ h _ _ _ x.1 (
        contains_head _ [],
        record {
          registers = subst (λ z. AllFit p (made here) h (write_pending p s.registers to z) (cells_with locals.cells to (value.Obj (Some x.0)))) (sym a.1.1) (write_fit p linked.hierarchy (made here) h to f.registers (reference {o = Some x.0} x.2));
          pending = nothing;
        },
      )

  pub return_void : Accepts body at s insn.ReturnVoid → Sound here insn.ReturnVoid
  unfolding act_of
  return_void a = subst (λ z. ResultFits p h z None) (sym a) void

  pub throw_it : (object : ℕ) → Accepts body at s (insn.Throw object) → Sound here (insn.Throw object)
  unfolding act_of can_throw
  throw_it object a = reference_safe here (insn.Throw object) (throwable_type p) object _ refl a (λ x g. (g, refl))

  pub return_value : (k : Kind) (from : ℕ) → Accepts body at s (insn.Return k from) → Sound here (insn.Return k from)
  unfolding act_of on_value_of cell_at
  return_value k from a =
      let x = declared_read p linked.hierarchy (made here) h a.0 from f.registers a.3.0 in
      let e : value_in k (slice_get locals.cells from) ≡ Some x.0 = ap (λ z. value_in z (slice_get locals.cells from)) (sym a.2) ∙ value_form (kind_of a.0) (slice_get locals.cells from) ∙ x.1 in
      some_safe here _ h _ x.0 _ e (subst (λ z. ResultFits p h z (Some x.0)) (sym a.1) (gives x.2))

  pub moved : (to from : ℕ) (c : Cell) (o : Option ℕ) → slice_get locals.cells from ≡ Some c → reference_in (Some c) ≡ Some o → CellFits p (made here) h (register_at s.registers from) c → Sound here (insn.Move kind.Object to from)
  unfolding act_of move_reference on_reference_or_null move_cell cell_at go_on after registers_after pending_after write_kind successors successors_of
  moved to from c o e r g =
      some_safe here _ h _ o _ (ap reference_in e ∙ r) (some_safe here _ h _ c _ e (contains_head _ [], record { registers = write_fit p linked.hierarchy (made here) h to f.registers g; pending = nothing }))

  pub move_object : (to from : ℕ) → Accepts body at s (insn.Move kind.Object to from) → Sound here (insn.Move kind.Object to from)
  move_object to from a = elim a.1 [
    | inl holds ↦
        let x = read p linked.hierarchy (made here) h (register_at s.registers from) from (known holds) f.registers covers_same in
        let y = ref_read p linked.hierarchy (made here) h _ from f.registers holds in
        moved to from x.0 y.0 x.1 (ap reference_in (sym x.1) ∙ y.1) x.2
    | inr holds ↦
        let x = cell_read p linked.hierarchy (made here) h from (Fresh holds.0) (λ e. cc) holds.1 f.registers in
        let y = fresh_cell p (made here) h holds.0 x.2 in
        moved to from x.0 (Some y.object) x.1 y.is (subst (λ z. CellFits p (made here) h z x.0) (sym holds.1) x.2)
  ]
    where
      known : {type : DexType} → Covers p (Reference type) (register_at s.registers from) → register_at s.registers from ≡ Unset → ⊥
      known {type = type} c e = absurd (no_reference_unset p (subst (λ z. Covers p (Reference type) z) e c))

  pub two_ints : (t : Test) (left right : ℕ) → (Holds p s left Int × Holds p s right Int) → (yes : Bool) × (compares t (cell_at locals left) (cell_at locals right) ≡ Some yes)
  unfolding cell_at
  two_ints t left right c =
      let x = int_read p linked.hierarchy (made here) h left f.registers c.0 in
      let y = int_read p linked.hierarchy (made here) h right f.registers c.1 in
      compares_ints t _ _ x.0 y.0 x.1 y.1

  pub two_references : (left right : ℕ) → (HoldsReference p s left × HoldsReference p s right) → (yes : Bool) × (are_same (cell_at locals left) (cell_at locals right) ≡ Some yes)
  unfolding cell_at
  two_references left right c =
      let x = ref_read p linked.hierarchy (made here) h _ left f.registers c.0 in
      let y = ref_read p linked.hierarchy (made here) h _ right f.registers c.1 in
      same_references _ _ x.0 y.0 x.1 y.1

  pub negated : (a b : Option Cell) → ((yes : Bool) × (are_same a b ≡ Some yes)) → (yes : Bool) × (compares test.Ne a b ≡ Some yes)
  unfolding compares
  negated a b x = (not x.0, ap (option_map not) x.1)

  pub if_compared : (t : Test) (left right : ℕ) → Compares p s t left right → (yes : Bool) × (compares t (cell_at locals left) (cell_at locals right) ≡ Some yes)
  unfolding compares
  if_compared test.Eq left right c = elim c [ inl x ↦ two_ints test.Eq left right x | inr x ↦ two_references left right x ]
  if_compared test.Ne left right c = elim c [ inl x ↦ two_ints test.Ne left right x | inr x ↦ negated _ _ (two_references left right x) ]
  if_compared test.Lt left right c = two_ints test.Lt left right c
  if_compared test.Ge left right c = two_ints test.Ge left right c
  if_compared test.Gt left right c = two_ints test.Gt left right c
  if_compared test.Le left right c = two_ints test.Le left right c

  pub branch_if : (t : Test) (left right : ℕ) (target : ℤ) → Accepts body at s (insn.If t left right target) → HasTargets body.code at (insn.If t left right target) → Sound here (insn.If t left right target)
  unfolding act_of branch registers_after pending_after successors successors_of
  branch_if t left right target a targets =
      let x = if_compared t left right a in
      some_safe here _ h _ x.0 _ x.1 (by x.0)
    where
      by : (yes : Bool) → Safe p (Goal here (insn.If t left right target)) h (branch yes (at + units) (address at target) locals)
      by false = jumps here (insn.If t left right target) (at + units) (contains_head (Some (at + units)) (address at target ∷ [])) refl refl
      by true =
          let to = is_address here (address at target) targets in
          some_safe here _ h _ to.0 _ to.1 (jumps here (insn.If t left right target) to.0 (contains_tail (Some to.0) (Some (at + units)) (address at target ∷ []) (subst (λ z. Contains (z ∷ []) (Some to.0)) (sym to.1) (contains_head (Some to.0) []))) refl refl)

  pub nop : Sound here insn.Nop
  unfolding act_of registers_after pending_after successors successors_of
  nop = jumps here insn.Nop (at + units) (contains_head _ []) refl refl

  pub monitor : (enter : Bool) (object : ℕ) → Accepts body at s (insn.Monitor enter object) → Sound here (insn.Monitor enter object)
  unfolding act_of registers_after pending_after successors successors_of can_throw
  monitor enter object a = reference_safe here (insn.Monitor enter object) (object_type p) object _ refl a (λ x g. jumps here (insn.Monitor enter object) (at + units) (contains_head _ []) refl refl)

  pub move_plain : (to from : ℕ) → Accepts body at s (insn.Move kind.Plain to from) → Sound here (insn.Move kind.Plain to from)
  unfolding act_of move_int on_int move_cell cell_at go_on after registers_after pending_after write_kind successors successors_of
  move_plain to from a =
      let x = read p linked.hierarchy (made here) h (register_at s.registers from) from (no_unset_int p a.1) f.registers covers_same in
      let y = int_read p linked.hierarchy (made here) h from f.registers a.1 in
      some_safe here _ h _ y.0 _ y.1 (some_safe here _ h _ x.0 _ x.1 (contains_head _ [], record { registers = write_fit p linked.hierarchy (made here) h to f.registers x.2; pending = nothing }))

  pub move_wide : (to from : ℕ) → Accepts body at s (insn.Move kind.Wide to from) → Sound here (insn.Move kind.Wide to from)
  unfolding act_of registers_after pending_after write_kind successors successors_of
  move_wide to from a = let i = insn.Move kind.Wide to from in at_long here i from _ a.1 (λ n. long_wrote here i to n (contains_head _ []) refl refl)

  pub goto : (target : ℤ) → HasTargets body.code at (insn.Goto target) → Sound here (insn.Goto target)
  unfolding act_of registers_after pending_after successors successors_of
  goto target t =
      let to = is_address here (address at target) t in
      some_safe here _ h _ to.0 _ to.1 (jumps here (insn.Goto target) to.0 (subst (λ z. Contains (z ∷ []) (Some to.0)) (sym to.1) (contains_head (Some to.0) [])) refl refl)

  pub zero_int_compared : (t : Test) (r : ℕ) → Holds p s r Int → (yes : Bool) × (compares t (cell_at locals r) (Some (cell.Value (value.Int (pos 0)))) ≡ Some yes)
  unfolding cell_at int_in
  zero_int_compared t r c = let x = int_read p linked.hierarchy (made here) h r f.registers c in compares_ints t _ _ x.0 (pos 0) x.1 refl

  pub zero_compared : (t : Test) (value : ℕ) → ComparesZero p s t value → (yes : Bool) × (compares_zero t (cell_at locals value) ≡ Some yes)
  unfolding cell_at compares_zero compares
  zero_compared test.Eq value c = elim c [ inl x ↦ zero_int_compared test.Eq value x | inr x ↦ let y = ref_read p linked.hierarchy (made here) h _ value f.registers x in same_references _ _ y.0 None y.1 zero_reference ]
  zero_compared test.Ne value c = elim c [ inl x ↦ zero_int_compared test.Ne value x | inr x ↦ let y = ref_read p linked.hierarchy (made here) h _ value f.registers x in negated _ _ (same_references _ _ y.0 None y.1 zero_reference) ]
  zero_compared test.Lt value c = zero_int_compared test.Lt value c
  zero_compared test.Ge value c = zero_int_compared test.Ge value c
  zero_compared test.Gt value c = zero_int_compared test.Gt value c
  zero_compared test.Le value c = zero_int_compared test.Le value c

  pub if_zero : (t : Test) (value : ℕ) (target : ℤ) → Accepts body at s (insn.IfZero t value target) → HasTargets body.code at (insn.IfZero t value target) → Sound here (insn.IfZero t value target)
  unfolding act_of branch registers_after pending_after successors successors_of
  if_zero t value target a targets =
      let x = zero_compared t value a in
      some_safe here _ h _ x.0 _ x.1 (by x.0)
    where
      by : (yes : Bool) → Safe p (Goal here (insn.IfZero t value target)) h (branch yes (at + units) (address at target) locals)
      by false = jumps here (insn.IfZero t value target) (at + units) (contains_head (Some (at + units)) (address at target ∷ [])) refl refl
      by true =
          let to = is_address here (address at target) targets in
          some_safe here _ h _ to.0 _ to.1 (jumps here (insn.IfZero t value target) to.0 (contains_tail (Some to.0) (Some (at + units)) (address at target ∷ []) (subst (λ z. Contains (z ∷ []) (Some to.0)) (sym to.1) (contains_head (Some to.0) []))) refl refl)

  pub switched : (packed : Bool) (value : ℕ) (target : ℤ) → All (IsTarget body.code) (case_targets body.code at packed target) → (n : ℤ) (x : Option ℤ) → chosen packed (insn_at body.code (address at target)) n ≡ x → Safe p (Goal here (insn.Switch packed value target)) h (switch_to x at (at + units) locals)
  unfolding switch_to registers_after pending_after successors successors_of case_targets
  switched packed value target all n None e = jumps here (insn.Switch packed value target) (at + units) (contains_head (Some (at + units)) (case_targets body.code at packed target)) refl refl
  switched packed value target all n (Some t) e =
      let c = map_contains (address at) (targets_in packed (insn_at body.code (address at target))) t (chosen_among packed (insn_at body.code (address at target)) n t e) in
      let to = is_address here (address at t) (all_contains (IsTarget body.code) (case_targets body.code at packed target) (address at t) all c) in
      some_safe here _ h _ to.0 _ to.1 (jumps here (insn.Switch packed value target) to.0 (contains_tail (Some to.0) (Some (at + units)) (case_targets body.code at packed target) (subst (λ z. Contains (case_targets body.code at packed target) z) to.1 c)) refl refl)

  pub switch : (packed : Bool) (value : ℕ) (target : ℤ) → Accepts body at s (insn.Switch packed value target) → HasTargets body.code at (insn.Switch packed value target) → Sound here (insn.Switch packed value target)
  unfolding act_of
  switch packed value target a targets = at_int here (insn.Switch packed value target) value _ a (λ n. by n (chosen packed (insn_at body.code (address at target)) n) refl)
    where
      by : (n : ℤ) (x : Option ℤ) → chosen packed (insn_at body.code (address at target)) n ≡ x → Safe p (Goal here (insn.Switch packed value target)) h (switch_to x at (at + units) locals)
      by n x e = switched packed value target targets.1 n x e
