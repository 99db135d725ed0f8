-- The acts of instructions on arrays are safe.
use Rattle.std.proofs.Common.{◌≡◌, inl, inr, ℕ, zero, suc, ◌+◌, ◌<◌, ◌≤◌, ℤ, pos, negsuc, Bool, true, false, cond, List, [], ◌∷◌, length, Option, Some, None, refl, sym, ap, ◌∙◌, subst, slice_get, slice_set, arith, unwrap_or}
use Rattle.std.specs.Prelude.{nat_le, replicate, ◌-ℤ◌, All, map, slice_index_or, nat_lt, not, option_map, Contains, int_lt, int_le}
use Rattle.std.specs.Int.{int_wrapping_add, w32}
use Rattle.std.proofs.lemmas.Grind.{common_steps}
use Rattle.cc_meaning.specs.declared.instruction.How.TheVariants as how
use Rattle.cc_meaning.specs.declared.instruction.Insn.{Insn}
use Rattle.cc_meaning.specs.declared.instruction.Insn.TheVariants as insn
use Rattle.cc_meaning.specs.declared.instruction.Conversion.{Conversion}
use Rattle.cc_meaning.specs.declared.instruction.Conversion.TheVariants as conversion
use Rattle.cc_meaning.specs.declared.instruction.UnaryOp.{UnaryOp}
use Rattle.cc_meaning.specs.declared.instruction.IntOp.{IntOp}
use Rattle.cc_meaning.specs.declared.instruction.IntOp.TheVariants as op
use Rattle.cc_meaning.specs.declared.instruction.Kind.{Kind}
use Rattle.cc_meaning.specs.declared.instruction.Kind.TheVariants as kind
use Rattle.cc_meaning.specs.declared.instruction.MethodRef.TheVariants as ref
use Rattle.cc_meaning.specs.declared.instruction.Test.{Test}
use Rattle.cc_meaning.specs.declared.instruction.Test.TheVariants as test
use Rattle.cc_meaning.specs.declared.instruction.TypeRef.{TypeRef}
use Rattle.cc_meaning.specs.declared.instruction.TypeRef.TheVariants as type
use Rattle.cc_meaning.specs.declared.program.Base.{Base}
use Rattle.cc_meaning.specs.declared.program.Base.TheVariants as base
use Rattle.cc_meaning.specs.declared.program.DexType.{DexType}
use Rattle.cc_meaning.specs.declared.program.Field.{Field}
use Rattle.cc_meaning.specs.declared.program.Method.{Method}
use Rattle.cc_meaning.specs.declared.program.MethodKind.{MethodKind}
use Rattle.cc_meaning.specs.declared.program.MethodKind.TheVariants as kinds
use Rattle.cc_meaning.specs.declared.program.Placed.{Placed}
use Rattle.cc_meaning.specs.declared.program.Program.{Program}
use Rattle.cc_meaning.specs.declared.program.RegType.{RegType}
use Rattle.cc_meaning.specs.declared.program.RegType.TheVariants.{Unset, Int, Zero, LongLow, Reference, Fresh}
use Rattle.cc_meaning.specs.declared.value.Cell.{Cell}
use Rattle.cc_meaning.specs.declared.value.Cell.TheVariants as cell
use Rattle.cc_meaning.specs.declared.value.Object.TheVariants as object
use Rattle.cc_meaning.specs.declared.value.Value.{Value}
use Rattle.cc_meaning.specs.declared.value.Value.TheVariants as value
use Rattle.cc_meaning.specs.BuiltIn.{string_name, null_pointer_exception_name, array_index_out_of_bounds_exception_name, array_store_exception_name, class_cast_exception_name, abstract_method_error_name, incompatible_class_change_error_name, arithmetic_exception_name, negative_array_size_exception_name}
use Rattle.cc_meaning.specs.Kinds.{kind_of, zero_of}
use Rattle.cc_meaning_typing.specs.declared.state.Pending.{Pending}
use Rattle.cc_meaning_typing.specs.declared.state.Pending.TheVariants.{Nothing, Result, Exception}
use Rattle.cc_meaning_typing.specs.declared.state.State.{State}
use Rattle.cc_meaning_typing.specs.Hierarchy.{on_value, superclass_of, IsHierarchy}
use Rattle.cc_meaning_typing.specs.Types.{is_class, is_reference_in, fewer, typed, class_type, object_type, array_of, is_reference, held, IsBelow, same as below_same, object as below_object}
use Rattle.cc_meaning_typing.specs.Registers.{Covers, same as covers_same, unset as covers_unset, zero_int as covers_zero_int, references as covers_references, zero_reference as covers_zero_reference, register_of, register_of_kind}
use Rattle.cc_meaning_typing.specs.States.{construct, register_at, write, write_long}
use Rattle.cc_meaning_typing.specs.Code.{Body, is_array_of, is_array, divides, targets_in, case_targets, placed_at, insn_of, insn_at, type_made_by, element_of, string_type, throwable_type, type_of_class, type_made_at, address, can_throw, successors, successors_of}
use Rattle.cc_meaning_typing.specs.Rules.{AllHold, FillsFrom, number_width, pending_array, ComparesZero, HoldsCount, registers_converted, pending_result as pends, result_of, pending_call, construct_known, registers_called, HoldsClass, Accepts, Compares, write_named, write_field, element_known, element_for, Holds, HoldsPair, HoldsReference, HoldsArray, HoldsKind, form_of, int_constant, write_kind, write_pending, registers_after, pending_after, after}
use Rattle.cc_meaning_typing.specs.WellTyped.{KnowsMember, IsTarget, HasTargets, KnowsInstance, is_file_class, is_file_interface}
use Rattle.cc_meaning_typing.proofs.Tree.{test_eq}
use Rattle.cc_sound_laws.proofs.Lists.{all_contains, contains_head, contains_tail}
use Rattle.cc_sound_laws.proofs.Growing.{ref_below, all_grow, value_grows}
use Rattle.cc_sound_laws.proofs.Casts.{passes_below}
use Rattle.cc_sound_laws.proofs.Raising.{raise_safe}
use Rattle.cc_sound_laws.proofs.Acts.{sort_fits}
use Rattle.cc_sound_laws.proofs.Cells.{kind_fit, read, int_read, long_read, ref_read, declared_read, write_fit, write_keep, write_long_fit, declared_fit, forget_fit, construct_fit}
use Rattle.cc_sound_laws.proofs.Known.{class_up_type, held_plain, sort_no_interface, made_of, file_class_held, file_sort, array_known, sort_up, IsArray}
use Rattle.cc_sound_laws.proofs.Rows.{row_safe}
use Rattle.cc_sound_laws.proofs.Made.{zero_fits, new_fits, new_type}
use Rattle.cc_sound_laws.proofs.Calls.{arguments_read, IsFound, further_found, search_found}
use Rattle.cc_meaning_exec.specs.Arrays.{size_of, elements_from, numbers_in, fill, switch_to, chosen, pick, nth_from, elements_in, element_at, place_in, or_out_of_bounds, stored, element_type_of, fill_with, zero_elements, array_class}
use Rattle.cc_meaning_exec.specs.Dispatch.{class_of_type, dispatch, enter_kind, enter, enter_found, answers_to, search_from, invoke_how, invoke}
use Rattle.cc_meaning_exec.specs.Eval.{call}
use Rattle.cc_meaning_exec.specs.Instructions.{value_at, make_of, cast_to, act_of, class_of_named, make_array, data_for}
use Rattle.cc_meaning_exec.specs.Numbers.{operated, or_divided_by_zero, compares_zero, are_same, both, or_else, is_same_int, compares, branch, kept}
use Rattle.cc_meaning_exec.specs.Registers.{onto, go_back, null_of, int_in, long_in, reference_in, value_in, cells_with, go_on, set_next, on_reference, on_value_of, cell_at}
use Rattle.cc_meaning_fits.specs.Fits.{ArgumentsFit, one, argument_types, Heap, Grows, RefFits, ValueFits, int as an_int, long as a_long, reference as a_reference, FitsType, ElementsFit, SortFits, CellFits, int, zero_int, zero_null, reference, fresh, AllFit, PendingFits, nothing, result, exception, FrameFits, ResultFits, void, gives, OutcomeFits}
use Rattle.cc_meaning_fits.specs.Premises.{IsRaised, null_pointer, out_of_bounds, array_store, class_cast, abstract_method, incompatible, arithmetic, negative_size, IsLinked, MakesNamed}
use Rattle.cc_meaning_fits.specs.Soundness.{Takes, Safe}
use Rattle.cc_meaning_rows.specs.Calls.{truth, row_of_call, is_same_object}
use Rattle.cc_meaning_rows.specs.Rows.{built_in}
use Rattle.cc_meaning_world.specs.Acts.{Outcome, Act, ClassOf, Put}
use Rattle.cc_meaning_world.specs.Casts.{passes}
use Rattle.cc_meaning_world.specs.Layouts.{new_object, slot, slot_in}
use Rattle.cc_meaning_world.specs.Sorts.{Sort, Instance, Array, Text, Constant, sort_of, number_of, type_of}
use Rattle.cc_meaning_world.specs.Throwing.{on_some, throw_new, on_object, or_throw}
use Rattle.cc_meaning_world.specs.World.{Locals}
use Rattle.cc_sound_laws.proofs.Here.{Here, Goal, Sound, made, some_safe, raise, int_wrote, object_wrote, at_int, cond_safe, bounds_safe, array_safe, jumps_later}
use Rattle.cc_sound_laws.proofs.Pieces.{element_kind, place_below, element_fits, array_eta, array_kind, zeros_elements, elements_more, at_most, AllFitType, numbers_fit, fill_safe, kept_fits}
use Rattle.cc_meaning.specs.declared.value.Object.{Object}

module _ (here : Here) where
  abbrev p : Program
  p = here.body.program

  abbrev body : Body
  body = here.body

  abbrev linked : IsLinked here.body.program
  linked = here.linked

  abbrev at : ℕ
  at = here.at

  abbrev units : ℕ
  units = here.units

  abbrev s : State
  s = here.state

  abbrev h : Heap
  h = here.heap

  abbrev locals : Locals
  locals = here.locals

  abbrev f : FrameFits here.body.program here.body.code here.heap here.state here.locals
  f = here.fits

  -- what an array of a type gives is known as its element
  pub element_knows : (type : DexType) (k : Kind) (element : DexType) (v : Value) (to : ℕ) → kind_of element ≡ k → kind_of type ≡ k → IsBelow p (held p element) type → FitsType p h element v →
      AllFit p (made here) h (write_kind s.registers to (element_for k (Reference (array_of type))) k) (cells_with locals.cells to v)
  unfolding register_of
  element_knows type k element v to e d b g = element_kind p linked.hierarchy (made here) h s.registers locals.cells type element to k f.registers b (subst (λ z. ValueFits p h (register_of_kind p element z) v) e g)

  pub array_get : (k : Kind) (to array index : ℕ) → Accepts body at s (insn.ArrayGet k to array index) → Sound here (insn.ArrayGet k to array index)
  unfolding act_of set_next go_on after registers_after pending_after successors successors_of can_throw
  array_get k to array index a =
      array_safe here (insn.ArrayGet k to array index) array (λ type. kind_of type ≡ k) _ refl a.2 (λ type e r x o q there.
      at_int here (insn.ArrayGet k to array index) index _ a.1 (λ n. bounds_safe here (insn.ArrayGet k to array index) (element_at q.values n) _ refl (λ v ev. (
        contains_head _ [],
        record {
          registers = subst (λ z. AllFit p (made here) h (write_kind s.registers to (element_for k z) k) (cells_with locals.cells to v)) (sym r)
              (element_knows type k q.element v to (q.alike ∙ e) e q.below (element_fits p h q.element q.values n v q.fit ev));
          pending = nothing;
        },
      ))))

  pub store_safe : (i : Insn) (k : Kind) (from : ℕ) (u element : DexType) (act : Value → Act) → can_throw i ≡ true → kind_of u ≡ k → element ≡ u → HoldsKind p s from k → ((v : Value) → FitsType p h u v → Safe p (Goal here i) h (act v)) →
      Safe p (Goal here i) h (on_value_of k locals from (λ v. stored p element v (act v)))
  unfolding on_value_of cell_at value_in stored register_of register_of_kind
  store_safe i kind.Wide from u element act c e q holds rest =
      let x = long_read p linked.hierarchy (made here) h from f.registers holds.0 in
      some_safe here _ h _ (value.Long x.0) _ (ap (option_map value.Long) x.1) (rest (value.Long x.0) (subst (λ z. ValueFits p h (register_of_kind p u z) (value.Long x.0)) (sym e) a_long))
  store_safe i kind.Object from u element act c e q holds rest =
      let x = ref_read p linked.hierarchy (made here) h (object_type p) from f.registers holds in
      some_safe here _ h _ (value.Obj x.0) _ (ap (option_map value.Obj) x.1) (by x.0 x.2)
    where
      fits_u : (o : Option ℕ) → RefFits p h (held p u) o → FitsType p h u (value.Obj o)
      fits_u o g = subst (λ z. ValueFits p h (register_of_kind p u z) (value.Obj o)) (sym e) (a_reference {o = o} g)

      by : (o : Option ℕ) → RefFits p h (object_type p) o → Safe p (Goal here i) h (stored p element (value.Obj o) (act (value.Obj o)))
      by None g = rest (value.Obj None) (fits_u None tt)
      by (Some b) g = (
        g.0,
        g.1,
        cond_safe here (Goal here i) h (passes p true (type_of p g.0) element) (act (value.Obj (Some b))) (throw_new p array_store_exception_name)
            (λ t. rest (value.Obj (Some b)) (fits_u (Some b) (g.0, g.1, subst (λ z. IsBelow p (held p (type_of p g.0)) (held p z)) q (passes_below p linked true (type_of p g.0) element t), g.3)))
            (λ t. raise here i h array_store_exception_name array_store c),
      )
  store_safe i k from u element act c e q holds rest =
      let x = int_read p linked.hierarchy (made here) h from f.registers holds in
      some_safe here _ h _ (value.Int x.0) _ (ap (option_map value.Int) x.1) (rest (value.Int x.0) (subst (λ z. ValueFits p h (register_of_kind p u z) (value.Int x.0)) (sym e) an_int))

  pub element_typed : (o : Object) (type : DexType) (x : IsArray p linked h o type) → element_type_of p o ≡ Some x.element
  unfolding element_type_of element_of fewer
  element_typed o type x = ap (element_type_of p) x.is ∙ ap (λ z. Some (element_of z)) x.named

  -- a store is made, or throws
  pub element_stored : (i : Insn) (k : Kind) (from : ℕ) (u : DexType) (x : Option DexType) (act : Value → Act) → can_throw i ≡ true → kind_of u ≡ k → x ≡ Some u → HoldsKind p s from k → ((v : Value) → FitsType p h u v → Safe p (Goal here i) h (act v)) →
      Safe p (Goal here i) h (on_value_of k locals from (λ v. on_some x (λ element. stored p element v (act v))))
  unfolding on_some
  element_stored i k from u x act c e q holds rest = subst (λ z. Safe p (Goal here i) h (on_value_of k locals from (λ v. on_some z (λ element. stored p element v (act v))))) (sym q) (store_safe i k from u u act c e refl holds rest)

  pub array_put : (k : Kind) (from array index : ℕ) → Accepts body at s (insn.ArrayPut k from array index) → Sound here (insn.ArrayPut k from array index)
  unfolding act_of registers_after pending_after successors successors_of can_throw
  array_put k from array index a =
      let i = insn.ArrayPut k from array index in
      array_safe here i array (λ type. kind_of type ≡ k) _ refl a.1 (λ type e r x o q there.
      at_int here i index _ a.0 (λ n. bounds_safe here i (place_in q.values n) _ refl (λ j ej.
      element_stored i k from q.element (element_type_of p o) (λ v. Put x j (kept k v) (go_on (at + units) locals.cells)) refl (q.alike ∙ e) (element_typed o type q) a.2 (λ v fv. (
        Array q.class (length q.values),
        there,
        (q.element, q.named, place_below q.values n j ej, kept_fits p h k fv),
        λ h' gr. jumps_later here h' gr i (at + units) (contains_head (Some (at + units)) []) refl refl,
      )))))

  pub array_length : (to array : ℕ) → Accepts body at s (insn.ArrayLength to array) → Sound here (insn.ArrayLength to array)
  unfolding act_of registers_after pending_after successors successors_of can_throw
  array_length to array a =
      let i = insn.ArrayLength to array in
      array_safe here i array (λ type. Unit {0}) _ refl a.1 (λ type e r x o q there. int_wrote here i to (pos (length q.values)) (contains_head _ []) refl refl)

  pub size_safe : (i : Insn) (x : Option ℕ) (k : ℕ → Act) → can_throw i ≡ true → ((n : ℕ) → Safe p (Goal here i) h (k n)) → Safe p (Goal here i) h (or_throw p negative_array_size_exception_name x k)
  unfolding or_throw
  size_safe i None k c rest = raise here i h negative_array_size_exception_name negative_size c
  size_safe i (Some n) k c rest = rest n

  -- a new array fits its type
  pub array_made : (h' : Heap) (x class n : ℕ) (named : DexType) → type_of_class p class ≡ named → is_array named ≡ true → h' x ≡ Some (Array class n) → RefFits p h' (held p named) (Some x)
  unfolding type_of
  array_made h' x class n named c r e = (Array class n, e, subst (λ z. IsBelow p (held p z) (held p named)) (sym c) below_same, (element_of named, c ∙ array_eta named r))

  pub array_numbered : (named : DexType) (class : ℕ) → array_class p named ≡ Some class → class_of_named p named ≡ class
  unfolding class_of_named
  array_numbered named class e = ap (λ z. unwrap_or z 0) e

  pub new_array : (to size : ℕ) (named : DexType) → Accepts body at s (insn.NewArray to size (type.Known named)) → MakesNamed p (insn.NewArray to size (type.Known named)) → Sound here (insn.NewArray to size (type.Known named))
  unfolding act_of make_array zero_elements sort_of registers_after pending_after write_named successors successors_of can_throw
  new_array to size named a named_so =
      let c = named_so a.1 in
      let i = insn.NewArray to size (type.Known named) in
      let q : type_of_class p (class_of_named p named) ≡ named = ap (type_of_class p) (array_numbered named c.0 c.1) ∙ c.2 in
      at_int here i size _ a.2 (λ n. size_safe i (size_of n) _ refl (λ count. (
        (element_of named, q ∙ array_eta named a.1, zeros_elements p h (element_of named) count),
        λ h' x g e. object_wrote here i h' to x (held p named) g (array_made h' x (class_of_named p named) _ named q a.1 e) (contains_head _ []) refl refl,
      )))

  pub elements_read : (element : DexType) (rs : List ℕ) → AllHold p s rs (register_of p element) → (vs : List Value) × (elements_from locals.cells (kind_of element) rs ≡ Some vs) × ElementsFit p h element vs
  unfolding elements_from onto
  elements_read element [] c = ([], refl, λ i v e. absurd (cc))
  elements_read element (r ∷ rs) c =
      let x = declared_read p linked.hierarchy (made here) h element r f.registers c.0 in
      let y = elements_read element rs c.1 in
      (kept (kind_of element) x.0 ∷ y.0, rw (x.1, y.1) refl, elements_more p h element (kept (kind_of element) x.0) y.0 (kept_fits p h (kind_of element) x.2) y.2)

  pub array_value : (h' : Heap) (named : DexType) (x : ℕ) → is_array named ≡ true → RefFits p h' (held p named) (Some x) → FitsType p h' named (value.Obj (Some x))
  unfolding register_of register_of_kind
  array_value h' named x r g = subst (λ k. ValueFits p h' (register_of_kind p named k) (value.Obj (Some x))) (sym (array_kind named r)) (a_reference {o = Some x} g)

  pub filled_new_array : (named : DexType) (args : List ℕ) → Accepts body at s (insn.FilledNewArray (type.Known named) args) → MakesNamed p (insn.FilledNewArray (type.Known named) args) → Sound here (insn.FilledNewArray (type.Known named) args)
  unfolding act_of make_array go_back sort_of after registers_after pending_after pending_array successors successors_of
  filled_new_array named args a named_so =
      let c = named_so a.0 in
      let i = insn.FilledNewArray (type.Known named) args in
      let q : type_of_class p (class_of_named p named) ≡ named = ap (type_of_class p) (array_numbered named c.0 c.1) ∙ c.2 in
      let vs = elements_read (element_of named) args a.2 in
      some_safe here (Goal here i) h _ vs.0 _ vs.1 (
        (element_of named, q ∙ array_eta named a.0, vs.2),
        λ h' x g e. (
          contains_head _ [],
          record {
            registers = all_grow p h h' g (made here) f.registers;
            pending = result (array_value h' named x a.0 (array_made h' x (class_of_named p named) (length vs.0) named q a.0 e));
          },
        ),
      )

  pub fills_array : (array : ℕ) (payload : Option Insn) → FillsFrom s array payload → (width : ℕ) × (bytes : List ℕ) × (payload ≡ Some (insn.ArrayPayload width bytes)) × HoldsArray s array (λ type. number_width (kind_of type) ≡ Some width)
  fills_array array (Some (insn.ArrayPayload width bytes)) h = (width, bytes, refl, h)
  fills_array array other h = absurd h

  -- the data are put, or are too many and throw
  pub filled : (i : Insn) (a class : ℕ) (values : List Value) (u : DexType) (vs : List Value) (k : Act) → can_throw i ≡ true → type_of_class p class ≡ array_of u → h a ≡ Some (Array class (length values)) → AllFitType p h u vs → ((h' : Heap) → Grows h h' → Safe p (Goal here i) h' k) →
      Safe p (Goal here i) h (fill_with p a (length values) vs k)
  unfolding fill_with
  filled i a class values u vs k c n e fs rest =
      cond_safe here (Goal here i) h (nat_le (length vs) (length values)) (fill a 0 vs k) (throw_new p array_index_out_of_bounds_exception_name)
      (λ t. fill_safe p (Goal here i) a class (length values) u k n vs 0 h (at_most (length vs) (length values) t) e fs rest)
      (λ t. raise here i h array_index_out_of_bounds_exception_name out_of_bounds c)

  pub data_fit : (u : DexType) (width : ℕ) (bytes : List ℕ) (payload : Option Insn) → payload ≡ Some (insn.ArrayPayload width bytes) → number_width (kind_of u) ≡ Some width → AllFitType p h u (data_for u payload)
  unfolding data_for
  data_fit u width bytes payload q e = numbers_fit p h u width (numbers_in payload) e

  pub fill_array : (array : ℕ) (target : ℤ) → Accepts body at s (insn.FillArray array target) → Sound here (insn.FillArray array target)
  unfolding act_of registers_after pending_after successors successors_of can_throw
  fill_array array target a =
      let i = insn.FillArray array target in
      let w = fills_array array (insn_at body.code (address at target)) a in
      array_safe here i array (λ type. number_width (kind_of type) ≡ Some w.0) _ refl w.3 (λ type e r x o q there.
      some_safe here (Goal here i) h _ q.element _ (element_typed o type q)
      (filled i x q.class q.values q.element (data_for q.element (insn_at body.code (address at target))) _ refl q.named there
      (data_fit q.element w.0 w.1 (insn_at body.code (address at target)) w.2 (ap number_width q.alike ∙ e))
      (λ h' gr. jumps_later here h' gr i (at + units) (contains_head (Some (at + units)) []) refl refl)))
