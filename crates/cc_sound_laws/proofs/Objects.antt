-- The acts of instructions on fields, statics, new objects and types are safe.
use Rattle.std.proofs.Common.{◌≡◌, inl, inr, ℕ, zero, suc, ◌+◌, ◌<◌, ◌≤◌, ℤ, pos, negsuc, Bool, true, false, cond, List, [], ◌∷◌, length, Option, Some, None, refl, sym, ap, ◌∙◌, subst, slice_get, slice_set, arith}
use Rattle.std.specs.Prelude.{nat_le, replicate, ◌-ℤ◌, All, map, slice_index_or, nat_lt, not, option_map, Contains, int_lt, int_le}
use Rattle.std.specs.Int.{int_wrapping_add, w32}
use Rattle.std.proofs.lemmas.Grind.{common_steps}
use Rattle.cc_meaning.specs.declared.instruction.How.TheVariants as how
use Rattle.cc_meaning.specs.declared.instruction.Insn.{Insn}
use Rattle.cc_meaning.specs.declared.instruction.Insn.TheVariants as insn
use Rattle.cc_meaning.specs.declared.instruction.Conversion.{Conversion}
use Rattle.cc_meaning.specs.declared.instruction.Conversion.TheVariants as conversion
use Rattle.cc_meaning.specs.declared.instruction.UnaryOp.{UnaryOp}
use Rattle.cc_meaning.specs.declared.instruction.IntOp.{IntOp}
use Rattle.cc_meaning.specs.declared.instruction.IntOp.TheVariants as op
use Rattle.cc_meaning.specs.declared.instruction.Kind.{Kind}
use Rattle.cc_meaning.specs.declared.instruction.Kind.TheVariants as kind
use Rattle.cc_meaning.specs.declared.instruction.MethodRef.TheVariants as ref
use Rattle.cc_meaning.specs.declared.instruction.Test.{Test}
use Rattle.cc_meaning.specs.declared.instruction.Test.TheVariants as test
use Rattle.cc_meaning.specs.declared.instruction.TypeRef.{TypeRef}
use Rattle.cc_meaning.specs.declared.instruction.TypeRef.TheVariants as type
use Rattle.cc_meaning.specs.declared.program.Base.{Base}
use Rattle.cc_meaning.specs.declared.program.Base.TheVariants as base
use Rattle.cc_meaning.specs.declared.program.DexType.{DexType}
use Rattle.cc_meaning.specs.declared.program.Field.{Field}
use Rattle.cc_meaning.specs.declared.program.Method.{Method}
use Rattle.cc_meaning.specs.declared.program.MethodKind.{MethodKind}
use Rattle.cc_meaning.specs.declared.program.MethodKind.TheVariants as kinds
use Rattle.cc_meaning.specs.declared.program.Placed.{Placed}
use Rattle.cc_meaning.specs.declared.program.Program.{Program}
use Rattle.cc_meaning.specs.declared.program.RegType.{RegType}
use Rattle.cc_meaning.specs.declared.program.RegType.TheVariants.{Unset, Int, Zero, LongLow, Reference, Fresh}
use Rattle.cc_meaning.specs.declared.value.Cell.{Cell}
use Rattle.cc_meaning.specs.declared.value.Cell.TheVariants as cell
use Rattle.cc_meaning.specs.declared.value.Object.TheVariants as object
use Rattle.cc_meaning.specs.declared.value.Value.{Value}
use Rattle.cc_meaning.specs.declared.value.Value.TheVariants as value
use Rattle.cc_meaning.specs.BuiltIn.{string_name, null_pointer_exception_name, array_index_out_of_bounds_exception_name, array_store_exception_name, class_cast_exception_name, abstract_method_error_name, incompatible_class_change_error_name, arithmetic_exception_name, negative_array_size_exception_name}
use Rattle.cc_meaning.specs.Kinds.{kind_of, zero_of}
use Rattle.cc_meaning_typing.specs.declared.state.Pending.{Pending}
use Rattle.cc_meaning_typing.specs.declared.state.Pending.TheVariants.{Nothing, Result, Exception}
use Rattle.cc_meaning_typing.specs.declared.state.State.{State}
use Rattle.cc_meaning_typing.specs.Hierarchy.{on_value, superclass_of, IsHierarchy}
use Rattle.cc_meaning_typing.specs.Types.{is_class, is_reference_in, fewer, typed, class_type, object_type, array_of, is_reference, held, IsBelow, same as below_same, object as below_object}
use Rattle.cc_meaning_typing.specs.Registers.{Covers, same as covers_same, unset as covers_unset, zero_int as covers_zero_int, references as covers_references, zero_reference as covers_zero_reference, register_of, register_of_kind}
use Rattle.cc_meaning_typing.specs.States.{construct, register_at, write, write_long}
use Rattle.cc_meaning_typing.specs.Code.{Body, is_array_of, is_array, divides, targets_in, case_targets, placed_at, insn_of, insn_at, type_made_by, element_of, string_type, throwable_type, type_of_class, type_made_at, address, can_throw, successors, successors_of}
use Rattle.cc_meaning_typing.specs.Rules.{AllHold, FillsFrom, number_width, pending_array, ComparesZero, HoldsCount, registers_converted, pending_result as pends, result_of, pending_call, construct_known, registers_called, HoldsClass, Accepts, Compares, write_named, write_field, element_known, element_for, Holds, HoldsPair, HoldsReference, HoldsArray, HoldsKind, form_of, int_constant, write_kind, write_pending, registers_after, pending_after, after}
use Rattle.cc_meaning_typing.specs.WellTyped.{KnowsMember, IsTarget, HasTargets, KnowsInstance, is_file_class, is_file_interface}
use Rattle.cc_meaning_typing.proofs.Tree.{test_eq}
use Rattle.cc_sound_laws.proofs.Lists.{all_contains, contains_head, contains_tail}
use Rattle.cc_sound_laws.proofs.Growing.{ref_below, all_grow, value_grows}
use Rattle.cc_sound_laws.proofs.Casts.{passes_below}
use Rattle.cc_sound_laws.proofs.Raising.{raise_safe}
use Rattle.cc_sound_laws.proofs.Acts.{sort_fits}
use Rattle.cc_sound_laws.proofs.Cells.{kind_fit, read, int_read, long_read, ref_read, declared_read, write_fit, write_keep, write_long_fit, declared_fit, forget_fit, construct_fit}
use Rattle.cc_sound_laws.proofs.Known.{class_up_type, held_plain, sort_no_interface, made_of, file_class_held, file_sort, array_known, sort_up}
use Rattle.cc_sound_laws.proofs.Rows.{row_safe}
use Rattle.cc_sound_laws.proofs.Made.{zero_fits, new_fits, new_type}
use Rattle.cc_sound_laws.proofs.Calls.{arguments_read, IsFound, further_found, search_found}
use Rattle.cc_meaning_exec.specs.Arrays.{size_of, elements_from, numbers_in, fill, switch_to, chosen, pick, nth_from, elements_in, element_at, place_in, or_out_of_bounds, stored, element_type_of}
use Rattle.cc_meaning_exec.specs.Dispatch.{class_of_type, dispatch, enter_kind, enter, enter_found, answers_to, search_from, invoke_how, invoke}
use Rattle.cc_meaning_exec.specs.Eval.{call}
use Rattle.cc_meaning_exec.specs.Instructions.{value_at, make_of, cast_to, act_of, is_instance}
use Rattle.cc_meaning_exec.specs.Numbers.{operated, or_divided_by_zero, compares_zero, are_same, both, or_else, is_same_int, compares, branch, kept}
use Rattle.cc_meaning_exec.specs.Registers.{onto, go_back, null_of, int_in, long_in, reference_in, value_in, cells_with, go_on, set_next, on_reference, on_value_of, on_reference_or_null, cell_at}
use Rattle.cc_meaning_fits.specs.Fits.{ArgumentsFit, one, argument_types, Heap, Grows, RefFits, ValueFits, int as an_int, long as a_long, reference as a_reference, FitsType, ElementsFit, SortFits, CellFits, int, zero_int, zero_null, reference, fresh, AllFit, PendingFits, nothing, result, exception, FrameFits, ResultFits, void, gives, OutcomeFits}
use Rattle.cc_meaning_fits.specs.Premises.{IsRaised, null_pointer, out_of_bounds, array_store, class_cast, abstract_method, incompatible, arithmetic, negative_size, IsLinked, MakesNamed}
use Rattle.cc_meaning_fits.specs.Soundness.{Takes, Safe}
use Rattle.cc_meaning_rows.specs.Calls.{truth, row_of_call, is_same_object}
use Rattle.cc_meaning_rows.specs.Rows.{built_in}
use Rattle.cc_meaning_world.specs.Acts.{Outcome, Act, ClassOf, Put}
use Rattle.cc_meaning_world.specs.Casts.{passes}
use Rattle.cc_meaning_world.specs.Layouts.{new_object, slot, slot_in}
use Rattle.cc_meaning_world.specs.Sorts.{Sort, Instance, Array, Text, Constant, sort_of, number_of, type_of}
use Rattle.cc_meaning_world.specs.Throwing.{on_some, throw_new, on_object}
use Rattle.cc_meaning_world.specs.World.{Locals}
use Rattle.cc_sound_laws.proofs.Here.{Here, placed, Goal, Sound, made, some_safe, raise, reference_safe, truth_wrote, cond_safe, jumps_later, jumps}
use Rattle.cc_sound_laws.proofs.Pieces.{value_there, slot_there, kept_fits}

module _ (here : Here) where
  abbrev p : Program
  p = here.body.program

  abbrev body : Body
  body = here.body

  abbrev linked : IsLinked here.body.program
  linked = here.linked

  abbrev at : ℕ
  at = here.at

  abbrev units : ℕ
  units = here.units

  abbrev s : State
  s = here.state

  abbrev h : Heap
  h = here.heap

  abbrev locals : Locals
  locals = here.locals

  abbrev f : FrameFits here.body.program here.body.code here.heap here.state here.locals
  f = here.fits

  -- the register of an object with a field
  pub holder_safe : (i : Insn) (r field : ℕ) (found : Field) (k : ℕ → Act) → can_throw i ≡ true → KnowsInstance p field → slice_get p.fields field ≡ Some found → HoldsClass p s r found.class →
      ((a : ℕ) → (is_file_class (slice_get p.classes found.class) ≡ true) → (found.is_static ≡ false) → RefFits p h (class_type found.class) (Some a) → Safe p (Goal here i) h (k a)) → Safe p (Goal here i) h (on_reference p locals r k)
  holder_safe i r field found k c knows e holds rest =
      let d = knows.1 in
      let q : knows.0 ≡ found = cc in
      let file : is_file_class (slice_get p.classes found.class) ≡ true = subst (λ (z : Field). is_file_class (slice_get p.classes z.class) ≡ true) q knows.3 in
      let static : found.is_static ≡ false = subst (λ (z : Field). z.is_static ≡ false) q knows.2 in
      reference_safe here i (held p (type_of_class p found.class)) r k c holds (λ a g. rest a file static (subst (λ z. RefFits p h z (Some a)) (file_class_held p found.class file) g))

  pub field_get : (k : Kind) (to object field : ℕ) → Accepts body at s (insn.FieldGet k to object field) → KnowsMember body (insn.FieldGet k to object field) → Sound here (insn.FieldGet k to object field)
  unfolding act_of set_next go_on after registers_after pending_after write_field successors successors_of can_throw
  field_get k to object field a m =
      holder_safe (insn.FieldGet k to object field) object field a.1.0 _ refl m a.1.1 a.1.3 (λ x file static g. (
        g.0,
        g.1,
        λ o so fo.
            let q = file_sort p linked (sort_of o) a.1.0.class (sort_fits p h o fo) file (subst (λ z. IsBelow p (held p (type_of p z)) (class_type a.1.0.class)) (sym so) g.2) in
            let n = made_of p h o q.class q.fields q.is fo in
            let place = linked.slots field a.1.0 q.class q.made a.1.1 static file q.inherits in
            let v = n.fit place.0 a.1.0.ty place.2 in
            let at_place : value_at p field o ≡ Some v.0 = subst (λ z. value_at p field z ≡ Some v.0) (sym n.is) (value_there p field q.class place.0 n.values v.0 place.1 v.1) in
            some_safe here _ h _ v.0 _ at_place (
              contains_head _ [],
              record {
                registers = subst (λ z. AllFit p (made here) h (write_field p s.registers to z) (cells_with locals.cells to v.0)) (sym a.1.1) (declared_fit p linked.hierarchy (made here) h a.1.0.ty to f.registers v.2);
                pending = nothing;
              },
            ),
      ))

  pub field_put : (k : Kind) (from object field : ℕ) → Accepts body at s (insn.FieldPut k from object field) → KnowsMember body (insn.FieldPut k from object field) → Sound here (insn.FieldPut k from object field)
  unfolding act_of on_value_of cell_at registers_after pending_after successors successors_of can_throw
  field_put k from object field a m =
      let i = insn.FieldPut k from object field in
      let found = a.0 in
      let v = declared_read p linked.hierarchy (made here) h found.ty from f.registers a.3.1.0 in
      some_safe here _ h _ v.0 _ (ap (λ z. value_in z (slice_get locals.cells from)) (sym a.2) ∙ v.1)
      (holder_safe i object field found _ refl m a.1 a.3.0 (λ x file static g. (
        g.0,
        g.1,
        let q = file_sort p linked g.0 found.class g.3 file g.2 in
            let place = linked.slots field found q.class q.made a.1 static file q.inherits in
            some_safe here _ h _ place.0 _ (slot_there p g.0 field q.class q.fields place.0 q.is place.1)
            (g.0, g.1, subst (λ z. Takes p h z place.0 (kept k v.0)) (sym q.is) (found.ty, place.2, kept_fits p h k v.2), λ h' gr. jumps_later here h' gr i (at + units) (contains_head (Some (at + units)) []) refl refl),
      )))

  pub static_get : (k : Kind) (to field : ℕ) → Accepts body at s (insn.StaticGet k to field) → KnowsMember body (insn.StaticGet k to field) → Sound here (insn.StaticGet k to field)
  unfolding act_of set_next go_on after registers_after pending_after write_field successors successors_of
  static_get k to field a m = (
    m.0,
    m.1,
    m.2,
    λ v fv. (
      contains_head _ [],
      record {
        registers = subst (λ z. AllFit p (made here) h (write_field p s.registers to z) (cells_with locals.cells to v)) (sym m.1) (declared_fit p linked.hierarchy (made here) h m.0.ty to f.registers fv);
        pending = nothing;
      },
    ),
  )

  pub static_put : (k : Kind) (from field : ℕ) → Accepts body at s (insn.StaticPut k from field) → Sound here (insn.StaticPut k from field)
  unfolding act_of on_value_of cell_at registers_after pending_after successors successors_of
  static_put k from field a =
      let v = declared_read p linked.hierarchy (made here) h a.0.ty from f.registers a.3.0 in
      let e = a.1 in
      some_safe here _ h _ v.0 _ (ap (λ z. value_in z (slice_get locals.cells from)) (sym a.2) ∙ v.1)
      (λ (found : Field) d. subst (λ (z : Field). FitsType p h z.ty (kept k v.0)) (let q : a.0 ≡ found = cc in q) (kept_fits p h k v.2), jumps here (insn.StaticPut k from field) (at + units) (contains_head (Some (at + units)) []) refl refl)

  pub made_here : (to class : ℕ) → placed_at body.code at ≡ Some (placed here (insn.NewInstance to (type.Known (class_type class)))) → (made here) at ≡ Some (type.Known (class_type class))
  unfolding type_made_at type_made_by insn_at insn_of
  made_here to class spot = rw spot refl

  pub new_instance : (to dims : ℕ) (b : Base) → placed_at body.code at ≡ Some (placed here (insn.NewInstance to (type.Known (typed dims b)))) → Accepts body at s (insn.NewInstance to (type.Known (typed dims b))) →
      KnowsMember body (insn.NewInstance to (type.Known (typed dims b))) → MakesNamed p (insn.NewInstance to (type.Known (typed dims b))) → Sound here (insn.NewInstance to (type.Known (typed dims b)))
  unfolding act_of make_of set_next go_on cells_with after registers_after pending_after successors successors_of is_reference is_reference_in is_class
  new_instance to (suc dims) b spot a m t = absurd m
  new_instance to zero (base.Class class) spot a m t = (
    new_fits p linked h class m t,
    λ h' x g e. (
      contains_head _ [],
      record {
        registers = write_fit p linked.hierarchy (made here) h' to (forget_fit p linked.hierarchy (made here) h' at (all_grow p h h' g (made here) f.registers))
            (fresh (sort_of (new_object p class)) e (sort_fits p h (new_object p class) (new_fits p linked h class m t)) (made_here to class spot ∙ ap (λ z. Some (type.Known z)) (sym (new_type p class))));
        pending = nothing;
      },
    ),
  )
  new_instance to zero base.Boolean spot a m t = absurd (let e = a.1 in cc)
  new_instance to zero base.Byte spot a m t = absurd (let e = a.1 in cc)
  new_instance to zero base.Short spot a m t = absurd (let e = a.1 in cc)
  new_instance to zero base.Char spot a m t = absurd (let e = a.1 in cc)
  new_instance to zero base.Int spot a m t = absurd (let e = a.1 in cc)
  new_instance to zero base.Long spot a m t = absurd (let e = a.1 in cc)

  pub cast_cell : (object : ℕ) (named : DexType) {c : Cell} → CellFits p (made here) h (Reference (object_type p)) c → slice_get locals.cells object ≡ Some c → Sound here (insn.CheckCast object (type.Known named))
  unfolding act_of on_reference_or_null cell_at cast_to go_on after registers_after pending_after write_named successors successors_of reference_in null_of can_throw
  cast_cell object named zero_null e = some_safe here _ h _ None _ (ap reference_in e) (contains_head _ [], record { registers = write_keep p linked.hierarchy (made here) h _ object f.registers e zero_null; pending = nothing })
  cast_cell object named (reference {o = None} g) e = some_safe here _ h _ None _ (ap reference_in e) (contains_head _ [], record { registers = write_keep p linked.hierarchy (made here) h _ object f.registers e (reference {o = None} tt); pending = nothing })
  cast_cell object named (reference {o = Some a} g) e =
      some_safe here _ h _ (Some a) _ (ap reference_in e) (
        g.0,
        g.1,
        cond_safe here (Goal here (insn.CheckCast object (type.Known named))) h (passes p true (type_of p g.0) named) (go_on (at + units) locals.cells) (throw_new p class_cast_exception_name)
            (λ t. (contains_head _ [], record { registers = write_keep p linked.hierarchy (made here) h _ object f.registers e (reference {o = Some a} (g.0, g.1, passes_below p linked true (type_of p g.0) named t, g.3)); pending = nothing }))
            (λ t. raise here (insn.CheckCast object (type.Known named)) h class_cast_exception_name class_cast refl),
      )

  pub check_cast : (object : ℕ) (named : DexType) → Accepts body at s (insn.CheckCast object (type.Known named)) → Sound here (insn.CheckCast object (type.Known named))
  check_cast object named a =
      let x = read p linked.hierarchy (made here) h (Reference (object_type p)) object (λ e. cc) f.registers a.1 in
      cast_cell object named x.2 x.1

  pub instance_of : (to object : ℕ) (named : DexType) → Accepts body at s (insn.InstanceOf to object (type.Known named)) → Sound here (insn.InstanceOf to object (type.Known named))
  unfolding act_of on_reference_or_null cell_at is_instance registers_after pending_after successors successors_of
  instance_of to object named a =
      let x = ref_read p linked.hierarchy (made here) h (object_type p) object f.registers a.2 in
      some_safe here _ h _ x.0 _ x.1 (by x.0 x.2)
    where
      by : (o : Option ℕ) → RefFits p h (object_type p) o → Safe p (Goal here (insn.InstanceOf to object (type.Known named))) h (is_instance p named o (set_next (at + units) locals to))
      by None g = truth_wrote here (insn.InstanceOf to object (type.Known named)) to false (contains_head _ []) refl refl
      by (Some x) g = (g.0, g.1, truth_wrote here (insn.InstanceOf to object (type.Known named)) to (passes p false (type_of p g.0) named) (contains_head _ []) refl refl)
