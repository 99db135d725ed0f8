-- The acts of calls are safe.
use Rattle.std.proofs.Common.{◌≡◌, inl, inr, ℕ, zero, suc, ◌+◌, ◌<◌, ◌≤◌, ℤ, pos, negsuc, Bool, true, false, cond, List, [], ◌∷◌, length, Option, Some, None, refl, sym, ap, ◌∙◌, subst, slice_get, slice_set, arith}
use Rattle.std.specs.Prelude.{nat_le, replicate, ◌-ℤ◌, All, map, slice_index_or, nat_lt, not, option_map, Contains, int_lt, int_le}
use Rattle.std.specs.Int.{int_wrapping_add, w32}
use Rattle.std.proofs.lemmas.Grind.{common_steps}
use Rattle.cc_meaning.specs.declared.instruction.How.TheVariants as how
use Rattle.cc_meaning.specs.declared.instruction.Insn.{Insn}
use Rattle.cc_meaning.specs.declared.instruction.Insn.TheVariants as insn
use Rattle.cc_meaning.specs.declared.instruction.Conversion.{Conversion}
use Rattle.cc_meaning.specs.declared.instruction.Conversion.TheVariants as conversion
use Rattle.cc_meaning.specs.declared.instruction.UnaryOp.{UnaryOp}
use Rattle.cc_meaning.specs.declared.instruction.IntOp.{IntOp}
use Rattle.cc_meaning.specs.declared.instruction.IntOp.TheVariants as op
use Rattle.cc_meaning.specs.declared.instruction.Kind.{Kind}
use Rattle.cc_meaning.specs.declared.instruction.Kind.TheVariants as kind
use Rattle.cc_meaning.specs.declared.instruction.MethodRef.TheVariants as ref
use Rattle.cc_meaning.specs.declared.instruction.Test.{Test}
use Rattle.cc_meaning.specs.declared.instruction.Test.TheVariants as test
use Rattle.cc_meaning.specs.declared.instruction.TypeRef.{TypeRef}
use Rattle.cc_meaning.specs.declared.instruction.TypeRef.TheVariants as type
use Rattle.cc_meaning.specs.declared.program.Base.{Base}
use Rattle.cc_meaning.specs.declared.program.Base.TheVariants as base
use Rattle.cc_meaning.specs.declared.program.DexType.{DexType}
use Rattle.cc_meaning.specs.declared.program.Field.{Field}
use Rattle.cc_meaning.specs.declared.program.Method.{Method}
use Rattle.cc_meaning.specs.declared.program.MethodKind.{MethodKind}
use Rattle.cc_meaning.specs.declared.program.MethodKind.TheVariants as kinds
use Rattle.cc_meaning.specs.declared.program.Placed.{Placed}
use Rattle.cc_meaning.specs.declared.program.Program.{Program}
use Rattle.cc_meaning.specs.declared.program.RegType.{RegType}
use Rattle.cc_meaning.specs.declared.program.RegType.TheVariants.{Unset, Int, Zero, LongLow, Reference, Fresh}
use Rattle.cc_meaning.specs.declared.value.Cell.{Cell}
use Rattle.cc_meaning.specs.declared.value.Cell.TheVariants as cell
use Rattle.cc_meaning.specs.declared.value.Object.TheVariants as object
use Rattle.cc_meaning.specs.declared.value.Value.{Value}
use Rattle.cc_meaning.specs.declared.value.Value.TheVariants as value
use Rattle.cc_meaning.specs.BuiltIn.{string_name, null_pointer_exception_name, array_index_out_of_bounds_exception_name, array_store_exception_name, class_cast_exception_name, abstract_method_error_name, incompatible_class_change_error_name, arithmetic_exception_name, negative_array_size_exception_name}
use Rattle.cc_meaning.specs.Kinds.{kind_of, zero_of}
use Rattle.cc_meaning_typing.specs.declared.state.Pending.{Pending}
use Rattle.cc_meaning_typing.specs.declared.state.Pending.TheVariants.{Nothing, Result, Exception}
use Rattle.cc_meaning_typing.specs.declared.state.State.{State}
use Rattle.cc_meaning_typing.specs.Hierarchy.{on_value, superclass_of, IsHierarchy}
use Rattle.cc_meaning_typing.specs.Types.{is_class, is_reference_in, fewer, typed, class_type, object_type, array_of, is_reference, held, IsBelow, same as below_same, object as below_object}
use Rattle.cc_meaning_typing.specs.Registers.{Covers, same as covers_same, unset as covers_unset, zero_int as covers_zero_int, references as covers_references, zero_reference as covers_zero_reference, register_of, register_of_kind}
use Rattle.cc_meaning_typing.specs.States.{construct, register_at, write, write_long}
use Rattle.cc_meaning_typing.specs.Code.{Body, is_array_of, is_array, divides, targets_in, case_targets, placed_at, insn_of, insn_at, type_made_by, element_of, string_type, throwable_type, type_of_class, type_made_at, address, can_throw, successors, successors_of}
use Rattle.cc_meaning_typing.specs.Rules.{AllHold, FillsFrom, number_width, pending_array, ComparesZero, HoldsCount, registers_converted, pending_result as pends, result_of, pending_call, construct_known, registers_called, HoldsClass, Accepts, Compares, write_named, write_field, element_known, element_for, Holds, HoldsPair, HoldsReference, HoldsArray, HoldsKind, form_of, int_constant, write_kind, write_pending, registers_after, pending_after, after}
use Rattle.cc_meaning_typing.specs.WellTyped.{KnowsMember, IsTarget, HasTargets, KnowsInstance, is_file_class, is_file_interface}
use Rattle.cc_meaning_typing.proofs.Tree.{test_eq}
use Rattle.cc_sound_laws.proofs.Lists.{all_contains, contains_head, contains_tail}
use Rattle.cc_sound_laws.proofs.Growing.{ref_below, all_grow, value_grows}
use Rattle.cc_sound_laws.proofs.Casts.{passes_below}
use Rattle.cc_sound_laws.proofs.Raising.{raise_safe}
use Rattle.cc_sound_laws.proofs.Acts.{sort_fits}
use Rattle.cc_sound_laws.proofs.Cells.{kind_fit, read, int_read, long_read, ref_read, declared_read, write_fit, write_keep, write_long_fit, declared_fit, forget_fit, construct_fit}
use Rattle.cc_sound_laws.proofs.Known.{class_up_type, held_plain, sort_no_interface, made_of, file_class_held, file_sort, array_known, sort_up}
use Rattle.cc_sound_laws.proofs.Rows.{row_safe}
use Rattle.cc_sound_laws.proofs.Made.{zero_fits, new_fits, new_type}
use Rattle.cc_sound_laws.proofs.Calls.{arguments_read, IsFound, further_found, search_found}
use Rattle.cc_meaning_exec.specs.Arrays.{size_of, elements_from, numbers_in, fill, switch_to, chosen, pick, nth_from, elements_in, element_at, place_in, or_out_of_bounds, stored, element_type_of}
use Rattle.cc_meaning_exec.specs.Dispatch.{class_of_type, dispatch, enter_kind, enter, enter_found, answers_to, search_from, invoke_how, invoke, if_outside, if_answers, call_on, dispatch_above, is_outside_kind, or_above}
use Rattle.cc_meaning_exec.specs.Eval.{call}
use Rattle.cc_meaning_exec.specs.Instructions.{value_at, make_of, cast_to, act_of}
use Rattle.cc_meaning_exec.specs.Numbers.{operated, or_divided_by_zero, compares_zero, are_same, both, or_else, is_same_int, compares, branch}
use Rattle.cc_meaning_exec.specs.Registers.{onto, go_back, null_of, int_in, long_in, reference_in, value_in, cells_with, go_on, set_next, on_reference, on_reference_or_null, cell_at}
use Rattle.cc_meaning_fits.specs.Fits.{ArgumentsFit, one, argument_types, Heap, Grows, RefFits, ValueFits, int as an_int, long as a_long, reference as a_reference, FitsType, ElementsFit, SortFits, CellFits, int, zero_int, zero_null, reference, fresh, AllFit, PendingFits, nothing, result, exception, FrameFits, ResultFits, void, gives, OutcomeFits, AreThere}
use Rattle.cc_meaning_fits.specs.Premises.{IsRaised, null_pointer, out_of_bounds, array_store, class_cast, abstract_method, incompatible, arithmetic, negative_size, IsLinked, ConstructsNamed}
use Rattle.cc_meaning_fits.specs.Soundness.{Takes, Safe}
use Rattle.cc_meaning_rows.specs.Calls.{truth, row_of_call, is_same_object, on_receiver}
use Rattle.cc_meaning_rows.specs.Rows.{built_in}
use Rattle.cc_meaning_world.specs.Acts.{Outcome, Act, ClassOf, Put, Ask}
use Rattle.cc_meaning_world.specs.Casts.{passes}
use Rattle.cc_meaning_world.specs.Layouts.{new_object, slot, slot_in}
use Rattle.cc_meaning_world.specs.Sorts.{Sort, Instance, Array, Text, Constant, sort_of, number_of, type_of}
use Rattle.cc_meaning_world.specs.Throwing.{on_some, throw_new, on_object, or_throw}
use Rattle.cc_meaning_world.specs.World.{Locals}
use Rattle.cc_sound_laws.proofs.Here.{Here, placed, Goal, Sound, made, some_safe, raise, reference_safe, cond_safe}
use Rattle.cc_sound_laws.proofs.Pieces.{fresh_cell, cell_read, result_pends, no_construct, fresh_constructs, with_receiver, arguments_there}

module _ (here : Here) where
  abbrev p : Program
  p = here.body.program

  abbrev body : Body
  body = here.body

  abbrev linked : IsLinked here.body.program
  linked = here.linked

  abbrev at : ℕ
  at = here.at

  abbrev units : ℕ
  units = here.units

  abbrev s : State
  s = here.state

  abbrev h : Heap
  h = here.heap

  abbrev locals : Locals
  locals = here.locals

  abbrev f : FrameFits here.body.program here.body.code here.heap here.state here.locals
  f = here.fits

  -- the class of the running method is no array
  abbrev pub OwnsCode : Type 0
  OwnsCode = type_of_class p body.method.class ≡ class_type body.method.class

  -- with each result of a method the frame fits behind the call
  abbrev pub Back : Insn → Option DexType → Type 0
  Back i gives_type = (h' : Heap) (v : Option Value) → Grows h h' → ResultFits p h' gives_type v → FrameFits p body.code h' (after p at s i) (record locals { pending = v })

  -- a built-in method does what its row says, and its result is pending behind the call
  pub row_call : (i : Insn) (m : ℕ) (callee : Method) (a : ℕ) (vs : List Value) → can_throw i ≡ true → Contains (successors body.code (placed here i)) (Some (at + units)) → slice_get p.methods m ≡ Some callee → callee.kind ≡ kinds.BuiltIn →
      RefFits p h (held p (type_of_class p callee.class)) (Some a) → ArgumentsFit p h callee.params vs → Back i callee.result → Safe p (Goal here i) h (row_of_call p (built_in p callee) m (value.Obj (Some a) ∷ vs) (go_back (at + units) locals))
  unfolding row_of_call on_some on_receiver on_object go_back
  row_call i m callee a vs c next e q g fit back =
      let r = linked.rows m callee e q in
      rw r.is (row_safe p linked (Goal here i) (λ h' x t. (t, c)) (λ h' x. tt) m a callee vs h (go_back (at + units) locals) g.0 g.1 g.3 g.2 fit (λ h' v gr f2. (next, back h' v gr f2)) r.does r.signature)

  -- a scripted method is asked
  pub ask_safe : (i : Insn) (m : ℕ) (callee : Method) (args : List Value) → can_throw i ≡ true → Contains (successors body.code (placed here i)) (Some (at + units)) → slice_get p.methods m ≡ Some callee → AreThere h args → Back i callee.result → Safe p (Goal here i) h (Ask m args (go_back (at + units) locals))
  unfolding go_back
  ask_safe i m callee args c next e there back = (there, callee, e, (λ h' v gr f2. (next, back h' v gr f2)), λ h' x gr t. (t, c))

  receiver_there : (a : ℕ) (vs : List Value) (types : List DexType) (type : DexType) → RefFits p h type (Some a) → ArgumentsFit p h types vs → AreThere h (value.Obj (Some a) ∷ vs)
  receiver_there a vs types type g fit = ((g.0, g.1), arguments_there p h fit)

  -- a method is entered where it is known
  pub known_enters : (i : Insn) (m : ℕ) (callee : Method) (args : List Value) → slice_get p.methods m ≡ Some callee → Safe p (Goal here i) h (enter_kind p callee.kind callee m (at + units) locals args) → Safe p (Goal here i) h (enter p m (at + units) locals args)
  unfolding enter
  known_enters i m callee args e safe = some_safe here (Goal here i) h (slice_get p.methods m) callee (λ (z : Method). enter_kind p z.kind z m (at + units) locals args) e safe

  -- a method with code is entered with arguments that fit
  pub enter_safe : (i : Insn) (m : ℕ) (callee : Method) (a : ℕ) (vs : List Value) → can_throw i ≡ true → Contains (successors body.code (placed here i)) (Some (at + units)) → slice_get p.methods m ≡ Some callee → callee.is_static ≡ false →
      RefFits p h (held p (type_of_class p callee.class)) (Some a) → ArgumentsFit p h callee.params vs → Back i callee.result → Safe p (Goal here i) h (enter p m (at + units) locals (value.Obj (Some a) ∷ vs))
  unfolding enter_kind
  enter_safe i m callee a vs c next e static g fit back = known_enters i m callee (value.Obj (Some a) ∷ vs) e (by callee.kind refl)
    where
      by : (k : MethodKind) → callee.kind ≡ k → Safe p (Goal here i) h (enter_kind p k callee m (at + units) locals (value.Obj (Some a) ∷ vs))
      by (kinds.Code code) q = (record { callee = callee; code = code; named = e; kind = q; arguments = with_receiver p h callee a vs static (subst (λ z. RefFits p h (held p z) (Some a)) (linked.owners m callee code e q) g) fit }, next, c, back)
      by kinds.Abstract q = raise here i h abstract_method_error_name abstract_method c
      by kinds.Native q = ask_safe i m callee (value.Obj (Some a) ∷ vs) c next e (receiver_there a vs callee.params _ g fit) back
      by kinds.BuiltIn q = row_call i m callee a vs c next e q g fit back
      by kinds.Outside q = ask_safe i m callee (value.Obj (Some a) ∷ vs) c next e (receiver_there a vs callee.params _ g fit) back

  pub enter_static : (i : Insn) (m : ℕ) (callee : Method) (vs : List Value) → can_throw i ≡ true → Contains (successors body.code (placed here i)) (Some (at + units)) → slice_get p.methods m ≡ Some callee → callee.is_static ≡ true →
      ArgumentsFit p h (argument_types callee) vs → Back i callee.result → Safe p (Goal here i) h (enter p m (at + units) locals vs)
  unfolding enter_kind
  enter_static i m callee vs c next e static fit back = known_enters i m callee vs e (by callee.kind refl)
    where
      by : (k : MethodKind) → callee.kind ≡ k → Safe p (Goal here i) h (enter_kind p k callee m (at + units) locals vs)
      by (kinds.Code code) q = (record { callee = callee; code = code; named = e; kind = q; arguments = fit }, next, c, back)
      by kinds.Abstract q = raise here i h abstract_method_error_name abstract_method c
      by kinds.Native q = ask_safe i m callee vs c next e (arguments_there p h fit) back
      by kinds.BuiltIn q = absurd (let r = linked.rows m callee e q in let d = r.dynamic in cc)
      by kinds.Outside q = ask_safe i m callee vs c next e (arguments_there p h fit) back

  pub found_enters : (i : Insn) (m a : ℕ) (named : Method) (vs : List Value) {class : ℕ} (x : IsFound p class named m) → can_throw i ≡ true → Contains (successors body.code (placed here i)) (Some (at + units)) → RefFits p h (held p (type_of_class p x.callee.class)) (Some a) →
      ArgumentsFit p h named.params vs → Back i named.result → Safe p (Goal here i) h (enter p m (at + units) locals (value.Obj (Some a) ∷ vs))
  found_enters i m a named vs x c next g fit back =
      enter_safe i m x.callee a vs c next x.there x.dynamic g (subst (λ z. ArgumentsFit p h z vs) (sym x.params) fit)
      (λ h' v gr r. back h' v gr (subst (λ z. ResultFits p h' z v) x.result r))

  -- an outside method that no class has is asked
  pub outside_enters : (i : Insn) (n a : ℕ) (named : Method) (vs : List Value) (type : DexType) (found : ℕ) → can_throw i ≡ true → Contains (successors body.code (placed here i)) (Some (at + units)) → slice_get p.methods n ≡ Some named → RefFits p h type (Some a) →
      ArgumentsFit p h named.params vs → Back i named.result → if_outside n named ≡ Some found → Safe p (Goal here i) h (enter p found (at + units) locals (value.Obj (Some a) ∷ vs))
  unfolding if_outside is_outside_kind enter_kind
  outside_enters i n a named vs type found c next e g fit back d = by named.kind refl d
    where
      asked_it : named.kind ≡ kinds.Outside → n ≡ found → Safe p (Goal here i) h (enter p found (at + units) locals (value.Obj (Some a) ∷ vs))
      asked_it k q = subst (λ z. Safe p (Goal here i) h (enter p z (at + units) locals (value.Obj (Some a) ∷ vs))) q
          (known_enters i n named (value.Obj (Some a) ∷ vs) e (subst (λ z. Safe p (Goal here i) h (enter_kind p z named n (at + units) locals (value.Obj (Some a) ∷ vs))) (sym k)
          (ask_safe i n named (value.Obj (Some a) ∷ vs) c next e (receiver_there a vs named.params type g fit) back)))

      by : (k : MethodKind) → named.kind ≡ k → cond (is_outside_kind k) (Some n) None ≡ Some found → Safe p (Goal here i) h (enter p found (at + units) locals (value.Obj (Some a) ∷ vs))
      by kinds.Outside k d = asked_it k (cc)
      by (kinds.Code code) k d = absurd (cc)
      by kinds.Abstract k d = absurd (cc)
      by kinds.Native k d = absurd (cc)
      by kinds.BuiltIn k d = absurd (cc)

  -- a call by a search: what it finds is entered, else the named method is asked if it is outside, else the call throws
  pub searched_safe : (i : Insn) (n a : ℕ) (named : Method) (vs : List Value) (type : DexType) (x : Option ℕ) → can_throw i ≡ true → Contains (successors body.code (placed here i)) (Some (at + units)) → slice_get p.methods n ≡ Some named → RefFits p h type (Some a) →
      ArgumentsFit p h named.params vs → Back i named.result → ((m : ℕ) → x ≡ Some m → Safe p (Goal here i) h (enter p m (at + units) locals (value.Obj (Some a) ∷ vs))) →
      Safe p (Goal here i) h (enter_found p (or_above x (if_outside n named)) (at + units) locals (value.Obj (Some a) ∷ vs))
  unfolding enter_found or_throw or_above
  searched_safe i n a named vs type (Some m) c next e g fit back rest = rest m refl
  searched_safe i n a named vs type None c next e g fit back rest = by (if_outside n named) refl
    where
      by : (y : Option ℕ) → if_outside n named ≡ y → Safe p (Goal here i) h (enter_found p y (at + units) locals (value.Obj (Some a) ∷ vs))
      by None d = raise here i h abstract_method_error_name abstract_method c
      by (Some found) d = outside_enters i n a named vs type found c next e g fit back d

  pub answered : (i : Insn) (class : ℕ) (t : DexType) (act : Act) → can_throw i ≡ true → Safe p (Goal here i) h act → Safe p (Goal here i) h (if_answers p class t act)
  unfolding if_answers
  answered i class t act c safe = cond_safe here (Goal here i) h (answers_to p class t) _ _ (λ e. safe) (λ e. raise here i h incompatible_class_change_error_name incompatible c)

  -- a call that looks for its method from the receiver's class
  pub dispatched : (i : Insn) (class n : ℕ) (callee : Method) (a : ℕ) (type : DexType) (vs : List Value) → can_throw i ≡ true → Contains (successors body.code (placed here i)) (Some (at + units)) → slice_get p.methods n ≡ Some callee → RefFits p h type (Some a) → ArgumentsFit p h callee.params vs → Back i callee.result →
      Safe p (Goal here i) h (ClassOf a (λ t. if_answers p class t (enter_found p (dispatch p t n callee) (at + units) locals (value.Obj (Some a) ∷ vs))))
  unfolding dispatch
  dispatched i class n callee a type vs c next e g fit back = (
    g.0,
    g.1,
    answered i class (type_of p g.0) _ c (searched_safe i n a callee vs type _ c next e g fit back (λ m d.
        let x = search_found p (length p.classes) callee (class_of_type p (type_of p g.0).dims (type_of p g.0).base) m d in
        found_enters i m a callee vs x c next (g.0, g.1, sort_up p linked g.0 x.callee.class g.3 x.inherits, g.3) fit back)),
  )

  -- behind a call that constructs nothing the registers are the same
  pub back_same : (i : Insn) (m : ℕ) (callee : Method) → slice_get p.methods m ≡ Some callee → registers_after p at s.registers s.pending i ≡ s.registers → pending_after p i ≡ result_of (slice_get p.methods m) → Back i callee.result
  unfolding after result_of
  back_same i m callee e r n h' v gr f2 = record {
    registers = subst (λ z. AllFit p (made here) h' z locals.cells) (sym r) (all_grow p h h' gr (made here) f.registers);
    pending = subst (λ z. PendingFits p h' z v) (sym n) (subst (λ z. PendingFits p h' (result_of z) v) (sym e) (result_pends p h' f2));
  }

  pub invoke_virtual : (class m receiver : ℕ) (rs : List ℕ) → Accepts body at s (insn.Invoke how.Virtual (ref.Known class m) (receiver ∷ rs)) → Sound here (insn.Invoke how.Virtual (ref.Known class m) (receiver ∷ rs))
  unfolding act_of invoke invoke_how call_on registers_after registers_called pending_after pending_call successors successors_of can_throw
  invoke_virtual class m receiver rs a =
      let i = insn.Invoke how.Virtual (ref.Known class m) (receiver ∷ rs) in
      let vs = arguments_read p linked.hierarchy (made here) h s locals.cells f.registers a.0.params rs a.2.1 in
      some_safe here _ h _ a.0 _ a.1 (some_safe here _ h _ vs.0 _ vs.1 (reference_safe here i _ receiver _ refl a.2.0 (λ x g. dispatched i class m a.0 x _ vs.0 refl (contains_head _ []) a.1 g vs.2 (back_same i m a.0 a.1 refl refl))))

  pub invoke_interface : (class m receiver : ℕ) (rs : List ℕ) → Accepts body at s (insn.Invoke how.Interface (ref.Known class m) (receiver ∷ rs)) → Sound here (insn.Invoke how.Interface (ref.Known class m) (receiver ∷ rs))
  unfolding act_of invoke invoke_how call_on registers_after registers_called pending_after pending_call successors successors_of can_throw
  invoke_interface class m receiver rs a =
      let i = insn.Invoke how.Interface (ref.Known class m) (receiver ∷ rs) in
      let vs = arguments_read p linked.hierarchy (made here) h s locals.cells f.registers a.0.params rs a.2.1 in
      some_safe here _ h _ a.0 _ a.1 (some_safe here _ h _ vs.0 _ vs.1 (reference_safe here i _ receiver _ refl a.2.0 (λ x g. dispatched i class m a.0 x _ vs.0 refl (contains_head _ []) a.1 g vs.2 (back_same i m a.0 a.1 refl refl))))

  pub super_found : (callee : Method) (m : ℕ) (x : Option ℕ) → superclass_of p body.method.class ≡ x → on_value x None (λ above. search_from p (length p.classes) callee above) ≡ Some m → IsFound p body.method.class callee m
  unfolding on_value
  super_found callee m None e q = absurd (cc)
  super_found callee m (Some above) e q = further_found p body.method.class above callee m e (search_found p (length p.classes) callee above m q)

  pub above_safe : (i : Insn) (a n : ℕ) (callee : Method) (vs : List Value) → can_throw i ≡ true → Contains (successors body.code (placed here i)) (Some (at + units)) → slice_get p.methods n ≡ Some callee → is_file_interface (slice_get p.classes body.method.class) ≡ false → OwnsCode →
      RefFits p h (held p (class_type body.method.class)) (Some a) → ArgumentsFit p h callee.params vs → Back i callee.result → Safe p (Goal here i) h (enter_found p (dispatch_above p body.method.class n callee) (at + units) locals (value.Obj (Some a) ∷ vs))
  unfolding dispatch_above
  above_safe i a n callee vs c next e no_interface own g fit back =
      searched_safe i n a callee vs _ _ c next e g fit back (λ m d.
      let x = super_found callee m (superclass_of p body.method.class) refl d in
      let g2 = ref_below p linked.hierarchy h _ (held p (type_of_class p x.callee.class)) (Some a) (class_up_type p linked body.method.class x.callee.class no_interface own x.inherits) g in
      found_enters i m a callee vs x c next g2 fit back)

  pub invoke_super : (class m receiver : ℕ) (rs : List ℕ) → OwnsCode → Accepts body at s (insn.Invoke how.Super (ref.Known class m) (receiver ∷ rs)) → KnowsMember body (insn.Invoke how.Super (ref.Known class m) (receiver ∷ rs)) → Sound here (insn.Invoke how.Super (ref.Known class m) (receiver ∷ rs))
  unfolding act_of invoke invoke_how call_on registers_after registers_called pending_after pending_call successors successors_of can_throw
  invoke_super class m receiver rs own a knows =
      let i = insn.Invoke how.Super (ref.Known class m) (receiver ∷ rs) in
      let vs = arguments_read p linked.hierarchy (made here) h s locals.cells f.registers a.0.params rs a.2.1 in
      some_safe here _ h _ a.0 _ a.1 (some_safe here _ h _ vs.0 _ vs.1 (reference_safe here i (held p (type_of_class p body.method.class)) receiver _ refl a.2.0.1 (λ x g. (
        g.0,
        g.1,
        answered i class (type_of p g.0) _ refl (above_safe i x m a.0 vs.0 refl (contains_head _ []) a.1 knows.2.1 own (subst (λ z. RefFits p h (held p z) (Some x)) own g) vs.2 (back_same i m a.0 a.1 refl refl)),
      ))))

  pub invoke_static : (class m : ℕ) (rs : List ℕ) → Accepts body at s (insn.Invoke how.Static (ref.Known class m) rs) → KnowsMember body (insn.Invoke how.Static (ref.Known class m) rs) → Sound here (insn.Invoke how.Static (ref.Known class m) rs)
  unfolding act_of invoke invoke_how registers_after registers_called pending_after pending_call successors successors_of can_throw argument_types
  invoke_static class m rs a knows =
      let i = insn.Invoke how.Static (ref.Known class m) rs in
      let callee = a.0 in
      let e = a.1 in
      let e2 = knows.1 in
      let q : knows.0 ≡ callee = cc in
      let static : callee.is_static ≡ true = subst (λ (z : Method). z.is_static ≡ true) q knows.2 in
      let vs = arguments_read p linked.hierarchy (made here) h s locals.cells f.registers callee.params rs a.2 in
      some_safe here _ h _ callee _ e (some_safe here _ h _ vs.0 _ vs.1 (enter_static i m callee vs.0 refl (contains_head _ []) e static
      (subst (λ b. ArgumentsFit p h (cond b callee.params (class_type callee.class ∷ callee.params)) vs.0) (sym static) vs.2) (back_same i m callee e refl refl)))

  pub direct_safe : (class m receiver : ℕ) (rs : List ℕ) (callee : Method) (vs : List Value) (x : ℕ) → slice_get p.methods m ≡ Some callee → callee.is_static ≡ false →
      RefFits p h (held p (type_of_class p callee.class)) (Some x) → ArgumentsFit p h callee.params vs →
      ((h' : Heap) → Grows h h' → AllFit p (made here) h' (construct_known p s.registers class (register_at s.registers receiver)) locals.cells) →
      Safe p (Goal here (insn.Invoke how.Direct (ref.Known class m) (receiver ∷ rs))) h (enter p m (at + units) locals (value.Obj (Some x) ∷ vs))
  unfolding after registers_after registers_called pending_after pending_call result_of successors successors_of can_throw
  direct_safe class m receiver rs callee vs x e static g fit known =
      enter_safe (insn.Invoke how.Direct (ref.Known class m) (receiver ∷ rs)) m callee x vs refl (contains_head _ []) e static g fit
      (λ h' v gr r. record {
        registers = known h' gr;
        pending = subst (λ z. PendingFits p h' (result_of z) v) (sym e) (result_pends p h' r);
      })

  pub invoke_direct : (class m receiver : ℕ) (rs : List ℕ) → Accepts body at s (insn.Invoke how.Direct (ref.Known class m) (receiver ∷ rs)) → KnowsMember body (insn.Invoke how.Direct (ref.Known class m) (receiver ∷ rs)) →
      ConstructsNamed p (insn.Invoke how.Direct (ref.Known class m) (receiver ∷ rs)) → Sound here (insn.Invoke how.Direct (ref.Known class m) (receiver ∷ rs))
  unfolding act_of invoke invoke_how call_on can_throw on_reference on_reference_or_null cell_at on_object
  invoke_direct class m receiver rs a knows constructs =
      let i = insn.Invoke how.Direct (ref.Known class m) (receiver ∷ rs) in
      let callee = a.0 in
      let e = a.1 in
      let e2 = knows.1 in
      let q : knows.0 ≡ callee = cc in
      let static : callee.is_static ≡ false = subst (λ (z : Method). z.is_static ≡ false) q knows.2.0 in
      let vs = arguments_read p linked.hierarchy (made here) h s locals.cells f.registers callee.params rs a.2.1 in
      some_safe here _ h _ callee _ e (some_safe here _ h _ vs.0 _ vs.1 (elim a.2.0 [
        | inl holds ↦ reference_safe here i (held p (type_of_class p callee.class)) receiver _ refl holds.1 (λ x g.
            direct_safe class m receiver rs callee vs.0 x e static g vs.2
            (λ h' gr. subst (λ z. AllFit p (made here) h' z locals.cells) (sym (no_construct p s.registers class _ _ holds.0)) (all_grow p h h' gr (made here) f.registers)))
        | inr holds ↦
            let c = cell_read p linked.hierarchy (made here) h receiver (Fresh holds.1.0) (λ z. cc) holds.1.1 f.registers in
            let w = fresh_cell p (made here) h holds.1.0 c.2 in
            let w2 = w.made_so in
            let made_it : type_of p w.sort ≡ class_type class = let z = holds.1.2 in cc in
            let b = constructs callee e holds.0 (sort_no_interface p linked w.sort class w.sort_so made_it) in
            some_safe here _ h _ (Some w.object) _ (ap reference_in c.1 ∙ w.is)
            (direct_safe class m receiver rs callee vs.0 w.object e static (w.sort, w.there, subst (λ z. IsBelow p (held p z) (held p (type_of_class p callee.class))) (sym made_it) b, w.sort_so) vs.2
            (λ h' gr. subst (λ z. AllFit p (made here) h' z locals.cells) (sym (fresh_constructs p s.registers class holds.1.0 _ holds.1.1)) (construct_fit p linked.hierarchy (made here) h' holds.1.0 class holds.1.2 (all_grow p h h' gr (made here) f.registers))))
      ]))
