-- The worked typings.
use Rattle.std.proofs.Common.{◌≡◌, ℕ, zero, suc, true, List, [], ◌∷◌, Option, Some, None, refl, sym, ap, ◌∙◌, subst, arith, slice_get, pos, negsuc}
use Rattle.std.specs.Prelude.{All}
use Rattle.cc_meaning.specs.BuiltIn.{object_name, string_name, throwable_name}
use Rattle.cc_meaning.specs.declared.instruction.Insn.TheVariants as insn
use Rattle.cc_meaning.specs.declared.instruction.IntOp.TheVariants as op
use Rattle.cc_meaning.specs.declared.instruction.Kind.TheVariants as kind
use Rattle.cc_meaning.specs.declared.instruction.Test.TheVariants as test
use Rattle.cc_meaning.specs.declared.program.Catch.{Catch}
use Rattle.cc_meaning.specs.declared.program.Code.{Code}
use Rattle.cc_meaning.specs.declared.program.Placed.{Placed}
use Rattle.cc_meaning.specs.declared.program.Try.{Try}
use Rattle.cc_meaning.specs.declared.program.Method.{Method}
use Rattle.cc_meaning.specs.declared.program.MethodKind.TheVariants as kinds
use Rattle.cc_meaning.specs.declared.program.RegType.{RegType}
use Rattle.cc_meaning.specs.declared.program.RegType.TheVariants.{Unset, Int, Zero, Reference}
use Rattle.cc_meaning_typing.specs.declared.state.Pending.TheVariants.{Exception}
use Rattle.cc_meaning_typing.specs.declared.state.State.{State}
use Rattle.cc_meaning_typing.specs.Hierarchy.{on_value, superclass_in, superclass_of, object_class}
use Rattle.cc_meaning_typing.specs.Types.{is_loose_kind, is_loose_in, is_loose, held_base, held}
use Rattle.cc_meaning_typing.specs.Registers.{Covers, unset, same, zero_int, register_of_kind, register_of}
use Rattle.cc_meaning_typing.specs.States.{same_pending, none, each, AllCover, without_low, without_high, clear_behind, clear_before, write, registers_of_kind, registers_of, argument_registers, opening, register_at}
use Rattle.cc_meaning_typing.specs.Code.{Body, throwable_type, address_of, address, placed_at, insn_of, insn_at, is_payload, successors_of, successors, divides, can_throw, catches_of, catches_at, handlers}
use Rattle.cc_meaning_typing.specs.Rules.{Accepts, form_of, write_pending, int_constant, registers_after, pending_after, after, caught_type, handler_state}
use Rattle.cc_meaning_typing.specs.Typing.{Leads, TakesReference, IsFine, HasTyping}
use Rattle.cc_meaning_typing.specs.WellTyped.{IsTarget, HasTargets, KnowsMember, IsSound, WellTyped}
use Rattle.cc_meaning_typing.specs.Worked.{int_type, throwables, holding, place, catch_of}
use Rattle.cc_meaning_typing.specs.WorkedTyping.{looping, returning, function, program_with, two, loop_typing, TypingsHold}
use Rattle.cc_meaning_typing.proofs.Typed.{typed_reaches}

abbrev loop_body : Body
loop_body = record { program = program_with looping; method = function looping; code = looping }

abbrev To : State → Option ℕ → Type 0
To s to = Leads loop_body.program loop_typing to s

abbrev Handles : State → Catch → Type 0
Handles s catch = Leads loop_body.program loop_typing (Some catch.at) (handler_state loop_body.program s catch)

no_leads : (s : State) → All (To s) []
no_leads s k d l = absurd (omega arith)

one_lead : (s : State) (a : ℕ) → To s (Some a) → All (To s) (Some a ∷ [])
one_lead s a h zero d l = h
one_lead s a h (suc k) d l = absurd (omega arith)

two_leads : (s : State) (a b : ℕ) → To s (Some a) → To s (Some b) → All (To s) (Some a ∷ Some b ∷ [])
two_leads s a b h g zero d l = h
two_leads s a b h g (suc zero) d l = g
two_leads s a b h g (suc (suc k)) d l = absurd (omega arith)

no_catch : (P : Catch → Type 0) → All P []
no_catch P k d l = absurd (omega arith)

one_catch : (P : Catch → Type 0) (catch : Catch) → P catch → All P (catch ∷ [])
one_catch P catch h zero d l = h
one_catch P catch h (suc k) d l = absurd (omega arith)

fine_0 : IsFine loop_body loop_typing 0 (two Unset Int)
unfolding on_value superclass_in superclass_of object_class object_name string_name throwable_name is_loose_kind is_loose_in is_loose held_base held register_of_kind register_of without_low without_high clear_behind clear_before write registers_of_kind registers_of argument_registers opening throwable_type address_of address placed_at insn_of insn_at is_payload successors_of successors divides can_throw catches_of catches_at handlers form_of write_pending int_constant registers_after pending_after after caught_type handler_state
fine_0 = record { placed = place 0 1 (insn.ConstInt 0 (pos 0)); stands = refl; accepts = omega arith; taken = no_catch (λ (catch : Catch). TakesReference catch.kind); leads = one_lead (two Zero Int) 1 ((two Int Int), refl, (record { registers = each zero_int (each same none); pending = same_pending })); handled = no_catch (Handles (two Unset Int)) }

fine_1 : IsFine loop_body loop_typing 1 (two Int Int)
unfolding on_value superclass_in superclass_of object_class object_name string_name throwable_name is_loose_kind is_loose_in is_loose held_base held register_of_kind register_of without_low without_high clear_behind clear_before write registers_of_kind registers_of argument_registers opening throwable_type address_of address placed_at insn_of insn_at is_payload successors_of successors divides can_throw catches_of catches_at handlers form_of write_pending int_constant registers_after pending_after after caught_type handler_state
fine_1 = record { placed = place 1 2 (insn.IntLit op.Add true 0 0 (pos 1)); stands = refl; accepts = (omega arith, same); taken = no_catch (λ (catch : Catch). TakesReference catch.kind); leads = one_lead (two Int Int) 3 ((two Int Int), refl, (record { registers = each same (each same none); pending = same_pending })); handled = no_catch (Handles (two Int Int)) }

fine_3 : IsFine loop_body loop_typing 3 (two Int Int)
unfolding on_value superclass_in superclass_of object_class object_name string_name throwable_name is_loose_kind is_loose_in is_loose held_base held register_of_kind register_of without_low without_high clear_behind clear_before write registers_of_kind registers_of argument_registers opening throwable_type address_of address placed_at insn_of insn_at is_payload successors_of successors divides can_throw catches_of catches_at handlers form_of write_pending int_constant registers_after pending_after after caught_type handler_state
fine_3 = record { placed = place 3 2 (insn.IntOp op.Div 0 0 1); stands = refl; accepts = (omega arith, same, same); taken = one_catch (λ (catch : Catch). TakesReference catch.kind) (catch_of None 8) tt; leads = one_lead (two Int Int) 5 ((two Int Int), refl, (record { registers = each same (each same none); pending = same_pending })); handled = one_catch (Handles (two Int Int)) (catch_of None 8) ((holding (Int ∷ Int ∷ []) (Exception throwables)), refl, (record { registers = each same (each same none); pending = same_pending })) }

fine_5 : IsFine loop_body loop_typing 5 (two Int Int)
unfolding on_value superclass_in superclass_of object_class object_name string_name throwable_name is_loose_kind is_loose_in is_loose held_base held register_of_kind register_of without_low without_high clear_behind clear_before write registers_of_kind registers_of argument_registers opening throwable_type address_of address placed_at insn_of insn_at is_payload successors_of successors divides can_throw catches_of catches_at handlers form_of write_pending int_constant registers_after pending_after after caught_type handler_state
fine_5 = record { placed = place 5 2 (insn.IfZero test.Lt 0 (negsuc 3)); stands = refl; accepts = same; taken = no_catch (λ (catch : Catch). TakesReference catch.kind); leads = two_leads (two Int Int) 7 1 ((two Int Unset), refl, (record { registers = each same (each unset none); pending = same_pending })) ((two Int Int), refl, (record { registers = each same (each same none); pending = same_pending })); handled = no_catch (Handles (two Int Int)) }

fine_7 : IsFine loop_body loop_typing 7 (two Int Unset)
unfolding on_value superclass_in superclass_of object_class object_name string_name throwable_name is_loose_kind is_loose_in is_loose held_base held register_of_kind register_of without_low without_high clear_behind clear_before write registers_of_kind registers_of argument_registers opening throwable_type address_of address placed_at insn_of insn_at is_payload successors_of successors divides can_throw catches_of catches_at handlers form_of write_pending int_constant registers_after pending_after after caught_type handler_state
fine_7 = record { placed = place 7 1 (insn.Return kind.Plain 0); stands = refl; accepts = (int_type, refl, refl, (same, tt)); taken = no_catch (λ (catch : Catch). TakesReference catch.kind); leads = no_leads (two Int Unset); handled = no_catch (Handles (two Int Unset)) }

fine_8 : IsFine loop_body loop_typing 8 (holding (Int ∷ Int ∷ []) (Exception throwables))
unfolding on_value superclass_in superclass_of object_class object_name string_name throwable_name is_loose_kind is_loose_in is_loose held_base held register_of_kind register_of without_low without_high clear_behind clear_before write registers_of_kind registers_of argument_registers opening throwable_type address_of address placed_at insn_of insn_at is_payload successors_of successors divides can_throw catches_of catches_at handlers form_of write_pending int_constant registers_after pending_after after caught_type handler_state
fine_8 = record { placed = place 8 1 (insn.MoveException 1); stands = refl; accepts = (omega arith, (throwables, refl)); taken = no_catch (λ (catch : Catch). TakesReference catch.kind); leads = one_lead (two Int (Reference throwables)) 9 ((two Int (Reference throwables)), refl, (record { registers = each same (each same none); pending = same_pending })); handled = no_catch (Handles (holding (Int ∷ Int ∷ []) (Exception throwables))) }

fine_9 : IsFine loop_body loop_typing 9 (two Int (Reference throwables))
unfolding on_value superclass_in superclass_of object_class object_name string_name throwable_name is_loose_kind is_loose_in is_loose held_base held register_of_kind register_of without_low without_high clear_behind clear_before write registers_of_kind registers_of argument_registers opening throwable_type address_of address placed_at insn_of insn_at is_payload successors_of successors divides can_throw catches_of catches_at handlers form_of write_pending int_constant registers_after pending_after after caught_type handler_state
fine_9 = record { placed = place 9 1 (insn.ConstInt 0 (pos 7)); stands = refl; accepts = omega arith; taken = no_catch (λ (catch : Catch). TakesReference catch.kind); leads = one_lead (two Int (Reference throwables)) 10 ((two Int (Reference throwables)), refl, (record { registers = each same (each same none); pending = same_pending })); handled = no_catch (Handles (two Int (Reference throwables))) }

fine_10 : IsFine loop_body loop_typing 10 (two Int (Reference throwables))
unfolding on_value superclass_in superclass_of object_class object_name string_name throwable_name is_loose_kind is_loose_in is_loose held_base held register_of_kind register_of without_low without_high clear_behind clear_before write registers_of_kind registers_of argument_registers opening throwable_type address_of address placed_at insn_of insn_at is_payload successors_of successors divides can_throw catches_of catches_at handlers form_of write_pending int_constant registers_after pending_after after caught_type handler_state
fine_10 = record { placed = place 10 1 (insn.Goto (negsuc 2)); stands = refl; accepts = tt; taken = no_catch (λ (catch : Catch). TakesReference catch.kind); leads = one_lead (two Int (Reference throwables)) 7 ((two Int Unset), refl, (record { registers = each same (each unset none); pending = same_pending })); handled = no_catch (Handles (two Int (Reference throwables))) }

fine_at : (k : ℕ) (u s : State) → IsFine loop_body loop_typing k u → Some u ≡ Some s → IsFine loop_body loop_typing k s
fine_at k u s h e = let f : u ≡ s = cc in subst (IsFine loop_body loop_typing k) f h

fine : (at : ℕ) (s : State) → loop_typing at ≡ Some s → IsFine loop_body loop_typing at s
fine zero s e = fine_at 0 _ s fine_0 e
fine (suc zero) s e = fine_at 1 _ s fine_1 e
fine (suc (suc zero)) s e = absurd (cc)
fine (suc (suc (suc zero))) s e = fine_at 3 _ s fine_3 e
fine (suc (suc (suc (suc zero)))) s e = absurd (cc)
fine (suc (suc (suc (suc (suc zero))))) s e = fine_at 5 _ s fine_5 e
fine (suc (suc (suc (suc (suc (suc zero)))))) s e = absurd (cc)
fine (suc (suc (suc (suc (suc (suc (suc zero))))))) s e = fine_at 7 _ s fine_7 e
fine (suc (suc (suc (suc (suc (suc (suc (suc zero)))))))) s e = fine_at 8 _ s fine_8 e
fine (suc (suc (suc (suc (suc (suc (suc (suc (suc zero))))))))) s e = fine_at 9 _ s fine_9 e
fine (suc (suc (suc (suc (suc (suc (suc (suc (suc (suc zero)))))))))) s e = fine_at 10 _ s fine_10 e
fine (suc (suc (suc (suc (suc (suc (suc (suc (suc (suc (suc n))))))))))) s e = absurd (cc)

loop_has_typing : HasTyping loop_body
unfolding on_value superclass_in superclass_of object_class object_name string_name throwable_name is_loose_kind is_loose_in is_loose held_base held register_of_kind register_of without_low without_high clear_behind clear_before write registers_of_kind registers_of argument_registers opening throwable_type address_of address placed_at insn_of insn_at is_payload successors_of successors divides can_throw catches_of catches_at handlers form_of write_pending int_constant registers_after pending_after after caught_type handler_state
loop_has_typing = (loop_typing, record { opens = (two Unset Int, refl, record { registers = each same (each same none); pending = same_pending }); fine = fine })

loop_branches : All (λ (placed : Placed). HasTargets looping placed.at placed.insn) looping.insns
unfolding on_value superclass_in superclass_of object_class object_name string_name throwable_name is_loose_kind is_loose_in is_loose held_base held register_of_kind register_of without_low without_high clear_behind clear_before write registers_of_kind registers_of argument_registers opening throwable_type address_of address placed_at insn_of insn_at is_payload successors_of successors divides can_throw catches_of catches_at handlers form_of write_pending int_constant registers_after pending_after after caught_type handler_state
loop_branches zero d l = tt
loop_branches (suc zero) d l = tt
loop_branches (suc (suc zero)) d l = tt
loop_branches (suc (suc (suc zero))) d l = refl
loop_branches (suc (suc (suc (suc zero)))) d l = tt
loop_branches (suc (suc (suc (suc (suc zero))))) d l = tt
loop_branches (suc (suc (suc (suc (suc (suc zero)))))) d l = tt
loop_branches (suc (suc (suc (suc (suc (suc (suc zero))))))) d l = refl
loop_branches (suc (suc (suc (suc (suc (suc (suc (suc n)))))))) d l = absurd (omega arith)

loop_members : All (λ (placed : Placed). KnowsMember loop_body placed.insn) looping.insns
loop_members zero d l = tt
loop_members (suc zero) d l = tt
loop_members (suc (suc zero)) d l = tt
loop_members (suc (suc (suc zero))) d l = tt
loop_members (suc (suc (suc (suc zero)))) d l = tt
loop_members (suc (suc (suc (suc (suc zero))))) d l = tt
loop_members (suc (suc (suc (suc (suc (suc zero)))))) d l = tt
loop_members (suc (suc (suc (suc (suc (suc (suc zero))))))) d l = tt
loop_members (suc (suc (suc (suc (suc (suc (suc (suc n)))))))) d l = absurd (omega arith)

loop_catches : All (λ (try : Try). All (λ (catch : Catch). IsTarget looping (Some catch.at)) try.catches) looping.tries
unfolding on_value superclass_in superclass_of object_class object_name string_name throwable_name is_loose_kind is_loose_in is_loose held_base held register_of_kind register_of without_low without_high clear_behind clear_before write registers_of_kind registers_of argument_registers opening throwable_type address_of address placed_at insn_of insn_at is_payload successors_of successors divides can_throw catches_of catches_at handlers form_of write_pending int_constant registers_after pending_after after caught_type handler_state
loop_catches zero d l zero e m = refl
loop_catches zero d l (suc k) e m = absurd (omega arith)
loop_catches (suc n) d l k e m = absurd (omega arith)

loop_sound : IsSound loop_body
loop_sound = record {
  targets = record { branches = loop_branches; catches = loop_catches };
  members = loop_members;
  reached = typed_reaches loop_body loop_has_typing;
  typed = loop_has_typing;
}

-- the one method with code of such a program
only : (code : Code) → IsSound (record { program = program_with code; method = function code; code = code }) → WellTyped (program_with code)
only code h = record { sound = sound }
  where
    sound : (m : ℕ) (method : Method) (found : Code) → slice_get (program_with code).methods m ≡ Some method → method.kind ≡ kinds.Code found → IsSound (record { program = program_with code; method = method; code = found })
    sound zero method found e k =
        let f : function code ≡ method = cc in
        let g : kinds.Code code ≡ kinds.Code found = ap (λ (z : Method). z.kind) f ∙ k in
        let c : code ≡ found = cc in
        subst (λ (z : Method). IsSound (record { program = program_with code; method = z; code = found })) f (subst (λ (z : Code). IsSound (record { program = program_with code; method = function code; code = z })) c h)
    sound (suc m) method found e k = absurd (cc)

abbrev empty_body : Body
empty_body = record { program = program_with returning; method = function returning; code = returning }

nothing_known : (b : RegType) → Covers empty_body.program b Unset → Covers empty_body.program Int b → ⊥
nothing_known Unset h g = elim g [ ]
nothing_known b h g = elim h [ ]

first_unset : (registers : List RegType) → AllCover empty_body.program registers (Unset ∷ Int ∷ []) → Covers empty_body.program Int (register_at registers 0) → ⊥
first_unset registers (each h c) g = nothing_known _ h g

no_typing : HasTyping empty_body → ⊥
unfolding on_value superclass_in superclass_of object_class object_name string_name throwable_name is_loose_kind is_loose_in is_loose held_base held register_of_kind register_of without_low without_high clear_behind clear_before write registers_of_kind registers_of argument_registers opening throwable_type address_of address placed_at insn_of insn_at is_payload successors_of successors divides can_throw catches_of catches_at handlers form_of write_pending int_constant registers_after pending_after after caught_type handler_state
no_typing t =
    let o = t.1.opens in
    let f = t.1.fine 0 o.0 o.1 in
    let e = f.stands in
    let p : place 0 1 (insn.Return kind.Plain 0) ≡ f.placed = cc in
    let h : Accepts empty_body 0 o.0 (insn.Return kind.Plain 0) = subst (λ (z : Placed). Accepts empty_body 0 o.0 z.insn) (sym p) f.accepts in
    let g = h.1 in
    let n : int_type ≡ h.0 = cc in
    let k = rw (← n) at h.3.0 in
    first_unset o.0.registers o.2.registers k

pub typings_hold : TypingsHold
typings_hold = record { loop = only looping loop_sound; nothing_returned = λ w. no_typing (w.sound 0 (function returning) returning refl refl).typed }
