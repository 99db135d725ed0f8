-- Each step of a well typed program is sound.
use Rattle.std.proofs.Common.{◌≡◌, ℕ, ◌==◌, [], ◌∷◌, Some, sym, subst}
use Rattle.cc_meaning.specs.declared.instruction.How.TheVariants as how
use Rattle.cc_meaning.specs.declared.instruction.Insn.{Insn}
use Rattle.cc_meaning.specs.declared.instruction.Insn.TheVariants as insn
use Rattle.cc_meaning.specs.declared.instruction.Kind.TheVariants as kind
use Rattle.cc_meaning.specs.declared.instruction.MethodRef.TheVariants as ref
use Rattle.cc_meaning.specs.declared.instruction.TypeRef.TheVariants as type
use Rattle.cc_meaning.specs.declared.program.Placed.{Placed}
use Rattle.cc_meaning_typing.specs.declared.state.State.{State}
use Rattle.cc_meaning_typing.specs.Types.{class_type}
use Rattle.cc_meaning_typing.specs.Code.{Body, placed_at, type_of_class}
use Rattle.cc_meaning_typing.specs.Rules.{Accepts}
use Rattle.cc_meaning_typing.specs.WellTyped.{KnowsMember, HasTargets}
use Rattle.cc_meaning_exec.specs.Instructions.{act_of, own_class, act_placed, act_in, act_at}
use Rattle.cc_meaning_fits.specs.Premises.{MakesNamed, ConstructsNamed}
use Rattle.cc_meaning_fits.specs.Soundness.{StepIsSound}
use Rattle.cc_sound_laws.proofs.Lists.{all_contains, find_contains}
use Rattle.cc_sound_laws.proofs.Places.{placed_here, code_is}
use Rattle.cc_sound_laws.proofs.Here.{Here, placed, Sound}
use Rattle.cc_sound_laws.proofs.Plain.{const_int, move_object, move_result, move_exception, return_void, return_value, throw_it, branch_if, nop, move_plain, move_wide, const_long, const_text, const_class, monitor, goto, switch, compare_long, if_zero, int_unary, long_unary, convert, int_op, long_op, int_lit}
use Rattle.cc_sound_laws.proofs.Objects.{check_cast, new_instance, field_get, field_put, static_get, static_put, instance_of}
use Rattle.cc_sound_laws.proofs.Elements.{array_get, array_put, array_length, new_array, filled_new_array, fill_array}
use Rattle.cc_sound_laws.proofs.Invokes.{invoke_static, invoke_virtual, invoke_interface, invoke_super, invoke_direct}

module _ (here : Here) (own : type_of_class here.body.program here.body.method.class ≡ class_type here.body.method.class) where
  of_insn : (i : Insn) → placed_at here.body.code here.at ≡ Some (placed here i) → Accepts here.body here.at here.state i → KnowsMember here.body i → HasTargets here.body.code here.at i → MakesNamed here.body.program i → ConstructsNamed here.body.program i → Sound here i
  unfolding act_of
  of_insn (insn.ConstInt to n) spot a m t c above = const_int here to n
  of_insn (insn.Move kind.Object to from) spot a m t c above = move_object here to from a
  of_insn (insn.MoveResult k to) spot a m t c above = move_result here k to a
  of_insn (insn.MoveException to) spot a m t c above = move_exception here to a
  of_insn insn.ReturnVoid spot a m t c above = return_void here a
  of_insn (insn.Return k from) spot a m t c above = return_value here k from a
  of_insn (insn.CheckCast object (type.Known named)) spot a m t c above = check_cast here object named a
  of_insn (insn.NewInstance to (type.Known named)) spot a m t c above = new_instance here to named.dims named.base spot a m c
  of_insn (insn.Throw object) spot a m t c above = throw_it here object a
  of_insn (insn.If test left right target) spot a m t c above = branch_if here test left right target a t
  of_insn (insn.ArrayGet k to array index) spot a m t c above = array_get here k to array index a
  of_insn (insn.ArrayPut k from array index) spot a m t c above = array_put here k from array index a
  of_insn (insn.FieldGet k to object field) spot a m t c above = field_get here k to object field a m
  of_insn (insn.FieldPut k from object field) spot a m t c above = field_put here k from object field a m
  of_insn (insn.StaticGet k to field) spot a m t c above = static_get here k to field a m
  of_insn (insn.StaticPut k from field) spot a m t c above = static_put here k from field a
  of_insn (insn.Invoke how.Static (ref.Known class n) rs) spot a m t c above = invoke_static here class n rs a m
  of_insn (insn.Invoke how.Virtual (ref.Known class n) (receiver ∷ rs)) spot a m t c above = invoke_virtual here class n receiver rs a
  of_insn (insn.Invoke how.Interface (ref.Known class n) (receiver ∷ rs)) spot a m t c above = invoke_interface here class n receiver rs a
  of_insn (insn.Invoke how.Super (ref.Known class n) (receiver ∷ rs)) spot a m t c above = invoke_super here class n receiver rs own a m
  of_insn (insn.Invoke how.Direct (ref.Known class n) (receiver ∷ rs)) spot a m t c above = invoke_direct here class n receiver rs a m above
  of_insn (insn.Invoke how.Virtual (ref.Known class n) []) spot a m t c above = absurd a.2
  of_insn (insn.Invoke how.Interface (ref.Known class n) []) spot a m t c above = absurd a.2
  of_insn (insn.Invoke how.Super (ref.Known class n) []) spot a m t c above = absurd a.2
  of_insn (insn.Invoke how.Direct (ref.Known class n) []) spot a m t c above = absurd a.2
  of_insn insn.Nop spot a m t c above = nop here
  of_insn (insn.Move kind.Plain to from) spot a m t c above = move_plain here to from a
  of_insn (insn.Move kind.Wide to from) spot a m t c above = move_wide here to from a
  of_insn (insn.ConstLong to n) spot a m t c above = const_long here to n
  of_insn (insn.ConstText to text) spot a m t c above = const_text here to text
  of_insn (insn.ConstClass to (type.Known named)) spot a m t c above = const_class here to named
  of_insn (insn.Monitor enter object) spot a m t c above = monitor here enter object a
  of_insn (insn.Goto target) spot a m t c above = goto here target t
  of_insn (insn.Switch packed value target) spot a m t c above = switch here packed value target a t
  of_insn (insn.CompareLong to left right) spot a m t c above = compare_long here to left right a
  of_insn (insn.IfZero test value target) spot a m t c above = if_zero here test value target a t
  of_insn (insn.IntUnary o to from) spot a m t c above = int_unary here o to from a
  of_insn (insn.LongUnary o to from) spot a m t c above = long_unary here o to from a
  of_insn (insn.Convert o to from) spot a m t c above = convert here o to from a
  of_insn (insn.IntOp o to left right) spot a m t c above = int_op here o to left right a
  of_insn (insn.LongOp o to left right) spot a m t c above = long_op here o to left right a
  of_insn (insn.IntLit o reversed to left literal) spot a m t c above = int_lit here o reversed to left literal a
  of_insn (insn.InstanceOf to object (type.Known named)) spot a m t c above = instance_of here to object named a
  of_insn (insn.ArrayLength to array) spot a m t c above = array_length here to array a
  of_insn (insn.NewArray to size (type.Known named)) spot a m t c above = new_array here to size named a c
  of_insn (insn.FilledNewArray (type.Known named) args) spot a m t c above = filled_new_array here named args a c
  of_insn (insn.FillArray array target) spot a m t c above = fill_array here array target a
  of_insn (insn.ConstClass to (type.Row row)) spot a m t c above = absurd a.1
  of_insn (insn.CheckCast object (type.Row row)) spot a m t c above = absurd a.0
  of_insn (insn.NewInstance to (type.Row row)) spot a m t c above = absurd a.1
  of_insn (insn.InstanceOf to object (type.Row row)) spot a m t c above = absurd a.1
  of_insn (insn.NewArray to size (type.Row row)) spot a m t c above = absurd a.1
  of_insn i spot a m t c above = absurd a

pub step_is_sound : StepIsSound
unfolding act_at act_in act_placed own_class placed_at
step_is_sound p linked constructs typed h f at =
    let body : Body = record { program = p; method = at.method; code = at.code } in
    let fine = at.typed.fine f.pc at.state at.here in
    let sound = typed.sound f.method at.method at.code at.named at.kind in
    let placed = fine.placed in
    let same = placed_here at.code f.pc placed fine.stands in
    let among = find_contains (λ (x : Placed). x.at == f.pc) at.code.insns placed fine.stands in
    let here : Here = record { body = body; linked = linked; at = placed.at; units = placed.units; state = at.state; heap = h; locals = f.locals; fits = at.fits } in
    let step = of_insn here (linked.owners f.method at.method at.code at.named at.kind) placed.insn
    (subst (λ z. placed_at at.code z ≡ Some placed) (sym same) fine.stands)
    (subst (λ z. Accepts body z at.state placed.insn) (sym same) fine.accepts)
    (all_contains (λ (x : Placed). KnowsMember body x.insn) at.code.insns placed sound.members among)
    (all_contains (λ (x : Placed). HasTargets at.code x.at x.insn) at.code.insns placed sound.targets.branches among)
    (all_contains (λ (x : Placed). MakesNamed p x.insn) at.code.insns placed (linked.makes f.method at.method at.code at.named at.kind) among)
    (all_contains (λ (x : Placed). ConstructsNamed p x.insn) at.code.insns placed (constructs f.method at.method at.code at.named at.kind) among) in
    (placed, fine.stands, rw (at.named, code_is p f.method at.method at.code at.named at.kind, fine.stands) step)
