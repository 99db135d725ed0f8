-- No rule changes how many registers there are.
use Rattle.std.proofs.Common.{◌≡◌, ℕ, zero, suc, List, [], ◌∷◌, length, map, Option, Some, None, refl, ap, ◌∙◌, slice_set, slice_get}
use Rattle.cc_meaning.specs.declared.instruction.Conversion.{Conversion}
use Rattle.cc_meaning.specs.declared.instruction.Conversion.TheVariants as conversion
use Rattle.cc_meaning.specs.declared.instruction.How.{How}
use Rattle.cc_meaning.specs.declared.instruction.How.TheVariants as how
use Rattle.cc_meaning.specs.declared.instruction.Insn.{Insn}
use Rattle.cc_meaning.specs.declared.instruction.Insn.TheVariants as insn
use Rattle.cc_meaning.specs.declared.instruction.Kind.{Kind}
use Rattle.cc_meaning.specs.declared.instruction.Kind.TheVariants as kind
use Rattle.cc_meaning.specs.declared.instruction.MethodRef.{MethodRef}
use Rattle.cc_meaning.specs.declared.instruction.MethodRef.TheVariants as ref
use Rattle.cc_meaning.specs.declared.instruction.TypeRef.{TypeRef}
use Rattle.cc_meaning.specs.declared.instruction.TypeRef.TheVariants as type
use Rattle.cc_meaning.specs.declared.program.DexType.{DexType}
use Rattle.cc_meaning.specs.declared.program.Field.{Field}
use Rattle.cc_meaning.specs.declared.program.Program.{Program}
use Rattle.cc_meaning.specs.declared.program.RegType.{RegType}
use Rattle.cc_meaning.specs.declared.program.RegType.TheVariants.{Int, LongLow, LongHigh, Reference, Fresh}
use Rattle.cc_meaning.specs.Kinds.{kind_of}
use Rattle.cc_meaning_typing.specs.declared.state.Pending.{Pending}
use Rattle.cc_meaning_typing.specs.declared.state.Pending.TheVariants.{Nothing, Result, Exception}
use Rattle.cc_meaning_typing.specs.declared.state.State.{State}
use Rattle.cc_meaning_typing.specs.Types.{class_type, object_type, held}
use Rattle.cc_meaning_typing.specs.Registers.{register_of}
use Rattle.cc_meaning_typing.specs.States.{register_at, without_high, without_low, clear_behind, clear_before, write, write_long, without_fresh, forget_fresh, constructed, construct}
use Rattle.cc_meaning_typing.specs.Code.{string_type}
use Rattle.cc_meaning_typing.specs.Rules.{write_kind, write_declared, write_pending, int_constant, write_named, element_for, write_field, construct_known, registers_called, registers_converted, registers_after, after}
use Rattle.cc_meaning_typing.proofs.Reading.{set_length}

abbrev Keeps : List RegType → List RegType → Type 0
Keeps old new = length new ≡ length old

map_length : (f : RegType → RegType) (rs : List RegType) → Keeps rs (map f rs)
map_length f [] = refl
map_length f (r ∷ rs) = ap suc (map_length f rs)

behind_keeps : (rs : List RegType) (r : ℕ) → Keeps rs (clear_behind rs r)
unfolding clear_behind
behind_keeps rs r = set_length rs (suc r) (without_high (register_at rs (suc r)))

before_keeps : (rs : List RegType) (r : ℕ) → Keeps rs (clear_before rs r)
unfolding clear_before
before_keeps rs zero = refl
before_keeps rs (suc r) = set_length rs r (without_low (register_at rs r))

write_keeps : (rs : List RegType) (r : ℕ) (a : RegType) → Keeps rs (write rs r a)
unfolding write
write_keeps rs r a = set_length (clear_before (clear_behind rs r) r) r a ∙ before_keeps (clear_behind rs r) r ∙ behind_keeps rs r

long_keeps : (rs : List RegType) (r : ℕ) → Keeps rs (write_long rs r)
unfolding write_long
long_keeps rs r =
    let cleared = clear_before (clear_behind rs (suc r)) r in
    set_length (slice_set cleared r LongLow) (suc r) LongHigh ∙ set_length cleared r LongLow ∙ before_keeps (clear_behind rs (suc r)) r ∙ behind_keeps rs (suc r)

kind_keeps : (rs : List RegType) (r : ℕ) (a : RegType) (k : Kind) → Keeps rs (write_kind rs r a k)
unfolding write_kind
kind_keeps rs r a kind.Wide = long_keeps rs r
kind_keeps rs r a k = write_keeps rs r a

declared_keeps : (program : Program) (rs : List RegType) (r : ℕ) (t : DexType) → Keeps rs (write_declared program rs r t)
unfolding write_declared
declared_keeps program rs r t = kind_keeps rs r (register_of program t) (kind_of t)

pending_keeps : (program : Program) (rs : List RegType) (r : ℕ) (p : Pending) → Keeps rs (write_pending program rs r p)
unfolding write_pending
pending_keeps program rs r Nothing = refl
pending_keeps program rs r (Result t) = declared_keeps program rs r t
pending_keeps program rs r (Exception t) = write_keeps rs r (Reference t)

named_keeps : (program : Program) (rs : List RegType) (r : ℕ) (named : TypeRef) → Keeps rs (write_named program rs r named)
unfolding write_named
named_keeps program rs r (type.Row row) = refl
named_keeps program rs r (type.Known t) = write_keeps rs r (Reference (held program t))

field_keeps : (program : Program) (rs : List RegType) (r : ℕ) (field : Option Field) → Keeps rs (write_field program rs r field)
unfolding write_field
field_keeps program rs r None = refl
field_keeps program rs r (Some field) = declared_keeps program rs r field.ty

construct_keeps : (program : Program) (rs : List RegType) (class : ℕ) (a : RegType) → Keeps rs (construct_known program rs class a)
unfolding construct_known construct
construct_keeps program rs class (Fresh at) = map_length (constructed at (held program (class_type class))) rs
construct_keeps program rs class a = refl

called_keeps : (program : Program) (rs : List RegType) (h : How) (m : MethodRef) (args : List ℕ) → Keeps rs (registers_called program rs h m args)
unfolding registers_called
called_keeps program rs how.Direct (ref.Known class method) (receiver ∷ args) = construct_keeps program rs class (register_at rs receiver)
called_keeps program rs h m args = refl

converted_keeps : (rs : List RegType) (c : Conversion) (r : ℕ) → Keeps rs (registers_converted rs c r)
unfolding registers_converted
converted_keeps rs conversion.IntToLong r = long_keeps rs r
converted_keeps rs c r = write_keeps rs r Int

fresh_keeps : (rs : List RegType) (at r : ℕ) → Keeps rs (write (forget_fresh rs at) r (Fresh at))
unfolding forget_fresh
fresh_keeps rs at r = write_keeps (map (without_fresh at) rs) r (Fresh at) ∙ map_length (without_fresh at) rs

registers_keep : (program : Program) (at : ℕ) (rs : List RegType) (p : Pending) (i : Insn) → Keeps rs (registers_after program at rs p i)
unfolding registers_after
registers_keep program at rs p (insn.Move k to from) = kind_keeps rs to (register_at rs from) k
registers_keep program at rs p (insn.MoveResult k to) = pending_keeps program rs to p
registers_keep program at rs p (insn.MoveException to) = pending_keeps program rs to p
registers_keep program at rs p (insn.ConstInt to value) = write_keeps rs to (int_constant value)
registers_keep program at rs p (insn.ConstLong to value) = long_keeps rs to
registers_keep program at rs p (insn.ConstText to text) = write_keeps rs to (Reference (string_type program))
registers_keep program at rs p (insn.ConstClass to named) = write_keeps rs to (Reference (object_type program))
registers_keep program at rs p (insn.CheckCast object named) = named_keeps program rs object named
registers_keep program at rs p (insn.InstanceOf to object named) = write_keeps rs to Int
registers_keep program at rs p (insn.ArrayLength to array) = write_keeps rs to Int
registers_keep program at rs p (insn.NewInstance to named) = fresh_keeps rs at to
registers_keep program at rs p (insn.NewArray to len named) = named_keeps program rs to named
registers_keep program at rs p (insn.CompareLong to left right) = write_keeps rs to Int
registers_keep program at rs p (insn.ArrayGet k to array index) = kind_keeps rs to (element_for k (register_at rs array)) k
registers_keep program at rs p (insn.FieldGet k to object field) = field_keeps program rs to (slice_get program.fields field)
registers_keep program at rs p (insn.StaticGet k to field) = field_keeps program rs to (slice_get program.fields field)
registers_keep program at rs p (insn.Invoke h named args) = called_keeps program rs h named args
registers_keep program at rs p (insn.IntUnary op to from) = write_keeps rs to Int
registers_keep program at rs p (insn.LongUnary op to from) = long_keeps rs to
registers_keep program at rs p (insn.Convert op to from) = converted_keeps rs op to
registers_keep program at rs p (insn.IntOp op to left right) = write_keeps rs to Int
registers_keep program at rs p (insn.LongOp op to left right) = long_keeps rs to
registers_keep program at rs p (insn.IntLit op reversed to left literal) = write_keeps rs to Int
registers_keep program at rs p i = refl

pub after_keeps : (program : Program) (at : ℕ) (s : State) (i : Insn) → length (after program at s i).registers ≡ length s.registers
unfolding after
after_keeps program at s i = registers_keep program at s.registers s.pending i
