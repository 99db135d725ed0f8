-- No instruction changes how many registers there are.
use Rattle.std.proofs.Common.{◌≡◌, ℕ, zero, suc, List, [], ◌∷◌, length, slice_set, slice_get, Option, Some, None, refl, ◌∙◌}
use Rattle.std.proofs.Math.ListN.{length-set}
use Rattle.std.proofs.lemmas.List.{length-map}
use Rattle.cc_meaning.specs.declared.instruction.Conversion.{Conversion}
use Rattle.cc_meaning.specs.declared.instruction.Conversion.TheVariants as conversion
use Rattle.cc_meaning.specs.declared.instruction.How.{How}
use Rattle.cc_meaning.specs.declared.instruction.How.TheVariants as how
use Rattle.cc_meaning.specs.declared.instruction.Insn.{Insn}
use Rattle.cc_meaning.specs.declared.instruction.Insn.TheVariants as insn
use Rattle.cc_meaning.specs.declared.instruction.Kind.{Kind}
use Rattle.cc_meaning.specs.declared.instruction.Kind.TheVariants as kind
use Rattle.cc_meaning.specs.declared.instruction.MethodRef.{MethodRef}
use Rattle.cc_meaning.specs.declared.instruction.MethodRef.TheVariants as ref
use Rattle.cc_meaning.specs.declared.instruction.TypeRef.{TypeRef}
use Rattle.cc_meaning.specs.declared.instruction.TypeRef.TheVariants as type
use Rattle.cc_meaning.specs.declared.program.DexType.{DexType}
use Rattle.cc_meaning.specs.declared.program.Field.{Field}
use Rattle.cc_meaning.specs.declared.program.Program.{Program}
use Rattle.cc_meaning.specs.declared.program.RegType.{RegType}
use Rattle.cc_meaning.specs.declared.program.RegType.TheVariants.{Unset, Int, Zero, LongLow, LongHigh, Reference, Fresh}
use Rattle.cc_meaning.specs.Kinds.{kind_of}
use Rattle.cc_meaning_typing.specs.declared.state.Pending.{Pending}
use Rattle.cc_meaning_typing.specs.declared.state.Pending.TheVariants.{Nothing, Result, Exception}
use Rattle.cc_meaning_typing.specs.States.{clear_behind, clear_before, write, write_long, forget_fresh, construct}
use Rattle.cc_meaning_typing.specs.Rules.{write_kind, write_declared, write_pending, write_named, write_field, construct_known, registers_called, registers_converted, registers_after}

set_keeps : (registers : List RegType) (r : ℕ) (a : RegType) → length (slice_set registers r a) ≡ length registers
set_keeps registers r a = length-set registers r a

behind_keeps : (registers : List RegType) (r : ℕ) → length (clear_behind registers r) ≡ length registers
unfolding clear_behind
behind_keeps registers r = set_keeps registers (suc r) _

before_keeps : (registers : List RegType) (r : ℕ) → length (clear_before registers r) ≡ length registers
unfolding clear_before
before_keeps registers zero = refl
before_keeps registers (suc r) = set_keeps registers r _

write_keeps : (registers : List RegType) (r : ℕ) (a : RegType) → length (write registers r a) ≡ length registers
unfolding write
write_keeps registers r a = set_keeps _ r a ∙ before_keeps _ r ∙ behind_keeps registers r

long_keeps : (registers : List RegType) (r : ℕ) → length (write_long registers r) ≡ length registers
unfolding write_long
long_keeps registers r = set_keeps _ (suc r) LongHigh ∙ set_keeps _ r LongLow ∙ before_keeps _ r ∙ behind_keeps registers (suc r)

kind_keeps : (registers : List RegType) (r : ℕ) (a : RegType) (k : Kind) → length (write_kind registers r a k) ≡ length registers
unfolding write_kind
kind_keeps registers r a kind.Wide = long_keeps registers r
kind_keeps registers r a kind.Plain = write_keeps registers r a
kind_keeps registers r a kind.Object = write_keeps registers r a
kind_keeps registers r a kind.Boolean = write_keeps registers r a
kind_keeps registers r a kind.Byte = write_keeps registers r a
kind_keeps registers r a kind.Char = write_keeps registers r a
kind_keeps registers r a kind.Short = write_keeps registers r a

declared_keeps : (program : Program) (registers : List RegType) (r : ℕ) (type : DexType) → length (write_declared program registers r type) ≡ length registers
unfolding write_declared
declared_keeps program registers r type = kind_keeps registers r _ (kind_of type)

pending_keeps : (program : Program) (registers : List RegType) (r : ℕ) (pending : Pending) → length (write_pending program registers r pending) ≡ length registers
unfolding write_pending
pending_keeps program registers r Nothing = refl
pending_keeps program registers r (Result type) = declared_keeps program registers r type
pending_keeps program registers r (Exception type) = write_keeps registers r (Reference type)

named_keeps : (program : Program) (registers : List RegType) (r : ℕ) (named : TypeRef) → length (write_named program registers r named) ≡ length registers
unfolding write_named
named_keeps program registers r (type.Row row) = refl
named_keeps program registers r (type.Known type) = write_keeps registers r _

field_keeps : (program : Program) (registers : List RegType) (r : ℕ) (field : Option Field) → length (write_field program registers r field) ≡ length registers
unfolding write_field
field_keeps program registers r None = refl
field_keeps program registers r (Some field) = declared_keeps program registers r field.ty

construct_keeps : (program : Program) (registers : List RegType) (class : ℕ) (a : RegType) → length (construct_known program registers class a) ≡ length registers
unfolding construct_known construct
construct_keeps program registers class (Fresh at) = length-map registers _
construct_keeps program registers class Unset = refl
construct_keeps program registers class Int = refl
construct_keeps program registers class Zero = refl
construct_keeps program registers class LongLow = refl
construct_keeps program registers class LongHigh = refl
construct_keeps program registers class (Reference type) = refl

call_keeps : (program : Program) (registers : List RegType) (h : How) (named : MethodRef) (args : List ℕ) → length (registers_called program registers h named args) ≡ length registers
unfolding registers_called
call_keeps program registers how.Direct (ref.Known class method) (receiver ∷ args) = construct_keeps program registers class _
call_keeps program registers how.Direct (ref.Known class method) [] = refl
call_keeps program registers how.Direct (ref.Row row) args = refl
call_keeps program registers how.Virtual named args = refl
call_keeps program registers how.Super named args = refl
call_keeps program registers how.Static named args = refl
call_keeps program registers how.Interface named args = refl

convert_keeps : (registers : List RegType) (op : Conversion) (r : ℕ) → length (registers_converted registers op r) ≡ length registers
unfolding registers_converted
convert_keeps registers conversion.IntToLong r = long_keeps registers r
convert_keeps registers conversion.LongToInt r = write_keeps registers r Int
convert_keeps registers conversion.IntToByte r = write_keeps registers r Int
convert_keeps registers conversion.IntToChar r = write_keeps registers r Int
convert_keeps registers conversion.IntToShort r = write_keeps registers r Int

pub after_keeps_length : (program : Program) (at : ℕ) (registers : List RegType) (pending : Pending) (i : Insn) → length (registers_after program at registers pending i) ≡ length registers
unfolding registers_after forget_fresh
after_keeps_length program at registers pending (insn.Move k to from) = kind_keeps registers to _ k
after_keeps_length program at registers pending (insn.MoveResult k to) = pending_keeps program registers to pending
after_keeps_length program at registers pending (insn.MoveException to) = pending_keeps program registers to pending
after_keeps_length program at registers pending (insn.ConstInt to value) = write_keeps registers to _
after_keeps_length program at registers pending (insn.ConstLong to value) = long_keeps registers to
after_keeps_length program at registers pending (insn.ConstText to text) = write_keeps registers to _
after_keeps_length program at registers pending (insn.ConstClass to named) = write_keeps registers to _
after_keeps_length program at registers pending (insn.CheckCast object named) = named_keeps program registers object named
after_keeps_length program at registers pending (insn.InstanceOf to object named) = write_keeps registers to Int
after_keeps_length program at registers pending (insn.ArrayLength to array) = write_keeps registers to Int
after_keeps_length program at registers pending (insn.NewInstance to named) = write_keeps (forget_fresh registers at) to (Fresh at) ∙ length-map registers _
after_keeps_length program at registers pending (insn.NewArray to size named) = named_keeps program registers to named
after_keeps_length program at registers pending (insn.CompareLong to left right) = write_keeps registers to Int
after_keeps_length program at registers pending (insn.ArrayGet k to array index) = kind_keeps registers to _ k
after_keeps_length program at registers pending (insn.FieldGet k to object field) = field_keeps program registers to (slice_get program.fields field)
after_keeps_length program at registers pending (insn.StaticGet k to field) = field_keeps program registers to (slice_get program.fields field)
after_keeps_length program at registers pending (insn.Invoke h named args) = call_keeps program registers h named args
after_keeps_length program at registers pending (insn.IntUnary op to from) = write_keeps registers to Int
after_keeps_length program at registers pending (insn.LongUnary op to from) = long_keeps registers to
after_keeps_length program at registers pending (insn.Convert op to from) = convert_keeps registers op to
after_keeps_length program at registers pending (insn.IntOp op to left right) = write_keeps registers to Int
after_keeps_length program at registers pending (insn.LongOp op to left right) = long_keeps registers to
after_keeps_length program at registers pending (insn.IntLit op reversed to left literal) = write_keeps registers to Int
after_keeps_length program at registers pending insn.Nop = refl
after_keeps_length program at registers pending insn.ReturnVoid = refl
after_keeps_length program at registers pending (insn.Return k from) = refl
after_keeps_length program at registers pending (insn.Monitor enter object) = refl
after_keeps_length program at registers pending (insn.FilledNewArray named args) = refl
after_keeps_length program at registers pending (insn.FillArray array target) = refl
after_keeps_length program at registers pending (insn.Throw object) = refl
after_keeps_length program at registers pending (insn.Goto target) = refl
after_keeps_length program at registers pending (insn.Switch packed value target) = refl
after_keeps_length program at registers pending (insn.If test left right target) = refl
after_keeps_length program at registers pending (insn.IfZero test value target) = refl
after_keeps_length program at registers pending (insn.ArrayPut k from array index) = refl
after_keeps_length program at registers pending (insn.FieldPut k from object field) = refl
after_keeps_length program at registers pending (insn.StaticPut k from field) = refl
after_keeps_length program at registers pending (insn.PackedPayload first targets) = refl
after_keeps_length program at registers pending (insn.SparsePayload keys targets) = refl
after_keeps_length program at registers pending (insn.ArrayPayload width bytes) = refl
