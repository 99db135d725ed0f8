-- What one instruction uses and leaves in the registers.
use Rattle.std.specs.Prelude.{◌≡◌, ◌-◌, List, length, Some, slice_get, slice_set}
use Rattle.cc_meaning_plain.specs.declared.plain.PlainInsn.{PlainInsn}
use Rattle.cc_meaning_plain.specs.declared.plain.PlainInsn.TheVariants.{SgetOut, Const4, AddInt2Addr, AddIntLit8, InvokePrintln, CallFunction}
use Rattle.cc_meaning_plain.specs.declared.plain.Last.{Last}
use Rattle.cc_meaning_plain.specs.declared.plain.Last.TheVariants.{ReturnVoid, Return}
use Rattle.cc_meaning_plain.specs.declared.plain.Held.{Held}
use Rattle.cc_meaning_plain.specs.declared.plain.Held.TheVariants.{Number, Stream}

-- each number that it adds, prints or hands over is a number there, and its receiver is `System.out`
abbrev pub HasWhatItUses : List Held → PlainInsn → Type 0
HasWhatItUses held (SgetOut to) = Unit {0}
HasWhatItUses held (Const4 to value) = Unit {0}
HasWhatItUses held (AddInt2Addr to other) = (slice_get held to ≡ Some Number) × (slice_get held other ≡ Some Number)
HasWhatItUses held (AddIntLit8 to from literal) = slice_get held from ≡ Some Number
HasWhatItUses held (InvokePrintln stream number) = (slice_get held stream ≡ Some Stream) × (slice_get held number ≡ Some Number)
HasWhatItUses held (CallFunction function argument to) = slice_get held argument ≡ Some Number

abbrev pub held_after : List Held → PlainInsn → List Held
held_after held (SgetOut to) = slice_set held to Stream
held_after held (Const4 to value) = slice_set held to Number
held_after held (AddInt2Addr to other) = slice_set held to Number
held_after held (AddIntLit8 to from literal) = slice_set held to Number
held_after held (InvokePrintln stream number) = held
held_after held (CallFunction function argument to) = slice_set held to Number

-- a function's argument stands in its last register
abbrev pub held_with_argument : List Held → Last → List Held
held_with_argument held ReturnVoid = held
held_with_argument held (Return from) = slice_set held (length held - 1) Number
