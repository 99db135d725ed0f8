-- The code of a plain file's methods, unit by unit (Dalvik Executable format, `code_item`; Dalvik bytecode, instruction formats).
use Rattle.std.specs.Prelude.{◌≡◌, ◌≢◌, ℕ, ◌+◌, ◌-◌, ◌*◌, ◌/◌, ◌%◌, ◌<◌, ◌≤◌, ℤ, pos, ◌-ℤ◌, nat_lt, if◌then◌else◌, List, [], ◌∷◌, ◌++◌, Some, slice_get, slice_set, replicate}
use Rattle.cc_meaning_dex.specs.Numbers.{u16_at, u32_at, Within}
use Rattle.cc_meaning_plain.specs.declared.plain.PlainInsn.{PlainInsn}
use Rattle.cc_meaning_plain.specs.declared.plain.PlainInsn.TheVariants.{SgetOut, Const4, AddInt2Addr, AddIntLit8, InvokePrintln, CallFunction}
use Rattle.cc_meaning_plain.specs.declared.plain.Last.{Last}
use Rattle.cc_meaning_plain.specs.declared.plain.Last.TheVariants.{ReturnVoid, Return}
use Rattle.cc_meaning_plain.specs.declared.plain.PlainCode.{PlainCode}
use Rattle.cc_meaning_plain.specs.declared.plain.Held.{Held}
use Rattle.cc_meaning_plain.specs.declared.plain.Held.TheVariants.{Nothing, Number, Stream}
use Rattle.cc_meaning_plain.specs.Names.{IsOutField, IsPrintln, IsFunction}

-- how many units an instruction takes
abbrev pub units_of : PlainInsn → ℕ
units_of (SgetOut to) = 2
units_of (Const4 to value) = 1
units_of (AddInt2Addr to other) = 1
units_of (AddIntLit8 to from literal) = 2
units_of (InvokePrintln stream number) = 3
units_of (CallFunction function argument to) = 4

-- four bits, of which the highest is the sign
abbrev pub signed_nibble : ℕ → ℤ
signed_nibble n = if nat_lt n 8 then pos n else pos n -ℤ pos 16

-- eight bits, of which the highest is the sign
abbrev pub signed_byte : ℕ → ℤ
signed_byte n = if nat_lt n 128 then pos n else pos n -ℤ pos 256

-- the class of a file, and the names of its functions in order
pub record Scope : Type 0 where
  pub class : List ℕ
  pub functions : List (List ℕ)

-- `main` ends with `return-void`, a function with `return`
abbrev pub IsOfMain : Last → Type 0
IsOfMain ReturnVoid = Unit {0}
IsOfMain (Return from) = ⊥

abbrev pub IsOfFunction : Last → Type 0
IsOfFunction ReturnVoid = ⊥
IsOfFunction (Return from) = Unit {0}

-- the function of that place has the name that a row of methods has
pub record NamesFunction (file : List ℕ) (scope : Scope) (row function : ℕ) : Type 0 where
  pub name : List ℕ
  pub named : IsFunction file scope.class row name
  pub stands : slice_get scope.functions function ≡ Some name

-- The units at `at` are this instruction, each register is below their number, and it is one that the method may have: `main` has no `add-int/lit8`,
-- and a function adds numbers alone.
abbrev pub SpellsInsn : List ℕ → Scope → Last → ℕ → ℕ → PlainInsn → Type 0
SpellsInsn file scope last registers at (SgetOut to) =
    (u16_at file at ≡ 98 + 256 * to) × (to < registers) × IsOutField file (u16_at file (at + 2)) × IsOfMain last
SpellsInsn file scope last registers at (Const4 to value) =
    (u16_at file at % 4096 ≡ 18 + 256 * to) × (to < registers) × (value ≡ signed_nibble (u16_at file at / 4096))
SpellsInsn file scope last registers at (AddInt2Addr to other) =
    (u16_at file at ≡ 176 + 256 * to + 4096 * other) × (to < registers) × (other < registers) × (to < 16)
SpellsInsn file scope last registers at (AddIntLit8 to from literal) =
    (u16_at file at ≡ 216 + 256 * to) × (to < registers) × (u16_at file (at + 2) % 256 ≡ from) × (from < registers)
    × (literal ≡ signed_byte (u16_at file (at + 2) / 256)) × IsOfFunction last
SpellsInsn file scope last registers at (InvokePrintln stream number) =
    (u16_at file at % 256 ≡ 110) × (u16_at file at / 4096 ≡ 2) × (u16_at file (at + 4) % 256 ≡ stream + 16 * number)
    × (stream < 16) × (stream < registers) × (number < registers) × IsPrintln file (u16_at file (at + 2)) × IsOfMain last
SpellsInsn file scope last registers at (CallFunction function argument to) =
    (u16_at file at % 256 ≡ 113) × (u16_at file at / 4096 ≡ 1) × (u16_at file (at + 4) % 16 ≡ argument) × (argument < registers)
    × (u16_at file (at + 6) ≡ 10 + 256 * to) × (to < registers) × NamesFunction file scope (u16_at file (at + 2)) function × IsOfMain last

-- `return-void`, whose high byte is not looked at, or `return` of a register
abbrev pub SpellsLast : Last → ℕ → ℕ → Type 0
SpellsLast ReturnVoid registers unit = unit % 256 ≡ 14
SpellsLast (Return from) registers unit = (unit ≡ 15 + 256 * from) × (from < registers)

-- that many units at `at` are these instructions, one after the other, and then the last one
abbrev pub SpellsInsns : List ℕ → Scope → Last → ℕ → ℕ → ℕ → List PlainInsn → Type 0
SpellsInsns file scope last registers at count [] = (count ≡ 1) × SpellsLast last registers (u16_at file at)
SpellsInsns file scope last registers at count (insn ∷ rest) =
    (left : ℕ) × (count ≡ units_of insn + left) × SpellsInsn file scope last registers at insn
    × SpellsInsns file scope last registers (at + 2 * units_of insn) left rest

-- ---- what registers hold

-- what the registers hold at the start: a function's argument stands in the last one
abbrev pub held_at_first : Last → ℕ → List Held
held_at_first ReturnVoid registers = replicate registers Nothing
held_at_first (Return from) registers = replicate (registers - 1) Nothing ++ Number ∷ []

-- what a function returns is a number
abbrev pub LastUses : List Held → Last → Type 0
LastUses held ReturnVoid = Unit {0}
LastUses held (Return from) = slice_get held from ≡ Some Number

-- each number that is added, printed, handed over or returned stands in a register that was last set to a number, and each receiver in one that was last
-- set to `System.out`
abbrev pub UsesWhatIsSet : Last → List Held → List PlainInsn → Type 0
UsesWhatIsSet last held [] = LastUses held last
UsesWhatIsSet last held (SgetOut to ∷ rest) = UsesWhatIsSet last (slice_set held to Stream) rest
UsesWhatIsSet last held (Const4 to value ∷ rest) = UsesWhatIsSet last (slice_set held to Number) rest
UsesWhatIsSet last held (AddInt2Addr to other ∷ rest) =
    (slice_get held to ≡ Some Number) × (slice_get held other ≡ Some Number) × UsesWhatIsSet last (slice_set held to Number) rest
UsesWhatIsSet last held (AddIntLit8 to from literal ∷ rest) = (slice_get held from ≡ Some Number) × UsesWhatIsSet last (slice_set held to Number) rest
UsesWhatIsSet last held (InvokePrintln stream number ∷ rest) =
    (slice_get held stream ≡ Some Stream) × (slice_get held number ≡ Some Number) × UsesWhatIsSet last held rest
UsesWhatIsSet last held (CallFunction function argument to ∷ rest) =
    (slice_get held argument ≡ Some Number) × UsesWhatIsSet last (slice_set held to Number) rest

-- at `at` stands the code item of this method
pub record IsPlainCode (file : List ℕ) (scope : Scope) (at : ℕ) (code : PlainCode) : Type 0 where
  pub some : at ≢ 0
  pub head : Within file at 16
  pub registers_stated : u16_at file at ≡ code.registers
  pub some_registers : 1 ≤ code.registers
  pub few_registers : code.registers ≤ 16
  pub one_argument : u16_at file (at + 2) ≡ 1
  pub no_tries : u16_at file (at + 6) ≡ 0
  pub few_units : u32_at file (at + 12) ≤ 1000
  pub units_stand : Within file (at + 16) (2 * u32_at file (at + 12))
  pub units : SpellsInsns file scope code.last code.registers (at + 16) (u32_at file (at + 12)) code.insns
  pub uses : UsesWhatIsSet code.last (held_at_first code.last code.registers) code.insns
