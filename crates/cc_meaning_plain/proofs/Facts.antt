-- What the bytes of a plain file say of its methods: constants have 32 bits, functions only add, and main calls functions of the file.
use Rattle.std.proofs.Common.{◌≡◌, ℕ, zero, suc, ◌+◌, ◌*◌, ◌/◌, ◌<◌, ◌≤◌, ℤ, pos, ◌-ℤ◌, true, false, cond, List, [], ◌∷◌, ◌++◌, length, Some, sym, subst, arith, nat_lt, slice_get, All, map, replicate, refl}
use Rattle.std.proofs.lemmas.Int.{ints}
use Rattle.std.proofs.lemmas.Option.{slice_get_within, get_or_from_slice_get}
use Rattle.std.proofs.lemmas.List.Elements.{All-get_or}
use Rattle.std.proofs.lemmas.List.Sorted.{All-permutation}
use Rattle.cc_meaning_dex.specs.Numbers.{u16_at}
use Rattle.cc_meaning_plain.specs.declared.plain.PlainInsn.{PlainInsn}
use Rattle.cc_meaning_plain.specs.declared.plain.PlainInsn.TheVariants.{SgetOut, Const4, AddInt2Addr, AddIntLit8, InvokePrintln, CallFunction}
use Rattle.cc_meaning_plain.specs.declared.plain.Last.{Last}
use Rattle.cc_meaning_plain.specs.declared.plain.Last.TheVariants.{ReturnVoid, Return}
use Rattle.cc_meaning_plain.specs.declared.plain.Member.{Member}
use Rattle.cc_meaning_plain.specs.declared.plain.PlainFunction.{PlainFunction}
use Rattle.cc_meaning_plain.specs.declared.plain.Plain.{Plain}
use Rattle.cc_meaning_plain.specs.declared.plain.Held.TheVariants.{Nothing}
use Rattle.cc_meaning_plain.specs.Code.{Scope, signed_nibble, signed_byte, units_of, IsOfMain, IsOfFunction, SpellsInsn, SpellsInsns, held_at_first, UsesWhatIsSet, IsPlainCode}
use Rattle.cc_meaning_plain.specs.Plain.{AreFunctions, name_of, scope_of, IsPlain}
use Rattle.cc_meaning_plain.specs.Text.{instructions_of}
use Rattle.cc_meaning_plain.specs.Laws.{AreBytes}
use Rattle.cc_meaning_plain.proofs.Running.{some_units, Fits32}

-- ---- constants

nibble_fits : (n : ℕ) → n < 16 → Fits32 (signed_nibble n)
nibble_fits n h = elim (nat_lt n 8) as (λ b. Fits32 (cond b (pos n) (pos n -ℤ pos 16))) [ true ↦ omega (arith, ints) | false ↦ omega (arith, ints) ]

byte_fits : (n : ℕ) → n < 256 → Fits32 (signed_byte n)
byte_fits n h = elim (nat_lt n 128) as (λ b. Fits32 (cond b (pos n) (pos n -ℤ pos 256))) [ true ↦ omega (arith, ints) | false ↦ omega (arith, ints) ]

module _ (file : List ℕ) (bytes : AreBytes file) where
  highest_nibble : (at : ℕ) → u16_at file at / 4096 < 16
  unfolding u16_at
  highest_nibble at = omega (arith, bytes at, bytes (at + 1))

  highest_byte : (at : ℕ) → u16_at file at / 256 < 256
  unfolding u16_at
  highest_byte at = omega (arith, bytes at, bytes (at + 1))

  nibble_at : (at : ℕ) (v : ℤ) → v ≡ signed_nibble (u16_at file at / 4096) → Fits32 v
  nibble_at at v e = subst (λ (z : ℤ). Fits32 z) (sym e) (nibble_fits (u16_at file at / 4096) (highest_nibble at))

  byte_at : (at : ℕ) (v : ℤ) → v ≡ signed_byte (u16_at file at / 256) → Fits32 v
  byte_at at v e = subst (λ (z : ℤ). Fits32 z) (sym e) (byte_fits (u16_at file at / 256) (highest_byte at))

-- ---- the instructions of a function

-- an instruction that adds, whose constant has 32 bits
abbrev pub Adds : PlainInsn → Type 0
Adds (SgetOut to) = ⊥
Adds (Const4 to v) = Fits32 v
Adds (AddInt2Addr to other) = Unit {0}
Adds (AddIntLit8 to from literal) = Fits32 literal
Adds (InvokePrintln receiver from) = ⊥
Adds (CallFunction function argument to) = ⊥

abbrev pub AllAdd : List PlainInsn → Type 0
AllAdd [] = Unit {0}
AllAdd (i ∷ rest) = Adds i × AllAdd rest

not_both : (last : Last) → IsOfMain last → IsOfFunction last → ⊥
not_both ReturnVoid m f = f
not_both (Return from) m f = m

module _ (file : List ℕ) (bytes : AreBytes file) (scope : Scope) (last : Last) (registers : ℕ) where
  pub few_insns : (insns : List PlainInsn) (at count : ℕ) → SpellsInsns file scope last registers at count insns → length insns < count
  few_insns [] at count h = omega (arith, h.0)
  few_insns (i ∷ rest) at count h = let more = few_insns rest (at + 2 * units_of i) h.0 h.3 in omega (arith, some_units i, h.1, more)

  insn_adds : (of : IsOfFunction last) (insn : PlainInsn) (at : ℕ) → SpellsInsn file scope last registers at insn → Adds insn
  insn_adds of (SgetOut to) at h = not_both last h.3 of
  insn_adds of (Const4 to v) at h = nibble_at file bytes at v h.2
  insn_adds of (AddInt2Addr to other) at h = tt
  insn_adds of (AddIntLit8 to from literal) at h = byte_at file bytes (at + 2) literal h.4
  insn_adds of (InvokePrintln receiver from) at h = not_both last h.7 of
  insn_adds of (CallFunction function argument to) at h = not_both last h.7 of

  all_add : (of : IsOfFunction last) (insns : List PlainInsn) (at count : ℕ) → SpellsInsns file scope last registers at count insns → AllAdd insns
  all_add of [] at count h = tt
  all_add of (i ∷ rest) at count h = (insn_adds of i at h.2, all_add of rest (at + 2 * units_of i) h.0 h.3)

-- ---- the functions of a file

-- what is known of a function's code
pub record IsFine (f : PlainFunction) : Type 0 where
  pub returns : IsOfFunction f.code.last
  pub some_registers : 1 ≤ f.code.registers
  pub few_registers : f.code.registers ≤ 16
  pub adds : AllAdd f.code.insns
  pub uses : UsesWhatIsSet f.code.last (held_at_first f.code.last f.code.registers) f.code.insns
  pub few : instructions_of f.code ≤ 1000

code_is_fine : (file : List ℕ) → AreBytes file → (scope : Scope) (at : ℕ) (f : PlainFunction) → IsOfFunction f.code.last → IsPlainCode file scope at f.code → IsFine f
unfolding instructions_of
code_is_fine file bytes scope at f of code =
    let few = few_insns file bytes scope f.code.last f.code.registers f.code.insns _ _ code.units in
    let most = code.few_units in
    record {
      returns = of;
      some_registers = code.some_registers;
      few_registers = code.few_registers;
      adds = all_add file bytes scope f.code.last f.code.registers of f.code.insns _ _ code.units;
      uses = code.uses;
      few = omega arith;
    }

all_with : (f : PlainFunction) (fs : List PlainFunction) → IsFine f → All IsFine fs → All IsFine (f ∷ fs)
all_with f fs h rest = each
  where
    each : All IsFine (f ∷ fs)
    each zero d lt = h
    each (suc k) d lt = rest k d (omega arith)

all_fine : (file : List ℕ) → AreBytes file → (scope : Scope) (ms : List Member) (fs : List PlainFunction) → AreFunctions file scope ms fs → All IsFine fs
all_fine file bytes scope [] [] h = λ k d lt. absurd (omega arith)
all_fine file bytes scope [] (f ∷ fs) h = absurd h
all_fine file bytes scope (m ∷ ms) [] h = absurd h
all_fine file bytes scope (m ∷ ms) (f ∷ fs) h = all_with f fs (code_is_fine file bytes scope m.code_at f h.0.returns h.0.code) (all_fine file bytes scope ms fs h.1)

pub function_is_fine : (file : List ℕ) (plain : Plain) → AreBytes file → IsPlain file plain → (i : ℕ) (f : PlainFunction) → slice_get plain.functions i ≡ Some f → IsFine f
function_is_fine file plain bytes is i f e =
    let methods = is.methods in
    let all = All-permutation IsFine methods.functions plain.functions methods.same (all_fine file bytes (scope_of plain) (methods.before ++ methods.after) methods.functions methods.are_functions) in
    subst (λ (g : PlainFunction). IsFine g) (get_or_from_slice_get plain.functions i f f e) (All-get_or IsFine plain.functions i f (slice_get_within plain.functions i f e) all)

-- ---- main

-- each constant has 32 bits, and each function that is called is one of the file
abbrev pub MainDoes : List PlainFunction → List PlainInsn → Type 0
MainDoes functions [] = Unit {0}
MainDoes functions (SgetOut to ∷ rest) = MainDoes functions rest
MainDoes functions (Const4 to v ∷ rest) = Fits32 v × MainDoes functions rest
MainDoes functions (AddInt2Addr to other ∷ rest) = MainDoes functions rest
MainDoes functions (AddIntLit8 to from literal ∷ rest) = ⊥
MainDoes functions (InvokePrintln receiver from ∷ rest) = MainDoes functions rest
MainDoes functions (CallFunction function argument to ∷ rest) = ((f : PlainFunction) × (slice_get functions function ≡ Some f)) × MainDoes functions rest

named : (functions : List PlainFunction) (i : ℕ) (name : List ℕ) → slice_get (map name_of functions) i ≡ Some name → (f : PlainFunction) × (slice_get functions i ≡ Some f)
named [] i name e = cc
named (f ∷ fs) zero name e = (f, refl)
named (f ∷ fs) (suc i) name e = named fs i name e

main_does : (file : List ℕ) (plain : Plain) → AreBytes file → (last : Last) (registers : ℕ) → IsOfMain last → (insns : List PlainInsn) (at count : ℕ) → SpellsInsns file (scope_of plain) last registers at count insns → MainDoes plain.functions insns
main_does file plain bytes last registers of [] at count h = tt
main_does file plain bytes last registers of (SgetOut to ∷ rest) at count h = main_does file plain bytes last registers of rest (at + 2 * 2) h.0 h.3
main_does file plain bytes last registers of (Const4 to v ∷ rest) at count h = (nibble_at file bytes at v h.2.2, main_does file plain bytes last registers of rest (at + 2 * 1) h.0 h.3)
main_does file plain bytes last registers of (AddInt2Addr to other ∷ rest) at count h = main_does file plain bytes last registers of rest (at + 2 * 1) h.0 h.3
main_does file plain bytes last registers of (AddIntLit8 to from literal ∷ rest) at count h = not_both last of h.2.5
main_does file plain bytes last registers of (InvokePrintln receiver from ∷ rest) at count h = main_does file plain bytes last registers of rest (at + 2 * 3) h.0 h.3
main_does file plain bytes last registers of (CallFunction function argument to ∷ rest) at count h =
    let names = h.2.6 in
    (named plain.functions function names.name names.stands, main_does file plain bytes last registers of rest (at + 2 * 4) h.0 h.3)

is_return_void : (last : Last) → IsOfMain last → last ≡ ReturnVoid
is_return_void ReturnVoid of = refl
is_return_void (Return from) of = absurd of

-- what is known of main's code
pub record MainIsFine (plain : Plain) : Type 0 where
  pub last : plain.main.last ≡ ReturnVoid
  pub some_registers : 1 ≤ plain.main.registers
  pub few_registers : plain.main.registers ≤ 16
  pub does : MainDoes plain.functions plain.main.insns
  pub uses : UsesWhatIsSet ReturnVoid (replicate plain.main.registers Nothing) plain.main.insns

pub main_is_fine : (file : List ℕ) (plain : Plain) → AreBytes file → IsPlain file plain → MainIsFine plain
main_is_fine file plain bytes is =
    let main = is.methods.is_main in
    let code = main.code in
    let last = is_return_void plain.main.last main.returns in
    record {
      last = last;
      some_registers = code.some_registers;
      few_registers = code.few_registers;
      does = main_does file plain bytes plain.main.last plain.main.registers main.returns plain.main.insns _ _ code.units;
      uses = subst (λ (l : Last). UsesWhatIsSet l (held_at_first l plain.main.registers) plain.main.insns) last code.uses;
    }
