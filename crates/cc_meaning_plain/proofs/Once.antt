-- At a place stands one instruction at most, and so one code item.
use Rattle.std.proofs.Common.{◌≡◌, ◌↔◌, ℕ, ◌+◌, ◌*◌, ◌%◌, ◌<◌, ◌≤◌, List, [], ◌∷◌, ◌++◌, Some, slice_get, codes, refl, ap, subst, sym, ◌∙◌, arith}
use Rattle.std.specs.Cmp.Lexicographic.{slice_cmp}
use Rattle.std.specs.Ordering.{nat_cmp}
use Rattle.std.specs.declared.cmp.Ordering.TheVariants.{Less, Equal}
use Rattle.std.proofs.lemmas.Cmp.{nat_list_cmp_total, tied_itself}
use Rattle.std.proofs.lemmas.Option.{get_or_from_slice_get, slice_get_within}
use Rattle.cc_meaning.specs.Order.{IsRising}
use Rattle.cc_meaning_dex.specs.Numbers.{u16_at, u32_at}
use Rattle.cc_meaning_dex.specs.TextLaws.{OneText}
use Rattle.cc_meaning_plain.specs.declared.table.Table.TheVariants.{Texts, Methods}
use Rattle.cc_meaning_plain.specs.declared.plain.PlainInsn.{PlainInsn}
use Rattle.cc_meaning_plain.specs.declared.plain.PlainInsn.TheVariants.{SgetOut, Const4, AddInt2Addr, AddIntLit8, InvokePrintln, CallFunction}
use Rattle.cc_meaning_plain.specs.declared.plain.Last.{Last}
use Rattle.cc_meaning_plain.specs.declared.plain.Last.TheVariants.{ReturnVoid, Return}
use Rattle.cc_meaning_plain.specs.declared.plain.PlainCode.{PlainCode}
use Rattle.cc_meaning_plain.specs.Tables.{row_at}
use Rattle.cc_meaning_plain.specs.Code.{units_of, Scope, IsOfMain, NamesFunction, SpellsInsn, SpellsLast, SpellsInsns}
use Rattle.cc_meaning_plain.specs.Laws.{NameOnce, InsnOnce, InsnsOnce, CodeOnce}

-- ---- the function that a row names

pub name_once : OneText → NameOnce
name_once one file class row first second a b =
    let bare = one file (u32_at file (row_at file Texts (u32_at file (row_at file Methods row + 4)))) a.bare b.bare a.method.called.text b.method.called.text in
    a.whole ∙ ap (λ units. units ++ codes "(I)I") bare ∙ sym b.whole

-- a name doesn't stand again behind its place
not_behind : (names : List (List ℕ)) (i j : ℕ) (name : List ℕ) → IsRising names → slice_get names i ≡ Some name → slice_get names j ≡ Some name → i < j → ⊥
not_behind names i j name rise at_i at_j below =
    let rises = rise i j [] below (slice_get_within names j name at_j) in
    let first = get_or_from_slice_get names i name [] at_i in
    let second = get_or_from_slice_get names j name [] at_j in
    let less : slice_cmp nat_cmp name name ≡ Less = rw (first, second) at rises in
    let same : slice_cmp nat_cmp name name ≡ Equal = tied_itself nat_list_cmp_total name in
    absurd cc

one_place : (names : List (List ℕ)) (i j : ℕ) (name : List ℕ) → IsRising names → slice_get names i ≡ Some name → slice_get names j ≡ Some name → i ≡ j
one_place names i j name rise at_i at_j =
    let not_less = not_behind names i j name rise at_i at_j in
    let not_more = not_behind names j i name rise at_j at_i in
    omega (arith, not_less, not_more)

one_function : OneText → (file : List ℕ) (scope : Scope) (row i j : ℕ) → IsRising scope.functions → NamesFunction file scope row i → NamesFunction file scope row j → i ≡ j
one_function one file scope row i j rise a b =
    let same = name_once one file scope.class row a.name b.name a.named b.named in
    one_place scope.functions i j b.name rise (subst (λ name. slice_get scope.functions i ≡ Some name) same a.stands) b.stands

-- ---- an instruction

-- the low byte of an instruction's first unit
abbrev opcode_of : PlainInsn → ℕ
opcode_of (SgetOut to) = 98
opcode_of (Const4 to value) = 18
opcode_of (AddInt2Addr to other) = 176
opcode_of (AddIntLit8 to from literal) = 216
opcode_of (InvokePrintln stream number) = 110
opcode_of (CallFunction function argument to) = 113

const4_opcode : (unit to : ℕ) → unit % 4096 ≡ 18 + 256 * to → unit % 256 ≡ 18
const4_opcode unit to e = omega arith

wide_opcode : (unit low to : ℕ) → low < 256 → unit ≡ low + 256 * to → unit % 256 ≡ low
wide_opcode unit low to small e = omega arith

add_opcode : (unit to other : ℕ) → unit ≡ 176 + 256 * to + 4096 * other → unit % 256 ≡ 176
add_opcode unit to other e = omega arith

opcode : (file : List ℕ) (scope : Scope) (last : Last) (registers at : ℕ) (insn : PlainInsn) → SpellsInsn file scope last registers at insn → u16_at file at % 256 ≡ opcode_of insn
opcode file scope last registers at (SgetOut to) h = wide_opcode (u16_at file at) 98 to (omega arith) h.0
opcode file scope last registers at (Const4 to value) h = const4_opcode (u16_at file at) to h.0
opcode file scope last registers at (AddInt2Addr to other) h = add_opcode (u16_at file at) to other h.0
opcode file scope last registers at (AddIntLit8 to from literal) h = wide_opcode (u16_at file at) 216 to (omega arith) h.0
opcode file scope last registers at (InvokePrintln stream number) h = h.0
opcode file scope last registers at (CallFunction function argument to) h = h.0

-- two registers of four bits each in one number
same_pair : (a b c d : ℕ) → a < 16 → c < 16 → a + 16 * b ≡ c + 16 * d → (a ≡ c) × (b ≡ d)
same_pair a b c d ha hc e = (omega arith, omega arith)

same_kind : (file : List ℕ) (scope : Scope) (last : Last) (registers at : ℕ) (x y : PlainInsn) → OneText → IsRising scope.functions →
    SpellsInsn file scope last registers at x → SpellsInsn file scope last registers at y → opcode_of x ≡ opcode_of y → x ≡ y
same_kind file scope last registers at (SgetOut to) (SgetOut to') once rise h h' e =
    let s : to ≡ to' = omega (arith, h.0, h'.0) in cc
same_kind file scope last registers at (SgetOut to) (Const4 to' value') once rise h h' e = absurd (omega (arith, e))
same_kind file scope last registers at (SgetOut to) (AddInt2Addr to' other') once rise h h' e = absurd (omega (arith, e))
same_kind file scope last registers at (SgetOut to) (AddIntLit8 to' from' literal') once rise h h' e = absurd (omega (arith, e))
same_kind file scope last registers at (SgetOut to) (InvokePrintln stream' number') once rise h h' e = absurd (omega (arith, e))
same_kind file scope last registers at (SgetOut to) (CallFunction function' argument' to') once rise h h' e = absurd (omega (arith, e))
same_kind file scope last registers at (Const4 to value) (SgetOut to') once rise h h' e = absurd (omega (arith, e))
same_kind file scope last registers at (Const4 to value) (Const4 to' value') once rise h h' e =
    let s : to ≡ to' = omega (arith, h.0, h'.0) in
    let v : value ≡ value' = cc (h.2, h'.2) in
    cc
same_kind file scope last registers at (Const4 to value) (AddInt2Addr to' other') once rise h h' e = absurd (omega (arith, e))
same_kind file scope last registers at (Const4 to value) (AddIntLit8 to' from' literal') once rise h h' e = absurd (omega (arith, e))
same_kind file scope last registers at (Const4 to value) (InvokePrintln stream' number') once rise h h' e = absurd (omega (arith, e))
same_kind file scope last registers at (Const4 to value) (CallFunction function' argument' to') once rise h h' e = absurd (omega (arith, e))
same_kind file scope last registers at (AddInt2Addr to other) (SgetOut to') once rise h h' e = absurd (omega (arith, e))
same_kind file scope last registers at (AddInt2Addr to other) (Const4 to' value') once rise h h' e = absurd (omega (arith, e))
same_kind file scope last registers at (AddInt2Addr to other) (AddInt2Addr to' other') once rise h h' e =
    let s = same_pair to other to' other' h.3 h'.3 (omega (arith, h.0, h'.0)) in
    let s0 = s.0 in
    let s1 = s.1 in
    cc
same_kind file scope last registers at (AddInt2Addr to other) (AddIntLit8 to' from' literal') once rise h h' e = absurd (omega (arith, e))
same_kind file scope last registers at (AddInt2Addr to other) (InvokePrintln stream' number') once rise h h' e = absurd (omega (arith, e))
same_kind file scope last registers at (AddInt2Addr to other) (CallFunction function' argument' to') once rise h h' e = absurd (omega (arith, e))
same_kind file scope last registers at (AddIntLit8 to from literal) (SgetOut to') once rise h h' e = absurd (omega (arith, e))
same_kind file scope last registers at (AddIntLit8 to from literal) (Const4 to' value') once rise h h' e = absurd (omega (arith, e))
same_kind file scope last registers at (AddIntLit8 to from literal) (AddInt2Addr to' other') once rise h h' e = absurd (omega (arith, e))
same_kind file scope last registers at (AddIntLit8 to from literal) (AddIntLit8 to' from' literal') once rise h h' e =
    let s : to ≡ to' = omega (arith, h.0, h'.0) in
    let f : from ≡ from' = omega (arith, h.2, h'.2) in
    let v : literal ≡ literal' = cc (h.4, h'.4) in
    cc
same_kind file scope last registers at (AddIntLit8 to from literal) (InvokePrintln stream' number') once rise h h' e = absurd (omega (arith, e))
same_kind file scope last registers at (AddIntLit8 to from literal) (CallFunction function' argument' to') once rise h h' e = absurd (omega (arith, e))
same_kind file scope last registers at (InvokePrintln stream number) (SgetOut to') once rise h h' e = absurd (omega (arith, e))
same_kind file scope last registers at (InvokePrintln stream number) (Const4 to' value') once rise h h' e = absurd (omega (arith, e))
same_kind file scope last registers at (InvokePrintln stream number) (AddInt2Addr to' other') once rise h h' e = absurd (omega (arith, e))
same_kind file scope last registers at (InvokePrintln stream number) (AddIntLit8 to' from' literal') once rise h h' e = absurd (omega (arith, e))
same_kind file scope last registers at (InvokePrintln stream number) (InvokePrintln stream' number') once rise h h' e =
    let s = same_pair stream number stream' number' h.3 h'.3 (omega (arith, h.2, h'.2)) in
    let s0 = s.0 in
    let s1 = s.1 in
    cc
same_kind file scope last registers at (InvokePrintln stream number) (CallFunction function' argument' to') once rise h h' e = absurd (omega (arith, e))
same_kind file scope last registers at (CallFunction function argument to) (SgetOut to') once rise h h' e = absurd (omega (arith, e))
same_kind file scope last registers at (CallFunction function argument to) (Const4 to' value') once rise h h' e = absurd (omega (arith, e))
same_kind file scope last registers at (CallFunction function argument to) (AddInt2Addr to' other') once rise h h' e = absurd (omega (arith, e))
same_kind file scope last registers at (CallFunction function argument to) (AddIntLit8 to' from' literal') once rise h h' e = absurd (omega (arith, e))
same_kind file scope last registers at (CallFunction function argument to) (InvokePrintln stream' number') once rise h h' e = absurd (omega (arith, e))
same_kind file scope last registers at (CallFunction function argument to) (CallFunction function' argument' to') once rise h h' e =
    let a : argument ≡ argument' = omega (arith, h.2, h'.2) in
    let t : to ≡ to' = omega (arith, h.4, h'.4) in
    let f : function ≡ function' = one_function once file scope (u16_at file (at + 2)) function function' rise h.6 h'.6 in
    cc

pub insn_once : OneText → InsnOnce
insn_once one file scope last registers at x y rise hx hy =
    let ex = opcode file scope last registers at x hx in
    let ey = opcode file scope last registers at y hy in
    same_kind file scope last registers at x y one rise hx hy (sym ex ∙ ey)

-- ---- instructions

units_some : (insn : PlainInsn) → 1 ≤ units_of insn
units_some (SgetOut to) = omega arith
units_some (Const4 to value) = omega arith
units_some (AddInt2Addr to other) = omega arith
units_some (AddIntLit8 to from literal) = omega arith
units_some (InvokePrintln stream number) = omega arith
units_some (CallFunction function argument to) = omega arith

-- there is at least the unit of the last instruction
insns_some : (file : List ℕ) (scope : Scope) (last : Last) (registers at count : ℕ) (insns : List PlainInsn) → SpellsInsns file scope last registers at count insns → 1 ≤ count
insns_some file scope last registers at count [] h = omega (arith, h.0)
insns_some file scope last registers at count (insn ∷ rest) h = omega (arith, h.1, units_some insn)

-- the units behind an instruction, where another name of it stands
insns_behind : (file : List ℕ) (scope : Scope) (last : Last) (registers at count left : ℕ) (x y : PlainInsn) (rest : List PlainInsn) →
    x ≡ y → count ≡ units_of x + left → (h : SpellsInsns file scope last registers at count (y ∷ rest)) → SpellsInsns file scope last registers (at + 2 * units_of x) left rest
insns_behind file scope last registers at count left x y rest e f h =
    let units : units_of x ≡ units_of y = ap units_of e in
    let lefts : h.0 ≡ left = omega (arith, h.1) in
    let here : SpellsInsns file scope last registers (at + 2 * units_of x) h.0 rest = subst (λ u. SpellsInsns file scope last registers (at + 2 * u) h.0 rest) (sym units) h.3 in
    subst (λ n. SpellsInsns file scope last registers (at + 2 * units_of x) n rest) lefts here

-- an instruction that one last instruction allows is allowed by another of its kind
same_allowed : (file : List ℕ) (scope : Scope) (first second : Last) (registers at : ℕ) (insn : PlainInsn) → (IsOfMain first ↔ IsOfMain second) →
    SpellsInsn file scope second registers at insn → SpellsInsn file scope first registers at insn
same_allowed file scope ReturnVoid ReturnVoid registers at insn kind h = h
same_allowed file scope ReturnVoid (Return from) registers at insn kind h = absurd (kind.0 tt)
same_allowed file scope (Return from) ReturnVoid registers at insn kind h = absurd (kind.1 tt)
same_allowed file scope (Return from) (Return from') registers at (SgetOut to) kind h = h
same_allowed file scope (Return from) (Return from') registers at (Const4 to value) kind h = h
same_allowed file scope (Return from) (Return from') registers at (AddInt2Addr to other) kind h = h
same_allowed file scope (Return from) (Return from') registers at (AddIntLit8 to source literal) kind h = h
same_allowed file scope (Return from) (Return from') registers at (InvokePrintln stream number) kind h = h
same_allowed file scope (Return from) (Return from') registers at (CallFunction function argument to) kind h = h

last_once : (first second : Last) (registers unit : ℕ) → (IsOfMain first ↔ IsOfMain second) → SpellsLast first registers unit → SpellsLast second registers unit → first ≡ second
last_once ReturnVoid ReturnVoid registers unit kind a b = refl
last_once ReturnVoid (Return from) registers unit kind a b = absurd (kind.0 tt)
last_once (Return from) ReturnVoid registers unit kind a b = absurd (kind.1 tt)
last_once (Return from) (Return from') registers unit kind a b = let e : from ≡ from' = omega (arith, a.0, b.0) in cc

pub insns_once : InsnOnce → InsnsOnce
insns_once once file scope first second registers at count [] [] rise kind h h' = (last_once first second registers (u16_at file at) kind h.1 h'.1, refl)
insns_once once file scope first second registers at count [] (y ∷ ys) rise kind h h' = absurd (omega (arith, h.0, h'.1, units_some y, insns_some file scope second registers _ _ ys h'.3))
insns_once once file scope first second registers at count (x ∷ xs) [] rise kind h h' = absurd (omega (arith, h'.0, h.1, units_some x, insns_some file scope first registers _ _ xs h.3))
insns_once once file scope first second registers at count (x ∷ xs) (y ∷ ys) rise kind h h' =
    let e : x ≡ y = once file scope first registers at x y rise h.2 (same_allowed file scope first second registers at y kind h'.2) in
    let rest = insns_once once file scope first second registers (at + 2 * units_of x) h.0 xs ys rise kind h.3 (insns_behind file scope second registers at count h.0 x y ys e h.1 h') in
    let insns = rest.1 in
    (rest.0, cc)

-- ---- a code item

code_from : ℕ → List PlainInsn → Last → PlainCode
code_from registers insns last = record { registers = registers; insns = insns; last = last }

same_code : (first second : PlainCode) → first.registers ≡ second.registers → first.insns ≡ second.insns → first.last ≡ second.last → first ≡ second
unfolding code_from
same_code first second registers insns last =
    ap (λ r. code_from r first.insns first.last) registers
    ∙ ap (λ i. code_from second.registers i first.last) insns
    ∙ ap (λ l. code_from second.registers second.insns l) last

pub code_once : InsnsOnce → CodeOnce
code_once once file scope at first second rise kind a b =
    let registers : first.registers ≡ second.registers = sym a.registers_stated ∙ b.registers_stated in
    let units = subst (λ r. SpellsInsns file scope second.last r (at + 16) (u32_at file (at + 12)) second.insns) (sym registers) b.units in
    let same = once file scope first.last second.last first.registers (at + 16) (u32_at file (at + 12)) first.insns second.insns rise kind a.units units in
    same_code first second registers same.1 same.0
