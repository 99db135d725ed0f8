-- The reader of instructions: the function that a call names, and the loop over the units.
use Rattle.std.proofs.Common.{◌≡◌, ◌≢◌, ℕ, ◌+◌, ◌*◌, ◌%◌, ◌<◌, ◌≤◌, List, [], ◌∷◌, ◌++◌, length, Option, Some, None, slice_get, MatchOption, refl, ap, subst, sym, ◌∙◌, arith, append_assoc, append-nil}
use Rattle.cc_meaning.specs.Order.{IsRising}
use Rattle.cc_meaning_dex.specs.Numbers.{u16_at, Within}
use Rattle.cc_meaning_plain.specs.declared.plain.PlainInsn.{PlainInsn}
use Rattle.cc_meaning_plain.specs.declared.plain.PlainInsn.TheVariants.{SgetOut, Const4, AddInt2Addr, AddIntLit8, InvokePrintln, CallFunction}
use Rattle.cc_meaning_plain.specs.declared.plain.Last.{Last}
use Rattle.cc_meaning_plain.specs.declared.plain.Last.TheVariants.{ReturnVoid, Return}
use Rattle.cc_meaning_plain.specs.Names.{IsFunction}
use Rattle.cc_meaning_plain.specs.Code.{units_of, Scope, NamesFunction, SpellsInsn, SpellsLast, SpellsInsns}
use Rattle.cc_meaning_plain.specs.Laws.{NameOnce, InsnOnce}
use Rattle.cc_plain.specs.declared.kind.Kind.{Kind}
use Rattle.cc_plain.specs.declared.kind.Kind.TheVariants.{Main, Function}
use Rattle.cc_plain.specs.Code.{IsOfKind, some_last, IsInsnOf, IsInsnWithin}

-- ---- a call

pub named_there : NameOnce → (file : List ℕ) (scope : Scope) (row : ℕ) (name : List ℕ) (found : Option ℕ) → IsFunction file scope.class row name →
    MatchOption found ((place : ℕ) → slice_get scope.functions place ≢ Some name) (λ place. slice_get scope.functions place ≡ Some name) →
    MatchOption found ((place : ℕ) → NamesFunction file scope row place → ⊥) (λ place. NamesFunction file scope row place)
named_there names file scope row name None is none = λ place h.
    none place (subst (λ n. slice_get scope.functions place ≡ Some n) (names file scope.class row h.name name h.named is) h.stands)
named_there names file scope row name (Some place) is there = record { name = name; named = is; stands = there }

-- ---- the kinds of methods

-- which instructions a method may have depends on its kind alone
pub to_kind : (file : List ℕ) (scope : Scope) (kind : Kind) (last : Last) (registers at : ℕ) (insn : PlainInsn) → IsOfKind kind last →
    SpellsInsn file scope last registers at insn → SpellsInsn file scope (some_last kind) registers at insn
to_kind file scope Main ReturnVoid registers at insn of h = h
to_kind file scope Main (Return from) registers at insn of h = absurd of
to_kind file scope Function ReturnVoid registers at insn of h = absurd of
to_kind file scope Function (Return from) registers at (SgetOut to) of h = h
to_kind file scope Function (Return from) registers at (Const4 to value) of h = h
to_kind file scope Function (Return from) registers at (AddInt2Addr to other) of h = h
to_kind file scope Function (Return from) registers at (AddIntLit8 to source literal) of h = h
to_kind file scope Function (Return from) registers at (InvokePrintln stream number) of h = h
to_kind file scope Function (Return from) registers at (CallFunction function argument to) of h = h

pub from_kind : (file : List ℕ) (scope : Scope) (kind : Kind) (last : Last) (registers at : ℕ) (insn : PlainInsn) → IsOfKind kind last →
    SpellsInsn file scope (some_last kind) registers at insn → SpellsInsn file scope last registers at insn
from_kind file scope Main ReturnVoid registers at insn of h = h
from_kind file scope Main (Return from) registers at insn of h = absurd of
from_kind file scope Function ReturnVoid registers at insn of h = absurd of
from_kind file scope Function (Return from) registers at (SgetOut to) of h = h
from_kind file scope Function (Return from) registers at (Const4 to value) of h = h
from_kind file scope Function (Return from) registers at (AddInt2Addr to other) of h = h
from_kind file scope Function (Return from) registers at (AddIntLit8 to source literal) of h = h
from_kind file scope Function (Return from) registers at (InvokePrintln stream number) of h = h
from_kind file scope Function (Return from) registers at (CallFunction function argument to) of h = h

-- ---- the loop

units_some : (insn : PlainInsn) → 1 ≤ units_of insn
units_some (SgetOut to) = omega arith
units_some (Const4 to value) = omega arith
units_some (AddInt2Addr to other) = omega arith
units_some (AddIntLit8 to from literal) = omega arith
units_some (InvokePrintln stream number) = omega arith
units_some (CallFunction function argument to) = omega arith

-- there is at least the unit of the last instruction
insns_some : (file : List ℕ) (scope : Scope) (last : Last) (registers at count : ℕ) (insns : List PlainInsn) → SpellsInsns file scope last registers at count insns → 1 ≤ count
insns_some file scope last registers at count [] h = omega (arith, h.0)
insns_some file scope last registers at count (insn ∷ rest) h = omega (arith, h.1, units_some insn)

-- what is read so far, and what is left, are together what is spelled
pub record ReadsTo (file : List ℕ) (scope : Scope) (kind : Kind) (registers start count at left : ℕ) (insns : List PlainInsn) : Type 0 where
  pub within : Within file at (2 * left)
  pub sound : (last : Last) (rest : List PlainInsn) → IsOfKind kind last → SpellsInsns file scope last registers at left rest → SpellsInsns file scope last registers start count (insns ++ rest)
  pub complete : (last : Last) (all : List PlainInsn) → IsOfKind kind last → SpellsInsns file scope last registers start count all →
      (rest : List PlainInsn) × (all ≡ insns ++ rest) × SpellsInsns file scope last registers at left rest

pub reads_first : (file : List ℕ) (scope : Scope) (kind : Kind) (registers start count : ℕ) → Within file start (2 * count) → ReadsTo file scope kind registers start count start count []
reads_first file scope kind registers start count within =
    record {
      within = within;
      sound = λ last rest of h. h;
      complete = λ last all of h. (all, refl, h);
    }

pub reads_insn : (file : List ℕ) (scope : Scope) (kind : Kind) (registers start count at left units left' : ℕ) (insns insns' : List PlainInsn) (insn : PlainInsn) →
    InsnOnce → IsRising scope.functions → ReadsTo file scope kind registers start count at left insns → 1 < left → SpellsInsn file scope (some_last kind) registers at insn →
    units ≡ units_of insn → left ≡ units + left' → insns' ≡ insns ++ insn ∷ [] → ReadsTo file scope kind registers start count (at + 2 * units) left' insns'
reads_insn file scope kind registers start count at left units left' insns insns' insn once rise reads some h e lefts pushed =
    let counted : left ≡ units_of insn + left' = omega arith in
    let within : at + 2 * left ≤ length file = reads.within in
    let read : ReadsTo file scope kind registers start count (at + 2 * units_of insn) left' (insns ++ insn ∷ []) = record {
      within = omega arith;
      sound = λ last rest of s. subst (SpellsInsns file scope last registers start count) (sym (append_assoc insns (insn ∷ []) rest))
          (reads.sound last (insn ∷ rest) of (left', counted, from_kind file scope kind last registers at insn of h, s));
      complete = λ last all of s. let c = reads.complete last all of s in cut last of all c.0 c.1 c.2;
    } in
    let there : ReadsTo file scope kind registers start count (at + 2 * units) left' (insns ++ insn ∷ []) =
    subst (λ u. ReadsTo file scope kind registers start count (at + 2 * u) left' (insns ++ insn ∷ [])) (sym e) read in
    subst (ReadsTo file scope kind registers start count (at + 2 * units) left') (sym pushed) there
  where
    cut : (last : Last) → IsOfKind kind last → (all rest : List PlainInsn) → all ≡ insns ++ rest → SpellsInsns file scope last registers at left rest →
        (rest' : List PlainInsn) × (all ≡ (insns ++ insn ∷ []) ++ rest') × SpellsInsns file scope last registers (at + 2 * units_of insn) left' rest'
    cut last of all [] f s = absurd (omega (arith, s.0))
    cut last of all (other ∷ rest) f s =
        let same : other ≡ insn = once file scope (some_last kind) registers at other insn rise (to_kind file scope kind last registers at other of s.2) h in
        let spelled : SpellsInsns file scope last registers at left (insn ∷ rest) = subst (λ i. SpellsInsns file scope last registers at left (i ∷ rest)) same s in
        let lefts_are : spelled.0 ≡ left' = omega (arith, spelled.1) in (
          rest,
          f ∙ ap (λ i. insns ++ i ∷ rest) same ∙ sym (append_assoc insns (insn ∷ []) rest),
          subst (λ n. SpellsInsns file scope last registers (at + 2 * units_of insn) n rest) lefts_are spelled.3,
        )

-- where no instruction is, nothing is spelled
pub reads_none : (file : List ℕ) (scope : Scope) (kind : Kind) (registers start count at left : ℕ) (insns : List PlainInsn) →
    ReadsTo file scope kind registers start count at left insns → 1 < left →
    ((insn : PlainInsn) → units_of insn ≤ left → SpellsInsn file scope (some_last kind) registers at insn → ⊥) →
    (all : List PlainInsn) (last : Last) → IsOfKind kind last → SpellsInsns file scope last registers start count all → ⊥
reads_none file scope kind registers start count at left insns reads some none all last of h = let c = reads.complete last all of h in cut c.0 c.2
  where
    cut : (rest : List PlainInsn) → SpellsInsns file scope last registers at left rest → ⊥
    cut [] s = omega (arith, s.0)
    cut (insn ∷ rest) s = none insn (omega (arith, s.1)) (to_kind file scope kind last registers at insn of s.2)

pub reads_end : (file : List ℕ) (scope : Scope) (kind : Kind) (registers start count at left : ℕ) (insns : List PlainInsn) (last : Last) →
    ReadsTo file scope kind registers start count at left insns → left ≡ 1 → IsOfKind kind last → SpellsLast last registers (u16_at file at) →
    SpellsInsns file scope last registers start count insns
reads_end file scope kind registers start count at left insns last reads one of end =
    subst (SpellsInsns file scope last registers start count) (append-nil insns) (reads.sound last [] of (one, end))

-- where no last instruction ends the units, nothing is spelled
pub reads_no_end : (file : List ℕ) (scope : Scope) (kind : Kind) (registers start count at left : ℕ) (insns : List PlainInsn) →
    ReadsTo file scope kind registers start count at left insns → left ≤ 1 → ((last : Last) → IsOfKind kind last → left ≡ 1 → SpellsLast last registers (u16_at file at) → ⊥) →
    (all : List PlainInsn) (last : Last) → IsOfKind kind last → SpellsInsns file scope last registers start count all → ⊥
reads_no_end file scope kind registers start count at left insns reads few none all last of h = let c = reads.complete last all of h in cut c.0 c.2
  where
    cut : (rest : List PlainInsn) → SpellsInsns file scope last registers at left rest → ⊥
    cut [] s = none last of s.0 s.1
    cut (insn ∷ rest) s = omega (arith, s.1, units_some insn, insns_some file scope last registers _ _ rest s.3)

-- ---- where a call names no function

const4_opcode : (unit to : ℕ) → unit % 4096 ≡ 18 + 256 * to → unit % 256 ≡ 113 → ⊥
const4_opcode unit to e f = omega arith

pub no_call : (file : List ℕ) (scope : Scope) (last : Last) (registers at row : ℕ) → u16_at file at % 256 ≡ 113 → row ≡ u16_at file (at + 2) →
    ((place : ℕ) → NamesFunction file scope row place → ⊥) → (insn : PlainInsn) → SpellsInsn file scope last registers at insn → ⊥
no_call file scope last registers at row opcode e none (SgetOut to) h = omega (arith, h.0, opcode)
no_call file scope last registers at row opcode e none (Const4 to value) h = const4_opcode (u16_at file at) to h.0 opcode
no_call file scope last registers at row opcode e none (AddInt2Addr to other) h = omega (arith, h.0, opcode)
no_call file scope last registers at row opcode e none (AddIntLit8 to from literal) h = omega (arith, h.0, opcode)
no_call file scope last registers at row opcode e none (InvokePrintln stream number) h = omega (arith, h.0, opcode)
no_call file scope last registers at row opcode e none (CallFunction function argument to) h = none function (subst (λ r. NamesFunction file scope r function) (sym e) h.6)

-- an instruction that takes no more units than are left
pub insn_within : (file : List ℕ) (scope : Scope) (kind : Kind) (registers at units left : ℕ) (found : Option PlainInsn) → units ≤ left →
    IsInsnOf file scope kind registers at units found → IsInsnWithin file scope kind registers at left found
insn_within file scope kind registers at units left None few none = λ insn within h. none insn h
insn_within file scope kind registers at units left (Some insn) few h = (h.0, omega (arith, h.1))
