-- What is found where code may stand.
use Rattle.std.specs.Prelude.{◌≡◌, ℕ, ◌+◌, ◌≤◌, List, map, Option, MatchOption}
use Rattle.cc_meaning_dex.specs.Numbers.{u16_at, u32_at}
use Rattle.cc_meaning_plain.specs.declared.plain.PlainInsn.{PlainInsn}
use Rattle.cc_meaning_plain.specs.declared.plain.Last.{Last}
use Rattle.cc_meaning_plain.specs.declared.plain.Last.TheVariants.{ReturnVoid, Return}
use Rattle.cc_meaning_plain.specs.Code.{Scope, units_of, IsOfMain, IsOfFunction, SpellsInsn}
use Rattle.cc_meaning_plain.specs.Plain.{name_of}
use Rattle.cc_plain.specs.declared.kind.Kind.{Kind}
use Rattle.cc_plain.specs.declared.kind.Kind.TheVariants.{Main, Function}
use Rattle.cc_plain.specs.declared.kind.Known.{Known}

-- what is known of the class, as the scope of its code
abbrev pub scope_in : Known → Scope
scope_in known = record { class = known.class; functions = map name_of known.functions }

-- the last instruction of a method of that kind
abbrev pub IsOfKind : Kind → Last → Type 0
IsOfKind Main last = IsOfMain last
IsOfKind Function last = IsOfFunction last

-- A last instruction of that kind; which one doesn't matter to the instructions before it.
abbrev pub some_last : Kind → Last
some_last Main = ReturnVoid
some_last Function = Return 0

-- the instruction at `at`, of that many units; or none is spelled there
abbrev pub IsInsnOf : List ℕ → Scope → Kind → ℕ → ℕ → ℕ → Option PlainInsn → Type 0
IsInsnOf file scope kind registers at units found =
    MatchOption found ((insn : PlainInsn) → SpellsInsn file scope (some_last kind) registers at insn → ⊥)
    (λ insn. SpellsInsn file scope (some_last kind) registers at insn × (units_of insn ≡ units))

-- the instruction at `at`, of at most that many units; or none is spelled there
abbrev pub IsInsnWithin : List ℕ → Scope → Kind → ℕ → ℕ → ℕ → Option PlainInsn → Type 0
IsInsnWithin file scope kind registers at left found =
    MatchOption found ((insn : PlainInsn) → units_of insn ≤ left → SpellsInsn file scope (some_last kind) registers at insn → ⊥)
    (λ insn. SpellsInsn file scope (some_last kind) registers at insn × (units_of insn ≤ left))

-- the numbers at the head of a code item
pub record IsPlainHead (file : List ℕ) (at : ℕ) : Type 0 where
  pub some_registers : 1 ≤ u16_at file at
  pub few_registers : u16_at file at ≤ 16
  pub one_argument : u16_at file (at + 2) ≡ 1
  pub no_tries : u16_at file (at + 6) ≡ 0
  pub few_units : u32_at file (at + 12) ≤ 1000
