-- The reader of a code item: where the instructions use what isn't set, no plain code stands.
use Rattle.std.proofs.Common.{◌≡◌, ◌↔◌, ◌+◌, ℕ, List, subst, sym, ◌∙◌}
use Rattle.cc_meaning.specs.Order.{IsRising}
use Rattle.cc_meaning_dex.specs.Numbers.{u16_at, u32_at}
use Rattle.cc_meaning_plain.specs.declared.plain.PlainInsn.{PlainInsn}
use Rattle.cc_meaning_plain.specs.declared.plain.Last.{Last}
use Rattle.cc_meaning_plain.specs.declared.plain.Last.TheVariants.{ReturnVoid, Return}
use Rattle.cc_meaning_plain.specs.declared.plain.PlainCode.{PlainCode}
use Rattle.cc_meaning_plain.specs.Code.{Scope, IsOfMain, held_at_first, SpellsInsns, UsesWhatIsSet, IsPlainCode}
use Rattle.cc_meaning_plain.specs.Laws.{InsnsOnce}
use Rattle.cc_plain.specs.declared.kind.Kind.{Kind}
use Rattle.cc_plain.specs.declared.kind.Kind.TheVariants.{Main, Function}
use Rattle.cc_plain.specs.Code.{IsOfKind}

one_kind : (kind : Kind) (first second : Last) → IsOfKind kind first → IsOfKind kind second → IsOfMain first ↔ IsOfMain second
one_kind Main first second a b = (λ h. b, λ h. a)
one_kind Function ReturnVoid second a b = absurd a
one_kind Function (Return from) ReturnVoid a b = absurd b
one_kind Function (Return from) (Return from') a b = (λ h. h, λ h. h)

-- the instructions that were read are those of any plain code there
pub code_uses : InsnsOnce → (file : List ℕ) (scope : Scope) (kind : Kind) (at registers start units : ℕ) (insns : List PlainInsn) (last : Last) → IsRising scope.functions → IsOfKind kind last →
    registers ≡ u16_at file at → start ≡ at + 16 → units ≡ u32_at file (at + 12) → SpellsInsns file scope last registers start units insns →
    (code : PlainCode) → IsOfKind kind code.last → IsPlainCode file scope at code → UsesWhatIsSet last (held_at_first last registers) insns
code_uses once file scope kind at registers start units insns last rise of r s u spelled code of' is =
    let same_registers : code.registers ≡ registers = sym is.registers_stated ∙ sym r in
    let at_start : SpellsInsns file scope last registers (at + 16) units insns = subst (λ k. SpellsInsns file scope last registers k units insns) s spelled in
    let read : SpellsInsns file scope last registers (at + 16) (u32_at file (at + 12)) insns = subst (λ n. SpellsInsns file scope last registers (at + 16) n insns) u at_start in
    let stated : SpellsInsns file scope code.last registers (at + 16) (u32_at file (at + 12)) code.insns =
    subst (λ k. SpellsInsns file scope code.last k (at + 16) (u32_at file (at + 12)) code.insns) same_registers is.units in
    let same = once file scope code.last last registers (at + 16) (u32_at file (at + 12)) code.insns insns rise (one_kind kind code.last last of' of) stated read in
    let uses : UsesWhatIsSet code.last (held_at_first code.last registers) code.insns = subst (λ k. UsesWhatIsSet code.last (held_at_first code.last k) code.insns) same_registers is.uses in
    let of_last : UsesWhatIsSet last (held_at_first last registers) code.insns = subst (λ l. UsesWhatIsSet l (held_at_first l registers) code.insns) same.0 uses in
    subst (UsesWhatIsSet last (held_at_first last registers)) same.1 of_last
