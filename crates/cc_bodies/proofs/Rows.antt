-- Instructions and methods that name no row.
use Rattle.std.proofs.Common.{◌≡◌, ℕ, List, None, refl}
use Rattle.cc_meaning.specs.declared.instruction.How.{How}
use Rattle.cc_meaning.specs.declared.instruction.Insn.{Insn}
use Rattle.cc_meaning.specs.declared.instruction.Insn.TheVariants as insn
use Rattle.cc_meaning.specs.declared.instruction.Kind.{Kind}
use Rattle.cc_meaning.specs.declared.instruction.MethodRef.{MethodRef}
use Rattle.cc_meaning.specs.declared.instruction.MethodRef.TheVariants as method
use Rattle.cc_meaning.specs.declared.instruction.TypeRef.{TypeRef}
use Rattle.cc_meaning_program.specs.References.{reference_of}
use Rattle.cc_meaning_program.specs.declared.links.Links.{Links}
use Rattle.cc_bodies.specs.Linked.{MethodLinked, InsnLinked}

pub method_stays : (links : Links) (named : MethodRef) → ((row : ℕ) → named ≡ method.Row row → ⊥) → MethodLinked links named named
method_stays links (method.Row row) not = absurd (not row refl)
method_stays links (method.Known class number) not = MethodLinked.stays

no_reference : (one : Insn) → ((to text : ℕ) → one ≡ insn.ConstText to text → ⊥) → ((to : ℕ) (named : TypeRef) → one ≡ insn.ConstClass to named → ⊥) → ((object : ℕ) (named : TypeRef) → one ≡ insn.CheckCast object named → ⊥) →
    ((to object : ℕ) (named : TypeRef) → one ≡ insn.InstanceOf to object named → ⊥) → ((to : ℕ) (named : TypeRef) → one ≡ insn.NewInstance to named → ⊥) → ((to length : ℕ) (named : TypeRef) → one ≡ insn.NewArray to length named → ⊥) →
    ((named : TypeRef) (args : List ℕ) → one ≡ insn.FilledNewArray named args → ⊥) → ((kind : Kind) (to object field : ℕ) → one ≡ insn.FieldGet kind to object field → ⊥) →
    ((kind : Kind) (from object field : ℕ) → one ≡ insn.FieldPut kind from object field → ⊥) → ((kind : Kind) (to field : ℕ) → one ≡ insn.StaticGet kind to field → ⊥) →
    ((kind : Kind) (from field : ℕ) → one ≡ insn.StaticPut kind from field → ⊥) → ((how : How) (named : MethodRef) (args : List ℕ) → one ≡ insn.Invoke how named args → ⊥) → reference_of one ≡ None
unfolding reference_of
no_reference (insn.ConstText to text) a b c d e f g h i j k l = absurd (a to text refl)
no_reference (insn.ConstClass to named) a b c d e f g h i j k l = absurd (b to named refl)
no_reference (insn.CheckCast object named) a b c d e f g h i j k l = absurd (c object named refl)
no_reference (insn.InstanceOf to object named) a b c d e f g h i j k l = absurd (d to object named refl)
no_reference (insn.NewInstance to named) a b c d e f g h i j k l = absurd (e to named refl)
no_reference (insn.NewArray to length named) a b c d e f g h i j k l = absurd (f to length named refl)
no_reference (insn.FilledNewArray named args) a b c d e f g h i j k l = absurd (g named args refl)
no_reference (insn.FieldGet kind to object field) a b c d e f g h i j k l = absurd (h kind to object field refl)
no_reference (insn.FieldPut kind from object field) a b c d e f g h i j k l = absurd (i kind from object field refl)
no_reference (insn.StaticGet kind to field) a b c d e f g h i j k l = absurd (j kind to field refl)
no_reference (insn.StaticPut kind from field) a b c d e f g h i j k l = absurd (k kind from field refl)
no_reference (insn.Invoke how named args) a b c d e f g h i j k l = absurd (l how named args refl)
no_reference other a b c d e f g h i j k l = refl

pub insn_stays : (links : Links) (one : Insn) → ((to text : ℕ) → one ≡ insn.ConstText to text → ⊥) → ((to : ℕ) (named : TypeRef) → one ≡ insn.ConstClass to named → ⊥) → ((object : ℕ) (named : TypeRef) → one ≡ insn.CheckCast object named → ⊥) →
    ((to object : ℕ) (named : TypeRef) → one ≡ insn.InstanceOf to object named → ⊥) → ((to : ℕ) (named : TypeRef) → one ≡ insn.NewInstance to named → ⊥) → ((to length : ℕ) (named : TypeRef) → one ≡ insn.NewArray to length named → ⊥) →
    ((named : TypeRef) (args : List ℕ) → one ≡ insn.FilledNewArray named args → ⊥) → ((kind : Kind) (to object field : ℕ) → one ≡ insn.FieldGet kind to object field → ⊥) →
    ((kind : Kind) (from object field : ℕ) → one ≡ insn.FieldPut kind from object field → ⊥) → ((kind : Kind) (to field : ℕ) → one ≡ insn.StaticGet kind to field → ⊥) →
    ((kind : Kind) (from field : ℕ) → one ≡ insn.StaticPut kind from field → ⊥) → ((how : How) (named : MethodRef) (args : List ℕ) → one ≡ insn.Invoke how named args → ⊥) → InsnLinked links one one
insn_stays links one a b c d e f g h i j k l = InsnLinked.same (no_reference one a b c d e f g h i j k l)
