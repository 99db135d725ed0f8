-- What instructions name of members, and the uses that these are.
use Rattle.std.proofs.Common.{◌≡◌, inl, inr, ℕ, List, [], ◌∷◌, Some, refl, ap, subst, arith}
use Rattle.std.specs.Prelude.{Contains}
use Rattle.cc_meaning.specs.declared.instruction.Insn.{Insn}
use Rattle.cc_meaning.specs.declared.instruction.Insn.TheVariants as insn
use Rattle.cc_meaning.specs.declared.instruction.MethodRef.{MethodRef}
use Rattle.cc_meaning.specs.declared.instruction.MethodRef.TheVariants as method
use Rattle.cc_meaning.specs.declared.instruction.TypeRef.{TypeRef}
use Rattle.cc_meaning.specs.declared.instruction.TypeRef.TheVariants as type
use Rattle.cc_meaning.specs.declared.program.Placed.{Placed}
use Rattle.cc_meaning_program.specs.declared.reference.Reference.TheVariants as reference
use Rattle.cc_meaning_program.specs.References.{named_type, named_method, reference_of}
use Rattle.cc_meaning_program.specs.Uses.{method_use_of, field_use_of, method_uses_of, field_uses_of}
use Rattle.cc_meaning_program.specs.declared.uses.MethodUse.{MethodUse}
use Rattle.cc_bodies.proofs.Among.{contains_cases, contains_none, contains_flat, found_flat}

only_one : {A : Type 0} (x y : A) → Contains (x ∷ []) y → x ≡ y
only_one x y among = elim (contains_cases x [] y among) [ inl same ↦ same | inr none ↦ absurd (contains_none y none) ]

the_one : {A : Type 0} (x : A) → Contains (x ∷ []) x
the_one x = (0, omega arith, refl)

-- ---- a use is what an instruction names

method_named : (one : Insn) (used : MethodUse) → Contains (method_use_of one) used → reference_of one ≡ Some (reference.Method used.row)
unfolding method_use_of reference_of named_method
method_named (insn.Invoke called (method.Row row) args) used among = ap (λ (it : MethodUse). Some (reference.Method it.row)) (only_one _ used among)
method_named other used among = absurd (contains_none used among)

field_named : (one : Insn) (row : ℕ) → Contains (field_use_of one) row → reference_of one ≡ Some (reference.Field row)
unfolding field_use_of reference_of
field_named (insn.FieldGet kind to object field) row among = ap (λ (it : ℕ). Some (reference.Field it)) (only_one field row among)
field_named (insn.FieldPut kind from object field) row among = ap (λ (it : ℕ). Some (reference.Field it)) (only_one field row among)
field_named (insn.StaticGet kind to field) row among = ap (λ (it : ℕ). Some (reference.Field it)) (only_one field row among)
field_named (insn.StaticPut kind from field) row among = ap (λ (it : ℕ). Some (reference.Field it)) (only_one field row among)
field_named other row among = absurd (contains_none row among)

-- the instruction that a use is of
pub method_of_use : (all : List Placed) (used : MethodUse) → Contains (method_uses_of all) used → (placed : Placed) × Contains all placed × (reference_of placed.insn ≡ Some (reference.Method used.row))
unfolding method_uses_of
method_of_use all used among =
    let found = found_flat (λ (placed : Placed). method_use_of placed.insn) all used among in
    (found.0, found.1, method_named found.0.insn used found.2)

pub field_of_use : (all : List Placed) (row : ℕ) → Contains (field_uses_of all) row → (placed : Placed) × Contains all placed × (reference_of placed.insn ≡ Some (reference.Field row))
unfolding field_uses_of
field_of_use all row among =
    let found = found_flat (λ (placed : Placed). field_use_of placed.insn) all row among in
    (found.0, found.1, field_named found.0.insn row found.2)

-- ---- and what it names is a use

-- the use of a row of methods
abbrev UsesMethod : List MethodUse → ℕ → Type 0
UsesMethod uses row = (used : MethodUse) × Contains uses used × (used.row ≡ row)

no_method : (named : TypeRef) (row : ℕ) → named_type named ≡ Some (reference.Method row) → ⊥
unfolding named_type
no_method (type.Row other) row e = cc
no_method (type.Known known) row e = cc

no_field : (named : TypeRef) (row : ℕ) → named_type named ≡ Some (reference.Field row) → ⊥
unfolding named_type
no_field (type.Row other) row e = cc
no_field (type.Known known) row e = cc

use_of_method : (one : Insn) (row : ℕ) → reference_of one ≡ Some (reference.Method row) → UsesMethod (method_use_of one) row
unfolding method_use_of reference_of named_method
use_of_method (insn.Invoke called (method.Row other) args) row e = let used : MethodUse = record { row = other; how = called } in (used, the_one used, let same : other ≡ row = cc in same)
use_of_method (insn.Invoke called (method.Known class number) args) row e = absurd cc
use_of_method (insn.ConstClass to named) row e = absurd (no_method named row e)
use_of_method (insn.CheckCast object named) row e = absurd (no_method named row e)
use_of_method (insn.InstanceOf to object named) row e = absurd (no_method named row e)
use_of_method (insn.NewInstance to named) row e = absurd (no_method named row e)
use_of_method (insn.NewArray to length named) row e = absurd (no_method named row e)
use_of_method (insn.FilledNewArray named args) row e = absurd (no_method named row e)
use_of_method other row e = absurd cc

no_field_of_method : (named : MethodRef) (row : ℕ) → named_method named ≡ Some (reference.Field row) → ⊥
unfolding named_method
no_field_of_method (method.Row other) row e = cc
no_field_of_method (method.Known class number) row e = cc

use_of_field : (one : Insn) (row : ℕ) → reference_of one ≡ Some (reference.Field row) → Contains (field_use_of one) row
unfolding field_use_of reference_of
use_of_field (insn.FieldGet kind to object field) row e = let same : field ≡ row = cc in subst (Contains (field ∷ [])) same (the_one field)
use_of_field (insn.FieldPut kind from object field) row e = let same : field ≡ row = cc in subst (Contains (field ∷ [])) same (the_one field)
use_of_field (insn.StaticGet kind to field) row e = let same : field ≡ row = cc in subst (Contains (field ∷ [])) same (the_one field)
use_of_field (insn.StaticPut kind from field) row e = let same : field ≡ row = cc in subst (Contains (field ∷ [])) same (the_one field)
use_of_field (insn.Invoke called named args) row e = absurd (no_field_of_method named row e)
use_of_field (insn.ConstClass to named) row e = absurd (no_field named row e)
use_of_field (insn.CheckCast object named) row e = absurd (no_field named row e)
use_of_field (insn.InstanceOf to object named) row e = absurd (no_field named row e)
use_of_field (insn.NewInstance to named) row e = absurd (no_field named row e)
use_of_field (insn.NewArray to length named) row e = absurd (no_field named row e)
use_of_field (insn.FilledNewArray named args) row e = absurd (no_field named row e)
use_of_field other row e = absurd cc

pub uses_method : (all : List Placed) (placed : Placed) (row : ℕ) → Contains all placed → reference_of placed.insn ≡ Some (reference.Method row) → UsesMethod (method_uses_of all) row
unfolding method_uses_of
uses_method all placed row among refers =
    let one = use_of_method placed.insn row refers in
    (one.0, contains_flat (λ (it : Placed). method_use_of it.insn) all placed one.0 among one.1, one.2)

pub uses_field : (all : List Placed) (placed : Placed) (row : ℕ) → Contains all placed → reference_of placed.insn ≡ Some (reference.Field row) → Contains (field_uses_of all) row
unfolding field_uses_of
uses_field all placed row among refers = contains_flat (λ (it : Placed). field_use_of it.insn) all placed row among (use_of_field placed.insn row refers)
