-- Where instructions name members, in the file's order.
use Rattle.std.specs.Prelude.{◌≡◌, ℕ, List, [], ◌∷◌}
use Rattle.std.specs.List.{flat_map}
use Rattle.cc_meaning.specs.declared.file.RawClass.{RawClass}
use Rattle.cc_meaning.specs.declared.instruction.Insn.{Insn}
use Rattle.cc_meaning.specs.declared.instruction.Insn.TheVariants as insn
use Rattle.cc_meaning.specs.declared.instruction.MethodRef.TheVariants as method
use Rattle.cc_meaning.specs.declared.program.Placed.{Placed}
use Rattle.cc_meaning_program.specs.Naming.{ClassesAre}
use Rattle.cc_meaning_program.specs.declared.uses.MethodUse.{MethodUse}

-- the row of methods that an instruction names, and how it calls it
unfoldable pub method_use_of : Insn → List MethodUse
method_use_of (insn.Invoke called (method.Row row) args) = record { row = row; how = called } ∷ []
method_use_of other = []

-- the row of fields that an instruction names
unfoldable pub field_use_of : Insn → List ℕ
field_use_of (insn.FieldGet kind to object field) = field ∷ []
field_use_of (insn.FieldPut kind from object field) = field ∷ []
field_use_of (insn.StaticGet kind to field) = field ∷ []
field_use_of (insn.StaticPut kind from field) = field ∷ []
field_use_of other = []

unfoldable pub method_uses_of : List Placed → List MethodUse
method_uses_of all = flat_map (λ (placed : Placed). method_use_of placed.insn) all

unfoldable pub field_uses_of : List Placed → List ℕ
field_uses_of all = flat_map (λ (placed : Placed). field_use_of placed.insn) all

-- the instructions of a file, and all that they name of members
pub record AreUses (classes : List RawClass) (methods : List MethodUse) (fields : List ℕ) : Type 0 where
  pub instructions : List Placed
  pub are : ClassesAre classes instructions
  pub of_methods : methods ≡ method_uses_of instructions
  pub of_fields : fields ≡ field_uses_of instructions
