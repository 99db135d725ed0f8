-- The instructions of bodies, one body behind the other.
use Rattle.std.specs.Prelude.{◌≡◌, ◌++◌, List, [], Option, Some, None}
use Rattle.std.specs.List.{flat_map}
use Rattle.cc_meaning.specs.declared.program.Placed.{Placed}
use Rattle.cc_meaning_program.specs.Uses.{method_uses_of, field_uses_of}
use Rattle.cc_bodies.specs.declared.uses.MemberUses.{MemberUses}

abbrev pub insns_of_body : Option (List Placed) → List Placed
insns_of_body None = []
insns_of_body (Some placed) = placed

abbrev pub insns_of_methods : List (Option (List Placed)) → List Placed
insns_of_methods bodies = flat_map insns_of_body bodies

abbrev pub insns_of_classes : List (List (Option (List Placed))) → List Placed
insns_of_classes classes = flat_map insns_of_methods classes

-- what these instructions name stands behind what was there
pub record AddsUses (insns : List Placed) (before after : MemberUses) : Type 0 where
  pub methods : after.methods ≡ before.methods ++ method_uses_of insns
  pub fields : after.fields ≡ before.fields ++ field_uses_of insns
