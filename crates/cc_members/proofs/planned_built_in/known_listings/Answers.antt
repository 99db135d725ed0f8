use Rattle.std.proofs.Common.{[], ◌∷◌, map, append_assoc}
use Rattle.cc_meaning.specs.BuiltIn.{system_name}
use Rattle.cc_built_in.specs.BuiltInMethods.{BuiltInMethods, built_in_tables, array_methods, built_in_member}
use Rattle.cc_meaning_program.specs.Members.{out_member}
use Rattle.cc_members.specs.ListedNames.{listed_members}
use Rattle.cc_members.proofs.planned_built_in.known_listings.Goals as goal

pub returns : goal.returns
unfolding listed_members system_name
returns c =
    let of_classes = map (λ (table : BuiltInMethods). map built_in_member table.methods) built_in_tables in
    record {
      classes = c.in_ok-classes.ensures.are;
      members = rw (c.in_ok-push-2.ensures.ok, c.in_ok-push.ensures.ok, c.in_ok-members.ensures, c.built_in_classes.ensures.members, c.in_ok-arrays.ensures, (c.array_methods.ensures []).members, c.in_ok-out.ensures)
          (append_assoc of_classes (map built_in_member (array_methods []) ∷ []) ((out_member ∷ []) ∷ []));
      system = c.in_ok-system.ensures;
    }
