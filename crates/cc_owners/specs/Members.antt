-- The name of a member within its class, in pieces that are borrowed from the tables.
use Rattle.std.specs.Prelude.{ℕ, List, ◌++◌}
use Rattle.std.specs.List.{flat_map}
use Rattle.cc_meaning.specs.declared.file.Ids.{Ids}
use Rattle.cc_meaning_program.specs.Named.{type_name, field_member, method_member}
use Rattle.cc_owners.specs.declared.members.MemberName.{MemberName}
use Rattle.cc_owners.specs.declared.members.MemberTable.{MemberTable}
use Rattle.cc_owners.specs.declared.members.MemberTable.TheVariants.{Fields, Methods}

-- the pieces one behind the other
unfoldable pub spelled : Ids → MemberName → List ℕ
spelled ids member = member.name.now ++ member.opening.now ++ flat_map (type_name ids) member.params.now ++ member.closing.now ++ member.last.now

-- the name within its class that a row of this table gives
unfoldable pub member_of : Ids → MemberTable → ℕ → List ℕ
member_of ids Fields row = field_member ids row
member_of ids Methods row = method_member ids row
