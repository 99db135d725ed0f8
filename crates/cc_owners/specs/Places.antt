-- The places of members among those that the file defines in a class.
use Rattle.std.specs.Prelude.{ℕ, List, map, Option, Some, None, position}
use Rattle.std.specs.Str.{bytes_eq}
use Rattle.cc_meaning.specs.declared.file.Ids.{Ids}
use Rattle.cc_meaning.specs.declared.file.RawClass.{RawClass}
use Rattle.cc_meaning.specs.declared.file.RawField.{RawField}
use Rattle.cc_meaning.specs.declared.file.RawMethod.{RawMethod}
use Rattle.cc_meaning_program.specs.OwnMembers.{members_of}
use Rattle.cc_owners.specs.declared.members.MemberTable.{MemberTable}
use Rattle.cc_owners.specs.declared.members.MemberTable.TheVariants.{Fields, Methods}
use Rattle.cc_owners.specs.Members.{member_of}

-- the rows of a class's members
unfoldable pub rows_of : MemberTable → RawClass → List ℕ
rows_of Fields class = map (λ (field : RawField). field.row) class.fields
rows_of Methods class = map (λ (method : RawMethod). method.row) class.methods

-- the place of the first member of this name
unfoldable pub place_among : Ids → MemberTable → List ℕ → Option RawClass → Option ℕ
place_among ids table member None = None
place_among ids table member (Some class) = position (λ row. bytes_eq (member_of ids table row) member) (rows_of table class)

-- that of the member of this name in a class of the file
unfoldable pub place_of : Ids → List RawClass → MemberTable → List ℕ → List ℕ → Option ℕ
place_of ids classes table class member = place_among ids table member (members_of ids classes class)
