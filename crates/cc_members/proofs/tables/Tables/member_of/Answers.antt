use Rattle.std.proofs.Common.{refl}
use Rattle.cc_meaning_program.specs.Plans.{source_member}
use Rattle.cc_members.specs.Named.{member_text}
use Rattle.cc_members.proofs.Outlined.{row_named, row_none, listed_named, listed_none}
use Rattle.cc_members.proofs.tables.Tables.member_of.Goals as goal

pub returns-in-Some : goal.returns-in-Some
unfolding source_member member_text
returns-in-Some c = rw c.in-File.is (row_named c.args.self.now.names.ids.now _ c.in-Some.row c.in-Some.ensures)

pub returns-in-None : goal.returns-in-None
unfolding source_member member_text
returns-in-None c = rw c.in-File.is (row_none c.args.self.now.names.ids.now _ c.in-None.ensures)

pub returns-in-Some-table : goal.returns-in-Some-table
unfolding source_member member_text
returns-in-Some-table c = rw c.in-BuiltIn.is (listed_named c.args.self.now.names.listings.now.members c.in-Some-table.table c.in-BuiltIn.place _ c.in-Some-table.ensures)

pub returns-in-None-table : goal.returns-in-None-table
unfolding source_member member_text
returns-in-None-table c = rw c.in-BuiltIn.is (listed_none c.args.self.now.names.listings.now.members c.in-BuiltIn.place _ c.in-None-table.ensures)

pub returns-in-Outside : goal.returns-in-Outside
unfolding source_member member_text
returns-in-Outside c = rw c.in-Outside.is refl
