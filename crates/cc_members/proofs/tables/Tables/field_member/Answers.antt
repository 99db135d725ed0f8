use Rattle.std.proofs.Common.{refl}
use Rattle.cc_meaning_program.specs.Plans.{field_source_member}
use Rattle.cc_members.specs.Named.{member_text}
use Rattle.cc_members.proofs.Outlined.{field_named, field_none}
use Rattle.cc_members.proofs.tables.Tables.field_member.Goals as goal

pub returns-in-Some : goal.returns-in-Some
unfolding field_source_member member_text
returns-in-Some c = rw c.in-File.is (field_named c.args.self.now.names.ids.now _ c.in-Some.row c.in-Some.ensures)

pub returns-in-None : goal.returns-in-None
unfolding field_source_member member_text
returns-in-None c = rw c.in-File.is (field_none c.args.self.now.names.ids.now _ c.in-None.ensures)

pub returns-in-Out : goal.returns-in-Out
unfolding field_source_member member_text
returns-in-Out c = rw c.in-Out.is c.out_table.ensures

pub returns-in-Outside : goal.returns-in-Outside
unfolding field_source_member member_text
returns-in-Outside c = rw c.in-Outside.is refl
