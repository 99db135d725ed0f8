use Rattle.std.proofs.Common.{map}
use Rattle.cc_members.specs.Linked.{LinkFields}
use Rattle.cc_members.specs.Named.{named_text}
use Rattle.cc_members.proofs.tables.Tables.linked_fields.Given as goal

abbrev pub invariant-loop-row : goal.invariant-loop-row
invariant-loop-row l = LinkFields l.self.names.ids.now l.self.classes.now (map (named_text l.self.names.ids.now l.self.names.classes.now l.self.names.listings.now.members) l.named) l.row l.links
