use Rattle.std.proofs.Common.{◌≡◌, map, take}
use Rattle.cc_meaning_program.specs.Plans.{field_plan_name}
use Rattle.cc_members.specs.Named.{named_text}
use Rattle.cc_members.proofs.tables.Tables.named_fields.Given as goal

abbrev pub invariant-loop-plan : goal.invariant-loop-plan
invariant-loop-plan l = map (named_text l.self.names.ids.now l.self.names.classes.now l.self.names.listings.now.members) l.named ≡ map (field_plan_name l.self.names.ids.now l.self.classes.now l.self.names.classes.now) (take l.plan-index l.plans)
