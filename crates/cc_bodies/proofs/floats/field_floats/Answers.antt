use Rattle.std.proofs.Common.{sym}
use Rattle.cc_bodies.proofs.FloatLemmas.{field_by_class, field_by_kind}
use Rattle.cc_bodies.proofs.floats.field_floats.Goals as goal

pub returns-then-type_floats : goal.returns-then-type_floats
returns-then-type_floats c = field_by_class c.args.ids.now c.args.row c.in-Some.field.now c.type_floats.result (sym c.in-Some.ensures.value) (c.type_floats.ensures c.args.ids.now c.requires) c.if-type_floats.true

pub returns-else-type_floats : goal.returns-else-type_floats
returns-else-type_floats c = field_by_kind c.args.ids.now c.args.row c.in-Some.field.now c.type_floats.result c.type_floats-else-type_floats.result (sym c.in-Some.ensures.value) (c.type_floats.ensures c.args.ids.now c.requires) c.if-type_floats.false (c.type_floats-else-type_floats.ensures c.args.ids.now c.requires)
