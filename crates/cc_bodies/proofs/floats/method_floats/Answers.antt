use Rattle.std.proofs.Common.{List, Bool, false, sym, ap, ◌∙◌}
use Rattle.std.specs.Prelude.{slice_get, unwrap_or}
use Rattle.cc_bodies.specs.Floats.{ProtoFloats}
use Rattle.cc_bodies.proofs.FloatLemmas.{flag_says, method_by_class, method_by_proto}
use Rattle.cc_bodies.proofs.floats.method_floats.Goals as goal

pub returns-then-type_floats : goal.returns-then-type_floats
returns-then-type_floats c = method_by_class c.args.ids.now c.args.row c.in-Some.method.now c.type_floats.result (sym c.in-Some.ensures.value) (c.type_floats.ensures c.args.ids.now c.requires) c.if-type_floats.true

pub returns-else-type_floats : goal.returns-else-type_floats
returns-else-type_floats c = method_by_proto c.args.ids.now c.args.row c.in-Some.method.now c.type_floats.result c.is_set.result (sym c.in-Some.ensures.value) (c.type_floats.ensures c.args.ids.now c.requires) c.if-type_floats.false
    (flag_says (ProtoFloats c.args.ids.now) c.args.rows.now.protos c.in-Some.method.now.proto c.is_set.result c.requires.protos
    (c.is_set.ensures ∙ ap (λ (flags : List Bool). unwrap_or (slice_get flags c.in-Some.method.now.proto) false) c.as_slice.ensures))
