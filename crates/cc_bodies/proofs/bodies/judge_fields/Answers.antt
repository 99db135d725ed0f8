use Rattle.std.proofs.Common.{false, ap}
use Rattle.cc_meaning.specs.declared.fault.ProgramFault.TheVariants as faults
use Rattle.std.proofs.lemmas.Option.{slice_get-get_or}
use Rattle.cc_meaning_program.specs.BodyFaults.{FieldFault}
use Rattle.cc_bodies.proofs.Loops.{none_more, first_here, none_has}
use Rattle.cc_bodies.proofs.bodies.judge_fields.Goals as goal

pub returns-then-field_floats : goal.returns-then-field_floats
returns-then-field_floats c = λ real. first_here (FieldFault c.args.ids.now) c.args.fields.now c.loop-field.field-index _ _ (slice_get-get_or c.args.fields.now c.loop-field.field-index (record { row = 0; flags = 0; is_static = false }) c.loop-field-test.true) c.loop-field.invariant
    (record { floats = c.field_floats.ensures.0 c.if-field_floats.true; named = ap faults.FloatMember c.in_ok-name.ensures })

pub loop-field-preserved : goal.loop-field-preserved
loop-field-preserved c = none_more (FieldFault c.args.ids.now) c.args.fields.now c.loop-field.field-index _ (slice_get-get_or c.args.fields.now c.loop-field.field-index (record { row = 0; flags = 0; is_static = false }) c.loop-field-test.true) (λ fault f. let says = c.field_floats.ensures.1 f.floats in let not = c.if-field_floats.false in absurd cc) c.loop-field.invariant

pub returns : goal.returns
returns c = none_has (FieldFault c.args.ids.now) c.args.fields.now c.loop-field.field-index c.loop-field-test.false c.loop-field.invariant
