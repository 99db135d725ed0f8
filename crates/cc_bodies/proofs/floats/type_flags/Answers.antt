use Rattle.std.proofs.Common.{ℕ, length, ap, arith}
use Rattle.cc_meaning_program.specs.Named.{type_name}
use Rattle.cc_meaning_program.specs.References.{IsFloating}
use Rattle.cc_bodies.proofs.FloatLemmas.{no_type_floats, more_flags, all_flags, type_flag}
use Rattle.cc_bodies.proofs.floats.type_flags.Goals as goal

pub loop-text-preserved : goal.loop-text-preserved
loop-text-preserved c =
    let ids = c.args.ids.now in
    let row = c.loop-text.text-index in
    let one = type_flag ids c.as_slice-text-items.result.now row c.text_of.result.now c.is_floating.result c.as_slice-text-items.ensures c.loop-text-test.true c.text_of.ensures c.is_floating.ensures in
    rw c.in_ok-push.ensures.ok (more_flags (λ (type : ℕ). IsFloating (type_name ids type)) c.loop-text.flags row c.is_floating.result one c.loop-text.invariant)

pub returns : goal.returns
returns c =
    let ids = c.args.ids.now in
    all_flags (λ (type : ℕ). IsFloating (type_name ids type)) c.loop-text.flags c.loop-text.text-index
    (λ row past. no_type_floats ids row (omega (arith, ap length c.as_slice-text-items.ensures, c.loop-text-test.false, past))) c.loop-text.invariant
