use Rattle.std.proofs.Common.{false, sym, ◌∙◌}
use Rattle.cc_dexcode.proofs.Parts.{code_more, code_here, code_all}
use Rattle.cc_dexcode.proofs.classes.check_code.Goals as goal

pub returns-then-not-has_sound_code : goal.returns-then-not-has_sound_code
returns-then-not-has_sound_code c =
    sym c.loop-method.invariant ∙ code_here c.args.file.now c.args.ids.now c.args.methods.now c.loop-method.method-index (record { row = 0; flags = 0; is_direct = false; code_at = 0 }) c.loop-method-test.true c.if-not-has_sound_code.ensures

pub loop-method-preserved : goal.loop-method-preserved
loop-method-preserved c =
    code_more c.args.file.now c.args.ids.now c.args.methods.now c.loop-method.method-index (record { row = 0; flags = 0; is_direct = false; code_at = 0 }) c.loop-method-test.true c.if-not-has_sound_code.ensures ∙ c.loop-method.invariant

pub returns : goal.returns
returns c = sym c.loop-method.invariant ∙ code_all c.args.file.now c.args.ids.now c.args.methods.now c.loop-method.method-index c.loop-method-test.false
