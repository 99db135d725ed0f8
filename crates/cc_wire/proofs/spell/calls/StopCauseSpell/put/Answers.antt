use Rattle.std.proofs.Common.{[], ◌∷◌}
use Rattle.cc_meaning_images.specs.Spelling.{u4}
use Rattle.cc_wire.proofs.Pieces.{and_then}
use Rattle.cc_wire.proofs.spell.calls.StopCauseSpell.put.Goals as goal

pub returns-in_ok-put-in-ScriptOther-2 : goal.returns-in_ok-put-in-ScriptOther-2
returns-in_ok-put-in-ScriptOther-2 c =
    rw c.in-ScriptOther.is
    (and_then _ c.args.bytes.now.items (5 ∷ []) _ _ c.in_ok-push-in-ScriptOther.ensures.items
    (and_then _ c.push-in-ScriptOther.new.self.items (u4 c.in-ScriptOther.class) _ _ c.in_ok-put-in-ScriptOther.ensures
    (and_then _ c.put-in-ScriptOther.new.bytes.items (u4 c.in-ScriptOther.wanted) _ _ c.in_ok-put-in-ScriptOther-2.ensures c.put-in-ScriptOther-3.ensures)))
