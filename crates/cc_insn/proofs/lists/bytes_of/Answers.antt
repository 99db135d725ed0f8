use Rattle.std.proofs.Common.{◌+◌, ◌/◌, ◌%◌, get_or, ◌∷◌, [], ◌++◌, take, drop, ap, ◌∙◌, refl, arith}
use Rattle.cc_meaning_insn.specs.Payloads.{bytes_of}
use Rattle.cc_insn.proofs.Going.{bytes-step, bytes-all}
use Rattle.cc_insn.proofs.lists.bytes_of.Goals as goal

pub loop-unit-preserved : goal.loop-unit-preserved
loop-unit-preserved c =
    let unit = get_or c.args.units.now c.loop-unit.unit-index 0 in
    ap (λ items. items ++ bytes_of (drop (c.loop-unit.unit-index + 1) c.args.units.now))
    (c.in_ok-push-2.ensures.items ∙ ap (λ items. items ++ (unit / 256) ∷ []) c.in_ok-push.ensures.items)
    ∙ bytes-step c.loop-unit.bytes.items (bytes_of c.args.units.now) c.args.units.now c.loop-unit.unit-index (unit % 256) (unit / 256) (omega arith) refl refl c.loop-unit.invariant

pub returns : goal.returns
returns c =
    c.from_vec.ensures ∙ c.truncate.ensures.items
    ∙ ap (take c.args.count) (bytes-all c.loop-unit.bytes.items (bytes_of c.args.units.now) c.args.units.now c.loop-unit.unit-index (omega arith) c.loop-unit.invariant)
