use Rattle.std.proofs.Common.{◌<◌, length, slice_set, ap, ◌∙◌, arith}
use Rattle.std.proofs.Math.ListN.{length-set}
use Rattle.std.proofs.lemmas.List.Edits.{map_over_more}
use Rattle.cc_meaning_typing.specs.States.{constructed}
use Rattle.cc_transfer.proofs.effects.construct.Goals as goal

pub loop-at-preserved : goal.loop-at-preserved
loop-at-preserved c =
    let registers = c.loop-at.registers in
    let at = c.loop-at.at in
    let before = c.args.registers.now in
    let below : at < length before = omega arith in record {
      written = c.set.ensures ∙ ap (slice_set registers at) c.constructed.ensures ∙ map_over_more (constructed c.args.made c.args.ty) before registers at c.at-known.result.now below c.loop-at.invariant.written c.at-known.ensures.value;
      long = ap length c.set.ensures ∙ length-set registers at c.constructed.result ∙ c.loop-at.invariant.long;
    }
