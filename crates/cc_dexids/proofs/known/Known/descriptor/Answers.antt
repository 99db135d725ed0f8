use Rattle.std.proofs.Common.{sym, ◌∙◌}
use Rattle.cc_dexids.proofs.Knowing.{described}
use Rattle.cc_dexids.proofs.known.Known.descriptor.Goals as goal

pub returns : goal.returns
returns c =
    let self = c.args.self.now in
    let found = described self.file.now self.texts.now self.types.now c.args.row c.in_ok-text.field-0.now c.at.result.now c.requires (sym c.in_ok-text.ensures.value) c.at.ensures.get in
    (found.0, c.as_slice.ensures ∙ found.1)
