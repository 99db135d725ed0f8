use Rattle.std.proofs.Common.{sym, ap, ◌∙◌}
use Rattle.cc_meaning_dex.specs.Descriptors.{is_descriptor}
use Rattle.cc_dexids.proofs.Knowing.{descriptor_there, descriptor_past}
use Rattle.cc_dexids.proofs.readers.TypeReader.is_descriptor.Goals as goal

pub returns-in-Some : goal.returns-in-Some
returns-in-Some c =
    let self = c.args.self.now in
    c.is_descriptor.ensures ∙ ap is_descriptor c.as_slice.ensures ∙ sym (descriptor_there self.file.now self.texts.now c.args.text c.in-Some.units.now c.requires (sym c.in-Some.ensures.value))

pub returns-in-None : goal.returns-in-None
returns-in-None c =
    let self = c.args.self.now in
    sym (descriptor_past self.file.now self.texts.now c.args.text c.requires (sym c.in-None.ensures.value))
