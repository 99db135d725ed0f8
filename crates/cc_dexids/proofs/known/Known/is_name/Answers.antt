use Rattle.std.proofs.Common.{sym, ap, ◌∙◌}
use Rattle.cc_meaning_dex.specs.Descriptors.{is_paired}
use Rattle.cc_dexids.proofs.Knowing.{name_there, name_past}
use Rattle.cc_dexids.proofs.known.Known.is_name.Goals as goal

pub returns-in-Some : goal.returns-in-Some
returns-in-Some c =
    let self = c.args.self.now in
    c.is_paired.ensures ∙ ap is_paired c.as_slice.ensures ∙ sym (name_there self.file.now self.texts.now c.args.row c.in-Some.units.now c.requires.texts_read (sym c.in-Some.ensures.value))

pub returns-in-None : goal.returns-in-None
returns-in-None c =
    let self = c.args.self.now in
    sym (name_past self.file.now self.texts.now c.args.row c.requires.texts_read (sym c.in-None.ensures.value))
