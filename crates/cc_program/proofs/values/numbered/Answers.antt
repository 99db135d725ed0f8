use Rattle.cc_program.proofs.Holding.{unchanged, text_numbered}
use Rattle.cc_program.proofs.values.numbered.Goals as goal

pub returns-in-Text : goal.returns-in-Text
returns-in-Text c = text_numbered c.args.texts.now c.args.listed c.in-Text.row c.in-Text.is (c.requires c.in-Text.row c.in-Text.is)

pub returns-in_default : goal.returns-in_default
returns-in_default c = unchanged c.args.texts.now c.args.listed c.in_default.not-Text
