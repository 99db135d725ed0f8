use Rattle.cc_text.proofs.Items.{text_refused}
use Rattle.cc_text.proofs.texts.text.Goals as goal

pub returns-clause-refused : goal.returns-clause-refused
returns-clause-refused c = text_refused c.args.bytes.now c.args.at c.text_agrees.ensures c.read_text.result c.read_text.ensures.err
