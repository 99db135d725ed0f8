use Rattle.cc_text.proofs.Reading.{mutf8_counted, mutf8_spelled, mutf8_refused}
use Rattle.cc_text.proofs.texts.mutf8.Goals as goal

pub returns-clause-counted : goal.returns-clause-counted
returns-clause-counted c =
    mutf8_counted c.args.bytes.now c.args.at c.args.count c.mutf8_answers.ensures c.read_mutf8.result c.read_mutf8.ensures.ok

pub returns-clause-spelled : goal.returns-clause-spelled
returns-clause-spelled c =
    mutf8_spelled c.args.bytes.now c.args.at c.args.count c.mutf8_agrees.ensures c.mutf8_answers.ensures c.read_mutf8.result c.read_mutf8.ensures.ok

pub returns-clause-refused : goal.returns-clause-refused
returns-clause-refused c =
    mutf8_refused c.args.bytes.now c.args.at c.args.count c.mutf8_agrees.ensures c.read_mutf8.result c.read_mutf8.ensures.err
