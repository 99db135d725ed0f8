use Rattle.std.specs.Int.{w64}
use Rattle.cc_wire.proofs.Fronts.{number_cut, number_reads}
use Rattle.cc_wire.proofs.reader.Reader.eight.Goals as goal

pub returns-then-self-lt8-clause-reads : goal.returns-then-self-lt8-clause-reads
returns-then-self-lt8-clause-reads c = λ free. number_cut w64 c.args.self.now.at c.args.self.now.rest.now c.if-self-lt8.true

pub returns-clause-reads : goal.returns-clause-reads
returns-clause-reads c =
    number_reads w64 c.args.self.now.at c.from_be_bytes.result c.args.self.now.rest.now c.split_at.result.0.now c.split_at.result.1.now
    c.if-self-lt8.false c.split_at.ensures.front c.split_at.ensures.back c.from_be_bytes.ensures
