use Rattle.std.specs.Int.{w16}
use Rattle.cc_wire.proofs.Fronts.{number_cut, number_reads}
use Rattle.cc_wire.proofs.reader.Reader.two.Goals as goal

pub returns-then-self-lt2-clause-reads : goal.returns-then-self-lt2-clause-reads
returns-then-self-lt2-clause-reads c = λ free. number_cut w16 c.args.self.now.at c.args.self.now.rest.now c.if-self-lt2.true

pub returns-clause-reads : goal.returns-clause-reads
returns-clause-reads c =
    number_reads w16 c.args.self.now.at c.from_be_bytes.result c.args.self.now.rest.now c.split_at.result.0.now c.split_at.result.1.now
    c.if-self-lt2.false c.split_at.ensures.front c.split_at.ensures.back c.from_be_bytes.ensures
