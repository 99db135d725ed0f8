use Rattle.std.proofs.lemmas.List.{nil_from_length}
use Rattle.cc_wire.proofs.Fronts.{byte_cut, byte_got}
use Rattle.cc_wire.proofs.reader.Reader.byte.Goals as goal

pub returns-in_default-clause-reads : goal.returns-in_default-clause-reads
returns-in_default-clause-reads c = λ free. byte_cut c.args.self.now.at c.args.self.now.rest.now (nil_from_length c.args.self.now.rest.now c.in_default.ensures.cases)

pub returns-clause-reads : goal.returns-clause-reads
returns-clause-reads c = byte_got c.args.self.now.at c.in-Some.first.now c.args.self.now.rest.now c.in-Some.rest.now c.in-Some.ensures.cases.0
