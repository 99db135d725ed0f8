use Rattle.cc_bodies.proofs.Resolving.{code_resolved}
use Rattle.cc_bodies.proofs.code.link_code.Goals as goal

pub returns : goal.returns
returns c = λ ids classes program into stand. code_resolved ids classes program c.args.links.now into c.args.stated.now c.args.insns _ c.in_ok-linked_code.ensures stand
