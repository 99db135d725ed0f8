use Rattle.cc_plain.specs.Code.{scope_in, some_last}
use Rattle.cc_plain.proofs.InsnLemmas.{no_call}
use Rattle.cc_plain.proofs.instructions.read_call.Goals as goal

pub returns-in_default-2 : goal.returns-in_default-2
returns-in_default-2 c =
    no_call c.args.file.now (scope_in c.args.known.now) (some_last c.args.kind) c.args.registers c.args.at c.u16_at-2.result c.requires.opcode c.u16_at-2.ensures
    (rw c.in_default-2.is at c.in_ok-function.ensures)
