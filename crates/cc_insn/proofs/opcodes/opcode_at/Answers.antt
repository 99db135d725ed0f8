use Rattle.std.proofs.Common.{◌<◌, get_or, ap, ◌∙◌, arith}
use Rattle.cc_meaning_insn.specs.declared.forms.Opcode.TheVariants.{Float}
use Rattle.cc_meaning_insn.specs.Opcodes.{opcode_at}
use Rattle.cc_insn.proofs.Table.{table, row}
use Rattle.cc_insn.proofs.opcodes.opcode_at.Goals as goal

pub returns : goal.returns
returns c =
    let small : c.from.result < 256 = omega arith in
    ap (λ rows. get_or rows c.from.result Float) table ∙ row c.from.result Float small ∙ ap opcode_at (omega arith)
