-- The table of the code is that of the definitions, row by row.
use Rattle.std.proofs.Common.{◌≡◌, ℕ, ◌<◌, length, get_or, refl, arith}
use Rattle.std.proofs.lemmas.List.{get_or_default}
use Rattle.cc_meaning_insn.specs.declared.forms.Opcode.{Opcode}
use Rattle.cc_meaning_insn.specs.declared.forms.Opcode.TheVariants.{Unused}
use Rattle.cc_meaning_insn.specs.Opcodes.{kinds, tests, hows, ops, literal_ops, shifts, moves_and_returns, constants, objects, jumps, accesses, invokes, unary_ops, binary_ops, literal_forms, opcodes, opcode_at}
use Rattle.cc_insn.specs.declared.opcodes.TheConstants.{OPCODES}

pub table : OPCODES ≡ opcodes
unfolding kinds tests hows ops literal_ops shifts moves_and_returns constants objects jumps accesses invokes unary_ops binary_ops literal_forms opcodes
table = refl

pub rows : length opcodes ≡ 256
unfolding kinds tests hows ops literal_ops shifts moves_and_returns constants objects jumps accesses invokes unary_ops binary_ops literal_forms opcodes
rows = refl

pub row : (number : ℕ) (other : Opcode) → number < 256 → get_or opcodes number other ≡ opcode_at number
unfolding opcode_at
row number other h = get_or_default opcodes number other Unused (omega (arith, rows))
