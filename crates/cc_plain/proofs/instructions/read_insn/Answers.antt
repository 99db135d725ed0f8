use Rattle.cc_plain.specs.Code.{scope_in}
use Rattle.cc_plain.proofs.InsnLemmas.{insn_within}
use Rattle.cc_plain.proofs.instructions.read_insn.Goals as goal

pub returns-then-left-ge2 : goal.returns-then-left-ge2
returns-then-left-ge2 c =
    let scope = scope_in c.args.known.now in
    insn_within c.args.file.now scope c.args.kind c.args.registers c.args.at 2 c.args.left c.read_sget_out-found.result c.if-left-ge2.true (c.read_sget_out-found.ensures scope)

pub returns-then-opcode-eq18 : goal.returns-then-opcode-eq18
returns-then-opcode-eq18 c =
    let scope = scope_in c.args.known.now in
    insn_within c.args.file.now scope c.args.kind c.args.registers c.args.at 1 c.args.left c.read_const4.result c.requires.some (c.read_const4.ensures scope c.args.kind)

pub returns-then-opcode-eq176 : goal.returns-then-opcode-eq176
returns-then-opcode-eq176 c =
    let scope = scope_in c.args.known.now in
    insn_within c.args.file.now scope c.args.kind c.args.registers c.args.at 1 c.args.left c.read_add_int2addr.result c.requires.some (c.read_add_int2addr.ensures scope c.args.kind)

pub returns-then-left-ge2-2 : goal.returns-then-left-ge2-2
returns-then-left-ge2-2 c =
    let scope = scope_in c.args.known.now in
    insn_within c.args.file.now scope c.args.kind c.args.registers c.args.at 2 c.args.left c.read_add_int_lit8.result c.if-left-ge2-2.true (c.read_add_int_lit8.ensures scope)

pub returns-then-left-ge3 : goal.returns-then-left-ge3
returns-then-left-ge3 c =
    let scope = scope_in c.args.known.now in
    insn_within c.args.file.now scope c.args.kind c.args.registers c.args.at 3 c.args.left c.read_invoke_println.result c.if-left-ge3.true (c.read_invoke_println.ensures scope)
