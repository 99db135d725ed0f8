use Rattle.std.proofs.Common.{◌<◌, length, ap, ◌∙◌, arith}
use Rattle.cc_meaning_insn.specs.Decoded.{of_opcode}
use Rattle.cc_insn.proofs.Fronts.{decoded-past, decoded-front, front_of-packed, front_of-sparse, front_of-array, front_of-opcode, gives_same}
use Rattle.cc_insn.proofs.decoding.read.Goals as goal

pub returns-then-at-units : goal.returns-then-at-units
returns-then-at-units c = decoded-past c.args.units.now c.args.at (omega arith)

pub returns-in-256 : goal.returns-in-256
returns-in-256 c =
    let some : 0 < length c.split_at.result.1.now = omega arith in
    gives_same _ _ _ (front_of-packed c.split_at.result.1.now some c.in-256.is ∙ decoded-front c.args.units.now c.split_at.result.1.now c.args.at c.split_at.ensures.back)
    c.packed_payload.ensures

pub returns-in-512 : goal.returns-in-512
returns-in-512 c =
    let some : 0 < length c.split_at.result.1.now = omega arith in
    gives_same _ _ _ (front_of-sparse c.split_at.result.1.now some c.in-512.is ∙ decoded-front c.args.units.now c.split_at.result.1.now c.args.at c.split_at.ensures.back)
    c.sparse_payload.ensures

pub returns-in-768 : goal.returns-in-768
returns-in-768 c =
    let some : 0 < length c.split_at.result.1.now = omega arith in
    gives_same _ _ _ (front_of-array c.split_at.result.1.now some c.in-768.is ∙ decoded-front c.args.units.now c.split_at.result.1.now c.args.at c.split_at.ensures.back)
    c.array_payload.ensures

pub returns-in_default : goal.returns-in_default
returns-in_default c =
    let some : 0 < length c.split_at.result.1.now = omega arith in
    gives_same _ _ _
    (ap (λ o. of_opcode o c.split_at.result.1.now) c.opcode_at.ensures
    ∙ front_of-opcode c.split_at.result.1.now some (omega arith) (omega arith) (omega arith)
    ∙ decoded-front c.args.units.now c.split_at.result.1.now c.args.at c.split_at.ensures.back)
    c.of_opcode.ensures
