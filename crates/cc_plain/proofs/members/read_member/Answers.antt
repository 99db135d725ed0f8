use Rattle.std.proofs.Common.{◌+◌, ◌<◌, arith}
use Rattle.cc_meaning_plain.specs.declared.table.Table.TheVariants.{Methods}
use Rattle.cc_meaning_plain.specs.Tables.{row_count}
use Rattle.cc_plain.proofs.NumberLemmas.{code_at, member_at}
use Rattle.cc_plain.proofs.members.read_member.Goals as goal

pub returns-in_err-code_at : goal.returns-in_err-code_at
returns-in_err-code_at c =
    rw c.from_residual-in_err-code_at.ensures (λ member rest row h.
    c.in_err-code_at.ensures _ _ (code_at c.one_uleb.ensures c.args.file.now c.args.at c.args.row c.in_ok-step.step c.in_ok-step.after_step c.in_ok-flags.flags c.in_ok-flags.after_flags member rest
    c.in_ok-step.ensures c.in_ok-flags.ensures h).2)

pub returns : goal.returns
returns c =
    let row : c.args.row + c.in_ok-step.step < row_count c.args.file.now Methods = omega arith in (
      row,
      member_at c.one_uleb.ensures c.args.file.now c.args.at c.args.row c.in_ok-step.step c.in_ok-step.after_step c.in_ok-flags.flags c.in_ok-flags.after_flags
          c.in_ok-code_at.code_at c.in_ok-code_at.next c.in_ok-step.ensures c.in_ok-flags.ensures c.in_ok-code_at.ensures,
    )
