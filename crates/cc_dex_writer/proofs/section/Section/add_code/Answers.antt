use Rattle.std.proofs.Common.{arith}
use Rattle.cc_meaning_builder.specs.Forms.{code_form}
use Rattle.cc_dex_writer.proofs.Adding.{before, put_at, told}
use Rattle.cc_dex_writer.proofs.Passing.{states_outs}
use Rattle.cc_dex_writer.proofs.section.Section.add_code.Goals as goal

pub returns-clause-stands : goal.returns-clause-stands
returns-clause-stands c =
    let at = c.in_ok-at.at in
    before _ _ _ _ c.in_ok-align.ensures.grows
    (told _ _ _ _ (put_at c.put_stands.ensures c.align.new.self c.put_code.new.out (code_form c.args.outs c.args.code.now) at c.in_ok-put_code.ensures c.in_ok-at.ensures)
    (λ file item. (item.0, omega arith, c.args.outs, item.1)))

pub returns-clause-passed : goal.returns-clause-passed
returns-clause-passed c =
    let at = c.in_ok-at.at in
    before _ _ _ _ c.in_ok-align.ensures.grows
    (told _ _ _ _ (put_at c.put_stands.ensures c.align.new.self c.put_code.new.out (code_form c.args.outs c.args.code.now) at c.in_ok-put_code.ensures c.in_ok-at.ensures)
    (λ file item some. states_outs c.stands_apart.ensures c.written_u16.ensures file at c.args.outs c.args.code.now (omega arith) item.1))
