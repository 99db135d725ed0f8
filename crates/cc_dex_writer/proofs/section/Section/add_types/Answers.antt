use Rattle.cc_meaning_builder.specs.Forms.{types_form}
use Rattle.cc_dex_writer.proofs.Adding.{before, put_at, told}
use Rattle.cc_dex_writer.proofs.section.Section.add_types.Goals as goal

pub returns-clause-stands : goal.returns-clause-stands
returns-clause-stands c =
    let rows = c.args.rows.now in
    let at = c.in_ok-at.at in
    before _ _ _ _ c.in_ok-align.ensures.grows
    (told _ _ _ _ (put_at c.put_stands.ensures c.align.new.self c.put_types.new.out (types_form rows) at c.in_ok-put_types.ensures c.in_ok-at.ensures)
    (λ file item small. c.written_types.ensures file at rows small c.in_ok-check_count.ensures item.0 item.1))
