use Rattle.cc_meaning_builder.specs.Forms.{text_form}
use Rattle.cc_dex_writer.proofs.Adding.{put_at, told}
use Rattle.cc_dex_writer.proofs.section.Section.add_text.Goals as goal

pub returns : goal.returns
returns c =
    let units = c.args.units.now in
    let at = c.in_ok-at.at in
    told _ _ _ _ (put_at c.put_stands.ensures c.args.self.now c.put_text.new.out (text_form units) at c.in_ok-put_text.ensures c.in_ok-at.ensures)
    (λ file item. c.written_text.ensures file at units c.small_units.ensures c.in_ok-check_count.ensures item.1)
