use Rattle.std.proofs.Common.{inr}
use Rattle.cc_meaning_builder.specs.Forms.{values_form}
use Rattle.cc_dex_writer.proofs.Adding.{put_at, told}
use Rattle.cc_dex_writer.proofs.section.Section.add_values.Goals as goal

pub returns : goal.returns
returns c =
    told _ _ _ _ (put_at c.put_stands.ensures c.args.self.now c.put_values.new.out (values_form c.args.ids.now c.args.fields.now c.args.values.now) c.in_ok-at.at c.in_ok-put_values.ensures c.in_ok-at.ensures)
    (λ file item. inr item)
