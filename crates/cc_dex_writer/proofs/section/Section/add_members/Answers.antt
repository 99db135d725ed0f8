use Rattle.std.proofs.Common.{inr}
use Rattle.cc_meaning_builder.specs.Forms.{class_data_form}
use Rattle.cc_dex_writer.proofs.Adding.{put_at, told}
use Rattle.cc_dex_writer.proofs.section.Section.add_members.Goals as goal

pub returns : goal.returns
returns c =
    told _ _ _ _ (put_at c.put_stands.ensures c.args.self.now c.put_members.new.out (class_data_form c.args.fields.now c.args.methods.now) c.in_ok-at.at c.in_ok-put_members.ensures c.in_ok-at.ensures)
    (λ file item. inr item)
