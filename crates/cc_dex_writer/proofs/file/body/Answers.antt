use Rattle.std.proofs.Common.{List, ℕ, [], ◌++◌, ap, ◌∙◌}
use Rattle.std.specs.List.{flat_map}
use Rattle.cc_meaning_builder.specs.Forms.{u32_form}
use Rattle.cc_dex_writer.specs.Rows.{tables_form}
use Rattle.cc_dex_writer.proofs.Parts.{put_both}
use Rattle.cc_dex_writer.proofs.file.body.Goals as goal

pub returns : goal.returns
returns c =
    let numbers = c.header_numbers.result in
    let tables = tables_form c.args.ids.now c.args.offsets.now in
    let front = c.put_numbers.new.out in
    let first = c.in_ok-put_numbers.ensures.added ∙ ap (λ (out : List ℕ). out ++ flat_map u32_form numbers) c.new-out.ensures in
    record {
      numbers = numbers;
      each = c.header_numbers.ensures.count;
      exact = c.header_numbers.ensures.exact;
      wide = c.in_ok-put_tables.ensures.wide;
      form = put_both [] front c.extend_from_slice.new.self (flat_map u32_form numbers) (tables ++ c.args.data.now) first
          (put_both front c.put_tables.new.out c.extend_from_slice.new.self tables c.args.data.now c.in_ok-put_tables.ensures.added c.in_ok-extend_from_slice.ensures.ok);
    }
