use Rattle.std.proofs.Common.{ℕ, List, subst}
use Rattle.cc_meaning.specs.declared.file.Ids.{Ids}
use Rattle.cc_dex_writer.specs.Whole.{IsWhole}
use Rattle.cc_dex_writer.proofs.Finishing.{IsMade, file_of}
use Rattle.cc_dex_writer.proofs.Placed.{placed}
use Rattle.cc_dex_writer.proofs.writer.write_file.Goals as goal

pub returns : goal.returns
returns c =
    let ids = c.args.ids.now in
    let rows = c.in_ok-rows.rows in
    let offsets = c.in_ok-offsets.offsets in
    let file = c.in_ok-file.file in
    let last = c.add_classes.new.section in
    let whole = subst (λ (bytes : List ℕ). IsWhole (placed ids rows) offsets bytes file) c.as_slice.ensures
    (subst (λ (tables : Ids). IsWhole tables offsets c.as_slice.result.now file) c.in_ok-written.ensures c.in_ok-file.ensures) in
    let made : IsMade ids c.args.classes.now c.args.outs.now rows offsets c.new-section.result c.add_items.new.section last file = record {
      few = c.requires.few;
      small = c.fitting_rows_are_small.ensures;
      base = c.new-section.ensures.base;
      items = c.in_ok-offsets.ensures.stand;
      same = rw c.as_slice-definitions.ensures at c.in_ok-rows.ensures.same;
      classes_written = c.in_ok-rows.ensures.written;
      classes_pass = c.in_ok-rows.ensures.passed;
      whole = whole;
    } in
    file_of ids c.args.classes.now c.args.outs.now rows offsets c.new-section.result c.add_items.new.section last file made
