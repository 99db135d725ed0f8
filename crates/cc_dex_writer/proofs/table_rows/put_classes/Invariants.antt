use Rattle.std.proofs.Common.{◌++◌}
use Rattle.cc_dex_writer.specs.Rows.{numbered_form, class_row_form}
use Rattle.cc_dex_writer.proofs.Numbered.{Writes}
use Rattle.cc_dex_writer.proofs.HeadWidths.{AreWideBefore}
use Rattle.cc_dex_writer.proofs.table_rows.put_classes.Given as goal

abbrev pub invariant-loop-place : goal.invariant-loop-place
invariant-loop-place l = (Writes (class_row_form l.offsets) l.out l.classes l.place (l.fn.out ++ numbered_form (class_row_form l.offsets) 0 l.classes)) × AreWideBefore l.classes l.place
