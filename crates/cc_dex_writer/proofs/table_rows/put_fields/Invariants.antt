use Rattle.std.proofs.Common.{◌≡◌, ◌++◌, take}
use Rattle.std.specs.List.{flat_map}
use Rattle.cc_dex_writer.specs.Rows.{field_row_form}
use Rattle.cc_dex_writer.proofs.table_rows.put_fields.Given as goal

abbrev pub invariant-loop-field : goal.invariant-loop-field
invariant-loop-field l = l.out ≡ l.fn.out ++ flat_map field_row_form (take l.field-index l.fields)
