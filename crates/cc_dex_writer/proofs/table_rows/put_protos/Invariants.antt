use Rattle.std.proofs.Common.{◌++◌}
use Rattle.cc_dex_writer.specs.Rows.{numbered_form, proto_row_form}
use Rattle.cc_dex_writer.proofs.Numbered.{Writes}
use Rattle.cc_dex_writer.proofs.table_rows.put_protos.Given as goal

abbrev pub invariant-loop-place : goal.invariant-loop-place
invariant-loop-place l = Writes (proto_row_form l.offsets) l.out l.protos l.place (l.fn.out ++ numbered_form (proto_row_form l.offsets) 0 l.protos)
