use Rattle.std.proofs.Common.{◌≡◌, ◌++◌, take}
use Rattle.std.specs.List.{flat_map}
use Rattle.cc_dex_writer.specs.Rows.{method_row_form}
use Rattle.cc_dex_writer.proofs.table_rows.put_methods.Given as goal

abbrev pub invariant-loop-method : goal.invariant-loop-method
invariant-loop-method l = l.out ≡ l.fn.out ++ flat_map method_row_form (take l.method-index l.methods)
