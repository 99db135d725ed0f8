use Rattle.std.proofs.Common.{ℕ, ◌<◌, slice_index_or}
use Rattle.cc_meaning.specs.declared.program.StaticValue.{StaticValue}
use Rattle.cc_meaning_builder.specs.Written.{IsSmallValue}
use Rattle.cc_dex_writer.proofs.widths.small_values.Given as goal

abbrev pub invariant-loop-value : goal.invariant-loop-value
invariant-loop-value l = (k : ℕ) (d : StaticValue) → k < l.value-index → IsSmallValue (slice_index_or l.values k d)
