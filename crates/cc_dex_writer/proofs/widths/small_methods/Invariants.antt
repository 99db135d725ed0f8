use Rattle.std.proofs.Common.{ℕ, ◌<◌, slice_index_or}
use Rattle.cc_meaning.specs.declared.file.RawMethod.{RawMethod}
use Rattle.cc_meaning_builder.specs.Written.{IsSmallMethod}
use Rattle.cc_dex_writer.proofs.widths.small_methods.Given as goal

abbrev pub invariant-loop-method : goal.invariant-loop-method
invariant-loop-method l = (k : ℕ) (d : RawMethod) → k < l.method-index → IsSmallMethod (slice_index_or l.methods k d)
