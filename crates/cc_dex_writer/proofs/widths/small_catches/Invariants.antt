use Rattle.std.proofs.Common.{ℕ, ◌<◌, slice_index_or}
use Rattle.cc_meaning.specs.declared.file.RawCatch.{RawCatch}
use Rattle.cc_meaning_builder.specs.Written.{IsSmallCatch}
use Rattle.cc_dex_writer.proofs.widths.small_catches.Given as goal

abbrev pub invariant-loop-catch : goal.invariant-loop-catch
invariant-loop-catch l = (k : ℕ) (d : RawCatch) → k < l.catch-index → IsSmallCatch (slice_index_or l.catches k d)
