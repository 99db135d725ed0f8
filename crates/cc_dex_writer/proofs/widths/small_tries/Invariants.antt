use Rattle.std.proofs.Common.{ℕ, ◌<◌, slice_index_or}
use Rattle.cc_meaning.specs.declared.file.RawTry.{RawTry}
use Rattle.cc_meaning_builder.specs.Written.{IsSmallTry}
use Rattle.cc_dex_writer.proofs.widths.small_tries.Given as goal

abbrev pub invariant-loop-covered : goal.invariant-loop-covered
invariant-loop-covered l = (k : ℕ) (d : RawTry) → k < l.covered-index → IsSmallTry (slice_index_or l.tries k d)
