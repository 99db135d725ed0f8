use Rattle.std.proofs.Common.{ℕ, ◌<◌, slice_index_or}
use Rattle.cc_meaning.specs.declared.file.RawField.{RawField}
use Rattle.cc_meaning_builder.specs.Written.{IsSmallField}
use Rattle.cc_dex_writer.proofs.widths.small_fields.Given as goal

abbrev pub invariant-loop-field : goal.invariant-loop-field
invariant-loop-field l = (k : ℕ) (d : RawField) → k < l.field-index → IsSmallField (slice_index_or l.fields k d)
