use Rattle.std.proofs.Common.{ℕ, ◌<◌, slice_index_or}
use Rattle.cc_meaning.specs.declared.program.Catch.{Catch}
use Rattle.cc_meaning_typing.specs.Typing.{TakesReference}
use Rattle.cc_transfer.proofs.branches.take_references.Given as goal

abbrev pub invariant-loop-catch : goal.invariant-loop-catch
invariant-loop-catch l = (k : ℕ) (d : Catch) → k < l.catch-index → TakesReference (slice_index_or l.handlers k d).kind
