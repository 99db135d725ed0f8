use Rattle.std.proofs.Common.{◌≡◌, ℕ, ◌%◌, ◌++◌, drop, length}
use Rattle.cc_meaning_builder.specs.Forms.{tries_form, uleb_form}
use Rattle.cc_items.proofs.code.put_tries.Given as goal

abbrev pub invariant-loop-covered : goal.invariant-loop-covered
invariant-loop-covered l = record {
  whole : ℕ;
  low : l.offset ≡ whole % 65536;
  shows : l.out ++ tries_form whole (drop l.covered-index l.tries) ≡ l.initial.out ++ tries_form (length (uleb_form (length l.tries))) l.tries;
}
