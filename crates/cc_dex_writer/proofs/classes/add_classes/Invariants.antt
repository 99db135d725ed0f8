use Rattle.std.proofs.Common.{take}
use Rattle.cc_meaning_dex.specs.Classes.{EachPair}
use Rattle.cc_meaning_builder.specs.Written.{ClassesPass, IsSameClass}
use Rattle.cc_dex_writer.specs.Items.{AreFirstWritten}
use Rattle.cc_dex_writer.specs.Section.{Adds}
use Rattle.cc_dex_writer.proofs.classes.add_classes.Given as goal

abbrev pub invariant-loop-number : goal.invariant-loop-number
invariant-loop-number l = record {
  same : EachPair IsSameClass l.rows (take l.number l.definitions);
  written : Adds l.fn.section l.section (λ file. AreFirstWritten file l.ids l.rows l.classes);
  passed : Adds l.fn.section l.section (λ file. ClassesPass file l.rows l.classes l.outs);
}
