use Rattle.std.proofs.Common.{◌≡◌, length, take}
use Rattle.cc_meaning_dex.specs.Classes.{EachPair}
use Rattle.cc_meaning_builder.specs.Written.{IsMethodWritten, MethodsPass}
use Rattle.cc_dex_writer.specs.Section.{Adds}
use Rattle.cc_dex_writer.proofs.classes.add_methods.Given as goal

abbrev pub invariant-loop-number : goal.invariant-loop-number
invariant-loop-number l = record {
  count : length l.all ≡ l.number;
  written : Adds l.fn.section l.section (λ file. EachPair (IsMethodWritten file) l.all (take l.number l.methods));
  passed : Adds l.fn.section l.section (λ file. MethodsPass file l.all l.outs);
}
