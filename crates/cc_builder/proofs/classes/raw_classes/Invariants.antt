use Rattle.std.proofs.Common.{◌≡◌, length, take}
use Rattle.cc_meaning_dex.specs.Classes.{EachPair}
use Rattle.cc_meaning_builder.specs.Named.{all_names}
use Rattle.cc_builder.specs.Known.{AreKnown}
use Rattle.cc_meaning_builder.specs.Members.{AreOuts}
use Rattle.cc_builder.proofs.classes.raw_classes.Given as goal

abbrev pub invariant-loop-class : goal.invariant-loop-class
invariant-loop-class l = record {
  made : AreKnown l.ids (all_names l.content) → AreOuts l.ids (take l.class-index l.content) l.classes l.all_outs;
  count : length l.classes ≡ l.class-index;
  outs_count : EachPair (λ class outs. length outs ≡ length class.methods) l.classes l.all_outs;
}
