use Rattle.cc_script.specs.Seen.{Holds}
use Rattle.cc_script.proofs.ClassLemmas.{names_of, ClassesTo}
use Rattle.cc_script.proofs.classes.classes.Given as goal

abbrev pub invariant-loop-place : goal.invariant-loop-place
invariant-loop-place l = record {
  classes : ClassesTo (l.place) l.items l.classes;
  names : Holds (names_of l.classes) l.seen;
}
