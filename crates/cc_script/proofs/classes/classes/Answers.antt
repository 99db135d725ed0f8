use Rattle.std.proofs.Common.{[]}
use Rattle.serde_json.specs.View.{view, items_view}
use Rattle.cc_meaning_script.specs.Listed.{class_of, class_behind, classes_from}
use Rattle.cc_script.proofs.ClassLemmas.{names_of, gives_on, class_fault, classes_more, names_held}
use Rattle.cc_script.proofs.classes.classes.Goals as goal

pub returns-in-Err : goal.returns-in-Err
returns-in-Err c =
    gives_on (class_behind c.loop-place.place (names_of c.loop-place.classes) (class_of (view c.index-items-place.result))) (classes_from 0 [] (items_view c.args.items.now)) c.in-Err.fault
    (λ f bad. class_fault c.args.items.now c.loop-place.place c.index-items-place.result c.loop-place.classes f c.loop-place-test.true c.index-items-place.is c.loop-place.invariant.classes bad)
    (c.in-Err.ensures.gives (names_of c.loop-place.classes) c.loop-place.invariant.names)

pub loop-place-preserved : goal.loop-place-preserved
loop-place-preserved c = record {
  classes =
      classes_more c.args.items.now c.loop-place.place c.index-items-place.result c.loop-place.classes c.push.new.self c.in-Ok.class c.loop-place-test.true c.index-items-place.is
      (c.in-Ok.ensures.gives (names_of c.loop-place.classes) c.loop-place.invariant.names) c.in_ok-push-in-Ok.ensures.ok c.loop-place.invariant.classes;
  names =
      names_held c.loop-place.classes c.push.new.self c.in-Ok.class c.class_behind.new.seen c.in_ok-push-in-Ok.ensures.ok (c.in-Ok.ensures.seen (names_of c.loop-place.classes) c.loop-place.invariant.names);
}
