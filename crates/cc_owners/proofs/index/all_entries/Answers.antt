use Rattle.std.proofs.Common.{refl, length, sym, subst, ◌∙◌}
use Rattle.std.proofs.lemmas.Option.{slice_get_read}
use Rattle.cc_owners.specs.Index.{AreGathered}
use Rattle.cc_owners.proofs.Indexing.{gathered_none, gathered_more}
use Rattle.cc_owners.proofs.index.all_entries.Goals as goal

pub loop-definition-init : goal.loop-definition-init
loop-definition-init c = subst (AreGathered c.args.classes.now c.args.table 0) (sym c.new-all.ensures) (gathered_none c.args.classes.now c.args.table)

pub loop-definition-preserved : goal.loop-definition-preserved
loop-definition-preserved c =
    let at = c.loop-definition.definition in
    let class = c.index-classes-definition.result in
    let rows = c.as_slice.ensures.value ∙ c.in_ok-rows.ensures in
    gathered_more c.args.classes.now c.args.table at class c.loop-definition.all c.add_rows.new.all
    (slice_get_read c.args.classes.now (length c.args.classes.now) at class refl c.loop-definition-test.true c.index-classes-definition.is) c.loop-definition.invariant
    (rw (rows, c.in_ok-number.ensures) at c.in_ok-add_rows.ensures)
