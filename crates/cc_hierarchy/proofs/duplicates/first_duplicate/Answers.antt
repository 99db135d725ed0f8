use Rattle.std.proofs.Common.{◌≡◌, ◌<◌, true, false, length, refl, sym, ◌∙◌, arith}
use Rattle.std.proofs.lemmas.Option.{slice_get_read}
use Rattle.cc_meaning_program.specs.ClassFaults.{IsDuplicate}
use Rattle.cc_hierarchy.proofs.Duplicating.{duplicate, no_duplicate, duplicate_within, none_more}
use Rattle.cc_hierarchy.proofs.duplicates.first_duplicate.Goals as goal

pub loop-number-preserved : goal.loop-number-preserved
loop-number-preserved c =
    let there = slice_get_read c.args.classes.now (length c.args.classes.now) c.loop-number.number c.index-classes-number.result refl c.loop-number-test.true c.index-classes-number.is in
    none_more (IsDuplicate c.args.ids.now c.args.classes.now) c.loop-number.number c.loop-number.invariant
    (no_duplicate c.args.ids.now c.args.classes.now c.loop-number.number c.index-classes-number.result there (λ d. let both : false ≡ true = sym c.if-branch.false ∙ c.in_ok-is_duplicate.ensures.1 d in cc))

pub returns-then-branch : goal.returns-then-branch
returns-then-branch c =
    let there = slice_get_read c.args.classes.now (length c.args.classes.now) c.loop-number.number c.index-classes-number.result refl c.loop-number-test.true c.index-classes-number.is in
    record {
      so = duplicate c.args.ids.now c.args.classes.now c.loop-number.number c.index-classes-number.result there (c.in_ok-is_duplicate.ensures.0 c.if-branch.true);
      before = c.loop-number.invariant;
    }

pub returns : goal.returns
returns c = λ number d.
    let within : number < length c.args.ids.now.classes = duplicate_within c.args.ids.now c.args.classes.now number c.requires.whole d in
    c.loop-number.invariant number (omega (arith, within, c.loop-number-test.false, c.requires.whole)) d
