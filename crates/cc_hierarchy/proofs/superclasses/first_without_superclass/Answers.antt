use Rattle.std.proofs.Common.{◌≡◌, ◌<◌, true, false, length, Some, slice_get, refl, subst, sym, ap, ◌∙◌, arith}
use Rattle.std.proofs.lemmas.Option.{slice_get_read}
use Rattle.cc_meaning_program.specs.ClassFaults.{LacksSuperclass}
use Rattle.cc_hierarchy.proofs.Duplicating.{none_more}
use Rattle.cc_hierarchy.proofs.Extending.{not_lacking, lacking_within}
use Rattle.cc_hierarchy.proofs.superclasses.first_without_superclass.Goals as goal

pub loop-number-preserved : goal.loop-number-preserved
loop-number-preserved c =
    let items = c.as_slice-stated-items.result.now in
    let there = subst (λ xs. slice_get xs c.loop-number.number ≡ Some c.stated-item.result) c.as_slice-stated-items.ensures
    (slice_get_read items (length items) c.loop-number.number c.stated-item.result refl c.loop-number-test.true c.stated-item.is) in
    none_more (LacksSuperclass c.args.ids.now) c.loop-number.number c.loop-number.invariant
    (not_lacking c.args.ids.now c.loop-number.number c.stated-item.result there (λ none. let both : false ≡ true = sym c.if-lacks_superclass.false ∙ c.lacks_superclass.ensures.1 none in cc))

pub returns-then-lacks_superclass : goal.returns-then-lacks_superclass
returns-then-lacks_superclass c =
    let items = c.as_slice-stated-items.result.now in
    let there = subst (λ xs. slice_get xs c.loop-number.number ≡ Some c.stated-item.result) c.as_slice-stated-items.ensures
    (slice_get_read items (length items) c.loop-number.number c.stated-item.result refl c.loop-number-test.true c.stated-item.is) in
    record {
      so = record { stated = c.stated-item.result; there = there; lacks = c.lacks_superclass.ensures.0 c.if-lacks_superclass.true };
      before = c.loop-number.invariant;
    }

pub returns : goal.returns
returns c = λ number l.
    let within : number < length c.args.ids.now.classes = lacking_within c.args.ids.now number l in
    c.loop-number.invariant number (omega (arith, within, c.loop-number-test.false, ap length c.as_slice-stated-items.ensures)) l
