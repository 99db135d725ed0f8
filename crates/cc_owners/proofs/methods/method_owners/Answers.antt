use Rattle.std.proofs.Common.{◌≡◌, inl, inr, refl, length, get_or, ◌∙◌, arith}
use Rattle.std.proofs.lemmas.Option.{slice_get-get_or}
use Rattle.cc_meaning.specs.declared.file.MethodRow.{MethodRow}
use Rattle.cc_owners.proofs.MethodOwning.{owns_none, owns_more, are_owners}
use Rattle.cc_owners.proofs.methods.method_owners.Goals as goal

pub method_owner-requires-clause-ty : goal.method_owner-requires-clause-ty
method_owner-requires-clause-ty c =
    let none : MethodRow = record { class = 0; proto = 0; name = 0 } in
    let within = rw c.as_slice-method-items.ensures at c.loop-row-test.true in
    let stated = get_or c.args.ids.now.methods c.loop-row.row none in
    let there = slice_get-get_or c.args.ids.now.methods c.loop-row.row none within in
    rw c.as_slice-method-items.ensures (c.requires.tables.methods c.loop-row.row stated there).class

pub loop-row-init : goal.loop-row-init
loop-row-init c = record {
  wide = c.in_ok-marks.ensures.wide ∙ c.len.ensures.value;
  older = c.in_ok-marks.ensures.older;
  owns = owns_none c.args.ids.now c.args.classes.now c.args.names.now c.new-owners.result c.new-owners.ensures;
}

pub loop-row-preserved : goal.loop-row-preserved
loop-row-preserved c = record {
  wide = c.method_owner.ensures.wide ∙ c.loop-row.invariant.wide;
  older = λ class mark read. elim (c.in_ok-owner.ensures.marked class mark read) [
    | inl old ↦ let less = c.loop-row.invariant.older class mark old in omega (arith, less)
    | inr new ↦ omega (arith, new)
  ];
  owns =
      let none : MethodRow = record { class = 0; proto = 0; name = 0 } in
      let within = rw c.as_slice-method-items.ensures at c.loop-row-test.true in
      let stated = get_or c.args.ids.now.methods c.loop-row.row none in
      let there = slice_get-get_or c.args.ids.now.methods c.loop-row.row none within in
      let owner = rw (c.in_ok-number.ensures, c.as_slice-method-items.ensures) at c.in_ok-owner.ensures.owner in
      owns_more c.args.ids.now c.args.classes.now c.args.names.now c.loop-row.row c.loop-row.owners c.push.new.self c.in_ok-owner.owner c.in_ok-push.ensures.ok (owner stated there refl) c.loop-row.invariant.owns;
}

pub returns : goal.returns
returns c =
    let past = rw c.as_slice-method-items.ensures at c.loop-row-test.false in
    let end = rw c.as_slice-method-items.ensures at c.loop-row.auto.row-end in
    let whole : c.loop-row.row ≡ length c.args.ids.now.methods = omega (arith, past, end) in
    are_owners c.args.ids.now c.args.classes.now c.args.names.now c.loop-row.row c.loop-row.owners whole c.loop-row.invariant.owns

pub method_owner-requires-clause-known : goal.method_owner-requires-clause-known
method_owner-requires-clause-known c =
    let entries = rw c.as_slice.ensures at c.in_ok-entries.ensures in
    record {
      sound = c.requires.sound;
      names = c.requires.names;
      outlines = c.requires.outlines;
      entries = entries;
      defined = c.in_ok-defined.ensures c.args.classes.now entries;
    }
