use Rattle.std.proofs.Common.{◌≡◌, ◌<◌, ◌≤◌, ℕ, List, [], ◌∷◌, length, get_or, length-append, arith}
use Rattle.cc_meaning.specs.declared.file.RawClass.{RawClass}
use Rattle.cc_meaning_builder.specs.Named.{listed_names}
use Rattle.cc_builder.proofs.ClassesMade.{known, one_more, whole, without_outs}
use Rattle.cc_builder.proofs.KnownNames.{of_one}
use Rattle.cc_builder.proofs.Pairs as pairs
use Rattle.cc_builder.proofs.classes.raw_classes.Goals as goal

pub loop-class-preserved : goal.loop-class-preserved
loop-class-preserved c =
    let ids = c.args.ids.now in
    let content = c.args.content.now in
    let place = c.loop-class.class-index in
    let class = c.class-item.result in
    let within : place < length content = rw c.as_slice-class-items.ensures at c.loop-class-test.true in
    let is : class ≡ get_or content place class = rw c.as_slice-class-items.ensures at c.class-item.is in
    rw (c.in_ok-push.ensures.ok, c.in_ok-push-2.ensures.ok) (record {
      made = λ known. one_more ids content place c.loop-class.classes c.loop-class.all_outs class c.in_ok-raw.raw c.in_ok-raw.outs (c.loop-class.invariant.made known) within is
          (c.in_ok-raw.ensures.members (of_one ids listed_names content place class known within is));
      count = omega (arith, c.loop-class.invariant.count, length-append c.loop-class.classes (c.in_ok-raw.raw ∷ []));
      outs_count = pairs.pushed (λ (class : RawClass) (outs : List ℕ). length outs ≡ length class.methods) c.loop-class.classes c.loop-class.all_outs c.in_ok-raw.raw c.in_ok-raw.outs c.loop-class.invariant.outs_count c.in_ok-raw.ensures.outs_count;
    })

pub returns-clause-members : goal.returns-clause-members
returns-clause-members c = λ named rows.
    let end : length c.args.content.now ≤ c.loop-class.class-index = rw c.as_slice-class-items.ensures at c.loop-class-test.false in
    without_outs c.args.ids.now c.args.content.now c.loop-class.classes c.loop-class.all_outs
    (whole c.args.ids.now c.args.content.now c.loop-class.class-index c.loop-class.classes c.loop-class.all_outs (c.loop-class.invariant.made (known c.args.ids.now c.args.content.now named rows)) end)

pub returns-clause-outs : goal.returns-clause-outs
returns-clause-outs c = λ named rows.
    let end : length c.args.content.now ≤ c.loop-class.class-index = rw c.as_slice-class-items.ensures at c.loop-class-test.false in
    whole c.args.ids.now c.args.content.now c.loop-class.class-index c.loop-class.classes c.loop-class.all_outs (c.loop-class.invariant.made (known c.args.ids.now c.args.content.now named rows)) end
