use Rattle.std.proofs.Common.{◌≡◌, ◌<◌, ℕ, [], ◌∷◌, ◌++◌, length, get_or, Some, None, slice_get, refl, ◌∙◌, arith}
use Rattle.std.proofs.lemmas.Iterator.Adapters.{YieldsList-from_vec}
use Rattle.std.proofs.lemmas.Iterator.Consumers.{YieldsList-turn}
use Rattle.std.proofs.lemmas.Option.{slice_get_read, slice_get-get_or}
use Rattle.cc_meaning.specs.declared.program.Class.{Class}
use Rattle.cc_program.specs.Made.{IsMade}
use Rattle.cc_program.proofs.Turning.{there_at, stands_yet, taken_right, rest_more, long_more, next_long, each_more}
use Rattle.cc_program.proofs.making.one_by_one.Goals as goal

pub take_layout-layout-requires : goal.take_layout-layout-requires
take_layout-layout-requires c =
    let t = YieldsList-turn (YieldsList-from_vec {s = c.into_iter-outline-iterator.result} c.args.outlines c.into_iter-outline-iterator.ensures.into_iter_gives.0 c.into_iter-outline-iterator.ensures.into_iter_gives.1) c.loop-outline.yielded c.loop-outline.outline-iterator c.loop-outline.yielded_by c.next.result c.next.new.self c.in-Some.outline c.in-Some.is c.next.ensures.steps in
    stands_yet c.args.layouts c.loop-outline.layouts (length c.loop-outline.yielded) c.len-number.result (c.len-number.ensures.value ∙ c.loop-outline.invariant.long) c.loop-outline.invariant.rest
    (c.requires.stand (length c.loop-outline.yielded) t.0)

pub class-requires-clause-texts : goal.class-requires-clause-texts
class-requires-clause-texts c =
    let t = YieldsList-turn (YieldsList-from_vec {s = c.into_iter-outline-iterator.result} c.args.outlines c.into_iter-outline-iterator.ensures.into_iter_gives.0 c.into_iter-outline-iterator.ensures.into_iter_gives.1) c.loop-outline.yielded c.loop-outline.outline-iterator c.loop-outline.yielded_by c.next.result c.next.new.self c.in-Some.outline c.in-Some.is c.next.ensures.steps in
    c.requires.texts c.len-number.result c.in-Some.outline (there_at c.args.outlines (length c.loop-outline.yielded) c.len-number.result c.in-Some.outline (c.len-number.ensures.value ∙ c.loop-outline.invariant.long) t.0 t.1)

pub class-requires-clause-statics : goal.class-requires-clause-statics
class-requires-clause-statics c =
    let t = YieldsList-turn (YieldsList-from_vec {s = c.into_iter-outline-iterator.result} c.args.outlines c.into_iter-outline-iterator.ensures.into_iter_gives.0 c.into_iter-outline-iterator.ensures.into_iter_gives.1) c.loop-outline.yielded c.loop-outline.outline-iterator c.loop-outline.yielded_by c.next.result c.next.new.self c.in-Some.outline c.in-Some.is c.next.ensures.steps in
    let number : c.len-number.result ≡ length c.loop-outline.yielded = c.len-number.ensures.value ∙ c.loop-outline.invariant.long in
    let within : c.len-number.result < length c.args.statics.now = omega (arith, number, t.0, c.requires.statics.all) in
    c.as_slice-fields.ensures ∙ c.requires.statics.each c.len-number.result c.index-statics-number.result (slice_get_read c.args.statics.now (length c.args.statics.now) c.len-number.result c.index-statics-number.result refl within c.index-statics-number.is)

pub loop-outline-preserved : goal.loop-outline-preserved
loop-outline-preserved c =
    let t = YieldsList-turn (YieldsList-from_vec {s = c.into_iter-outline-iterator.result} c.args.outlines c.into_iter-outline-iterator.ensures.into_iter_gives.0 c.into_iter-outline-iterator.ensures.into_iter_gives.1) c.loop-outline.yielded c.loop-outline.outline-iterator c.loop-outline.yielded_by c.next.result c.next.new.self c.in-Some.outline c.in-Some.is c.next.ensures.steps in
    let n = length c.loop-outline.yielded in
    let m = c.len-number.result in
    let number : c.len-number.result ≡ length c.loop-outline.yielded = c.len-number.ensures.value ∙ c.loop-outline.invariant.long in
    let there : slice_get c.args.outlines c.len-number.result ≡ Some c.in-Some.outline = there_at c.args.outlines (length c.loop-outline.yielded) c.len-number.result c.in-Some.outline (c.len-number.ensures.value ∙ c.loop-outline.invariant.long) t.0 t.1 in
    let begun : slice_get c.args.begun.now c.len-number.result ≡ Some (get_or c.args.begun.now c.len-number.result None) = slice_get-get_or c.args.begun.now c.len-number.result None (omega (arith, number, t.0, c.requires.begun)) in
    record {
      long = long_more c.loop-outline.classes c.push.new.self c.in_ok-class.field-0 c.loop-outline.yielded c.in-Some.outline c.loop-outline.invariant.long c.in_ok-push.ensures.ok;
      rest = rest_more c.args.layouts c.loop-outline.layouts c.take_layout-layout.new.layouts n m (length (c.loop-outline.yielded ++ c.in-Some.outline ∷ [])) number (next_long c.loop-outline.yielded c.in-Some.outline) c.loop-outline.invariant.rest c.take_layout-layout.ensures.others;
      made = λ own right.
          each_more (λ (k : ℕ) (x : Class). IsMade c.args.parts.now.ids.now c.args.parts.now.raw.now c.args.parts.now.names.now c.args.outlines c.args.parts.now.plans.now c.args.parts.now.fields.now c.args.parts.now.texts.now own c.args.begun.now k x)
          c.loop-outline.classes c.push.new.self c.in_ok-class.field-0 m c.len-number.ensures.value c.in_ok-push.ensures.ok (c.loop-outline.invariant.made own right)
          (c.in_ok-class.ensures c.args.outlines own c.args.begun.now there (taken_right c.args.outlines own c.args.layouts c.loop-outline.layouts n m c.take_layout-layout.result number c.loop-outline.invariant.rest c.take_layout-layout.ensures.taken right) begun);
    }
