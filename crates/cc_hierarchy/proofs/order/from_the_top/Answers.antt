use Rattle.std.proofs.Common.{◌≡◌, ◌<◌, ◌++◌, length, reverse, sym, ap, subst, ◌∙◌, arith}
use Rattle.cc_hierarchy.specs.FromTheTop.{AllLead, AreTaken}
use Rattle.cc_hierarchy.proofs.Climbing.{taken_start, taken_more, taken_all, each_more}
use Rattle.cc_hierarchy.proofs.order.from_the_top.Goals as goal

pub loop-number-init : goal.loop-number-init
loop-number-init c = record {
  taken = taken_start c.args.outlines.now c.in_ok-marks.marks c.new-order.result (c.in_ok-marks.ensures.length ∙ c.len.ensures.value) c.in_ok-marks.ensures.none c.new-order.ensures;
  each = λ class below. absurd (omega (arith, below));
}

pub climb-requires-clause-ends : goal.climb-requires-clause-ends
climb-requires-clause-ends c = subst AllLead (sym c.as_slice.ensures) c.requires.ends

pub loop-number-preserved : goal.loop-number-preserved
loop-number-preserved c =
    let outlines = c.args.outlines.now in
    let within : c.loop-number.number < length outlines = omega (arith, c.loop-number-test.true, c.len-number-end.ensures.value) in
    let climb = rw c.as_slice.ensures at c.in_ok-climb.ensures.climbed in
    let wide = rw c.as_slice.ensures at c.climb.ensures.wide in
    let passed = c.in_ok-climb.field-0 in
    let grown : c.append.new.self ≡ c.loop-number.order ++ reverse passed =
    c.in_ok-append.ensures.ok ∙ ap (λ xs. c.loop-number.order ++ xs) (c.from_vec.ensures ∙ c.reverse.ensures.items ∙ ap reverse c.into_vec-passed.ensures) in
    let more : AreTaken outlines c.climb.new.marks c.append.new.self =
    taken_more outlines c.loop-number.marks c.climb.new.marks c.loop-number.number c.loop-number.order passed c.append.new.self c.requires.ends within c.loop-number.invariant.taken wide climb grown in
    record {
      taken = more;
      each = each_more outlines c.loop-number.marks c.climb.new.marks c.loop-number.number c.loop-number.order passed c.append.new.self c.loop-number.invariant.taken more climb c.loop-number.invariant.each;
    }

pub returns : goal.returns
returns c =
    taken_all c.args.outlines.now c.loop-number.marks c.loop-number.order c.loop-number.invariant.taken
    (λ class below. c.loop-number.invariant.each class (omega (arith, below, c.loop-number-test.false, c.len-number-end.ensures.value)))
