use Rattle.std.proofs.Common.{ℕ, ◌+◌, List, ◌↔◌, get_or, drop, subst}
use Rattle.std.proofs.lemmas.List.{drop_more}
use Rattle.cc_meaning_plain.specs.Plain.{IsPaired}
use Rattle.cc_plain.proofs.DescriptorLemmas.{IsPairedAfter, not_paired, paired_more, same_bool, other_bool}
use Rattle.cc_plain.proofs.members.is_paired.Goals as goal

pub returns-then-begun-ends : goal.returns-then-begun-ends
returns-then-begun-ends c =
    let units = c.args.units.now in
    let i = c.loop-unit.unit-index in
    let step = drop_more units i 0 c.loop-unit-test.true in
    let so_far = subst (λ (rest : List ℕ). IsPaired units ↔ IsPairedAfter c.loop-unit.begun rest) step c.loop-unit.invariant in
    (λ e. absurd (cc), λ paired. absurd (not_paired c.loop-unit.begun c.is_low-ends.result (get_or units i 0) (drop (i + 1) units) c.is_low-ends.ensures (other_bool _ _ c.if-begun-ends.true) (so_far.0 paired)))

pub loop-unit-preserved : goal.loop-unit-preserved
loop-unit-preserved c =
    let units = c.args.units.now in
    let i = c.loop-unit.unit-index in
    let step = drop_more units i 0 c.loop-unit-test.true in
    let so_far = subst (λ (rest : List ℕ). IsPaired units ↔ IsPairedAfter c.loop-unit.begun rest) step c.loop-unit.invariant in
    let more = paired_more c.loop-unit.begun c.is_low-ends.result c.is_high-begun.result (get_or units i 0) (drop (i + 1) units) c.is_low-ends.ensures c.is_high-begun.ensures (same_bool _ _ c.if-begun-ends.false) in
    (λ paired. more.0 (so_far.0 paired), λ rest. so_far.1 (more.1 rest))
