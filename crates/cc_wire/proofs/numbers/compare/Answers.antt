use Rattle.std.proofs.Common.{rules, refl}
use Rattle.std.proofs.lemmas.List.{nil_from_length}
use Rattle.cc_wire.proofs.Compared.{is_longer, differs, goes_on, are_equal, is_shorter}
use Rattle.cc_wire.proofs.numbers.compare.Goals as goal

pub loop-unit-init : goal.loop-unit-init
loop-unit-init c = refl

pub returns-in_default-split_first : goal.returns-in_default-split_first
returns-in_default-split_first c =
    is_longer c.loop-unit.name.now c.loop-unit.other.now c.in-Some.unit.now c.in-Some.units.now _ c.in-Some.ensures.cases.0 (nil_from_length c.loop-unit.other.now c.in_default-split_first.ensures.cases) c.loop-unit.invariant

pub returns-then-ne : goal.returns-then-ne
returns-then-ne c =
    differs c.loop-unit.name.now c.loop-unit.other.now c.in-Some.unit.now c.in-Some-split_first.byte.now c.in-Some.units.now c.in-Some-split_first.bytes.now c.cmp-order.result _
    c.in-Some.ensures.cases.0 c.in-Some-split_first.ensures.cases.0 (search rules) (search rules) c.loop-unit.invariant

pub loop-unit-smaller : goal.loop-unit-smaller
loop-unit-smaller c = search rules

pub loop-unit-preserved : goal.loop-unit-preserved
loop-unit-preserved c =
    goes_on c.loop-unit.name.now c.loop-unit.other.now c.in-Some.unit.now c.in-Some-split_first.byte.now c.in-Some.units.now c.in-Some-split_first.bytes.now c.cmp-order.result _
    c.in-Some.ensures.cases.0 c.in-Some-split_first.ensures.cases.0 (search rules) (search rules) c.loop-unit.invariant

pub returns-then-is_empty : goal.returns-then-is_empty
returns-then-is_empty c = are_equal c.loop-unit.name.now c.loop-unit.other.now _ (nil_from_length c.loop-unit.name.now c.in_default.ensures.cases) (nil_from_length c.loop-unit.other.now (search rules)) c.loop-unit.invariant

pub returns-else-is_empty : goal.returns-else-is_empty
returns-else-is_empty c = is_shorter c.loop-unit.name.now c.loop-unit.other.now _ (nil_from_length c.loop-unit.name.now c.in_default.ensures.cases) (search rules) c.loop-unit.invariant
