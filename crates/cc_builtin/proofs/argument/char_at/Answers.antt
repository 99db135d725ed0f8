use Rattle.std.proofs.Common.{◌≡◌, Some, None, w32, ◌∙◌}
use mir.Val.{to_z, of_z}
use Rattle.std.proofs.lemmas.Int.{to_z-of_z}
use Rattle.cc_meaning_builtin.specs.Calls.{unit_at}
use Rattle.cc_builtin.proofs.Ending.{unit_ends, index_ends, no_text_ends}
use Rattle.cc_builtin.proofs.argument.char_at.Goals as goal

pub returns-in_default-clause-ok : goal.returns-in_default-clause-ok
returns-in_default-clause-ok c = no_text_ends c.args.id _ c.args.world.now _ _ c.in_default.ensures

pub returns-in-Some-unit-clause-ok : goal.returns-in-Some-unit-clause-ok
returns-in-Some-unit-clause-ok c =
    let index : to_z w32 (of_z w32 c.args.index) ≡ c.args.index = to_z-of_z w32 c.args.index c.ranges.index in
    let some : Some c.in-Some-unit.unit ≡ unit_at c.in-Some.units.now c.args.index = rw index at c.in-Some-unit.ensures in
    unit_ends c.args.program.now c.args.id c.args.index c.args.world.now c.in-Some.units.now c.in-Some-unit.unit _ c.in-Some.ensures some (to_z-of_z w32 c.from.result (record { sfits = c.from.type_inv }) ∙ c.from.ensures)

pub returns-in-None-clause-ok : goal.returns-in-None-clause-ok
returns-in-None-clause-ok c =
    let index : to_z w32 (of_z w32 c.args.index) ≡ c.args.index = to_z-of_z w32 c.args.index c.ranges.index in
    let none : None ≡ unit_at c.in-Some.units.now c.args.index = rw index at c.in-None.ensures in
    index_ends c.throw_string_index.result c.args.program.now c.args.id c.args.index c.args.world.now _ c.in-Some.units.now c.in-Some.ensures none c.throw_string_index.ensures.ok
