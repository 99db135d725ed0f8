use Rattle.std.proofs.Common.{get_or, sym, ◌∙◌, arith}
use Rattle.std.proofs.lemmas.List.Elements.{Contains-get_or}
use Rattle.cc_owners.specs.Beyond.{IsUndefined}
use Rattle.cc_owners.proofs.Inheriting.{numbers_within, undefined_if, defined_unless, some_undefined, none_if, some_if}
use Rattle.cc_owners.proofs.Lists.{number_at, as_many, none_yet, none_more, none_taken}
use Rattle.cc_owners.proofs.beyond.first_beyond.Goals as goal

pub at-requires : goal.at-requires
at-requires c =
    let linked = c.args.linked.now in
    let a = c.requires.ancestors.1 in
    let within = numbers_within linked.names.now a.above c.args.classes.now a.numbers (get_or c.args.classes.now c.loop-place.place 0) (Contains-get_or c.args.classes.now c.loop-place.place 0 c.loop-place-test.true) in
    omega (arith, within, c.requires.known.outlines.all)

pub loop-place-init : goal.loop-place-init
loop-place-init c = λ order are. none_yet (IsUndefined c.args.linked.now.ids.now) order

pub returns-then-is_none-clause-beyond : goal.returns-then-is_none-clause-beyond
returns-then-is_none-clause-beyond c = λ order are.
    let linked = c.args.linked.now in
    let at = number_at linked.names.now order c.args.classes.now c.loop-place.place 0 are c.loop-place-test.true in
    let outline = c.requires.known.outlines.each (get_or c.args.classes.now c.loop-place.place 0) at.0 c.at.result.now at.2 c.at.ensures.get in
    record { name = at.0; there = at.1; before = c.loop-place.invariant order are; undefined = undefined_if linked.ids.now at.0 (sym outline.definition ∙ none_if c.at.result.now.definition c.if-is_none.ensures) }

pub loop-place-preserved : goal.loop-place-preserved
loop-place-preserved c = λ order are.
    let linked = c.args.linked.now in
    let at = number_at linked.names.now order c.args.classes.now c.loop-place.place 0 are c.loop-place-test.true in
    let outline = c.requires.known.outlines.each (get_or c.args.classes.now c.loop-place.place 0) at.0 c.at.result.now at.2 c.at.ensures.get in
    none_more (IsUndefined linked.ids.now) order c.loop-place.place at.0 at.1 (c.loop-place.invariant order are) (defined_unless linked.ids.now at.0 c.at.result.now.definition outline.definition (some_if c.at.result.now.definition c.if-is_none.ensures))

pub unreachable-requires : goal.unreachable-requires
unreachable-requires c =
    let linked = c.args.linked.now in
    let a = c.requires.ancestors.1 in
    let many = as_many linked.names.now a.above c.args.classes.now a.numbers in
    some_undefined linked.ids.now linked.classes.now c.requires.known.sound a.name a.above a.ancestry
    (none_taken (IsUndefined linked.ids.now) a.above c.loop-place.place (omega (arith, many, c.loop-place-test.false)) (c.loop-place.invariant a.above a.numbers))
