use Rattle.std.proofs.Common.{map, sym, ap, ◌∙◌}
use Rattle.std.proofs.lemmas.List.{take_all}
use Rattle.cc_meaning_program.specs.Plans.{field_plan_name}
use Rattle.cc_members.specs.declared.planned_fields.FieldCandidate.{FieldCandidate}
use Rattle.cc_members.specs.Named.{named_text}
use Rattle.cc_members.proofs.Renamed.{parts_in_order, parts_first}
use Rattle.cc_members.proofs.tables.Tables.sorted_fields.Goals as goal

pub returns-clause-order : goal.returns-clause-order
returns-clause-order c =
    let tables = c.args.self.now in
    let plan_name = field_plan_name tables.names.ids.now tables.classes.now tables.names.classes.now in
    let name = λ (candidate : FieldCandidate). named_text tables.names.ids.now tables.names.classes.now tables.names.listings.now.members candidate.named in
    let part = λ (candidate : FieldCandidate). candidate.plan in
    let given = c.in_ok-candidates.candidates in
    let sorted = c.in_ok-sorted.sorted in
    let are = c.in_ok-candidates.ensures in
    let whole = c.loop-candidate.invariant ∙ ap (map part) (take_all c.loop-candidate.candidate-index _ c.loop-candidate-test.false ∙ c.as_slice-candidate-items.ensures) in
    let moved = parts_in_order part name plan_name given sorted are.named c.in_ok-sorted.ensures.order in
    rw (whole, sym are.are) moved

pub returns-clause-first : goal.returns-clause-first
returns-clause-first c =
    let tables = c.args.self.now in
    let plan_name = field_plan_name tables.names.ids.now tables.classes.now tables.names.classes.now in
    let name = λ (candidate : FieldCandidate). named_text tables.names.ids.now tables.names.classes.now tables.names.listings.now.members candidate.named in
    let part = λ (candidate : FieldCandidate). candidate.plan in
    let given = c.in_ok-candidates.candidates in
    let sorted = c.in_ok-sorted.sorted in
    let are = c.in_ok-candidates.ensures in
    let whole = c.loop-candidate.invariant ∙ ap (map part) (take_all c.loop-candidate.candidate-index _ c.loop-candidate-test.false ∙ c.as_slice-candidate-items.ensures) in
    let moved = parts_first part name plan_name given sorted are.named c.in_ok-sorted.ensures.order c.in_ok-sorted.ensures.first in
    rw (whole, sym are.are) moved
