use Rattle.std.proofs.Common.{◌≡◌, None, sym, ◌∙◌, arith}
use Rattle.std.specs.List.{flat_map}
use Rattle.std.proofs.lemmas.Grind.{common_steps}
use Rattle.cc_meaning_program.specs.Named.{type_name}
use Rattle.cc_program.specs.Matching.{without}
use Rattle.cc_program.proofs.Matches.{next_type, no_type}
use Rattle.cc_program.proofs.matching.behind_types.Goals as goal

pub loop-row-preserved : goal.loop-row-preserved
loop-row-preserved c =
    c.loop-row.invariant
    ∙ next_type (type_name c.args.ids.now) c.args.types.now c.loop-row.row-index _ c.loop-row.rest.now c.in_ok-rest.rest.now c.loop-row-test.true (sym c.in_ok-rest.ensures)

pub returns-in_err-rest : goal.returns-in_err-rest
returns-in_err-rest c =
    let none : without c.args.text.now (flat_map (type_name c.args.ids.now) c.args.types.now) ≡ None =
    c.loop-row.invariant ∙ no_type (type_name c.args.ids.now) c.args.types.now c.loop-row.row-index _ c.loop-row.rest.now c.loop-row-test.true (sym c.in_err-rest.ensures) in
    grind (arith, common_steps)
