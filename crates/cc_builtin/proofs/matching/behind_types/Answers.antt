use Rattle.std.proofs.Common.{◌≡◌, None, sym, ◌∙◌, arith}
use Rattle.std.specs.List.{flat_map}
use Rattle.std.proofs.lemmas.Grind.{common_steps}
use Rattle.cc_meaning.specs.Names.{descriptor}
use Rattle.cc_units.specs.Matching.{without}
use Rattle.cc_units.proofs.Matches.{next_piece, no_piece}
use Rattle.cc_builtin.proofs.matching.behind_types.Goals as goal

pub loop-ty-preserved : goal.loop-ty-preserved
loop-ty-preserved c =
    c.loop-ty.invariant
    ∙ next_piece (descriptor c.args.program.now) c.args.types.now c.loop-ty.ty-index _ c.loop-ty.rest.now c.in_ok-rest.rest.now c.loop-ty-test.true (sym c.in_ok-rest.ensures)

pub returns-in_err-rest : goal.returns-in_err-rest
returns-in_err-rest c =
    let none : without c.args.text.now (flat_map (descriptor c.args.program.now) c.args.types.now) ≡ None =
    c.loop-ty.invariant ∙ no_piece (descriptor c.args.program.now) c.args.types.now c.loop-ty.ty-index _ c.loop-ty.rest.now c.loop-ty-test.true (sym c.in_err-rest.ensures) in
    grind (arith, common_steps)
