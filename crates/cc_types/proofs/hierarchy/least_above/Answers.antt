use Rattle.std.proofs.Common.{◌∙◌}
use Rattle.cc_types.proofs.Walks.{raised_level, raised_least}
use Rattle.cc_types.proofs.hierarchy.least_above.Goals as goal

pub meet-requires-clause-level : goal.meet-requires-clause-level
meet-requires-clause-level c =
    let tree = c.law_tree.ensures c.args.program.now c.requires.hierarchy in
    let orders = c.law_types.ensures c.args.program.now c.requires.hierarchy in
    let leasts = c.law_least_type.ensures c.args.program.now c.requires.hierarchy in
    raised_level c.args.program.now tree orders leasts c.args.a c.args.b c.lift-left.result c.lift-right.result c.race.result.0 c.race.result.1
    (record { rises_left = c.lift-left.ensures.rises; rises_right = c.lift-right.ensures.rises; steps_left = c.lift-left.ensures.steps; steps_right = c.lift-right.ensures.steps; in_step = c.race.ensures.in_step; at_end = c.race.ensures.at_end })

pub returns : goal.returns
returns c =
    let tree = c.law_tree.ensures c.args.program.now c.requires.hierarchy in
    let orders = c.law_types.ensures c.args.program.now c.requires.hierarchy in
    let leasts = c.law_least_type.ensures c.args.program.now c.requires.hierarchy in
    c.meet.ensures ∙ raised_least c.args.program.now tree orders leasts c.args.a c.args.b c.lift-left.result c.lift-right.result c.race.result.0 c.race.result.1
    (record { rises_left = c.lift-left.ensures.rises; rises_right = c.lift-right.ensures.rises; steps_left = c.lift-left.ensures.steps; steps_right = c.lift-right.ensures.steps; in_step = c.race.ensures.in_step; at_end = c.race.ensures.at_end })
