use Rattle.std.proofs.Common.{ℕ}
use Rattle.cc_program.proofs.links.link_file.Goals as goal

pub link_methods-requires-clause-rows : goal.link_methods-requires-clause-rows
link_methods-requires-clause-rows c =
    (c.used_rows_are_there.ensures c.args.file.now.ids.now c.args.file.now.classes.now c.in_ok-uses.uses.methods c.in_ok-uses.uses.fields c.requires.sound
    (c.in_ok-uses.ensures c.args.file.now.classes.now c.requires.bodies)).of_methods

pub link_fields-requires-clause-rows : goal.link_fields-requires-clause-rows
link_fields-requires-clause-rows c =
    (c.used_rows_are_there.ensures c.args.file.now.ids.now c.args.file.now.classes.now c.in_ok-uses.uses.methods c.in_ok-uses.uses.fields c.requires.sound
    (c.in_ok-uses.ensures c.args.file.now.classes.now c.requires.bodies)).of_fields
