use Rattle.cc_meaning_program.specs.Named.{type_name}
use Rattle.cc_hierarchy.proofs.Extending.{added_iff, unadded_iff}
use Rattle.cc_hierarchy.proofs.above.add_definition.Goals as goal

pub returns-in-None : goal.returns-in-None
returns-in-None c = unadded_iff c.args.ids.now (type_name c.args.ids.now c.args.ty) c.type_name.result.now c.args.above.now c.type_name.ensures c.in-None.ensures

pub returns-in_ok-push-in-Some : goal.returns-in_ok-push-in-Some
returns-in_ok-push-in-Some c =
    added_iff c.args.ids.now (type_name c.args.ids.now c.args.ty) c.type_name.result.now c.in-Some.number c.args.above.now c.push.new.self c.requires.distinct c.type_name.ensures c.in-Some.ensures c.in_ok-push-in-Some.ensures.ok
