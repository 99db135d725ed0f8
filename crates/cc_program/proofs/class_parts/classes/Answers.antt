use Rattle.cc_program.proofs.ClassesByName.{names_are, class_is}
use Rattle.cc_program.proofs.LayoutsByName.{heights}
use Rattle.cc_program.proofs.ValuesByName.{texts_are}
use Rattle.cc_program.proofs.class_parts.classes.Goals as goal

pub made-requires-clause-heights : goal.made-requires-clause-heights
made-requires-clause-heights c = heights c.args.parts.now.ids.now c.args.parts.now.names.now c.args.outlines c.requires.outlined c.args.parts.now.raw.now c.classes_have_ancestries.ensures c.requires.sound

pub made-requires-clause-texts : goal.made-requires-clause-texts
made-requires-clause-texts c = λ number outline there. texts_are c.args.parts.now.ids.now c.args.parts.now.raw.now c.args.parts.now.texts.now c.requires.members c.requires.texts outline.definition

pub returns-clause-names : goal.returns-clause-names
returns-clause-names c =
    let parts = c.args.parts.now in
    names_are parts.ids.now parts.raw.now parts.names.now c.args.outlines parts.plans.now parts.fields.now parts.methods.now parts.texts.now c.requires.outlined c.in_ok-classes.classes c.in_ok-classes.ensures

pub returns-clause-each : goal.returns-clause-each
returns-clause-each c = λ program is parts number class there.
    let known = c.args.parts.now in
    class_is known.ids.now known.raw.now known.names.now c.args.outlines known.plans.now known.fields.now known.methods.now known.texts.now c.requires.outlined c.in_ok-classes.classes c.in_ok-classes.ensures
    c.requires.planned.0 c.requires.tables c.requires.sound c.requires.named c.requires.planned.1 program is parts number class there
