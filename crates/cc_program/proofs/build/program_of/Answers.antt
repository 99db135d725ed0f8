use Rattle.std.proofs.Common.{◌≡◌, Some, refl}
use Rattle.std.specs.Prelude.{slice_get}
use Rattle.std.specs.Option.{option_copied}
use Rattle.cc_program.proofs.Building.{as_many}
use Rattle.cc_program.proofs.MainClasses.{no_main_class}
use Rattle.cc_program.proofs.Whole.{is_program}
use Rattle.cc_program.proofs.build.program_of.Goals as goal

pub returns-in_default-clause-fault : goal.returns-in_default-clause-fault
returns-in_default-clause-fault c other = (refl, no_main_class c.args.ids.now c.args.raw.now c.requires.sound (option_copied c.args.asked) c.in_default.ensures)

pub classes-requires-clause-texts : goal.classes-requires-clause-texts
classes-requires-clause-texts c = as_many (slice_get c.in_ok-texts.texts) Some c.in_ok-linked.linked.links.texts c.args.ids.now.texts c.in_ok-linked.ensures.rows.text_numbers

pub returns-clause-program : goal.returns-clause-program
returns-clause-program c =
    is_program c.args.ids.now c.args.raw.now (option_copied c.args.asked) c.in_ok-names.names
    (record { classes = c.in_ok-classes.classes; methods = c.in_ok-methods.methods; fields = c.in_ok-fields.fields; texts = c.in_ok-texts.texts; main = c.in_ok-main.main })
    c.in_ok-linked.linked c.in-Some.main.definition c.in-Some.main.place c.requires.tables c.requires.sound c.descriptors_agree.ensures c.in_ok-names.ensures.names c.in_ok-texts.ensures.texts c.in_ok-linked.ensures c.in_ok-classes.ensures.names
    c.in_ok-fields.ensures.named c.in_ok-fields.ensures.each c.in_ok-methods.ensures.named c.in_ok-methods.ensures.each
    (c.in_ok-classes.ensures.each _ refl) c.in-Some.ensures.0 c.in-Some.ensures.1 c.in_ok-main.ensures
