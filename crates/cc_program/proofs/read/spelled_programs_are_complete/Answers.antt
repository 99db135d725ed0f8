use Rattle.cc_program.proofs.read.spelled_programs_are_complete.Goals as goal

pub returns : goal.returns
returns c = λ file asked program spelled.
    c.programs_are_complete.ensures spelled.ids spelled.classes asked program
    (c.spelled_tables_fit.ensures file spelled.ids spelled.tables)
    (c.spelled_classes_fit.ensures file spelled.ids spelled.classes spelled.tables spelled.members)
    spelled.sound
    (c.spelled_parts_are_bounded.ensures file spelled.ids spelled.classes spelled.tables spelled.members)
    spelled.is
