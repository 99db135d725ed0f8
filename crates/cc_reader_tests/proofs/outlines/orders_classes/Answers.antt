use Rattle.cc_reader_tests.proofs.outlines.orders_classes.Goals as goal

pub from_the_top-requires-clause-ends : goal.from_the_top-requires-clause-ends
from_the_top-requires-clause-ends g c =
    c.classes_lead.ensures c.in_ok-ids.ids c.in_ok-names.names c.in_ok-made.made c.in_ok-made.ensures
    (λ name. c.classes_have_ancestries.ensures c.in_ok-ids.ids c.in_ok-classes.classes c.in_ok-judge_classes.ensures.sound name)
