use Rattle.std.proofs.Common.{sym}
use Rattle.cc_hierarchy.proofs.Extending.{interface_defines, interface_iff}
use Rattle.cc_hierarchy.proofs.superclasses.names_interface.Goals as goal

pub returns-in_default : goal.returns-in_default
returns-in_default c = (λ no. absurd cc, λ i. absurd (c.in_default.ensures i.number (interface_defines c.args.ids.now c.args.name.now i)))

pub returns-in-Some-get : goal.returns-in-Some-get
returns-in-Some-get c =
    interface_iff c.args.ids.now c.args.name.now c.in-Some.number c.in-Some-get.stated.now c.is_interface.result c.requires.distinct c.in-Some.ensures.defines (sym c.in-Some-get.ensures.value) c.is_interface.ensures
