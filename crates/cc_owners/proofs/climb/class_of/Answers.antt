use Rattle.cc_meaning_program.specs.ClassNames.{listed}
use Rattle.cc_meaning_program.specs.Named.{type_name}
use Rattle.cc_owners.proofs.climb.class_of.Goals as goal

pub unreachable-requires : goal.unreachable-requires
unreachable-requires c =
    let away = rw c.type_name.ensures at c.in-None.ensures in
    away ((c.requires.known.names.are (type_name c.args.linked.now.ids.now c.args.ty)).1 (listed c.requires.ty.there c.requires.ty.sorted))
