use Rattle.std.proofs.Common.{sym, subst}
use Rattle.std.specs.Prelude.{Contains}
use Rattle.cc_meaning.specs.BuiltIn.{system_name}
use Rattle.cc_members.proofs.Defined.{system_is_class}
use Rattle.cc_members.proofs.tables.Tables.out_field.Goals as goal

pub unreachable-requires : goal.unreachable-requires
unreachable-requires c =
    let names = c.args.self.now.names.classes.now in
    c.in-None.ensures (subst (Contains names) (sym c.system.ensures) ((c.requires.names.are system_name).1 (system_is_class c.args.self.now.names.ids.now)))
