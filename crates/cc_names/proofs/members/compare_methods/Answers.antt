use Rattle.cc_names.proofs.MemberPieces.{method_named}
use Rattle.cc_names.proofs.members.compare_methods.Goals as goal

pub returns : goal.returns
returns c =
    let ids = c.args.ids.now in
    rw (← method_named ids c.args.one, ← method_named ids c.args.other) c.compare.ensures
