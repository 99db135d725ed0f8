use Rattle.cc_names.proofs.MemberPieces.{field_named}
use Rattle.cc_names.proofs.members.compare_fields.Goals as goal

pub returns : goal.returns
returns c =
    let ids = c.args.ids.now in
    rw (← field_named ids c.args.one, ← field_named ids c.args.other) c.compare.ensures
