use Rattle.cc_members.specs.Named.{side}
use Rattle.cc_members.proofs.NamedPieces.{named_joined}
use Rattle.cc_members.proofs.named.compare_named.Goals as goal

pub returns : goal.returns
unfolding side
returns c =
    let names = c.args.names.now in
    rw (← named_joined names.ids.now names.classes.now names.listings.now.members c.args.one, ← named_joined names.ids.now names.classes.now names.listings.now.members c.args.other) c.compare.ensures
