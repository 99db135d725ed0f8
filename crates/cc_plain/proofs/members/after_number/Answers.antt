use Rattle.cc_plain.proofs.members.after_number.Goals as goal

pub returns-then-found-wanted : goal.returns-then-found-wanted
returns-then-found-wanted c next number =
    c.if-found-wanted.true (c.one_uleb.ensures c.args.file.now c.args.at c.in_ok-found.found c.args.wanted c.in_ok-found.next next c.in_ok-found.ensures number).0
