use Rattle.std.proofs.Common.{◌≡◌, string_bytes, map, refl}
use Rattle.cc_command_check.specs.Checks.{Outside}
use Rattle.cc_command_check.proofs.Statuses.{checks, no_plan}
use Rattle.cc_command_check.proofs.command.check_words.Goals as goal

pub returns-in-Some-clause-checks : goal.returns-in-Some-clause-checks
returns-in-Some-clause-checks g c =
    let old : Outside = record { known = g.S.Shelf.known c.args.shelf.now; counts = g.S.Shelf.counts c.args.shelf.now; out = g.O.Sink.pipe c.args.out.now; notes = g.N.Sink.pipe c.args.notes.now } in
    let new : Outside = record { known = g.S.Shelf.known c.planned.new.shelf; counts = g.S.Shelf.counts c.planned.new.shelf; out = g.O.Sink.pipe c.carry_out.new.out; notes = g.N.Sink.pipe c.carry_out.new.notes } in
    checks c.law_one_call.ensures c.one_checked.ensures (map string_bytes c.args.words.now) old c.carry_out.result new (c.carry_out.new.out ≡ c.args.out.now) (c.in-Some.plan, c.in-Some.ensures.plan, c.carry_out.ensures.ends, c.carry_out.ensures.alone)

pub returns-in-None-clause-checks : goal.returns-in-None-clause-checks
returns-in-None-clause-checks g c =
    let old : Outside = record { known = g.S.Shelf.known c.args.shelf.now; counts = g.S.Shelf.counts c.args.shelf.now; out = g.O.Sink.pipe c.args.out.now; notes = g.N.Sink.pipe c.args.notes.now } in
    let new : Outside = record { known = g.S.Shelf.known c.planned.new.shelf; counts = g.S.Shelf.counts c.planned.new.shelf; out = g.O.Sink.pipe c.args.out.now; notes = g.N.Sink.pipe c.args.notes.now } in
    no_plan c.law_one_call.ensures c.one_checked.ensures (map string_bytes c.args.words.now) old new refl refl (c.args.out.now ≡ c.args.out.now) refl
